-- What is read as a call has that call's text.
use Rattle.std.proofs.Common.{◌≡◌, ℕ, zero, suc, ◌≤◌, List, [], ◌∷◌, Option, Some, None, refl, ap, sym, ◌∙◌, arith, codes, subst}
use Rattle.std.specs.Option.{option_map}
use Rattle.std.specs.Fmt.{decimal}
use Rattle.std.proofs.lemmas.Fmt.{decimal_digit}
use Rattle.usb_pipe.specs.declared.call.CdcDeviceCall.{CdcDeviceCall}
use Rattle.usb_pipe.specs.declared.call.CdcDeviceCall.TheVariants as cdc
use Rattle.usb_pipe.specs.declared.call.HidDeviceCall.{HidDeviceCall}
use Rattle.usb_pipe.specs.declared.call.HidDeviceCall.TheVariants as hid
use Rattle.usb_pipe.specs.declared.call.MscDeviceCall.{MscDeviceCall}
use Rattle.usb_pipe.specs.declared.call.MscDeviceCall.TheVariants as msc
use Rattle.usb_pipe.specs.declared.call.MidiCall.{MidiCall}
use Rattle.usb_pipe.specs.declared.call.MidiCall.TheVariants as midi
use Rattle.usb_words.specs.Field.{one, bytes_word, number_word}
use Rattle.usb_words.proofs.Alone.{word_only, number_word_only}
use Rattle.line_rules.specs.declared.kinds.Class.{Class}
use Rattle.line_rules.specs.declared.kinds.Class.TheVariants as class
use Rattle.line_rules.specs.declared.kinds.CdcKind.{CdcKind}
use Rattle.line_rules.specs.declared.kinds.CdcKind.TheVariants as cdc_kind
use Rattle.line_rules.specs.declared.kinds.HidKind.{HidKind}
use Rattle.line_rules.specs.declared.kinds.HidKind.TheVariants as hid_kind
use Rattle.line_rules.specs.declared.kinds.MscKind.{MscKind}
use Rattle.line_rules.specs.declared.kinds.MscKind.TheVariants as msc_kind
use Rattle.line_rules.specs.declared.kinds.MidiKind.{MidiKind}
use Rattle.line_rules.specs.declared.kinds.MidiKind.TheVariants as midi_kind
use Rattle.line_rules.specs.Kinds.{cdc_kind_of, hid_kind_of, msc_kind_of, midi_kind_of}
use Rattle.line_rules.proofs.Names.{class_name, cdc_name, hid_name, msc_name, midi_name, cdc_kind_only, hid_kind_only, msc_kind_only, midi_kind_only}
use Rattle.device_line.specs.declared.call.DevCall.{DevCall}
use Rattle.device_line.specs.declared.call.DevCall.TheVariants.{Cdc, Hid, Msc, Midi}
use Rattle.call_text.specs.Call.{most_transfer, most_report, most_state, cdc_words, hid_words, msc_words, midi_words, call_words, IsCdcCall, IsHidCall, IsMidiCall, IsCall}
use Rattle.call_text.specs.Reading.{bare, flag, cdc_fields, hid_fields, msc_fields, midi_fields, cdc_call, hid_call, msc_call, midi_call, class_call}

map_only : {A B : Type 0} (f : A → B) (r : Option A) (value : B) → option_map f r ≡ Some value → (x : A) × (r ≡ Some x) × (f x ≡ value)
map_only f None value h = absurd (cc)
map_only f (Some x) value h = (x, refl, cc)

bare_only : {A : Type 0} (fields : List (List ℕ)) (this value : A) → bare fields this ≡ Some value → (fields ≡ []) × (this ≡ value)
bare_only [] this value h = (refl, cc)
bare_only (f ∷ fs) this value h = absurd (cc)

-- the words are those of the call, and its fields are in range
abbrev ReadsCdc : List (List ℕ) → CdcDeviceCall → Type 0
ReadsCdc words c = (codes "cdc" ∷ words ≡ cdc_words c) × IsCdcCall c

abbrev ReadsHid : List (List ℕ) → HidDeviceCall → Type 0
ReadsHid words c = (codes "hid" ∷ words ≡ hid_words c) × IsHidCall c

abbrev ReadsMsc : List (List ℕ) → MscDeviceCall → Type 0
ReadsMsc words c = codes "msc" ∷ words ≡ msc_words c

abbrev ReadsMidi : List (List ℕ) → MidiCall → Type 0
ReadsMidi words c = (codes "midi" ∷ words ≡ midi_words c) × IsMidiCall c

cdc_bare : (name : List ℕ) (fields : List (List ℕ)) (this c : CdcDeviceCall) → ReadsCdc (name ∷ []) this → bare fields this ≡ Some c → ReadsCdc (name ∷ fields) c
cdc_bare name fields this c r h =
    let b = bare_only fields this c h in
    subst (λ (fs : List (List ℕ)). ReadsCdc (name ∷ fs) c) (sym b.0) (subst (ReadsCdc (name ∷ [])) b.1 r)

hid_bare : (name : List ℕ) (fields : List (List ℕ)) (this c : HidDeviceCall) → ReadsHid (name ∷ []) this → bare fields this ≡ Some c → ReadsHid (name ∷ fields) c
hid_bare name fields this c r h =
    let b = bare_only fields this c h in
    subst (λ (fs : List (List ℕ)). ReadsHid (name ∷ fs) c) (sym b.0) (subst (ReadsHid (name ∷ [])) b.1 r)

msc_bare : (name : List ℕ) (fields : List (List ℕ)) (this c : MscDeviceCall) → ReadsMsc (name ∷ []) this → bare fields this ≡ Some c → ReadsMsc (name ∷ fields) c
msc_bare name fields this c r h =
    let b = bare_only fields this c h in
    subst (λ (fs : List (List ℕ)). ReadsMsc (name ∷ fs) c) (sym b.0) (subst (ReadsMsc (name ∷ [])) b.1 r)

cdc_fields_only : (k : CdcKind) (fields : List (List ℕ)) (c : CdcDeviceCall) → cdc_fields (Some k) fields ≡ Some c → ReadsCdc (cdc_name k ∷ fields) c
cdc_fields_only cdc_kind.Write fields c h =
    let m = map_only (λ bytes. cdc.Write (record { items = bytes })) (bytes_word 1 most_transfer (one fields)) c h in
    let t = word_only 1 1024 fields (one fields) m.0 refl m.1 in
    subst (ReadsCdc (codes "write" ∷ fields)) m.2 (ap (λ fs. codes "cdc" ∷ codes "write" ∷ fs) t.0, t.1)
cdc_fields_only cdc_kind.Read fields c h =
    let m = map_only (λ n. cdc.Read n) (number_word 1 most_transfer (one fields)) c h in
    let t = number_word_only 1 1024 fields (one fields) m.0 (omega arith) refl m.1 in
    subst (ReadsCdc (codes "read" ∷ fields)) m.2 (ap (λ fs. codes "cdc" ∷ codes "read" ∷ fs) t.0, (t.1, t.2))
cdc_fields_only cdc_kind.Flush fields c h = cdc_bare (codes "flush") fields cdc.Flush c (refl, tt) h
cdc_fields_only cdc_kind.Avail fields c h = cdc_bare (codes "avail") fields cdc.Avail c (refl, tt) h
cdc_fields_only cdc_kind.Line fields c h = cdc_bare (codes "line") fields cdc.Line c (refl, tt) h
cdc_fields_only cdc_kind.Notify fields c h =
    let m = map_only (λ n. cdc.Notify n) (number_word 0 most_state (one fields)) c h in
    let t = number_word_only 0 65535 fields (one fields) m.0 (omega arith) refl m.1 in
    subst (ReadsCdc (codes "notify" ∷ fields)) m.2 (ap (λ fs. codes "cdc" ∷ codes "notify" ∷ fs) t.0, t.2)

hid_fields_only : (k : HidKind) (fields : List (List ℕ)) (c : HidDeviceCall) → hid_fields (Some k) fields ≡ Some c → ReadsHid (hid_name k ∷ fields) c
hid_fields_only hid_kind.Report fields c h =
    let m = map_only (λ bytes. hid.Report (record { items = bytes })) (bytes_word 1 most_report (one fields)) c h in
    let t = word_only 1 64 fields (one fields) m.0 refl m.1 in
    subst (ReadsHid (codes "report" ∷ fields)) m.2 (ap (λ fs. codes "hid" ∷ codes "report" ∷ fs) t.0, t.1)
hid_fields_only hid_kind.Take fields c h = hid_bare (codes "take") fields hid.Take c (refl, tt) h
hid_fields_only hid_kind.Set fields c h = hid_bare (codes "set") fields hid.Set c (refl, tt) h
hid_fields_only hid_kind.Idle fields c h = hid_bare (codes "idle") fields hid.Idle c (refl, tt) h

protect_only : (n : ℕ) → n ≤ 1 → codes "msc" ∷ codes "protect" ∷ decimal n ∷ [] ≡ msc_words (msc.Protect (flag n))
protect_only zero h = ap (λ d. codes "msc" ∷ codes "protect" ∷ d ∷ []) (decimal_digit 0 (omega arith))
protect_only (suc zero) h = ap (λ d. codes "msc" ∷ codes "protect" ∷ d ∷ []) (decimal_digit 1 (omega arith))
protect_only (suc (suc n)) h = absurd (omega arith)

msc_fields_only : (k : MscKind) (fields : List (List ℕ)) (c : MscDeviceCall) → msc_fields (Some k) fields ≡ Some c → ReadsMsc (msc_name k ∷ fields) c
msc_fields_only msc_kind.Eject fields c h = msc_bare (codes "eject") fields msc.Eject c refl h
msc_fields_only msc_kind.Insert fields c h = msc_bare (codes "insert") fields msc.Insert c refl h
msc_fields_only msc_kind.Protect fields c h =
    let m = map_only (λ n. msc.Protect (flag n)) (number_word 0 1 (one fields)) c h in
    let t = number_word_only 0 1 fields (one fields) m.0 (omega arith) refl m.1 in
    subst (ReadsMsc (codes "protect" ∷ fields)) m.2 (ap (λ fs. codes "msc" ∷ codes "protect" ∷ fs) t.0 ∙ protect_only m.0 t.2)

midi_fields_only : (k : MidiKind) (fields : List (List ℕ)) (c : MidiCall) → midi_fields (Some k) fields ≡ Some c → ReadsMidi (midi_name k ∷ fields) c
midi_fields_only midi_kind.Send fields c h =
    let m = map_only (λ bytes. midi.Send (record { items = bytes })) (bytes_word 1 most_transfer (one fields)) c h in
    let t = word_only 1 1024 fields (one fields) m.0 refl m.1 in
    subst (ReadsMidi (codes "send" ∷ fields)) m.2 (ap (λ fs. codes "midi" ∷ codes "send" ∷ fs) t.0, t.1)
midi_fields_only midi_kind.Recv fields c h =
    let m = map_only (λ n. midi.Recv n) (number_word 1 most_transfer (one fields)) c h in
    let t = number_word_only 1 1024 fields (one fields) m.0 (omega arith) refl m.1 in
    subst (ReadsMidi (codes "recv" ∷ fields)) m.2 (ap (λ fs. codes "midi" ∷ codes "recv" ∷ fs) t.0, (t.1, t.2))
midi_fields_only midi_kind.Bytes fields c h =
    let m = map_only (λ n. midi.Bytes n) (number_word 1 most_transfer (one fields)) c h in
    let t = number_word_only 1 1024 fields (one fields) m.0 (omega arith) refl m.1 in
    subst (ReadsMidi (codes "bytes" ∷ fields)) m.2 (ap (λ fs. codes "midi" ∷ codes "bytes" ∷ fs) t.0, (t.1, t.2))

cdc_named_only : (name : List ℕ) (k : Option CdcKind) (fields : List (List ℕ)) (c : CdcDeviceCall) → cdc_kind_of name ≡ k → cdc_fields k fields ≡ Some c → ReadsCdc (name ∷ fields) c
cdc_named_only name None fields c e h = absurd (cc)
cdc_named_only name (Some k) fields c e h = subst (λ (n : List ℕ). ReadsCdc (n ∷ fields) c) (sym (cdc_kind_only name k e)) (cdc_fields_only k fields c h)

hid_named_only : (name : List ℕ) (k : Option HidKind) (fields : List (List ℕ)) (c : HidDeviceCall) → hid_kind_of name ≡ k → hid_fields k fields ≡ Some c → ReadsHid (name ∷ fields) c
hid_named_only name None fields c e h = absurd (cc)
hid_named_only name (Some k) fields c e h = subst (λ (n : List ℕ). ReadsHid (n ∷ fields) c) (sym (hid_kind_only name k e)) (hid_fields_only k fields c h)

msc_named_only : (name : List ℕ) (k : Option MscKind) (fields : List (List ℕ)) (c : MscDeviceCall) → msc_kind_of name ≡ k → msc_fields k fields ≡ Some c → ReadsMsc (name ∷ fields) c
msc_named_only name None fields c e h = absurd (cc)
msc_named_only name (Some k) fields c e h = subst (λ (n : List ℕ). ReadsMsc (n ∷ fields) c) (sym (msc_kind_only name k e)) (msc_fields_only k fields c h)

midi_named_only : (name : List ℕ) (k : Option MidiKind) (fields : List (List ℕ)) (c : MidiCall) → midi_kind_of name ≡ k → midi_fields k fields ≡ Some c → ReadsMidi (name ∷ fields) c
midi_named_only name None fields c e h = absurd (cc)
midi_named_only name (Some k) fields c e h = subst (λ (n : List ℕ). ReadsMidi (n ∷ fields) c) (sym (midi_kind_only name k e)) (midi_fields_only k fields c h)

cdc_only : (words : List (List ℕ)) (c : CdcDeviceCall) → cdc_call words ≡ Some c → ReadsCdc words c
cdc_only [] c h = absurd (cc)
cdc_only (name ∷ fields) c h = cdc_named_only name (cdc_kind_of name) fields c refl h

hid_only : (words : List (List ℕ)) (c : HidDeviceCall) → hid_call words ≡ Some c → ReadsHid words c
hid_only [] c h = absurd (cc)
hid_only (name ∷ fields) c h = hid_named_only name (hid_kind_of name) fields c refl h

msc_only : (words : List (List ℕ)) (c : MscDeviceCall) → msc_call words ≡ Some c → ReadsMsc words c
msc_only [] c h = absurd (cc)
msc_only (name ∷ fields) c h = msc_named_only name (msc_kind_of name) fields c refl h

midi_only : (words : List (List ℕ)) (c : MidiCall) → midi_call words ≡ Some c → ReadsMidi words c
midi_only [] c h = absurd (cc)
midi_only (name ∷ fields) c h = midi_named_only name (midi_kind_of name) fields c refl h

abbrev ReadsCall : List (List ℕ) → DevCall → Type 0
ReadsCall words call = (words ≡ call_words call) × IsCall call

pub class_call_only : (c : Class) (words : List (List ℕ)) (call : DevCall) → class_call c words ≡ Some call → (class_name c ∷ words ≡ call_words call) × IsCall call
class_call_only class.Cdc words call h = let m = map_only Cdc (cdc_call words) call h in subst (ReadsCall (codes "cdc" ∷ words)) m.2 (cdc_only words m.0 m.1)
class_call_only class.Hid words call h = let m = map_only Hid (hid_call words) call h in subst (ReadsCall (codes "hid" ∷ words)) m.2 (hid_only words m.0 m.1)
class_call_only class.Msc words call h = let m = map_only Msc (msc_call words) call h in subst (ReadsCall (codes "msc" ∷ words)) m.2 (msc_only words m.0 m.1, tt)
class_call_only class.Midi words call h = let m = map_only Midi (midi_call words) call h in subst (ReadsCall (codes "midi" ∷ words)) m.2 (midi_only words m.0 m.1)
