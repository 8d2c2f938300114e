-- Others don't reach an owner: what its part leaves out, and what its machine keeps of another class's transfer.
use Rattle.std.proofs.Common.{◌≡◌, ◌≢◌, ℕ, zero, suc, ◌+◌, List, [], ◌∷◌, ◌++◌, Bool, true, false, ◌==◌, ◌||◌, ◌&&◌, refl, ap, sym, ◌∙◌, arith, subst}
use Rattle.std.specs.Prelude.{cond, filter, if◌then◌else◌}
use Rattle.std.proofs.lemmas.Bool.Decides.{nat_tests}
use Rattle.usb_packet.specs.declared.bus.Owner.{Owner}
use Rattle.usb_packet.specs.declared.bus.Owner.TheVariants.{Core, Cdc, Hid, Msc, Midi}
use Rattle.usb_packet.specs.declared.bus.Toggle.{Toggle}
use Rattle.usb_packet.specs.declared.bus.BusEvent.{BusEvent}
use Rattle.usb_packet.specs.declared.bus.BusEvent.TheVariants as event
use Rattle.usb_packet.specs.declared.setup.Setup.{Setup}
use Rattle.usb_descriptor.specs.Set.{Set, same_owner, owner_of_endpoint}
use Rattle.usb_control.specs.Table.{owner_of}
use Rattle.device_line.specs.declared.line.DevLine.{DevLine}
use Rattle.device_line.specs.declared.line.DevLine.TheVariants.{Bus, Irq, Task, Call}
use Rattle.device_machine.specs.Bus.{Bus as Endpoint0, hears, hears_packet, serves}
use Rattle.device_owners.specs.Knows.{knows_own}
use Rattle.device_owners.specs.Device.{World, Machinery, Device, after_bus, taken_up, foreign}
use Rattle.device_owners.specs.Lines.{call_owner, own, part, sees, sees_packet, state_after, line_answer, last_owner, control_owner, packet_owner, event_owner, line_owner, own_answer, whole_answer}
use Rattle.device_owners.specs.Isolation.{Isolates}
use Rattle.device_laws.specs.Others.{IsPacketOfOther, IsEventOfOther, IsOfOther, PartsAreWhole, EqualPartsAnswerAlike, OthersDontReach, ForeignKeepsNothing}

-- Parts.

left_out : (p : DevLine → Bool) (before behind : List DevLine) (line : DevLine) → p line ≡ false → filter p (before ++ line ∷ behind) ≡ filter p (before ++ behind)
left_out p [] behind line e = rw e refl
left_out p (x ∷ xs) behind line e = ap (λ t. cond (p x) (x ∷ t) t) (left_out p xs behind line e)

joined : (b : Bool) (x : DevLine) (front rest : List DevLine) → cond b (x ∷ (front ++ rest)) (front ++ rest) ≡ cond b (x ∷ front) front ++ rest
joined true x front rest = refl
joined false x front rest = refl

kept_in : (p : DevLine → Bool) (before behind : List DevLine) (line : DevLine) → p line ≡ true → filter p (before ++ line ∷ behind) ≡ filter p before ++ line ∷ filter p behind
kept_in p [] behind line e = rw e refl
kept_in p (x ∷ xs) behind line e =
    ap (λ t. cond (p x) (x ∷ t) t) (kept_in p xs behind line e) ∙ joined (p x) x (filter p xs) (line ∷ filter p behind)

not_zero : (n : ℕ) → n ≢ 0 → (n == 0) ≡ false
not_zero zero h = absurd (h refl)
not_zero (suc n) h = grind (arith, nat_tests)

differs : (o x : Owner) → x ≢ o → same_owner o x ≡ false
differs Core Core h = absurd (h refl)
differs Cdc Cdc h = absurd (h refl)
differs Hid Hid h = absurd (h refl)
differs Msc Msc h = absurd (h refl)
differs Midi Midi h = absurd (h refl)
differs a b h = refl

itself : (o : Owner) → same_owner o o ≡ true
itself Core = refl
itself Cdc = refl
itself Hid = refl
itself Msc = refl
itself Midi = refl

same : (o x : Owner) → x ≡ o → same_owner o x ≡ true
same o x e = ap (same_owner o) e ∙ itself o

packet_unseen : (set : Set) (o : Owner) (ep address : ℕ) → IsPacketOfOther set o ep address → sees_packet set o ep address ≡ false
packet_unseen set o ep address h =
    ap (λ b. b || same_owner o (owner_of_endpoint set.config address)) (not_zero ep h.0) ∙ differs o (owner_of_endpoint set.config address) h.1

unseen : (set : Set) (o : Owner) (line : DevLine) → IsOfOther set o line → sees set o line ≡ false
unseen set o (Bus event.Reset) h = absurd h
unseen set o (Bus (event.Setup addr bytes ok)) h = absurd h
unseen set o (Bus (event.Out addr ep toggle packet ok)) h = packet_unseen set o ep ep h
unseen set o (Bus (event.In addr ep ok)) h = packet_unseen set o ep (128 + ep) h
unseen set o Irq h = absurd h
unseen set o Task h = absurd h
unseen set o (Call call) h = differs o (call_owner call) h

either_seen : (zero_ : Bool) (o control other : Owner) → (if zero_ then control else other) ≡ o → (zero_ || same_owner o other) ≡ true
either_seen true o control other e = refl
either_seen false o control other e = same o other e

own_seen : {S : Type 0} (world : World S) (o : Owner) (before : List DevLine) (line : DevLine) → line_owner world before line ≡ o → sees world.set o line ≡ true
own_seen world o before (Bus event.Reset) e = refl
own_seen world o before (Bus (event.Setup addr bytes ok)) e = refl
own_seen world o before (Bus (event.Out addr ep toggle packet ok)) e =
    either_seen (ep == 0) o (control_owner world before) (owner_of_endpoint world.set.config ep) e
own_seen world o before (Bus (event.In addr ep ok)) e =
    either_seen (ep == 0) o (control_owner world before) (owner_of_endpoint world.set.config (128 + ep)) e
own_seen world o before Irq e = refl
own_seen world o before Task e = refl
own_seen world o before (Call call) e = same o (call_owner call) e

pub parts_are_whole : {S : Type 0} (world : World S) → PartsAreWhole world
parts_are_whole world = record {
  leaves = λ o before behind line h. left_out (sees world.set o) before behind line (unseen world.set o line h);
  keeps = λ o before behind line e. kept_in (sees world.set o) before behind line (own_seen world o before line e);
}

-- Equal parts.

same_control : {S : Type 0} (world : World S) → Isolates world → (o : Owner) (one other : List DevLine) → part world.set o one ≡ part world.set o other
    → control_owner world one ≡ control_owner world other
same_control world apart o one other e = sym (apart.control o one) ∙ ap (last_owner (own world o)) e ∙ apart.control o other

same_packet : {S : Type 0} (world : World S) (one other : List DevLine) (ep address : ℕ) → control_owner world one ≡ control_owner world other
    → packet_owner world one ep address ≡ packet_owner world other ep address
same_packet world one other ep address e = ap (λ c. if ep == 0 then c else owner_of_endpoint world.set.config address) e

same_line : {S : Type 0} (world : World S) (one other : List DevLine) (line : DevLine) → control_owner world one ≡ control_owner world other
    → line_owner world one line ≡ line_owner world other line
same_line world one other (Bus event.Reset) e = refl
same_line world one other (Bus (event.Setup addr bytes ok)) e = refl
same_line world one other (Bus (event.Out addr ep toggle packet ok)) e = same_packet world one other ep ep e
same_line world one other (Bus (event.In addr ep ok)) e = same_packet world one other ep (128 + ep) e
same_line world one other Irq e = refl
same_line world one other Task e = refl
same_line world one other (Call call) e = refl

answered_by : {S : Type 0} (world : World S) → Isolates world → (o : Owner) (before : List DevLine) (line : DevLine) → line_owner world before line ≡ o
    → whole_answer world before line ≡ own_answer world o before line
answered_by world apart o before line e = apart.answers before line ∙ ap (λ x. own_answer world x before line) e

pub equal_parts_answer : {S : Type 0} (world : World S) → Isolates world → EqualPartsAnswerAlike world
equal_parts_answer {S} world apart = record {
  owner = same_owner_of;
  answer = λ o one other line e is.
      answered_by world apart o one line is ∙ ap (λ p. line_answer (own world o) (state_after (own world o) p) line) e
      ∙ sym (answered_by world apart o other line (sym (same_owner_of o one other line e) ∙ is));
} where
  same_owner_of : (o : Owner) (one other : List DevLine) (line : DevLine) → part world.set o one ≡ part world.set o other
      → line_owner world one line ≡ line_owner world other line
  same_owner_of o one other line e = same_line world one other line (same_control world apart o one other e)

pub others_dont_reach : {S : Type 0} (world : World S) → Isolates world → OthersDontReach world
others_dont_reach world apart =
    let parts = parts_are_whole world in
    let equal = equal_parts_answer world apart in
    record {
      owner = λ o before behind other line h. equal.owner o (before ++ other ∷ behind) (before ++ behind) line (parts.leaves o before behind other h);
      answer = λ o before behind other line h is.
          sym (equal.answer o (before ++ behind) (before ++ other ∷ behind) line (sym (parts.leaves o before behind other h)) is);
    }

-- A transfer of another class.

unknown : {S : Type 0} (m : Machinery S) (d : Device S) (setup : Setup) → m.knows (owner_of m.world.set setup) ≡ false → taken_up m d setup ≡ record d { core = foreign d.core }
unknown m d setup e = rw e refl

stays : (b : Bool) (bus : Endpoint0) → (if b then bus else bus) ≡ bus
stays true bus = refl
stays false bus = refl

pub foreign_keeps_nothing : {S : Type 0} (world : World S) → ForeignKeepsNothing world
foreign_keeps_nothing {S} world = record {
  requests = λ o d one other h k. unknown (own world o) d one h ∙ sym (unknown (own world o) d other k);
  packets = λ o d setup h addr toggle packet ok.
      subst (λ (x : Device S). (after_bus x (event.Out addr 0 toggle packet ok)).core.bus ≡ x.core.bus) (sym (unknown (own world o) d setup h))
      (stays (hears_packet (foreign d.core).bus addr ok && serves (foreign d.core).bus 0) (foreign d.core).bus);
  tokens = λ o d setup h addr ok.
      subst (λ (x : Device S). (after_bus x (event.In addr 0 ok)).core.bus ≡ x.core.bus) (sym (unknown (own world o) d setup h))
      (stays (hears (foreign d.core).bus addr && (ok && serves (foreign d.core).bus 0)) (foreign d.core).bus);
}
