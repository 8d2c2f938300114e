-- What single accesses do, and what every step keeps.
use Rattle.std.proofs.Common.{◌≡◌, ◌≢◌, ℕ, zero, suc, ◌-◌, List, [], ◌∷◌, ◌++◌, length, Bool, true, false, Option, Some, None, inl, inr, refl, ap, sym, ◌∙◌, arith, length-set, append_assoc, append-nil}
use Rattle.std.specs.Prelude.{◌==◌, ◌&&◌, ◌||◌, not, nat_lt, map}
use Rattle.std.proofs.lemmas.Bool.{cases_Bool, true≢false, false≢true, ne_eqb}
use Rattle.usb_packet.specs.declared.bus.BusAnswer.{BusAnswer}
use Rattle.dwc2_regs.specs.declared.access.Access.{Access}
use Rattle.dwc2_regs.specs.declared.access.Profile.{Profile}
use Rattle.dwc2_regs.specs.declared.TheConstants.{GRSTCTL_RXFFLSH, GRSTCTL_TXFFLSH, GRSTCTL_TXFNUM, HCCHAR_CHDIS}
use Rattle.dwc2_regs.specs.Field.{field_of}
use Rattle.dwc2_regs.specs.Register.{Register, grstctl, gintsts, gintmsk, grxstsr, grxstsp, grxfsiz, dieptxf0, hptxfsiz, hcfg, haint, haintmsk, hprt, dcfg, dctl, dsts, diepmsk, doepmsk, daint, daintmsk, diepempmsk, dieptxf, hcchar, hcint, hcintmsk, hctsiz, diepctl, diepint, dieptsiz, dtxfsts, doepctl, doepint, doeptsiz, fifo}
use Rattle.dwc2_fifo.specs.Rx.{Entry}
use Rattle.dwc2_fifo.specs.Tx.{Begun, Tx, begun_in, with_word_in, bytes_with}
use Rattle.device_table.specs.Words.{flag, out_done, kind_of, number_of}
use Rattle.host_table.specs.State.{Table, Channel, Interrupts, channel_at, with_channel}
use Rattle.host_table.specs.Words.{is_periodic, is_nonperiodic}
use Rattle.host_table.specs.Read.{after_read, end_popped, entry_popped, received_all}
use Rattle.host_table.specs.Write.{after_write, packet_length, may_begin, word_pushed, word_pushed_to, word_written, channel_written, packet_removed_if, rx_flushed, tx_flushed, emptied_if}
use Rattle.host_table.specs.Bus.{Outcome, acked, naked, stalled, unanswered, wrong_pid, lands, disabled, sent_by, taker, outcome_of, after_outcome, after_some, after_answer, after_attach, after_detach}
use Rattle.host_table.specs.Bank.{Bank, begun, bank_read, bank_write}
use Rattle.host_table.specs.Laws.{IsOf}
use Rattle.host_table.specs.AccessLaws.{ReadsLeave, ReadsTake, with_rx, StatusStays, ControlActs, controlled, without_packets, CountsStay, after_accesses, all_moved, all_listed, AccessesAreListed}

-- Reads.

pub reads_leave : ReadsLeave
reads_leave grstctl t h = refl
reads_leave gintsts t h = refl
reads_leave gintmsk t h = refl
reads_leave grxstsr t h = refl
reads_leave grxstsp t h = absurd (true≢false h)
reads_leave grxfsiz t h = refl
reads_leave dieptxf0 t h = refl
reads_leave hptxfsiz t h = refl
reads_leave hcfg t h = refl
reads_leave haint t h = refl
reads_leave haintmsk t h = refl
reads_leave hprt t h = refl
reads_leave dcfg t h = refl
reads_leave dctl t h = refl
reads_leave dsts t h = refl
reads_leave diepmsk t h = refl
reads_leave doepmsk t h = refl
reads_leave daint t h = refl
reads_leave daintmsk t h = refl
reads_leave diepempmsk t h = refl
reads_leave (dieptxf x) t h = refl
reads_leave (hcchar x) t h = refl
reads_leave (hcint x) t h = refl
reads_leave (hcintmsk x) t h = refl
reads_leave (hctsiz x) t h = refl
reads_leave (diepctl x) t h = refl
reads_leave (diepint x) t h = refl
reads_leave (dieptsiz x) t h = refl
reads_leave (dtxfsts x) t h = refl
reads_leave (doepctl x) t h = refl
reads_leave (doepint x) t h = refl
reads_leave (doeptsiz x) t h = refl
reads_leave (fifo zero) t h = absurd (true≢false h)
reads_leave (fifo (suc x)) t h = refl

popped_data : (t : Table) (left : List ℕ) (entry : Entry) (entries : List Entry) → kind_of entry.status ≢ out_done
    → after_read (with_rx t left (entry ∷ entries)) grxstsp ≡ with_rx t entry.words entries
popped_data t left entry entries h = rw (ne_eqb (kind_of entry.status) out_done h) refl

popped_end : (t : Table) (left : List ℕ) (entry : Entry) (entries : List Entry) → kind_of entry.status ≡ out_done
    → after_read (with_rx t left (entry ∷ entries)) grxstsp
    ≡ (let new : Table = with_rx t entry.words entries in with_channel new (number_of entry.status) (received_all (channel_at new (number_of entry.status))))
popped_end t left entry entries e = rw e refl

pub reads_take : ReadsTake
reads_take t left entry entries word words = record {
  status = refl;
  content = λ e. popped_data t left entry entries e;
  end = λ e. popped_end t left entry entries e;
  no_status = refl;
  no_entry = refl;
  first_word = refl;
  words_behind = refl;
  no_word = refl;
  no_words = refl;
}

-- Writes.

pub status_stays : StatusStays
status_stays grstctl t word h = absurd (false≢true h)
status_stays gintsts t word h = absurd (false≢true h)
status_stays gintmsk t word h = absurd (false≢true h)
status_stays grxstsr t word h = refl
status_stays grxstsp t word h = refl
status_stays grxfsiz t word h = absurd (false≢true h)
status_stays dieptxf0 t word h = absurd (false≢true h)
status_stays hptxfsiz t word h = absurd (false≢true h)
status_stays hcfg t word h = absurd (false≢true h)
status_stays haint t word h = refl
status_stays haintmsk t word h = absurd (false≢true h)
status_stays hprt t word h = absurd (false≢true h)
status_stays dcfg t word h = absurd (false≢true h)
status_stays dctl t word h = absurd (false≢true h)
status_stays dsts t word h = refl
status_stays diepmsk t word h = absurd (false≢true h)
status_stays doepmsk t word h = absurd (false≢true h)
status_stays daint t word h = refl
status_stays daintmsk t word h = absurd (false≢true h)
status_stays diepempmsk t word h = absurd (false≢true h)
status_stays (dieptxf x) t word h = absurd (false≢true h)
status_stays (hcchar x) t word h = absurd (false≢true h)
status_stays (hcint x) t word h = absurd (false≢true h)
status_stays (hcintmsk x) t word h = absurd (false≢true h)
status_stays (hctsiz x) t word h = absurd (false≢true h)
status_stays (diepctl x) t word h = absurd (false≢true h)
status_stays (diepint x) t word h = absurd (false≢true h)
status_stays (dieptsiz x) t word h = absurd (false≢true h)
status_stays (dtxfsts x) t word h = refl
status_stays (doepctl x) t word h = absurd (false≢true h)
status_stays (doepint x) t word h = absurd (false≢true h)
status_stays (doeptsiz x) t word h = absurd (false≢true h)
status_stays (fifo x) t word h = absurd (false≢true h)

kept_on : (enabled : Bool) → ((enabled && not false) || false) ≡ enabled
kept_on true = refl
kept_on false = refl

put_on : (enabled : Bool) → ((enabled && not false) || true) ≡ true
put_on true = refl
put_on false = refl

put_off : (enabled : Bool) → ((enabled && not true) || false) ≡ false
put_off true = refl
put_off false = refl

put_on_again : (enabled : Bool) → ((enabled && not true) || true) ≡ true
put_on_again true = refl
put_on_again false = refl

pub control_acts : ControlActs
control_acts t x word =
    let on : Bool = (channel_at t x).enabled in
    record {
      neither = λ ena dis. rw (ena, dis) (ap (λ b. controlled t x word b) (kept_on on));
      enables = λ ena dis. rw (ena, dis) (ap (λ b. controlled t x word b) (put_on on));
      disables = λ ena dis. rw (ena, dis) (ap (λ b. controlled (without_packets t x) x word b) (put_off on));
      both = λ ena dis. rw (ena, dis) (ap (λ b. controlled (without_packets t x) x word b) (put_on_again on));
    }

-- What every step keeps.

-- the parts that IsOf speaks of are as many, and as deep
same_counts : (profile : Profile) (t new : Table) → IsOf profile t
    → length new.device.ins ≡ length t.device.ins → length new.device.outs ≡ length t.device.outs
    → length new.kept.dieptxfs ≡ length t.kept.dieptxfs → length new.channels ≡ length t.channels
    → new.rx.depth ≡ t.rx.depth → new.nonperiodic.depth ≡ t.nonperiodic.depth → new.periodic.depth ≡ t.periodic.depth → IsOf profile new
same_counts profile t new h ins outs sizes channels rx nonperiodic periodic = record {
  ins = ins ∙ h.ins;
  outs = outs ∙ h.outs;
  sizes = sizes ∙ h.sizes;
  channels = channels ∙ h.channels;
  rx = rx ∙ h.rx;
  nonperiodic = nonperiodic ∙ h.nonperiodic;
  periodic = periodic ∙ h.periodic;
}

-- one channel changes
set_channel : (profile : Profile) (t : Table) (x : ℕ) (channel : Channel) → IsOf profile t → IsOf profile (with_channel t x channel)
set_channel profile t x channel h = same_counts profile t (with_channel t x channel) h refl refl refl (length-set t.channels x channel) refl refl refl

removed_too : (profile : Profile) (removes : Bool) (t : Table) (x : ℕ) (channel : Channel) → IsOf profile t
    → IsOf profile (with_channel (packet_removed_if removes t x) x channel)
removed_too profile false t x channel h = set_channel profile t x channel h
removed_too profile true t x channel h =
    same_counts profile t (with_channel (packet_removed_if true t x) x channel) h refl refl refl (length-set t.channels x channel) refl refl refl

-- a word goes to a FIFO
taken_depth : (tx : Tx) (unfinished : Option Begun) (word : ℕ) → (with_word_in tx unfinished word).depth ≡ tx.depth
taken_depth tx None word = refl
taken_depth tx (Some begun) word = elim (cases_Bool (nat_lt (length (bytes_with begun word)) begun.length_wanted)) [
  | inl more ↦ rw more refl
  | inr whole ↦ rw whole refl
]

pushed_depth : (channel : Channel) (x word : ℕ) (tx : Tx) (unfinished : Option Begun) → (word_pushed_to channel x word tx unfinished).depth ≡ tx.depth
pushed_depth channel x word tx None = elim (cases_Bool (may_begin channel x tx)) [
  | inl may ↦ rw may (taken_depth (begun_in tx x (packet_length channel)) (Some (record { tag = x; length_wanted = packet_length channel; bytes = [] })) word)
  | inr may_not ↦ rw may_not refl
]
pushed_depth channel x word tx (Some begun) = elim (cases_Bool (begun.tag == x)) [
  | inl it ↦ rw it (taken_depth tx tx.unfinished word)
  | inr other ↦ rw other refl
]

window_counts : (profile : Profile) (t : Table) (x word : ℕ) (channel : Channel) → IsOf profile t → IsOf profile (word_written t x channel word)
window_counts profile t x word channel h = elim (cases_Bool (is_periodic channel)) [
  | inl periodic ↦ rw periodic (same_counts profile t (record t { periodic = word_pushed channel x word t.periodic }) h refl refl refl refl refl refl (pushed_depth channel x word t.periodic t.periodic.unfinished))
  | inr aperiodic ↦ rw aperiodic (elim (cases_Bool (is_nonperiodic channel)) [
    | inl nonperiodic ↦ rw nonperiodic (same_counts profile t (record t { nonperiodic = word_pushed channel x word t.nonperiodic }) h refl refl refl refl refl (pushed_depth channel x word t.nonperiodic t.nonperiodic.unfinished) refl)
    | inr neither ↦ rw neither h
  ])
]

emptied_depth : (named : Bool) (tx : Tx) → (emptied_if named tx).depth ≡ tx.depth
emptied_depth true tx = refl
emptied_depth false tx = refl

flushed_counts : (profile : Profile) (rx_too tx_too : Bool) (number : ℕ) (t : Table) → IsOf profile t → IsOf profile (tx_flushed (rx_flushed t rx_too) tx_too number)
flushed_counts profile false false number t h = h
flushed_counts profile true false number t h = same_counts profile t (rx_flushed t true) h refl refl refl refl refl refl refl
flushed_counts profile false true number t h =
    same_counts profile t (tx_flushed t true number) h refl refl refl refl refl
    (emptied_depth ((number == 0) || (number == 16)) t.nonperiodic) (emptied_depth ((number == 1) || (number == 16)) t.periodic)
flushed_counts profile true true number t h =
    same_counts profile t (tx_flushed (rx_flushed t true) true number) h refl refl refl refl refl
    (emptied_depth ((number == 0) || (number == 16)) t.nonperiodic) (emptied_depth ((number == 1) || (number == 16)) t.periodic)

write_counts : (register : Register) (profile : Profile) (t : Table) (word : ℕ) → IsOf profile t → IsOf profile (after_write t register word)
write_counts grstctl profile t word h =
    flushed_counts profile (flag word GRSTCTL_RXFFLSH) (flag word GRSTCTL_TXFFLSH) (field_of word GRSTCTL_TXFNUM) (record t { kept = record t.kept { grstctl = _ } })
    (same_counts profile t (record t { kept = record t.kept { grstctl = _ } }) h refl refl refl refl refl refl refl)
write_counts gintsts profile t word h = same_counts profile t (after_write t gintsts word) h refl refl refl refl refl refl refl
write_counts gintmsk profile t word h = same_counts profile t (after_write t gintmsk word) h refl refl refl refl refl refl refl
write_counts grxstsr profile t word h = h
write_counts grxstsp profile t word h = h
write_counts grxfsiz profile t word h = same_counts profile t (after_write t grxfsiz word) h refl refl refl refl refl refl refl
write_counts dieptxf0 profile t word h = same_counts profile t (after_write t dieptxf0 word) h refl refl refl refl refl refl refl
write_counts hptxfsiz profile t word h = same_counts profile t (after_write t hptxfsiz word) h refl refl refl refl refl refl refl
write_counts hcfg profile t word h = same_counts profile t (after_write t hcfg word) h refl refl refl refl refl refl refl
write_counts haint profile t word h = h
write_counts haintmsk profile t word h = same_counts profile t (after_write t haintmsk word) h refl refl refl refl refl refl refl
write_counts hprt profile t word h = same_counts profile t (after_write t hprt word) h refl refl refl refl refl refl refl
write_counts dcfg profile t word h = same_counts profile t (after_write t dcfg word) h refl refl refl refl refl refl refl
write_counts dctl profile t word h = same_counts profile t (after_write t dctl word) h refl refl refl refl refl refl refl
write_counts dsts profile t word h = h
write_counts diepmsk profile t word h = same_counts profile t (after_write t diepmsk word) h refl refl refl refl refl refl refl
write_counts doepmsk profile t word h = same_counts profile t (after_write t doepmsk word) h refl refl refl refl refl refl refl
write_counts daint profile t word h = h
write_counts daintmsk profile t word h = same_counts profile t (after_write t daintmsk word) h refl refl refl refl refl refl refl
write_counts diepempmsk profile t word h = same_counts profile t (after_write t diepempmsk word) h refl refl refl refl refl refl refl
write_counts (dieptxf x) profile t word h = same_counts profile t (after_write t (dieptxf x) word) h refl refl (length-set t.kept.dieptxfs (x - 1) word) refl refl refl refl
write_counts (hcchar x) profile t word h = removed_too profile (flag word HCCHAR_CHDIS) t x (channel_written (channel_at t x) word) h
write_counts (hcint x) profile t word h = set_channel profile t x _ h
write_counts (hcintmsk x) profile t word h = set_channel profile t x _ h
write_counts (hctsiz x) profile t word h = set_channel profile t x _ h
write_counts (diepctl x) profile t word h = same_counts profile t (after_write t (diepctl x) word) h (length-set t.device.ins x _) refl refl refl refl refl refl
write_counts (diepint x) profile t word h = same_counts profile t (after_write t (diepint x) word) h (length-set t.device.ins x _) refl refl refl refl refl refl
write_counts (dieptsiz x) profile t word h = same_counts profile t (after_write t (dieptsiz x) word) h (length-set t.device.ins x _) refl refl refl refl refl refl
write_counts (dtxfsts x) profile t word h = h
write_counts (doepctl x) profile t word h = same_counts profile t (after_write t (doepctl x) word) h refl (length-set t.device.outs x _) refl refl refl refl refl
write_counts (doepint x) profile t word h = same_counts profile t (after_write t (doepint x) word) h refl (length-set t.device.outs x _) refl refl refl refl refl
write_counts (doeptsiz x) profile t word h = same_counts profile t (after_write t (doeptsiz x) word) h refl (length-set t.device.outs x _) refl refl refl refl refl
write_counts (fifo x) profile t word h = window_counts profile t x word (channel_at t x) h

popped_counts : (profile : Profile) (t : Table) (status : ℕ) → IsOf profile t → IsOf profile (end_popped t status)
popped_counts profile t status h = elim (cases_Bool (kind_of status == out_done)) [
  | inl end ↦ rw end (set_channel profile t (number_of status) (received_all (channel_at t (number_of status))) h)
  | inr other ↦ rw other h
]

entry_counts : (profile : Profile) (t : Table) (left : List ℕ) (entries : List Entry) → IsOf profile t → IsOf profile (record t { rx = record t.rx { left = left; entries = entries } })
entry_counts profile t left entries h = same_counts profile t (record t { rx = record t.rx { left = left; entries = entries } }) h refl refl refl refl refl refl refl

pop_counts : (profile : Profile) (t : Table) (entries : List Entry) → t.rx.entries ≡ entries → IsOf profile t → IsOf profile (entry_popped t entries)
pop_counts profile t [] e h = h
pop_counts profile t (entry ∷ entries) e h = rw e (popped_counts profile (record t { rx = record t.rx { left = entry.words; entries = entries } }) entry.status (entry_counts profile t entry.words entries h))

read_counts : (register : Register) (profile : Profile) (t : Table) → IsOf profile t → IsOf profile (after_read t register)
read_counts grstctl profile t h = h
read_counts gintsts profile t h = h
read_counts gintmsk profile t h = h
read_counts grxstsr profile t h = h
read_counts grxstsp profile t h = pop_counts profile t t.rx.entries refl h
read_counts grxfsiz profile t h = h
read_counts dieptxf0 profile t h = h
read_counts hptxfsiz profile t h = h
read_counts hcfg profile t h = h
read_counts haint profile t h = h
read_counts haintmsk profile t h = h
read_counts hprt profile t h = h
read_counts dcfg profile t h = h
read_counts dctl profile t h = h
read_counts dsts profile t h = h
read_counts diepmsk profile t h = h
read_counts doepmsk profile t h = h
read_counts daint profile t h = h
read_counts daintmsk profile t h = h
read_counts diepempmsk profile t h = h
read_counts (dieptxf x) profile t h = h
read_counts (hcchar x) profile t h = h
read_counts (hcint x) profile t h = h
read_counts (hcintmsk x) profile t h = h
read_counts (hctsiz x) profile t h = h
read_counts (diepctl x) profile t h = h
read_counts (diepint x) profile t h = h
read_counts (dieptsiz x) profile t h = h
read_counts (dtxfsts x) profile t h = h
read_counts (doepctl x) profile t h = h
read_counts (doepint x) profile t h = h
read_counts (doeptsiz x) profile t h = h
read_counts (fifo zero) profile t h = same_counts profile t (after_read t (fifo 0)) h refl refl refl refl refl refl refl
read_counts (fifo (suc x)) profile t h = h

outcome_counts : (profile : Profile) (t : Table) (x : ℕ) (it : Interrupts) (outcome : Outcome) → IsOf profile t → IsOf profile (after_outcome t x it outcome)
outcome_counts profile t x it acked h = removed_too profile true t x _ h
outcome_counts profile t x it naked h = set_channel profile t x _ h
outcome_counts profile t x it stalled h = removed_too profile true t x _ h
outcome_counts profile t x it unanswered h = removed_too profile true t x _ h
outcome_counts profile t x it wrong_pid h = set_channel profile t x _ h
outcome_counts profile t x it (lands toggle bytes) h = set_channel profile (record t { rx = record t.rx { entries = _ } }) x (disabled (channel_at t x)) (entry_counts profile t t.rx.left _ h)

some_counts : (profile : Profile) (t : Table) (x : ℕ) (outcome : Option Outcome) → IsOf profile t → IsOf profile (after_some t x outcome)
some_counts profile t x None h = h
some_counts profile t x (Some outcome) h = outcome_counts profile t x (channel_at t x).interrupts outcome h

answer_counts : (profile : Profile) (t : Table) (o : Option ℕ) (answered : BusAnswer) → IsOf profile t → IsOf profile (after_answer t o answered)
answer_counts profile t None answered h = h
answer_counts profile t (Some x) answered h = some_counts profile t x (outcome_of t (channel_at t x) (sent_by t x (channel_at t x)) answered) h

map_length : (channels : List Channel) → length (map disabled channels) ≡ length channels
map_length [] = refl
map_length (channel ∷ channels) = ap (λ n. suc n) (map_length channels)

pub counts_stay : CountsStay
counts_stay profile t register word addr ep answered h = record {
  write = write_counts register profile t word h;
  read = read_counts register profile t h;
  answer = answer_counts profile t (taker t addr ep) answered h;
  attach = same_counts profile t (after_attach t) h refl refl refl refl refl refl refl;
  detach = same_counts profile t (after_detach t) h refl refl refl (map_length t.channels) refl refl refl;
  asked = same_counts profile t _ h refl refl refl refl refl refl refl;
}

-- The list of accesses.

one_more : (spare n : ℕ) → spare - 1 - n ≡ spare - suc n
one_more spare n = omega arith

record Came (bank : Bank) (accesses : List Access) : Type 0 where
  table : (after_accesses bank accesses).table ≡ all_moved bank.table accesses
  log : (after_accesses bank accesses).log ≡ bank.log ++ all_listed bank.table accesses
  spare : (after_accesses bank accesses).spare ≡ bank.spare - length accesses

nothing_spent : (n : ℕ) → n ≡ n - 0
nothing_spent n = omega arith

came : (accesses : List Access) (bank : Bank) → Came bank accesses
came [] bank = record { table = refl; log = sym (append-nil bank.log); spare = nothing_spent bank.spare }
came (access ∷ accesses) bank = elim (cases_Bool access.write) [
  | inl write ↦
      let rest = came accesses (bank_write bank access.off access.value) in
      record {
        table = rw write rest.table;
        log = rw write (rest.log ∙ append_assoc bank.log _ _);
        spare = rw write (rest.spare ∙ one_more bank.spare (length accesses));
      }
  | inr read ↦
      let rest = came accesses (bank_read bank access.off) in
      record {
        table = rw read rest.table;
        log = rw read (rest.log ∙ append_assoc bank.log _ _);
        spare = rw read (rest.spare ∙ one_more bank.spare (length accesses));
      }
]

pub accesses_are_listed : AccessesAreListed
accesses_are_listed bank accesses =
    let all = came accesses (begun bank) in
    record { table = all.table; log = all.log; spare = all.spare }
