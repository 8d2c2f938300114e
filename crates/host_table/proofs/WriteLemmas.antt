-- What an access to one channel's registers leaves as it was.
use Rattle.std.proofs.Common.{◌≡◌, ℕ, Bool, true, false, inl, inr, refl, get_or-set_other}
use Rattle.std.proofs.lemmas.Bool.{cases_Bool}
use Rattle.dwc2_regs.specs.declared.TheConstants.{HCCHAR_CHDIS}
use Rattle.dwc2_regs.specs.Register.{grstctl, gintsts, gintmsk, grxstsr, grxstsp, grxfsiz, dieptxf0, hptxfsiz, hcfg, haint, haintmsk, hprt, dcfg, dctl, dsts, diepmsk, doepmsk, daint, daintmsk, diepempmsk, dieptxf, hcchar, hcint, hcintmsk, hctsiz, diepctl, diepint, dieptsiz, dtxfsts, doepctl, doepint, doeptsiz, fifo}
use Rattle.device_table.specs.Words.{flag}
use Rattle.host_table.specs.State.{Table, Channel, no_channel, channel_at, with_channel}
use Rattle.host_table.specs.Words.{is_periodic, is_nonperiodic}
use Rattle.host_table.specs.Write.{packet_removed, packet_removed_if, channel_written, interrupts_written, word_written}
use Rattle.host_table.specs.Laws.{OthersSame, OthersStay}
use Rattle.host_table.proofs.FifoLemmas.{without_first-other, pushed-other, begun_without-other, pushed-begun}

pub set_leaves : (t : Table) (x : ℕ) (channel : Channel) → OthersSame x t (with_channel t x channel)
set_leaves t x channel = record {
  channels = λ y h. get_or-set_other t.channels x y channel no_channel h;
  nonperiodic = λ y h. refl;
  periodic = λ y h. refl;
  nonperiodic_begun = λ y h. refl;
  periodic_begun = λ y h. refl;
  port = refl;
  kept = refl;
  host = refl;
  device = refl;
}

pub removal_leaves : (t : Table) (x : ℕ) (channel : Channel) → OthersSame x t (with_channel (packet_removed t x) x channel)
removal_leaves t x channel = record {
  channels = λ y h. get_or-set_other t.channels x y channel no_channel h;
  nonperiodic = λ y h. without_first-other x y t.nonperiodic.packets h;
  periodic = λ y h. without_first-other x y t.periodic.packets h;
  nonperiodic_begun = λ y h. begun_without-other x y t.nonperiodic.unfinished h;
  periodic_begun = λ y h. begun_without-other x y t.periodic.unfinished h;
  port = refl;
  kept = refl;
  host = refl;
  device = refl;
}

removal_if_leaves : (removes : Bool) (t : Table) (x : ℕ) (channel : Channel)
    → OthersSame x t (with_channel (packet_removed_if removes t x) x channel) × ((with_channel (packet_removed_if removes t x) x channel).rx ≡ t.rx)
removal_if_leaves false t x channel = (set_leaves t x channel, refl)
removal_if_leaves true t x channel = (removal_leaves t x channel, refl)

nothing_leaves : (t : Table) (x : ℕ) → OthersSame x t t
nothing_leaves t x = record {
  channels = λ y h. refl;
  nonperiodic = λ y h. refl;
  periodic = λ y h. refl;
  nonperiodic_begun = λ y h. refl;
  periodic_begun = λ y h. refl;
  port = refl;
  kept = refl;
  host = refl;
  device = refl;
}

pub unchanged_leaves : (t : Table) (x : ℕ) → OthersSame x t t
unchanged_leaves t x = nothing_leaves t x

word_leaves : (t : Table) (x : ℕ) (channel : Channel) (word : ℕ) → OthersSame x t (word_written t x channel word) × ((word_written t x channel word).rx ≡ t.rx)
word_leaves t x channel word = elim (cases_Bool (is_periodic channel)) [
  | inl periodic ↦ rw periodic (
    record {
      channels = λ y h. refl;
      nonperiodic = λ y h. refl;
      periodic = λ y h. pushed-other channel x word y t.periodic h;
      nonperiodic_begun = λ y h. refl;
      periodic_begun = λ y h. pushed-begun channel x word y t.periodic h;
      port = refl;
      kept = refl;
      host = refl;
      device = refl;
    },
    refl,
  )
  | inr aperiodic ↦ rw aperiodic (elim (cases_Bool (is_nonperiodic channel)) [
    | inl nonperiodic ↦ rw nonperiodic (
      record {
        channels = λ y h. refl;
        nonperiodic = λ y h. pushed-other channel x word y t.nonperiodic h;
        periodic = λ y h. refl;
        nonperiodic_begun = λ y h. pushed-begun channel x word y t.nonperiodic h;
        periodic_begun = λ y h. refl;
        port = refl;
        kept = refl;
        host = refl;
        device = refl;
      },
      refl,
    )
    | inr neither ↦ rw neither (nothing_leaves t x, refl)
  ])
]

pub others_stay : OthersStay
others_stay grstctl t word = tt
others_stay gintsts t word = tt
others_stay gintmsk t word = tt
others_stay grxstsr t word = tt
others_stay grxstsp t word = tt
others_stay grxfsiz t word = tt
others_stay dieptxf0 t word = tt
others_stay hptxfsiz t word = tt
others_stay hcfg t word = tt
others_stay haint t word = tt
others_stay haintmsk t word = tt
others_stay hprt t word = tt
others_stay dcfg t word = tt
others_stay dctl t word = tt
others_stay dsts t word = tt
others_stay diepmsk t word = tt
others_stay doepmsk t word = tt
others_stay daint t word = tt
others_stay daintmsk t word = tt
others_stay diepempmsk t word = tt
others_stay (dieptxf x) t word = tt
others_stay (hcchar x) t word = removal_if_leaves (flag word HCCHAR_CHDIS) t x (channel_written (channel_at t x) word)
others_stay (hcint x) t word = (set_leaves t x (record (channel_at t x) { interrupts = interrupts_written (channel_at t x).interrupts word }), refl)
others_stay (hcintmsk x) t word = (set_leaves t x (record (channel_at t x) { hcintmsk = word }), refl)
others_stay (hctsiz x) t word = (set_leaves t x (record (channel_at t x) { hctsiz = word }), refl)
others_stay (diepctl x) t word = tt
others_stay (diepint x) t word = tt
others_stay (dieptsiz x) t word = tt
others_stay (dtxfsts x) t word = tt
others_stay (doepctl x) t word = tt
others_stay (doepint x) t word = tt
others_stay (doeptsiz x) t word = tt
others_stay (fifo x) t word = word_leaves t x (channel_at t x) word
