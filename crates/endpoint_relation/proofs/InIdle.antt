-- An endpoint with nothing loaded.
use Rattle.std.proofs.Common.{◌≡◌, ℕ, zero, suc, ◌-◌, ◌<◌, List, [], get_or, take, drop, Bool, true, false, refl, ap, ◌∙◌, sym, arith, subst}
use Rattle.std.specs.Prelude.{◌||◌, ◌&&◌, not, IsTrue, if◌then◌else◌}
use Rattle.usb_packet.specs.declared.bus.Toggle.{Toggle}
use Rattle.usb_packet.specs.declared.bus.Toggle.TheVariants.{D0}
use Rattle.dwc2_regs.specs.declared.TheConstants.{DIEPTSIZ_SIZE, DIEPTSIZ_COUNT, DIEPCTL_SD0PID, DIEPCTL_EPDIS}
use Rattle.dwc2_regs.specs.Field.{field_of}
use Rattle.dwc2_fifo.specs.Tx.{Tx, empty_of}
use Rattle.device_table.specs.State.{InEnd}
use Rattle.device_table.specs.Words.{flag}
use Rattle.device_table.specs.Write.{control_written}
use Rattle.endpoint_relation.specs.InRelation.{InJoint, InStands, Holds, in_kept, stalls, ready_if, ready_count, ready_packets, packets_left, is_some_of, fifo_of, IsSized}
use Rattle.endpoint_relation.specs.InSteps.{end_stopped}
use Rattle.endpoint_relation.proofs.InControl.{control_is}

pub and_none : (b : Bool) → (b && false) ≡ false
and_none true = refl
and_none false = refl

pub record Idle (number : ℕ) (j : InJoint) : Type 0 where
  pub kept : j.end.control.kept ≡ in_kept j.software.state number j.software.endpoint
  pub stall : j.end.control.stall ≡ stalls j.software
  pub enabled : j.end.control.enabled ≡ false
  pub xfrc : j.end.xfrc ≡ false
  pub epdisd : j.end.epdisd ≡ false
  pub fifo : j.end.fifo ≡ fifo_of []
  pub load : j.software.loaded ≡ 0
  pub holds : Holds j.software.state j.software j.ring
  pub bytes : (i : ℕ) → get_or j.ring i 0 < 256

count_of : InJoint → ℕ
count_of j = field_of j.end.tsiz DIEPTSIZ_COUNT

pub none_ready : (j : InJoint) → j.software.loaded ≡ 0 → ready_count j.end j.software ≡ 0
none_ready j h = ap (λ l. ready_if l (field_of j.end.tsiz DIEPTSIZ_COUNT)) h

no_packets : (j : InJoint) → j.software.loaded ≡ 0 → ready_packets j ≡ []
no_packets j h = ap (λ k. take k (drop (j.software.loaded - k) (packets_left j.software j.ring))) (none_ready j h)

not_loaded : (l : ℕ) (b : Bool) → l ≡ 0 → IsTrue (is_some_of l) → b ≡ false
not_loaded zero b e h = cc
not_loaded (suc l) b e h = absurd (omega arith)

pub idle_stands : (number : ℕ) (j : InJoint) → Idle number j → InStands number j
idle_stands number j i = record {
  kept = i.kept;
  stall = i.stall;
  enabled = i.enabled ∙ sym (ap is_some_of (none_ready j i.load));
  nak = not_loaded j.software.loaded j.end.control.nak i.load;
  xfrc = i.xfrc ∙ sym (ap (λ l. is_some_of l && not (is_some_of (ready_count j.end j.software))) i.load);
  epdisd = i.epdisd;
  count = let e = none_ready j i.load in omega (arith, e);
  size = subst (IsSized (field_of j.end.tsiz DIEPTSIZ_SIZE)) (sym (no_packets j i.load)) tt;
  fifo = i.fifo ∙ sym (ap fifo_of (no_packets j i.load));
  holds = i.holds;
  bytes = i.bytes;
}

pub stands_idle : (number : ℕ) (j : InJoint) → InStands number j → j.software.loaded ≡ 0 → Idle number j
stands_idle number j st load = record {
  kept = st.kept;
  stall = st.stall;
  enabled = st.enabled ∙ ap is_some_of (none_ready j load);
  xfrc = st.xfrc ∙ ap (λ l. is_some_of l && not (is_some_of (ready_count j.end j.software))) load;
  epdisd = st.epdisd;
  fifo = st.fifo ∙ ap fifo_of (no_packets j load);
  load = load;
  holds = st.holds;
  bytes = st.bytes;
}

-- what an endpoint is once what was loaded is dropped

pub record StoppedAs (new : InEnd) (kept : ℕ) (stall : Bool) (toggle : Toggle) : Type 0 where
  pub control : new.control ≡ control_is kept true stall false
  pub toggle_is : new.toggle ≡ toggle
  pub xfrc : new.xfrc ≡ false
  pub epdisd : new.epdisd ≡ false
  pub fifo : new.fifo ≡ fifo_of []

pub stopped : (end : InEnd) (word kept : ℕ) (stall sd : Bool) (packets : List (List ℕ)) → end.fifo ≡ fifo_of packets → control_written true end.control word ≡ control_is kept true stall false
    → flag word DIEPCTL_SD0PID ≡ sd → StoppedAs (end_stopped end word) kept stall (if sd then D0 else end.toggle)
stopped end word kept stall sd packets holds control f = record {
  control = control;
  toggle_is = ap (λ b. if b then D0 else end.toggle) f;
  xfrc = and_none end.xfrc;
  epdisd = and_none (end.epdisd || flag word DIEPCTL_EPDIS);
  fifo = ap (λ (tx : Tx). empty_of tx.depth) holds;
}
