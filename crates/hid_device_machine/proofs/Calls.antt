-- What the calls are answered.
use Rattle.std.proofs.Common.{◌≡◌, ◌≢◌, ◌⊎◌, inl, inr, Bool, true, false, if◌then◌else◌, refl, sym, ◌∙◌, true≢false}
use Rattle.usb_pipe.specs.declared.phase.Phase.{Phase}
use Rattle.usb_pipe.specs.declared.phase.Phase.TheVariants as phase
use Rattle.usb_pipe.specs.declared.call.HidDeviceCall.TheVariants as call
use Rattle.usb_pipe.specs.declared.reply.Reply.{Reply}
use Rattle.usb_pipe.specs.declared.reply.Reply.TheVariants as reply
use Rattle.usb_pipe.specs.Own.{Own, phase_at}
use Rattle.class_pipes.specs.Pipes.{is_closed, start_reply}
use Rattle.class_pipes.proofs.Phases.{test-closed}
use Rattle.hid_device_machine.specs.Reports.{is_input_report}
use Rattle.hid_device_machine.specs.Device.{is_shut, starts_report, call_reply, after_call, pipes_after_call}
use Rattle.hid_device_machine.specs.Session.{is_done}
use Rattle.hid_device_machine.specs.Laws.{ReportsAreAnswered, RefusedReportsDoNothing}
use Rattle.hid_device_machine.proofs.Last.{done_at}

abbrev answer : Phase → Bool → Reply
answer p b = if is_closed p then reply.Closed else (if b then start_reply p else reply.BadLength)

bad_at : (p : Phase) (b : Bool) → p ≢ phase.Closed → b ≡ false → answer p b ≡ reply.BadLength
bad_at p b n e = rw (test-closed p n, e) refl

rest_at : (p : Phase) (b : Bool) → b ≡ true → p ≡ phase.Rest → answer p b ≡ reply.Done
rest_at p b e f = rw (f, e) refl

busy_at : (p : Phase) (b : Bool) → b ≡ true → (p ≡ phase.Running) ⊎ (p ≡ phase.Posted) → answer p b ≡ reply.Busy
busy_at p b e (inl f) = rw (f, e) refl
busy_at p b e (inr f) = rw (f, e) refl

halted_at : (p : Phase) (b : Bool) → b ≡ true → p ≡ phase.Halted → answer p b ≡ reply.Halted
halted_at p b e f = rw (f, e) refl

pub reports_are_answered : ReportsAreAnswered
reports_are_answered hid own bytes n = record {
  badlength = bad_at (phase_at own 0) (is_input_report hid.rows bytes) n;
  done = rest_at (phase_at own 0) (is_input_report hid.rows bytes);
  busy = busy_at (phase_at own 0) (is_input_report hid.rows bytes);
  halted = halted_at (phase_at own 0) (is_input_report hid.rows bytes);
}

done_of-test : (r : Reply) → is_done r ≡ true → r ≡ reply.Done
done_of-test reply.Done e = refl
done_of-test _ e = elim (true≢false (sym e)) [ ]

same_if : (b : Bool) (own : Own) → (if b then own else own) ≡ own
same_if true own = refl
same_if false own = refl

pub refused_reports_do_nothing : RefusedReportsDoNothing
refused_reports_do_nothing hid own bytes n = by (starts_report hid own bytes) refl
  where
    by : (b : Bool) → starts_report hid own bytes ≡ b →
        (after_call hid own (call.Report (record { items = bytes })) ≡ hid) × (pipes_after_call hid own (call.Report (record { items = bytes })) ≡ own)
    by true e = absurd (n (done_of-test (call_reply hid own (call.Report (record { items = bytes }))) (done_at (phase_at own 0) (is_input_report hid.rows bytes) ∙ e)))
    by false e = (rw e refl, rw e (same_if (is_shut own) own))
