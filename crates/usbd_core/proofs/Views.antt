-- What a view's calls need, and what they make of the owner's pipes.
use Rattle.std.proofs.Common.{◌≡◌, ◌≢◌, ℕ, zero, suc, ◌+◌, ◌<◌, ◌≤◌, List, inl, inr, Bool, true, false, refl, ap, sym, ◌∙◌, arith, subst}
use Rattle.std.specs.Prelude.{◌==◌, if◌then◌else◌}
use Rattle.usb_packet.specs.declared.bus.Owner.{Owner}
use Rattle.usb_pipe.specs.declared.phase.Phase.TheVariants as phase
use Rattle.usb_pipe.specs.Own as own
use Rattle.usb_pipe.specs.Own.{Own, Sender, sender, with_sender, with_receiver, Sends, phase_at}
use Rattle.device_pipe.specs.OutPipe as out
use Rattle.device_pipe.specs.OutPipe.{OutPipe, OutPhase}
use Rattle.device_pipe.specs.InPipe as inward
use Rattle.device_pipe.specs.InPipe.{InPipe, InPhase, is_closed}
use Rattle.device_machine.specs.Pipes.{OutSlot, InSlot, out_slot, in_slot, with_out_slot, with_in_slot, is_out_open, in_hears, out_halted, in_halted}
use Rattle.device_owners.specs.Ends.{number_at, as_sender}
use Rattle.device_relation.specs.Port.{Port, with_pipes, with_out_pipe, with_in_pipe, armed_at, read_at, started_at, written_at, halted_at, dropped_at, out_dropped, in_dropped}
use Rattle.device_relation.proofs.PipeCalls.{out_address, in_address}
use Rattle.device_rings.specs.Sizes.{ring_size}
use Rattle.dwc2_device.specs.Driver.{joint}
use Rattle.usbd_core.specs.Device.{Device, port_in}
use Rattle.usbd_core.specs.Shown.{IsSender, IsReceiver}
use Rattle.usbd_core.specs.View.{Becomes, IsView, own_of}
use Rattle.usbd_core.proofs.Shows.{out_shown_open, in_shown_open, out_from, rest_open}
use Rattle.usbd_core.proofs.Steps.{Step, out_step, in_step, view_sender, view_receiver}

-- a pipe other than the one that receives sends
pub sends : (pipe : ℕ) → pipe ≤ 2 → pipe ≢ 1 → Sends pipe
sends zero h k = inl refl
sends (suc zero) h k = absurd (k refl)
sends (suc (suc zero)) h k = inr refl
sends (suc (suc (suc n))) h k = absurd (omega (arith, h))

-- the number of its endpoint
abbrev pub chosen : ℕ → ℕ → ℕ → ℕ
chosen pipe notifies sends = if pipe == 2 then notifies else sends

pub number_is : (o : Owner) (a b c pipe n : ℕ) (d : Device) → IsView o a b c d → Sends pipe → n ≡ chosen pipe c a → n ≡ number_at d.set o pipe
number_is o a b c pipe n d v (inl e) h = h ∙ ap (λ k. chosen k c a) e ∙ v.sends_is ∙ ap (number_at d.set o) (sym e)
number_is o a b c pipe n d v (inr e) h = h ∙ ap (λ k. chosen k c a) e ∙ v.notifies_is ∙ ap (number_at d.set o) (sym e)

other : (pipe : ℕ) → Sends pipe → (pipe == 1) ≡ false
other pipe (inl e) = ap (λ n. n == 1) e
other pipe (inr e) = ap (λ n. n == 1) e

-- What the calls need.

pub receiver_of : (o : Owner) (a b c : ℕ) (d : Device) → IsView o a b c d → IsReceiver (port_in d).pipes d.rings b
receiver_of o a b c d v = subst (IsReceiver (port_in d).pipes d.rings) (sym v.receives_is) (view_receiver o a b c d v)

pub sender_of : (o : Owner) (a b c pipe n : ℕ) (d : Device) → IsView o a b c d → Sends pipe → n ≡ chosen pipe c a → IsSender (port_in d).pipes d.rings n
sender_of o a b c pipe n d v h e =
    subst (IsSender (port_in d).pipes d.rings) (sym (number_is o a b c pipe n d v h e)) (view_sender o a b c pipe d v (other pipe h))

pub receiver_opens : (o : Owner) (a b c pipe : ℕ) (d : Device) → IsView o a b c d → pipe ≡ 1 → phase_at (own_of o d) pipe ≢ phase.Closed → is_out_open (out_slot (port_in d).pipes b).pipe.phase ≡ true
receiver_opens o a b c pipe d v e h =
    ap (λ n. is_out_open (out_slot (port_in d).pipes n).pipe.phase) v.receives_is
    ∙ out_shown_open (joint d.port) d.rings (number_at d.set o 1) v.whole.agrees.sound (view_receiver o a b c d v).to (λ k. h (ap (phase_at (own_of o d)) e ∙ k))

shown_at : (o : Owner) (pipe : ℕ) (d : Device) → Sends pipe → phase_at (own_of o d) pipe ≡ own.unless_halted (in_slot (port_in d).pipes (number_at d.set o pipe)).pipe.halted (own.in_phase (in_slot (port_in d).pipes (number_at d.set o pipe)).pipe.phase)
shown_at o pipe d (inl e) =
    subst (λ n. phase_at (own_of o d) n ≡ own.unless_halted (in_slot (port_in d).pipes (number_at d.set o n)).pipe.halted (own.in_phase (in_slot (port_in d).pipes (number_at d.set o n)).pipe.phase)) (sym e) refl
shown_at o pipe d (inr e) =
    subst (λ n. phase_at (own_of o d) n ≡ own.unless_halted (in_slot (port_in d).pipes (number_at d.set o n)).pipe.halted (own.in_phase (in_slot (port_in d).pipes (number_at d.set o n)).pipe.phase)) (sym e) refl

pub sender_opens : (o : Owner) (a b c pipe n : ℕ) (d : Device) → IsView o a b c d → Sends pipe → n ≡ chosen pipe c a → phase_at (own_of o d) pipe ≢ phase.Closed → in_hears (in_slot (port_in d).pipes n) ≡ true
sender_opens o a b c pipe n d v s e h =
    ap (λ m. in_hears (in_slot (port_in d).pipes m)) (number_is o a b c pipe n d v s e)
    ∙ in_shown_open (joint d.port) d.rings (number_at d.set o pipe) v.whole.agrees.sound (view_sender o a b c pipe d v (other pipe s)).to (λ k. h (shown_at o pipe d s ∙ k))

-- What they make of the pipes.

receiver_step : (o : Owner) (a b c n : ℕ) (old new : Device) (f : OutPipe → OutPipe) → IsView o a b c old → is_out_open (out_slot (port_in old).pipes b).pipe.phase ≡ true
    → ((x : OutPipe) → is_out_open (f x).phase ≡ is_out_open x.phase)
    → Becomes n old new (with_out_pipe (port_in old) b (f (out_slot (port_in old).pipes b).pipe))
    → Step o a b c old new (with_receiver (own_of o old) (record (own_of o old).receives { pipe = f (own_of o old).receives.pipe }))
receiver_step o a b c n old new f v opens same s =
    out_step o a b c n old new (f (own_of o old).receives.pipe) v
    (subst (λ m. is_out_open (out_slot (port_in old).pipes m).pipe.phase ≡ true) v.receives_is opens) (same (own_of o old).receives.pipe)
    (subst (λ m. Becomes n old new (with_out_pipe (port_in old) m (f (out_slot (port_in old).pipes m).pipe))) v.receives_is s)

sender_at : (o : Owner) (pipe : ℕ) (d : Device) → Sends pipe → sender (own_of o d) pipe ≡ as_sender (in_slot (port_in d).pipes (number_at d.set o pipe))
sender_at o pipe d (inl e) = subst (λ n. sender (own_of o d) n ≡ as_sender (in_slot (port_in d).pipes (number_at d.set o n))) (sym e) refl
sender_at o pipe d (inr e) = subst (λ n. sender (own_of o d) n ≡ as_sender (in_slot (port_in d).pipes (number_at d.set o n))) (sym e) refl

sender_step : (o : Owner) (a b c n pipe number : ℕ) (old new : Device) (f : Sender → InPipe) → IsView o a b c old → Sends pipe → number ≡ chosen pipe c a → in_hears (in_slot (port_in old).pipes number) ≡ true
    → ((s : Sender) → is_closed (f s).phase ≡ is_closed s.pipe.phase)
    → Becomes n old new (with_in_pipe (port_in old) number (f (as_sender (in_slot (port_in old).pipes number))))
    → Step o a b c old new (with_sender (own_of o old) pipe (record (sender (own_of o old) pipe) { pipe = f (sender (own_of o old) pipe) }))
sender_step o a b c n pipe number old new f v h e opens same s =
    let is = number_is o a b c pipe number old v h e in
    let x = f (as_sender (in_slot (port_in old).pipes (number_at old.set o pipe))) in
    subst (λ (y : InPipe). Step o a b c old new (with_sender (own_of o old) pipe (record (sender (own_of o old) pipe) { pipe = y }))) (sym (ap f (sender_at o pipe old h)))
    (in_step o a b c n pipe old new x h v (subst (λ m. in_hears (in_slot (port_in old).pipes m) ≡ true) is opens) (same (as_sender (in_slot (port_in old).pipes (number_at old.set o pipe))))
    (subst (λ m. Becomes n old new (with_in_pipe (port_in old) m (f (as_sender (in_slot (port_in old).pipes m))))) is s))

-- Calls on the pipe that receives.

pub read_step : (o : Owner) (a b c n most : ℕ) (old new : Device) → IsView o a b c old → is_out_open (out_slot (port_in old).pipes b).pipe.phase ≡ true → Becomes n old new (read_at (port_in old) b most)
    → Step o a b c old new (own.read (own_of o old) most)
read_step o a b c n most old new v opens s = receiver_step o a b c n old new (out.taken most) v opens (λ x. refl) s

armed_open : (p : OutPhase) (halted : Bool) → is_out_open (out.phase_armed p halted) ≡ is_out_open p
armed_open (out.Closed over) halted = refl
armed_open out.Rest true = refl
armed_open out.Rest false = refl
armed_open out.Armed halted = refl
armed_open (out.Landed packet) halted = refl
armed_open out.Posted halted = refl
armed_open out.Stale halted = refl

pub arm_step : (o : Owner) (a b c n pipe : ℕ) (old new : Device) → IsView o a b c old → pipe ≡ 1 → phase_at (own_of o old) pipe ≡ phase.Rest → Becomes n old new (armed_at (port_in old) b)
    → Step o a b c old new (own.armed (own_of o old))
arm_step o a b c n pipe old new v e rests s =
    receiver_step o a b c n old new out.armed v (receiver_opens o a b c pipe old v e (rest_open (phase_at (own_of o old) pipe) rests)) (λ x. armed_open x.phase x.halted) s

under : (m : ℕ) → suc m ≤ 3 → m < 3
under m h = omega (arith, h)

halts_out : (p : Port) (n : ℕ) → 1 ≤ n → n ≤ 3 → is_out_open (out_slot p.pipes n).pipe.phase ≡ true → halted_at p n ≡ with_out_pipe p n (out.halted_ (out_slot p.pipes n).pipe)
halts_out p zero from to opens = absurd (omega (arith, from))
halts_out p (suc m) from to opens =
    let slot = out_slot p.pipes (suc m) in
    let halted : OutSlot = record slot { pipe = out.halted_ slot.pipe } in
    ap (with_pipes p) (out_address out_halted in_halted p.pipes m (under m to) ∙ ap (λ b. with_out_slot p.pipes (suc m) (if b then halted else slot)) opens)

drops_out : (p : Port) (n : ℕ) → 1 ≤ n → n ≤ 3 → dropped_at p n ≡ with_out_pipe p n (out.dropped (out_slot p.pipes n).pipe)
drops_out p zero from to = absurd (omega (arith, from))
drops_out p (suc m) from to = ap (with_pipes p) (out_address out_dropped in_dropped p.pipes m (under m to))

pub halt_out_step : (o : Owner) (a b c n pipe : ℕ) (old new : Device) → IsView o a b c old → pipe ≡ 1 → phase_at (own_of o old) pipe ≢ phase.Closed → Becomes n old new (halted_at (port_in old) b)
    → Step o a b c old new (own.halted_at (own_of o old) pipe)
halt_out_step o a b c n pipe old new v e h s =
    let opens = receiver_opens o a b c pipe old v e h in
    subst (λ m. Step o a b c old new (own.halted_at (own_of o old) m)) (sym e)
    (receiver_step o a b c n old new out.halted_ v opens (λ x. refl)
    (subst (Becomes n old new) (halts_out (port_in old) b (out_from (port_in old).pipes b opens) (receiver_of o a b c old v).to opens) s))

pub drop_out_step : (o : Owner) (a b c n pipe : ℕ) (old new : Device) → IsView o a b c old → pipe ≡ 1 → phase_at (own_of o old) pipe ≢ phase.Closed → Becomes n old new (dropped_at (port_in old) b)
    → Step o a b c old new (own.dropped_at (own_of o old) pipe)
drop_out_step o a b c n pipe old new v e h s =
    let opens = receiver_opens o a b c pipe old v e h in
    subst (λ m. Step o a b c old new (own.dropped_at (own_of o old) m)) (sym e)
    (receiver_step o a b c n old new out.dropped v opens (λ x. refl)
    (subst (Becomes n old new) (drops_out (port_in old) b (out_from (port_in old).pipes b opens) (receiver_of o a b c old v).to) s))

-- Calls on a pipe that sends.

pub write_step : (o : Owner) (a b c n pipe number : ℕ) (bytes : List ℕ) (old new : Device) → IsView o a b c old → Sends pipe → number ≡ chosen pipe c a → in_hears (in_slot (port_in old).pipes number) ≡ true
    → Becomes n old new (written_at (port_in old) number (ring_size (in_slot (port_in old).pipes number).endpoint) bytes)
    → Step o a b c old new (own.written (own_of o old) pipe bytes)
write_step o a b c n pipe number bytes old new v h e opens s =
    sender_step o a b c n pipe number old new (λ (x : Sender). inward.written x.capacity bytes x.pipe) v h e opens (λ x. refl) s

started_closed : (size : ℕ) (queue : List ℕ) (p : InPhase) → is_closed (inward.phase_started size queue p) ≡ is_closed p
started_closed size queue inward.Closed = refl
started_closed size queue inward.Rest = refl
started_closed size queue (inward.Running n left) = refl
started_closed size queue (inward.Posted n) = refl

pub start_step : (o : Owner) (a b c n pipe number : ℕ) (old new : Device) → IsView o a b c old → Sends pipe → number ≡ chosen pipe c a → phase_at (own_of o old) pipe ≡ phase.Rest
    → Becomes n old new (started_at (port_in old) number) → Step o a b c old new (own.started (own_of o old) pipe)
start_step o a b c n pipe number old new v h e rests s =
    sender_step o a b c n pipe number old new (λ (x : Sender). inward.started x.size x.pipe) v h e
    (sender_opens o a b c pipe number old v h e (rest_open (phase_at (own_of o old) pipe) rests)) (λ x. started_closed x.size x.pipe.queue x.pipe.phase) s

halts_in : (p : Port) (n : ℕ) → in_hears (in_slot p.pipes n) ≡ true → halted_at p (128 + n) ≡ with_in_pipe p n (inward.halted_ (in_slot p.pipes n).pipe)
halts_in p n opens =
    let slot = in_slot p.pipes n in
    let halted : InSlot = record slot { pipe = inward.halted_ slot.pipe } in
    ap (with_pipes p) (in_address out_halted in_halted p.pipes (128 + n) n refl ∙ ap (λ b. with_in_slot p.pipes n (if b then halted else slot)) opens)

drops_in : (p : Port) (n : ℕ) → dropped_at p (128 + n) ≡ with_in_pipe p n (inward.dropped (in_slot p.pipes n).pipe)
drops_in p n = ap (with_pipes p) (in_address out_dropped in_dropped p.pipes (128 + n) n refl)

-- a pipe that sends, by its number
halted_sender : (o : Own) (pipe : ℕ) → Sends pipe → with_sender o pipe (record (sender o pipe) { pipe = inward.halted_ (sender o pipe).pipe }) ≡ own.halted_at o pipe
halted_sender o pipe (inl e) = subst (λ n. with_sender o n (record (sender o n) { pipe = inward.halted_ (sender o n).pipe }) ≡ own.halted_at o n) (sym e) refl
halted_sender o pipe (inr e) = subst (λ n. with_sender o n (record (sender o n) { pipe = inward.halted_ (sender o n).pipe }) ≡ own.halted_at o n) (sym e) refl

dropped_sender : (o : Own) (pipe : ℕ) → Sends pipe → with_sender o pipe (record (sender o pipe) { pipe = inward.dropped (sender o pipe).pipe }) ≡ own.dropped_at o pipe
dropped_sender o pipe (inl e) = subst (λ n. with_sender o n (record (sender o n) { pipe = inward.dropped (sender o n).pipe }) ≡ own.dropped_at o n) (sym e) refl
dropped_sender o pipe (inr e) = subst (λ n. with_sender o n (record (sender o n) { pipe = inward.dropped (sender o n).pipe }) ≡ own.dropped_at o n) (sym e) refl

pub halt_in_step : (o : Owner) (a b c n pipe number : ℕ) (old new : Device) → IsView o a b c old → Sends pipe → number ≡ chosen pipe c a → phase_at (own_of o old) pipe ≢ phase.Closed
    → Becomes n old new (halted_at (port_in old) (128 + number)) → Step o a b c old new (own.halted_at (own_of o old) pipe)
halt_in_step o a b c n pipe number old new v h e k s =
    let opens = sender_opens o a b c pipe number old v h e k in
    subst (Step o a b c old new) (halted_sender (own_of o old) pipe h)
    (sender_step o a b c n pipe number old new (λ (x : Sender). inward.halted_ x.pipe) v h e opens (λ x. refl) (subst (Becomes n old new) (halts_in (port_in old) number opens) s))

rest_closed : (p : InPhase) → is_closed (inward.at_rest p) ≡ is_closed p
rest_closed inward.Closed = refl
rest_closed inward.Rest = refl
rest_closed (inward.Running n left) = refl
rest_closed (inward.Posted n) = refl

pub drop_in_step : (o : Owner) (a b c n pipe number : ℕ) (old new : Device) → IsView o a b c old → Sends pipe → number ≡ chosen pipe c a → phase_at (own_of o old) pipe ≢ phase.Closed
    → Becomes n old new (dropped_at (port_in old) (128 + number)) → Step o a b c old new (own.dropped_at (own_of o old) pipe)
drop_in_step o a b c n pipe number old new v h e k s =
    let opens = sender_opens o a b c pipe number old v h e k in
    subst (Step o a b c old new) (dropped_sender (own_of o old) pipe h)
    (sender_step o a b c n pipe number old new (λ (x : Sender). inward.dropped x.pipe) v h e opens (λ x. rest_closed x.pipe.phase) (subst (Becomes n old new) (drops_in (port_in old) number) s))
