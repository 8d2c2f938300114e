-- What a call on one pipe makes of a device, said of the owner's pipes and of what is beside them.
use Rattle.std.proofs.Common.{◌≡◌, ◌≢◌, ℕ, zero, suc, ◌≤◌, List, [], length, inl, inr, Bool, true, false, true≢false, refl, ap, sym, ◌∙◌, arith, subst}
use Rattle.std.specs.Prelude.{◌==◌, not}
use Rattle.usb_packet.specs.declared.bus.Owner.{Owner}
use Rattle.usb_descriptor.specs.declared.endpoint.Endpoint.{Endpoint}
use Rattle.usb_descriptor.specs.Set.{endpoints_of}
use Rattle.usb_pipe.specs.Own.{Own, Sender, Receiver, sender, with_sender, with_receiver, Sends}
use Rattle.device_pipe.specs.OutPipe.{OutPipe}
use Rattle.device_pipe.specs.InPipe.{InPipe, is_closed}
use Rattle.device_machine.specs.Pipes.{Pipes, out_slot, in_slot, with_out_slot, with_in_slot, is_out_open, in_hears, top_number}
use Rattle.device_machine.specs.Laws.{AreOf}
use Rattle.device_machine.specs.Session.{opened}
use Rattle.device_machine.proofs.Slots.{Keep, Opened, out_opened, in_opened, out_at, in_at, outs_count, ins_count, out_set, in_set}
use Rattle.device_rings.specs.Rings.{Rings}
use Rattle.device_rings.specs.Capacities.{capacities_of}
use Rattle.device_owners.specs.Ends.{number_at, own_pipes, with_own, with_sends, with_receives}
use Rattle.dwc2_regs.specs.declared.access.TheConstants.{FS4}
use Rattle.device_table.specs.Bank.{Bank}
use Rattle.device_relation.specs.PipeRelation.{IsSound}
use Rattle.device_relation.specs.Port.{Port, port_of, with_pipes, with_out_pipe, with_in_pipe}
use Rattle.dwc2_device.specs.Driver.{Driver, joint, Spends}
use Rattle.usbd_core.specs.Device.{Device, Fits, Rests, port_in}
use Rattle.usbd_core.specs.Task.{GoesInOrder}
use Rattle.usbd_core.specs.Shown.{IsSender, IsReceiver}
use Rattle.usbd_core.specs.View.{IsWhole, Beside, Becomes, IsView, own_of}
use Rattle.usbd_core.proofs.Fits.{pipes_fit}
use Rattle.device_owners.proofs.Own.{own_sent, own_notified, own_received, sends_stay, receives_stay, notifies_stay}
use Rattle.usbd_core.proofs.Found.{has_in, has_out, sender as sender_is, receiver as receiver_is, apart}

-- one call on a pipe, where the device is seen like this before
pub becomes_by : (view old : Device) (n : ℕ) (port : Driver) (rings : Rings) (f : Port → Port) → view ≡ old → port_of (joint port) rings ≡ f (port_in view) → IsSound FS4 (joint port) rings
    → capacities_of rings ≡ capacities_of view.rings → GoesInOrder view.port port → Spends n view.port.bank port.bank → Becomes n old (record view { port = port; rings = rings }) (f (port_in old))
becomes_by view old n port rings f v e s c order spends =
    subst (λ (d : Device). Becomes n d (record view { port = port; rings = rings }) (f (port_in d))) v (record { rest = refl; port = e; sound = s; sizes = c; order = order; spends = spends })

-- no access was made
pub no_access : (n : ℕ) (old new : Bank) → new ≡ old → old.due ≡ [] → Spends n old new
no_access n old new e d = subst (λ (b : Bank). Spends n old b) (sym e) (omega arith, d, λ start m. m)

-- The endpoints stay open, or closed.

pub keep_of : (endpoints : List Endpoint) (new old : Pipes) → Keep out_opened in_opened new old → AreOf endpoints old → AreOf endpoints new
keep_of endpoints new old k h = record {
  outs = λ n few. record {
    endpoint = ap (λ (s : Opened). s.endpoint) (out_at out_opened in_opened new old k (suc n)) ∙ (h.outs n few).endpoint;
    opens = ap (λ (s : Opened). s.opens) (out_at out_opened in_opened new old k (suc n)) ∙ (h.outs n few).opens;
  };
  ins = λ n few. record {
    endpoint = ap (λ (s : Opened). s.endpoint) (in_at out_opened in_opened new old k (suc n)) ∙ (h.ins n few).endpoint;
    opens = ap (λ (s : Opened). s.opens) (in_at out_opened in_opened new old k (suc n)) ∙ (h.ins n few).opens;
  };
  outs_count = outs_count out_opened in_opened new old k ∙ h.outs_count;
  ins_count = ins_count out_opened in_opened new old k ∙ h.ins_count;
}

out_kept : (p : Pipes) (n : ℕ) (x : OutPipe) → is_out_open x.phase ≡ is_out_open (out_slot p n).pipe.phase → Keep out_opened in_opened (with_out_slot p n (record (out_slot p n) { pipe = x })) p
out_kept p n x e = out_set out_opened in_opened p n (record (out_slot p n) { pipe = x }) (ap (λ b. record { endpoint = (out_slot p n).endpoint; opens = b }) e)

in_kept : (p : Pipes) (n : ℕ) (x : InPipe) → is_closed x.phase ≡ is_closed (in_slot p n).pipe.phase → Keep out_opened in_opened (with_in_slot p n (record (in_slot p n) { pipe = x })) p
in_kept p n x e = in_set out_opened in_opened p n (record (in_slot p n) { pipe = x }) (ap (λ b. in_opened_as (in_slot p n).endpoint b) e)
  where
    in_opened_as : Endpoint → Bool → Opened
    in_opened_as e closed = record { endpoint = e; opens = not closed }

whole_by : (old : Device) (port : Driver) (rings : Rings) (pipes : Pipes) → IsWhole old → port_of (joint port) rings ≡ with_pipes (port_in old) pipes → Keep out_opened in_opened pipes (port_in old).pipes
    → IsSound FS4 (joint port) rings → capacities_of rings ≡ capacities_of old.rings → port.bank.due ≡ [] → IsWhole (record old { port = port; rings = rings })
whole_by old port rings pipes w e k s c due = record {
  agrees = record {
    sound = s;
    fits = subst (λ (p : Port). Fits FS4 old.set p old.state old.transfer) (sym e) (pipes_fit old.set (port_in old) pipes old.state old.state.configured old.transfer w.agrees.fits);
    rests = subst (λ (p : Port). Rests p old.finished old.request) (sym e) w.agrees.rests;
  };
  still = due;
  opens = subst (λ (p : Port). AreOf (opened old.set old.state.configured) p.pipes) (sym e) (keep_of (opened old.set old.state.configured) pipes (port_in old).pipes k w.opens);
  sizes = c ∙ w.sizes;
}

whole_of : (n : ℕ) (old new : Device) (pipes : Pipes) → IsWhole old → Becomes n old new (with_pipes (port_in old) pipes) → Keep out_opened in_opened pipes (port_in old).pipes → IsWhole new
whole_of n old new pipes w b k = subst IsWhole (sym b.rest) (whole_by old new.port new.rings pipes w b.port k b.sound b.sizes b.spends.1)

same_set : (n : ℕ) (old new : Device) (p : Port) → Becomes n old new p → new.set ≡ old.set
same_set n old new p b = ap (λ (d : Device). d.set) b.rest

-- An owner's pipes.

own_is : (o : Owner) (n : ℕ) (old new : Device) (pipes : Pipes) → Becomes n old new (with_pipes (port_in old) pipes) → own_of o new ≡ own_pipes old.set o pipes
own_is o n old new pipes b = ap (λ s. own_pipes s o (port_in new).pipes) (same_set n old new _ b) ∙ ap (λ (p : Port). own_pipes old.set o p.pipes) b.port

beside_of : (o : Owner) (n : ℕ) (old new : Device) (pipes : Pipes) → Becomes n old new (with_pipes (port_in old) pipes) → pipes ≡ with_own old.set o (port_in old).pipes (own_pipes old.set o pipes) → Beside o old new
beside_of o n old new pipes b h = record {
  set = ap (λ (d : Device). d.set) b.rest;
  state = ap (λ (d : Device). d.state) b.rest;
  finished = ap (λ (d : Device). d.finished) b.rest;
  request = ap (λ (d : Device). d.request) b.rest;
  transfer = ap (λ (d : Device). d.transfer) b.rest;
  port = b.port ∙ ap (with_pipes (port_in old)) (h ∙ ap (with_own old.set o (port_in old).pipes) (sym (own_is o n old new pipes b)));
  order = b.order;
  moves = b.spends.2;
}

pub record Step (o : Owner) (sends receives notifies : ℕ) (old new : Device) (own : Own) : Type 0 where
  pub pipes : own_of o new ≡ own
  pub beside : Beside o old new
  pub is : IsView o sends receives notifies new

view_of : (o : Owner) (a b c n : ℕ) (old new : Device) (p : Port) → IsView o a b c old → Becomes n old new p → IsWhole new → IsView o a b c new
view_of o a b c n old new p v s w =
    let same = sym (same_set n old new p s) in
    record {
      whole = w;
      class = v.class;
      sends_is = v.sends_is ∙ ap (λ set. number_at set o 0) same;
      receives_is = v.receives_is ∙ ap (λ set. number_at set o 1) same;
      notifies_is = v.notifies_is ∙ ap (λ set. number_at set o 2) same;
    }

-- What the endpoints of a class have.

pub view_sender : (o : Owner) (a b c pipe : ℕ) (d : Device) → IsView o a b c d → (pipe == 1) ≡ false → IsSender (port_in d).pipes d.rings (number_at d.set o pipe)
view_sender o a b c pipe d v h =
    sender_is d.set d.state.configured (port_in d).pipes d.rings pipe (number_at d.set o pipe) v.whole.agrees.fits.served v.whole.opens v.whole.sizes
    (has_in o pipe (endpoints_of d.set.config) v.whole.agrees.fits.served v.class h)

pub view_receiver : (o : Owner) (a b c : ℕ) (d : Device) → IsView o a b c d → IsReceiver (port_in d).pipes d.rings (number_at d.set o 1)
view_receiver o a b c d v =
    receiver_is d.set d.state.configured (port_in d).pipes d.rings (number_at d.set o 1) v.whole.agrees.fits.served v.whole.opens v.whole.sizes
    (has_out o (endpoints_of d.set.config) v.whole.agrees.fits.served v.class)

-- one that is open has a number
in_first : (p : Pipes) (n : ℕ) → in_hears (in_slot p n) ≡ true → 1 ≤ n
in_first p zero e = absurd (true≢false (sym e))
in_first p (suc m) e = omega arith

out_first : (p : Pipes) (n : ℕ) → is_out_open (out_slot p n).pipe.phase ≡ true → 1 ≤ n
out_first p zero e = absurd (true≢false (sym e))
out_first p (suc m) e = omega arith

counted : (n count : ℕ) → n ≤ 3 → count ≡ top_number → n ≤ count
counted n count h e = omega (arith, h, e)

-- A call on the pipe that receives.
pub out_step : (o : Owner) (a b c n : ℕ) (old new : Device) (x : OutPipe) → IsView o a b c old → is_out_open (out_slot (port_in old).pipes (number_at old.set o 1)).pipe.phase ≡ true
    → is_out_open x.phase ≡ is_out_open (out_slot (port_in old).pipes (number_at old.set o 1)).pipe.phase
    → Becomes n old new (with_out_pipe (port_in old) (number_at old.set o 1) x)
    → Step o a b c old new (with_receiver (own_of o old) (record (own_of o old).receives { pipe = x }))
out_step o a b c n old new x v opens same s =
    let p = (port_in old).pipes in
    let number = number_at old.set o 1 in
    let r : Receiver = record (own_of o old).receives { pipe = x } in
    record {
      pipes = own_is o n old new (with_receives p number r) s
          ∙ own_received old.set o p r (out_first p number opens) (counted number (length p.outs) (view_receiver o a b c old v).to v.whole.opens.outs_count);
      beside = beside_of o n old new (with_receives p number r) s (receives_stay old.set o p r);
      is = view_of o a b c n old new (with_out_pipe (port_in old) number x) v s (whole_of n old new (with_receives p number r) v.whole s (out_kept p number x same));
    }

-- A call on a pipe that sends.
first_step : (o : Owner) (a b c n : ℕ) (old new : Device) (x : InPipe) → IsView o a b c old → in_hears (in_slot (port_in old).pipes (number_at old.set o 0)) ≡ true
    → is_closed x.phase ≡ is_closed (in_slot (port_in old).pipes (number_at old.set o 0)).pipe.phase
    → Becomes n old new (with_in_pipe (port_in old) (number_at old.set o 0) x)
    → Step o a b c old new (record (own_of o old) { sends = record (own_of o old).sends { pipe = x } })
first_step o a b c n old new x v opens same s =
    let p = (port_in old).pipes in
    let number = number_at old.set o 0 in
    let r : Sender = record (own_of o old).sends { pipe = x } in
    let from = in_first p number opens in
    record {
      pipes = own_is o n old new (with_sends p number r) s
          ∙ own_sent old.set o p r from (counted number (length p.ins) (view_sender o a b c 0 old v refl).to v.whole.opens.ins_count)
          (apart o (endpoints_of old.set.config) v.whole.agrees.fits.served v.class from);
      beside = beside_of o n old new (with_sends p number r) s (sends_stay old.set o p r);
      is = view_of o a b c n old new (with_in_pipe (port_in old) number x) v s (whole_of n old new (with_sends p number r) v.whole s (in_kept p number x same));
    }

other : (a b : ℕ) → 1 ≤ b → (1 ≤ a → a ≢ b) → b ≢ a
other a b h k e = k (subst (λ n. 1 ≤ n) e h) (sym e)

second_step : (o : Owner) (a b c n : ℕ) (old new : Device) (x : InPipe) → IsView o a b c old → in_hears (in_slot (port_in old).pipes (number_at old.set o 2)) ≡ true
    → is_closed x.phase ≡ is_closed (in_slot (port_in old).pipes (number_at old.set o 2)).pipe.phase
    → Becomes n old new (with_in_pipe (port_in old) (number_at old.set o 2) x)
    → Step o a b c old new (record (own_of o old) { notifies = record (own_of o old).notifies { pipe = x } })
second_step o a b c n old new x v opens same s =
    let p = (port_in old).pipes in
    let number = number_at old.set o 2 in
    let r : Sender = record (own_of o old).notifies { pipe = x } in
    let from = in_first p number opens in
    record {
      pipes = own_is o n old new (with_sends p number r) s
          ∙ own_notified old.set o p r from (counted number (length p.ins) (view_sender o a b c 2 old v refl).to v.whole.opens.ins_count)
          (other (number_at old.set o 0) number from (apart o (endpoints_of old.set.config) v.whole.agrees.fits.served v.class));
      beside = beside_of o n old new (with_sends p number r) s (notifies_stay old.set o p r);
      is = view_of o a b c n old new (with_in_pipe (port_in old) number x) v s (whole_of n old new (with_sends p number r) v.whole s (in_kept p number x same));
    }

pub in_step : (o : Owner) (a b c n pipe : ℕ) (old new : Device) (x : InPipe) → Sends pipe → IsView o a b c old → in_hears (in_slot (port_in old).pipes (number_at old.set o pipe)) ≡ true
    → is_closed x.phase ≡ is_closed (in_slot (port_in old).pipes (number_at old.set o pipe)).pipe.phase
    → Becomes n old new (with_in_pipe (port_in old) (number_at old.set o pipe) x)
    → Step o a b c old new (with_sender (own_of o old) pipe (record (sender (own_of o old) pipe) { pipe = x }))
in_step o a b c n pipe old new x (inl e) =
    subst (λ pipe. IsView o a b c old → in_hears (in_slot (port_in old).pipes (number_at old.set o pipe)) ≡ true
    → is_closed x.phase ≡ is_closed (in_slot (port_in old).pipes (number_at old.set o pipe)).pipe.phase
    → Becomes n old new (with_in_pipe (port_in old) (number_at old.set o pipe) x)
    → Step o a b c old new (with_sender (own_of o old) pipe (record (sender (own_of o old) pipe) { pipe = x })))
    (sym e) (first_step o a b c n old new x)
in_step o a b c n pipe old new x (inr e) =
    subst (λ pipe. IsView o a b c old → in_hears (in_slot (port_in old).pipes (number_at old.set o pipe)) ≡ true
    → is_closed x.phase ≡ is_closed (in_slot (port_in old).pipes (number_at old.set o pipe)).pipe.phase
    → Becomes n old new (with_in_pipe (port_in old) (number_at old.set o pipe) x)
    → Step o a b c old new (with_sender (own_of o old) pipe (record (sender (own_of o old) pipe) { pipe = x })))
    (sym e) (second_step o a b c n old new x)
