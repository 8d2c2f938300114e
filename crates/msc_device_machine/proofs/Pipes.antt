-- What the pipes of a device do in a run: a packet is taken only where one is waited for, and never beside a transfer.
use Rattle.std.proofs.Common.{◌≡◌, inl, inr, ℕ, ◌+◌, ◌-◌, ◌*◌, ◌≤◌, List, [], ◌∷◌, ◌++◌, length, take, drop, Bool, true, false, not, ◌||◌, ◌&&◌, Option, Some, None, arith, refl, sym, ap, subst, ◌∙◌}
use Rattle.std.specs.Prelude.{⊤, min, ◌==◌, nat_lt, nat_le, if◌then◌else◌}
use Rattle.std.proofs.lemmas.Bool.{cond_both, both_ways, and_parts, cases_Bool, false_from_ne_true, or_right, leb-true}
use Rattle.std.proofs.lemmas.List.{drop_all}
use Rattle.usb_packet.specs.declared.setup.Setup.{Setup}
use Rattle.device_pipe.specs.InPipe as inward
use Rattle.device_pipe.specs.InPipe.{InPipe, InPhase}
use Rattle.device_pipe.specs.OutPipe.{OutPipe}
use Rattle.usb_pipe.specs.declared.call.MscDeviceCall.{MscDeviceCall}
use Rattle.usb_pipe.specs.Own.{Own, Sender, Receiver, phase_at, in_phase, unless_halted, held_at, started, armed, halted_at}
use Rattle.usb_edge.specs.Disk.{Shelf, block_size}
use Rattle.class_pipes.specs.Pipes.{data_in, is_rest, is_shut, may_arm, may_start, with_started, with_armed}
use Rattle.scsi_core.specs.declared.Move.{Move}
use Rattle.scsi_core.specs.declared.Move.TheVariants as move
use Rattle.scsi_core.specs.Command as scsi
use Rattle.msc_device_machine.specs.declared.transport.Flow.{Flow}
use Rattle.msc_device_machine.specs.declared.transport.Transport.{Transport}
use Rattle.msc_device_machine.specs.declared.transport.Transport.TheVariants.{Command, Broken, Sending, Receiving, Status}
use Rattle.msc_device_machine.specs.declared.transport.Due.{Due}
use Rattle.msc_device_machine.specs.declared.transport.Due.TheVariants as due
use Rattle.msc_device_machine.specs.Wrapper.{Wrapper, is_good, wrapper_of}
use Rattle.msc_device_machine.specs.Cases.{Row, row_for, Nothing}
use Rattle.msc_device_machine.specs.Storage.{Storage, after_setup, is_reset, Turn, Step, turned, goes, with_halt, with_end, with_data, flow_of, expected, intended, unmoved, moving, flow_row, due_pipe, with_fault, by_row, wrapped, shut_off, moved_by, gathered, received, stored, sent_on, with_packet_read, packet, noted, at_packet, at_end, by_notes, unless_broken, taken_up, with_sense, read_error, write_error, synced, read_on, wrote_on, resumed, wants_packet, served, worked, after_call}
use Rattle.msc_device_machine.specs.Runs.{Run, in_of, out_of, is_armed, is_running, came, left, cleared_in, after_turn, after_turns, made}
use Rattle.msc_device_machine.specs.Runs as turn
use Rattle.msc_device_machine.specs.Laws.{PacketsAreWaitedFor}

-- What is queued: nothing where a packet is waited for or the transport is broken, nor where a transfer's end is to be taken up.
abbrev pub Queued : Transport → Bool → List ℕ → Type 0
Queued Command e q = q ≡ []
Queued Broken e q = q ≡ []
Queued (Receiving flow) e q = q ≡ []
Queued (Sending flow loaded) e q = e ≡ true → q ≡ []
Queued Status e q = e ≡ true → q ≡ []

-- a transfer of all that is queued runs
abbrev pub IsWhole : InPhase → List ℕ → Type 0
IsWhole (inward.Running n left) q = n ≡ length q
IsWhole inward.Closed q = ⊥
IsWhole inward.Rest q = ⊥
IsWhole (inward.Posted n) q = ⊥

pub record InFits (s : Storage) (pipe : InPipe) : Type 0 where
  pub queue : Queued s.transport s.ended pipe.queue
  pub way : s.under_way ≡ true → (wants_packet s.transport ≡ false) × IsWhole pipe.phase pipe.queue
  pub rest : s.under_way ≡ false → is_running pipe.phase ≡ false
  pub apart : s.ended ≡ true → s.under_way ≡ false

pub record OutFits (s : Storage) (pipe : OutPipe) : Type 0 where
  pub armed_ : is_armed pipe.phase ≡ true → (wants_packet s.transport ≡ true) × (s.came ≡ false)
  pub taken : s.came ≡ true → wants_packet s.transport ≡ true
  pub few : length pipe.held ≤ 64
  pub held : s.came ≡ false → pipe.held ≡ []

pub record PipesFit (s : Storage) (own : Own) : Type 0 where
  pub room : 512 ≤ own.sends.capacity
  pub sends : InFits s own.sends.pipe
  pub receives : OutFits s own.receives.pipe

no : false ≡ true → ⊥
no e = both_ways false refl e

yes : true ≡ false → ⊥
yes e = both_ways true e refl

-- where a packet is waited for nothing is queued
pub wants_nothing : (t : Transport) (e : Bool) (q : List ℕ) → wants_packet t ≡ true → Queued t e q → q ≡ []
wants_nothing Command e q w h = h
wants_nothing Broken e q w h = h
wants_nothing (Receiving flow) e q w h = h
wants_nothing (Sending flow loaded) e q w h = absurd (no w)
wants_nothing Status e q w h = absurd (no w)

pub ended_nothing : (t : Transport) (q : List ℕ) → Queued t true q → q ≡ []
ended_nothing Command q h = h
ended_nothing Broken q h = h
ended_nothing (Receiving flow) q h = h
ended_nothing (Sending flow loaded) q h = h refl
ended_nothing Status q h = h refl

nothing_queued : (t : Transport) (e : Bool) → Queued t e []
nothing_queued Command e = refl
nothing_queued Broken e = refl
nothing_queued (Receiving flow) e = refl
nothing_queued (Sending flow loaded) e = λ _. refl
nothing_queued Status e = λ _. refl

beyond_whole : (phase : InPhase) (q : List ℕ) → IsWhole phase q → inward.beyond_transfer phase q ≡ []
beyond_whole (inward.Running n left) q h = drop_all n q (omega (arith, h))
beyond_whole inward.Closed q h = absurd h
beyond_whole inward.Rest q h = absurd h
beyond_whole (inward.Posted n) q h = absurd h

beyond_rest : (phase : InPhase) (q : List ℕ) → is_running phase ≡ false → inward.beyond_transfer phase q ≡ q
beyond_rest (inward.Running n left) q h = absurd (yes h)
beyond_rest inward.Closed q h = refl
beyond_rest inward.Rest q h = refl
beyond_rest (inward.Posted n) q h = refl

rests : (phase : InPhase) → is_running (inward.at_rest phase) ≡ false
rests (inward.Running n left) = refl
rests inward.Closed = refl
rests inward.Rest = refl
rests (inward.Posted n) = refl

-- What is told of the pipes.

ended_fits : (b : Bool) (s : Storage) (pipe new : InPipe) → s.under_way ≡ b → InFits s pipe
    → new.queue ≡ inward.beyond_transfer pipe.phase pipe.queue → new.phase ≡ inward.at_rest pipe.phase
    → InFits (if b then record s { ended = true; under_way = false } else s) new
ended_fits true s pipe new e h q p =
    let none : new.queue ≡ [] = q ∙ beyond_whole pipe.phase pipe.queue (h.way e).1 in
    record {
      queue = rw none (nothing_queued s.transport true);
      way = λ u. absurd (no u);
      rest = λ _. rw p (rests pipe.phase);
      apart = λ _. refl;
    }
ended_fits false s pipe new e h q p =
    let same : new.queue ≡ pipe.queue = q ∙ beyond_rest pipe.phase pipe.queue (h.rest e) in
    record {
      queue = rw same h.queue;
      way = λ u. absurd (both_ways s.under_way e u);
      rest = λ _. rw p (rests pipe.phase);
      apart = h.apart;
    }

out_kept : (b : Bool) (s : Storage) (pipe : OutPipe) → OutFits s pipe → OutFits (if b then record s { ended = true; under_way = false } else s) pipe
out_kept true s pipe h = record { armed_ = h.armed_; taken = h.taken; few = h.few; held = h.held }
out_kept false s pipe h = h

left_fits : (run : Run) → PipesFit run.storage run.own → PipesFit (left run).storage (left run).own
left_fits run h = record {
  room = h.room;
  sends = ended_fits run.storage.under_way run.storage (in_of run) (in_of (left run)) refl h.sends refl refl;
  receives = out_kept run.storage.under_way run.storage (out_of run) h.receives;
}

cleared_fits : (run : Run) → PipesFit run.storage run.own → PipesFit (cleared_in run).storage (cleared_in run).own
cleared_fits run h = record {
  room = h.room;
  sends = ended_fits run.storage.under_way run.storage (in_of run) (inward.cleared (in_of run)) refl h.sends refl refl;
  receives = out_kept run.storage.under_way run.storage (out_of run) h.receives;
}

came_fits : (run : Run) (packet : List ℕ) → is_armed (out_of run).phase ≡ true → length packet ≤ 64 → PipesFit run.storage run.own → PipesFit (came run packet).storage (came run packet).own
came_fits run packet a few h =
    let was = h.receives.armed_ a in
    let none = h.receives.held was.1 in
    record {
      room = h.room;
      sends = record { queue = h.sends.queue; way = h.sends.way; rest = h.sends.rest; apart = h.sends.apart };
      receives = record { armed_ = λ e. absurd (no e); taken = λ _. was.0; few = rw none few; held = λ e. absurd (yes e) };
    }

setup_fits : (run : Run) (setup : Setup) → PipesFit run.storage run.own → PipesFit (after_setup run.storage setup) run.own
setup_fits run setup h =
    cond_both (is_reset setup) _ _ (λ s. PipesFit s run.own)
    (λ _. record {
      room = h.room;
      sends = record { queue = h.sends.queue; way = h.sends.way; rest = h.sends.rest; apart = h.sends.apart };
      receives = record { armed_ = h.receives.armed_; taken = h.receives.taken; few = h.receives.few; held = h.receives.held };
    })
    (λ _. h)

call_fits : (run : Run) (call : MscDeviceCall) → PipesFit run.storage run.own → PipesFit (after_call run.storage call) run.own
call_fits run call h = record {
  room = h.room;
  sends = record { queue = h.sends.queue; way = h.sends.way; rest = h.sends.rest; apart = h.sends.apart };
  receives = record { armed_ = h.receives.armed_; taken = h.receives.taken; few = h.receives.few; held = h.receives.held };
}

-- The work, before the disk is asked and after its answer.

-- where the disk is to be asked nothing is queued or under way
abbrev pub IsIdle : Due → Turn → Type 0
IsIdle due.Nothing t = ⊤
IsIdle (due.Read flow) t = (t.own.sends.pipe.queue ≡ []) × (t.storage.under_way ≡ false) × (is_armed t.own.receives.pipe.phase ≡ false)
IsIdle (due.Write flow is_over) t = (t.own.sends.pipe.queue ≡ []) × (t.storage.under_way ≡ false) × (is_armed t.own.receives.pipe.phase ≡ false)
IsIdle (due.Sync tag host is_in) t = (t.own.sends.pipe.queue ≡ []) × (t.storage.under_way ≡ false) × (is_armed t.own.receives.pipe.phase ≡ false)

pub record TurnPipes (t : Turn) : Type 0 where
  pub room : 512 ≤ t.own.sends.capacity
  pub no_packet : t.storage.came ≡ false
  pub no_end : t.storage.ended ≡ false
  pub held : t.own.receives.pipe.held ≡ []
  pub out : is_armed t.own.receives.pipe.phase ≡ true → wants_packet t.storage.transport ≡ true
  pub sends : InFits t.storage t.own.sends.pipe

-- nothing is queued, under way or armed
pub record Quiet (t : Turn) : Type 0 where
  pub room : 512 ≤ t.own.sends.capacity
  pub no_packet : t.storage.came ≡ false
  pub no_end : t.storage.ended ≡ false
  pub held : t.own.receives.pipe.held ≡ []
  pub queue : t.own.sends.pipe.queue ≡ []
  pub no_way : t.storage.under_way ≡ false
  pub rest : is_running t.own.sends.pipe.phase ≡ false
  pub unarmed : is_armed t.own.receives.pipe.phase ≡ false

pub record StepPipes (step : Step) : Type 0 where
  pub turn_ : TurnPipes step.turn
  pub idle : IsIdle step.due step.turn

-- a quiet device after which anything is queued for the host, or nothing
quiet_turn : (t : Turn) → Quiet t → TurnPipes t
quiet_turn t h = record {
  room = h.room;
  no_packet = h.no_packet;
  no_end = h.no_end;
  held = h.held;
  out = λ a. absurd (both_ways (is_armed t.own.receives.pipe.phase) h.unarmed a);
  sends = record {
    queue = rw h.queue (nothing_queued t.storage.transport t.storage.ended);
    way = λ u. absurd (both_ways t.storage.under_way h.no_way u);
    rest = λ _. h.rest;
    apart = λ e. h.no_way;
  };
}

-- a halt leaves all bytes and phases
pub record SameBytes (own new : Own) : Type 0 where
  pub capacity : new.sends.capacity ≡ own.sends.capacity
  pub queue : new.sends.pipe.queue ≡ own.sends.pipe.queue
  pub sends : new.sends.pipe.phase ≡ own.sends.pipe.phase
  pub held : new.receives.pipe.held ≡ own.receives.pipe.held
  pub receives : new.receives.pipe.phase ≡ own.receives.pipe.phase

same : (own : Own) → SameBytes own own
same own = record { capacity = refl; queue = refl; sends = refl; held = refl; receives = refl }

halted_same : (own : Own) (n : ℕ) → SameBytes own (halted_at own n)
halted_same own n = elim (cases_Bool (n == 1)) [
  | inl one ↦ rw one (record { capacity = refl; queue = refl; sends = refl; held = refl; receives = refl })
  | inr not_one ↦ elim (cases_Bool (n == 2)) [
    | inl two ↦ rw (not_one, two) (record { capacity = refl; queue = refl; sends = refl; held = refl; receives = refl })
    | inr not_two ↦ rw (not_one, not_two) (record { capacity = refl; queue = refl; sends = refl; held = refl; receives = refl })
  ]
]

pub with_halt_same : (own : Own) (halts : Option ℕ) → SameBytes own (with_halt own halts)
with_halt_same own None = same own
with_halt_same own (Some n) = halted_same own n

-- from there a status wrapper or data is queued
end_pipes : (t : Turn) (halts : Option ℕ) (tag residue status : ℕ) → Quiet t → TurnPipes (with_end t halts tag residue status)
end_pipes t halts tag residue status h =
    let k = with_halt_same t.own halts in
    record {
      room = rw k.capacity h.room;
      no_packet = h.no_packet;
      no_end = h.no_end;
      held = rw k.held h.held;
      out = λ a. absurd (both_ways (is_armed t.own.receives.pipe.phase) h.unarmed (ap is_armed (sym k.receives) ∙ a));
      sends = record {
        queue = λ e. absurd (both_ways t.storage.ended h.no_end e);
        way = λ u. absurd (both_ways t.storage.under_way h.no_way u);
        rest = λ _. ap is_running k.sends ∙ h.rest;
        apart = λ _. h.no_way;
      };
    }

data_pipes : (t : Turn) (flow : Flow) (bytes : List ℕ) → Quiet t → TurnPipes (with_data t flow bytes)
data_pipes t flow bytes h = record {
  room = h.room;
  no_packet = h.no_packet;
  no_end = h.no_end;
  held = h.held;
  out = λ a. absurd (both_ways (is_armed t.own.receives.pipe.phase) h.unarmed a);
  sends = record {
    queue = λ e. absurd (both_ways t.storage.ended h.no_end e);
    way = λ u. absurd (both_ways t.storage.under_way h.no_way u);
    rest = λ _. h.rest;
    apart = λ _. h.no_way;
  };
}

ends : (t : Turn) (halts : Option ℕ) (tag residue status : ℕ) → Quiet t → StepPipes (goes (with_end t halts tag residue status))
ends t halts tag residue status h = record { turn_ = end_pipes t halts tag residue status h; idle = tt }

-- a step that leaves what the disk is to be asked
asking : (t : Turn) → Quiet t → (t.own.sends.pipe.queue ≡ []) × (t.storage.under_way ≡ false) × (is_armed t.own.receives.pipe.phase ≡ false)
asking t h = (h.queue, h.no_way, h.unarmed)

unmoved_pipes : (t : Turn) (w : Wrapper) (r : Row) (m : Move) → Quiet t → StepPipes (unmoved t w r m)
unmoved_pipes t w r move.None h = record { turn_ = end_pipes t r.halts w.tag w.length 0 h; idle = tt }
unmoved_pipes t w r (move.In bytes) h = record { turn_ = end_pipes t r.halts w.tag w.length 0 h; idle = tt }
unmoved_pipes t w r (move.Read lba count) h = record { turn_ = end_pipes t r.halts w.tag w.length 0 h; idle = tt }
unmoved_pipes t w r (move.Write lba count) h = record { turn_ = end_pipes t r.halts w.tag w.length 0 h; idle = tt }
unmoved_pipes t w r move.Sync h = record { turn_ = quiet_turn t h; idle = asking t h }
unmoved_pipes t w r (move.Fail sense) h = record { turn_ = end_pipes t r.halts w.tag w.length 1 h; idle = tt }

-- the same pipes beside another storage
pub beside : (t : Turn) (s : Storage) → s.came ≡ t.storage.came → s.ended ≡ t.storage.ended → s.under_way ≡ t.storage.under_way → Quiet t → Quiet (turned s t.own)
beside t s a b c h = record {
  room = h.room;
  no_packet = a ∙ h.no_packet;
  no_end = b ∙ h.no_end;
  held = h.held;
  queue = h.queue;
  no_way = c ∙ h.no_way;
  rest = h.rest;
  unarmed = h.unarmed;
}

abbrev receiving : Storage → Flow → Storage
receiving s flow = record s { transport = Receiving flow }

moving_pipes : (t : Turn) (w : Wrapper) (r : Row) (m : Move) → Quiet t → StepPipes (moving t w r m)
moving_pipes t w r move.None h = unmoved_pipes t w r move.None h
moving_pipes t w r (move.In bytes) h = record { turn_ = data_pipes t (flow_of w (length bytes.items) 0) bytes.items h; idle = tt }
moving_pipes t w r (move.Read lba count) h = record { turn_ = quiet_turn t h; idle = asking t h }
moving_pipes t w r (move.Write lba count) h = record { turn_ = quiet_turn (turned (receiving t.storage (flow_of w (block_size * count) lba)) t.own) (beside t (receiving t.storage (flow_of w (block_size * count) lba)) refl refl refl h); idle = tt }
moving_pipes t w r move.Sync h = unmoved_pipes t w r move.Sync h
moving_pipes t w r (move.Fail sense) h = unmoved_pipes t w r (move.Fail sense) h

by_row_pipes : (t : Turn) (w : Wrapper) (r : Row) (m : Move) → Quiet t → StepPipes (by_row t w r m)
by_row_pipes t w r m h =
    cond_both r.is_phase_error _ _ StepPipes (λ _. ends t r.halts w.tag w.length 2 h)
    (λ _. cond_both r.moves _ _ StepPipes (λ _. moving_pipes t w r m h) (λ _. unmoved_pipes t w r m h))

wrapped_pipes : (t : Turn) (bytes : List ℕ) → Quiet t → StepPipes (wrapped t bytes)
wrapped_pipes t bytes h =
    let w = wrapper_of bytes in
    let o = scsi.worked t.storage.unit w.command in
    cond_both (is_good bytes) _ _ StepPipes
    (λ _. by_row_pipes (record t { storage = record t.storage { unit = o.leaves } }) w (row_for (expected w.is_in w.length) (intended o.moves)) o.moves (beside t (record t.storage { unit = o.leaves }) refl refl refl h))
    (λ _. record {
      turn_ = quiet_turn (turned (record t.storage { transport = Broken }) (shut_off t.own)) (record {
        room = h.room;
        no_packet = h.no_packet;
        no_end = h.no_end;
        held = h.held;
        queue = h.queue;
        no_way = h.no_way;
        rest = h.rest;
        unarmed = h.unarmed;
      });
      idle = tt;
    })

gathered_pipes : (t : Turn) (flow : Flow) (bytes : List ℕ) (is_over : Bool) → Quiet t → StepPipes (gathered t flow bytes is_over)
gathered_pipes t flow bytes is_over h =
    let s : Storage = record t.storage { block = bytes; transport = Receiving flow } in
    let q = beside t s refl refl refl h in
    cond_both (nat_lt (length bytes) 512) _ _ StepPipes
    (λ _. record { turn_ = quiet_turn (turned s t.own) q; idle = tt })
    (λ _. record { turn_ = quiet_turn (turned s t.own) q; idle = asking (turned s t.own) q })

sent_on_pipes : (t : Turn) (flow : Flow) → Quiet t → StepPipes (sent_on t flow)
sent_on_pipes t flow h =
    cond_both (flow.moved == flow.device) _ _ StepPipes
    (λ _. ends t (flow_row true flow).halts flow.tag (flow.host - flow.moved) 0 h)
    (λ _. record { turn_ = quiet_turn t h; idle = asking t h })

-- What is taken up.

receiving_pipes : (t : Turn) (flow : Flow) (bytes : List ℕ) → Quiet t → StepPipes (received t flow bytes)
receiving_pipes t flow bytes h =
    let left = flow.device - flow.moved in
    gathered_pipes t (moved_by flow (min left (length bytes))) (t.storage.block ++ take left bytes) (nat_lt left (length bytes)) h

at_packet_pipes : (transport : Transport) (t : Turn) (bytes : List ℕ) → Quiet t → StepPipes (at_packet transport t bytes)
at_packet_pipes Command t bytes h = wrapped_pipes t bytes h
at_packet_pipes (Receiving flow) t bytes h = receiving_pipes t flow bytes h
at_packet_pipes Broken t bytes h = record { turn_ = quiet_turn t h; idle = tt }
at_packet_pipes (Sending flow loaded) t bytes h = record { turn_ = quiet_turn t h; idle = tt }
at_packet_pipes Status t bytes h = record { turn_ = quiet_turn t h; idle = tt }

-- the notes of a task in which no packet came
unnoted : (t : Transport) (e : Bool) (q : List ℕ) → Queued t e q → Queued t false q
unnoted Command e q h = h
unnoted Broken e q h = h
unnoted (Receiving flow) e q h = h
unnoted (Sending flow loaded) e q h = λ no_end. absurd (no no_end)
unnoted Status e q h = λ no_end. absurd (no no_end)

noted_turn : (s : Storage) (own : Own) → s.came ≡ false → PipesFit s own → TurnPipes (turned (noted s) own)
noted_turn s own e h = record {
  room = h.room;
  no_packet = refl;
  no_end = refl;
  held = h.receives.held e;
  out = λ a. (h.receives.armed_ a).0;
  sends = record {
    queue = unnoted s.transport s.ended own.sends.pipe.queue h.sends.queue;
    way = h.sends.way;
    rest = h.sends.rest;
    apart = λ no_end. absurd (no no_end);
  };
}

pub ended_quiet : (s : Storage) (own : Own) → s.came ≡ false → s.ended ≡ true → wants_packet s.transport ≡ false → PipesFit s own → Quiet (turned (noted s) own)
ended_quiet s own c e w h =
    let u = h.sends.apart e in
    let q : Queued s.transport true own.sends.pipe.queue = rw e at h.sends.queue in
    record {
      room = h.room;
      no_packet = refl;
      no_end = refl;
      held = h.receives.held c;
      queue = ended_nothing s.transport own.sends.pipe.queue q;
      no_way = u;
      rest = h.sends.rest u;
      unarmed = false_from_ne_true (is_armed own.receives.pipe.phase) (λ a. both_ways (wants_packet s.transport) w (h.receives.armed_ a).0);
    }

at_end_pipes : (transport : Transport) (s : Storage) (own : Own) → s.transport ≡ transport → s.came ≡ false → s.ended ≡ true → PipesFit s own → StepPipes (at_end transport (turned (noted s) own))
at_end_pipes (Sending flow loaded) s own t c e h = sent_on_pipes (turned (noted s) own) (moved_by flow loaded) (ended_quiet s own c e (ap wants_packet t) h)
at_end_pipes Status s own t c e h =
    let q = ended_quiet s own c e (ap wants_packet t) h in
    record { turn_ = quiet_turn (turned (record (noted s) { transport = Command }) own) (beside (turned (noted s) own) (record (noted s) { transport = Command }) refl refl refl q); idle = tt }
at_end_pipes Command s own t c e h = record { turn_ = noted_turn s own c h; idle = tt }
at_end_pipes Broken s own t c e h = record { turn_ = noted_turn s own c h; idle = tt }
at_end_pipes (Receiving flow) s own t c e h = record { turn_ = noted_turn s own c h; idle = tt }

pub came_quiet : (s : Storage) (own : Own) → s.came ≡ true → PipesFit s own → Quiet (turned (noted s) (with_packet_read own))
came_quiet s own c h =
    let w = h.receives.taken c in
    let u = false_from_ne_true s.under_way (λ (u : s.under_way ≡ true). both_ways (wants_packet s.transport) (h.sends.way u).0 w) in
    record {
      room = h.room;
      no_packet = refl;
      no_end = refl;
      held = drop_all 64 own.receives.pipe.held h.receives.few;
      queue = wants_nothing s.transport s.ended own.sends.pipe.queue w h.sends.queue;
      no_way = u;
      rest = h.sends.rest u;
      unarmed = false_from_ne_true (is_armed own.receives.pipe.phase) (λ a. both_ways s.came (h.receives.armed_ a).1 c);
    }

by_notes_pipes : (s : Storage) (own : Own) → PipesFit s own → StepPipes (by_notes s own)
by_notes_pipes s own h =
    cond_both s.came _ _ StepPipes
    (λ c. at_packet_pipes s.transport (turned (noted s) (with_packet_read own)) (packet own) (came_quiet s own c h))
    (λ c. cond_both s.ended _ _ StepPipes
    (λ e. at_end_pipes s.transport s own refl c e h)
    (λ _. record { turn_ = noted_turn s own c h; idle = tt }))

broken_pipes : (s : Storage) (own : Own) → s.transport ≡ Broken → PipesFit s own → StepPipes (goes (turned (noted s) (shut_off own)))
broken_pipes s own t h =
    let c = false_from_ne_true s.came (λ (c : s.came ≡ true). both_ways (wants_packet s.transport) (ap wants_packet t) (h.receives.taken c)) in
    let n = noted_turn s own c h in
    record {
      turn_ = record {
        room = n.room;
        no_packet = refl;
        no_end = refl;
        held = n.held;
        out = n.out;
        sends = record { queue = n.sends.queue; way = n.sends.way; rest = n.sends.rest; apart = n.sends.apart };
      };
      idle = tt;
    }

unless_broken_pipes : (transport : Transport) (s : Storage) (own : Own) → s.transport ≡ transport → PipesFit s own → StepPipes (unless_broken transport s own)
unless_broken_pipes Broken s own t h = broken_pipes s own t h
unless_broken_pipes Command s own t h = by_notes_pipes s own h
unless_broken_pipes (Sending flow loaded) s own t h = by_notes_pipes s own h
unless_broken_pipes (Receiving flow) s own t h = by_notes_pipes s own h
unless_broken_pipes Status s own t h = by_notes_pipes s own h

pub taken_up_pipes : (s : Storage) (own : Own) → PipesFit s own → StepPipes (taken_up s own)
taken_up_pipes s own h =
    cond_both s.reset _ _ StepPipes
    (λ _. record {
      turn_ = record {
        room = h.room;
        no_packet = refl;
        no_end = refl;
        held = refl;
        out = λ _. refl;
        sends = record { queue = refl; way = λ u. absurd (no u); rest = λ _. rests own.sends.pipe.phase; apart = λ _. refl };
      };
      idle = tt;
    })
    (λ _. unless_broken_pipes s.transport s own refl h)

-- What the disk's answer leaves.

pub quiet_of : (t : Turn) → TurnPipes t → (t.own.sends.pipe.queue ≡ []) × (t.storage.under_way ≡ false) × (is_armed t.own.receives.pipe.phase ≡ false) → Quiet t
quiet_of t h i = record {
  room = h.room;
  no_packet = h.no_packet;
  no_end = h.no_end;
  held = h.held;
  queue = i.0;
  no_way = i.1;
  rest = h.sends.rest i.1;
  unarmed = i.2;
}

read_on_pipes : (t : Turn) (flow : Flow) (answer : Option (List ℕ)) → Quiet t → TurnPipes (read_on t flow answer)
read_on_pipes t flow (Some block) h = data_pipes t (record flow { next = flow.next + 1 }) block h
read_on_pipes t flow None h =
    end_pipes (with_fault t read_error) (due_pipe true flow) flow.tag (flow.host - flow.moved) 1 (beside t (with_sense t.storage read_error) refl refl refl h)

stored_pipes : (t : Turn) (flow : Flow) (is_over : Bool) → Quiet t → TurnPipes (stored t flow is_over)
stored_pipes t flow is_over h =
    let s : Storage = record t.storage { transport = Receiving (record flow { next = flow.next + 1 }); block = drop 512 t.storage.block } in
    cond_both (flow.moved == flow.device) _ _ TurnPipes
    (λ _. end_pipes t (flow_row false flow).halts flow.tag (flow.host - flow.moved) (if is_over then 2 else 0) h)
    (λ _. quiet_turn (turned s t.own) (beside t s refl refl refl h))

wrote_on_pipes : (t : Turn) (flow : Flow) (is_over : Bool) (answer : Option (List ℕ)) → Quiet t → TurnPipes (wrote_on t flow is_over answer)
wrote_on_pipes t flow is_over (Some bytes) h = stored_pipes t flow is_over h
wrote_on_pipes t flow is_over None h =
    let f : Flow = record flow { moved = flow.moved - length (drop 512 t.storage.block) } in
    end_pipes (with_fault t write_error) (due_pipe false f) f.tag (f.host - f.moved) (if is_over then 2 else 1) (beside t (with_sense t.storage write_error) refl refl refl h)

synced_pipes : (t : Turn) (tag host : ℕ) (is_in : Bool) (answer : Option (List ℕ)) → Quiet t → TurnPipes (synced t tag host is_in answer)
synced_pipes t tag host is_in (Some bytes) h = end_pipes t (row_for (expected is_in host) Nothing).halts tag host 0 h
synced_pipes t tag host is_in None h =
    end_pipes (with_fault t write_error) (row_for (expected is_in host) Nothing).halts tag host 1 (beside t (with_sense t.storage write_error) refl refl refl h)

resumed_by : (t : Turn) (d : Due) (answer : Option (List ℕ)) → TurnPipes t → IsIdle d t → TurnPipes (resumed t d answer)
resumed_by t due.Nothing answer h i = h
resumed_by t (due.Read flow) answer h i = read_on_pipes t flow answer (quiet_of t h i)
resumed_by t (due.Write flow is_over) answer h i = wrote_on_pipes t flow is_over answer (quiet_of t h i)
resumed_by t (due.Sync tag host is_in) answer h i = synced_pipes t tag host is_in answer (quiet_of t h i)

pub resumed_pipes : (step : Step) (answer : Option (List ℕ)) → StepPipes step → TurnPipes (resumed step.turn step.due answer)
resumed_pipes step answer h = resumed_by step.turn step.due answer h.turn_ h.idle

-- What is served at last.

rest_phase : (phase : InPhase) (halted : Bool) → is_rest (unless_halted halted (in_phase phase)) ≡ true → phase ≡ inward.Rest
rest_phase phase true e = absurd (no e)
rest_phase inward.Rest false e = refl
rest_phase inward.Closed false e = absurd (no e)
rest_phase (inward.Running n left) false e = absurd (no e)
rest_phase (inward.Posted n) false e = absurd (no e)

started_whole : (size : ℕ) (q : List ℕ) (phase : InPhase) → phase ≡ inward.Rest → IsWhole (inward.phase_started size q phase) q
started_whole size q phase e = rw e refl

-- where anything is queued no packet is waited for
some_unwanted : (t : Transport) (e : Bool) (q : List ℕ) → Queued t e q → not (length q == 0) ≡ true → wants_packet t ≡ false
some_unwanted t e q h some =
    false_from_ne_true (wants_packet t)
    (λ w. let none = wants_nothing t e q w h in let k = rw none at some in no k)

or_nothing : (b : Bool) → (b || false) ≡ b
or_nothing true = refl
or_nothing false = refl

served_in : (b : Bool) (t : Turn) → may_start t.own data_in ≡ b → TurnPipes t
    → InFits (record t.storage { under_way = t.storage.under_way || b }) (if b then started t.own data_in else t.own).sends.pipe
served_in true t e h =
    let both = and_parts (is_rest (phase_at t.own data_in)) (not (held_at t.own data_in == 0)) e in
    let at = rest_phase t.own.sends.pipe.phase t.own.sends.pipe.halted both.0 in
    record {
      queue = h.sends.queue;
      way = λ _. (
        some_unwanted t.storage.transport t.storage.ended t.own.sends.pipe.queue h.sends.queue both.1,
        started_whole t.own.sends.size t.own.sends.pipe.queue t.own.sends.pipe.phase at,
      );
      rest = λ u. absurd (both_ways (t.storage.under_way || true) u (or_right t.storage.under_way true refl));
      apart = λ e. absurd (both_ways t.storage.ended h.no_end e);
    }
served_in false t e h =
    let u = or_nothing t.storage.under_way in
    record {
      queue = h.sends.queue;
      way = λ v. h.sends.way (sym u ∙ v);
      rest = λ v. h.sends.rest (sym u ∙ v);
      apart = λ e. absurd (both_ways t.storage.ended h.no_end e);
    }

pub record OutServed (wants : Bool) (pipe : OutPipe) : Type 0 where
  pub held : pipe.held ≡ []
  pub out : is_armed pipe.phase ≡ true → wants ≡ true

armed_served : (own : Own) → own.receives.pipe.held ≡ [] → OutServed true (with_armed own).receives.pipe
armed_served own e =
    cond_both (may_arm own) (armed own) own (λ (o : Own). OutServed true o.receives.pipe) (λ _. record { held = e; out = λ _. refl }) (λ _. record { held = e; out = λ _. refl })

wanted_served : (b : Bool) (own : Own) → own.receives.pipe.held ≡ [] → (is_armed own.receives.pipe.phase ≡ true → b ≡ true) → OutServed b (if b then with_armed own else own).receives.pipe
wanted_served true own e h = armed_served own e
wanted_served false own e h = record { held = e; out = h }

-- what is started leaves the pipe that receives, and what is armed the one that sends
wanted_apart : (b : Bool) (own : Own) → (if b then with_armed own else own).sends ≡ own.sends
wanted_apart true own = cond_both (may_arm own) (armed own) own (λ (o : Own). o.sends ≡ own.sends) (λ _. refl) (λ _. refl)
wanted_apart false own = refl

started_apart : (b : Bool) (own : Own) → (if b then started own data_in else own).receives ≡ own.receives
started_apart true own = refl
started_apart false own = refl

started_room : (b : Bool) (own : Own) → (if b then started own data_in else own).sends.capacity ≡ own.sends.capacity
started_room true own = refl
started_room false own = refl

pub served_pipes : (t : Turn) → TurnPipes t → PipesFit (served t).storage (served t).own
served_pipes t h =
    let b = may_start t.own data_in in
    let own = with_started t.own data_in in
    let w = wants_packet t.storage.transport in
    let in_ = served_in b t refl h in
    let r = started_apart b t.own in
    let o = wanted_served w own (ap (λ (x : Receiver). x.pipe.held) r ∙ h.held) (λ a. h.out (ap (λ (x : Receiver). is_armed x.pipe.phase) (sym r) ∙ a)) in
    let s = wanted_apart w own in
    record {
      room = omega (arith, h.room, ap (λ (x : Sender). x.capacity) s, started_room b t.own);
      sends = subst (λ (x : Sender). InFits (served t).storage x.pipe) (sym s) in_;
      receives = record {
        armed_ = λ a. (o.out a, h.no_packet);
        taken = λ c. absurd (both_ways t.storage.came h.no_packet c);
        few = rw o.held (omega arith);
        held = λ _. o.held;
      };
    }

worked_by : (b : Bool) (s : Storage) (own : Own) (answer : Option (List ℕ)) → is_shut own ≡ b → PipesFit s own → PipesFit (worked s own answer).storage (worked s own answer).own
worked_by true s own answer e h = rw e h
worked_by false s own answer e h = rw e (served_pipes (resumed (taken_up s own).turn (taken_up s own).due answer) (resumed_pipes (taken_up s own) answer (taken_up_pipes s own h)))

pub worked_pipes : (s : Storage) (own : Own) (answer : Option (List ℕ)) → PipesFit s own → PipesFit (worked s own answer).storage (worked s own answer).own
worked_pipes s own answer h = worked_by (is_shut own) s own answer refl h

-- Every turn.

rest_fits : (s : Storage) (own : Own) (transport : Transport) → s.transport ≡ transport → s.under_way ≡ false → s.came ≡ false → s.ended ≡ false → 512 ≤ own.sends.capacity
    → own.sends.pipe.queue ≡ [] → is_running own.sends.pipe.phase ≡ false → own.receives.pipe.held ≡ [] → is_armed own.receives.pipe.phase ≡ false → PipesFit s own
rest_fits s own transport t u c e room q r held a = record {
  room = room;
  sends = record {
    queue = rw q (nothing_queued s.transport s.ended);
    way = λ v. absurd (both_ways s.under_way u v);
    rest = λ _. r;
    apart = λ _. u;
  };
  receives = record {
    armed_ = λ b. absurd (both_ways (is_armed own.receives.pipe.phase) a b);
    taken = λ b. absurd (both_ways s.came c b);
    few = rw held (omega arith);
    held = λ _. held;
  };
}

abbrev pub RunFits : Run → Type 0
RunFits run = PipesFit run.storage run.own

pub turn_fits : (run : Run) (t : turn.Turn) → RunFits run → RunFits (after_turn run t)
turn_fits run (turn.Comes packet) h =
    cond_both (is_armed (out_of run).phase && nat_le (length packet) 64) _ _ RunFits
    (λ e. let both = and_parts (is_armed (out_of run).phase) (nat_le (length packet) 64) e in
    came_fits run packet both.0 (leb-true (length packet) 64 both.1) h)
    (λ _. h)
turn_fits run turn.Leaves h = cond_both (is_running (in_of run).phase) _ _ RunFits (λ _. left_fits run h) (λ _. h)
turn_fits run turn.HaltsIn h = record {
  room = h.room;
  sends = record { queue = h.sends.queue; way = h.sends.way; rest = h.sends.rest; apart = h.sends.apart };
  receives = h.receives;
}
turn_fits run turn.ClearsIn h = cleared_fits run h
turn_fits run turn.HaltsOut h = record {
  room = h.room;
  sends = h.sends;
  receives = record { armed_ = h.receives.armed_; taken = h.receives.taken; few = h.receives.few; held = h.receives.held };
}
turn_fits run turn.ClearsOut h = record {
  room = h.room;
  sends = h.sends;
  receives = record { armed_ = h.receives.armed_; taken = h.receives.taken; few = h.receives.few; held = h.receives.held };
}
turn_fits run (turn.Asks setup) h = setup_fits run setup h
turn_fits run (turn.Calls call) h = call_fits run call h
turn_fits run turn.Begins h = rest_fits _ (turn.begun run).own Command refl refl refl refl h.room refl refl refl refl
turn_fits run turn.Stops h = rest_fits _ (turn.stopped_ run).own Command refl refl refl refl h.room refl refl refl refl
turn_fits run turn.Works h = worked_pipes run.storage run.own _ h

pub turns_fit : (run : Run) (turns : List turn.Turn) → RunFits run → RunFits (after_turns run turns)
turns_fit run [] h = h
turns_fit run (t ∷ turns) h = turns_fit (after_turn run t) turns (turn_fits run t h)

pub made_fits : (blocks : ℕ) (own : Own) (shelf : Shelf) → 512 ≤ own.sends.capacity → RunFits (made blocks own shelf)
made_fits blocks own shelf room = rest_fits (made blocks own shelf).storage (made blocks own shelf).own Command refl refl refl refl room refl refl refl refl

running_way : (run : Run) → RunFits run → is_running (in_of run).phase ≡ true → run.storage.under_way ≡ true
running_way run h r = by run.storage.under_way refl where
  by : (b : Bool) → run.storage.under_way ≡ b → run.storage.under_way ≡ true
  by true e = e
  by false e = absurd (both_ways (is_running (in_of run).phase) (h.sends.rest e) r)

pub packets_are_waited_for : PacketsAreWaitedFor
packets_are_waited_for blocks own shelf turns room =
    let run = after_turns (made blocks own shelf) turns in
    let h = turns_fit (made blocks own shelf) turns (made_fits blocks own shelf room) in (
      λ a. (h.receives.armed_ a).0,
      λ r. let w = (h.sends.way (running_way run h r)).0 in
          false_from_ne_true (is_armed (out_of run).phase) (λ a. both_ways (wants_packet run.storage.transport) w (h.receives.armed_ a).0),
    )
