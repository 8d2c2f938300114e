-- What is known of a command in every run.
use Rattle.std.proofs.Common.{◌≡◌, ◌⊎◌, inl, inr, ℕ, ◌+◌, ◌-◌, ◌*◌, ◌<◌, ◌≤◌, List, [], ◌∷◌, ◌++◌, length, length-take, length-drop, length-append, take, drop, Bool, true, false, not, ◌&&◌, Option, Some, None, arith, refl, sym, ap, subst, ◌∙◌}
use Rattle.std.specs.Prelude.{nat_le, slice_index, if◌then◌else◌}
use Rattle.std.proofs.lemmas.Bool.{cond_both, both_ways}
use Rattle.std.proofs.lemmas.List.{take_at, drop_all, nil_from_length, length-take-le}
use Rattle.usb_pipe.specs.Own.{Own, started}
use Rattle.class_pipes.specs.Pipes.{data_in, data_out, is_shut, may_arm, may_start, with_started, with_armed}
use Rattle.usb_edge.specs.Disk.{Held, Shelf, is_failing, called, read_block, written, with_block}
use Rattle.scsi_core.specs.declared.Unit.{Unit as Disk}
use Rattle.scsi_core.specs.declared.Move.{Move}
use Rattle.scsi_core.specs.declared.Move.TheVariants as move
use Rattle.scsi_core.specs.Command as scsi
use Rattle.msc_device_machine.specs.declared.transport.Transport.{Transport}
use Rattle.msc_device_machine.specs.declared.transport.Transport.TheVariants.{Command, Broken, Sending, Receiving, Status}
use Rattle.msc_device_machine.specs.declared.transport.Due.{Due}
use Rattle.msc_device_machine.specs.declared.transport.Due.TheVariants as due
use Rattle.msc_device_machine.specs.Wrapper.{Wrapper, is_good, wrapper_of, status_wrapper}
use Rattle.msc_device_machine.specs.Cases.{Nothing, row_for}
use Rattle.msc_device_machine.specs.Disk as disk
use Rattle.msc_device_machine.specs.Disk.{Call}
use Rattle.msc_device_machine.specs.Device.{answered, shelf_after}
use Rattle.msc_device_machine.specs.Storage.{Storage, Turn, Step, turned, goes, waiting, expected, noted, with_packet_read, packet, at_packet, at_end, by_notes, unless_broken, shut_off, emptied, commanded, synced, read_on, wrote_on, taken_up, asks, resumed, wants_packet, served, call_of, worked, is_reset, after_end}
use Rattle.msc_device_machine.specs.Sound.{IsReceiving, Fits, IsSound, IsDue, LiesOn, IsAnswer}
use Rattle.msc_device_machine.specs.Runs.{Run, in_of, out_of, is_armed, is_running, after_turn, after_turns, made}
use Rattle.msc_device_machine.specs.Runs as turn
use Rattle.msc_device_machine.specs.Story.{Story, here, with_here, overwritten, begins, taken_as, with_taken, fails_at, with_call, queued_as, after_works, story_after, story_of, nothing_yet}
use Rattle.msc_device_machine.specs.BlockLaws.{HasDisk, run_of, told, with_blocks, is_write, moved, WritesStand, FirstBlocksAreWritten, OthersChangeNothing, DataIsRight, StatusIsRight}
use Rattle.msc_device_machine.proofs.Keeps.{Can, command_can, taken_up_fits, worked_fits, sound_of, call_lies, first_sound, stopped_sound, anew_sound, setup_sound, call_sound, came_sound, end_sound, unit_sound}
use Rattle.msc_device_machine.proofs.Pipes.{PipesFit, TurnPipes, IsIdle, quiet_of, came_quiet, ended_quiet, taken_up_pipes, turn_fits, made_fits}
use Rattle.msc_device_machine.proofs.Shelves.{read_is, written_is, here_with, unwritten}
use Rattle.msc_device_machine.proofs.Blocks.{lba_of, count_of, Told, IsReport, Settled, Storing, Loading, Known, settled, After, queued_nothing}
use Rattle.msc_device_machine.proofs.BlockSteps.{Base, StepAfter, StepKnown, commanded_known, received_known, sent_on_known, read_passes, read_fails, write_passes, write_fails, sync_passes, sync_fails, with_call_none}

-- nothing happened
still : (q : List ℕ) (ds : List Held) (st : Story) (t : Turn) → t.own.sends.pipe.queue ≡ q → Known t.storage.transport t.storage.block ds st → After q ds st t
still q ds st t e known =
    let none : drop (length q) t.own.sends.pipe.queue ≡ [] = ap (λ (l : List ℕ). drop (length q) l) e ∙ drop_all (length q) q (omega arith) in
    let same = ap (λ (l : List ℕ). queued_as t.storage.transport l st) none ∙ queued_nothing t.storage.transport st in
    subst (λ (s : Story). Known t.storage.transport t.storage.block ds s) (sym same) known

pub record RunKnown (blocks : ℕ) (run : Run) (st : Story) : Type 0 where
  pub sound : IsSound run.storage
  pub unit : run.storage.unit.blocks ≡ blocks
  pub pipes : PipesFit run.storage run.own
  pub base : Base blocks run.shelf.disks st
  pub known : Known run.storage.transport run.storage.block run.shelf.disks st

abbrev queue_of : Run → List ℕ
queue_of run = run.own.sends.pipe.queue

-- a story and a step that are chosen together
both_cond : (P : Story → Step → Type 0) (b : Bool) (s1 s2 : Story) (x1 x2 : Step) → (b ≡ true → P s1 x1) → (b ≡ false → P s2 x2) → P (if b then s1 else s2) (if b then x1 else x2)
both_cond P true s1 s2 x1 x2 h k = h refl
both_cond P false s1 s2 x1 x2 h k = k refl

unless_reset : (P : Story → Step → Type 0) (r c : Bool) (s1 s2 : Story) (x y : Step) → (r ≡ true → P s2 x) → (r ≡ false → P (if c then s1 else s2) y) → P (if not r && c then s1 else s2) (if r then x else y)
unless_reset P true c s1 s2 x y h k = h refl
unless_reset P false c s1 s2 x y h k = k refl

-- A packet.

packet_known : (blocks : ℕ) (transport : Transport) (run : Run) (st : Story) → RunKnown blocks run st → run.storage.transport ≡ transport → run.storage.came ≡ true
    → StepKnown (queue_of run) run.shelf.disks (taken_as transport st run) (at_packet transport (turned (noted run.storage) (with_packet_read run.own)) (packet run.own))
packet_known blocks Command run st h e c =
    let t = turned (noted run.storage) (with_packet_read run.own) in
    let q = came_quiet run.storage run.own c h.pipes in
    let fits : Fits run.storage.unit.blocks Command run.storage.block = rw e at h.sound.fits in
    let known : Settled run.shelf.disks st = rw e at h.known in
    let w = wrapper_of (packet run.own) in
    both_cond (StepKnown (queue_of run) run.shelf.disks) (is_good (packet run.own)) (begins run w) st (commanded t w) (goes (turned (record t.storage { transport = Broken }) (shut_off t.own)))
    (λ _. commanded_known blocks (queue_of run) run.shelf.disks t w q q.queue fits h.base.now h.sound.unit h.unit)
    (λ _. known)
packet_known blocks (Receiving flow) run st h e c =
    let t = turned (noted run.storage) (with_packet_read run.own) in
    let q = came_quiet run.storage run.own c h.pipes in
    let fits : IsReceiving run.storage.unit.blocks flow run.storage.block = rw e at h.sound.fits in
    let known : Storing run.shelf.disks st flow run.storage.block = rw e at h.known in
    received_known (queue_of run) run.shelf.disks st t flow (packet run.own) q.queue fits.some known
packet_known blocks Broken run st h e c = still (queue_of run) run.shelf.disks st (turned (noted run.storage) (with_packet_read run.own)) refl h.known
packet_known blocks (Sending flow loaded) run st h e c = still (queue_of run) run.shelf.disks st (turned (noted run.storage) (with_packet_read run.own)) refl h.known
packet_known blocks Status run st h e c = still (queue_of run) run.shelf.disks st (turned (noted run.storage) (with_packet_read run.own)) refl h.known

end_known : (blocks : ℕ) (transport : Transport) (run : Run) (st : Story) → RunKnown blocks run st → run.storage.transport ≡ transport → run.storage.came ≡ false → run.storage.ended ≡ true
    → StepKnown (queue_of run) run.shelf.disks st (at_end transport (turned (noted run.storage) run.own))
end_known blocks (Sending flow loaded) run st h e c end =
    let q = ended_quiet run.storage run.own c end (ap wants_packet e) h.pipes in
    let known : Loading run.shelf.disks st flow loaded = rw e at h.known in
    sent_on_known (queue_of run) run.shelf.disks st (turned (noted run.storage) run.own) flow loaded q q.queue known
end_known blocks Status run st h e c end = let known : Settled run.shelf.disks st = rw e at h.known in known
end_known blocks Command run st h e c end = still (queue_of run) run.shelf.disks st (turned (noted run.storage) run.own) refl h.known
end_known blocks Broken run st h e c end = still (queue_of run) run.shelf.disks st (turned (noted run.storage) run.own) refl h.known
end_known blocks (Receiving flow) run st h e c end = still (queue_of run) run.shelf.disks st (turned (noted run.storage) run.own) refl h.known

abbrev Taken : Story → Run → Story
Taken st run = if run.storage.came then taken_as run.storage.transport st run else st

notes_known : (blocks : ℕ) (run : Run) (st : Story) → RunKnown blocks run st → StepKnown (queue_of run) run.shelf.disks (Taken st run) (by_notes run.storage run.own)
notes_known blocks run st h =
    let P = StepKnown (queue_of run) run.shelf.disks in
    let t = turned (noted run.storage) run.own in
    both_cond P run.storage.came (taken_as run.storage.transport st run) st
    (at_packet run.storage.transport (turned (noted run.storage) (with_packet_read run.own)) (packet run.own))
    (if run.storage.ended then at_end run.storage.transport t else goes t)
    (λ c. packet_known blocks run.storage.transport run st h refl c)
    (λ c. cond_both run.storage.ended (at_end run.storage.transport t) (goes t) (P st)
    (λ e. end_known blocks run.storage.transport run st h refl c e)
    (λ _. still (queue_of run) run.shelf.disks st t refl h.known))

broken_known : (blocks : ℕ) (run : Run) (st : Story) → RunKnown blocks run st → run.storage.transport ≡ Broken → StepKnown (queue_of run) run.shelf.disks (Taken st run) (goes (turned (noted run.storage) (shut_off run.own)))
broken_known blocks run st h e =
    let step = goes (turned (noted run.storage) (shut_off run.own)) in
    cond_both run.storage.came (taken_as run.storage.transport st run) st (λ (s : Story). StepKnown (queue_of run) run.shelf.disks s step)
    (λ c. absurd (both_ways (wants_packet run.storage.transport) (ap wants_packet e) (h.pipes.receives.taken c)))
    (λ _. still (queue_of run) run.shelf.disks st (turned (noted run.storage) (shut_off run.own)) refl h.known)

unless_broken_known : (blocks : ℕ) (transport : Transport) (run : Run) (st : Story) → RunKnown blocks run st → run.storage.transport ≡ transport → StepKnown (queue_of run) run.shelf.disks (Taken st run) (unless_broken transport run.storage run.own)
unless_broken_known blocks Broken run st h e = broken_known blocks run st h e
unless_broken_known blocks Command run st h e = notes_known blocks run st h
unless_broken_known blocks (Sending flow loaded) run st h e = notes_known blocks run st h
unless_broken_known blocks (Receiving flow) run st h e = notes_known blocks run st h
unless_broken_known blocks Status run st h e = notes_known blocks run st h

taken_up_known : (blocks : ℕ) (run : Run) (st : Story) → RunKnown blocks run st → StepKnown (queue_of run) run.shelf.disks (with_taken st run) (taken_up run.storage run.own)
taken_up_known blocks run st h =
    unless_reset (StepKnown (queue_of run) run.shelf.disks) run.storage.reset run.storage.came (taken_as run.storage.transport st run) st
    (goes (turned (waiting run.storage.unit Command) (emptied run.own))) (unless_broken run.storage.transport run.storage run.own)
    (λ _. settled run.storage.transport run.storage.block run.shelf.disks st h.known)
    (λ _. unless_broken_known blocks run.storage.transport run st h refl)

-- The story's disks and its command.

begins_base : (blocks : ℕ) (run : Run) (st : Story) (w : Wrapper) → RunKnown blocks run st → Base blocks run.shelf.disks (begins run w)
begins_base blocks run st w h = record {
  now = h.base.now;
  was = h.base.now;
  can = subst (λ (x : ℕ). Can x (scsi.worked run.storage.unit w.command).moves) h.unit (command_can run.storage.unit w.command h.sound.unit);
}

taken_as_base : (blocks : ℕ) (transport : Transport) (run : Run) (st : Story) → RunKnown blocks run st → Base blocks run.shelf.disks (taken_as transport st run)
taken_as_base blocks Command run st h =
    cond_both (is_good (packet run.own)) _ _ (Base blocks run.shelf.disks) (λ _. begins_base blocks run st (wrapper_of (packet run.own)) h) (λ _. h.base)
taken_as_base blocks (Receiving flow) run st h = record { now = h.base.now; was = h.base.was; can = h.base.can }
taken_as_base blocks Broken run st h = h.base
taken_as_base blocks (Sending flow loaded) run st h = h.base
taken_as_base blocks Status run st h = h.base

with_taken_base : (blocks : ℕ) (run : Run) (st : Story) → RunKnown blocks run st → Base blocks run.shelf.disks (with_taken st run)
with_taken_base blocks run st h =
    cond_both (not run.storage.reset && run.storage.came) _ _ (Base blocks run.shelf.disks) (λ _. taken_as_base blocks run.storage.transport run st h) (λ _. h.base)

queued_base : (blocks : ℕ) (ds : List Held) (t : Transport) (bytes : List ℕ) (fails : Bool) (st : Story) → Base blocks ds st → Base blocks ds (queued_as t bytes (with_call fails st))
queued_base blocks ds Command bytes fails st h = record { now = h.now; was = h.was; can = h.can }
queued_base blocks ds Broken bytes fails st h = record { now = h.now; was = h.was; can = h.can }
queued_base blocks ds (Receiving flow) bytes fails st h = record { now = h.now; was = h.was; can = h.can }
queued_base blocks ds (Sending flow loaded) bytes fails st h = record { now = h.now; was = h.was; can = h.can }
queued_base blocks ds Status bytes fails st h = record { now = h.now; was = h.was; can = h.can }

-- a block that is written keeps the disk's size
block_length : (lba : ℕ) (block bytes : List ℕ) → length block ≡ 512 → 512 * lba + 512 ≤ length bytes → length (with_block lba block bytes) ≡ length bytes
block_length lba block bytes one within =
    let a = length-append (take (512 * lba) bytes ++ block) (drop (512 * lba + 512) bytes) in
    let b = length-append (take (512 * lba) bytes) block in
    let c = length-take-le (512 * lba) bytes (omega (arith, within)) in
    let d = length-drop (512 * lba + 512) bytes in
    omega (arith, a, b, c, d, within, one)

written_length : (blocks lba : ℕ) (block : List ℕ) (shelf : Shelf) → length (here shelf.disks) ≡ 512 * blocks → lba < blocks → length block ≡ 512 → length (here (written 0 lba block shelf).disks) ≡ 512 * blocks
written_length blocks lba block shelf size below one =
    let bytes = here shelf.disks in
    let e : here (written 0 lba block shelf).disks ≡ with_block lba block bytes =
    ap here (written_is shelf lba block) ∙ here_with (with_block lba block bytes) shelf.disks (omega (arith, size, below)) in
    ap length e ∙ block_length lba block bytes one (omega (arith, size, below)) ∙ size

call_length : (blocks : ℕ) (call : Call) (shelf : Shelf) → length (here shelf.disks) ≡ 512 * blocks → LiesOn blocks (Some call) → length (here (disk.done call shelf).disks) ≡ 512 * blocks
call_length blocks (disk.Read lba) shelf size lies = size
call_length blocks (disk.Write lba block) shelf size lies = written_length blocks lba block shelf size lies.0 lies.1
call_length blocks disk.Sync shelf size lies = size

shelf_length : (blocks : ℕ) (call : Option Call) (shelf : Shelf) → length (here shelf.disks) ≡ 512 * blocks → LiesOn blocks call → length (here (shelf_after call shelf).disks) ≡ 512 * blocks
shelf_length blocks None shelf size lies = size
shelf_length blocks (Some call) shelf size lies =
    cond_both (is_failing shelf) _ _ (λ (s : Shelf). length (here s.disks) ≡ 512 * blocks) (λ _. size) (λ _. call_length blocks call shelf size lies)

-- a block that is read is one
read_answer : (blocks lba : ℕ) (shelf : Shelf) → length (here shelf.disks) ≡ 512 * blocks → lba < blocks → length (read_block 0 lba shelf) ≡ 512
read_answer blocks lba shelf size below =
    let e = ap length (read_is shelf lba) in
    let a = length-take 512 (drop (512 * lba) (here shelf.disks)) in
    let b = length-drop (512 * lba) (here shelf.disks) in
    omega (arith, e, a, b, size, below)

answer_of_call : (blocks : ℕ) (call : Call) (shelf : Shelf) → length (here shelf.disks) ≡ 512 * blocks → LiesOn blocks (Some call) → IsAnswer (Some call) (disk.answer_of call shelf)
answer_of_call blocks (disk.Read lba) shelf size lies =
    cond_both (is_failing shelf) _ _ (IsAnswer (Some (disk.Read lba))) (λ _. tt) (λ _. read_answer blocks lba shelf size lies)
answer_of_call blocks (disk.Write lba block) shelf size lies = tt
answer_of_call blocks disk.Sync shelf size lies = tt

pub is_answer : (blocks : ℕ) (call : Option Call) (shelf : Shelf) → length (here shelf.disks) ≡ 512 * blocks → LiesOn blocks call → IsAnswer call (answered call shelf)
is_answer blocks None shelf size lies = tt
is_answer blocks (Some call) shelf size lies = answer_of_call blocks call shelf size lies

-- The disk's answer.

-- the shelf, whether a call failed, and its answer, chosen together
by_call : (P : Shelf → Bool → Option (List ℕ) → Type 0) (f : Bool) (a b : Shelf) (x : Option (List ℕ)) → P a true None → P b false x → P (if f then a else b) f (if f then None else x)
by_call P true a b x h k = h
by_call P false a b x h k = k

resumed_known : (blocks : ℕ) (q : List ℕ) (st : Story) (shelf : Shelf) (t : Turn) (d : Due) → TurnPipes t → IsIdle d t → IsDue blocks d t.storage → Base blocks shelf.disks st → StepAfter q shelf.disks st t d
    → After q (shelf_after (asks d t.storage) shelf).disks (with_call (fails_at (asks d t.storage) shelf) st) (resumed t d (answered (asks d t.storage) shelf))
resumed_known blocks q st shelf t due.Nothing p i f b k = subst (λ (s : Story). After q shelf.disks s t) (sym (with_call_none st)) k
resumed_known blocks q st shelf t (due.Read flow) p i f b k =
    by_call (λ (s : Shelf) (fails : Bool) (answer : Option (List ℕ)). After q s.disks (with_call fails st) (read_on t flow answer)) (is_failing shelf) (called shelf) (called shelf) (Some (read_block 0 flow.next shelf))
    (read_fails q shelf.disks st t flow (quiet_of t p i) k.1 k.0)
    (read_passes blocks q shelf.disks st t flow shelf refl (quiet_of t p i) k.1 f.0 b k.0)
resumed_known blocks q st shelf t (due.Write flow is_over) p i f b k =
    by_call (λ (s : Shelf) (fails : Bool) (answer : Option (List ℕ)). After q s.disks (with_call fails st) (wrote_on t flow is_over answer)) (is_failing shelf) (called shelf) (called (written 0 flow.next (take 512 t.storage.block) shelf)) (Some [])
    (write_fails blocks q shelf.disks st t flow is_over (quiet_of t p i) k.1 f k.0)
    (write_passes blocks q shelf.disks st t flow is_over shelf refl (quiet_of t p i) k.1 f b k.0)
resumed_known blocks q st shelf t (due.Sync tag host is_in) p i f b k =
    by_call (λ (s : Shelf) (fails : Bool) (answer : Option (List ℕ)). After q s.disks (with_call fails st) (synced t tag host is_in answer)) (is_failing shelf) (called shelf) (called shelf) (Some [])
    (sync_fails q shelf.disks st t tag host (row_for (expected is_in host) Nothing).halts (quiet_of t p i) k.1 k.0)
    (sync_passes q shelf.disks st t tag host (row_for (expected is_in host) Nothing).halts (quiet_of t p i) k.1 k.0)

-- what is served at last leaves all bytes
served_queue : (t : Turn) → (served t).own.sends.pipe.queue ≡ t.own.sends.pipe.queue
served_queue t = armed_queue (wants_packet t.storage.transport) (with_started t.own data_in) ∙ started_queue (may_start t.own data_in) t.own where
  armed_queue : (b : Bool) (own : Own) → (if b then with_armed own else own).sends.pipe.queue ≡ own.sends.pipe.queue
  armed_queue true own = cond_both (may_arm own) _ _ (λ (o : Own). o.sends.pipe.queue ≡ own.sends.pipe.queue) (λ _. refl) (λ _. refl)
  armed_queue false own = refl

  started_queue : (b : Bool) (own : Own) → (if b then started own data_in else own).sends.pipe.queue ≡ own.sends.pipe.queue
  started_queue true own = refl
  started_queue false own = refl

-- The whole work, where a session stands.

abbrev Worked : Run → Turn
Worked run =
    let step = taken_up run.storage run.own in
    served (resumed step.turn step.due (answered (asks step.due step.turn.storage) run.shelf))

abbrev Called : Run → Option Call
Called run = asks (taken_up run.storage run.own).due (taken_up run.storage run.own).turn.storage

work_known : (blocks : ℕ) (run : Run) (st : Story) → RunKnown blocks run st
    → Known (Worked run).storage.transport (Worked run).storage.block (shelf_after (Called run) run.shelf).disks
    (queued_as (Worked run).storage.transport (drop (length (queue_of run)) (Worked run).own.sends.pipe.queue) (with_call (fails_at (Called run) run.shelf) (with_taken st run)))
work_known blocks run st h =
    let step = taken_up run.storage run.own in
    let pipes = taken_up_pipes run.storage run.own h.pipes in
    let t = resumed step.turn step.due (answered (Called run) run.shelf) in
    let due_ : IsDue blocks step.due step.turn.storage = subst (λ (x : ℕ). IsDue x step.due step.turn.storage) h.unit (taken_up_fits run.storage run.own h.sound).due in
    let known = resumed_known blocks (queue_of run) (with_taken st run) run.shelf step.turn step.due pipes.turn_ pipes.idle due_ (with_taken_base blocks run st h) (taken_up_known blocks run st h) in
    let P : List ℕ → Type 0 = λ l. Known t.storage.transport t.storage.block (shelf_after (Called run) run.shelf).disks
    (queued_as t.storage.transport (drop (length (queue_of run)) l) (with_call (fails_at (Called run) run.shelf) (with_taken st run))) in
    subst P (sym (served_queue t)) known

-- Every turn.

pub record Core (blocks : ℕ) (run : Run) (st : Story) : Type 0 where
  pub sound : IsSound run.storage
  pub unit : run.storage.unit.blocks ≡ blocks
  pub base : Base blocks run.shelf.disks st
  pub known : Known run.storage.transport run.storage.block run.shelf.disks st

abbrev CalledAt : Bool → Run → Option Call
CalledAt b run = if b then None else Called run

abbrev WorkedAt : Bool → Run → Turn
WorkedAt b run =
    let step = taken_up run.storage run.own in
    if b then turned run.storage run.own else served (resumed step.turn step.due (answered (CalledAt b run) run.shelf))

abbrev StoryAt : Bool → Story → Run → Story
StoryAt b st run =
    if b then st else queued_as (WorkedAt b run).storage.transport (drop (length (queue_of run)) (WorkedAt b run).own.sends.pipe.queue)
    (with_call (fails_at (CalledAt b run) run.shelf) (with_taken st run))

known_at : (b : Bool) (blocks : ℕ) (run : Run) (st : Story) → RunKnown blocks run st
    → Known (WorkedAt b run).storage.transport (WorkedAt b run).storage.block (shelf_after (CalledAt b run) run.shelf).disks (StoryAt b st run)
known_at true blocks run st h = h.known
known_at false blocks run st h = work_known blocks run st h

base_at : (b : Bool) (blocks : ℕ) (run : Run) (st : Story) → RunKnown blocks run st → LiesOn blocks (CalledAt b run) → Base blocks (shelf_after (CalledAt b run) run.shelf).disks (StoryAt b st run)
base_at true blocks run st h lies = h.base
base_at false blocks run st h lies =
    let bytes = drop (length (queue_of run)) (Worked run).own.sends.pipe.queue in
    let old = queued_base blocks run.shelf.disks (Worked run).storage.transport bytes (fails_at (Called run) run.shelf) (with_taken st run) (with_taken_base blocks run st h) in
    record { now = shelf_length blocks (Called run) run.shelf h.base.now lies; was = old.was; can = old.can }

works_core : (blocks : ℕ) (run : Run) (st : Story) → RunKnown blocks run st → Core blocks (after_turn run turn.Works) (after_works st run)
works_core blocks run st h =
    let s = run.storage in
    let call = call_of s run.own in
    let lies : LiesOn blocks call = subst (λ (x : ℕ). LiesOn x call) h.unit (call_lies s run.own h.sound) in
    let answer = answered call run.shelf in
    let fits = worked_fits s run.own answer h.sound (is_answer blocks call run.shelf h.base.now lies) in
    record {
      sound = sound_of s.unit.blocks (worked s run.own answer) fits;
      unit = fits.size ∙ h.unit;
      base = base_at (is_shut run.own) blocks run st h lies;
      known = known_at (is_shut run.own) blocks run st h;
    }

core_of : (blocks : ℕ) (run : Run) (st : Story) → RunKnown blocks run st → Core blocks run st
core_of blocks run st h = record { sound = h.sound; unit = h.unit; base = h.base; known = h.known }

-- another storage beside the same disks, which does what the old one did
same_core : (blocks : ℕ) (run new : Run) (st : Story) → RunKnown blocks run st → IsSound new.storage → new.storage.unit.blocks ≡ run.storage.unit.blocks → new.storage.transport ≡ run.storage.transport
    → new.storage.block ≡ run.storage.block → new.shelf ≡ run.shelf → Core blocks new st
same_core blocks run new st h sound u t b s =
    let base : Base blocks new.shelf.disks st = rw s h.base in
    let known : Known new.storage.transport new.storage.block new.shelf.disks st = rw (t, b, s) h.known in
    record { sound = sound; unit = u ∙ h.unit; base = base; known = known }

-- one that waits for a command, with the same disks
rest_core : (blocks : ℕ) (run new : Run) (st : Story) → RunKnown blocks run st → IsSound new.storage → new.storage.unit.blocks ≡ run.storage.unit.blocks → new.storage.transport ≡ Command → new.shelf ≡ run.shelf → Core blocks new st
rest_core blocks run new st h sound u t s =
    let base : Base blocks new.shelf.disks st = rw s h.base in
    let was = settled run.storage.transport run.storage.block run.shelf.disks st h.known in
    let known : Known new.storage.transport new.storage.block new.shelf.disks st = rw (t, s) was in
    record { sound = sound; unit = u ∙ h.unit; base = base; known = known }

ended_same : (b : Bool) (s : Storage) → ((if b then record s { ended = true; under_way = false } else s).unit ≡ s.unit)
    × ((if b then record s { ended = true; under_way = false } else s).transport ≡ s.transport) × ((if b then record s { ended = true; under_way = false } else s).block ≡ s.block)
ended_same true s = (refl, refl, refl)
ended_same false s = (refl, refl, refl)

reset_same : (b : Bool) (s : Storage) → ((if b then record s { reset = true } else s).unit ≡ s.unit)
    × ((if b then record s { reset = true } else s).transport ≡ s.transport) × ((if b then record s { reset = true } else s).block ≡ s.block)
reset_same true s = (refl, refl, refl)
reset_same false s = (refl, refl, refl)

ended_core : (blocks : ℕ) (run new : Run) (st : Story) → RunKnown blocks run st → new.storage ≡ after_end run.storage data_in → new.shelf ≡ run.shelf → Core blocks new st
ended_core blocks run new st h e s =
    let k = ended_same run.storage.under_way run.storage in
    let sound : IsSound new.storage = rw e (end_sound run.storage data_in h.sound) in
    same_core blocks run new st h sound (ap (λ (x : Storage). x.unit.blocks) e ∙ ap (λ (u : Disk). u.blocks) k.0) (ap (λ (x : Storage). x.transport) e ∙ k.1) (ap (λ (x : Storage). x.block) e ∙ k.2) s

turn_core : (blocks : ℕ) (run : Run) (st : Story) (t : turn.Turn) → RunKnown blocks run st → Core blocks (after_turn run t) (story_after st run t)
turn_core blocks run st (turn.Comes packet) h =
    cond_both (is_armed (out_of run).phase && nat_le (length packet) 64) (turn.came run packet) run (λ (r : Run). Core blocks r st)
    (λ _. same_core blocks run (turn.came run packet) st h (came_sound run.storage data_out h.sound) refl refl refl refl)
    (λ _. core_of blocks run st h)
turn_core blocks run st turn.Leaves h =
    cond_both (is_running (in_of run).phase) (turn.left run) run (λ (r : Run). Core blocks r st)
    (λ _. ended_core blocks run (turn.left run) st h refl refl)
    (λ _. core_of blocks run st h)
turn_core blocks run st turn.HaltsIn h = same_core blocks run (after_turn run turn.HaltsIn) st h h.sound refl refl refl refl
turn_core blocks run st turn.ClearsIn h = ended_core blocks run (turn.cleared_in run) st h refl refl
turn_core blocks run st turn.HaltsOut h = same_core blocks run (after_turn run turn.HaltsOut) st h h.sound refl refl refl refl
turn_core blocks run st turn.ClearsOut h = same_core blocks run (turn.cleared_out run) st h h.sound refl refl refl refl
turn_core blocks run st (turn.Asks setup) h =
    let k = reset_same (is_reset setup) run.storage in
    same_core blocks run (after_turn run (turn.Asks setup)) st h (setup_sound run.storage setup h.sound) (ap (λ (u : Disk). u.blocks) k.0) k.1 k.2 refl
turn_core blocks run st (turn.Calls call) h =
    same_core blocks run (after_turn run (turn.Calls call)) st h (call_sound run.storage call h.sound) (unit_sound run.storage.unit call h.sound.unit).1 refl refl refl
turn_core blocks run st turn.Begins h = rest_core blocks run (turn.begun run) st h (anew_sound run.storage h.sound) refl refl refl
turn_core blocks run st turn.Stops h = rest_core blocks run (turn.stopped_ run) st h (stopped_sound run.storage h.sound) refl refl refl
turn_core blocks run st turn.Works h = works_core blocks run st h

turn_known : (blocks : ℕ) (run : Run) (st : Story) (t : turn.Turn) → RunKnown blocks run st → RunKnown blocks (after_turn run t) (story_after st run t)
turn_known blocks run st t h =
    let c = turn_core blocks run st t h in
    record { sound = c.sound; unit = c.unit; pipes = turn_fits run t h.pipes; base = c.base; known = c.known }

turns_known : (blocks : ℕ) (run : Run) (st : Story) (turns : List turn.Turn) → RunKnown blocks run st → RunKnown blocks (after_turns run turns) (story_of st run turns)
turns_known blocks run st [] h = h
turns_known blocks run st (t ∷ turns) h = turns_known blocks (after_turn run t) (story_after st run t) turns (turn_known blocks run st t h)

made_known : (blocks : ℕ) (own : Own) (shelf : Shelf) → length (here shelf.disks) ≡ 512 * blocks → 512 ≤ own.sends.capacity → RunKnown blocks (made blocks own shelf) (nothing_yet shelf.disks)
made_known blocks own shelf size room = record {
  sound = first_sound blocks;
  unit = refl;
  pipes = made_fits blocks own shelf room;
  base = record { now = size; was = size; can = tt };
  known = record {
    k = 0;
    front = [];
    rest = [];
    told = record { came = refl; size = refl; count = omega arith; disks = sym (unwritten 0 shelf.disks); went = refl };
    report = inl refl;
  };
}

pub run_known : (blocks : ℕ) (own : Own) (shelf : Shelf) (turns : List turn.Turn) → HasDisk blocks own shelf → RunKnown blocks (run_of blocks own shelf turns) (told blocks own shelf turns)
run_known blocks own shelf turns h = turns_known blocks (made blocks own shelf) (nothing_yet shelf.disks) turns (made_known blocks own shelf h.0 h.1)

-- What a user has of it.

settled_run : (blocks : ℕ) (run : Run) (st : Story) → RunKnown blocks run st → Settled run.shelf.disks st
settled_run blocks run st h = settled run.storage.transport run.storage.block run.shelf.disks st h.known

front_of : (ds : List Held) (st : Story) (k : ℕ) (front rest : List ℕ) → Told ds st k front rest → take (512 * k) st.came ≡ front
front_of ds st k front rest h = ap (λ (l : List ℕ). take (512 * k) l) h.came ∙ take_at front rest (512 * k) h.size

came_length : (ds : List Held) (st : Story) (k : ℕ) (front rest : List ℕ) → Told ds st k front rest → 512 * k ≤ length st.came
came_length ds st k front rest h =
    let a = ap length h.came in
    let b = length-append front rest in
    omega (arith, a, b, h.size)

told_blocks : (ds : List Held) (st : Story) (k lba count : ℕ) (front rest : List ℕ) → st.wants ≡ move.Write lba count → Told ds st k front rest → ds ≡ with_blocks lba k st
told_blocks ds st k lba count front rest e h =
    h.disks ∙ ap (λ (m : Move). with_here (overwritten (512 * lba_of m) front (here st.before)) st.before) e
    ∙ ap (λ (l : List ℕ). with_here (overwritten (512 * lba) l (here st.before)) st.before) (sym (front_of ds st k front rest h))

-- a status that was told
reported : (ds : List Held) (st : Story) (s : Settled ds st) → length st.status ≡ 13 → (st.status ≡ []) ⊎ IsReport st s.k → IsReport st s.k
reported ds st s n (inl none) = absurd (omega (arith, n, ap length none))
reported ds st s n (inr report) = report

code_of : (st : Story) (k : ℕ) (r : IsReport st k) → slice_index st.status 12 ≡ 0 → r.code ≡ 0
code_of st k r z = sym (ap (λ (l : List ℕ). slice_index l 12) r.status) ∙ z

pub writes_stand : WritesStand
writes_stand blocks own shelf turns lba count has e status =
    let h = run_known blocks own shelf turns has in
    let st = told blocks own shelf turns in
    let ds = (run_of blocks own shelf turns).shelf.disks in
    let s = settled_run blocks (run_of blocks own shelf turns) st h in
    let r = reported ds st s status.0 s.report in
    let all : s.k ≡ count = (r.whole (code_of st s.k r status.1)).0 ∙ ap count_of e in
    let can : Can blocks (move.Write lba count) = subst (λ (m : Move). Can blocks m) e h.base.can in (
      omega (arith, came_length ds st s.k s.front s.rest s.told, all),
      can.1,
      told_blocks ds st s.k lba count s.front s.rest e s.told ∙ ap (λ (n : ℕ). with_blocks lba n st) all,
    )

pub first_blocks_are_written : FirstBlocksAreWritten
first_blocks_are_written blocks own shelf turns lba count has e =
    let h = run_known blocks own shelf turns has in
    let st = told blocks own shelf turns in
    let ds = (run_of blocks own shelf turns).shelf.disks in
    let s = settled_run blocks (run_of blocks own shelf turns) st h in
    (s.k, omega (arith, s.told.count, ap count_of e), came_length ds st s.k s.front s.rest s.told, told_blocks ds st s.k lba count s.front s.rest e s.told)

none_of : (m : Move) → is_write m ≡ false → count_of m ≡ 0
none_of (move.Write lba count) e = absurd (both_ways true e refl)
none_of move.None e = refl
none_of (move.In bytes) e = refl
none_of (move.Read lba count) e = refl
none_of move.Sync e = refl
none_of (move.Fail sense) e = refl

no_blocks : (ds : List Held) (st : Story) (k : ℕ) (front rest : List ℕ) → is_write st.wants ≡ false → Told ds st k front rest → (k ≡ 0) × (front ≡ [])
no_blocks ds st k front rest e h =
    let none = none_of st.wants e in
    let z : k ≡ 0 = omega (arith, none, h.count) in
    (z, nil_from_length front (omega (arith, h.size, z)))

pub others_change_nothing : OthersChangeNothing
others_change_nothing blocks own shelf turns has e =
    let st = told blocks own shelf turns in
    let ds = (run_of blocks own shelf turns).shelf.disks in
    let s = settled_run blocks (run_of blocks own shelf turns) st (run_known blocks own shelf turns has) in
    let none = no_blocks ds st s.k s.front s.rest e s.told in
    s.told.disks ∙ ap (λ (l : List ℕ). with_here (overwritten (512 * lba_of st.wants) l (here st.before)) st.before) none.1 ∙ unwritten (512 * lba_of st.wants) st.before

pub data_is_right : DataIsRight
data_is_right blocks own shelf turns has =
    let st = told blocks own shelf turns in
    let ds = (run_of blocks own shelf turns).shelf.disks in
    let s = settled_run blocks (run_of blocks own shelf turns) st (run_known blocks own shelf turns has) in
    (s.told.went, λ status. let r = reported ds st s status.0 s.report in (r.whole (code_of st s.k r status.1)).1)

status_told : (blocks : ℕ) (run : Run) (st : Story) (s : Settled run.shelf.disks st) → (st.status ≡ []) ⊎ IsReport st s.k
    → (st.status ≡ [])
    ⊎ ((k : ℕ) × (status : ℕ) × (st.status ≡ status_wrapper st.wrapper.tag (st.wrapper.length - moved st k) status) × (status ≤ 2) × (status ≡ 0 → st.failed ≡ false)
    × (is_write st.wants ≡ false → k ≡ 0)
    × ((lba count : ℕ) → st.wants ≡ move.Write lba count → (run.shelf.disks ≡ with_blocks lba k st) × (k ≤ count) × (status ≡ 0 → k ≡ count)))
status_told blocks run st s (inl none) = inl none
status_told blocks run st s (inr r) =
    inr (
      s.k,
      r.code,
      r.status,
      r.few,
      λ z. (r.whole z).2,
      λ e. (no_blocks run.shelf.disks st s.k s.front s.rest e s.told).0,
      λ lba count e. (
        told_blocks run.shelf.disks st s.k lba count s.front s.rest e s.told,
        omega (arith, s.told.count, ap count_of e),
        λ z. (r.whole z).0 ∙ ap count_of e,
      ),
    )

pub status_is_right : StatusIsRight
status_is_right blocks own shelf turns has =
    let st = told blocks own shelf turns in
    let run = run_of blocks own shelf turns in
    let s = settled_run blocks run st (run_known blocks own shelf turns has) in
    status_told blocks run st s s.report
