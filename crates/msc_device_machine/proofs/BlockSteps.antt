-- What is known of a command before the disk is asked, and after its answer.
use Rattle.std.proofs.Common.{◌≡◌, ◌⊎◌, inl, inr, ℕ, ◌+◌, ◌-◌, ◌*◌, ◌<◌, ◌≤◌, List, [], ◌++◌, length, length-take, length-drop, length-append, take, drop, Bool, true, false, Option, arith, refl, sym, ap, subst, ◌∙◌, append_assoc, append-nil}
use Rattle.std.specs.Prelude.{min, ◌==◌, nat_lt, if◌then◌else◌}
use Rattle.std.proofs.lemmas.Bool.{cond_both, both_ways, eqb-true, eqb-false, ltb-true, or_right, and_right, cases_lt}
use Rattle.std.proofs.lemmas.List.{take_all, take-append-drop, drop_all, take-take, length-take-le}
use Rattle.usb_edge.specs.Disk.{Held, Shelf, read_block, written, block_at, with_block}
use Rattle.scsi_core.specs.declared.Move.{Move}
use Rattle.scsi_core.specs.declared.Move.TheVariants as move
use Rattle.scsi_core.specs.Command as scsi
use Rattle.scsi_core.specs.Command.{IsSound as IsSoundUnit}
use Rattle.msc_device_machine.specs.declared.transport.Flow.{Flow}
use Rattle.msc_device_machine.specs.declared.transport.Due.{Due}
use Rattle.msc_device_machine.specs.declared.transport.Due.TheVariants as due
use Rattle.msc_device_machine.specs.Wrapper.{Wrapper}
use Rattle.msc_device_machine.specs.Cases.{Row, row_for}
use Rattle.msc_device_machine.specs.Storage.{Turn, Step, with_end, flow_of, expected, intended, unmoved, moving, by_row, commanded, received, sent_on, stored, unstored, fetched, unfetched, moved_by, flow_row, due_pipe, with_fault, with_sense, read_error, write_error}
use Rattle.msc_device_machine.specs.Sound.{IsReading, IsWriting}
use Rattle.msc_device_machine.specs.Story.{Story, here, with_here, overwritten, with_call}
use Rattle.msc_device_machine.specs.Laws.{Means}
use Rattle.msc_device_machine.specs.BlockLaws.{is_write, data_of, moved}
use Rattle.msc_device_machine.proofs.Keeps.{Can, command_can}
use Rattle.msc_device_machine.proofs.Table.{cases_agree}
use Rattle.msc_device_machine.proofs.Pipes.{Quiet, beside}
use Rattle.msc_device_machine.proofs.Shelves.{read_is, written_is, with_here_twice, here_with, unwritten, block_behind, read_more}
use Rattle.msc_device_machine.proofs.Blocks.{plain_told, lba_of, count_of, Told, Storing, Plain, NextBlock, Loading, After, end_after, data_after, or_nothing}

-- what is known of the disk
pub record Base (blocks : ℕ) (ds : List Held) (st : Story) : Type 0 where
  pub now : length (here ds) ≡ 512 * blocks
  pub was : length (here st.before) ≡ 512 * blocks
  pub can : Can blocks st.wants

-- a block is to be read
pub record Reading (ds : List Held) (st : Story) (flow : Flow) : Type 0 where
  pub plain : Plain ds st
  pub tag : flow.tag ≡ st.wrapper.tag
  pub host : flow.host ≡ st.wrapper.length
  pub lba : ℕ
  pub count : ℕ
  pub j : ℕ
  pub wants : st.wants ≡ move.Read lba count
  pub moved_ : flow.moved ≡ length st.went
  pub size : length st.went ≡ 512 * j
  pub next : flow.next ≡ lba + j
  pub device : flow.device ≡ length (data_of st.wants st.before)

-- a block is to be written. What came past the device's end comes behind it
pub record Writing (ds : List Held) (st : Story) (flow : Flow) (block : List ℕ) : Type 0 where
  pub k : ℕ
  pub lba : ℕ
  pub count : ℕ
  pub front : List ℕ
  pub extra : List ℕ
  pub told : Told ds st k front (block ++ extra)
  pub wants : st.wants ≡ move.Write lba count
  pub tag : flow.tag ≡ st.wrapper.tag
  pub host : flow.host ≡ st.wrapper.length
  pub device : flow.device ≡ 512 * count
  pub moved_ : flow.moved ≡ 512 * k + length block
  pub next : flow.next ≡ lba + k
  pub over : (extra ≡ []) ⊎ (flow.moved ≡ flow.device)
  pub status : st.status ≡ []
  pub went : st.went ≡ []
  pub unfailed : st.failed ≡ false

-- all is to be made durable
pub record Syncing (ds : List Held) (st : Story) (tag host : ℕ) : Type 0 where
  pub plain : Plain ds st
  pub none : data_of st.wants st.before ≡ []
  pub went : st.went ≡ []
  pub tag_ : tag ≡ st.wrapper.tag
  pub host_ : host ≡ st.wrapper.length

abbrev pub StepAfter : List ℕ → List Held → Story → Turn → Due → Type 0
StepAfter q ds st t due.Nothing = After q ds st t
StepAfter q ds st t (due.Read flow) = Reading ds st flow × (q ≡ [])
StepAfter q ds st t (due.Write flow is_over) = Writing ds st flow t.storage.block × (q ≡ [])
StepAfter q ds st t (due.Sync tag host is_in) = Syncing ds st tag host × (q ≡ [])

abbrev pub StepKnown : List ℕ → List Held → Story → Step → Type 0
StepKnown q ds st step = StepAfter q ds st step.turn step.due

-- A new command.

abbrev pub fresh : List Held → Wrapper → Move → Story
fresh ds w m = record { wants = m; wrapper = w; before = ds; came = []; went = []; status = []; failed = false }

fresh_plain : (ds : List Held) (w : Wrapper) (m : Move) → count_of m ≡ 0 → is_write m ≡ false → Plain ds (fresh ds w m)
fresh_plain ds w m e f = record { same = refl; came = refl; reads = e; no_write = f; status = refl; unfailed = refl; went = refl }

fresh_told : (ds : List Held) (w : Wrapper) (m : Move) → Told ds (fresh ds w m) 0 [] []
fresh_told ds w m = record { came = refl; size = refl; count = omega arith; disks = sym (unwritten (512 * lba_of m) ds); went = refl }

fresh_moved : (ds : List Held) (w : Wrapper) (m : Move) → moved (fresh ds w m) 0 ≡ 0
fresh_moved ds w move.None = refl
fresh_moved ds w (move.In bytes) = refl
fresh_moved ds w (move.Read lba count) = refl
fresh_moved ds w (move.Write lba count) = refl
fresh_moved ds w move.Sync = refl
fresh_moved ds w (move.Fail sense) = refl

fresh_left : (ds : List Held) (w : Wrapper) (m : Move) → w.length ≡ w.length - moved (fresh ds w m) 0
fresh_left ds w m = let e = fresh_moved ds w m in omega (arith, e)

-- it ends at once, with a failure
fresh_fails : (q : List ℕ) (ds : List Held) (t : Turn) (w : Wrapper) (m : Move) (halts : Option ℕ) (code : ℕ) → Quiet t → q ≡ [] → 0 < code → code ≤ 2 → After q ds (fresh ds w m) (with_end t halts w.tag w.length code)
fresh_fails q ds t w m halts code h e some few =
    end_after q ds (fresh ds w m) t halts w.tag w.length code 0 [] [] h e (fresh_told ds w m) refl refl (fresh_left ds w m) few (λ z. absurd (omega (arith, z, some)))

-- or it passes, where it has nothing to move
fresh_passes : (q : List ℕ) (ds : List Held) (t : Turn) (w : Wrapper) (m : Move) (halts : Option ℕ) → Quiet t → q ≡ [] → count_of m ≡ 0 → data_of m ds ≡ [] → After q ds (fresh ds w m) (with_end t halts w.tag w.length 0)
fresh_passes q ds t w m halts h e none nothing =
    end_after q ds (fresh ds w m) t halts w.tag w.length 0 0 [] [] h e (fresh_told ds w m) refl refl (fresh_left ds w m) (omega arith) (λ _. (sym none, sym nothing, refl))

unmoved_known : (q : List ℕ) (ds : List Held) (t : Turn) (w : Wrapper) (r : Row) (m : Move) → Quiet t → q ≡ [] → (Means (intended m) → ⊥) → StepKnown q ds (fresh ds w m) (unmoved t w r m)
unmoved_known q ds t w r move.None h e never = fresh_passes q ds t w move.None r.halts h e refl refl
unmoved_known q ds t w r (move.In bytes) h e never = absurd (never tt)
unmoved_known q ds t w r (move.Read lba count) h e never = absurd (never tt)
unmoved_known q ds t w r (move.Write lba count) h e never = absurd (never tt)
unmoved_known q ds t w r move.Sync h e never =
    (record { plain = fresh_plain ds w move.Sync refl refl; none = refl; went = refl; tag_ = refl; host_ = refl }, e)
unmoved_known q ds t w r (move.Fail sense) h e never = fresh_fails q ds t w (move.Fail sense) r.halts 1 h e (omega arith) (omega arith)

-- the blocks of a read lie on the disk
read_length : (blocks lba count : ℕ) (bytes : List ℕ) → length bytes ≡ 512 * blocks → lba + count ≤ blocks → 512 * count ≡ length (take (512 * count) (drop (512 * lba) bytes))
read_length blocks lba count bytes size within =
    let a = length-take (512 * count) (drop (512 * lba) bytes) in
    let b = length-drop (512 * lba) bytes in
    omega (arith, a, b, size, within)

nil_length : (l : List ℕ) → l ≡ [] → length l ≡ 0
nil_length l e = rw e refl

moving_known : (blocks : ℕ) (q : List ℕ) (ds : List Held) (t : Turn) (w : Wrapper) (r : Row) (m : Move) → Quiet t → q ≡ [] → t.storage.block ≡ [] → length (here ds) ≡ 512 * blocks → Can blocks m → r.moves ≡ true → (r.moves ≡ true → Means (intended m)) → StepKnown q ds (fresh ds w m) (moving t w r m)
moving_known blocks q ds t w r move.None h e b size can it means = absurd (means it)
moving_known blocks q ds t w r (move.In bytes) h e b size can it means =
    data_after q ds (fresh ds w (move.In bytes)) t (flow_of w (length bytes.items) 0) bytes.items h e (omega (arith, can.1)) (record {
      plain = record { same = refl; came = refl; reads = refl; no_write = refl; status = refl; unfailed = refl; went = sym (take_all (length bytes.items) bytes.items (omega arith)) };
      tag = refl;
      host = refl;
      sum = omega arith;
      device = refl;
      more = inl (omega arith);
    })
moving_known blocks q ds t w r (move.Read lba count) h e b size can it means = (
  record {
    plain = fresh_plain ds w (move.Read lba count) refl refl;
    tag = refl;
    host = refl;
    lba = lba;
    count = count;
    j = 0;
    wants = refl;
    moved_ = refl;
    size = refl;
    next = omega arith;
    device = read_length blocks lba count (here ds) size can.1;
  },
  e,
)
moving_known blocks q ds t w r (move.Write lba count) h e b size can it means = record {
  k = 0;
  lba = lba;
  count = count;
  front = [];
  told = record { came = sym b; size = refl; count = omega arith; disks = sym (unwritten (512 * lba) ds); went = refl };
  wants = refl;
  tag = refl;
  host = refl;
  device = refl;
  moved_ = omega (arith, nil_length t.storage.block b);
  next = omega arith;
  status = refl;
  went = refl;
  unfailed = refl;
}
moving_known blocks q ds t w r move.Sync h e b size can it means = absurd (means it)
moving_known blocks q ds t w r (move.Fail sense) h e b size can it means = absurd (means it)

by_row_known : (blocks : ℕ) (q : List ℕ) (ds : List Held) (t : Turn) (w : Wrapper) (m : Move) → Quiet t → q ≡ [] → t.storage.block ≡ [] → length (here ds) ≡ 512 * blocks → Can blocks m → StepKnown q ds (fresh ds w m) (by_row t w (row_for (expected w.is_in w.length) (intended m)) m)
by_row_known blocks q ds t w m h e b size can =
    let host = expected w.is_in w.length in
    let r = row_for host (intended m) in
    let it = cases_agree host (intended m) in
    cond_both r.is_phase_error _ _ (StepKnown q ds (fresh ds w m))
    (λ _. fresh_fails q ds t w m r.halts 2 h e (omega arith) (omega arith))
    (λ fine. cond_both r.moves _ _ (StepKnown q ds (fresh ds w m))
    (λ yes. moving_known blocks q ds t w r m h e b size can yes (λ x. (it.1.0 x).1))
    (λ not_. unmoved_known q ds t w r m h e (λ means. both_ways r.moves not_ (it.1.1 (it.0.0 fine, means)))))

pub commanded_known : (blocks : ℕ) (q : List ℕ) (ds : List Held) (t : Turn) (w : Wrapper) → Quiet t → q ≡ [] → t.storage.block ≡ [] → length (here ds) ≡ 512 * blocks → IsSoundUnit t.storage.unit → t.storage.unit.blocks ≡ blocks
    → StepKnown q ds (fresh ds w (scsi.worked t.storage.unit w.command).moves) (commanded t w)
commanded_known blocks q ds t w h e b size s n =
    let o = scsi.worked t.storage.unit w.command in
    let can : Can blocks o.moves = subst (λ (x : ℕ). Can x o.moves) n (command_can t.storage.unit w.command s) in
    by_row_known blocks q ds (record t { storage = record t.storage { unit = o.leaves } }) w o.moves (beside t (record t.storage { unit = o.leaves }) refl refl refl h) e b size can

-- Data from the host.

-- what is past the device's end is where that is reached
over_of : (moved device : ℕ) (l : List ℕ) → moved ≤ device → (drop (device - moved) l ≡ []) ⊎ (moved + min (device - moved) (length l) ≡ device)
over_of moved device l le = elim (cases_lt (device - moved) (length l)) [
  | inl less ↦ inr (omega (arith, less, le))
  | inr more ↦ inl (drop_all (device - moved) l more)
]

-- no bytes are past the device's end in a packet that doesn't fill a block
pub received_known : (q : List ℕ) (ds : List Held) (st : Story) (t : Turn) (flow : Flow) (bytes : List ℕ) → q ≡ [] → flow.moved < flow.device → Storing ds st flow t.storage.block
    → StepKnown q ds (record st { came = st.came ++ bytes }) (received t flow bytes)
received_known q ds st t flow bytes e more h =
    let left = flow.device - flow.moved in
    let n = min left (length bytes) in
    let block = t.storage.block in
    let new = block ++ take left bytes in
    let extra = drop left bytes in
    let taken : length new ≡ length block + n = length-append block (take left bytes) ∙ ap (λ (x : ℕ). length block + x) (length-take left bytes) in
    let all : (st.came ++ bytes) ≡ h.front ++ (new ++ extra) =
    ap (λ (l : List ℕ). l ++ bytes) h.told.came ∙ append_assoc h.front block bytes
    ∙ ap (λ (l : List ℕ). h.front ++ (block ++ l)) (sym (take-append-drop left bytes))
    ∙ ap (λ (l : List ℕ). h.front ++ l) (sym (append_assoc block (take left bytes) extra)) in
    cond_both (nat_lt (length new) 512) _ _ (StepKnown q ds (record st { came = st.came ++ bytes }))
    (λ few. let fewer = ltb-true (length new) 512 few in
    let none : extra ≡ [] = drop_all left bytes (omega (arith, fewer, taken, h.moved_, h.device, more)) in
    record {
      k = h.k;
      lba = h.lba;
      count = h.count;
      front = h.front;
      told = record {
        came = all ∙ ap (λ (l : List ℕ). h.front ++ (new ++ l)) none ∙ ap (λ (l : List ℕ). h.front ++ l) (append-nil new);
        size = h.told.size;
        count = h.told.count;
        disks = h.told.disks;
        went = h.told.went;
      };
      wants = h.wants;
      tag = h.tag;
      host = h.host;
      device = h.device;
      moved_ = omega (arith, h.moved_, taken);
      next = h.next;
      status = h.status;
      went = h.went;
      unfailed = h.unfailed;
    })
    (λ _. (
      record {
        k = h.k;
        lba = h.lba;
        count = h.count;
        front = h.front;
        extra = extra;
        told = record { came = all; size = h.told.size; count = h.told.count; disks = h.told.disks; went = h.told.went };
        wants = h.wants;
        tag = h.tag;
        host = h.host;
        device = h.device;
        moved_ = omega (arith, h.moved_, taken);
        next = h.next;
        over = over_of flow.moved flow.device bytes (omega (arith, more));
        status = h.status;
        went = h.went;
        unfailed = h.unfailed;
      },
      e,
    ))

-- Data for the host.

moved_plain : (st : Story) (k : ℕ) → is_write st.wants ≡ false → moved st k ≡ length st.went + 512 * k
moved_plain st k e = rw e (omega arith)

moved_whole : (st : Story) (k : ℕ) → st.failed ≡ false → moved st k ≡ length st.went + 512 * k
moved_whole st k e = rw (e, and_right (is_write st.wants) false refl) (omega arith)

moved_cut : (st : Story) (k : ℕ) → is_write st.wants ≡ true → st.failed ≡ true → moved st k ≡ length st.went + 512 * k + 512
moved_cut st k e f = rw (e, f) refl

all_went : (went whole : List ℕ) → went ≡ take (length went) whole → length went ≡ length whole → went ≡ whole
all_went went whole e n = e ∙ take_all (length went) whole (omega (arith, n))

next_block : (P : Type 0) (a b : ℕ) (N : Type 0) → ((a ≡ b) ⊎ N) → (a ≡ b → ⊥) → (N → P) → P
next_block P a b N (inl e) never f = absurd (never e)
next_block P a b N (inr n) never f = f n

pub sent_on_known : (q : List ℕ) (ds : List Held) (st : Story) (t : Turn) (flow : Flow) (loaded : ℕ) → Quiet t → q ≡ [] → Loading ds st flow loaded → StepKnown q ds st (sent_on t (moved_by flow loaded))
sent_on_known q ds st t flow loaded h e load =
    cond_both (flow.moved + loaded == flow.device) _ _ (StepKnown q ds st)
    (λ done. let all = eqb-true (flow.moved + loaded) flow.device done in
    let n = moved_plain st 0 load.plain.no_write in
    let size : length st.went ≡ length (data_of st.wants st.before) = omega (arith, load.sum, load.device, all) in
    end_after q ds st t (flow_row true (moved_by flow loaded)).halts flow.tag (flow.host - (flow.moved + loaded)) 0 0 [] [] h e (plain_told ds st load.plain) load.plain.status load.tag
    (omega (arith, n, load.host, load.sum)) (omega arith)
    (λ _. (sym load.plain.reads, all_went st.went (data_of st.wants st.before) load.plain.went size, load.plain.unfailed)))
    (λ more. next_block (Reading ds st (moved_by flow loaded) × (q ≡ [])) (flow.moved + loaded) flow.device (NextBlock st flow) load.more (eqb-false (flow.moved + loaded) flow.device more)
    (λ next. (
      record {
        plain = load.plain;
        tag = load.tag;
        host = load.host;
        lba = next.lba;
        count = next.count;
        j = next.j;
        wants = next.wants;
        moved_ = load.sum;
        size = next.size;
        next = next.next;
        device = load.device;
      },
      e,
    )))

-- The disk's answer.

pub with_call_none : (st : Story) → with_call false st ≡ st
with_call_none st = ap (λ (b : Bool). record st { failed = b }) (or_nothing st.failed)

sum_of : (a b c d : ℕ) → a ≡ c → b ≡ d → a + b ≡ c + d
sum_of a b c d e f = omega arith

-- the block that is read is the next one of those that are asked for
went_more : (blocks : ℕ) (ds : List Held) (st : Story) (flow : Flow) (shelf : Shelf) → shelf.disks ≡ ds → Base blocks ds st → (h : Reading ds st flow) → h.j < h.count
    → (st.went ++ read_block 0 flow.next shelf ≡ take (512 * h.j + 512) (data_of st.wants st.before)) × (length (read_block 0 flow.next shelf) ≡ 512)
went_more blocks ds st flow shelf here_ base h below =
    let bytes = here st.before in
    let at = 512 * h.lba in
    let can : Can blocks (move.Read h.lba h.count) = subst (λ (m : Move). Can blocks m) h.wants base.can in
    let all : data_of st.wants st.before ≡ take (512 * h.count) (drop at bytes) = ap (λ (m : Move). data_of m st.before) h.wants in
    let block : read_block 0 flow.next shelf ≡ take 512 (drop (at + 512 * h.j) bytes) =
    read_is shelf flow.next ∙ ap (λ (l : List Held). block_at flow.next (here l)) (here_ ∙ h.plain.same)
    ∙ ap (λ (n : ℕ). take 512 (drop n bytes)) (place flow.next h.lba h.j h.next) in
    let front : st.went ≡ take (512 * h.j) (drop at bytes) =
    h.plain.went ∙ ap (λ (n : ℕ). take n (data_of st.wants st.before)) h.size ∙ ap (λ (l : List ℕ). take (512 * h.j) l) all
    ∙ take-take (512 * h.j) (512 * h.count) (drop at bytes) (omega (arith, below)) in (
      ap (λ (l : List ℕ). l ++ read_block 0 flow.next shelf) front ∙ ap (λ (l : List ℕ). take (512 * h.j) (drop at bytes) ++ l) block
          ∙ read_more at (512 * h.j) 512 bytes
          ∙ sym (take-take (512 * h.j + 512) (512 * h.count) (drop at bytes) (omega (arith, below)))
          ∙ ap (λ (l : List ℕ). take (512 * h.j + 512) l) (sym all),
      let a = length-take 512 (drop (at + 512 * h.j) bytes) in
          let b = length-drop (at + 512 * h.j) bytes in
          let c = ap length block in
          omega (arith, a, b, c, base.was, can.1, below),
    )
  where
    place : (next lba j : ℕ) → next ≡ lba + j → 512 * next ≡ 512 * lba + 512 * j
    place next lba j e = omega arith

below_of : (blocks : ℕ) (ds : List Held) (st : Story) (flow : Flow) → IsReading blocks flow → Base blocks ds st → (h : Reading ds st flow) → h.j < h.count
below_of blocks ds st flow fits base h =
    let can : Can blocks (move.Read h.lba h.count) = subst (λ (m : Move). Can blocks m) h.wants base.can in
    let all : data_of st.wants st.before ≡ take (512 * h.count) (drop (512 * h.lba) (here st.before)) = ap (λ (m : Move). data_of m st.before) h.wants in
    let n = read_length blocks h.lba h.count (here st.before) base.was can.1 in
    let m = ap length all in
    omega (arith, h.device, n, m, fits.whole, fits.some, h.moved_, h.size)

pub read_passes : (blocks : ℕ) (q : List ℕ) (ds : List Held) (st : Story) (t : Turn) (flow : Flow) (shelf : Shelf) → shelf.disks ≡ ds → Quiet t → q ≡ [] → IsReading blocks flow → Base blocks ds st → Reading ds st flow
    → After q ds (with_call false st) (fetched t flow (read_block 0 flow.next shelf))
read_passes blocks q ds st t flow shelf here_ h e fits base known =
    let below = below_of blocks ds st flow fits base known in
    let more = went_more blocks ds st flow shelf here_ base known below in
    let block = read_block 0 flow.next shelf in
    let new : Flow = record flow { next = flow.next + 1 } in
    let size : length (st.went ++ block) ≡ 512 * known.j + 512 = length-append st.went block ∙ sum_of (length st.went) (length block) (512 * known.j) 512 known.size more.1 in
    subst (λ (s : Story). After q ds s (fetched t flow block)) (sym (with_call_none st))
    (data_after q ds st t new block h e (omega (arith, more.1)) (record {
      plain = record {
        same = known.plain.same;
        came = known.plain.came;
        reads = known.plain.reads;
        no_write = known.plain.no_write;
        status = known.plain.status;
        unfailed = known.plain.unfailed;
        went = more.0 ∙ ap (λ (n : ℕ). take n (data_of st.wants st.before)) (sym size);
      };
      tag = known.tag;
      host = known.host;
      sum = omega (arith, size, known.moved_, known.size, more.1);
      device = known.device;
      more = inr (record { lba = known.lba; count = known.count; j = known.j + 1; wants = known.wants; next = omega (arith, known.next); size = omega (arith, size) });
    }))

-- what is known of a story stays where only the fault is noted
plain_failed : (ds : List Held) (st : Story) → Plain ds st → Told ds (with_call true st) 0 [] []
plain_failed ds st h = let t = plain_told ds st h in record { came = t.came; size = t.size; count = t.count; disks = t.disks; went = t.went }

pub read_fails : (q : List ℕ) (ds : List Held) (st : Story) (t : Turn) (flow : Flow) → Quiet t → q ≡ [] → Reading ds st flow → After q ds (with_call true st) (unfetched t flow)
read_fails q ds st t flow h e known =
    let n = moved_plain (with_call true st) 0 known.plain.no_write in
    end_after q ds (with_call true st) (with_fault t read_error) (due_pipe true flow) flow.tag (flow.host - flow.moved) 1 0 [] [] (beside t (with_sense t.storage read_error) refl refl refl h) e (plain_failed ds st known.plain) known.plain.status
    known.tag (omega (arith, n, known.host, known.moved_)) (omega arith) (λ z. absurd (omega (arith, z)))

pub sync_passes : (q : List ℕ) (ds : List Held) (st : Story) (t : Turn) (tag host : ℕ) (halts : Option ℕ) → Quiet t → q ≡ [] → Syncing ds st tag host → After q ds (with_call false st) (with_end t halts tag host 0)
sync_passes q ds st t tag host halts h e known =
    let n = moved_plain st 0 known.plain.no_write in
    let none = nil_length st.went known.went in
    subst (λ (s : Story). After q ds s (with_end t halts tag host 0)) (sym (with_call_none st))
    (end_after q ds st t halts tag host 0 0 [] [] h e (plain_told ds st known.plain) known.plain.status known.tag_ (omega (arith, n, none, known.host_)) (omega arith)
    (λ _. (sym known.plain.reads, known.went ∙ sym known.none, known.plain.unfailed)))

pub sync_fails : (q : List ℕ) (ds : List Held) (st : Story) (t : Turn) (tag host : ℕ) (halts : Option ℕ) → Quiet t → q ≡ [] → Syncing ds st tag host → After q ds (with_call true st) (with_end (with_fault t write_error) halts tag host 1)
sync_fails q ds st t tag host halts h e known =
    let n = moved_plain (with_call true st) 0 known.plain.no_write in
    let none = nil_length st.went known.went in
    end_after q ds (with_call true st) (with_fault t write_error) halts tag host 1 0 [] [] (beside t (with_sense t.storage write_error) refl refl refl h) e (plain_failed ds st known.plain) known.plain.status
    known.tag_ (omega (arith, n, none, known.host_)) (omega arith) (λ z. absurd (omega (arith, z)))

few_code : (b : Bool) (c : ℕ) → c ≤ 2 → (if b then 2 else c) ≤ 2
few_code true c h = omega arith
few_code false c h = h

abbrev cut_code : Bool → ℕ
cut_code b = if b then 2 else 1

some_code : (b : Bool) → cut_code b ≡ 0 → ⊥
some_code true z = omega (arith, z)
some_code false z = omega (arith, z)

pub write_fails : (blocks : ℕ) (q : List ℕ) (ds : List Held) (st : Story) (t : Turn) (flow : Flow) (is_over : Bool) → Quiet t → q ≡ [] → IsWriting blocks flow t.storage.block → Writing ds st flow t.storage.block
    → After q ds (with_call true st) (unstored t flow is_over)
write_fails blocks q ds st t flow is_over h e fits known =
    let new = with_call true st in
    let n = moved_cut new known.k (ap is_write known.wants) (or_right st.failed true refl) in
    let none = nil_length st.went known.went in
    let left = length-drop 512 t.storage.block in
    let code = cut_code is_over in
    end_after q ds new (with_fault t write_error) (due_pipe false (record flow { moved = flow.moved - length (drop 512 t.storage.block) })) flow.tag (flow.host - (flow.moved - length (drop 512 t.storage.block))) code
    known.k known.front (t.storage.block ++ known.extra) (beside t (with_sense t.storage write_error) refl refl refl h) e
    (record { came = known.told.came; size = known.told.size; count = known.told.count; disks = known.told.disks; went = known.told.went })
    known.status known.tag (omega (arith, n, none, left, known.host, known.moved_, fits.whole_block)) (few_code is_over 1 (omega arith)) (λ z. absurd (some_code is_over z))

-- the block that is written stands behind those before it
written_told : (blocks : ℕ) (ds : List Held) (st : Story) (t : Turn) (flow : Flow) (shelf : Shelf) → shelf.disks ≡ ds → IsWriting blocks flow t.storage.block → Base blocks ds st → (h : Writing ds st flow t.storage.block)
    → Told (written 0 flow.next (take 512 t.storage.block) shelf).disks st (h.k + 1) (h.front ++ take 512 t.storage.block) (drop 512 t.storage.block ++ h.extra)
written_told blocks ds st t flow shelf here_ fits base h =
    let block = t.storage.block in
    let first = take 512 block in
    let bytes = here st.before in
    let can : Can blocks (move.Write h.lba h.count) = subst (λ (m : Move). Can blocks m) h.wants base.can in
    let at : lba_of st.wants ≡ h.lba = ap lba_of h.wants in
    let count : count_of st.wants ≡ h.count = ap count_of h.wants in
    let below : h.k + 1 ≤ h.count = omega (arith, h.device, h.moved_, fits.moved, fits.whole_block) in
    let one : length first ≡ 512 = length-take-le 512 block fits.whole_block in
    let old = overwritten (512 * h.lba) h.front bytes in
    let disks : ds ≡ with_here old st.before = h.told.disks ∙ ap (λ (n : ℕ). with_here (overwritten (512 * n) h.front bytes) st.before) at in
    let some : 0 < length bytes = omega (arith, base.was, can.1, below) in
    record {
      came = h.told.came ∙ ap (λ (l : List ℕ). h.front ++ (l ++ h.extra)) (sym (take-append-drop 512 block))
          ∙ ap (λ (l : List ℕ). h.front ++ l) (append_assoc first (drop 512 block) h.extra) ∙ sym (append_assoc h.front first (drop 512 block ++ h.extra));
      size = length-append h.front first ∙ sum_of (length h.front) (length first) (512 * h.k) 512 h.told.size one ∙ more h.k;
      count = omega (arith, count, below);
      disks = written_is shelf flow.next first
          ∙ ap (λ (l : List Held). with_here (with_block flow.next first (here l)) l) (here_ ∙ disks)
          ∙ ap (λ (b : List ℕ). with_here (with_block flow.next first b) (with_here old st.before)) (here_with old st.before some)
          ∙ with_here_twice (with_block flow.next first old) old st.before
          ∙ ap (λ (n : ℕ). with_here (with_block n first old) st.before) h.next
          ∙ ap (λ (b : List ℕ). with_here b st.before) (block_behind h.lba h.k h.front first bytes h.told.size one (omega (arith, base.was, can.1, below)))
          ∙ ap (λ (n : ℕ). with_here (overwritten (512 * n) (h.front ++ first) bytes) st.before) (sym at);
      went = h.told.went;
    }
  where
    more : (k : ℕ) → 512 * k + 512 ≡ 512 * (k + 1)
    more k = omega arith

pub write_passes : (blocks : ℕ) (q : List ℕ) (ds : List Held) (st : Story) (t : Turn) (flow : Flow) (is_over : Bool) (shelf : Shelf) → shelf.disks ≡ ds → Quiet t → q ≡ [] → IsWriting blocks flow t.storage.block → Base blocks ds st → Writing ds st flow t.storage.block
    → After q (written 0 flow.next (take 512 t.storage.block) shelf).disks (with_call false st) (stored t flow is_over)
write_passes blocks q ds st t flow is_over shelf here_ h e fits base known =
    let block = t.storage.block in
    let new = (written 0 flow.next (take 512 block) shelf).disks in
    let told = written_told blocks ds st t flow shelf here_ fits base known in
    let n = moved_whole st (known.k + 1) known.unfailed in
    let none = nil_length st.went known.went in
    let count : count_of st.wants ≡ known.count = ap count_of known.wants in
    let data_ : data_of st.wants st.before ≡ [] = ap (λ (m : Move). data_of m st.before) known.wants in
    let left = length-drop 512 block in
    subst (λ (s : Story). After q new s (stored t flow is_over)) (sym (with_call_none st))
    (cond_both (flow.moved == flow.device) _ _ (After q new st)
    (λ done. let all = eqb-true flow.moved flow.device done in
    let last : known.k + 1 ≡ known.count = omega (arith, all, known.device, known.moved_, fits.whole_block, fits.most) in
    end_after q new st t (flow_row false flow).halts flow.tag (flow.host - flow.moved) (if is_over then 2 else 0) (known.k + 1) (known.front ++ take 512 block) (drop 512 block ++ known.extra) h e told known.status
    known.tag (omega (arith, n, none, known.host, all, known.device, last)) (few_code is_over 0 (omega arith))
    (λ _. (last ∙ sym count, known.went ∙ sym data_, known.unfailed)))
    (λ more. let nothing_past : known.extra ≡ [] = next_of known.extra (flow.moved ≡ flow.device) known.over (eqb-false flow.moved flow.device more) in
    record {
      k = known.k + 1;
      lba = known.lba;
      count = known.count;
      front = known.front ++ take 512 block;
      told = record {
        came = told.came ∙ ap (λ (l : List ℕ). (known.front ++ take 512 block) ++ (drop 512 block ++ l)) nothing_past ∙ ap (λ (l : List ℕ). (known.front ++ take 512 block) ++ l) (append-nil (drop 512 block));
        size = told.size;
        count = told.count;
        disks = told.disks;
        went = told.went;
      };
      wants = known.wants;
      tag = known.tag;
      host = known.host;
      device = known.device;
      moved_ = omega (arith, known.moved_, left, fits.whole_block);
      next = omega (arith, known.next);
      status = known.status;
      went = known.went;
      unfailed = known.unfailed;
    }))
  where
    next_of : (l : List ℕ) (D : Type 0) → ((l ≡ []) ⊎ D) → (D → ⊥) → l ≡ []
    next_of l D (inl e) never = e
    next_of l D (inr d) never = absurd (never d)
