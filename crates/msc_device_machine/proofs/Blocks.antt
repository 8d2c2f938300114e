-- What a command leaves on the disk and sends of it, kept by every turn.
use Rattle.std.proofs.Common.{◌≡◌, ◌⊎◌, inl, inr, ℕ, ◌+◌, ◌-◌, ◌*◌, ◌≤◌, List, [], ◌++◌, length, take, drop, Bool, true, false, ◌||◌, Option, arith, refl, sym, ap, subst, ◌∙◌, append-nil}
use Rattle.std.proofs.lemmas.List.{take_all}
use Rattle.usb_edge.specs.Disk.{Held}
use Rattle.scsi_core.specs.declared.Move.{Move}
use Rattle.scsi_core.specs.declared.Move.TheVariants as move
use Rattle.msc_device_machine.specs.declared.transport.Flow.{Flow}
use Rattle.msc_device_machine.specs.declared.transport.Transport.{Transport}
use Rattle.msc_device_machine.specs.declared.transport.Transport.TheVariants.{Command, Broken, Sending, Receiving, Status}
use Rattle.msc_device_machine.specs.Wrapper.{status_wrapper}
use Rattle.msc_device_machine.specs.Storage.{Turn, with_halt, with_end, with_data}
use Rattle.msc_device_machine.specs.Story.{Story, here, with_here, overwritten, queued_as}
use Rattle.msc_device_machine.specs.BlockLaws.{is_write, data_of, moved}
use Rattle.msc_device_machine.proofs.Pipes.{Quiet, with_halt_same}
use Rattle.msc_device_machine.proofs.Shelves.{unwritten}

-- the blocks of a write
abbrev pub lba_of : Move → ℕ
lba_of (move.Write lba count) = lba
lba_of move.None = 0
lba_of (move.In bytes) = 0
lba_of (move.Read lba count) = 0
lba_of move.Sync = 0
lba_of (move.Fail sense) = 0

abbrev pub count_of : Move → ℕ
count_of (move.Write lba count) = count
count_of move.None = 0
count_of (move.In bytes) = 0
count_of (move.Read lba count) = 0
count_of move.Sync = 0
count_of (move.Fail sense) = 0

-- k blocks of what came were written
pub record Told (ds : List Held) (st : Story) (k : ℕ) (front rest : List ℕ) : Type 0 where
  pub came : st.came ≡ front ++ rest
  pub size : length front ≡ 512 * k
  pub count : k ≤ count_of st.wants
  pub disks : ds ≡ with_here (overwritten (512 * lba_of st.wants) front (here st.before)) st.before
  pub went : st.went ≡ take (length st.went) (data_of st.wants st.before)

pub record IsReport (st : Story) (k : ℕ) : Type 0 where
  pub code : ℕ
  pub status : st.status ≡ status_wrapper st.wrapper.tag (st.wrapper.length - moved st k) code
  pub few : code ≤ 2
  pub whole : code ≡ 0 → (k ≡ count_of st.wants) × (st.went ≡ data_of st.wants st.before) × (st.failed ≡ false)

pub record Settled (ds : List Held) (st : Story) : Type 0 where
  pub k : ℕ
  pub front : List ℕ
  pub rest : List ℕ
  pub told : Told ds st k front rest
  pub report : (st.status ≡ []) ⊎ IsReport st k

-- a write goes on
pub record Storing (ds : List Held) (st : Story) (flow : Flow) (block : List ℕ) : Type 0 where
  pub k : ℕ
  pub lba : ℕ
  pub count : ℕ
  pub front : List ℕ
  pub told : Told ds st k front block
  pub wants : st.wants ≡ move.Write lba count
  pub tag : flow.tag ≡ st.wrapper.tag
  pub host : flow.host ≡ st.wrapper.length
  pub device : flow.device ≡ 512 * count
  pub moved_ : flow.moved ≡ 512 * k + length block
  pub next : flow.next ≡ lba + k
  pub status : st.status ≡ []
  pub went : st.went ≡ []
  pub unfailed : st.failed ≡ false

-- nothing was written, and nothing is to be
pub record Plain (ds : List Held) (st : Story) : Type 0 where
  pub same : ds ≡ st.before
  pub came : st.came ≡ []
  pub reads : count_of st.wants ≡ 0
  pub no_write : is_write st.wants ≡ false
  pub status : st.status ≡ []
  pub unfailed : st.failed ≡ false
  pub went : st.went ≡ take (length st.went) (data_of st.wants st.before)

pub record NextBlock (st : Story) (flow : Flow) : Type 0 where
  pub lba : ℕ
  pub count : ℕ
  pub j : ℕ
  pub wants : st.wants ≡ move.Read lba count
  pub next : flow.next ≡ lba + j
  pub size : length st.went ≡ 512 * j

-- data is sent
pub record Loading (ds : List Held) (st : Story) (flow : Flow) (loaded : ℕ) : Type 0 where
  pub plain : Plain ds st
  pub tag : flow.tag ≡ st.wrapper.tag
  pub host : flow.host ≡ st.wrapper.length
  pub sum : flow.moved + loaded ≡ length st.went
  pub device : flow.device ≡ length (data_of st.wants st.before)
  pub more : (flow.moved + loaded ≡ flow.device) ⊎ NextBlock st flow

abbrev pub Known : Transport → List ℕ → List Held → Story → Type 0
Known Command block ds st = Settled ds st
Known Broken block ds st = Settled ds st
Known Status block ds st = Settled ds st
Known (Sending flow loaded) block ds st = Loading ds st flow loaded
Known (Receiving flow) block ds st = Storing ds st flow block

pub plain_told : (ds : List Held) (st : Story) → Plain ds st → Told ds st 0 [] []
plain_told ds st h = record {
  came = h.came;
  size = refl;
  count = omega (arith, h.reads);
  disks = h.same ∙ sym (unwritten (512 * lba_of st.wants) st.before);
  went = h.went;
}

pub settled : (t : Transport) (block : List ℕ) (ds : List Held) (st : Story) → Known t block ds st → Settled ds st
settled Command block ds st h = h
settled Broken block ds st h = h
settled Status block ds st h = h
settled (Sending flow loaded) block ds st h = record { k = 0; front = []; rest = []; told = plain_told ds st h.plain; report = inl h.plain.status }
settled (Receiving flow) block ds st h = record { k = h.k; front = h.front; rest = block; told = h.told; report = inl h.status }

-- What is queued.

pub or_nothing : (b : Bool) → (b || false) ≡ b
or_nothing true = refl
or_nothing false = refl

pub queued_nothing : (t : Transport) (st : Story) → queued_as t [] st ≡ st
queued_nothing Command st = refl
queued_nothing Broken st = refl
queued_nothing (Receiving flow) st = refl
queued_nothing (Sending flow loaded) st = ap (λ (l : List ℕ). record st { went = l }) (append-nil st.went)
queued_nothing Status st = ap (λ (l : List ℕ). record st { status = l }) (append-nil st.status)

-- what is known after a turn, by the bytes that it queued behind those that were
abbrev pub After : List ℕ → List Held → Story → Turn → Type 0
After q ds st t = Known t.storage.transport t.storage.block ds (queued_as t.storage.transport (drop (length q) t.own.sends.pipe.queue) st)

wrapper_length : (tag residue code : ℕ) → length (status_wrapper tag residue code) ≡ 13
wrapper_length tag residue code = refl

filled : (queue bytes : List ℕ) (capacity : ℕ) → queue ≡ [] → 512 ≤ capacity → length bytes ≤ 512 → queue ++ take (capacity - length queue) bytes ≡ bytes
filled queue bytes capacity e room few = rw e (take_all (capacity - 0) bytes (omega (arith, room, few)))

end_queue : (t : Turn) (halts : Option ℕ) (tag residue code : ℕ) → Quiet t → (with_end t halts tag residue code).own.sends.pipe.queue ≡ status_wrapper tag residue code
end_queue t halts tag residue code h =
    let k = with_halt_same t.own halts in
    filled (with_halt t.own halts).sends.pipe.queue (status_wrapper tag residue code) (with_halt t.own halts).sends.capacity
    (k.queue ∙ h.queue) (omega (arith, k.capacity, h.room)) (omega (arith, wrapper_length tag residue code))

-- a command ends, with k blocks written
pub end_after : (q : List ℕ) (ds : List Held) (st : Story) (t : Turn) (halts : Option ℕ) (tag residue code k : ℕ) (front rest : List ℕ)
    → Quiet t → q ≡ [] → Told ds st k front rest → st.status ≡ [] → tag ≡ st.wrapper.tag → residue ≡ st.wrapper.length - moved st k → code ≤ 2
    → (code ≡ 0 → (k ≡ count_of st.wants) × (st.went ≡ data_of st.wants st.before) × (st.failed ≡ false))
    → After q ds st (with_end t halts tag residue code)
end_after q ds st t halts tag residue code k front rest h e told none same left few whole =
    let csw = status_wrapper tag residue code in
    let bytes : drop (length q) (with_end t halts tag residue code).own.sends.pipe.queue ≡ csw =
    rw e (end_queue t halts tag residue code h) in
    let P : List ℕ → Type 0 = λ l. Settled ds (record st { status = l }) in
    let status : st.status ++ drop (length q) (with_end t halts tag residue code).own.sends.pipe.queue ≡ status_wrapper st.wrapper.tag (st.wrapper.length - moved st k) code =
    ap (λ (l : List ℕ). l ++ drop (length q) (with_end t halts tag residue code).own.sends.pipe.queue) none ∙ bytes
    ∙ ap (λ (n : ℕ). status_wrapper n residue code) same ∙ ap (λ (n : ℕ). status_wrapper st.wrapper.tag n code) left in
    record {
      k = k;
      front = front;
      rest = rest;
      told = record { came = told.came; size = told.size; count = told.count; disks = told.disks; went = told.went };
      report = inr (record { code = code; status = status; few = few; whole = whole });
    }

-- data is queued behind what was sent
pub data_after : (q : List ℕ) (ds : List Held) (st : Story) (t : Turn) (flow : Flow) (bytes : List ℕ)
    → Quiet t → q ≡ [] → length bytes ≤ 512 → Loading ds (record st { went = st.went ++ bytes }) flow (length bytes) → After q ds st (with_data t flow bytes)
data_after q ds st t flow bytes h e few load =
    let all : drop (length q) (with_data t flow bytes).own.sends.pipe.queue ≡ bytes =
    rw e (filled t.own.sends.pipe.queue bytes t.own.sends.capacity h.queue h.room few) in
    subst (λ (l : List ℕ). Loading ds (record st { went = st.went ++ l }) flow (length bytes)) (sym all) load
