-- Each command that fails has a cause, and what has to be told is told.
use Rattle.std.proofs.Common.{◌≡◌, subst, ℕ, ◌+◌, ◌-◌, ◌≤◌, List, [], ◌∷◌, ◌++◌, true, false, nat_lt, nat_eq, unwrap_or, ◌⊎◌, inl, inr, refl}
use Rattle.std.specs.Prelude.{MatchOption}
use Rattle.std.specs.List.{list_any}
use Rattle.std.proofs.lemmas.Bool.{ltb-false, ltb-true, eqb-true}
use Rattle.byteorder.specs.Endian.{big_bytes}
use Rattle.scsi_core.specs.declared.Sense.{Sense}
use Rattle.scsi_core.specs.declared.Unit.{Unit as Disk}
use Rattle.scsi_core.specs.declared.Move.{Move}
use Rattle.scsi_core.specs.declared.Move.TheVariants.{None as Nothing, In, Read, Write, Sync, Fail}
use Rattle.scsi_core.specs.Sense.{no_sense}
use Rattle.scsi_core.specs.Command.{Outcome, told, ready, in_range, writable, byte, bit_0, bit_1, number, start_stop, Row, table, unknown as unknown_row, row_of, by_row, data_move}
use Rattle.scsi_core.specs.Laws.{Cause, changed, absent, past, protected, pages, comparison, prevented, unknown, HasCause, Refuses}
use Rattle.scsi_core.proofs.Choices.{if_holds, or_else_holds, unwrap_or_holds, EachRow}

-- the row that is chosen for a code has that code, or no row has it
pub chosen : (P : ℕ → Row → Type 0) (rows : List Row) (code : ℕ) → EachRow (λ r. P r.code r) rows
    → (list_any (λ (r : Row). nat_eq r.code code) rows ≡ false → P code unknown_row) → P code (row_of rows code)
chosen P [] code h k = k refl
chosen P (first ∷ rest) code h k =
    if_holds (P code) (nat_eq first.code code) first (row_of rest code)
    (λ e. subst (λ c. P c first) (eqb-true first.code code e) h.0)
    (λ e. chosen P rest code h.1 (λ none. k (rw (e, none) refl)))

abbrev Caused : ℕ → Disk → List ℕ → Outcome → Type 0
Caused code unit cdb o = HasCause code unit cdb o.moves

data_caused : (code : ℕ) (unit : Disk) (cdb bytes : List ℕ) → HasCause code unit cdb (data_move bytes)
data_caused code unit cdb [] = tt
data_caused code unit cdb (first ∷ rest) = tt

-- what lets a command pass
abbrev Told : Disk → Type 0
Told unit = unit.attention ≡ false

abbrev Ready : Disk → Type 0
Ready unit = Told unit × (unit.present ≡ true)

abbrev Within : Disk → List ℕ → Type 0
Within unit cdb = Ready unit × (number 2 4 cdb + number 7 2 cdb ≤ unit.blocks)

abbrev Moves : ℕ → Type 0
Moves code = (code ≡ 0x28) ⊎ ((code ≡ 0x2a) ⊎ (code ≡ 0x2f))

told_caused : (code : ℕ) (unit : Disk) (cdb : List ℕ) → MatchOption (told unit cdb) (Told unit) (Caused code unit cdb)
told_caused code unit cdb =
    if_holds (λ o. MatchOption o (Told unit) (Caused code unit cdb)) unit.attention _ _ (λ e. changed e) (λ e. e)

ready_caused : (code : ℕ) (unit : Disk) (cdb : List ℕ) → MatchOption (ready unit cdb) (Ready unit) (Caused code unit cdb)
ready_caused code unit cdb =
    or_else_holds (Caused code unit cdb) (Told unit) (Ready unit) (told unit cdb) _ (told_caused code unit cdb)
    (λ t. if_holds (λ o. MatchOption o (Ready unit) (Caused code unit cdb)) unit.present _ _ (λ e. (t, e)) (λ e. absent t e))

in_range_caused : (code : ℕ) (unit : Disk) (cdb : List ℕ) → Moves code → MatchOption (in_range unit cdb) (Within unit cdb) (Caused code unit cdb)
in_range_caused code unit cdb m =
    or_else_holds (Caused code unit cdb) (Ready unit) (Within unit cdb) (ready unit cdb) _ (ready_caused code unit cdb)
    (λ r. if_holds (λ o. MatchOption o (Within unit cdb) (Caused code unit cdb)) (nat_lt unit.blocks (number 2 4 cdb + number 7 2 cdb)) _ _
    (λ e. past m r.0 r.1 (ltb-true unit.blocks (number 2 4 cdb + number 7 2 cdb) e))
    (λ e. (r, ltb-false unit.blocks (number 2 4 cdb + number 7 2 cdb) e)))

writable_caused : (code : ℕ) (unit : Disk) (cdb : List ℕ) → code ≡ 0x2a → MatchOption (writable unit cdb) (Within unit cdb) (Caused code unit cdb)
writable_caused code unit cdb is_write =
    or_else_holds (Caused code unit cdb) (Within unit cdb) (Within unit cdb) (in_range unit cdb) _ (in_range_caused code unit cdb (inr (inl is_write)))
    (λ w. if_holds (λ o. MatchOption o (Within unit cdb) (Caused code unit cdb)) unit.protected _ _
    (λ e. protected is_write w.0.0 w.0.1 w.1 e) (λ e. w))

stop_caused : (unit : Disk) (cdb : List ℕ) → Told unit → Caused 0x1b unit cdb (start_stop unit (byte 4 cdb))
stop_caused unit cdb t =
    let P : Outcome → Type 0 = Caused 0x1b unit cdb in
    if_holds P (nat_eq (byte 4 cdb) 2) _ _
    (λ two. if_holds P unit.prevented _ _ (λ e. prevented refl t (eqb-true (byte 4 cdb) 2 two) e) (λ _. tt))
    (λ _. if_holds P (nat_eq (byte 4 cdb) 3) _ _ (λ _. if_holds P (nat_eq unit.blocks 0) _ _ (λ _. tt) (λ _. tt)) (λ _. tt))

-- a row, by what it asks
after_told : (code : ℕ) (unit : Disk) (cdb : List ℕ) (o : Outcome) → (Told unit → Caused code unit cdb o) → Caused code unit cdb (unwrap_or (told unit cdb) o)
after_told code unit cdb o h = unwrap_or_holds (Caused code unit cdb) (Told unit) (told unit cdb) o (told_caused code unit cdb) h

after_ready : (code : ℕ) (unit : Disk) (cdb : List ℕ) (o : Outcome) → (Ready unit → Caused code unit cdb o) → Caused code unit cdb (unwrap_or (ready unit cdb) o)
after_ready code unit cdb o h = unwrap_or_holds (Caused code unit cdb) (Ready unit) (ready unit cdb) o (ready_caused code unit cdb) h

after_range : (code : ℕ) (unit : Disk) (cdb : List ℕ) (o : Outcome) → Moves code → (Within unit cdb → Caused code unit cdb o) → Caused code unit cdb (unwrap_or (in_range unit cdb) o)
after_range code unit cdb o m h = unwrap_or_holds (Caused code unit cdb) (Within unit cdb) (in_range unit cdb) o (in_range_caused code unit cdb m) h

rows_caused : (unit : Disk) (cdb : List ℕ) → EachRow (λ r. Caused r.code unit cdb (by_row r unit cdb)) table
rows_caused unit cdb = (
  after_ready 0x00 unit cdb _ (λ _. tt),
  (
    if_holds (Caused 0x12 unit cdb) (bit_0 1 cdb) _ _ (λ e. pages refl e) (λ _. data_caused 0x12 unit cdb _),
    (
      after_ready 0x1a unit cdb _ (λ _. data_caused 0x1a unit cdb _),
      (
        after_told 0x1b unit cdb _ (λ t. stop_caused unit cdb t),
        (
          after_told 0x1e unit cdb _ (λ _. tt),
          (
            after_ready 0x23 unit cdb _ (λ _. data_caused 0x23 unit cdb _),
            (
              after_ready 0x25 unit cdb _ (λ _. data_caused 0x25 unit cdb (big_bytes 4 (unit.blocks - 1) ++ big_bytes 4 512)),
              (
                after_range 0x28 unit cdb _ (inl refl) (λ _. if_holds (HasCause 0x28 unit cdb) (nat_eq (number 7 2 cdb) 0) _ _ (λ _. tt) (λ _. tt)),
                (
                  unwrap_or_holds (Caused 0x2a unit cdb) (Within unit cdb) (writable unit cdb) _ (writable_caused 0x2a unit cdb refl)
                      (λ _. if_holds (HasCause 0x2a unit cdb) (nat_eq (number 7 2 cdb) 0) _ _ (λ _. tt) (λ _. tt)),
                  (
                    after_range 0x2f unit cdb _ (inr (inr refl)) (λ w. if_holds (Caused 0x2f unit cdb) (bit_1 1 cdb) _ _ (λ e. comparison refl w.0.0 w.0.1 w.1 e) (λ _. tt)),
                    (after_ready 0x35 unit cdb _ (λ _. tt), tt),
                  ),
                ),
              ),
            ),
          ),
        ),
      ),
    ),
  ),
)

pub by_row_caused : (unit : Disk) (cdb : List ℕ) (code : ℕ) → HasCause code unit cdb (by_row (row_of table code) unit cdb).moves
by_row_caused unit cdb code =
    chosen (λ c r. Caused c unit cdb (by_row r unit cdb)) table code (rows_caused unit cdb)
    (λ none. after_ready code unit cdb _ (λ r. unknown none r.0 r.1))

-- the sense doesn't matter for a cause
cause_of : (code : ℕ) (unit : Disk) (cdb : List ℕ) (s : Sense) → Cause code (record unit { sense = no_sense }) cdb s → Cause code unit cdb s
cause_of code unit cdb s (changed a) = changed a
cause_of code unit cdb s (absent a b) = absent a b
cause_of code unit cdb s (past a b c d) = past a b c d
cause_of code unit cdb s (protected a b c d e) = protected a b c d e
cause_of code unit cdb s (pages a b) = pages a b
cause_of code unit cdb s (comparison a b c d e) = comparison a b c d e
cause_of code unit cdb s (prevented a b c d) = prevented a b c d
cause_of code unit cdb s (unknown a b c) = unknown a b c

pub caused_of : (code : ℕ) (unit : Disk) (cdb : List ℕ) (m : Move) → HasCause code (record unit { sense = no_sense }) cdb m → HasCause code unit cdb m
caused_of code unit cdb (Fail s) h = cause_of code unit cdb s h
caused_of code unit cdb Nothing h = tt
caused_of code unit cdb (In bytes) h = tt
caused_of code unit cdb (Read lba count) h = tt
caused_of code unit cdb (Write lba count) h = tt
caused_of code unit cdb Sync h = tt

pub data_has_cause : (code : ℕ) (unit : Disk) (cdb bytes : List ℕ) → HasCause code unit cdb (data_move bytes)
data_has_cause code unit cdb bytes = data_caused code unit cdb bytes

-- what has to be told
refuses_ready : (code : ℕ) (unit : Disk) (cdb : List ℕ) (o : Outcome) → Refuses code unit (unwrap_or (ready unit cdb) o).moves
refuses_ready code unit cdb o = record {
  changed = λ _ a. rw a refl;
  absent = λ _ _ _ a p. rw (a, p) refl;
}

refuses_range : (code : ℕ) (unit : Disk) (cdb : List ℕ) (o : Outcome) → Refuses code unit (unwrap_or (in_range unit cdb) o).moves
refuses_range code unit cdb o = record {
  changed = λ _ a. rw a refl;
  absent = λ _ _ _ a p. rw (a, p) refl;
}

refuses_writable : (code : ℕ) (unit : Disk) (cdb : List ℕ) (o : Outcome) → Refuses code unit (unwrap_or (writable unit cdb) o).moves
refuses_writable code unit cdb o = record {
  changed = λ _ a. rw a refl;
  absent = λ _ _ _ a p. rw (a, p) refl;
}

rows_refuse : (unit : Disk) (cdb : List ℕ) → EachRow (λ r. Refuses r.code unit (by_row r unit cdb).moves) table
rows_refuse unit cdb = (
  refuses_ready 0x00 unit cdb _,
  (
    record { changed = λ n _. absurd (n refl); absent = λ n _ _ _ _. absurd (n refl) },
    (
      refuses_ready 0x1a unit cdb _,
      (
        record { changed = λ _ a. rw a refl; absent = λ _ n _ _ _. absurd (n refl) },
        (
          record { changed = λ _ a. rw a refl; absent = λ _ _ n _ _. absurd (n refl) },
          (
            refuses_ready 0x23 unit cdb _,
            (
              refuses_ready 0x25 unit cdb _,
              (
                refuses_range 0x28 unit cdb _,
                (refuses_writable 0x2a unit cdb _, (refuses_range 0x2f unit cdb _, (refuses_ready 0x35 unit cdb _, tt))),
              ),
            ),
          ),
        ),
      ),
    ),
  ),
)

pub by_row_refuses : (unit : Disk) (cdb : List ℕ) (code : ℕ) → Refuses code unit (by_row (row_of table code) unit cdb).moves
by_row_refuses unit cdb code =
    chosen (λ c r. Refuses c unit (by_row r unit cdb).moves) table code (rows_refuse unit cdb)
    (λ none. refuses_ready code unit cdb _)
