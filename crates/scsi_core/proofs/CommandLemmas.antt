-- What every row of the table of commands keeps.
use Rattle.std.proofs.Common.{◌≡◌, ◌≢◌, subst, ℕ, length, length-take, ◌+◌, ◌-◌, ◌≤◌, List, [], ◌∷◌, ◌++◌, take, Bool, true, false, nat_lt, nat_eq, IsTrue, Option, unwrap_or, ◌⊎◌, inl, inr, refl, sym, arith, rules}
use Rattle.std.specs.Prelude.{MatchOption, ⊤}
use Rattle.std.proofs.lemmas.Bool.{ltb-false, eqb-true}
use Rattle.byteorder.specs.Endian.{big_bytes}
use Rattle.scsi_core.specs.declared.Sense.{Sense}
use Rattle.scsi_core.specs.declared.Unit.{Unit as Disk}
use Rattle.scsi_core.specs.declared.Move.{Move}
use Rattle.scsi_core.specs.declared.Move.TheVariants.{None as Nothing, In, Read, Write, Sync, Fail}
use Rattle.scsi_core.specs.Sense.{no_sense, is_no_sense, medium_may_have_changed, medium_not_present, address_out_of_range, write_protected, invalid_command, invalid_field, removal_prevented, fixed_format}
use Rattle.scsi_core.specs.Command.{Outcome, done, failed, worked, IsSound, told, ready, in_range, writable, byte, bit_0, bit_1, number, start_stop, Row, table, unknown, row_of, by_row, data_move, data_in, inquiry_data, request_sense, told_sense}
use Rattle.scsi_core.specs.Laws.{IsMovable, sense_left, FailureKeeps, IsAllowed, TellsSense, allocation_length, HasCause, Refuses}
use Rattle.scsi_core.proofs.Choices.{if_holds, or_else_holds, unwrap_or_holds, EachRow}
use Rattle.scsi_core.proofs.Causes.{chosen, by_row_caused, caused_of, data_has_cause, by_row_refuses}

-- the laws of `command`, as one fact
pub record KeepsLaws (old : Disk) (cdb : List ℕ) (o : Outcome) : Type 0 where
  pub size : o.leaves.blocks ≡ old.blocks
  pub protection : o.leaves.protected ≡ old.protected
  pub sound : IsSound o.leaves
  pub movable : IsMovable old o.moves
  pub sense : o.leaves.sense ≡ sense_left o.moves
  pub failure : FailureKeeps old o.leaves o.moves
  pub allowed : IsAllowed (byte 0 cdb) cdb o.moves
  pub cause : HasCause (byte 0 cdb) old cdb o.moves
  pub refuses : byte 0 cdb ≢ 3 → Refuses (byte 0 cdb) old o.moves
  pub told : byte 0 cdb ≡ 3 → TellsSense old o.leaves cdb o.moves
  pub attention : byte 0 cdb ≢ 3 → (o.leaves.attention ≡ old.attention) ⊎ (o.moves ≡ Fail medium_may_have_changed)

-- what holds of the outcome of each command but REQUEST SENSE, on a unit whose sense was forgotten
pub record IsLawful (old : Disk) (o : Outcome) : Type 0 where
  pub blocks : o.leaves.blocks ≡ old.blocks
  pub protection : o.leaves.protected ≡ old.protected
  pub sound : IsSound o.leaves
  pub movable : IsMovable old o.moves
  pub sense : o.leaves.sense ≡ sense_left o.moves
  pub keeps : FailureKeeps old o.leaves o.moves
  pub attention : (o.leaves.attention ≡ old.attention) ⊎ (o.moves ≡ Fail medium_may_have_changed)

failed_lawful : (unit : Disk) (s : Sense) → IsSound unit → IsLawful unit (failed s unit)
failed_lawful unit s h = record {
  blocks = refl;
  protection = refl;
  sound = record { given = h.given };
  movable = tt;
  sense = refl;
  keeps = (refl, refl);
  attention = inl refl;
}

-- where no sense is left, what is done is lawful if it may be moved
done_lawful : (unit : Disk) (move : Move) → IsSound unit → unit.sense ≡ sense_left move → IsMovable unit move
    → FailureKeeps unit unit move → IsLawful unit (done move unit)
done_lawful unit move h s m k = record {
  blocks = refl;
  protection = refl;
  sound = h;
  movable = m;
  sense = s;
  keeps = k;
  attention = inl refl;
}

told_lawful : (unit : Disk) (cdb : List ℕ) → IsSound unit → MatchOption (told unit cdb) ⊤ (IsLawful unit)
told_lawful unit cdb h =
    if_holds (λ o. MatchOption o ⊤ (IsLawful unit)) unit.attention _ _
    (λ _. record {
      blocks = refl;
      protection = refl;
      sound = record { given = h.given };
      movable = tt;
      sense = refl;
      keeps = (refl, refl);
      attention = inr refl;
    })
    (λ _. tt)

ready_lawful : (unit : Disk) (cdb : List ℕ) → IsSound unit
    → MatchOption (ready unit cdb) (IsTrue unit.present) (IsLawful unit)
ready_lawful unit cdb h =
    or_else_holds (IsLawful unit) ⊤ (IsTrue unit.present) (told unit cdb) _ (told_lawful unit cdb h)
    (λ _. if_holds (λ o. MatchOption o (IsTrue unit.present) (IsLawful unit)) unit.present _ _ (λ e. e)
    (λ _. failed_lawful unit medium_not_present h))

-- the blocks of a transfer lie on a medium that is present
abbrev InRange : Disk → List ℕ → Type 0
InRange unit cdb = IsTrue unit.present × (number 2 4 cdb + number 7 2 cdb ≤ unit.blocks)

in_range_lawful : (unit : Disk) (cdb : List ℕ) → IsSound unit
    → MatchOption (in_range unit cdb) (InRange unit cdb) (IsLawful unit)
in_range_lawful unit cdb h =
    or_else_holds (IsLawful unit) (IsTrue unit.present) (InRange unit cdb) (ready unit cdb) _ (ready_lawful unit cdb h)
    (λ p. if_holds (λ o. MatchOption o (InRange unit cdb) (IsLawful unit))
    (nat_lt unit.blocks (number 2 4 cdb + number 7 2 cdb)) _ _
    (λ _. failed_lawful unit address_out_of_range h)
    (λ e. (p, ltb-false unit.blocks (number 2 4 cdb + number 7 2 cdb) e)))

writable_lawful : (unit : Disk) (cdb : List ℕ) → IsSound unit
    → MatchOption (writable unit cdb) (InRange unit cdb × (unit.protected ≡ false)) (IsLawful unit)
writable_lawful unit cdb h =
    or_else_holds (IsLawful unit) (InRange unit cdb) (InRange unit cdb × (unit.protected ≡ false)) (in_range unit cdb) _
    (in_range_lawful unit cdb h)
    (λ p. if_holds (λ o. MatchOption o (InRange unit cdb × (unit.protected ≡ false)) (IsLawful unit)) unit.protected _ _
    (λ _. failed_lawful unit write_protected h) (λ e. (p, e)))

data_movable : (unit : Disk) (bytes : List ℕ) → IsMovable unit (data_move bytes)
data_movable unit [] = tt
data_movable unit (first ∷ rest) = search rules

data_sense : (bytes : List ℕ) → no_sense ≡ sense_left (data_move bytes)
data_sense [] = refl
data_sense (first ∷ rest) = refl

data_keeps : (old new : Disk) (bytes : List ℕ) → FailureKeeps old new (data_move bytes)
data_keeps old new [] = tt
data_keeps old new (first ∷ rest) = tt

-- the sense does not matter for what may be moved, and for what a failure keeps
movable_of : (unit : Disk) (move : Move) → IsMovable (record unit { sense = no_sense }) move → IsMovable unit move
movable_of unit Nothing h = h
movable_of unit (In bytes) h = h
movable_of unit (Read lba count) h = h
movable_of unit (Write lba count) h = h
movable_of unit Sync h = h
movable_of unit (Fail sense) h = h

keeps_of : (old new : Disk) (move : Move) → FailureKeeps (record old { sense = no_sense }) new move → FailureKeeps old new move
keeps_of old new Nothing h = h
keeps_of old new (In bytes) h = h
keeps_of old new (Read lba count) h = h
keeps_of old new (Write lba count) h = h
keeps_of old new Sync h = h
keeps_of old new (Fail sense) h = h

data_lawful : (unit : Disk) (bytes : List ℕ) → IsSound unit → unit.sense ≡ no_sense → IsLawful unit (done (data_move bytes) unit)
data_lawful unit [] h s = done_lawful unit Nothing h s tt tt
data_lawful unit (first ∷ rest) h s = done_lawful unit (In (record { items = first ∷ rest })) h s (search rules) tt

nothing_lawful : (unit : Disk) → IsSound unit → unit.sense ≡ no_sense → IsLawful unit (done Nothing unit)
nothing_lawful unit h s = done_lawful unit Nothing h s tt tt

start_stop_lawful : (unit : Disk) (flags : ℕ) → IsSound unit → unit.sense ≡ no_sense → IsLawful unit (start_stop unit flags)
start_stop_lawful unit flags h s =
    if_holds (IsLawful unit) (nat_eq flags 2) _ _
    (λ _. if_holds (IsLawful unit) unit.prevented _ _ (λ _. failed_lawful unit removal_prevented h)
    (λ _. record { blocks = refl; protection = refl; sound = record { given = λ e. grind arith }; movable = tt; sense = s; keeps = tt; attention = inl refl }))
    (λ _. if_holds (IsLawful unit) (nat_eq flags 3) _ _
    (λ _. if_holds (IsLawful unit) (nat_eq unit.blocks 0) _ _ (λ _. nothing_lawful unit h s)
    (λ e. record { blocks = refl; protection = refl; sound = record { given = λ _. grind arith }; movable = tt; sense = s; keeps = tt; attention = inl refl }))
    (λ _. nothing_lawful unit h s))

-- a row is lawful on each unit whose sense was forgotten
abbrev Lawful : Disk → List ℕ → Row → Type 0
Lawful unit cdb r = IsLawful unit (by_row r unit cdb)

row_of_holds : (P : Row → Type 0) (rows : List Row) (code : ℕ) → EachRow P rows → P unknown → P (row_of rows code)
row_of_holds P [] code h k = k
row_of_holds P (first ∷ rest) code h k =
    if_holds P (nat_eq first.code code) first (row_of rest code) (λ _. h.0) (λ _. row_of_holds P rest code h.1 k)

-- a command that asks this and then does nothing but move
rows_lawful : (unit : Disk) (cdb : List ℕ) → IsSound unit → unit.sense ≡ no_sense → EachRow (Lawful unit cdb) table
rows_lawful unit cdb h s =
    let asks_ready : (o : Outcome) → IsLawful unit o → IsLawful unit (unwrap_or (ready unit cdb) o) =
    λ o l. unwrap_or_holds (IsLawful unit) (IsTrue unit.present) (ready unit cdb) o (ready_lawful unit cdb h) (λ _. l) in
    let asks_told : (o : Outcome) → IsLawful unit o → IsLawful unit (unwrap_or (told unit cdb) o) =
    λ o l. unwrap_or_holds (IsLawful unit) ⊤ (told unit cdb) o (told_lawful unit cdb h) (λ _. l) in
    let asks_in_range : (o : Outcome) → (InRange unit cdb → IsLawful unit o) → IsLawful unit (unwrap_or (in_range unit cdb) o) =
    λ o l. unwrap_or_holds (IsLawful unit) (InRange unit cdb) (in_range unit cdb) o (in_range_lawful unit cdb h) l in (
      asks_ready _ (nothing_lawful unit h s),
      (
        if_holds (IsLawful unit) (bit_0 1 cdb) _ _ (λ _. failed_lawful unit invalid_field h) (λ _. data_lawful unit _ h s),
        (
          asks_ready _ (data_lawful unit _ h s),
          (
            asks_told _ (start_stop_lawful unit (byte 4 cdb) h s),
            (
              asks_told _ (record { blocks = refl; protection = refl; sound = record { given = h.given }; movable = tt; sense = s; keeps = tt; attention = inl refl }),
              (
                asks_ready _ (data_lawful unit _ h s),
                (
                  asks_ready _ (data_lawful unit (big_bytes 4 (unit.blocks - 1) ++ big_bytes 4 512) h s),
                  (
                    asks_in_range _ (λ p. if_holds (λ m. IsLawful unit (done m unit)) (nat_eq (number 7 2 cdb) 0) _ _
                        (λ _. nothing_lawful unit h s)
                        (λ e. done_lawful unit (Read (number 2 4 cdb) (number 7 2 cdb)) h s (p.0, grind arith, p.1) tt)),
                    (
                      unwrap_or_holds (IsLawful unit) (InRange unit cdb × (unit.protected ≡ false)) (writable unit cdb) _ (writable_lawful unit cdb h)
                          (λ p. if_holds (λ m. IsLawful unit (done m unit)) (nat_eq (number 7 2 cdb) 0) _ _
                          (λ _. nothing_lawful unit h s)
                          (λ e. done_lawful unit (Write (number 2 4 cdb) (number 7 2 cdb)) h s (p.0.0, p.1, grind arith, p.0.1) tt)),
                      (
                        asks_in_range _ (λ _. if_holds (IsLawful unit) (bit_1 1 cdb) _ _ (λ _. failed_lawful unit invalid_field h)
                            (λ _. nothing_lawful unit h s)),
                        (
                          unwrap_or_holds (IsLawful unit) (IsTrue unit.present) (ready unit cdb) _ (ready_lawful unit cdb h)
                              (λ p. done_lawful unit Sync h s p tt),
                          tt,
                        ),
                      ),
                    ),
                  ),
                ),
              ),
            ),
          ),
        ),
      ),
    )

pub by_row_lawful : (unit : Disk) (cdb : List ℕ) (code : ℕ) → IsSound unit → unit.sense ≡ no_sense
    → IsLawful unit (by_row (row_of table code) unit cdb)
by_row_lawful unit cdb code h s =
    row_of_holds (Lawful unit cdb) table code (rows_lawful unit cdb h s)
    (unwrap_or_holds (IsLawful unit) (IsTrue unit.present) (ready unit cdb) _ (ready_lawful unit cdb h)
    (λ _. failed_lawful unit invalid_command h))

-- data that is cut to the allocation length is allowed
move_allowed : (code : ℕ) (cdb bytes : List ℕ) → length bytes ≤ allocation_length code cdb → IsAllowed code cdb (data_move bytes)
move_allowed code cdb [] h = tt
move_allowed code cdb (first ∷ rest) h = h

cut_allowed : (code room : ℕ) (cdb bytes : List ℕ) → room ≡ allocation_length code cdb → IsAllowed code cdb (data_in bytes room)
cut_allowed code room cdb bytes h = move_allowed code cdb (take room bytes) (omega (arith, length-take room bytes, h))

-- a command that is refused gives no data
refused_allowed : (code : ℕ) (cdb : List ℕ) (unit : Disk) (s : Sense) → IsAllowed code cdb (failed s unit).moves
refused_allowed code cdb unit s = tt

abbrev GivesNone : ℕ → List ℕ → Option Outcome → Type 0
GivesNone code cdb o = MatchOption o ⊤ (λ p. IsAllowed code cdb p.moves)

told_refuses : (code : ℕ) (cdb : List ℕ) (unit : Disk) → GivesNone code cdb (told unit cdb)
told_refuses code cdb unit = if_holds (GivesNone code cdb) unit.attention _ _ (λ _. tt) (λ _. tt)

ready_refuses : (code : ℕ) (cdb : List ℕ) (unit : Disk) → GivesNone code cdb (ready unit cdb)
ready_refuses code cdb unit =
    or_else_holds (λ p. IsAllowed code cdb p.moves) ⊤ ⊤ (told unit cdb) _ (told_refuses code cdb unit)
    (λ _. if_holds (GivesNone code cdb) unit.present _ _ (λ _. tt) (λ _. tt))

in_range_refuses : (code : ℕ) (cdb : List ℕ) (unit : Disk) → GivesNone code cdb (in_range unit cdb)
in_range_refuses code cdb unit =
    or_else_holds (λ p. IsAllowed code cdb p.moves) ⊤ ⊤ (ready unit cdb) _ (ready_refuses code cdb unit)
    (λ _. if_holds (GivesNone code cdb) (nat_lt unit.blocks (number 2 4 cdb + number 7 2 cdb)) _ _ (λ _. tt) (λ _. tt))

writable_refuses : (code : ℕ) (cdb : List ℕ) (unit : Disk) → GivesNone code cdb (writable unit cdb)
writable_refuses code cdb unit =
    or_else_holds (λ p. IsAllowed code cdb p.moves) ⊤ ⊤ (in_range unit cdb) _ (in_range_refuses code cdb unit)
    (λ _. if_holds (GivesNone code cdb) unit.protected _ _ (λ _. tt) (λ _. tt))

-- each row gives no more than its own command's allocation length
abbrev Allows : Disk → List ℕ → Row → Type 0
Allows unit cdb r = IsAllowed r.code cdb (by_row r unit cdb).moves

after_asking : (code : ℕ) (cdb : List ℕ) (a : Option Outcome) (o : Outcome) → GivesNone code cdb a → IsAllowed code cdb o.moves → IsAllowed code cdb (unwrap_or a o).moves
after_asking code cdb a o h k = unwrap_or_holds (λ p. IsAllowed code cdb p.moves) ⊤ a o h (λ _. k)

stop_allowed : (code : ℕ) (cdb : List ℕ) (unit : Disk) (flags : ℕ) → IsAllowed code cdb (start_stop unit flags).moves
stop_allowed code cdb unit flags =
    let P : Outcome → Type 0 = λ p. IsAllowed code cdb p.moves in
    if_holds P (nat_eq flags 2) _ _ (λ _. if_holds P unit.prevented _ _ (λ _. tt) (λ _. tt))
    (λ _. if_holds P (nat_eq flags 3) _ _ (λ _. if_holds P (nat_eq unit.blocks 0) _ _ (λ _. tt) (λ _. tt)) (λ _. tt))

rows_allow : (unit : Disk) (cdb : List ℕ) → EachRow (Allows unit cdb) table
rows_allow unit cdb =
    let P : ℕ → Outcome → Type 0 = λ code p. IsAllowed code cdb p.moves in (
      after_asking 0x00 cdb (ready unit cdb) _ (ready_refuses 0x00 cdb unit) tt,
      (
        if_holds (P 0x12) (bit_0 1 cdb) _ _ (λ _. tt) (λ _. cut_allowed 0x12 (number 3 2 cdb) cdb inquiry_data refl),
        (
          after_asking 0x1a cdb (ready unit cdb) _ (ready_refuses 0x1a cdb unit) (cut_allowed 0x1a (byte 4 cdb) cdb _ refl),
          (
            after_asking 0x1b cdb (told unit cdb) _ (told_refuses 0x1b cdb unit) (stop_allowed 0x1b cdb unit (byte 4 cdb)),
            (
              after_asking 0x1e cdb (told unit cdb) _ (told_refuses 0x1e cdb unit) tt,
              (
                after_asking 0x23 cdb (ready unit cdb) _ (ready_refuses 0x23 cdb unit) (cut_allowed 0x23 (number 7 2 cdb) cdb _ refl),
                (
                  after_asking 0x25 cdb (ready unit cdb) _ (ready_refuses 0x25 cdb unit)
                      (move_allowed 0x25 cdb (big_bytes 4 (unit.blocks - 1) ++ big_bytes 4 512) (grind arith)),
                  (
                    after_asking 0x28 cdb (in_range unit cdb) _ (in_range_refuses 0x28 cdb unit)
                        (if_holds (λ m. IsAllowed 0x28 cdb m) (nat_eq (number 7 2 cdb) 0) _ _ (λ _. tt) (λ _. tt)),
                    (
                      after_asking 0x2a cdb (writable unit cdb) _ (writable_refuses 0x2a cdb unit)
                          (if_holds (λ m. IsAllowed 0x2a cdb m) (nat_eq (number 7 2 cdb) 0) _ _ (λ _. tt) (λ _. tt)),
                      (
                        after_asking 0x2f cdb (in_range unit cdb) _ (in_range_refuses 0x2f cdb unit)
                            (if_holds (P 0x2f) (bit_1 1 cdb) _ _ (λ _. tt) (λ _. tt)),
                        (after_asking 0x35 cdb (ready unit cdb) _ (ready_refuses 0x35 cdb unit) tt, tt),
                      ),
                    ),
                  ),
                ),
              ),
            ),
          ),
        ),
      ),
    )

by_row_allowed : (unit : Disk) (cdb : List ℕ) (code : ℕ) → IsAllowed code cdb (by_row (row_of table code) unit cdb).moves
by_row_allowed unit cdb code =
    chosen (λ c r. IsAllowed c cdb (by_row r unit cdb).moves) table code (rows_allow unit cdb)
    (λ _. after_asking code cdb (ready unit cdb) _ (ready_refuses code cdb unit) tt)

-- REQUEST SENSE, by whether a sense is pending
no_sense_is : (s : Sense) → is_no_sense s ≡ true → s ≡ no_sense
no_sense_is s h = grind arith

no_sense_test : (s : Sense) → s ≡ no_sense → is_no_sense s ≡ true
no_sense_test s h = rw h refl

some_sense_test : (s : Sense) (b : Bool) → is_no_sense s ≡ b → s ≢ no_sense → is_no_sense s ≡ false
some_sense_test s true e h = absurd (h (no_sense_is s e))
some_sense_test s false e h = e

request_sense_tells : (unit : Disk) (cdb : List ℕ) → TellsSense unit (request_sense unit cdb).leaves cdb (request_sense unit cdb).moves
request_sense_tells unit cdb = record {
  pending = λ h. let e = some_sense_test unit.sense (is_no_sense unit.sense) refl h in (rw e refl, rw e refl);
  changed = λ h a. let e = no_sense_test unit.sense h in (rw (e, a) refl, rw e refl);
  nothing = λ h a. let e = no_sense_test unit.sense h in (rw (e, a, h) refl, rw e refl);
}

request_sense_lawful : (unit : Disk) (cdb : List ℕ) → IsSound unit → byte 0 cdb ≡ 3 → KeepsLaws unit cdb (request_sense unit cdb)
request_sense_lawful unit cdb h is_3 =
    let m : IsMovable unit (request_sense unit cdb).moves = data_movable unit (take (byte 4 cdb) (fixed_format (told_sense unit))) in
    record {
      size = refl;
      protection = refl;
      sound = record { given = h.given };
      movable = m;
      sense = data_sense (take (byte 4 cdb) (fixed_format (told_sense unit)));
      failure = data_keeps unit (request_sense unit cdb).leaves (take (byte 4 cdb) (fixed_format (told_sense unit)));
      allowed = subst (λ c. IsAllowed c cdb (request_sense unit cdb).moves) (sym is_3) (cut_allowed 0x03 (byte 4 cdb) cdb (fixed_format (told_sense unit)) refl);
      cause = data_has_cause (byte 0 cdb) unit cdb (take (byte 4 cdb) (fixed_format (told_sense unit)));
      refuses = λ not_3. absurd (not_3 is_3);
      told = λ _. request_sense_tells unit cdb;
      attention = λ not_3. absurd (not_3 is_3);
    }

other_code : (code : ℕ) → nat_eq code 3 ≡ false → code ≢ 3
other_code code h is_3 = grind arith

-- every command keeps the laws
pub worked_keeps_laws : (unit : Disk) (cdb : List ℕ) → IsSound unit → KeepsLaws unit cdb (worked unit cdb)
worked_keeps_laws unit cdb h =
    if_holds (KeepsLaws unit cdb) (nat_eq (byte 0 cdb) 3) _ _
    (λ e. request_sense_lawful unit cdb h (eqb-true (byte 0 cdb) 3 e))
    (λ not_sense. let o = by_row (row_of table (byte 0 cdb)) (record unit { sense = no_sense }) cdb in
    let l = by_row_lawful (record unit { sense = no_sense }) cdb (byte 0 cdb) (record { given = h.given }) refl in
    record {
      size = l.blocks;
      protection = l.protection;
      sound = l.sound;
      movable = movable_of unit o.moves l.movable;
      sense = l.sense;
      failure = keeps_of unit o.leaves o.moves l.keeps;
      allowed = by_row_allowed (record unit { sense = no_sense }) cdb (byte 0 cdb);
      cause = caused_of (byte 0 cdb) unit cdb o.moves (by_row_caused (record unit { sense = no_sense }) cdb (byte 0 cdb));
      refuses = λ _. let r = by_row_refuses (record unit { sense = no_sense }) cdb (byte 0 cdb) in record { changed = r.changed; absent = r.absent };
      told = λ is_3. absurd (other_code (byte 0 cdb) not_sense is_3);
      attention = λ _. l.attention;
    })

-- so do an answer and a unit that are those of the table
laws_at : (old new : Disk) (cdb : List ℕ) (moves : Move) (o : Outcome) → moves ≡ o.moves → new ≡ o.leaves
    → KeepsLaws old cdb o → KeepsLaws old cdb (record { moves = moves; leaves = new })
laws_at old new cdb moves o m l h =
    let P : Move → Type 0 = λ x. KeepsLaws old cdb (record { moves = x; leaves = o.leaves }) in
    let Q : Disk → Type 0 = λ x. KeepsLaws old cdb (record { moves = moves; leaves = x }) in
    subst Q (sym l) (subst P (sym m) h)

pub laws_of : (old new : Disk) (cdb : List ℕ) (moves : Move) → IsSound old
    → moves ≡ (worked old cdb).moves → new ≡ (worked old cdb).leaves → KeepsLaws old cdb (record { moves = moves; leaves = new })
laws_of old new cdb moves h m l = laws_at old new cdb moves (worked old cdb) m l (worked_keeps_laws old cdb h)
