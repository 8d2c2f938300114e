-- Data of a command's own has at most 36 bytes.
use Rattle.std.proofs.Common.{ℕ, ◌≤◌, ◌-◌, List, [], ◌∷◌, ◌++◌, length, length-take, take, Option, unwrap_or, nat_eq, nat_lt, arith}
use Rattle.std.specs.Prelude.{MatchOption, ⊤}
use Rattle.byteorder.specs.Endian.{big_bytes}
use Rattle.scsi_core.specs.declared.Unit.{Unit as Disk}
use Rattle.scsi_core.specs.declared.Move.{Move}
use Rattle.scsi_core.specs.declared.Move.TheVariants.{None as Nothing, In, Read, Write, Sync, Fail}
use Rattle.scsi_core.specs.Sense.{no_sense, fixed_format}
use Rattle.scsi_core.specs.Command.{Outcome, worked, told, ready, in_range, writable, byte, bit_0, bit_1, number, start_stop, table, by_row, data_move, data_in, inquiry_data, told_sense}
use Rattle.scsi_core.proofs.Choices.{if_holds, or_else_holds, unwrap_or_holds, EachRow}
use Rattle.scsi_core.proofs.Causes.{chosen}

abbrev pub IsFew : Move → Type 0
IsFew Nothing = ⊤
IsFew (In bytes) = length bytes.items ≤ 36
IsFew (Read lba count) = ⊤
IsFew (Write lba count) = ⊤
IsFew Sync = ⊤
IsFew (Fail sense) = ⊤

abbrev Few : Outcome → Type 0
Few o = IsFew o.moves

move_few : (bytes : List ℕ) → length bytes ≤ 36 → IsFew (data_move bytes)
move_few [] h = tt
move_few (first ∷ rest) h = h

cut_few : (room : ℕ) (bytes : List ℕ) → length bytes ≤ 36 → IsFew (data_in bytes room)
cut_few room bytes h = move_few (take room bytes) (omega (arith, length-take room bytes, h))

abbrev Refusal : Option Outcome → Type 0
Refusal o = MatchOption o ⊤ Few

told_few : (cdb : List ℕ) (unit : Disk) → Refusal (told unit cdb)
told_few cdb unit = if_holds Refusal unit.attention _ _ (λ _. tt) (λ _. tt)

ready_few : (cdb : List ℕ) (unit : Disk) → Refusal (ready unit cdb)
ready_few cdb unit = or_else_holds Few ⊤ ⊤ (told unit cdb) _ (told_few cdb unit) (λ _. if_holds Refusal unit.present _ _ (λ _. tt) (λ _. tt))

in_range_few : (cdb : List ℕ) (unit : Disk) → Refusal (in_range unit cdb)
in_range_few cdb unit =
    or_else_holds Few ⊤ ⊤ (ready unit cdb) _ (ready_few cdb unit)
    (λ _. if_holds Refusal (nat_lt unit.blocks _) _ _ (λ _. tt) (λ _. tt))

writable_few : (cdb : List ℕ) (unit : Disk) → Refusal (writable unit cdb)
writable_few cdb unit =
    or_else_holds Few ⊤ ⊤ (in_range unit cdb) _ (in_range_few cdb unit) (λ _. if_holds Refusal unit.protected _ _ (λ _. tt) (λ _. tt))

after : (a : Option Outcome) (o : Outcome) → Refusal a → Few o → Few (unwrap_or a o)
after a o h k = unwrap_or_holds Few ⊤ a o h (λ _. k)

stop_few : (unit : Disk) (flags : ℕ) → Few (start_stop unit flags)
stop_few unit flags =
    if_holds Few (nat_eq flags 2) _ _ (λ _. if_holds Few unit.prevented _ _ (λ _. tt) (λ _. tt))
    (λ _. if_holds Few (nat_eq flags 3) _ _ (λ _. if_holds Few (nat_eq unit.blocks 0) _ _ (λ _. tt) (λ _. tt)) (λ _. tt))

rows_few : (unit : Disk) (cdb : List ℕ) → EachRow (λ r. Few (by_row r unit cdb)) table
rows_few unit cdb = (
  after (ready unit cdb) _ (ready_few cdb unit) tt,
  (
    if_holds Few (bit_0 1 cdb) _ _ (λ _. tt) (λ _. cut_few (number 3 2 cdb) inquiry_data (grind arith)),
    (
      after (ready unit cdb) _ (ready_few cdb unit) (cut_few (byte 4 cdb) _ (grind arith)),
      (
        after (told unit cdb) _ (told_few cdb unit) (stop_few unit (byte 4 cdb)),
        (
          after (told unit cdb) _ (told_few cdb unit) tt,
          (
            after (ready unit cdb) _ (ready_few cdb unit) (cut_few (number 7 2 cdb) _ (grind arith)),
            (
              after (ready unit cdb) _ (ready_few cdb unit) (move_few (big_bytes 4 (unit.blocks - 1) ++ big_bytes 4 512) (grind arith)),
              (
                after (in_range unit cdb) _ (in_range_few cdb unit) (if_holds IsFew (nat_eq (number 7 2 cdb) 0) _ _ (λ _. tt) (λ _. tt)),
                (
                  after (writable unit cdb) _ (writable_few cdb unit) (if_holds IsFew (nat_eq (number 7 2 cdb) 0) _ _ (λ _. tt) (λ _. tt)),
                  (
                    after (in_range unit cdb) _ (in_range_few cdb unit) (if_holds Few (bit_1 1 cdb) _ _ (λ _. tt) (λ _. tt)),
                    (after (ready unit cdb) _ (ready_few cdb unit) tt, tt),
                  ),
                ),
              ),
            ),
          ),
        ),
      ),
    ),
  ),
)

pub worked_few : (unit : Disk) (cdb : List ℕ) → IsFew (worked unit cdb).moves
worked_few unit cdb =
    let bare : Disk = record unit { sense = no_sense } in
    if_holds Few (nat_eq (byte 0 cdb) 3) _ _
    (λ _. cut_few (byte 4 cdb) (fixed_format (told_sense unit)) (grind arith))
    (λ _. chosen (λ c r. Few (by_row r bare cdb)) table (byte 0 cdb) (rows_few bare cdb)
    (λ _. after (ready bare cdb) _ (ready_few cdb bare) tt))
