-- Which commands move blocks, and which blocks those are.
use Rattle.std.proofs.Common.{◌≡◌, ℕ, ◌-◌, List, [], ◌∷◌, ◌++◌, take, Option, unwrap_or, nat_eq, nat_lt, refl, subst}
use Rattle.std.specs.Prelude.{MatchOption, ⊤}
use Rattle.byteorder.specs.Endian.{big_bytes}
use Rattle.scsi_core.specs.declared.Unit.{Unit as Disk}
use Rattle.scsi_core.specs.declared.Move.{Move}
use Rattle.scsi_core.specs.declared.Move.TheVariants.{None as Nothing, In, Read, Write, Sync, Fail}
use Rattle.scsi_core.specs.Sense.{no_sense, fixed_format}
use Rattle.scsi_core.specs.Command.{Outcome, worked, told, ready, in_range, writable, byte, bit_0, bit_1, number, start_stop, table, by_row, data_move, inquiry_data, told_sense}
use Rattle.scsi_core.proofs.Choices.{if_holds, or_else_holds, unwrap_or_holds, EachRow}
use Rattle.scsi_core.proofs.Causes.{chosen}
use Rattle.msc_device_machine.specs.BlockLaws.{BlocksAreNamed}

abbrev Names : ℕ → List ℕ → Move → Type 0
Names code cdb (Read lba count) = (code ≡ 0x28) × (lba ≡ number 2 4 cdb) × (count ≡ number 7 2 cdb)
Names code cdb (Write lba count) = (code ≡ 0x2a) × (lba ≡ number 2 4 cdb) × (count ≡ number 7 2 cdb)
Names code cdb Nothing = ⊤
Names code cdb (In bytes) = ⊤
Names code cdb Sync = ⊤
Names code cdb (Fail sense) = ⊤

abbrev Named : ℕ → List ℕ → Outcome → Type 0
Named code cdb o = Names code cdb o.moves

data_named : (code : ℕ) (cdb bytes : List ℕ) → Names code cdb (data_move bytes)
data_named code cdb [] = tt
data_named code cdb (first ∷ rest) = tt

abbrev Refusal : ℕ → List ℕ → Option Outcome → Type 0
Refusal code cdb o = MatchOption o ⊤ (Named code cdb)

told_named : (code : ℕ) (cdb : List ℕ) (unit : Disk) → Refusal code cdb (told unit cdb)
told_named code cdb unit = if_holds (Refusal code cdb) unit.attention _ _ (λ _. tt) (λ _. tt)

ready_named : (code : ℕ) (cdb : List ℕ) (unit : Disk) → Refusal code cdb (ready unit cdb)
ready_named code cdb unit =
    or_else_holds (Named code cdb) ⊤ ⊤ (told unit cdb) _ (told_named code cdb unit)
    (λ _. if_holds (Refusal code cdb) unit.present _ _ (λ _. tt) (λ _. tt))

in_range_named : (code : ℕ) (cdb : List ℕ) (unit : Disk) → Refusal code cdb (in_range unit cdb)
in_range_named code cdb unit =
    or_else_holds (Named code cdb) ⊤ ⊤ (ready unit cdb) _ (ready_named code cdb unit)
    (λ _. if_holds (Refusal code cdb) (nat_lt unit.blocks _) _ _ (λ _. tt) (λ _. tt))

writable_named : (code : ℕ) (cdb : List ℕ) (unit : Disk) → Refusal code cdb (writable unit cdb)
writable_named code cdb unit =
    or_else_holds (Named code cdb) ⊤ ⊤ (in_range unit cdb) _ (in_range_named code cdb unit)
    (λ _. if_holds (Refusal code cdb) unit.protected _ _ (λ _. tt) (λ _. tt))

after : (code : ℕ) (cdb : List ℕ) (a : Option Outcome) (o : Outcome) → Refusal code cdb a → Named code cdb o → Named code cdb (unwrap_or a o)
after code cdb a o h k = unwrap_or_holds (Named code cdb) ⊤ a o h (λ _. k)

stop_named : (code : ℕ) (cdb : List ℕ) (unit : Disk) (flags : ℕ) → Named code cdb (start_stop unit flags)
stop_named code cdb unit flags =
    let P : Outcome → Type 0 = Named code cdb in
    if_holds P (nat_eq flags 2) _ _ (λ _. if_holds P unit.prevented _ _ (λ _. tt) (λ _. tt))
    (λ _. if_holds P (nat_eq flags 3) _ _ (λ _. if_holds P (nat_eq unit.blocks 0) _ _ (λ _. tt) (λ _. tt)) (λ _. tt))

rows_named : (unit : Disk) (cdb : List ℕ) → EachRow (λ r. Named r.code cdb (by_row r unit cdb)) table
rows_named unit cdb = (
  after 0x00 cdb (ready unit cdb) _ (ready_named 0x00 cdb unit) tt,
  (
    if_holds (Named 0x12 cdb) (bit_0 1 cdb) _ _ (λ _. tt) (λ _. data_named 0x12 cdb (take (number 3 2 cdb) inquiry_data)),
    (
      after 0x1a cdb (ready unit cdb) _ (ready_named 0x1a cdb unit) (data_named 0x1a cdb _),
      (
        after 0x1b cdb (told unit cdb) _ (told_named 0x1b cdb unit) (stop_named 0x1b cdb unit (byte 4 cdb)),
        (
          after 0x1e cdb (told unit cdb) _ (told_named 0x1e cdb unit) tt,
          (
            after 0x23 cdb (ready unit cdb) _ (ready_named 0x23 cdb unit) (data_named 0x23 cdb _),
            (
              after 0x25 cdb (ready unit cdb) _ (ready_named 0x25 cdb unit) (data_named 0x25 cdb (big_bytes 4 (unit.blocks - 1) ++ big_bytes 4 512)),
              (
                after 0x28 cdb (in_range unit cdb) _ (in_range_named 0x28 cdb unit)
                    (if_holds (Names 0x28 cdb) (nat_eq (number 7 2 cdb) 0) _ _ (λ _. tt) (λ _. (refl, refl, refl))),
                (
                  after 0x2a cdb (writable unit cdb) _ (writable_named 0x2a cdb unit)
                      (if_holds (Names 0x2a cdb) (nat_eq (number 7 2 cdb) 0) _ _ (λ _. tt) (λ _. (refl, refl, refl))),
                  (
                    after 0x2f cdb (in_range unit cdb) _ (in_range_named 0x2f cdb unit)
                        (if_holds (Named 0x2f cdb) (bit_1 1 cdb) _ _ (λ _. tt) (λ _. tt)),
                    (after 0x35 cdb (ready unit cdb) _ (ready_named 0x35 cdb unit) tt, tt),
                  ),
                ),
              ),
            ),
          ),
        ),
      ),
    ),
  ),
)

worked_named : (unit : Disk) (cdb : List ℕ) → Names (byte 0 cdb) cdb (worked unit cdb).moves
worked_named unit cdb =
    let bare : Disk = record unit { sense = no_sense } in
    let P : Outcome → Type 0 = Named (byte 0 cdb) cdb in
    if_holds P (nat_eq (byte 0 cdb) 3) _ _
    (λ _. data_named (byte 0 cdb) cdb (take (byte 4 cdb) (fixed_format (told_sense unit))))
    (λ _. chosen (λ c r. Named c cdb (by_row r bare cdb)) table (byte 0 cdb) (rows_named bare cdb)
    (λ _. after (byte 0 cdb) cdb (ready bare cdb) _ (ready_named (byte 0 cdb) cdb bare) tt))

pub blocks_are_named : BlocksAreNamed
blocks_are_named unit cdb lba count =
    let h = worked_named unit cdb in
    let P : Move → Type 0 = Names (byte 0 cdb) cdb in (λ e. subst P e h, λ e. subst P e h)
