-- What the kind of a byte says of its value.
use Rattle.std.proofs.Common.{◌≡◌, ℕ, ◌+◌, ◌-◌, ◌<◌, ◌≤◌, ◌⊎◌, ◌/◌, ◌%◌, zero, suc, get_or, List, [], ◌∷◌, Bool, true, false, arith}
use Rattle.std.specs.Prelude.{slice_index, nat_le, ◌==◌, ◌&&◌, if◌then◌else◌}
use Rattle.std.specs.List.{list_all}
use Rattle.std.proofs.lemmas.Bool.Decides.{nat_tests}
use Rattle.midi_events.specs.declared.packing.Kind.{Kind}
use Rattle.midi_events.specs.declared.packing.Kind.TheVariants.{Data, Channel, Common, SysExEnd, RealTime}
use Rattle.midi_events.specs.Bytes.{kind, is_data, is_real_time, data_count, runs_on}
use Rattle.midi_events.specs.Events.{carried_counts}

abbrev pub real_time_kind : Kind → Bool
real_time_kind RealTime = true
real_time_kind _ = false

abbrev pub data_kind : Kind → Bool
data_kind Data = true
data_kind _ = false

abbrev pub end_kind : Kind → Bool
end_kind SysExEnd = true
end_kind _ = false

abbrev pub channel_kind : Kind → Bool
channel_kind Channel = true
channel_kind Data = true
channel_kind _ = false

pub is_real_time-kind : (byte : ℕ) → is_real_time byte ≡ real_time_kind (kind byte)
is_real_time-kind byte = grind (arith, nat_tests)

pub is_data-kind : (byte : ℕ) → is_data byte ≡ data_kind (kind byte)
is_data-kind byte = grind (arith, nat_tests)

pub is_end-kind : (byte : ℕ) → (byte == 247) ≡ end_kind (kind byte)
is_end-kind byte = grind (arith, nat_tests)

pub runs_on-kind : (byte : ℕ) → runs_on byte ≡ channel_kind (kind byte)
runs_on-kind byte = grind (arith, nat_tests)

pub is_f7-kind : (byte : ℕ) → kind byte ≡ SysExEnd → byte ≡ 247
is_f7-kind byte k = grind (arith, nat_tests)

pub count_cases : (status : ℕ) → (data_count status ≡ 1) ⊎ (data_count status ≡ 2)
count_cases status = grind (arith, nat_tests)

-- the channel statuses by their high nibbles, from 8 on
carried-nibble : (n status : ℕ) → n < 7 → status / 16 ≡ n + 8 → slice_index carried_counts (status / 16 % 16) ≡ data_count status + 1
carried-nibble zero status low is_n = rw is_n (grind (arith, nat_tests))
carried-nibble (suc zero) status low is_n = rw is_n (grind (arith, nat_tests))
carried-nibble (suc (suc zero)) status low is_n = rw is_n (grind (arith, nat_tests))
carried-nibble (suc (suc (suc zero))) status low is_n = rw is_n (grind (arith, nat_tests))
carried-nibble (suc (suc (suc (suc zero)))) status low is_n = rw is_n (grind (arith, nat_tests))
carried-nibble (suc (suc (suc (suc (suc zero))))) status low is_n = rw is_n (grind (arith, nat_tests))
carried-nibble (suc (suc (suc (suc (suc (suc zero)))))) status low is_n = rw is_n (grind (arith, nat_tests))
carried-nibble (suc (suc (suc (suc (suc (suc (suc n))))))) status low is_n = absurd (omega arith)

channel_range : (status : ℕ) → kind status ≡ Channel → (128 ≤ status) × (status < 240)
channel_range status k = grind (arith, nat_tests)

pub carried-channel : (status : ℕ) → kind status ≡ Channel → slice_index carried_counts (status / 16 % 16) ≡ data_count status + 1
carried-channel status k =
    let range = channel_range status k in
    carried-nibble (status / 16 - 8) status (omega (arith, range)) (omega (arith, range))

pub carried-common : (status : ℕ) → kind status ≡ Common → slice_index carried_counts ((if status == 242 then 3 else 2) % 16) ≡ data_count status + 1
carried-common status k = grind (arith, nat_tests)

and_right : (a b : Bool) → (a && b) ≡ true → b ≡ true
and_right true b h = h
and_right false b h = cc

-- an event carries three bytes at most
pub below_all : (xs : List ℕ) (most i : ℕ) → list_all (λ x. nat_le x most) xs ≡ true → get_or xs i 0 ≤ most
below_all [] most i h = omega arith
below_all (x ∷ xs) most zero h = grind (arith, nat_tests)
below_all (x ∷ xs) most (suc i) h = below_all xs most i (and_right (nat_le x most) (list_all (λ y. nat_le y most) xs) h)
