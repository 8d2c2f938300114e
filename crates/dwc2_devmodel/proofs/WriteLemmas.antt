-- A write of a register of one endpoint changes that endpoint alone.
use Rattle.std.proofs.Common.{◌≡◌, ◌≢◌, ℕ, zero, suc, ◌-◌, ◌≤◌, List, length, get_or, set, refl, sym, ap, ◌∙◌, arith}
use Rattle.std.proofs.lemmas.List.{set-get_or, get_or_default}
use Rattle.device_table.specs.State.{Table, InEnd, in_end, in_end_of, with_in, out_end, with_out, Channel, no_channel}
use Rattle.device_table.specs.Write.{after_write, cnak_acts, with_channel}
use Rattle.device_table.specs.Read.{channel_at}
use Rattle.dwc2_state.specs.declared.place.InRegister.{InRegister}
use Rattle.dwc2_state.specs.declared.place.InRegister.TheVariants as in_side
use Rattle.dwc2_state.specs.declared.place.OutRegister.{OutRegister}
use Rattle.dwc2_state.specs.declared.place.OutRegister.TheVariants as out_side
use Rattle.dwc2_state.specs.declared.place.ChannelRegister.{ChannelRegister}
use Rattle.dwc2_state.specs.declared.place.ChannelRegister.TheVariants as channel
use Rattle.dwc2_state.specs.Place.{of_channel, of_in, of_out}
use Rattle.dwc2_state.specs.Ends.{channel_written, in_written, out_written}

-- an endpoint that is put back as it was
with_in_same : (t : Table) (x : ℕ) → with_in t x (in_end t x) ≡ t
with_in_same t zero = refl
with_in_same t (suc n) = ap (λ (ends : List InEnd). record t { ins = ends }) (set-get_or t.ins n (in_end_of 0))

-- the change of the endpoint of a number from 1 on, as the list of endpoints has it
pub with_in_at : (t : Table) (x : ℕ) (change : InEnd → InEnd) (end : InEnd) → x ≢ 0 → x ≤ length t.ins → end ≡ get_or t.ins (x - 1) end
    → record t { ins = set t.ins (x - 1) (change end) } ≡ with_in t x (change (in_end t x))
with_in_at t zero change end some within is = absurd (some refl)
with_in_at t (suc n) change end some within is =
    let before : suc n - 1 ≡ n = omega arith in
    let As : InEnd → Table = λ new. record t { ins = set t.ins n new } in
    rw before (ap (λ (e : InEnd). As (change e)) ((rw before at is) ∙ get_or_default t.ins n end (in_end_of 0) (omega arith)))

pub in_written_is : (t : Table) (x : ℕ) (register : InRegister) (word : ℕ)
    → after_write t (of_in x register) word ≡ with_in t x (in_written x (cnak_acts t x) register word (in_end t x))
in_written_is t x in_side.Control word = refl
in_written_is t x in_side.Interrupts word = refl
in_written_is t x in_side.Size word = refl
in_written_is t x in_side.Space word = sym (with_in_same t x)

pub out_written_is : (t : Table) (x : ℕ) (register : OutRegister) (word : ℕ)
    → after_write t (of_out x register) word ≡ with_out t x (out_written (cnak_acts t x) register word (out_end t x))
out_written_is t x out_side.Control word = refl
out_written_is t x out_side.Interrupts word = refl
out_written_is t x out_side.Size word = refl

with_channel_same : (t : Table) (x : ℕ) → with_channel t x (channel_at t x) ≡ t
with_channel_same t x =
    ap (λ (channels : List Channel). record t { host = record t.host { channels = channels } }) (set-get_or t.host.channels x no_channel)

pub channel_written_is : (t : Table) (x : ℕ) (register : ChannelRegister) (word : ℕ)
    → after_write t (of_channel x register) word ≡ with_channel t x (channel_written register word (channel_at t x))
channel_written_is t x channel.Control word = refl
channel_written_is t x channel.Interrupts word = sym (with_channel_same t x)
channel_written_is t x channel.Mask word = refl
channel_written_is t x channel.Size word = refl
