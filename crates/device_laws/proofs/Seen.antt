-- The laws over whole schedules.
use Rattle.std.proofs.Common.{◌≡◌, ◌<◌, ℕ, List, [], ◌∷◌, Bool, true, false, ◌&&◌, ◌||◌, ◌==◌, length, is_some, if◌then◌else◌, Option, Some, None, refl, sym, ap, subst, ◌∙◌, nat_lt}
use Rattle.usb_packet.specs.declared.bus.Toggle.{Toggle}
use Rattle.usb_packet.specs.declared.bus.BusAnswer.{BusAnswer}
use Rattle.usb_packet.specs.declared.bus.BusAnswer.TheVariants as answers
use Rattle.device_machine.specs.declared.control.Side.{Side}
use Rattle.device_machine.specs.declared.control.Side.TheVariants.{Off}
use Rattle.device_machine.specs.Bus.{is_empty, hears, in_answer, out_answer}
use Rattle.usb_packet.specs.declared.bus.BusEvent.TheVariants as event
use Rattle.device_line.specs.declared.line.DevLine.TheVariants.{Bus, Call}
use Rattle.device_line.specs.declared.call.DevCall.TheVariants.{State}
use Rattle.device_line.specs.declared.line.Answer.TheVariants as answer
use Rattle.usb_pipe.specs.declared.reply.Reply.TheVariants as reply
use Rattle.device_owners.specs.Device.{World, Core}
use Rattle.device_owners.specs.Lines.{in_session}
use Rattle.device_laws.specs.World.{IsOfSet, core_after}
use Rattle.device_laws.specs.Seen.{Attention, Deaf, Waiting, Listening, Seen, seen_of, AddressIsSeen, AddressIsTold, listens, listens_to, SetupIsHeard, OthersAreIgnored, BusyAnswersNak}
use Rattle.device_laws.proofs.Whole.{answer_is_whole}
use Rattle.device_laws.proofs.Facts.{Attends, Quiet, Fresh, Facts}
use Rattle.device_laws.proofs.Runs.{run_facts}

pub address_is_seen : {S : Type 0} (world : World S) → IsOfSet world → AddressIsSeen world
address_is_seen world of_set lines =
    let h = run_facts world of_set lines in
    record { same = h.address; bounded = subst (λ a. a < 128) (sym h.address) h.bounded }

pub address_is_told : {S : Type 0} (world : World S) → IsOfSet world → AddressIsTold world
address_is_told world of_set lines =
    let session = in_session (core_after world lines).session in
    (session, answer_is_whole world of_set lines (Call State) ∙ ap (λ n. answer.Reply (reply.Core n session)) (run_facts world of_set lines).address)

awake_is : (awake reset : Bool) (attention : Attention) → Attends awake reset attention → awake ≡ listens attention
awake_is false false Deaf a = refl
awake_is false true Deaf a = absurd a
awake_is true reset Deaf a = absurd a
awake_is false true Waiting a = refl
awake_is false false Waiting a = absurd a
awake_is true reset Waiting a = absurd a
awake_is true false Listening a = refl
awake_is true true Listening a = absurd a
awake_is false reset Listening a = absurd a

hears_is : (core : Core) (seen : Seen) (addr : ℕ) → Facts core seen → hears core.bus addr ≡ listens_to seen addr
hears_is core seen addr h =
    ap (λ a. a && (addr == core.bus.address)) (awake_is core.bus.awake core.bus.reset seen.attention h.attends)
    ∙ ap (λ n. listens seen.attention && (addr == n)) h.address

pub setup_is_heard : {S : Type 0} (world : World S) → IsOfSet world → SetupIsHeard world
setup_is_heard world of_set lines addr bytes ok =
    let core = core_after world lines in
    let seen = seen_of world lines in
    let h = run_facts world of_set lines in
    answer_is_whole world of_set lines (Bus (event.Setup addr bytes ok))
    ∙ ap (λ b. answer.Bus (if b && (ok && nat_lt (length core.bus.unserved) 3) then answers.Ack else answers.NoAnswer)) (hears_is core seen addr h)
    ∙ ap (λ n. answer.Bus (if listens_to seen addr && (ok && nat_lt n 3) then answers.Ack else answers.NoAnswer)) h.count

unheard : (b also : Bool) (a : BusAnswer) → b ≡ false → (if b && also then a else answers.NoAnswer) ≡ answers.NoAnswer
unheard b also a e = ap (λ c. if c && also then a else answers.NoAnswer) e

unheard_token : (b : Bool) (a : BusAnswer) → b ≡ false → (if b then a else answers.NoAnswer) ≡ answers.NoAnswer
unheard_token b a e = ap (λ c. if c then a else answers.NoAnswer) e

pub others_are_ignored : {S : Type 0} (world : World S) → IsOfSet world → OthersAreIgnored world
others_are_ignored world of_set lines addr e =
    let core = core_after world lines in
    let deaf : hears core.bus addr ≡ false = hears_is core (seen_of world lines) addr (run_facts world of_set lines) ∙ e in
    record {
      setup = λ bytes ok. answer_is_whole world of_set lines (Bus (event.Setup addr bytes ok)) ∙ ap answer.Bus (unheard (hears core.bus addr) _ _ deaf);
      output = λ ep toggle packet ok. answer_is_whole world of_set lines (Bus (event.Out addr ep toggle packet ok)) ∙ ap answer.Bus (unheard (hears core.bus addr) _ _ deaf);
      input = λ ep ok. answer_is_whole world of_set lines (Bus (event.In addr ep ok)) ∙ ap answer.Bus (unheard_token (hears core.bus addr) _ deaf);
    }

-- what a busy endpoint 0 holds
record Holds (unserved : List (List ℕ)) (side : Side) (taken : Bool) : Type 0 where
  nothing : is_empty unserved ≡ true → (side ≡ Off) × (taken ≡ false)

holds : (unserved : List (List ℕ)) (request : Option (List ℕ)) (side : Side) (taken : Bool) (toggle : Toggle) (count : ℕ) (noted : Bool)
    → length unserved ≡ count → is_some request ≡ noted → Fresh unserved request taken toggle → Quiet request side → (nat_lt 0 count || noted) ≡ true → Holds unserved side taken
holds (x ∷ xs) request side taken toggle count noted c n fresh quiet busy = record { nothing = λ e. absurd (cc) }
holds [] (Some bytes) side taken toggle count noted c n fresh quiet busy = record { nothing = λ e. (quiet, fresh.untaken) }
holds [] None side taken toggle count noted c n fresh quiet busy =
    let e : (nat_lt 0 0 || false) ≡ true = subst (λ k. (nat_lt 0 k || false) ≡ true) (sym c) (subst (λ b. (nat_lt 0 count || b) ≡ true) (sym n) busy) in
    absurd (cc)

out_nak : (hears : Bool) (unserved : List (List ℕ)) (side : Side) (taken : Bool) (toggle : Toggle) → hears ≡ true → Holds unserved side taken
    → (if hears && true then (if is_empty unserved then out_answer side taken toggle else answers.Nak) else answers.NoAnswer) ≡ answers.Nak
out_nak hears [] side taken toggle e h =
    ap (λ b. if b && true then out_answer side taken toggle else answers.NoAnswer) e
    ∙ ap (λ s. out_answer s taken toggle) (h.nothing refl).0
    ∙ ap (λ t. out_answer Off t toggle) (h.nothing refl).1
out_nak hears (x ∷ xs) side taken toggle e h = ap (λ b. if b && true then answers.Nak else answers.NoAnswer) e

in_nak : (hears : Bool) (unserved : List (List ℕ)) (side : Side) (taken : Bool) (toggle : Toggle) → hears ≡ true → Holds unserved side taken
    → (if hears then (if is_empty unserved then in_answer side toggle else answers.Nak) else answers.NoAnswer) ≡ answers.Nak
in_nak hears [] side taken toggle e h =
    ap (λ b. if b then in_answer side toggle else answers.NoAnswer) e
    ∙ ap (λ s. in_answer s toggle) (h.nothing refl).0
in_nak hears (x ∷ xs) side taken toggle e h = ap (λ b. if b then answers.Nak else answers.NoAnswer) e

pub busy_answers_nak : {S : Type 0} (world : World S) → IsOfSet world → BusyAnswersNak world
busy_answers_nak world of_set lines addr listening busy =
    let core = core_after world lines in
    let seen = seen_of world lines in
    let h = run_facts world of_set lines in
    let heard : hears core.bus addr ≡ true = hears_is core seen addr h ∙ listening in
    let held = holds core.bus.unserved core.request core.bus.side core.bus.taken core.bus.toggle seen.unserved seen.noted h.count h.noted h.fresh h.quiet busy in
    record {
      output = λ toggle packet. answer_is_whole world of_set lines (Bus (event.Out addr 0 toggle packet true))
          ∙ ap answer.Bus (out_nak (hears core.bus addr) core.bus.unserved core.bus.side core.bus.taken toggle heard held);
      input = λ ok. answer_is_whole world of_set lines (Bus (event.In addr 0 ok))
          ∙ ap answer.Bus (in_nak (hears core.bus addr) core.bus.unserved core.bus.side core.bus.taken core.bus.toggle heard held);
    }
