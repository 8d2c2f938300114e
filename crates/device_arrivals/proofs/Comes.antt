-- What is in front comes out.
use Rattle.std.proofs.Common.{◌≡◌, ℕ, zero, suc, ◌-◌, ◌≤◌, ◌<◌, List, [], ◌∷◌, ◌++◌, length, Bool, true, false, refl, ap, sym, ◌∙◌, arith}
use Rattle.std.specs.Prelude.{◌==◌, if◌then◌else◌, slice_index}
use Rattle.usb_packet.specs.declared.bus.Toggle.{Toggle}
use Rattle.usb_packet.specs.declared.bus.Toggle.TheVariants.{D0, D1}
use Rattle.dwc2_regs.specs.declared.TheConstants.{GRXSTSP_BYTES}
use Rattle.dwc2_regs.specs.Field.{field_of}
use Rattle.dwc2_fifo.specs.Words.{words_of, word_count}
use Rattle.dwc2_fifo.proofs.WordsLemmas.{length-words_of, bytes_in-words_of}
use Rattle.device_table.specs.State.{Table, out_end, with_out}
use Rattle.device_table.specs.Words.{status_word, kind_of, number_of, pid_of}
use Rattle.device_arrivals.specs.Arrivals.{Arrival, Request, Packet}
use Rattle.device_arrivals.specs.Laws.{holding, at_end, served, Pops, AreWordsOf, PacketOut, RequestOut}

-- the fields of a status word
pub kind_is : (number count kind : ℕ) (toggle : Toggle) → number < 16 → count ≤ 64 → kind < 16 → kind_of (status_word number count (pid_of toggle) kind) ≡ kind
kind_is number count kind D0 h k l = omega arith
kind_is number count kind D1 h k l = omega arith

pub number_is : (number count kind : ℕ) (toggle : Toggle) → number < 16 → count ≤ 64 → kind < 16 → number_of (status_word number count (pid_of toggle) kind) ≡ number
number_is number count kind D0 h k l = omega arith
number_is number count kind D1 h k l = omega arith

pub count_is : (number count kind : ℕ) (toggle : Toggle) → number < 16 → count ≤ 64 → kind < 16 → field_of (status_word number count (pid_of toggle) kind) GRXSTSP_BYTES ≡ count
count_is number count kind D0 h k l = omega arith
count_is number count kind D1 h k l = omega arith

pub two : 2 < 16
two = omega arith

pub three : 3 < 16
three = omega arith

-- the front entry is popped, by its kind and number
abbrev popped_by : Table → ℕ → ℕ → Table
popped_by t kind number =
    if kind == 4 then served t
    else if kind == 3 then with_out t number (record (out_end t number) { xfrc = true })
    else t

pub are_words_of : (bytes : List ℕ) → ((i : ℕ) → slice_index bytes i < 256) → AreWordsOf (words_of bytes) bytes
are_words_of bytes h = record { count = length-words_of bytes; same = bytes_in-words_of bytes h }

pub packet_comes : (t : Table) (left : List ℕ) (number : ℕ) (toggle : Toggle) (bytes : List ℕ) (arrivals : List Arrival)
    → number < 16 → length bytes ≤ 64 → ((i : ℕ) → slice_index bytes i < 256) → PacketOut t left number toggle bytes arrivals
packet_comes t left number toggle bytes arrivals h k below =
    let n = length bytes in
    let status = status_word number n (pid_of toggle) 2 in
    record {
      data_out = record {
        kind_is = kind_is number n 2 toggle h k two;
        number_is = number_is number n 2 toggle h k two;
        count_is = count_is number n 2 toggle h k two;
        after_is = ap (λ kind. popped_by (at_end t (words_of bytes) number 3 arrivals) kind (number_of status)) (kind_is number n 2 toggle h k two);
      };
      words = are_words_of bytes below;
      end_out = λ some. ended t some number arrivals h;
    }
  where
    ended : (t : Table) (some : List ℕ) (number : ℕ) (arrivals : List Arrival) → number < 16
        → Pops (at_end t some number 3 arrivals) 3 number 0 (with_out (holding t [] arrivals) number (record (out_end t number) { xfrc = true }))
    ended t some number arrivals h =
        let status = status_word number 0 0 3 in
        record {
          kind_is = kind_is number 0 3 D0 h (omega arith) three;
          number_is = number_is number 0 3 D0 h (omega arith) three;
          count_is = count_is number 0 3 D0 h (omega arith) three;
          after_is =
              ap (λ kind. popped_by (holding t [] arrivals) kind (number_of status)) (kind_is number 0 3 D0 h (omega arith) three)
              ∙ ap (popped_by (holding t [] arrivals) 3) (number_is number 0 3 D0 h (omega arith) three)
              ∙ same_end t arrivals number;
        }
      where
        same_end : (t : Table) (arrivals : List Arrival) (number : ℕ)
            → popped_by (holding t [] arrivals) 3 number ≡ with_out (holding t [] arrivals) number (record (out_end t number) { xfrc = true })
        same_end t arrivals zero = refl
        same_end t arrivals (suc n) = refl

pub request_comes : (t : Table) (left bytes : List ℕ) (arrivals : List Arrival) → length bytes ≡ 8 → ((i : ℕ) → slice_index bytes i < 256) → RequestOut t left bytes arrivals
request_comes t left bytes arrivals h below = record {
  data_out = record { kind_is = refl; number_is = refl; count_is = refl; after_is = refl };
  words = are_words_of bytes below;
  end_out = λ some. record { kind_is = refl; number_is = refl; count_is = refl; after_is = refl };
}
