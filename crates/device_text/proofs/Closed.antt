-- Bytes with the newline that their last line may lack, and the lines that stand in front of them.
use Rattle.std.proofs.Common.{◌≡◌, ℕ, ◌+◌, ◌≤◌, ◌<◌, List, [], ◌∷◌, ◌++◌, Bool, true, false, not, ◌&&◌, eqb, length, refl, ap, sym, ◌∙◌, append_assoc, arith, eq-eqb}
use Rattle.std.proofs.lemmas.List.{append-nil}
use Rattle.std.proofs.lemmas.List.Folds.{list_all-append}
use Rattle.std.proofs.lemmas.Bool.Decides.{nat_tests}
use Rattle.device_line.specs.declared.line.DevLine.{DevLine}
use Rattle.usb_text.specs.declared.line.Line.TheVariants.{Device}
use Rattle.usb_text.specs.declared.head.HeadLine.{HeadLine}
use Rattle.usb_text.specs.Line.{newline, line_text}
use Rattle.usb_text.specs.Head.{head_text}
use Rattle.usb_text.specs.Plain.{is_plain}
use Rattle.device_text.specs.Job.{closed, schedule_line, schedule_text, head_line, head_lines}

pub no_newline : (b : ℕ) (bs : List ℕ) → is_plain (b ∷ bs) ≡ true → b ≡ newline → ⊥
no_newline b bs h e = let same : eqb b newline ≡ true = eq-eqb b newline e in let x : (not true && is_plain bs) ≡ true = rw same at h in cc

pub both : (p q : Bool) → (p && q) ≡ true → (p ≡ true) × (q ≡ true)
both true q e = (refl, e)
both false q e = absurd (cc)

other : (b : Bool) → not b ≡ true → b ≡ false
other true h = absurd (cc)
other false h = refl

pub plain_rest : (b : ℕ) (bs : List ℕ) → is_plain (b ∷ bs) ≡ true → is_plain bs ≡ true
plain_rest b bs h = (both (not (eqb b newline)) (is_plain bs) h).1

pub plain_first : (b : ℕ) (bs : List ℕ) → is_plain (b ∷ bs) ≡ true → eqb b newline ≡ false
plain_first b bs h = other (eqb b newline) (both (not (eqb b newline)) (is_plain bs) h).0

-- a line without its newline gets one
pub closed_plain : (a : List ℕ) → is_plain a ≡ true → 0 < length a → closed a ≡ a ++ newline ∷ []
closed_plain [] p some = absurd (omega arith)
closed_plain (b ∷ []) p some = rw (plain_first b [] p) refl
closed_plain (b ∷ c ∷ cs) p some = ap (λ t. b ∷ t) (closed_plain (c ∷ cs) (plain_rest b (c ∷ cs) p) (omega arith))

closed_behind : (a y : List ℕ) → 0 < length y → closed (a ++ y) ≡ a ++ closed y
closed_behind [] y some = refl
closed_behind (b ∷ []) [] some = absurd (omega arith)
closed_behind (b ∷ []) (c ∷ cs) some = refl
closed_behind (b ∷ c ∷ cs) y some = ap (λ t. b ∷ t) (closed_behind (c ∷ cs) y some)

-- what stands behind a newline
pub closed_line : (a y : List ℕ) → closed (a ++ newline ∷ y) ≡ a ++ newline ∷ closed y
closed_line a [] = closed_behind a (newline ∷ []) (omega arith)
closed_line a (c ∷ cs) = closed_behind a (newline ∷ c ∷ cs) (omega arith)

-- whole lines, which stay as they are in front of whatever follows
pub record IsClosed (text : List ℕ) : Type 0 where
  pub front : (rest : List ℕ) → closed (text ++ rest) ≡ text ++ closed rest

pub closed_none : IsClosed []
closed_none = record { front = λ rest. refl }

pub closed_one : (text : List ℕ) → IsClosed (text ++ newline ∷ [])
closed_one text = record {
  front = λ rest. ap closed (append_assoc text (newline ∷ []) rest) ∙ closed_line text rest ∙ sym (append_assoc text (newline ∷ []) (closed rest));
}

pub closed_both : (a b : List ℕ) → IsClosed a → IsClosed b → IsClosed (a ++ b)
closed_both a b ha hb = record {
  front = λ rest. ap closed (append_assoc a b rest) ∙ ha.front (b ++ rest) ∙ ap (λ t. a ++ t) (hb.front rest) ∙ sym (append_assoc a b (closed rest));
}

pub closed_schedule : (lines : List DevLine) → IsClosed (schedule_text lines)
closed_schedule [] = closed_none
closed_schedule (line ∷ lines) = closed_both (schedule_line line) (schedule_text lines) (closed_one (line_text (Device line))) (closed_schedule lines)

pub closed_heads : (lines : List HeadLine) → IsClosed (head_lines lines)
closed_heads [] = closed_none
closed_heads (line ∷ lines) = closed_both (head_line line) (head_lines lines) (closed_one (head_text line)) (closed_heads lines)

plain_byte : (b : ℕ) → eqb b newline ≡ false → is_plain (b ∷ []) ≡ true
plain_byte b h = rw h refl

plain_more : (a : List ℕ) (b : ℕ) → is_plain a ≡ true → eqb b newline ≡ false → is_plain (a ++ b ∷ []) ≡ true
plain_more a b p h = list_all-append (λ b. not (eqb b newline)) a (b ∷ []) ∙ rw (p, plain_byte b h) refl

-- a line begins with bytes that have no newline
pub record Begins (a all : List ℕ) : Type 0 where
  pub bytes : List ℕ
  pub rest : List ℕ
  pub text : closed all ≡ bytes ++ newline ∷ rest
  pub plain : is_plain bytes ≡ true
  pub longer : length a ≤ length bytes

is_newline : (b : ℕ) → eqb b newline ≡ true → b ≡ newline
is_newline b h = grind (arith, nat_tests)

length_more : (a : List ℕ) (b : ℕ) → length (a ++ b ∷ []) ≡ length a + 1
length_more [] b = refl
length_more (x ∷ xs) b = omega (arith, length_more xs b)

begins_at : (a x : List ℕ) (c : ℕ) (b : Bool) → eqb c newline ≡ b → is_plain a ≡ true
    → (eqb c newline ≡ false → Begins (a ++ c ∷ []) ((a ++ c ∷ []) ++ x)) → Begins a (a ++ c ∷ x)
begins_at a x c true e p more = record {
  bytes = a;
  rest = closed x;
  text = ap (λ n. closed (a ++ n ∷ x)) (is_newline c e) ∙ closed_line a x;
  plain = p;
  longer = omega arith;
}
begins_at a x c false e p more =
    let r = more e in
    record {
      bytes = r.bytes;
      rest = r.rest;
      text = ap closed (sym (append_assoc a (c ∷ []) x)) ∙ r.text;
      plain = r.plain;
      longer = omega (arith, r.longer, length_more a c);
    }

pub begins : (a x : List ℕ) → is_plain a ≡ true → 0 < length a → Begins a (a ++ x)
begins a [] p some = record {
  bytes = a;
  rest = [];
  text = ap closed (append-nil a) ∙ closed_plain a p some;
  plain = p;
  longer = omega arith;
}
begins a (c ∷ cs) p some =
    begins_at a cs c (eqb c newline) refl p (λ other. begins (a ++ c ∷ []) cs (plain_more a c p other) (omega (arith, length_more a c)))

-- a line is told from what follows its newline
pub cut_line : (a b x y : List ℕ) → is_plain a ≡ true → is_plain b ≡ true → a ++ newline ∷ x ≡ b ++ newline ∷ y → (a ≡ b) × (x ≡ y)
cut_line [] [] x y pa pb e = (refl, cc (e))
cut_line [] (d ∷ ds) x y pa pb e = let same : d ≡ newline = cc (e) in absurd (no_newline d ds pb same)
cut_line (c ∷ cs) [] x y pa pb e = let same : c ≡ newline = cc (e) in absurd (no_newline c cs pa same)
cut_line (c ∷ cs) (d ∷ ds) x y pa pb e =
    let here : c ≡ d = cc (e) in
    let rest : cs ++ newline ∷ x ≡ ds ++ newline ∷ y = cc (e) in
    let r = cut_line cs ds x y (plain_rest c cs pa) (plain_rest d ds pb) rest in
    let front : c ∷ cs ≡ d ∷ ds = cc (here, r.0) in
    (front, r.1)
