-- Lines that were found and taken, one after another.
use Rattle.std.proofs.Common.{◌≡◌, ℕ, ◌+◌, ◌≤◌, ◌<◌, List, [], ◌∷◌, ◌++◌, true, false, length, take, drop, min, zero, suc, ◌⊎◌, refl, ap, sym, ◌∙◌, subst, append_assoc, arith, length-append, Option, Some, None, inl, inr}
use Rattle.std.proofs.lemmas.List.{append-nil, take_all, drop_all, length-take-le}
use Rattle.usb_edge.specs.Stream.{Reads, IsAtEnd}
use Rattle.usb_edge.proofs.Streams.{reads-nothing, reads-more}
use Rattle.usb_text.specs.Line.{newline}
use Rattle.usb_text.specs.Plain.{is_plain}
use Rattle.device_text.specs.Job.{closed, given}
use Rattle.device_text.proofs.Closed.{closed_plain, closed_line, IsClosed}
use Rattle.job_reader.specs.Stream.{Fills, IsLineBreak, bytes_left}
use Rattle.job_reader.specs.Lines.{Finds, IsLineAt, Closes, Gone, size_of}
use Rattle.job_reader.specs.declared.lines.Lines.{Lines}

pub finds_nothing : (left : Option (List ℕ)) (s : Lines) → Finds left left s s
finds_nothing left s = record {
  got = [];
  reads = reads-nothing left;
  joined = sym (append-nil s.reader);
  count = refl;
  lines = refl;
  stays = λ e. (refl, e);
}

-- one read after what was looked for, of a source that didn't end
pub finds_more : (a b c : Option (List ℕ)) (x y : Lines) (r : List ℕ) → Finds a b x y → y.ended ≡ false → Fills b c y.reader r
    → Finds a c x (record y { reader = r })
finds_more a b c x y r f going h = record {
  got = f.got ++ h.got;
  reads = reads-more a b c f.got h.got f.reads h.reads;
  joined = h.joined ∙ ap (λ t. t ++ h.got) f.joined ∙ append_assoc x.reader f.got h.got;
  count = f.count;
  lines = f.lines;
  stays = λ e. let s = f.stays e in absurd (cc (going, s.1));
}

pub finds_end : (a b c : Option (List ℕ)) (x y : Lines) (r : List ℕ) → Finds a b x y → y.ended ≡ false → Fills b c y.reader r
    → Finds a c x (record y { reader = r; ended = true })
finds_end a b c x y r f going h = record {
  got = f.got ++ h.got;
  reads = reads-more a b c f.got h.got f.reads h.reads;
  joined = h.joined ∙ ap (λ t. t ++ h.got) f.joined ∙ append_assoc x.reader f.got h.got;
  count = f.count;
  lines = f.lines;
  stays = λ e. let s = f.stays e in absurd (cc (going, s.1));
}

pub line_found : (s : Lines) (n : ℕ) → IsLineBreak s.reader (Some n) → IsLineAt n s
line_found s n b = record {
  within = omega (arith, b.0);
  plain = b.1;
  closing = [];
  text = append-nil s.reader ∙ b.2;
  closes = inl refl;
}

pub last_found : (s : Lines) → is_plain s.reader ≡ true → 0 < length s.reader → s.ended ≡ true → IsLineAt (length s.reader) s
last_found s plain some ended = record {
  within = omega arith;
  plain = ap is_plain (take_all (length s.reader) s.reader (omega arith)) ∙ plain;
  closing = newline ∷ [];
  text =
      ap (λ t. t ++ newline ∷ []) (sym (take_all (length s.reader) s.reader (omega arith)))
      ∙ ap (λ t. take (length s.reader) s.reader ++ newline ∷ t) (sym (drop_all (length s.reader + 1) s.reader (omega arith)));
  closes = inr (refl, refl, some, ended);
}

-- what was skipped with a line
pub dropped : (bytes : List ℕ) (n : ℕ) → n ≤ length bytes → drop (size_of n bytes) bytes ≡ drop (n + 1) bytes
dropped bytes n within = by_room (n + 1) bytes where
  by_room : (k : ℕ) (bytes : List ℕ) → drop (min k (length bytes)) bytes ≡ drop k bytes
  by_room k [] = drop_all (min k 0) [] (omega arith) ∙ sym (drop_all k [] (omega arith))
  by_room zero (b ∷ bs) = let none : min 0 (length (b ∷ bs)) ≡ 0 = omega arith in ap (λ m. drop m (b ∷ bs)) none
  by_room (suc k) (b ∷ bs) =
      let less : min (suc k) (length (b ∷ bs)) ≡ suc (min k (length bs)) = omega arith in
      ap (λ m. drop m (b ∷ bs)) less ∙ by_room k bs

-- the bytes that are left, where the source ended
none_left : (left : Option (List ℕ)) → IsAtEnd left → bytes_left left ≡ []
none_left None h = refl
none_left (Some l) h = h

-- the line in front of what is left of the source
pub record LineAt (n : ℕ) (s : Lines) (left : Option (List ℕ)) : Type 0 where
  pub text : closed (s.reader ++ bytes_left left) ≡ take n s.reader ++ newline ∷ closed (drop (n + 1) s.reader ++ bytes_left left)
  pub size : given (s.reader ++ bytes_left left) (take n s.reader ++ newline ∷ []) ≡ size_of n s.reader

size_plain : (bytes more line rest : List ℕ) → bytes ≡ line ++ newline ∷ rest
    → min (length (line ++ newline ∷ [])) (length (bytes ++ more)) ≡ min (length line + 1) (length bytes)
size_plain bytes more line rest e =
    omega (arith, length-append line (newline ∷ []), length-append bytes more, ap length e, length-append line (newline ∷ rest))

pub line_at : (n : ℕ) (s : Lines) (left : Option (List ℕ)) → IsLineAt n s → (s.ended ≡ true → IsAtEnd left) → LineAt n s left
line_at n s left h ends = at h.closing h.text h.closes where
  at : (c : List ℕ) → s.reader ++ c ≡ take n s.reader ++ newline ∷ drop (n + 1) s.reader
      → (c ≡ []) ⊎ ((c ≡ newline ∷ []) × (n ≡ length s.reader) × (0 < n) × (s.ended ≡ true)) → LineAt n s left
  at c e (inl none) =
      let whole : s.reader ≡ take n s.reader ++ newline ∷ drop (n + 1) s.reader = sym (append-nil s.reader) ∙ ap (λ t. s.reader ++ t) (sym none) ∙ e in
      let long : length (take n s.reader) ≡ n = length-take-le n s.reader h.within in
      record {
        text =
            ap (λ t. closed (t ++ bytes_left left)) whole
            ∙ ap closed (append_assoc (take n s.reader) (newline ∷ drop (n + 1) s.reader) (bytes_left left))
            ∙ closed_line (take n s.reader) (drop (n + 1) s.reader ++ bytes_left left);
        size = size_plain s.reader (bytes_left left) (take n s.reader) (drop (n + 1) s.reader) whole ∙ ap (λ k. min (k + 1) (length s.reader)) long;
      }
  at c e (inr last) =
      let all : take n s.reader ≡ s.reader = take_all n s.reader (omega (arith, last.1)) in
      let rest : drop (n + 1) s.reader ≡ [] = drop_all (n + 1) s.reader (omega (arith, last.1)) in
      let none : bytes_left left ≡ [] = none_left left (ends last.3) in
      let plain : is_plain s.reader ≡ true = ap is_plain (sym all) ∙ h.plain in
      record {
        text =
            ap (λ t. closed (s.reader ++ t)) none ∙ ap closed (append-nil s.reader)
            ∙ closed_plain s.reader plain (omega (arith, last.1, last.2))
            ∙ ap (λ t. t ++ newline ∷ []) (sym all)
            ∙ ap (λ t. take n s.reader ++ newline ∷ closed (t ++ [])) (sym rest)
            ∙ ap (λ t. take n s.reader ++ newline ∷ closed (drop (n + 1) s.reader ++ t)) (sym none);
        size = omega (
          arith,
          length-append (take n s.reader) (newline ∷ []),
          ap length all,
          length-append s.reader (bytes_left left),
          ap length none,
          last.1,
        );
      }

-- a line has a byte, with its newline
pub line_size : (n : ℕ) (s : Lines) → IsLineAt n s → 1 ≤ size_of n s.reader
line_size n s h = some h.closes where
  some : (h.closing ≡ []) ⊎ ((h.closing ≡ newline ∷ []) × (n ≡ length s.reader) × (0 < n) × (s.ended ≡ true)) → 1 ≤ size_of n s.reader
  some (inl none) = omega (
    arith,
    ap length none,
    ap length h.text,
    length-append s.reader h.closing,
    length-append (take n s.reader) (newline ∷ drop (n + 1) s.reader),
  )
  some (inr last) = omega (arith, last.1, last.2)

-- a line was taken
pub line_taken : (n : ℕ) (left left' : Option (List ℕ)) (old s new : Lines) → Finds left left' old s → IsLineAt n s
    → new.reader ≡ drop (n + 1) s.reader → new.ended ≡ s.ended → new.count ≡ s.count + size_of n s.reader → new.lines ≡ s.lines + 1
    → Gone left left' old new (take n s.reader ++ newline ∷ []) 1
line_taken n left left' old s new f h reader ended count lines = record {
  got = f.got;
  reads = f.reads;
  closing = h.closing;
  closes = closes h.closes;
  read =
      sym (append_assoc old.reader f.got h.closing) ∙ ap (λ t. t ++ h.closing) (sym f.joined) ∙ h.text
      ∙ ap (λ t. take n s.reader ++ newline ∷ t) (sym reader)
      ∙ sym (append_assoc (take n s.reader) (newline ∷ []) new.reader);
  count = counted h.closes;
  lines = lines ∙ ap (λ k. k + 1) f.lines;
  stays = λ e. let t = f.stays e in (t.0, ended ∙ t.1);
} where
  closes : (h.closing ≡ []) ⊎ ((h.closing ≡ newline ∷ []) × (n ≡ length s.reader) × (0 < n) × (s.ended ≡ true)) → Closes h.closing (old.reader ++ f.got) new
  closes (inl none) = inl none
  closes (inr last) =
      let all : take n s.reader ≡ s.reader = take_all n s.reader (omega (arith, last.1)) in
      let plain : is_plain s.reader ≡ true = ap is_plain (sym all) ∙ h.plain in
      inr (
        last.0,
        reader ∙ drop_all (n + 1) s.reader (omega (arith, last.1)),
        ended ∙ last.3,
        ap closed (sym f.joined) ∙ closed_plain s.reader plain (omega (arith, last.1, last.2)) ∙ ap (λ t. t ++ newline ∷ []) f.joined,
      )

  counted : (h.closing ≡ []) ⊎ ((h.closing ≡ newline ∷ []) × (n ≡ length s.reader) × (0 < n) × (s.ended ≡ true))
      → new.count + length h.closing ≡ old.count + length (take n s.reader ++ newline ∷ [])
  counted (inl none) = omega (
    arith,
    count,
    f.count,
    ap length none,
    ap length h.text,
    length-append s.reader h.closing,
    length-append (take n s.reader) (newline ∷ []),
    length-append (take n s.reader) (newline ∷ drop (n + 1) s.reader),
    length-take-le n s.reader h.within,
  )
  counted (inr last) = omega (
    arith,
    count,
    f.count,
    ap length last.0,
    last.1,
    length-append (take n s.reader) (newline ∷ []),
    length-take-le n s.reader h.within,
  )

pub gone_nothing : (left : Option (List ℕ)) (s : Lines) → Gone left left s s [] 0
gone_nothing left s = record {
  got = [];
  reads = reads-nothing left;
  closing = [];
  closes = inl refl;
  read = append-nil s.reader;
  count = omega arith;
  lines = omega arith;
  stays = λ e. (refl, e);
}

-- a line that was looked for and not taken
pub gone_found : (left left' : Option (List ℕ)) (old new : Lines) → Finds left left' old new → Gone left left' old new [] 0
gone_found left left' old new f = record {
  got = f.got;
  reads = f.reads;
  closing = [];
  closes = inl refl;
  read = ap (λ t. old.reader ++ t) (append-nil f.got) ∙ sym f.joined;
  count = omega (arith, f.count);
  lines = omega (arith, f.lines);
  stays = f.stays;
}

-- lines after lines
pub gone_more : (a b c : Option (List ℕ)) (x y z : Lines) (t u : List ℕ) (m k : ℕ) → IsClosed t → Gone a b x y t m → Gone b c y z u k
    → Gone a c x z (t ++ u) (m + k)
gone_more a b c x y z t u m k whole g h = by_closing g.closes where
  got_all : List ℕ
  got_all = g.got ++ h.got

  reads_all : Reads a c got_all
  reads_all = reads-more a b c g.got h.got g.reads h.reads

  lines_all : z.lines ≡ x.lines + (m + k)
  lines_all = omega (arith, g.lines, h.lines)

  stays_all : x.ended ≡ true → (got_all ≡ []) × (z.ended ≡ true)
  stays_all e = let p = g.stays e in let q = h.stays p.1 in (ap (λ t. t ++ h.got) p.0 ∙ q.0, q.1)

  -- all bytes so far, where no newline was missing before
  joined : g.closing ≡ [] → x.reader ++ got_all ≡ t ++ (y.reader ++ h.got)
  joined none =
      sym (append_assoc x.reader g.got h.got)
      ∙ ap (λ s. s ++ h.got) (ap (λ s. x.reader ++ s) (sym (append-nil g.got) ∙ ap (λ s. g.got ++ s) (sym none)) ∙ g.read)
      ∙ append_assoc t y.reader h.got

  closes_all : g.closing ≡ [] → Closes h.closing (y.reader ++ h.got) z → Closes h.closing (x.reader ++ got_all) z
  closes_all none (inl e) = inl e
  closes_all none (inr r) = inr (
    r.0,
    r.1,
    r.2,
    ap closed (joined none) ∙ whole.front (y.reader ++ h.got) ∙ ap (λ s. t ++ s) r.3 ∙ sym (append_assoc t (y.reader ++ h.got) (newline ∷ []))
        ∙ ap (λ s. s ++ newline ∷ []) (sym (joined none)),
  )

  first_open : g.closing ≡ [] → Gone a c x z (t ++ u) (m + k)
  first_open none = record {
    got = got_all;
    reads = reads_all;
    closing = h.closing;
    closes = closes_all none h.closes;
    read =
        sym (append_assoc x.reader got_all h.closing) ∙ ap (λ s. s ++ h.closing) (joined none)
        ∙ append_assoc t (y.reader ++ h.got) h.closing ∙ ap (λ s. t ++ s) (append_assoc y.reader h.got h.closing ∙ h.read)
        ∙ sym (append_assoc t u z.reader);
    count = omega (arith, g.count, h.count, ap length none, length-append t u);
    lines = lines_all;
    stays = stays_all;
  }

  -- the last line was taken before, so nothing came after it
  nothing : (y.reader ≡ []) → (h.got ≡ []) → Closes h.closing (y.reader ++ h.got) z → h.closing ≡ []
  nothing ry none (inl e) = e
  nothing ry none (inr r) = let e : closed [] ≡ [] ++ newline ∷ [] = subst (λ (s : List ℕ). closed s ≡ s ++ newline ∷ []) (ap (λ s. s ++ h.got) ry ∙ none) r.3 in absurd (cc)

  no_more : (y.reader ≡ []) → (h.got ≡ []) → h.closing ≡ [] → (u ≡ []) × (z.reader ≡ [])
  no_more ry none last =
      empty u z.reader (sym h.read ∙ ap (λ s. s ++ (h.got ++ h.closing)) ry ∙ ap (λ s. s ++ h.closing) none ∙ last) where
        empty : (p q : List ℕ) → p ++ q ≡ [] → (p ≡ []) × (q ≡ [])
        empty [] q e = (refl, e)
        empty (b ∷ bs) q e = absurd (cc)

  by_closing : Closes g.closing (x.reader ++ g.got) y → Gone a c x z (t ++ u) (m + k)
  by_closing (inl none) = first_open none
  by_closing (inr r) =
      let none = (h.stays r.2).0 in
      let last = nothing r.1 none h.closes in
      let ends = no_more r.1 none last in
      let all : got_all ≡ g.got = ap (λ s. g.got ++ s) none ∙ append-nil g.got in
      record {
        got = got_all;
        reads = reads_all;
        closing = g.closing;
        closes = inr (r.0, ends.1, (h.stays r.2).1, subst (λ (s : List ℕ). closed (x.reader ++ s) ≡ (x.reader ++ s) ++ newline ∷ []) (sym all) r.3);
        read =
            ap (λ s. x.reader ++ (s ++ g.closing)) all ∙ g.read
            ∙ ap (λ s. s ++ y.reader) (sym (append-nil t) ∙ ap (λ s. t ++ s) (sym ends.0)) ∙ ap (λ s. (t ++ u) ++ s) (r.1 ∙ sym ends.1);
        count = omega (arith, g.count, h.count, ap length last, ap length ends.0, length-append t u);
        lines = lines_all;
        stays = stays_all;
      }

-- what the source had: the lines that were taken, and what is left
pub gone_closed : (left left' : Option (List ℕ)) (old new : Lines) (text : List ℕ) (n : ℕ) (g : Gone left left' old new text n) → IsClosed text
    → (new.ended ≡ true → IsAtEnd left')
    → closed (old.reader ++ (g.got ++ bytes_left left')) ≡ text ++ closed (new.reader ++ bytes_left left')
gone_closed left left' old new text n g whole ends = by_closing g.closes where
  by_closing : Closes g.closing (old.reader ++ g.got) new → closed (old.reader ++ (g.got ++ bytes_left left')) ≡ text ++ closed (new.reader ++ bytes_left left')
  by_closing (inl none) =
      ap closed (
      sym (append_assoc old.reader g.got (bytes_left left'))
      ∙ ap (λ s. s ++ bytes_left left') (ap (λ s. old.reader ++ s) (sym (append-nil g.got) ∙ ap (λ s. g.got ++ s) (sym none)) ∙ g.read)
      ∙ append_assoc text new.reader (bytes_left left')
      )
      ∙ whole.front (new.reader ++ bytes_left left')
  by_closing (inr r) =
      let last : bytes_left left' ≡ [] = none_left left' (ends r.2) in
      ap (λ s. closed (old.reader ++ (g.got ++ s))) last ∙ ap (λ s. closed (old.reader ++ s)) (append-nil g.got) ∙ r.3
      ∙ append_assoc old.reader g.got (newline ∷ []) ∙ ap (λ s. old.reader ++ (g.got ++ s)) (sym r.0) ∙ g.read
      ∙ ap (λ s. text ++ s) (r.1 ∙ ap closed (sym (ap (λ s. s ++ bytes_left left') r.1 ∙ last)))

-- how many of its bytes those lines and a further text have
pub gone_given : (left left' : Option (List ℕ)) (old new : Lines) (text more : List ℕ) (n : ℕ) (g : Gone left left' old new text n)
    → (new.ended ≡ true → IsAtEnd left') → old.reader ≡ [] → old.count ≡ 0
    → given (old.reader ++ (g.got ++ bytes_left left')) (text ++ more) ≡ new.count + given (new.reader ++ bytes_left left') more
gone_given left left' old new text more n g ends empty none_before = by_closing g.closes where
  sizes : length (old.reader ++ (g.got ++ bytes_left left')) + length g.closing ≡ length text + length (new.reader ++ bytes_left left')
  sizes = omega (
    arith,
    ap length g.read,
    length-append old.reader (g.got ++ bytes_left left'),
    length-append g.got (bytes_left left'),
    length-append old.reader (g.got ++ g.closing),
    length-append g.got g.closing,
    length-append text new.reader,
    length-append new.reader (bytes_left left'),
  )

  by_closing : Closes g.closing (old.reader ++ g.got) new
      → given (old.reader ++ (g.got ++ bytes_left left')) (text ++ more) ≡ new.count + given (new.reader ++ bytes_left left') more
  by_closing (inl none) = omega (arith, sizes, ap length none, g.count, none_before, length-append text more)
  by_closing (inr r) =
      let last : bytes_left left' ≡ [] = none_left left' (ends r.2) in
      let rest : length (new.reader ++ bytes_left left') ≡ 0 = ap (λ s. length (s ++ bytes_left left')) r.1 ∙ ap length last in
      omega (arith, sizes, rest, ap length r.0, g.count, none_before, length-append text more)

-- what was read, where the source didn't end: the lines that were taken, and what was read ahead
pub gone_cut : (left left' : Option (List ℕ)) (old new : Lines) (text : List ℕ) (n : ℕ) (g : Gone left left' old new text n) → new.ended ≡ false
    → old.reader ++ g.got ≡ text ++ new.reader
gone_cut left left' old new text n g going = by_closing g.closes where
  by_closing : Closes g.closing (old.reader ++ g.got) new → old.reader ++ g.got ≡ text ++ new.reader
  by_closing (inl none) = ap (λ s. old.reader ++ s) (sym (append-nil g.got) ∙ ap (λ s. g.got ++ s) (sym none)) ∙ g.read
  by_closing (inr r) = let e = r.2 in absurd (cc (e, going))
