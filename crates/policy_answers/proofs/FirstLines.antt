-- The lines of a text, one after another.
use Rattle.std.proofs.Common.{◌≡◌, ◌≢◌, ℕ, suc, ◌+◌, ◌<◌, Bool, true, false, List, [], ◌∷◌, ◌++◌, length, take, drop, length-append, append_assoc, append-nil, refl, ap, ap₂, sym, subst, ◌∙◌, arith}
use Rattle.std.proofs.lemmas.Bool.{eqb-true}
use Rattle.std.proofs.lemmas.List.{drop_all, drop_at, length-drop, take_all, take_at}
use Rattle.sched_io.specs.Puts.{WritesAll, WritesPart, joined}
use Rattle.sched_io.specs.Shown.{Shown}
use Rattle.sched_io.proofs.PutsLemmas.{puts_both, stops_later, stops_sooner}
use Rattle.text_forms.specs.Cuts.{IsCut, Lacks, is_byte}
use Rattle.policy_answers.specs.TextLines.{IsLineLen, begun_by, lines_in}

begun : (byte : ℕ) (lines : List (List ℕ)) → joined (begun_by byte lines) ≡ byte ∷ joined lines
begun byte [] = refl
begun byte (line ∷ lines) = refl

-- all lines together are the text
pub joined_lines : (text : List ℕ) → joined (lines_in text) ≡ text
joined_lines [] = refl
joined_lines (byte ∷ text) = by (is_byte 10 byte) refl (joined_lines text)
  where
    by : (b : Bool) → is_byte 10 byte ≡ b → joined (lines_in text) ≡ text → joined (lines_in (byte ∷ text)) ≡ byte ∷ text
    by true is same = rw is (ap (λ t. byte ∷ t) same)
    by false is same = rw is (begun byte (lines_in text) ∙ ap (λ t. byte ∷ t) same)

-- a byte that isn't a line feed
not_feed : (byte : ℕ) (rest : List ℕ) → Lacks 10 (byte ∷ rest) → is_byte 10 byte ≡ false
not_feed byte rest lacks = by (is_byte 10 byte) refl
  where
    by : (b : Bool) → is_byte 10 byte ≡ b → is_byte 10 byte ≡ false
    by true is = absurd (lacks 0 0 (omega arith) (eqb-true byte 10 is))
    by false is = is

-- a line with its line feed is the first one
lines_cut : (line behind : List ℕ) → Lacks 10 line → lines_in (line ++ 10 ∷ behind) ≡ (line ++ 10 ∷ []) ∷ lines_in behind
lines_cut [] behind lacks = refl
lines_cut (byte ∷ line) behind lacks =
    rw (not_feed byte line lacks) (ap (begun_by byte) (lines_cut line behind (λ k d lt. lacks (suc k) d (omega (arith, lt)))))

-- a text without a line feed is one line
one_left : (byte : ℕ) (text : List ℕ) → Lacks 10 (byte ∷ text) → lines_in (byte ∷ text) ≡ (byte ∷ text) ∷ []
one_left byte [] lacks = rw (not_feed byte [] lacks) refl
one_left byte (other ∷ text) lacks =
    rw (not_feed byte (other ∷ text) lacks) (ap (begun_by byte) (one_left other text (λ k d lt. lacks (suc k) d (omega (arith, lt)))))

pub cut_len : (text line behind : List ℕ) → IsCut 10 text line behind → IsLineLen text (length line + 1)
cut_len text line behind cut =
    let whole : text ≡ (line ++ 10 ∷ []) ++ behind = cut.whole ∙ sym (append_assoc line (10 ∷ []) behind) in
    let size : length (line ++ 10 ∷ []) ≡ length line + 1 = length-append line (10 ∷ []) in
    let front : take (length line + 1) text ≡ line ++ 10 ∷ [] = ap (take (length line + 1)) whole ∙ take_at (line ++ 10 ∷ []) behind (length line + 1) size in
    let back : drop (length line + 1) text ≡ behind = ap (drop (length line + 1)) whole ∙ drop_at (line ++ 10 ∷ []) behind (length line + 1) size in
    record {
      lines = ap lines_in cut.whole ∙ lines_cut line behind cut.first ∙ ap₂ (λ l b. l ∷ lines_in b) (sym front) (sym back);
      some = omega arith;
      within = omega (arith, ap length whole, length-append (line ++ 10 ∷ []) behind, size);
    }

pub whole_len : (text : List ℕ) → text ≢ [] → Lacks 10 text → IsLineLen text (length text)
whole_len [] some lacks = absurd (some refl)
whole_len (byte ∷ rest) some lacks =
    let text : List ℕ = byte ∷ rest in
    let front : take (length text) text ≡ text = take_all (length text) text (omega arith) in
    let back : drop (length text) text ≡ [] = drop_all (length text) text (omega arith) in
    record {
      lines = one_left byte rest lacks ∙ ap₂ (λ l b. l ∷ lines_in b) (sym front) (sym back);
      some = omega arith;
      within = omega arith;
    }

-- A loop that puts line after line: these were put, and those of what is left come next.
pub record ArePutSoFar (text left : List ℕ) (before now : Shown) : Type 0 where
  pub done : List (List ℕ)
  pub lines : lines_in text ≡ done ++ lines_in left
  pub written : WritesAll done before now

module _ (text left line behind : List ℕ) (len : ℕ) (x y z : Shown) (so_far : ArePutSoFar text left x y) (is : IsLineLen left len)
    (line_is : line ≡ take len left) (behind_is : behind ≡ drop len left) where
  next_lines : lines_in text ≡ (so_far.done ++ line ∷ []) ++ lines_in behind
  next_lines =
      so_far.lines
      ∙ ap (λ ls. so_far.done ++ ls) (is.lines ∙ ap₂ (λ l b. l ∷ lines_in b) (sym line_is) (sym behind_is))
      ∙ sym (append_assoc so_far.done (line ∷ []) (lines_in behind))

  pub put_next : WritesAll (line ∷ []) y z → ArePutSoFar text behind x z
  put_next second = record { done = so_far.done ++ line ∷ []; lines = next_lines; written = puts_both so_far.done (line ∷ []) x y z so_far.written second }

  pub put_stops : WritesPart (line ∷ []) y z → WritesPart (lines_in text) x z
  put_stops second =
      subst (λ ls. WritesPart ls x z) (sym next_lines)
      (stops_sooner (so_far.done ++ line ∷ []) (lines_in behind) x z (stops_later so_far.done (line ∷ []) x y z so_far.written second))

-- what stands behind the first line is shorter
pub gets_shorter : (left behind : List ℕ) (len : ℕ) → IsLineLen left len → behind ≡ drop len left → length behind < length left
gets_shorter left behind len is behind_is = omega (arith, is.some, is.within, ap length behind_is, length-drop len left)

-- nothing is left
pub put_whole : (text left : List ℕ) (x y : Shown) → ArePutSoFar text left x y → length left ≡ 0 → WritesAll (lines_in text) x y
put_whole text [] x y so_far none = subst (λ ls. WritesAll ls x y) (sym (so_far.lines ∙ append-nil so_far.done)) so_far.written
put_whole text (byte ∷ left) x y so_far none = absurd (omega (arith, none))
