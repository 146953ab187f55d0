-- So many lines are cut off a text, or the whole text where it has fewer.
use Rattle.std.proofs.Common.{◌≡◌, ℕ, suc, ◌+◌, ◌-◌, ◌<◌, List, [], ◌∷◌, ◌++◌, length, take, drop, length-append, append_assoc, ap, sym, subst, ◌∙◌, refl, arith}
use Rattle.std.proofs.lemmas.List.{append-nil, drop_all, drop_at, take_all, take_at}
use Rattle.text_forms.specs.Cuts.{IsCut, Lacks}
use Rattle.cert_file.specs.Reading.{AreLines, no_line, IsFront, feeds}
use Rattle.cert_file.proofs.Feeds.{feeds_both, feeds_lines, feeds_none, more_lines}

-- what was cut off so far is lines, and the others are missing
pub record IsCutSoFar (text behind : List ℕ) (lines missing : ℕ) : Type 0 where
  pub front : List ℕ
  pub cut : ℕ
  pub text_is : text ≡ front ++ behind
  pub count : cut + missing ≡ lines
  pub are : AreLines front cut

pub cut_none : (text : List ℕ) (lines : ℕ) → IsCutSoFar text text lines lines
cut_none text lines = record { front = []; cut = 0; text_is = refl; count = omega arith; are = no_line }

pub cut_more : (text behind line rest : List ℕ) (lines missing : ℕ) → IsCutSoFar text behind lines missing → IsCut 10 behind line rest → 0 < missing → IsCutSoFar text rest lines (missing - 1)
cut_more text behind line rest lines missing so_far is some = record {
  front = so_far.front ++ (line ++ 10 ∷ []);
  cut = suc so_far.cut;
  text_is = so_far.text_is ∙ ap (λ t. so_far.front ++ t) (is.whole ∙ sym (append_assoc line (10 ∷ []) rest)) ∙ sym (append_assoc so_far.front (line ++ 10 ∷ []) rest);
  count = omega (arith, so_far.count, some);
  are = more_lines so_far.front line so_far.cut so_far.are is.first;
}

-- no line feed is left
pub cut_short : (text behind bytes rest : List ℕ) (lines missing : ℕ) → IsCutSoFar text behind lines missing → Lacks 10 behind → 0 < missing
    → bytes ≡ take (length text) text → rest ≡ drop (length text) text → IsFront text lines bytes rest missing
cut_short text behind bytes rest lines missing so_far lacks some bytes_are rest_is =
    let all : bytes ≡ text = bytes_are ∙ take_all (length text) text (omega arith) in
    let none : rest ≡ [] = rest_is ∙ drop_all (length text) text (omega arith) in
    let own : feeds text ≡ feeds so_far.front + feeds behind = ap feeds so_far.text_is ∙ feeds_both so_far.front behind in
    record {
      whole = sym all ∙ sym (append-nil bytes) ∙ ap (λ t. bytes ++ t) (sym none);
      count = omega (arith, ap feeds all, own, feeds_lines so_far.front so_far.cut so_far.are, feeds_none behind lacks, so_far.count);
      are_lines = λ zero_missing. absurd (omega (arith, some, zero_missing));
      is_all = λ _. none;
    }

-- none is missing
pub cut_all : (text behind bytes rest : List ℕ) (lines missing : ℕ) → IsCutSoFar text behind lines missing → missing ≡ 0
    → bytes ≡ take (length text - length behind) text → rest ≡ drop (length text - length behind) text → IsFront text lines bytes rest missing
cut_all text behind bytes rest lines missing so_far none bytes_are rest_is =
    let size : length so_far.front ≡ length text - length behind = omega (arith, ap length so_far.text_is, length-append so_far.front behind) in
    let front : bytes ≡ so_far.front = bytes_are ∙ ap (λ t. take (length text - length behind) t) so_far.text_is ∙ take_at so_far.front behind (length text - length behind) size in
    let back : rest ≡ behind = rest_is ∙ ap (λ t. drop (length text - length behind) t) so_far.text_is ∙ drop_at so_far.front behind (length text - length behind) size in
    let cut : so_far.cut ≡ lines = omega (arith, so_far.count, none) in
    let lines_are : AreLines bytes lines = subst (λ (k : ℕ). AreLines bytes k) cut (subst (λ (t : List ℕ). AreLines t so_far.cut) (sym front) so_far.are) in
    record {
      whole = so_far.text_is ∙ ap (λ t. t ++ behind) (sym front) ∙ ap (λ t. bytes ++ t) (sym back);
      count = omega (arith, feeds_lines bytes lines lines_are, none);
      are_lines = λ _. lines_are;
      is_all = λ some. absurd (some none);
    }
