-- How many line feeds a text has, and how many a certificate's text has.
use Rattle.std.proofs.Common.{◌≡◌, ℕ, suc, ◌+◌, ◌≤◌, Bool, true, false, List, [], ◌∷◌, ◌++◌, length, append_assoc, ap, sym, subst, ◌∙◌, refl, arith}
use Rattle.std.specs.List.{count_by}
use Rattle.std.proofs.lemmas.Bool.{eqb-true}
use Rattle.std.proofs.lemmas.List.Recursion.{is_count_by}
use Rattle.linear_cert.specs.Right.{CertTree, leaf, split}
use Rattle.text_forms.specs.Cuts.{Lacks, is_byte}
use Rattle.cert_lines.specs.Reading.{nodes_of}
use Rattle.cert_lines.specs.Text.{AreInRange, cert_text, leaf_line, split_line}
use Rattle.cert_lines.proofs.BadLines.{leaf_lacks_feed, split_lacks_feed}
use Rattle.cert_file.specs.Reading.{AreLines, no_line, one_more, feeds}

pub feeds_both : (one two : List ℕ) → feeds (one ++ two) ≡ feeds one + feeds two
feeds_both [] two = omega arith
feeds_both (byte ∷ one) two = by (is_byte 10 byte) refl (feeds_both one two)
  where
    by : (b : Bool) → is_byte 10 byte ≡ b → feeds (one ++ two) ≡ feeds one + feeds two → feeds ((byte ∷ one) ++ two) ≡ feeds (byte ∷ one) + feeds two
    by true is same = rw is (omega (arith, same))
    by false is same = rw is (omega (arith, same))

-- a text that lacks line feeds has none
pub feeds_none : (text : List ℕ) → Lacks 10 text → feeds text ≡ 0
feeds_none [] lacks = refl
feeds_none (byte ∷ rest) lacks = by (is_byte 10 byte) refl (feeds_none rest (λ k d lt. lacks (suc k) d (omega (arith, lt))))
  where
    by : (b : Bool) → is_byte 10 byte ≡ b → feeds rest ≡ 0 → feeds (byte ∷ rest) ≡ 0
    by true is same = absurd (lacks 0 0 (omega arith) (eqb-true byte 10 is))
    by false is same = rw is same

pub feeds_line : (line rest : List ℕ) → feeds (line ++ 10 ∷ rest) ≡ feeds line + suc (feeds rest)
feeds_line line rest =
    let one : 1 + feeds rest ≡ suc (feeds rest) = omega arith in
    feeds_both line (10 ∷ rest) ∙ ap (λ k. feeds line + k) one

pub feeds_few : (text : List ℕ) → feeds text ≤ length text
feeds_few [] = omega arith
feeds_few (byte ∷ rest) = by (is_byte 10 byte) refl (feeds_few rest)
  where
    by : (b : Bool) → is_byte 10 byte ≡ b → feeds rest ≤ length rest → feeds (byte ∷ rest) ≤ length (byte ∷ rest)
    by true is few = rw is (omega (arith, few))
    by false is few = rw is (omega (arith, few))

-- they are counted so
pub feeds_count : (text : List ℕ) → feeds text ≡ count_by (is_byte 10) text
feeds_count text = is_count_by feeds (is_byte 10) refl (λ x xs. refl) text

-- a certificate's text has one for each of its nodes
pub feeds_tree : (tree : CertTree) → AreInRange tree → feeds (cert_text tree) ≡ nodes_of tree
feeds_tree (leaf mults) fit = omega (arith, feeds_line (leaf_line mults) [], feeds_none (leaf_line mults) (leaf_lacks_feed mults fit))
feeds_tree (split variable at left right) (fit, fit_left, fit_right) =
    omega (
      arith,
      feeds_line (split_line variable at) (cert_text left ++ cert_text right),
      feeds_none (split_line variable at) (split_lacks_feed variable at fit),
      feeds_both (cert_text left) (cert_text right),
      feeds_tree left fit_left,
      feeds_tree right fit_right,
    )

-- and lines have one each
pub feeds_lines : (text : List ℕ) (lines : ℕ) → AreLines text lines → feeds text ≡ lines
feeds_lines _ _ no_line = refl
feeds_lines _ _ (one_more line rest lines lacks are) = omega (arith, feeds_line line rest, feeds_none line lacks, feeds_lines rest lines are)

-- one line more at the end
pub more_lines : (text line : List ℕ) (lines : ℕ) → AreLines text lines → Lacks 10 line → AreLines (text ++ (line ++ 10 ∷ [])) (suc lines)
more_lines _ line _ no_line lacks = one_more line [] 0 lacks no_line
more_lines _ line _ (one_more first rest lines first_lacks are) lacks =
    subst (λ t. AreLines t (suc (suc lines))) (sym (append_assoc first (10 ∷ rest) (line ++ 10 ∷ [])))
    (one_more first (rest ++ (line ++ 10 ∷ [])) (suc lines) first_lacks (more_lines rest line lines are lacks))
