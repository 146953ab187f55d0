-- A text is read in one way: it has the header for so many cores or not, and what stands behind it is read in one way.
use Rattle.std.proofs.Common.{◌≡◌, ◌≢◌, ℕ, Bor, Option, None, Some, MatchOption, List, ◌++◌, Result, Ok, Err, IfOk, IfErr, ap, sym, subst, ◌∙◌, arith}
use Rattle.std.proofs.lemmas.List.{append_cancel_left}
use Rattle.round_model.specs.declared.entry.Entry.{Entry}
use Rattle.sched_history.specs.declared.forms.LineForm.TheVariants as form
use Rattle.sched_history.specs.Ranges.{IsCoreCount}
use Rattle.sched_history.specs.Spelling.{header, second_form}
use Rattle.history_reader.specs.Answers.{IsFaultOf, IsUnlessMemory}
use Rattle.history_reader.specs.Code.Faults.{IsFaultIn}
use Rattle.history_reader.specs.Reading.{HasHeader, HasNoHeader, IsFirstBadLine, IsFirstBadOf, SpellsHistory, SpellsLines, bad_first, bad_second, in_first, in_second}
use Rattle.history_reader.specs.declared.fault.HistoryFault.{HistoryFault}
use Rattle.history_reader.specs.declared.fault.HistoryFault.TheVariants.{BadLine, Memory}
use Rattle.history_reader.proofs.OneReading.{one_first_bad, one_spelling, spelled_or_bad}

module _ (cores : ℕ) (text : List ℕ) where
  same_lines : (one two : List ℕ) → HasHeader cores text one → HasHeader cores text two → one ≡ two
  same_lines one two is_one is_two = append_cancel_left (header cores) one two (sym is_one.text_is ∙ is_two.text_is)

  pub one_history : (one two : List Entry) → SpellsHistory cores text one → SpellsHistory cores text two → one ≡ two
  one_history one two (in_first none is) (in_first neither other) = one_spelling form.First text one two is other
  one_history one two (in_first none is) (in_second lines has other) = absurd (none lines has)
  one_history one two (in_second lines has is) (in_first none other) = absurd (none lines has)
  one_history one two (in_second lines has is) (in_second others too other) =
      one_spelling (second_form cores) lines one two is
      (subst (λ (xs : List ℕ). SpellsLines (second_form cores) xs two) (same_lines others lines too has) other)

  pub one_bad_line : (one two : ℕ) → IsFirstBadLine cores text one → IsFirstBadLine cores text two → one ≡ two
  one_bad_line one two (bad_first none is) (bad_first neither other) = one_first_bad form.First text one two is other
  one_bad_line one two (bad_first none is) (bad_second lines behind has other number) = absurd (none lines has)
  one_bad_line one two (bad_second lines behind has is number) (bad_first none other) = absurd (none lines has)
  one_bad_line one two (bad_second lines behind has is number) (bad_second others further too other second) =
      let same = one_first_bad (second_form cores) lines behind further is
      (subst (λ (xs : List ℕ). IsFirstBadOf (second_form cores) xs further) (same_lines others lines too has) other) in
      omega (arith, same, number, second)

  pub not_both : (history : List Entry) (line : ℕ) → SpellsHistory cores text history → IsFirstBadLine cores text line → ⊥
  not_both history line (in_first none is) (bad_first neither other) = spelled_or_bad form.First text history line is other
  not_both history line (in_first none is) (bad_second lines behind has other number) = none lines has
  not_both history line (in_second lines has is) (bad_first none other) = none lines has
  not_both history line (in_second lines has is) (bad_second others behind too other number) =
      spelled_or_bad (second_form cores) lines history behind is
      (subst (λ (xs : List ℕ). IsFirstBadOf (second_form cores) xs behind) (same_lines others lines too has) other)

  -- what a reader has to answer
  pub must_give : (result : Result (List Entry) HistoryFault) → IfOk result (λ history. SpellsHistory cores text history)
      → IfErr result (IsFaultOf cores text) → (history : List Entry) → SpellsHistory cores text history → IsUnlessMemory (Ok history) result
  must_give (Ok read) given fault history spells = ap (λ h. Ok h) (one_history read history given spells)
  must_give (Err (BadLine line)) given fault history spells = absurd (not_both history line spells fault)
  must_give (Err Memory) given fault history spells = tt

  pub must_refuse : (result : Result (List Entry) HistoryFault) → IfOk result (λ history. SpellsHistory cores text history)
      → IfErr result (IsFaultOf cores text) → (line : ℕ) → IsFirstBadLine cores text line → IsUnlessMemory (Err (BadLine line)) result
  must_refuse (Ok read) given fault line bad = absurd (not_both read line given bad)
  must_refuse (Err (BadLine other)) given fault line bad = ap (λ n. Err (BadLine n)) (one_bad_line other line fault bad)
  must_refuse (Err Memory) given fault line bad = tt

-- what is read behind the header
module _ (cores : ℕ) (text lines : List ℕ) (has : HasHeader cores text lines) where
  pub history_behind : (result : Result (List Entry) HistoryFault) → IfOk result (λ history. SpellsLines (second_form cores) lines history)
      → IfOk result (λ history. SpellsHistory cores text history)
  history_behind (Ok history) is = in_second lines has is
  history_behind (Err fault) is = tt

  pub fault_behind : (result : Result (List Entry) HistoryFault) → IfErr result (IsFaultIn 1 (second_form cores) lines)
      → IfErr result (IsFaultOf cores text)
  fault_behind (Ok history) is = tt
  fault_behind (Err (BadLine line)) (number, is, same) = bad_second lines number has is (omega (arith, same))
  fault_behind (Err Memory) is = tt

-- whether the text begins with the header, where there can be so many cores
pub found_header : (cores : ℕ) (text line : List ℕ) (result : Option (Bor (List ℕ))) → IsCoreCount cores → line ≡ header cores
    → MatchOption result ((rest : List ℕ) → text ≢ line ++ rest) (λ lines. text ≡ line ++ lines.now)
    → MatchOption result (HasNoHeader cores text) (λ lines. HasHeader cores text lines.now)
found_header cores text line None count is none = λ lines has. none lines (has.text_is ∙ ap (λ (xs : List ℕ). xs ++ lines) (sym is))
found_header cores text line (Some lines) count is same = record { count = count; text_is = same ∙ ap (λ (xs : List ℕ). xs ++ lines.now) is }
