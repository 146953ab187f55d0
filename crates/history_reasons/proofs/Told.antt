-- The entries that may come have lines.
use Rattle.std.proofs.Common.{◌≡◌, ◌+◌, ◌<◌, ◌≤◌, ◌⊎◌, inl, inr, IfOk, Result, Ok, Err, ℕ, List, [], ◌∷◌, ◌++◌, All, get_or, length, take, sym, subst, ap, ◌∙◌, arith, eq-or-lt_of_le}
use Rattle.std.proofs.lemmas.List.{length-append, length-take, take-append-le, take_all, get_or-append-add}
use Rattle.sched_base.specs.declared.limits.TheConstants.{MAX_ENTRIES}
use Rattle.policy_tree.specs.Meaning.{Meaning}
use Rattle.round_model.specs.declared.entry.Entry.{Entry}
use Rattle.round_model.specs.declared.plan.Plan.{Plan}
use Rattle.round_model.specs.Fits.{Fits}
use Rattle.round_model.specs.Legal.{Legal, LegalNext}
use Rattle.round_model.specs.Limits.{IsWithinLimits}
use Rattle.round_model.specs.Reads.{round_start}
use Rattle.round_model.specs.declared.memory.ModelMemory.{ModelMemory}
use Rattle.round_judge.specs.declared.past.Past.{Past}
use Rattle.round_judge.specs.Past.{OfEach, StandsFor}
use Rattle.round_model.proofs.Grows.{legal_grows}
use Rattle.sched_history.specs.Ranges.{IsPrintableFrom}
use Rattle.sched_history.proofs.Printable.{legal_is_printable}
use Rattle.sched_history.proofs.Writing.{printable_at}
use Rattle.history_reasons.specs.declared.coming.Coming.{Coming}
use Rattle.history_reasons.specs.declared.explaining.Explanation.{Explanation}
use Rattle.history_reasons.specs.declared.explaining.Explanation.TheVariants as explained
use Rattle.history_reasons.specs.Explanations.{IsExplanation, MayCome}
use Rattle.history_reasons.specs.Lines.{AreTold, CanBeTold}

module _ (p : Meaning) (plan : Plan) (fits : Fits p plan) (limits : IsWithinLimits plan) where
  -- the last of the entries of a legal history has a line
  last_told : (h : List Entry) (e : Entry) → Legal p plan h → LegalNext p plan h e → length h < MAX_ENTRIES → IsPrintableFrom (round_start h) e
  last_told h e legal next room =
      let all = h ++ e ∷ [] in
      let can = legal_is_printable p plan all fits limits (legal_grows.grows p plan h e legal next) (omega (arith, room, length-append h (e ∷ []))) in
      let at = printable_at plan.cores all (length h) e (omega (arith, length-append h (e ∷ []))) can.printable.lines in
      let front : take (length h) all ≡ h = take-append-le (length h) h (e ∷ []) (omega arith) ∙ take_all (length h) h (omega arith) in
      let last : get_or all (length h) e ≡ e = ap (λ n. get_or all n e) (let same : length h ≡ length h + 0 = omega arith in same) ∙ get_or-append-add h (e ∷ []) 0 e in
      subst (λ (x : Entry). IsPrintableFrom (round_start h) x) last
      (subst (λ (g : List Entry). IsPrintableFrom (round_start g) (get_or all (length h) e)) front at)

  pub told_from : (h : List Entry) (coming : Coming) → length h ≤ MAX_ENTRIES → Legal p plan h → MayCome p plan h coming → AreTold coming
  told_from h coming few legal may = by_room (eq-or-lt_of_le few)
    where
      by_room : (length h ≡ MAX_ENTRIES) ⊎ (length h < MAX_ENTRIES) → AreTold coming
      by_room (inr room) = λ k d inside.
          subst (λ (n : ℕ). IsPrintableFrom n (get_or coming.entries k d)) (sym may.start)
          (last_told h (get_or coming.entries k d) legal ((may.next_are room).legal k d inside) room)
      by_room (inl full) = subst (All (IsPrintableFrom coming.start)) (sym (may.full (omega arith))) (λ k d inside. absurd (omega arith))

  -- an explanation can be written
  explanation_told : (h : List Entry) (explanation : Explanation) → length h ≤ MAX_ENTRIES → IsExplanation p plan h explanation → CanBeTold explanation
  explanation_told h (explained.Whole count) few is = tt
  explanation_told h (explained.Short count coming) few is = told_from h coming few is.short.legal is.comes
  explanation_told h (explained.Illegal at why coming) few is = told_from (take at h) coming (omega (arith, length-take at h)) is.first.before is.comes

  -- what the ended history is explained to be can be written
  pub ended_told : (past : Past) (h : List Entry) (ended : Result Explanation ModelMemory) → length h ≤ MAX_ENTRIES → StandsFor p plan past h
      → IfOk ended (λ explanation. OfEach p plan past (λ history. IsExplanation p plan history explanation)) → IfOk ended CanBeTold
  ended_told past h (Ok explanation) few stands is = explanation_told h explanation few (is h stands)
  ended_told past h (Err why) few stands is = tt
