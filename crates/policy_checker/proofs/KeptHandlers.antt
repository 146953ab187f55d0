-- Answers that let a policy play keep the certificates of its handlers, so that it meets its handler obligations.
use Rattle.std.proofs.Common.{◌≡◌, ℕ, Bool, true, false, true≢false, not, ◌||◌, ◌&&◌, ◌⊎◌, inl, inr, IsTrue, List, [], ◌∷◌, map, refl, subst, sym}
use Rattle.std.specs.List.{AllByRecursion, AllZip}
use Rattle.sched_base.specs.declared.limits.TheConstants.{CHECK_BUDGET}
use Rattle.linear_form.specs.System.{LinearSystem}
use Rattle.linear_cert.specs.Right.{CertTree}
use Rattle.policy_tree.specs.declared.typed.Event.{Event}
use Rattle.policy_tree.specs.declared.typed.Event.TheVariants as event
use Rattle.policy_tree.specs.Meaning.{Meaning}
use Rattle.policy_eval.specs.Obligations.{IsMet, MeetsHandlerObligations, NoGap, NoOverlap}
use Rattle.policy_eval.specs.Resolved.{IsResolved}
use Rattle.obligations.specs.declared.names.ObName.{ObName}
use Rattle.obligations.specs.declared.names.ObName.TheVariants as name
use Rattle.obligations.specs.Names.{ob_names, statement_of}
use Rattle.obligations.specs.Systems.{systems_of}
use Rattle.policy_checker.specs.Answers.{IsAnswer}
use Rattle.policy_checker.specs.Certified.{Certifies, IsCertified, KeepAll, Keeps, KeepsCertificates}
use Rattle.policy_checker.specs.Laws.{HasUncertainHandler, PlayableLaw}
use Rattle.policy_checker.specs.Playable.{HasCertifiedHandlers, KeepHandlers, KeepsOfHandler, all_let_play, is_holding, is_of_handler, is_playable, lets_play}
use Rattle.policy_checker.specs.Verdicts.{Answers, AreAnswers, IsVerdict}
use Rattle.policy_checker.specs.declared.answer.Answered.{Answered}
use Rattle.policy_checker.specs.declared.answer.ObAnswer.{ObAnswer}
use Rattle.policy_checker.specs.declared.answer.ObAnswer.TheVariants as answer
use Rattle.policy_checker.specs.declared.verdict.Verdict.{Verdict}
use Rattle.policy_checker.specs.declared.verdict.Verdict.TheVariants as verdict
use Rattle.policy_checker.proofs.Kept.{certificates, kept_trees, trees_of}
use Rattle.policy_checker.proofs.True.{all_unsolved, met_if, told}

both : (a b : Bool) → (a && b) ≡ true → (a ≡ true) × (b ≡ true)
both true b e = (refl, e)
both false b e = absurd (true≢false (sym e))

one_isn't : (a b : Bool) → (a && b) ≡ false → (a ≡ false) ⊎ ((a ≡ true) × (b ≡ false))
one_isn't true b e = inr (refl, e)
one_isn't false b e = inl refl

where_first : (a b : Bool) → (not a || b) ≡ true → a ≡ true → b ≡ true
where_first true b e first = e
where_first false b e first = absurd (true≢false (sym first))

first_alone : (a b : Bool) → (not a || b) ≡ false → (a ≡ true) × (b ≡ false)
first_alone true b e = (refl, e)
first_alone false b e = absurd (true≢false e)

-- an answer that holds
holding_keeps : (budget : ℕ) (systems : List LinearSystem) (a : ObAnswer) → IsAnswer budget systems a → is_holding a ≡ true → Keeps systems a
holding_keeps budget systems (answer.Holds certs) is holds = certificates budget systems certs is
holding_keeps budget systems (answer.Fails point) is holds = absurd (true≢false (sym holds))
holding_keeps budget systems (answer.Undecided points) is holds = absurd (true≢false (sym holds))

module _ (p : Meaning) where
  each_kept : (budget : ℕ) (answers : List Answered) → AllByRecursion (Answers p budget) answers → all_let_play answers ≡ true
      → AllByRecursion (KeepsOfHandler p) answers
  each_kept budget [] are plays = tt
  each_kept budget (answered ∷ answers) are plays =
      let here = both (lets_play answered) (all_let_play answers) plays in (
        λ handler. holding_keeps budget (systems_of p (statement_of answered.name)) answered.answer are.0
            (where_first (is_of_handler answered.name) (is_holding answered.answer) here.0 handler),
        each_kept budget answers are.1 here.1,
      )

  -- answers that let the policy play
  pub handlers_kept : (budget : ℕ) (answers : List Answered) → AreAnswers p budget answers → all_let_play answers ≡ true → KeepHandlers p answers
  handlers_kept budget answers are plays = record { names = are.names; each = each_kept budget answers are.each plays }

  each_of_all : (answers : List Answered) → AllByRecursion (KeepsCertificates p) answers → AllByRecursion (KeepsOfHandler p) answers
  each_of_all [] all = tt
  each_of_all (answered ∷ answers) all = (λ handler. all.0, each_of_all answers all.1)

  -- answers that accept it
  pub kept_of_all : (answers : List Answered) → KeepAll p answers → KeepHandlers p answers
  kept_of_all answers all = record { names = all.names; each = each_of_all answers all.each }

  -- the obligation has its certificates, if it is one of a handler
  abbrev CertifiedOfHandler : ObName → Type 0
  CertifiedOfHandler n = IsTrue (is_of_handler n) → (trees : List CertTree) × Certifies p n trees

  certified_names : (answers : List Answered) → AllByRecursion (KeepsOfHandler p) answers
      → AllByRecursion CertifiedOfHandler (map (λ (answered : Answered). answered.name) answers)
  certified_names [] all = tt
  certified_names (answered ∷ answers) all = (
    λ handler. (trees_of answered.answer, kept_trees (systems_of p (statement_of answered.name)) answered.answer (all.0 handler)),
    certified_names answers all.1,
  )

  of_certified : (names : List ObName) (certs : List (List CertTree)) → AllZip (Certifies p) names certs → AllByRecursion CertifiedOfHandler names
  of_certified [] [] all = tt
  of_certified [] (trees ∷ certs) all = absurd all
  of_certified (n ∷ names) [] all = absurd all
  of_certified (n ∷ names) (trees ∷ certs) all = (λ handler. (trees, all.0), of_certified names certs all.1)

  by_name : AllByRecursion CertifiedOfHandler ob_names → HasCertifiedHandlers p
  unfolding ob_names
  by_name all name.B1 handler = all.0 handler
  by_name all name.B2 handler = all.1.0 handler
  by_name all name.B3 handler = all.1.1.0 handler
  by_name all name.B4 handler = all.1.1.1.0 handler
  by_name all name.H1Enqueue handler = all.1.1.1.1.0 handler
  by_name all name.H2Enqueue handler = all.1.1.1.1.1.0 handler
  by_name all name.H1Tick handler = all.1.1.1.1.1.1.0 handler
  by_name all name.H2Tick handler = all.1.1.1.1.1.1.1.0 handler
  by_name all name.H1Yield handler = all.1.1.1.1.1.1.1.1.0 handler
  by_name all name.H2Yield handler = all.1.1.1.1.1.1.1.1.1.0 handler
  by_name all name.H1Block handler = all.1.1.1.1.1.1.1.1.1.1.0 handler
  by_name all name.H2Block handler = all.1.1.1.1.1.1.1.1.1.1.1.0 handler

  -- a policy the certificates of whose handlers are kept
  pub handlers_certified : (answers : List Answered) → KeepHandlers p answers → HasCertifiedHandlers p
  handlers_certified answers keep = by_name (subst (AllByRecursion CertifiedOfHandler) keep.names (certified_names answers keep.each))

  certified_has : IsCertified p → HasCertifiedHandlers p
  certified_has (certs, all) = by_name (of_certified ob_names certs all)

  module _ (is : IsResolved p) where
    met_by : HasCertifiedHandlers p → (n : ObName) → IsTrue (is_of_handler n) → IsMet p (statement_of n)
    met_by certified n handler =
        let found = certified n handler in met_if p is (statement_of n) (all_unsolved (systems_of p (statement_of n)) found.0 found.1)

    -- a policy whose handlers are certified
    pub handlers_met : HasCertifiedHandlers p → MeetsHandlerObligations p
    handlers_met certified = record { no_overlap = overlap; no_gap = gap }
      where
        overlap : (e : Event) → NoOverlap p e
        overlap event.Enqueue = met_by certified name.H1Enqueue refl
        overlap event.Tick = met_by certified name.H1Tick refl
        overlap event.Yield = met_by certified name.H1Yield refl
        overlap event.Block = met_by certified name.H1Block refl

        gap : (e : Event) → NoGap p e
        gap event.Enqueue = met_by certified name.H2Enqueue refl
        gap event.Tick = met_by certified name.H2Tick refl
        gap event.Yield = met_by certified name.H2Yield refl
        gap event.Block = met_by certified name.H2Block refl

    uncertain : (n : ObName) (a : ObAnswer) → IsAnswer CHECK_BUDGET (systems_of p (statement_of n)) a → IsTrue (is_of_handler n) → is_holding a ≡ false
        → HasUncertainHandler p
    uncertain n (answer.Holds certs) answers handler unheld = absurd (true≢false unheld)
    uncertain n (answer.Fails point) answers handler unheld = record { name = n; of_handler = handler; uncertain = inl (told p is (statement_of n) (answer.Fails point) answers) }
    uncertain n (answer.Undecided points) answers handler unheld =
        record { name = n; of_handler = handler; uncertain = inr (told p is (statement_of n) (answer.Undecided points) answers) }

    some_uncertain : (answers : List Answered) → AllByRecursion (Answers p CHECK_BUDGET) answers → all_let_play answers ≡ false → HasUncertainHandler p
    some_uncertain [] are plays = absurd (true≢false plays)
    some_uncertain (answered ∷ answers) are plays = by_front (one_isn't (lets_play answered) (all_let_play answers) plays) (some_uncertain answers are.1)
      where
        by_front : (lets_play answered ≡ false) ⊎ ((lets_play answered ≡ true) × (all_let_play answers ≡ false)) → (all_let_play answers ≡ false → HasUncertainHandler p) → HasUncertainHandler p
        by_front (inl here) rest =
            let alone = first_alone (is_of_handler answered.name) (is_holding answered.answer) here in
            uncertain answered.name answered.answer are.0 alone.0 alone.1
        by_front (inr later) rest = rest later.1

    no_play : (v : Verdict) → IsVerdict p CHECK_BUDGET v → is_playable v ≡ false → HasUncertainHandler p
    no_play (verdict.Accepted policy) says plays = absurd (true≢false plays)
    no_play (verdict.Refused answers policy) says plays = some_uncertain answers says.answers_are.each plays
    no_play (verdict.Undecided answers policy) says plays = some_uncertain answers says.answers_are.each plays

pub playable_law : PlayableLaw
playable_law = record { meets = handlers_met; accepted = certified_has; others = no_play }
