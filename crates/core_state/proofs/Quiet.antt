-- From the last entry of its log on, a core stays as it is.
use Rattle.std.proofs.Common.{◌≡◌, ℕ, suc, ◌+◌, ◌≤◌, Bool, true, false, cond, List, [], ◌∷◌, ◌++◌, length, take, refl, sym, ap, subst, ◌∙◌, arith}
use Rattle.std.proofs.lemmas.List.{append-nil, append_assoc, length_push, take-append-le, take_all}
use Rattle.policy_tree.specs.Meaning.{Meaning}
use Rattle.round_model.specs.declared.entry.Entry.{Entry}
use Rattle.round_model.specs.declared.plan.Plan.{Plan}
use Rattle.round_model.specs.After.{after}
use Rattle.round_model.specs.Entries.{touches}
use Rattle.round_model.proofs.Grows.{untouched}
use Rattle.core_state.specs.Laws.{LastWithinLaw, QuietLaw}
use Rattle.core_state.specs.Logs.{after_last, logged, logged_from}

within_from : (test : Entry → Bool) (at start : ℕ) (es : List Entry) → start ≤ at → after_last start (logged_from test at es) ≤ at + length es
within_from test at start [] early = omega arith
within_from test at start (e ∷ es) early =
    elim (test e) as (λ b. after_last start (cond b (logged at e ∷ []) [] ++ logged_from test (suc at) es) ≤ at + suc (length es)) [
      | true ↦ let rest = within_from test (suc at) (suc at) es (omega arith) in omega arith
      | false ↦ let rest = within_from test (suc at) start es (omega arith) in omega arith
    ]

pub last_within : LastWithinLaw
last_within test history = let within = within_from test 0 0 history (omega arith) in omega arith

module _ (p : Meaning) (plan : Plan) (c : ℕ) where
  -- the core stood still from that place of the history on
  IsStill : List Entry → ℕ → Type 0
  IsStill history start = after p plan history c ≡ after p plan (take start history) c

  quiet_from : (before es : List Entry) (at start : ℕ) → length before ≡ at → start ≤ at → IsStill before start
      → IsStill (before ++ es) (after_last start (logged_from (touches c) at es))
  unfolding IsStill
  quiet_from before [] at start count early still =
      subst (λ (h : List Entry). after p plan h c ≡ after p plan (take start h) c) (sym (append-nil before)) still
  quiet_from before (e ∷ es) at start count early still =
      let longer : List Entry = before ++ e ∷ [] in
      let more : length longer ≡ suc at = length_push before e ∙ (let next : length before + 1 ≡ suc at = omega arith in next) in
      subst (λ (h : List Entry). IsStill h (after_last start (logged_from (touches c) at (e ∷ es)))) (append_assoc before (e ∷ []) es)
      (elim (touches c e) as (λ b. touches c e ≡ b → IsStill (longer ++ es) (after_last start (cond b (logged at e ∷ []) [] ++ logged_from (touches c) (suc at) es))) [
        | true ↦ λ touched. quiet_from longer es (suc at) (suc at) more (omega arith)
            (ap (λ (h : List Entry). after p plan h c) (sym (take_all (suc at) longer (omega arith))))
        | false ↦ λ left. quiet_from longer es (suc at) start more (omega arith)
            (untouched p plan before e c left ∙ (still ∙ ap (λ (h : List Entry). after p plan h c) (sym (take-append-le start before (e ∷ []) (omega arith)))))
      ] refl)

pub quiet : QuietLaw
unfolding IsStill
quiet p plan history c = quiet_from p plan c [] history 0 0 refl (omega arith) refl
