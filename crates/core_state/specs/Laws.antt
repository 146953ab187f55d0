-- What is meant to hold of the logs of a history.
use Rattle.std.specs.Prelude.{◌≡◌, ℕ, ◌≤◌, Bool, cond, List, [], ◌∷◌, ◌++◌, length, take}
use Rattle.policy_tree.specs.Meaning.{Meaning}
use Rattle.round_model.specs.declared.entry.Entry.{Entry}
use Rattle.round_model.specs.declared.plan.Plan.{Plan}
use Rattle.round_model.specs.After.{after}
use Rattle.core_state.specs.Logs.{after_last, log_of, logged, logged_from}

-- with one entry more, a log has that entry more or stays as it was
abbrev pub LogGrowsLaw : Type 0
LogGrowsLaw = (test : Entry → Bool) (history : List Entry) (e : Entry) →
    logged_from test 0 (history ++ e ∷ [])
    ≡ logged_from test 0 history ++ cond (test e) (logged (length history) e ∷ []) []

-- no entry of a log stands behind the history
abbrev pub LastWithinLaw : Type 0
LastWithinLaw = (test : Entry → Bool) (history : List Entry) →
    after_last 0 (logged_from test 0 history) ≤ length history

-- from the last entry of its log on, a core stays as it is
abbrev pub QuietLaw : Type 0
QuietLaw = (p : Meaning) (plan : Plan) (history : List Entry) (c : ℕ) →
    after p plan history c ≡ after p plan (take (after_last 0 (log_of c history)) history) c
