-- What the judgements are meant to be, as a law over all policies, plans and histories.
use Rattle.std.specs.Prelude.{◌≡◌, ℕ, List}
use Rattle.policy_tree.specs.Meaning.{Meaning}
use Rattle.round_model.specs.declared.entry.Entry.{Entry}
use Rattle.round_model.specs.declared.plan.Plan.{Plan}
use Rattle.round_model.specs.Legal.{Legal}
use Rattle.history_judge.specs.Judgement.{IsFirstIllegal}

-- A legal history has no first illegal entry, and another one no more than one. So a history that is whole or too
-- short is judged to be nothing else, and the first illegal entry is the one that every judge finds.
pub record OneJudgement : Type 0 where
  pub legal : (p : Meaning) (plan : Plan) (history : List Entry) (position : ℕ) → Legal p plan history →
      IsFirstIllegal p plan history position → ⊥
  pub one_position : (p : Meaning) (plan : Plan) (history : List Entry) (one two : ℕ) →
      IsFirstIllegal p plan history one → IsFirstIllegal p plan history two → one ≡ two
