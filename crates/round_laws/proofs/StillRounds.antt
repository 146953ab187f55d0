-- The law of still rounds, from what single entries do to the cores: its parts, and the whole. Bad rounds are restless, so they
-- are paid for, and cores at rest are none idle beside an overloaded one.
use Rattle.std.proofs.Common.{List, get_or, arith}
use Rattle.policy_tree.specs.Meaning.{Meaning}
use Rattle.policy_eval.specs.Obligations.{MeetsObligations}
use Rattle.round_model.specs.declared.entry.Entry.{Entry}
use Rattle.round_model.specs.declared.plan.Plan.{Plan}
use Rattle.round_model.specs.Fits.{Fits}
use Rattle.round_model.specs.Legal.{Legal}
use Rattle.round_model.specs.StillRounds.{BadRoundsPaid, ConservesWorkAfter, StaysBalanced, StillRoundsLaw}
use Rattle.round_laws.proofs.MoveObligations.{move_obligations}
use Rattle.round_laws.proofs.KeptLoads.{keeps_loads}
use Rattle.round_laws.proofs.StealsNarrow.{steals_narrow}
use Rattle.round_laws.proofs.Stretches.{beside_earlier}
use Rattle.round_laws.proofs.BadRounds.{bad_is_restless, bad_round_steals, restless_at}
use Rattle.round_laws.proofs.Rest.{restless_rounds_paid, rests_after}

module _ (p : Meaning) (plan : Plan) (h : List Entry) (fits : Fits p plan) (meets : MeetsObligations p) (legal : Legal p plan h) where
  -- bad rounds of a still stretch are paid for
  bad_rounds_paid : BadRoundsPaid p plan h
  bad_rounds_paid first last opening bad stretch begins increasing each =
      restless_rounds_paid p plan h fits (move_obligations p meets) legal first last opening bad stretch begins increasing
      (λ k default there. let one = each k default there in (one.0, one.1, bad_is_restless p plan h fits meets legal (get_or bad k default) one.2))

  -- where no core is idle beside an overloaded one, none is so later
  stays_balanced : StaysBalanced p plan h
  stays_balanced first last k later stretch here there before balanced beside =
      balanced (beside_earlier p plan h fits (move_obligations p meets) legal first last here.opening stretch.still here.begins k later here.not_before before there.not_after beside)

  -- and none is so after as many rounds as half the first spread
  conserves_work : ConservesWorkAfter p plan h
  conserves_work first last opening rounds from k stretch begins enough ends behind there beside =
      rests_after p plan h fits (move_obligations p meets) legal first last opening rounds from k stretch begins (omega arith) ends behind there (restless_at p plan h fits meets legal k beside)

-- the law
pub still_rounds : StillRoundsLaw
still_rounds p plan h fits meets legal = record {
  bad_rounds_steal = bad_round_steals p plan h fits meets legal;
  steals_narrow = steals_narrow p plan h fits (move_obligations p meets) legal;
  others_keep = keeps_loads p plan h fits (move_obligations p meets) legal;
  bad_rounds_paid = bad_rounds_paid p plan h fits meets legal;
  stays_balanced = stays_balanced p plan h fits meets legal;
  conserves_work = conserves_work p plan h fits meets legal;
}
