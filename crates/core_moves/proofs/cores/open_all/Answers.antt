use Rattle.std.proofs.Common.{ap₂, ◌∙◌, sym, [], ◌∷◌, ◌++◌, List, arith}
use Rattle.std.proofs.lemmas.List.FromFn.{map-range_with_len_more}
use Rattle.policy_tree.specs.Meaning.{meaning_of}
use Rattle.round_model.specs.After.{after_from}
use Rattle.core_state.specs.Views.{CoreView}
use Rattle.core_moves.specs.Cores.{core_view}
use Rattle.core_moves.proofs.cores.open_all.Goals as goal

pub loop-core-preserved : goal.loop-core-preserved
unfolding after_from
loop-core-preserved c =
    let core = c.loop-core.core in
    record {
      items = c.push_reserved.ensures.items
          ∙ (ap₂ (λ (cores : List CoreView) (y : CoreView). cores ++ y ∷ []) c.loop-core.invariant.items c.in_ok-open.ensures
          ∙ sym (map-range_with_len_more (core_view (meaning_of c.args.policy.now) c.args.plan.now []) 0 core core (omega arith)));
      len = omega arith;
      room = c.push_reserved.ensures.capacity ∙ c.loop-core.invariant.room;
    }
