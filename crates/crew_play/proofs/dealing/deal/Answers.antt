use Rattle.std.proofs.Common.{◌≡◌, suc, ◌+◌, ◌<◌, length, Some, refl, sym, ap, ◌∙◌, subst, arith}
use Rattle.round_model.specs.declared.plan.Plan.{Plan}
use Rattle.core_table.specs.declared.views.View.{View}
use Rattle.core_table.specs.Public.{plan_of, view_of}
use Rattle.core_table.specs.Views.{leaving}
use Rattle.parallel_play.specs.Stages.{table_in}
use Rattle.turn_steps.specs.States.{first_state}
use Rattle.crew_play.specs.declared.hands.Hand.{Hand}
use Rattle.crew_play.specs.Hands.{IsCrew, IsHandOf, Nobody, dealt}
use Rattle.crew_play.proofs.Handing.{fresh_hand}
use Rattle.crew_play.proofs.Places.{holds_more}
use Rattle.crew_play.proofs.dealing.deal.Goals as goal

pub loop-core-preserved : goal.loop-core-preserved
loop-core-preserved c =
    let i = c.loop-core.invariant in let s = c.split_off-left.ensures in let pushed = c.push_reserved.ensures in let stage = c.args.stage.now in let table = table_in stage in let first = c.args.first in let core = c.loop-core.core in
    let hands = c.loop-core.hands.items in let hand : Hand = record { seat = Some c.split_off-left.result.1; turning = c.new.result } in
    let low : core < (plan_of table).cores = let below = c.loop-core-test.true in let within = c.requires.cores.1 in omega arith in
    let is = fresh_hand table core stage.round c.split_off-left.result.1 hand refl (c.new.ensures ∙ ap (λ (q : Plan). first_state q core stage.round) stage.of) s.right.0 s.right.1 (i.round ∙ sym s.round) low in
    record {
      seat = s.left.0;
      view = s.left.1.view ∙ (ap (leaving core) i.view ∙ (ap (λ k. leaving k (dealt first (length hands) (view_of c.args.seat))) (sym i.len)
          ∙ ap (λ k. dealt first k (view_of c.args.seat)) (let long = pushed.len in let more : suc (length hands) ≡ length c.push_reserved.new.self.items = omega arith in more)));
      idle = s.left.1.idle;
      round = i.round ∙ sym (ap (λ (u : View). u.round) s.left.1.view);
      crew = subst (IsCrew table Nobody stage.round first) (sym pushed.items)
          (holds_more (λ k h. IsHandOf table Nobody (first + k) stage.round h) hands hand i.crew (subst (λ k. IsHandOf table Nobody k stage.round hand) (sym i.len) is));
      len = let long = pushed.len in let count = i.len in omega arith;
      capacity = pushed.capacity ∙ i.capacity;
    }
