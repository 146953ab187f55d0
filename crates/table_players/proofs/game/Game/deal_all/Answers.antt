use Rattle.std.proofs.Common.{◌≡◌, subst, sym, arith}
use Rattle.std.proofs.lemmas.Grind.{common_steps}
use Rattle.core_table.specs.Public.{plan_of}
use Rattle.table_players.specs.Games.{IsTaking, Plays}
use Rattle.table_players.proofs.Dealing.{dealt}
use Rattle.table_players.proofs.Pushing.{each_pushed}
use Rattle.table_players.proofs.game.Game.deal_all.Goals as goal

pub loop-core-preserved : goal.loop-core-preserved
loop-core-preserved c = record {
  count = grind (arith, common_steps);
  dealing = c.deal.ensures.seat;
  all = each_pushed (Plays c.args.self.now.table.now) c.loop-core.players.items c.push.new.self.items c.deal.result c.in_ok-push.ensures.items c.loop-core.invariant.all
      (subst (λ k. Plays c.args.self.now.table.now k c.deal.result) (sym c.loop-core.invariant.count) c.deal.ensures.player);
}

pub returns-clause-seat : goal.returns-clause-seat
returns-clause-seat c =
    let t = c.args.self.now.table.now in
    let all : c.loop-core.core ≡ (plan_of t).cores = let past = c.loop-core-test.false in let end = c.loop-core.auto.core-end in let cores = c.cores-core-end.ensures in omega arith in
    subst (IsTaking t c.loop-core.seat) (sym c.loop-core.invariant.count) (dealt t c.loop-core.seat c.loop-core.core c.loop-core.invariant.dealing all)
