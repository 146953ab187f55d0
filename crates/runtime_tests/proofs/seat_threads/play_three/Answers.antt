use Rattle.std.proofs.Common.{◌≡◌, ◌+◌, ap, sym, subst}
use Rattle.table_players.specs.Games.{IsTaking}
use Rattle.table_players.proofs.Dealing.{dealt}
use Rattle.runtime_tests.proofs.seat_threads.play_three.Goals as goal

pub take_back-requires-clause-seat : goal.take_back-requires-clause-seat
take_back-requires-clause-seat g c =
    let t = c.args.game.now.table.now in let s = c.deal-third.new.seat in
    let last : c.over.result.core + 1 ≡ 3 = ap (λ n. n + 1) c.over.ensures.core in
    subst (IsTaking t s) (sym last) (dealt t s 3 c.deal-third.ensures.seat (sym c.requires.three))
