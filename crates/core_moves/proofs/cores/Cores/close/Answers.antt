use Rattle.std.proofs.Common.{sym, ap, ◌∙◌, subst, arith}
use Rattle.std.proofs.lemmas.Option.{slice_get_within}
use Rattle.round_model.specs.After.{after}
use Rattle.round_model.proofs.Reaching.{touched_there}
use Rattle.core_state.specs.Logs.{LogsOf}
use Rattle.core_state.specs.Views.{ClosedView, CoreView}
use Rattle.core_moves.specs.Cores.{CoresView}
use Rattle.core_moves.proofs.Shown.{shown_at, shown_count}
use Rattle.core_moves.proofs.cores.Cores.close.Goals as goal

pub returns-clause-logs : goal.returns-clause-logs
returns-clause-logs c p plan h legal are =
    let v = c.args.self in let m = after p plan h in
    let same = c.new.ensures ∙ ap (λ (u : CoresView). let w : ClosedView = record { cores = u.cores; rounds = u.rounds } in w) c.self.view_is in
    subst (LogsOf h) (sym same) (record {
      cores = λ k y at.
          let inside = slice_get_within v.cores k y at in
          ap (λ (x : CoreView). x.log) (shown_at p plan h m v are k y (omega (arith, shown_count p plan h m v are)) at);
      rounds = are.rounds;
      there = λ i d inside k touched. let there = touched_there p plan h legal i d inside k touched in omega (arith, shown_count p plan h m v are);
    })
