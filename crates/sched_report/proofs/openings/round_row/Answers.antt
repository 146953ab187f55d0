-- The loads are those of the state.
use Rattle.std.proofs.Common.{◌≤◌, ℕ, All, ap, subst, sym, take, ◌∙◌}
use Rattle.sched_base.specs.declared.limits.TheConstants.{MAX_LOAD}
use Rattle.round_model.specs.Cores.{load_of}
use Rattle.sched_report.proofs.Fronts.{All-map}
use Rattle.sched_report.proofs.openings.round_row.Goals as goal

pub spread_of-requires-clause-small : goal.spread_of-requires-clause-small
spread_of-requires-clause-small c =
    let P : ℕ → Type 0 = λ load. load ≤ MAX_LOAD in
    subst (All P) (sym (ap (λ n. take n c.loads_of-loads.result) c.len.ensures ∙ c.loads_of-loads.ensures)) (All-map P load_of c.args.state.now c.requires.light)
