-- The loads of the list are those of the cores.
use Rattle.std.proofs.Common.{ap, ap₂, cond, sym, Bool, ℕ, Option, None, Some, ◌∙◌}
use Rattle.sched_report.specs.Rests.{gap_at_rest, width_of}
use Rattle.sched_report.proofs.Scans.{loads_listed}
use Rattle.sched_report.proofs.resting.gap_at_rest.Goals as goal

pub returns : goal.returns
unfolding gap_at_rest
returns c =
    let rest_if : Bool → ℕ → Option ℕ = λ b n. cond b None (Some n) in
    ap₂ rest_if (sym c.if-is_restless.false ∙ c.is_restless.ensures)
    (c.width_of.ensures ∙ ap width_of (c.requires.loads ∙ loads_listed c.args.plan.now c.args.state.now c.requires.cores.0))
