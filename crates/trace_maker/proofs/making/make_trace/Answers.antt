use Rattle.std.proofs.Common.{◌∙◌, List, arith, subst, sym}
use Rattle.job_trace.specs.declared.trace.Numbered.{Numbered}
use Rattle.job_trace.specs.Rules.{KeepsRules}
use Rattle.trace_maker.proofs.MadeLemmas.{made-keeps}
use Rattle.trace_maker.proofs.making.make_trace.Goals as goal

pub from_lines-requires : goal.from_lines-requires
from_lines-requires c =
    subst (λ (lines : List Numbered). KeepsRules lines) (sym (c.from_vec.ensures ∙ c.loop-done.invariant.lines))
    (made-keeps c.args.seed c.loop-done.done (omega arith))
