use Rattle.std.proofs.Common.{◌++◌, codes, ap, ◌∙◌, arith}
use Rattle.starving_plays.specs.Traces.{numbered}
use Rattle.starving_plays.proofs.Founds.{glued}
use Rattle.starving_plays.proofs.traces.add_thread.Goals as goal

pub returns-clause-line : goal.returns-clause-line
returns-clause-line c =
    c.in_ok-extend_from_slice.ensures.items
    ∙ (ap (λ x. x ++ codes " forever\n") (c.in_ok-add_numbered-2.ensures.words ∙ ap (λ x. x ++ numbered (codes " core 0 round 1 weight ") c.args.weight) c.in_ok-add_numbered.ensures.words)
    ∙ glued c.args.text.now.items (numbered (codes "thread ") c.args.thread) (numbered (codes " core 0 round 1 weight ") c.args.weight) (codes " forever\n"))
