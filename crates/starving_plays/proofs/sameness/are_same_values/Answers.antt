use Rattle.std.proofs.Common.{sym, ◌∙◌}
use Rattle.std.specs.Cmp.Rules.{signed_items}
use Rattle.starving_plays.proofs.sameness.are_same_values.Goals as goal

pub returns : goal.returns
returns c =
    let decides = signed_items c.args.one.now c.args.other.now in
    (λ yes. decides.0 (sym c.eq.ensures ∙ yes), λ same. c.eq.ensures ∙ decides.1 same)
