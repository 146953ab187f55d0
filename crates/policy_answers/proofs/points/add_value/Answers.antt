-- A blank, the name, an equals sign and the value.
use Rattle.std.proofs.Common.{ap, to_z-of_z, ◌∙◌}
use Rattle.std.specs.Fmt.{signed_decimal}
use Rattle.policy_tree.specs.Meaning.{meaning_of}
use Rattle.policy_answers.specs.Points.{variable_text}
use Rattle.policy_answers.proofs.Texts.{glued}
use Rattle.policy_answers.proofs.points.add_value.Goals as goal

pub returns : goal.returns
returns c =
    let digits = c.as_bytes.ensures.value ∙ c.format.ensures.text ∙ ap signed_decimal (to_z-of_z c.ranges.value) in
    rw (c.in_ok-extend_from_slice-3.ensures.items, digits, c.in_ok-extend_from_slice-2.ensures.items, c.in_ok-add_variable.ensures, c.in_ok-extend_from_slice.ensures.items)
    (glued c.args.line.now.items (variable_text (meaning_of c.args.policy.now) c.args.variable) (signed_decimal c.args.value))
