use Rattle.std.proofs.Common.{ap, map, ◌∙◌}
use Rattle.policy_tree.specs.Meaning.{case_tree, meaning_of}
use Rattle.c_printer.specs.WideRules.{is_wide_case}
use Rattle.c_printer.proofs.WideLemmas.{any_as_trees}
use Rattle.c_printer.proofs.wide_rules.is_wide_event.Goals as goal

pub returns : goal.returns
returns c =
    any_as_trees (is_wide_case (meaning_of c.args.policy.now)) case_tree c.as_slice.result.now c.some_wide_case.ensures
    (ap (map case_tree) c.as_slice.ensures.items ∙ c.cases.ensures)
