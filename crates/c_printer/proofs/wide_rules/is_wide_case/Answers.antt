use Rattle.std.proofs.Common.{ap, map, sym}
use Rattle.policy_tree.specs.Meaning.{set_tree, meaning_of}
use Rattle.c_printer.specs.WideRules.{is_wide_set}
use Rattle.c_printer.proofs.WideLemmas.{any_as_trees}
use Rattle.c_printer.proofs.wide_rules.is_wide_case.Goals as goal

pub returns-else-has_wide_test : goal.returns-else-has_wide_test
returns-else-has_wide_test c =
    let sets = any_as_trees (is_wide_set (meaning_of c.args.policy.now)) set_tree c.as_slice.result.now c.some_wide_set.ensures
    (ap (map set_tree) c.as_slice.ensures.items) in
    rw (sym c.has_wide_test.ensures, c.if-has_wide_test.false) sets
