use Rattle.std.proofs.Common.{ap, map}
use Rattle.policy_tree.specs.Meaning.{key_tree, meaning_of}
use Rattle.c_printer.specs.WideRules.{is_wide_key}
use Rattle.c_printer.proofs.WideLemmas.{any_as_trees}
use Rattle.c_printer.proofs.wide_rules.has_wide_key.Goals as goal

pub returns : goal.returns
returns c =
    any_as_trees (is_wide_key (meaning_of c.args.policy.now)) key_tree c.as_slice.result.now c.some_wide_key.ensures
    (ap (map key_tree) c.as_slice.ensures.items)
