-- The keys so far are read, and those that are left break the same rules.
use Rattle.std.proofs.Common.{◌≡◌, drop, map, take, vec_len}
use Rattle.policy_tree.specs.Meaning.{order_tree}
use Rattle.policy_syntax.specs.SyntaxTrees.{key_syntax_tree}
use Rattle.policy_types.specs.Conditions.{key_meaning, keys_faults}
use Rattle.policy_types.proofs.scope.Scope.order.Given as goal

abbrev pub invariant-loop-key : goal.invariant-loop-key
invariant-loop-key l = record {
  same : order_tree l.keys.items ≡ map (key_meaning l.self) (map key_syntax_tree (take l.key-index l.read));
  len : vec_len l.keys ≡ l.key-index;
  faults : keys_faults l.self l.fn.site (map key_syntax_tree (drop l.key-index l.read)) ≡ keys_faults l.self l.fn.site (map key_syntax_tree l.read);
}
