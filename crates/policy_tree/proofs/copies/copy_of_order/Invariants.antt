-- The keys so far are those of the copy.
use Rattle.std.proofs.Common.{◌≡◌, take, vec_len}
use Rattle.policy_tree.specs.Meaning.{order_tree}
use Rattle.policy_tree.proofs.copies.copy_of_order.Given as goal

abbrev pub invariant-loop-key : goal.invariant-loop-key
invariant-loop-key l = record {
  same : order_tree l.copy.items ≡ order_tree (take l.key-index l.keys);
  len : vec_len l.copy ≡ l.key-index;
}
