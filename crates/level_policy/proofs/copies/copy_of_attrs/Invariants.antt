-- The attributes so far are those of the copy.
use Rattle.std.proofs.Common.{◌≡◌, take, vec_len}
use Rattle.level_policy.proofs.copies.copy_of_attrs.Given as goal

abbrev pub invariant-loop-attr : goal.invariant-loop-attr
invariant-loop-attr l = record {
  same : l.copy.items ≡ take l.attr-index l.attrs;
  len : vec_len l.copy ≡ l.attr-index;
}
