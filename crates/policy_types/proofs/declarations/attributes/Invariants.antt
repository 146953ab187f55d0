-- The attributes that are left, behind those so far, declare the same and break the same rules.
use Rattle.std.proofs.Common.{◌≡◌, ◌≤◌, drop, length}
use Rattle.policy_types.specs.Declarations.{attrs_faults, nothing_declared, scope_after}
use Rattle.policy_types.proofs.declarations.attributes.Given as goal

abbrev pub invariant-loop-attr : goal.invariant-loop-attr
invariant-loop-attr l = record {
  scope : scope_after (record { cores = l.cores; threads = l.threads }) (drop l.attr-index l.attrs) ≡ scope_after nothing_declared l.attrs;
  faults : attrs_faults (record { cores = l.cores; threads = l.threads }) (drop l.attr-index l.attrs) ≡ attrs_faults nothing_declared l.attrs;
  cores : length l.cores ≤ l.attr-index;
  threads : length l.threads ≤ l.attr-index;
}
