use Rattle.std.proofs.Common.{◌≡◌, ◌≤◌, ℕ, List, length, refl, subst, sym, arith}
use Rattle.sched_base.specs.declared.limits.TheConstants.{MAX_ENTRIES}
use Rattle.round_model.specs.declared.entry.Entry.{Entry}
use Rattle.serial_steps.specs.SerialEnds.{EndsWhole, IsPlayed}
use Rattle.sched_history.specs.Ranges.{CanBePrinted}
use Rattle.sched_history.proofs.Printable.{legal_is_printable}
use Rattle.model_tests.specs.declared.batched.BatchRow.{BatchRow}
use Rattle.model_tests.specs.declared.batched.BatchRow.TheVariants as row
use Rattle.model_tests.specs.Batched.{plan_in, policy_in}
use Rattle.model_tests.proofs.BatchPolicies.{batch_fits, batch_within}
use Rattle.row_tests.proofs.batches.is_played.Goals as goal

-- the machine of each row has two cores
two_cores : (r : BatchRow) → (plan_in r).cores ≡ 2
two_cores row.SixThreads = refl
two_cores row.SevenThreads = refl
two_cores row.SixWeights = refl
two_cores row.ThreeWeights = refl

pub is_spelled-requires : goal.is_spelled-requires
is_spelled-requires c =
    let p = policy_in c.args.row c.args.limit in let plan = plan_in c.args.row in
    let ends : EndsWhole p plan _ = subst (IsPlayed p plan) c.in-Whole.is c.in_ok-played.ensures in
    let limits = batch_within c.args.row in
    let few : length c.in-Whole.history ≤ MAX_ENTRIES = let within = ends.few in let most = limits.few_entries in omega arith in
    let printable : CanBePrinted plan.cores _ = legal_is_printable p plan c.in-Whole.history (batch_fits c.args.row c.args.limit c.requires.some c.requires.few) limits ends.whole.legal few in
    subst (λ (entries : List Entry). CanBePrinted 2 entries) (sym c.as_slice.ensures.items) (subst (λ (cores : ℕ). CanBePrinted cores c.in-Whole.history) (two_cores c.args.row) printable)
