use Rattle.std.proofs.Common.{refl}
use Rattle.level_tests.proofs.rows.compiled_parts.Goals as goal

pub returns : goal.returns
returns c = record { one_filter = refl; one_order = refl; two_filters = refl; two_orders = refl; three_filters = refl; three_orders = refl; comparisons = refl }
