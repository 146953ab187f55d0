-- Lines that are put behind others.
use Rattle.std.proofs.Common.{◌++◌, List, ℕ, Result, Ok, Err}
use Rattle.sched_io.proofs.PutsLemmas.{puts_both, stops_later}
use Rattle.sched_io.specs.Puts.{Puts, WritesAll}
use Rattle.sched_io.specs.Shown.{Shown}

pub puts_then : {T E : Type 0} (a b : List (List ℕ)) (result : Result T E) (x y z : Shown) → WritesAll a x y → Puts b result y z → Puts (a ++ b) result x z
puts_then a b (Ok v) x y z first second = puts_both a b x y z first second
puts_then a b (Err v) x y z first second = stops_later a b x y z first second
