-- The order of the steps of a turn, by what is left of it.
use Rattle.std.specs.Prelude.{ℕ, Bool, true, false, Option, Some, None}
use Rattle.serial_steps.specs.declared.order.NextInTurn.{NextInTurn}
use Rattle.serial_steps.specs.declared.order.NextInTurn.TheVariants as next

-- where no thread is left to enter or to wake
abbrev pub late_in_order : {W L : Type 0} → (worked attempted : Bool) → Option L → NextInTurn W L
late_in_order worked true look = next.Over
late_in_order false false look = next.Work
late_in_order true false None = next.Look
late_in_order true false (Some look) = next.Attempt look

-- by the threads that are next to enter and to wake, what has been done, and the look that was kept
abbrev pub in_order : {W L : Type 0} → (entering : Option ℕ) → (waking : Option W) → (worked attempted : Bool) →
    Option L → NextInTurn W L
in_order (Some thread) waking worked attempted look = next.Enter thread
in_order None (Some woken) worked attempted look = next.Wake woken
in_order None None worked attempted look = late_in_order worked attempted look
