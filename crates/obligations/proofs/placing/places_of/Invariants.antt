use Rattle.std.proofs.Common.{◌≡◌, ℕ, ◌<◌, ◌≤◌, get_or, length, vec_len}
use Rattle.obligations.specs.Marks.{kept_of}
use Rattle.obligations.specs.Systems.{kept_below, place_of}
use Rattle.obligations.proofs.placing.places_of.Given as goal

abbrev pub invariant-loop-variable : goal.invariant-loop-variable
invariant-loop-variable l = record {
  vars : l.vars.items ≡ kept_below (kept_of l.marks) l.variable;
  few : vec_len l.vars ≤ l.variable;
  each : (v : ℕ) → v < l.variable → get_or l.places v 0 ≡ place_of (kept_of l.marks) v;
  long : length l.places ≡ 30;
}
