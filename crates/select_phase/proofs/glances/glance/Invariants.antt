use Rattle.std.proofs.Common.{◌≡◌, ℕ, ◌<◌, ◌≤◌, length, slice_index}
use Rattle.sched_base.specs.declared.limits.TheConstants.{MAX_CORES}
use Rattle.round_model.specs.Choices.{values_in}
use Rattle.round_model.specs.Reads.{values_of}
use Rattle.core_table.specs.Public.{IsOf, plan_of, view_of}
use Rattle.core_table.specs.Told.{Each, IsKnown}
use Rattle.select_phase.specs.Seen.{AreAll, AreLast, HasMoreNotes, HasRead}
use Rattle.select_phase.specs.Glances.{seen_in}
use Rattle.select_phase.proofs.glances.glance.Given as goal

-- the cores passed over were read
abbrev pub invariant-loop-core : goal.invariant-loop-core
invariant-loop-core l = record {
  of : IsOf l.table l.seat;
  more : HasMoreNotes (view_of l.initial.seat) (view_of l.seat);
  known : 1 ≤ l.core → IsKnown (view_of l.seat);
  long : length l.values ≡ MAX_CORES;
  one_each : length l.reads ≡ l.core;
  read : (c : ℕ) → c < l.core → HasRead (view_of l.seat) c (slice_index l.reads c) (seen_in l.values c);
  each : (c : ℕ) → c < l.core → values_in l.values c ≡ values_of (plan_of l.table) c (seen_in l.values c);
  late : Each (λ x. x.core < l.core → x.at ≤ slice_index l.reads x.core) (view_of l.initial.seat).notes;
  last : AreLast (view_of l.seat) l.reads;
  all : AreAll (view_of l.initial.seat) (view_of l.seat) l.reads;
}
