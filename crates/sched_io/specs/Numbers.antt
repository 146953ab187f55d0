-- The numbers that clauses name, said a second time, so that none is changed by a slip.
use Rattle.std.specs.Prelude.{◌≡◌, ◌+◌, ◌^◌}
use Rattle.sched_io.specs.declared.faults.TheConstants.{MOST_FAULTS}
use Rattle.sched_io.specs.declared.lines.TheConstants.{LINE_ROOM, NUMBER_ROOM}

-- each is this number
pub record NumbersAreSaid : Type 0 where
  pub faults : MOST_FAULTS + 1 ≡ 2 ^ 64
  pub line : LINE_ROOM ≡ 512
  pub number : NUMBER_ROOM ≡ 20
