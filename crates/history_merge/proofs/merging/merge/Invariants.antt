use Rattle.std.proofs.Common.{◌≡◌, ◌≤◌, List, take, vec_capacity, vec_len}
use Rattle.round_model.specs.declared.entry.Entry.{Entry}
use Rattle.core_state.specs.Logs.{LogsOf}
use Rattle.history_merge.specs.Cursors.{StandAt}
use Rattle.history_merge.proofs.merging.merge.Given as goal

-- the entries are those of the history up to here
abbrev pub invariant-loop-at : goal.invariant-loop-at
invariant-loop-at l = record {
  entries : (h : List Entry) → LogsOf h l.closed → l.entries.items ≡ take l.at h;
  stand : StandAt l.closed l.at l.cursors;
  len : vec_len l.entries ≡ l.at;
  room : l.count ≤ vec_capacity l.entries;
}
