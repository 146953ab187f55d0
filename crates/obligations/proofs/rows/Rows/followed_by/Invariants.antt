use Rattle.std.proofs.Common.{◌≡◌, ◌++◌, take}
use Rattle.obligations.proofs.rows.Rows.followed_by.Given as goal

abbrev pub invariant-loop-row : goal.invariant-loop-row
invariant-loop-row l = l.self ≡ l.initial.self ++ take l.row-index l.more
