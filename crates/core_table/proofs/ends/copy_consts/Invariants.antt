use Rattle.std.proofs.Common.{◌≡◌, ◌≤◌, length, take}
use Rattle.std.specs.Prelude.{vec_capacity, vec_len}
use Rattle.core_table.proofs.ends.copy_consts.Given as goal

-- the constants passed over, and room for the others
abbrev pub invariant-loop-each : goal.invariant-loop-each
invariant-loop-each l = record { copied : l.copies.items ≡ take l.each-index l.consts; few : vec_len l.copies ≤ l.each-index; room : length l.consts ≤ vec_capacity l.copies }
