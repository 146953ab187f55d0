use Rattle.std.proofs.Common.{◌≡◌, List, map, max}
use Rattle.std.specs.List.{range_with_len}
use Rattle.policy_tree.specs.Meaning.{Meaning}
use Rattle.round_model.specs.declared.entry.Entry.{Entry}
use Rattle.round_model.specs.FreshReads.{touched_from}
use Rattle.round_model.specs.Reads.{round_start}
use Rattle.core_moves.specs.Cores.{AreCoresOf}
use Rattle.core_moves.proofs.cores.Cores.fresh_reads.Given as goal

-- the reads of the cores passed over
abbrev pub invariant-loop-core : goal.invariant-loop-core
invariant-loop-core l = (p : Meaning) (h : List Entry) → AreCoresOf p l.plan h l.self
    → l.reads ≡ map (λ c. max (round_start h) (touched_from c 0 0 h)) (range_with_len 0 l.core)
