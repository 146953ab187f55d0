-- Reads that are made just now: what serial play reads.
use Rattle.std.specs.Prelude.{ℕ, suc, max, cond, List, [], ◌∷◌, map}
use Rattle.policy_tree.specs.Meaning.{PlaceTree, here, least}
use Rattle.round_model.specs.declared.entry.Entry.{Entry}
use Rattle.round_model.specs.declared.plan.Plan.{Plan}
use Rattle.round_model.specs.Cores.{core_numbers}
use Rattle.round_model.specs.Entries.{touches}
use Rattle.round_model.specs.Scenes.{Scene}

-- one past the last of these entries that touches the core, the first of them standing at k
abbrev pub touched_from : ℕ → ℕ → ℕ → List Entry → ℕ
touched_from c k last [] = last
touched_from c k last (e ∷ es) = touched_from c (suc k) (cond (touches c e) (suc k) last) es

-- what a core that looks just now reads: of each core the position after the last entry that touches it, or the
-- round's start where that is later
abbrev pub fresh_reads : Plan → List Entry → Scene → List ℕ
fresh_reads plan history s = map (λ c. max s.start (touched_from c 0 0 history)) (core_numbers plan)

-- the reads of a placement
abbrev pub placement_reads : PlaceTree → Plan → List Entry → Scene → List ℕ
placement_reads here plan history s = []
placement_reads (least e) plan history s = fresh_reads plan history s
