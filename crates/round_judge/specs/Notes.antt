-- What is to be seen of the cores after an entry.
use Rattle.std.specs.Prelude.{◌≡◌, ℕ, cond, List, Some, slice_get, slice_index_or}
use Rattle.round_model.specs.declared.entry.Entry.{Entry}
use Rattle.round_model.specs.declared.state.CountAndLoad.{CountAndLoad}
use Rattle.round_model.specs.declared.state.ModelCore.{ModelCore}
use Rattle.round_model.specs.Cores.{seen_of}
use Rattle.round_model.specs.Entries.{touches}

-- what a row says of a core
abbrev pub seen_at : List CountAndLoad → ℕ → CountAndLoad
seen_at row c = slice_index_or row c (record { nr = 0; load = 0 })

-- the row has the cores that the entry touches as they are in the state, and the others as the row before has them
abbrev pub IsLook : List CountAndLoad → List ModelCore → Entry → List CountAndLoad → Type 0
IsLook before state e row = (c : ℕ) (core : ModelCore) → slice_get state c ≡ Some core →
    seen_at row c ≡ cond (touches c e) (seen_of core) (seen_at before c)
