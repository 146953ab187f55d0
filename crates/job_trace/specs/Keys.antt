-- What a key of the set of what was given stands for. The public contracts speak of it nowhere.
use Rattle.std.specs.Prelude.{ℕ, List}
use Rattle.std.specs.Borrow.{Bor}
use Rattle.std.specs.declared.vec.Vec.{Vec}
use Rattle.std.specs.declared.alloc.Global.{Global}
use Rattle.job_trace.specs.Rules.{Gift, gift}

-- a key as it is kept: the word is borrowed, the name is owned
abbrev pub Key : Type 0
Key = Bor (List ℕ) × ℕ × Vec ℕ Global

abbrev pub gift_of_key : Key → Gift
gift_of_key key = gift key.0.now key.1 key.2.items
