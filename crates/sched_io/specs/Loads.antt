-- The loads that were requested of a source of files.
use Rattle.std.specs.Prelude.{ℕ, List, Option}
use Rattle.sched_io.specs.Written.{Grows}

-- a load of the file of that name, with room for so many bytes
pub record LoadRequest : Type 0 where
  pub name : List ℕ
  pub limit : ℕ

abbrev pub load_request : List ℕ → ℕ → LoadRequest
load_request name limit = record { name = name; limit = limit }

-- these loads were made after those that the source told of
abbrev pub AreRequested : List LoadRequest → Option (List LoadRequest) → Option (List LoadRequest) → Type 0
AreRequested requests before after = Grows requests before after
