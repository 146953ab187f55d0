-- What a source of files tells of a name, before anything is loaded.
use Rattle.std.specs.Prelude.{◌≡◌, ◌≢◌, ℕ, List}

pub data Told : Type 0 where
  -- not even whether it is there
  untold : Told
  -- that no file has this name
  missing : Told
  -- that a file has this name, and not what it holds
  named : Told
  -- the bytes that the file holds
  holds : List ℕ → Told

-- where the file's bytes are told, they are so
abbrev pub IfHolds : Told → (List ℕ → Type 0) → Type 0
IfHolds told P = (bytes : List ℕ) → told ≡ holds bytes → P bytes

-- a text that may be the file's: the file's own where it is told
pub record MayHold (told : Told) (text : List ℕ) : Type 0 where
  pub there : told ≢ missing
  pub same : IfHolds told (λ bytes. text ≡ bytes)
