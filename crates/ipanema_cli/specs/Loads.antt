-- Which loads a command makes.
use Rattle.std.specs.Prelude.{ℕ, zero, suc, ◌<◌, List, [], ◌∷◌, Option, map, take}
use Rattle.sched_io.specs.Loads.{AreRequested, LoadRequest, load_request}
use Rattle.sched_io.specs.Told.{Told}
use Rattle.command_words.specs.Command.{Asked}
use Rattle.ipanema_cli.specs.Commands.{AskedFile, asked_files}
use Rattle.ipanema_cli.specs.Files.{IsReadable}
use Rattle.ipanema_cli.specs.Texts.{room_of}

-- the load of a file, with the most bytes that it may have
abbrev pub load_of : AskedFile → LoadRequest
load_of file = load_request file.name (room_of file.which)

-- the loads of a command's files
abbrev pub files_of : Option Asked → List LoadRequest
files_of asked = map load_of (asked_files asked)

-- Of so many of these files each but the last may hold a text that isn't too long: behind one that is told to be
-- missing or too long none is loaded.
abbrev pub GoesOn : (List ℕ → Told) → List AskedFile → ℕ → Type 0
GoesOn told [] count = Unit {0}
GoesOn told (file ∷ files) zero = Unit {0}
GoesOn told (file ∷ files) (suc count) = (0 < count → IsReadable told file) × GoesOn told files count

-- Just the first of these files are loaded, each once and with its limit, where the source tells of its loads.
pub record FirstOfThem (files : List AskedFile) (told : List ℕ → Told) (before after : Option (List LoadRequest)) :
    Type 0 where
  pub count : ℕ
  pub loaded : AreRequested (take count (map load_of files)) before after
  pub goes_on : GoesOn told files count

-- Just the first of the command's files are.
abbrev pub FirstAreLoaded : Option Asked → (List ℕ → Told) → (before after : Option (List LoadRequest)) → Type 0
FirstAreLoaded asked told before after = FirstOfThem (asked_files asked) told before after
