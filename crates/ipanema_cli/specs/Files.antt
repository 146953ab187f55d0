-- What is read of the files of a command.
use Rattle.std.specs.Prelude.{◌≡◌, ◌⊎◌, ℕ, List, [], ◌∷◌, ◌++◌, Option, Some, None}
use Rattle.std.specs.Borrow.{Bor}
use Rattle.sched_io.specs.Told.{Told, missing}
use Rattle.command_words.specs.Command.{Asked}
use Rattle.ipanema_cli.specs.Commands.{AskedFile, asked_files, file_of}
use Rattle.ipanema_cli.specs.Texts.{MayBeLong, MayRead}
use Rattle.ipanema_cli.specs.declared.files.FileNames.{FileNames}
use Rattle.ipanema_cli.specs.declared.texts.TextKind.{TextKind}
use Rattle.ipanema_cli.specs.declared.texts.TextKind.TheVariants as kind

-- one of these files is of such a text, and has that name
abbrev pub IsAmong : TextKind → List ℕ → List AskedFile → Type 0
IsAmong which name [] = ⊥
IsAmong which name (file ∷ files) = ((which ≡ file.which) × (name ≡ file.name)) ⊎ IsAmong which name files

-- the command loads such a text from the file of that name
abbrev pub IsFileOf : Option Asked → TextKind → List ℕ → Type 0
IsFileOf asked which name = IsAmong which name (asked_files asked)

-- the file may hold a text that isn't too long
abbrev pub IsReadable : (List ℕ → Told) → AskedFile → Type 0
IsReadable told file = (text : List ℕ) × MayRead file.which (told file.name) text

-- These files may hold these texts, one for each kind, and none is too long.
abbrev pub AreRead : (List ℕ → Told) → (TextKind → List ℕ) → List AskedFile → Type 0
AreRead told text [] = Unit {0}
AreRead told text (file ∷ files) = MayRead file.which (told file.name) (text file.which) × AreRead told text files

-- That is so of one of these files, and each before it may hold a text that isn't too long.
abbrev pub StopsAt : (TextKind → Told → Type 0) → (List ℕ → Told) → List AskedFile → Type 0
StopsAt Stops told [] = ⊥
StopsAt Stops told (file ∷ files) =
    Stops file.which (told file.name) ⊎ (IsReadable told file × StopsAt Stops told files)

-- One of these files wasn't read: the outside failed, or it is told to be missing, and those before it are read.
abbrev pub IsUnreadOf : (List ℕ → Told) → Type 0 → List AskedFile → Type 0
IsUnreadOf told fault files = StopsAt (λ which file. fault ⊎ (file ≡ missing)) told files

-- One of these files may hold a text of that kind that is too long, and those before it are read.
abbrev pub IsTooLongOf : TextKind → (List ℕ → Told) → List AskedFile → Type 0
IsTooLongOf long told files = StopsAt (λ which file. (long ≡ which) × MayBeLong which file) told files

-- the file of such a text that is named, if there is one
abbrev pub file_named : TextKind → Option (Bor (List ℕ)) → List AskedFile
file_named which None = []
file_named which (Some name) = file_of which name.now ∷ []

-- the files that are named, in the order in which they are loaded
abbrev pub files_named : FileNames → List AskedFile
files_named names = file_named kind.Policy names.policy ++ (file_named kind.Trace names.trace
    ++ (file_named kind.History names.history ++ file_named kind.Certificates names.certificates))
