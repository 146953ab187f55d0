-- What keeps a command from its answer.
use Rattle.std.specs.Prelude.{◌≡◌, ◌⊎◌, ℕ, List, Option}
use Rattle.sched_io.specs.Told.{Told, missing}
use Rattle.command_words.specs.Command.{Asked}
use Rattle.ipanema_cli.specs.Commands.{AskedFile, asked_files}
use Rattle.ipanema_cli.specs.Files.{IsTooLongOf, IsUnreadOf}
use Rattle.ipanema_cli.specs.Texts.{MayBeLong}
use Rattle.ipanema_cli.specs.declared.stop.Stop.{Stop}
use Rattle.ipanema_cli.specs.declared.stop.Stop.TheVariants as stop
use Rattle.ipanema_cli.specs.declared.texts.TextKind.{TextKind}

-- That is why the text in a file isn't loaded of which this is told.
abbrev pub IsUnloaded : TextKind → Told → Type 0 → Stop → Type 0
IsUnloaded which told fault stop.Unread = fault ⊎ (told ≡ missing)
IsUnloaded which told fault (stop.TooLong other) = (other ≡ which) × MayBeLong which told
IsUnloaded which told fault stop.Memory = Unit {0}

-- That is why not all of these files are read.
abbrev pub IsStopOf : List AskedFile → (List ℕ → Told) → Type 0 → Stop → Type 0
IsStopOf files told fault stop.Unread = IsUnreadOf told fault files
IsStopOf files told fault (stop.TooLong which) = IsTooLongOf which told files
IsStopOf files told fault stop.Memory = Unit {0}

-- A file of the command wasn't read: the outside failed, or that file is told to be missing and those before it are
-- read.
abbrev pub IsUnread : Option Asked → (List ℕ → Told) → Type 0 → Type 0
IsUnread asked told fault = IsUnreadOf told fault (asked_files asked)

-- That is why the command comes to no answer but that a text is too long.
abbrev pub IsStop : Option Asked → (List ℕ → Told) → Type 0 → Stop → Type 0
IsStop asked told fault why = IsStopOf (asked_files asked) told fault why
