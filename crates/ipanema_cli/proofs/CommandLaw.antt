-- What is proved of each command by itself: from this its causes and its truth follow, for all commands at once.
use Rattle.std.proofs.Common.{◌≡◌, ◌⊎◌, inl, inr, ℕ, List, [], ◌∷◌, Option, subst, sym}
use Rattle.sched_io.specs.Told.{Told}
use Rattle.sched_io.specs.Written.{Adds}
use Rattle.trace_run.specs.Runs.{IsGatedRunOf, IsRunOf}
use Rattle.command_words.specs.Command.{Asked}
use Rattle.ipanema_cli.specs.Answers.{output_of, status_of}
use Rattle.ipanema_cli.specs.Causes.{OneOf, SaysCrowded}
use Rattle.ipanema_cli.specs.Commands.{AskedFile, asked_files, statuses_of}
use Rattle.ipanema_cli.specs.Files.{AreRead, IsTooLongOf}
use Rattle.ipanema_cli.specs.Replies.{IsGiven, Replies}
use Rattle.ipanema_cli.specs.Status.{code_of}
use Rattle.ipanema_cli.specs.Truths.{IsTruthful}
use Rattle.ipanema_cli.specs.declared.answers.Answer.{Answer}
use Rattle.ipanema_cli.specs.declared.texts.TextKind.{TextKind}
use Rattle.ipanema_cli.proofs.Stopped.{Stopped}

-- the answer's status is one of the command's
abbrev pub Known : Option Asked → Answer → Type 0
Known asked a = OneOf (statuses_of asked) (code_of (status_of a))

-- where its number is 10, it says that an obligation has too many cases
abbrev pub Crowds : Option Asked → (List ℕ → Told) → (before after : Option (List ℕ)) → Answer → Type 0
Crowds asked told before after a =
    code_of (status_of a) ≡ 10 → Adds (output_of a) before after → SaysCrowded asked told before after

-- where it is written whole, that is so
abbrev pub Shows : Type 0 → (before after : Option (List ℕ)) → ℕ → Answer → Type 0
Shows Truth before after code a = code ≡ code_of (status_of a) → Adds (output_of a) before after → Truth

-- there is a file
abbrev pub IsSome : List AskedFile → Type 0
IsSome [] = ⊥
IsSome (file ∷ files) = Unit {0}

pub record CommandLaw (Passed : ℕ → ℕ → Type 0) (asked : Option Asked) : Type 0 where
  pub known : (text : TextKind → List ℕ) (a : Answer) → Replies IsRunOf asked text a → Known asked a
  pub crowds : (told : List ℕ → Told) (text : TextKind → List ℕ) (before after : Option (List ℕ)) (a : Answer) →
      AreRead told text (asked_files asked) → Replies IsRunOf asked text a → Crowds asked told before after a
  -- what it answers is true
  pub shows : (told : List ℕ → Told) (text : TextKind → List ℕ) (before after : Option (List ℕ)) (code : ℕ) (a : Answer) →
      AreRead told text (asked_files asked) → Replies (IsGatedRunOf Passed) asked text a →
      Shows (IsTruthful Passed asked told before after code) before after code a
  -- what it says of files of which one is too long is true
  pub long : (told : List ℕ → Told) (before after : Option (List ℕ)) (code : ℕ) (which : TextKind) →
      IsTooLongOf which told (asked_files asked) → code ≡ 10 → IsTruthful Passed asked told before after code
  -- a stop says nothing, and no file is unread where the command has none
  pub stopped : (told : List ℕ → Told) (before after : Option (List ℕ)) (code : ℕ) → Stopped code →
      (code ≡ 4 → IsSome (asked_files asked)) → IsTruthful Passed asked told before after code

-- what holds of each answer of a kind holds of what is given
pub given : {X : Type 0} → (kind_of : X → Answer) (Is : X → Type 0) (P : Answer → Type 0) → ((x : X) → Is x → P (kind_of x)) → (a : Answer) → IsGiven kind_of Is a → P a
given kind_of Is P each a (x, same, is) = subst P (sym same) (each x is)

-- and so of what is given of two kinds
pub given_either : {X Y : Type 0} → (first : X → Answer) (second : Y → Answer) (Is : X → Type 0) (Are : Y → Type 0) (P : Answer → Type 0) → ((x : X) → Is x → P (first x))
    → ((y : Y) → Are y → P (second y)) → (a : Answer) → IsGiven first Is a ⊎ IsGiven second Are a → P a
given_either first second Is Are P each other a (inl is) = given first Is P each a is
given_either first second Is Are P each other a (inr is) = given second Are P other a is
