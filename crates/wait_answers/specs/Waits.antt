-- Which answer of `waits` a policy's text may get, and how it is written.
use Rattle.std.specs.Prelude.{◌≡◌, ℕ, List, ◌++◌, codes, Option, Some, None}
use Rattle.policy_tree.specs.Meaning.{Meaning}
use Rattle.obligations.specs.Counts.{first_crowded}
use Rattle.obligations.specs.Names.{ob_names}
use Rattle.policy_checker.specs.Certified.{IsCertified}
use Rattle.policy_reader.specs.Spelled.{SpellsPolicy}
use Rattle.policy_answers.specs.Bounds.{IsNoAcceptance}
use Rattle.policy_answers.specs.Checks.{IsCheckOf}
use Rattle.policy_answers.specs.Lines.{check_lines}
use Rattle.policy_answers.specs.Points.{attribute_name}
use Rattle.policy_answers.specs.TextLines.{lines_in}
use Rattle.starving_plays.specs.declared.coming_back.TheConstants.{WATCHED_FROM}
use Rattle.starving_plays.specs.declared.searching.Starving.{Starving}
use Rattle.starving_plays.specs.Searches.{IsFound}
use Rattle.starving_plays.specs.Traces.{numbered}
use Rattle.wait_classes.specs.declared.classes.WaitClass.{WaitClass}
use Rattle.wait_classes.specs.declared.classes.WaitClass.TheVariants as wait
use Rattle.wait_classes.specs.Classes.{class_of}
use Rattle.wait_answers.specs.declared.answering.WaitAnswer.{WaitAnswer}
use Rattle.wait_answers.specs.declared.answering.WaitAnswer.TheVariants as answer
use Rattle.wait_answers.specs.declared.answering.Waiting.{Waiting}

-- the words of a class: how often in a row a thread is kept at most, or the attribute whose least value is elected, by
-- the name that the policy gives to it
abbrev pub class_word : Meaning → WaitClass → List ℕ
class_word p wait.Queue = codes "queue\n"
class_word p (wait.Slices a keeps) = numbered (codes "slices ") keeps ++ codes "\n"
class_word p (wait.Least a) = codes "least " ++ (attribute_name p.thread_attrs a ++ codes "\n")
class_word p wait.Unknown = codes "unknown\n"

-- those of a thread that waits for ever: its number, and two rounds that begin with the core in the same state, the
-- thread not having run between
abbrev pub forever_line : Starving → List ℕ
forever_line starving =
    numbered (codes "forever thread ") starving.thread ++ (numbered (codes " rounds ") WATCHED_FROM
    ++ (numbered (codes " ") starving.round ++ codes "\n"))

-- what is written: behind the line of such a thread stands the trace
abbrev pub waits_text : Meaning → WaitClass → Option Starving → List ℕ
waits_text p class None = codes "waits " ++ class_word p class
waits_text p class (Some starving) = codes "waits " ++ (forever_line starving ++ starving.trace.items)

-- a starving trace is looked for where no law applies, and nowhere else
abbrev pub IsSearched : Meaning → WaitClass → Option Starving → Type 0
IsSearched p wait.Queue starving = starving ≡ None
IsSearched p (wait.Slices a keeps) starving = starving ≡ None
IsSearched p (wait.Least a) starving = starving ≡ None
IsSearched p wait.Unknown starving = IsFound p starving

-- that is told of waiting under the policy
pub record IsToldOfWaits (p : Meaning) (waiting : Waiting) : Type 0 where
  pub class : waiting.class ≡ class_of p
  pub searched : IsSearched p waiting.class waiting.starving
  pub text : waiting.text.items ≡ waits_text p waiting.class waiting.starving

-- the text spells a policy that is accepted, no obligation of which has too many cases, and that is told of it
pub record IsWaiting (text : List ℕ) (waiting : Waiting) : Type 0 where
  pub p : Meaning
  pub spells : SpellsPolicy text p
  pub few : first_crowded p ob_names ≡ None
  pub certified : IsCertified p
  pub told : IsToldOfWaits p waiting

-- that is the answer of `waits`
abbrev pub IsWaitOf : List ℕ → WaitAnswer → Type 0
IsWaitOf text (answer.Waits waiting) = IsWaiting text waiting
IsWaitOf text (answer.Unaccepted checked) = IsCheckOf text checked × IsNoAcceptance checked

-- the lines of `waits`
abbrev pub wait_lines : WaitAnswer → List (List ℕ)
wait_lines (answer.Waits waiting) = lines_in waiting.text.items
wait_lines (answer.Unaccepted checked) = check_lines checked
