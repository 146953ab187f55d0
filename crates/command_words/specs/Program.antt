-- How `clap` is told of the commands, and what is read from what it finds. No contract of a public call speaks of this.
use Rattle.std.specs.Prelude.{List, [], ◌∷◌, ◌++◌, Option, Some, None, codes, if◌then◌else◌, map}
use Rattle.std.specs.Prelude.{option_and_then, option_map}
use Rattle.std.specs.Prelude.{true, false, unwrap_or}
use Rattle.std.specs.Str.{bytes_eq}
use Rattle.clap.specs.Words.{App, Row, Rule, Shape, Text, first_of, new_rule, with_subcommand}
use Rattle.clap.specs.Simple.{new_shape}
use Rattle.clap.specs.declared.builder.ArgAction.TheVariants.{Set}
use Rattle.command_words.specs.Command.{Asked, benched_by, bound, check, crewed_by, draft, emit, explain}
use Rattle.command_words.specs.Command.{made_by, migrate, name_of, play, prove, replay, report, rest, run, simulate}
use Rattle.command_words.specs.Command.{tell_why, verify, waits, waste}

-- a word that has to be there
abbrev pub wanted : Text → Rule
wanted id = record (new_rule id) { required = true; action = Some Set }

-- a command: its verb, and the words that it wants behind it
abbrev pub command_of : Text → List Text → Shape
command_of verb ids = record (new_shape verb) { rules = map wanted ids }

-- the program with no command so far: it has no help and no version, and wants a command
abbrev pub no_commands : App
no_commands = record {
  top = record (new_shape (codes "ipanema")) {
    no_binary_name = true;
    disable_help_flag = true;
    disable_help_subcommand = true;
    disable_version_flag = true;
    subcommand_required = true;
  };
  subs = [];
}

-- the commands on a policy
abbrev pub policy_commands : List Shape
policy_commands =
    command_of (codes "check") (codes "POLICY" ∷ [])
    ∷ command_of (codes "prove") (codes "POLICY" ∷ [])
    ∷ command_of (codes "bound") (codes "POLICY" ∷ [])
    ∷ command_of (codes "rest") (codes "POLICY" ∷ [])
    ∷ command_of (codes "waits") (codes "POLICY" ∷ [])
    ∷ command_of (codes "emit") (codes "POLICY" ∷ [])
    ∷ command_of (codes "draft") (codes "POLICY" ∷ [])
    ∷ command_of (codes "explain") (codes "POLICY" ∷ codes "NAME" ∷ [])
    ∷ command_of (codes "verify") (codes "POLICY" ∷ codes "CERTS" ∷ [])
    ∷ []

-- those on a policy and a trace
abbrev pub trace_commands : List Shape
trace_commands =
    command_of (codes "play") (codes "POLICY" ∷ codes "TRACE" ∷ [])
    ∷ command_of (codes "run") (codes "POLICY" ∷ codes "TRACE" ∷ [])
    ∷ command_of (codes "simulate") (codes "POLICY" ∷ codes "TRACE" ∷ [])
    ∷ command_of (codes "waste") (codes "POLICY" ∷ codes "TRACE" ∷ [])
    ∷ command_of (codes "crew") (codes "POLICY" ∷ codes "TRACE" ∷ codes "WORKERS" ∷ [])
    ∷ command_of (codes "replay") (codes "POLICY" ∷ codes "TRACE" ∷ codes "HISTORY" ∷ [])
    ∷ command_of (codes "report") (codes "POLICY" ∷ codes "TRACE" ∷ codes "HISTORY" ∷ [])
    ∷ command_of (codes "migrate") (codes "POLICY" ∷ codes "TRACE" ∷ codes "HISTORY" ∷ [])
    ∷ command_of (codes "why") (codes "POLICY" ∷ codes "TRACE" ∷ codes "HISTORY" ∷ [])
    ∷ []

-- those on a seed and a size
abbrev pub seed_commands : List Shape
seed_commands =
    command_of (codes "make") (codes "SEED" ∷ codes "SIZE" ∷ [])
    ∷ command_of (codes "bench") (codes "SEED" ∷ codes "SIZE" ∷ [])
    ∷ []

-- the program with these commands behind those that it has
abbrev pub with_all : List Shape → App → App
with_all [] app = app
with_all (shape ∷ shapes) app = with_all shapes (with_subcommand app shape)

-- the program with its commands
abbrev pub program : App
program = record {
  top = record no_commands.top { is_leaf = false };
  subs = policy_commands ++ (trace_commands ++ seed_commands);
}

-- the word that was found for a name, and an empty one where there is none
abbrev pub word_in : List Row → Text → Text
word_in rows id = unwrap_or (first_of id rows) []

-- what the verb that was found asks for, with its words
abbrev pub asked_in : Text → List Row → Option Asked
asked_in verb rows =
    if bytes_eq verb (codes "check") then Some (check (word_in rows (codes "POLICY")))
    else if bytes_eq verb (codes "prove") then Some (prove (word_in rows (codes "POLICY")))
    else if bytes_eq verb (codes "bound") then Some (bound (word_in rows (codes "POLICY")))
    else if bytes_eq verb (codes "rest") then Some (rest (word_in rows (codes "POLICY")))
    else if bytes_eq verb (codes "waits") then Some (waits (word_in rows (codes "POLICY")))
    else if bytes_eq verb (codes "emit") then Some (emit (word_in rows (codes "POLICY")))
    else if bytes_eq verb (codes "draft") then Some (draft (word_in rows (codes "POLICY")))
    else if bytes_eq verb (codes "explain") then
    option_map (explain (word_in rows (codes "POLICY"))) (name_of (word_in rows (codes "NAME")))
    else if bytes_eq verb (codes "verify") then
    Some (verify (word_in rows (codes "POLICY")) (word_in rows (codes "CERTS")))
    else if bytes_eq verb (codes "play") then Some (play (word_in rows (codes "POLICY")) (word_in rows (codes "TRACE")))
    else if bytes_eq verb (codes "run") then Some (run (word_in rows (codes "POLICY")) (word_in rows (codes "TRACE")))
    else if bytes_eq verb (codes "simulate") then
    Some (simulate (word_in rows (codes "POLICY")) (word_in rows (codes "TRACE")))
    else if bytes_eq verb (codes "waste")
    then Some (waste (word_in rows (codes "POLICY")) (word_in rows (codes "TRACE")))
    else if bytes_eq verb (codes "crew") then
    crewed_by (word_in rows (codes "POLICY")) (word_in rows (codes "TRACE")) (word_in rows (codes "WORKERS"))
    else if bytes_eq verb (codes "replay") then
    Some (replay (word_in rows (codes "POLICY")) (word_in rows (codes "TRACE")) (word_in rows (codes "HISTORY")))
    else if bytes_eq verb (codes "report") then
    Some (report (word_in rows (codes "POLICY")) (word_in rows (codes "TRACE")) (word_in rows (codes "HISTORY")))
    else if bytes_eq verb (codes "migrate") then
    Some (migrate (word_in rows (codes "POLICY")) (word_in rows (codes "TRACE")) (word_in rows (codes "HISTORY")))
    else if bytes_eq verb (codes "why") then
    Some (tell_why (word_in rows (codes "POLICY")) (word_in rows (codes "TRACE")) (word_in rows (codes "HISTORY")))
    else if bytes_eq verb (codes "make") then made_by (word_in rows (codes "SEED")) (word_in rows (codes "SIZE"))
    else if bytes_eq verb (codes "bench") then benched_by (word_in rows (codes "SEED")) (word_in rows (codes "SIZE"))
    else None

-- what is asked for by the verb and the words that were found, if any
abbrev pub asked_from : Option (Text × List Row) → Option Asked
asked_from found = option_and_then (λ p. asked_in p.0 p.1) found
