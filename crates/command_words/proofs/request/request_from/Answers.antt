-- The verb and the rows that `clap` tells apart are those of one subcommand.
use Rattle.std.proofs.Common.{◌≡◌, ◌∙◌, List, Option, Some, None, ap₂, option_map}
use Rattle.std.specs.Box.{box_value}
use Rattle.clap.specs.Words.{Row, Text, found_of, rows_of}
use Rattle.clap.specs.declared.parser.matches.ArgMatches.TheViews.{out-ArgMatches, out-SubCommand}
use Rattle.command_words.specs.Program.{asked_from, asked_in}
use Rattle.command_words.proofs.request.request_from.Goals as goal

both : {A : Type 0} (name : A → Text) (rows : A → List Row) (met : Option A) (verb : Text) (words : List Row)
    → Some verb ≡ option_map name met → Some words ≡ option_map (λ (p : Text × List Row). p.1) (option_map (λ a. (name a, rows a)) met)
    → asked_in verb words ≡ asked_from (option_map (λ a. (name a, rows a)) met)
both name rows None verb words e f = cc
both name rows (Some a) verb words e f =
    let is_verb : verb ≡ name a = cc in
    let is_words : words ≡ rows a = cc in
    ap₂ asked_in is_verb is_words

pub returns-in-Some : goal.returns-in-Some
returns-in-Some c =
    c.request_in.ensures
    ∙ both (λ b. (out-SubCommand (box_value b)).name.now) (λ b. rows_of (found_of (out-SubCommand (box_value b)).matches))
    (out-ArgMatches c.args.matches.now).subcommand c.in-Some.verb.now (rows_of (found_of c.in-Some.words.now)) c.in-Some.ensures.name c.in-Some.ensures.rows
