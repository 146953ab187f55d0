-- What `clap` finds is what the words ask for, and a fault that isn't want of memory stands for no command.
use Rattle.std.proofs.Common.{◌≡◌, ◌≤◌, ◌∙◌, [], true, Option, None, Result, Ok, Err, IfOk, IsErr, refl, ap, subst, inl, inr, length, option_and_then}
use Rattle.std.proofs.lemmas.List.{length-map}
use Rattle.clap.specs.Words.{App, IsAmong, fault_of, is_simple, is_simple_and_free, kind_of, subcommand_of, subcommand_rows_of}
use Rattle.clap.specs.declared.parser.matches.ArgMatches.{ArgMatches}
use Rattle.command_words.specs.Command.{Asked, asked_by, words_of}
use Rattle.command_words.specs.Program.{asked_from, program}
use Rattle.command_words.proofs.Walks.{agrees, any_fault, no_fault}
use Rattle.command_words.proofs.words.found_in.Goals as goal

simple : is_simple program ≡ true
simple = refl

simple_and_free : is_simple_and_free program ≡ true
simple_and_free = refl

-- where nothing is found and memory wasn't wanting, nothing is asked for
told : {E : Type 0} {K : Type 0} (r : Result (Option ArgMatches) E) (asked : Option Asked)
    → IfOk r (λ found. found ≡ None) → (K → IsErr r) → ((K → ⊥) → None ≡ asked)
    → IfOk r (λ found. option_and_then (λ matches. asked_from (subcommand_rows_of matches)) found ≡ asked)
told (Ok found) asked none wants nothing = rw none (nothing (λ k. let bad = wants k in cc))
told (Err e) asked none wants nothing = tt

pub returns-in-Ok : goal.returns-in-Ok
returns-in-Ok c =
    let words = words_of c.args.words.now in
    let few : length words ≤ 4 = rw length-map c.requires.few in
    let given = c.in_ok-program.ensures in
    let kinds = c.in-Ok.ensures.kinds (ap is_simple_and_free given ∙ simple_and_free) in
    let none : fault_of program words ≡ [] = subst (λ (app : App). fault_of app words ≡ []) given kinds in
    let found = (c.in-Ok.ensures.matches (ap is_simple given ∙ simple)).1 in
    let agreed = agrees words few c.requires.plain in
    ap asked_from (found ∙ ap (λ (app : App). subcommand_of app words) given)
    ∙ no_fault (fault_of program words) (subcommand_of program words) (asked_by words) agreed none

pub returns-in-Err : goal.returns-in-Err
returns-in-Err c =
    let words = words_of c.args.words.now in
    let few : length words ≤ 4 = rw length-map c.requires.few in
    let given = c.in_ok-program.ensures in
    let kind = kind_of c.in-Err.error in
    let agreed = agrees words few c.requires.plain in
    let told_by = c.none_found.ensures in
    told c.none_found.result (asked_by words) told_by.none told_by.memory.1 (λ no_want.
    elim (c.in-Err.ensures.kinds (ap is_simple_and_free given ∙ simple_and_free)) [
      | inl memory ↦ absurd (no_want (c.kind.ensures ∙ memory))
      | inr among ↦
          any_fault (fault_of program words) (subcommand_of program words) (asked_by words) kind agreed
          (subst (λ (app : App). IsAmong kind (fault_of app words)) given among)
    ])
