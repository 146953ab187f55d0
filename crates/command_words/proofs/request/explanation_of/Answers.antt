-- The obligation that the word names is found by its text.
use Rattle.std.proofs.Common.{◌≡◌, List, ℕ, Some, ap, refl, sym, subst, option_map}
use Rattle.command_words.specs.Command.{explain, name_of}
use Rattle.command_words.proofs.NamesFound.{named, unnamed}
use Rattle.command_words.proofs.request.explanation_of.Goals as goal

pub returns-in-Some : goal.returns-in-Some
returns-in-Some c =
    let text = (c.in-Some.ensures c.in-Some.name).0 refl in
    let found : name_of c.args.name.now ≡ Some c.in-Some.name = subst (λ (word : List ℕ). name_of word ≡ Some c.in-Some.name) text (named c.in-Some.name) in
    sym (ap (option_map (explain c.args.policy.now)) found)

pub returns-in-None : goal.returns-in-None
returns-in-None c =
    let none = unnamed c.args.name.now (λ n text. let told = (c.in-None.ensures n).1 text in let clash : ⊥ = cc in clash) in
    sym (ap (option_map (explain c.args.policy.now)) none)
