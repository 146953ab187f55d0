use Rattle.std.proofs.Common.{ap, sym, codes, ◌∷◌}
use Rattle.policy_tree.specs.declared.typed.PlaceRule.{PlaceRule}
use Rattle.policy_tree.specs.Meaning.{meaning_of, place_tree}
use Rattle.c_printer.specs.OrderTexts.{rule_texts}
use Rattle.c_printer.proofs.AddsLemmas.{◌⊳◌, given_ok, reads_as, same_texts}
use Rattle.c_printer.proofs.printer.Printer.place.Goals as goal

pub returns-in_ok-word-in-Here : goal.returns-in_ok-word-in-Here
returns-in_ok-word-in-Here c =
    given_ok c.never_placed.result c.never_placed.ensures
    (λ last. same_texts (sym (ap (λ (r : PlaceRule).
    codes "\n/* 1 where a thread stays on the core that lets it in, else 0. */\n#define " ∷ c.args.policy.now.name
    ∷ rule_texts (meaning_of c.args.policy.now) (place_tree r)) c.in-Here.is))
    (c.in_ok-word.ensures ⊳ reads_as c.as_slice.ensures.items c.in_ok-name.ensures ⊳ c.in_ok-word-in-Here.ensures ⊳ last))

pub returns-in_ok-word-in-Least : goal.returns-in_ok-word-in-Least
returns-in_ok-word-in-Least c =
    given_ok c.placed.result c.placed.ensures
    (λ last. same_texts (sym (ap (λ (r : PlaceRule).
    codes "\n/* 1 where a thread stays on the core that lets it in, else 0. */\n#define " ∷ c.args.policy.now.name
    ∷ rule_texts (meaning_of c.args.policy.now) (place_tree r)) c.in-Least.is))
    (c.in_ok-word.ensures ⊳ reads_as c.as_slice.ensures.items c.in_ok-name.ensures ⊳ c.in_ok-word-in-Least.ensures ⊳ last))
