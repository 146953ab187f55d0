-- A test of each word is a test of its bytes.
use Rattle.std.proofs.Common.{rules, tests, ◌≡◌, ◌∙◌, ◌&&◌, Bool, List, [], ◌∷◌, map, ap, refl}
use Rattle.std.specs.Prelude.{string_bytes}
use Rattle.std.specs.List.{list_all}
use Rattle.std.proofs.lemmas.Iterator.{YieldsList-from_slice}
use Rattle.std.proofs.lemmas.Iterator.Search.{all_from_yields_List}
use Rattle.command_words.specs.Command.{is_plain}
use Rattle.command_words.proofs.words.are_plain.Goals as goal

all-map : {A B : Type 0} (f : A → B) (test : B → Bool) (xs : List A) → list_all (λ x. test (f x)) xs ≡ list_all test (map f xs)
all-map f test [] = refl
all-map f test (x ∷ xs) = ap (λ b. test (f x) && b) (all-map f test xs)

pub returns : goal.returns
returns c =
    let words = c.args.words.now in
    all_from_yields_List (λ word. is_plain (string_bytes word)) _ _ _ c.all.ensures.ran (YieldsList-from_slice words cc) (λ x b q k. search (rules, tests))
    ∙ all-map string_bytes is_plain words
