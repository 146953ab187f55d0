-- Conditions in C.
use Rattle.std.specs.Prelude.{ℕ, Bool, true, false, List, [], ◌∷◌, ◌++◌, codes}
use Rattle.policy_tree.specs.declared.trees.Cmp.{Cmp}
use Rattle.policy_tree.specs.Meaning.{Meaning}
use Rattle.policy_tree.specs.Trees.{CondTree, ExprTree, always, negated, both, either, test}
use Rattle.c_printer.specs.declared.words.Place.{Place}
use Rattle.c_printer.specs.declared.words.Place.TheVariants as place
use Rattle.c_printer.specs.declared.words.View.{View}
use Rattle.c_printer.specs.ExpressionTexts.{enclosed, value_texts}
use Rattle.c_printer.specs.WordTexts.{compare_text}

-- whether parentheses stand there round `&&`: compilers ask for them beside `||`
abbrev pub opens_both : Place → Bool
opens_both place.LeftOfAnd = false
opens_both place.LeftOfOr = true
opens_both place.Right = true
opens_both place.Negated = true

-- whether they stand there round `||`
abbrev pub opens_either : Place → Bool
opens_either place.LeftOfAnd = true
opens_either place.LeftOfOr = false
opens_either place.Right = true
opens_either place.Negated = true

-- whether they stand there round a comparison
abbrev pub opens_test : Place → Bool
opens_test place.LeftOfAnd = false
opens_test place.LeftOfOr = false
opens_test place.Right = false
opens_test place.Negated = true

abbrev pub opens_cond : Place → CondTree → Bool
opens_cond s always = false
opens_cond s (negated c) = false
opens_cond s (both l r) = opens_both s
opens_cond s (either l r) = opens_either s
opens_cond s (test how l r) = opens_test s

-- a comparison
abbrev pub test_texts : Meaning → View → Cmp → (left right : ExprTree) → List (List ℕ)
test_texts p v how l r = value_texts p v l ++ (compare_text how ∷ value_texts p v r)

-- the condition, its parts in parentheses where those are needed
abbrev pub cond_texts : Meaning → View → CondTree → List (List ℕ)
cond_texts p v always = codes "true" ∷ []
cond_texts p v (negated c) = codes "!" ∷ enclosed (opens_cond place.Negated c) (cond_texts p v c)
cond_texts p v (both l r) =
    enclosed (opens_cond place.LeftOfAnd l) (cond_texts p v l)
    ++ (codes " && " ∷ enclosed (opens_cond place.Right r) (cond_texts p v r))
cond_texts p v (either l r) =
    enclosed (opens_cond place.LeftOfOr l) (cond_texts p v l)
    ++ (codes " || " ∷ enclosed (opens_cond place.Right r) (cond_texts p v r))
cond_texts p v (test how l r) = test_texts p v how l r
