-- Whether some item's tree is so, asked of the items or of their trees.
use Rattle.std.proofs.Common.{◌≡◌, ◌∙◌, Bool, ◌||◌, List, [], ◌∷◌, map, refl, ap}
use Rattle.std.specs.List.{list_any}

any_of_trees : {X Y : Type 0} (f : Y → Bool) (g : X → Y) (xs : List X) → list_any (λ x. f (g x)) xs ≡ list_any f (map g xs)
any_of_trees f g [] = refl
any_of_trees f g (x ∷ xs) = ap (λ (rest : Bool). f (g x) || rest) (any_of_trees f g xs)

-- the answer of a function that was given these items as a slice
pub any_as_trees : {X Y : Type 0} (f : Y → Bool) (g : X → Y) (slice : List X) {answer : Bool} {trees : List Y} →
    answer ≡ list_any (λ x. f (g x)) slice → map g slice ≡ trees → answer ≡ list_any f trees
any_as_trees f g slice is same = is ∙ any_of_trees f g slice ∙ ap (list_any f) same
