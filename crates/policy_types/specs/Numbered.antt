-- Attributes whose numbers are the places of their names.
use Rattle.std.specs.Prelude.{◌≡◌, ℕ, ◌<◌, ◌^◌, List, length, map}
use Rattle.policy_tree.specs.declared.typed.Attr.{Attr}

-- the names are those of the attributes, in their order
pub record IsNumbered (names : List (List ℕ)) (attrs : List Attr) : Type 0 where
  pub same : names ≡ map (λ (attr : Attr). attr.name) attrs
  pub few : length attrs < 2 ^ 32
