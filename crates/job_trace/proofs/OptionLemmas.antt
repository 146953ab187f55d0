-- What stands behind a value that was found.
use Rattle.std.proofs.Common.{◌≡◌, Option, Some, None, List, ◌∷◌, refl}
use Rattle.std.specs.Prelude.{option_and_then, option_map}
use Rattle.job_trace.specs.Code.Steps.{joined}

pub some-same : {X : Type 0} {x y : X} → Some x ≡ Some y → x ≡ y
some-same e = cc

pub mapped : {X Y : Type 0} (f : X → Y) (o : Option X) (y : Y) → option_map f o ≡ Some y → (x : X) × (o ≡ Some x) × (f x ≡ y)
mapped f None y e = cc
mapped f (Some x) y e = (x, refl, some-same e)

pub chained : {X Y : Type 0} (f : X → Option Y) (o : Option X) (y : Y) → option_and_then f o ≡ Some y → (x : X) × (o ≡ Some x) × (f x ≡ Some y)
chained f None y e = cc
chained f (Some x) y e = (x, refl, e)

pub both : {X : Type 0} (o : Option X) (r : Option (List X)) (xs : List X) → joined o r ≡ Some xs →
    (x : X) × (rest : List X) × (o ≡ Some x) × (r ≡ Some rest) × (x ∷ rest ≡ xs)
both None r xs e = cc
both (Some x) None xs e = cc
both (Some x) (Some rest) xs e = (x, rest, refl, refl, some-same e)

-- the thing that was found is what is kept of one that meets this
pub record Spelt {X : Type 0} (Spells : X → Type 0) (keep : X → X) (found : X) : Type 0 where
  pub whole : X
  pub spells : Spells whole
  pub is : keep whole ≡ found
