-- What is added in two parts is added whole.
use Rattle.std.proofs.Common.{◌≡◌, ◌≢◌, ℕ, List, [], ◌∷◌, ◌++◌, Option, Some, None, refl, sym, ◌∙◌, ap, append_assoc, append-nil}
use Rattle.sched_io.specs.Written.{Adds, AddsPart, Grows}

pub Grows-nil : {X : Type 0} → (told : Option (List X)) → Grows [] told told
Grows-nil None = tt
Grows-nil (Some items) = sym (append-nil items)

pub Grows-append : {X : Type 0} → (a b : List X) (x y z : Option (List X)) → Grows a x y → Grows b y z → Grows (a ++ b) x z
Grows-append a b x y None first second = tt
Grows-append a b x None (Some after) first second = absurd second
Grows-append a b None (Some between) (Some after) first second = absurd first
Grows-append {X} a b (Some before) (Some between) (Some after) first second =
    second ∙ ap (λ (w : List X). w ++ b) first ∙ append_assoc before a b

-- what tells nothing goes on to tell nothing
pub Grows-silent : {X : Type 0} → (a : List X) (x y : Option (List X)) → Grows a x y → x ≡ None → y ≡ None
Grows-silent a x None grows none = refl
Grows-silent a None (Some after) grows none = absurd grows
Grows-silent a (Some before) (Some after) grows none = absurd (cc)

pub Adds-nil : (written : Option (List ℕ)) → Adds [] written written
Adds-nil written = Grows-nil written

pub Adds-append : (a b : List ℕ) (x y z : Option (List ℕ)) → Adds a x y → Adds b y z → Adds (a ++ b) x z
Adds-append a b x y z first second = Grows-append a b x y z first second

pub AddsPart-append : (a b : List ℕ) (x y z : Option (List ℕ)) → Adds a x y → AddsPart b y z → AddsPart (a ++ b) x z
AddsPart-append a b x y z first (front, rest, left, split, second) =
    (a ++ front, rest, left, ap (λ (w : List ℕ). a ++ w) split ∙ sym (append_assoc a front rest), Adds-append a front x y z first second)

-- what is left before more is left with it
still_left : (rest b : List ℕ) → rest ≢ [] → rest ++ b ≢ []
still_left [] b left = absurd (left refl)
still_left (x ∷ rest) b left = λ e. cc

-- a part of a front is a part of the whole
pub AddsPart-front : (a b : List ℕ) (x y : Option (List ℕ)) → AddsPart a x y → AddsPart (a ++ b) x y
AddsPart-front a b x y (front, rest, left, split, added) =
    (front, rest ++ b, still_left rest b left, ap (λ (w : List ℕ). w ++ b) split ∙ append_assoc front rest b, added)
