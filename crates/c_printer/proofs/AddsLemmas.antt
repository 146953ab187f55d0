-- Pieces behind pieces.
use Rattle.std.proofs.Common.{◌≡◌, ◌∙◌, ◌<◌, ◌≤◌, ◌+◌, ℕ, List, [], ◌∷◌, ◌++◌, length, take, get_or, refl, sym, ap, subst, Result, Ok, Err, OnOk, append_assoc, append-nil, map}
use Rattle.std.specs.List.{flat_map}
use Rattle.std.proofs.lemmas.List.{take_more, take_all}
use Rattle.c_printer.specs.Adds.{glued, Adds}

pub glued_append : (xs ys : List (List ℕ)) → glued (xs ++ ys) ≡ glued xs ++ glued ys
glued_append [] ys = refl
glued_append (x ∷ xs) ys =
    ap (λ (more : List ℕ). x ++ more) (glued_append xs ys) ∙ sym (append_assoc x (glued xs) (glued ys))

pub nothing : {a : List ℕ} → Adds [] a a
nothing {a = a} = record { is = sym (append-nil a) }

infixr 5 ◌⊳◌
-- first these pieces, then those
pub ◌⊳◌ : {xs ys : List (List ℕ)} {a b c : List ℕ} → Adds xs a b → Adds ys b c → Adds (xs ++ ys) a c
◌⊳◌ {xs = xs} {ys = ys} {a = a} one other = record {
  is = other.is ∙ ap (λ (front : List ℕ). front ++ glued ys) one.is ∙ append_assoc a (glued xs) (glued ys)
      ∙ ap (λ (more : List ℕ). a ++ more) (sym (glued_append xs ys));
}

flat_map-end : {X : Type 0} (f : X → List (List ℕ)) (xs : List X) (x : X) → flat_map f (xs ++ x ∷ []) ≡ flat_map f xs ++ f x
flat_map-end f [] x = append-nil (f x)
flat_map-end f (y ∷ ys) x =
    ap (λ (more : List (List ℕ)). f y ++ more) (flat_map-end f ys x) ∙ sym (append_assoc (f y) (flat_map f ys) (f x))

flat_map-map : {X Y : Type 0} (f : Y → List (List ℕ)) (g : X → Y) (xs : List X) → flat_map (λ x. f (g x)) xs ≡ flat_map f (map g xs)
flat_map-map f g [] = refl
flat_map-map f g (x ∷ xs) = ap (λ (more : List (List ℕ)). f (g x) ++ more) (flat_map-map f g xs)

-- the pieces of one item more
pub one_more : {X : Type 0} (f : X → List (List ℕ)) (xs : List X) (i : ℕ) (x : X) {a b c : List ℕ} → x ≡ get_or xs i x → i < length xs →
    Adds (flat_map f (take i xs)) a b → Adds (f x) b c → Adds (flat_map f (take (i + 1) xs)) a c
one_more f xs i x {a = a} {c = c} is less so_far item =
    let both = ap (λ y. flat_map f (take i xs) ++ f y) is ∙ sym (flat_map-end f (take i xs) (get_or xs i x)) ∙ ap (flat_map f) (sym (take_more xs i x less)) in
    subst (λ (texts : List (List ℕ)). Adds texts a c) both (so_far ⊳ item)

-- the pieces of all items
pub all_items : {X : Type 0} (f : X → List (List ℕ)) {xs ys : List X} (i : ℕ) {a b : List ℕ} → xs ≡ ys → length xs ≤ i →
    Adds (flat_map f (take i xs)) a b → Adds (flat_map f ys) a b
all_items f {xs = xs} i {a = a} {b = b} same past so_far =
    subst (λ (texts : List (List ℕ)). Adds texts a b) (ap (flat_map f) (take_all i xs past ∙ same)) so_far

-- the pieces of the trees of all items
pub all_trees : {X Y : Type 0} (f : Y → List (List ℕ)) (g : X → Y) {xs ys : List X} (i : ℕ) {a b : List ℕ} → xs ≡ ys → length xs ≤ i →
    Adds (flat_map (λ x. f (g x)) (take i xs)) a b → Adds (flat_map f (map g ys)) a b
all_trees f g {ys = ys} i {a = a} {b = b} same past so_far =
    subst (λ (texts : List (List ℕ)). Adds texts a b) (flat_map-map f g ys) (all_items (λ x. f (g x)) i same past so_far)

-- pieces that are the same
pub reads_as : {x y : List ℕ} {a b : List ℕ} → x ≡ y → Adds (x ∷ []) a b → Adds (y ∷ []) a b
reads_as {a = a} {b = b} same one = subst (λ (t : List ℕ). Adds (t ∷ []) a b) same one

pub same_texts : {xs ys : List (List ℕ)} {a b : List ℕ} → xs ≡ ys → Adds xs a b → Adds ys a b
same_texts {a = a} {b = b} same these = subst (λ (texts : List (List ℕ)). Adds texts a b) same these

-- what follows from the last call, where it succeeds
pub on_ok : {X E P Q : Type 0} (r : Result X E) → (P → Q) → OnOk r P → OnOk r Q
on_ok (Ok x) f p = f p
on_ok (Err e) f p = tt

-- the same, with what the last call adds before what is made of it
pub given_ok : {X E P Q : Type 0} (r : Result X E) → OnOk r P → (P → Q) → OnOk r Q
given_ok (Ok x) p f = f p
given_ok (Err e) p f = tt
