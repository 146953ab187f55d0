-- Tokens behind tokens.
use Rattle.std.proofs.Common.{◌≡◌, ◌∙◌, ◌<◌, ◌≤◌, ◌+◌, ℕ, List, [], ◌∷◌, ◌++◌, length, take, get_or, refl, sym, ap, subst, Result, Ok, Err, OnOk, append_assoc, append-nil, replicate, map}
use Rattle.std.specs.List.{flat_map, join_with_byte}
use Rattle.std.proofs.lemmas.List.{take_more, take_all, replicate_more}
use Rattle.policy_printer.specs.Adds.{spaced, Adds}

pub spaced_append : (xs ys : List (List ℕ)) → spaced (xs ++ ys) ≡ spaced xs ++ spaced ys
spaced_append [] ys = refl
spaced_append (x ∷ xs) ys =
    ap (λ (more : List ℕ). 32 ∷ (x ++ more)) (spaced_append xs ys) ∙ ap (λ (more : List ℕ). 32 ∷ more) (sym (append_assoc x (spaced xs) (spaced ys)))

pub no_tokens : {a : List ℕ} → Adds [] a a
no_tokens {a = a} = record { is = sym (append-nil a) }

infixr 5 ◌⊳◌
-- first these tokens, then those
pub ◌⊳◌ : {xs ys : List (List ℕ)} {a b c : List ℕ} → Adds xs a b → Adds ys b c → Adds (xs ++ ys) a c
◌⊳◌ {xs = xs} {ys = ys} {a = a} one other = record {
  is = other.is ∙ ap (λ (front : List ℕ). front ++ spaced ys) one.is ∙ append_assoc a (spaced xs) (spaced ys)
      ∙ ap (λ (more : List ℕ). a ++ more) (sym (spaced_append xs ys));
}

flat_map-end : {X : Type 0} (f : X → List (List ℕ)) (xs : List X) (x : X) → flat_map f (xs ++ x ∷ []) ≡ flat_map f xs ++ f x
flat_map-end f [] x = append-nil (f x)
flat_map-end f (y ∷ ys) x =
    ap (λ (more : List (List ℕ)). f y ++ more) (flat_map-end f ys x) ∙ sym (append_assoc (f y) (flat_map f ys) (f x))

flat_map-map : {X Y : Type 0} (f : Y → List (List ℕ)) (g : X → Y) (xs : List X) → flat_map (λ x. f (g x)) xs ≡ flat_map f (map g xs)
flat_map-map f g [] = refl
flat_map-map f g (x ∷ xs) = ap (λ (more : List (List ℕ)). f (g x) ++ more) (flat_map-map f g xs)

-- the tokens of one item more
pub one_more : {X : Type 0} (f : X → List (List ℕ)) (xs : List X) (i : ℕ) (x : X) {a b c : List ℕ} → x ≡ get_or xs i x → i < length xs →
    Adds (flat_map f (take i xs)) a b → Adds (f x) b c → Adds (flat_map f (take (i + 1) xs)) a c
one_more f xs i x {a = a} {c = c} is less so_far item =
    let both = ap (λ y. flat_map f (take i xs) ++ f y) is ∙ sym (flat_map-end f (take i xs) (get_or xs i x)) ∙ ap (flat_map f) (sym (take_more xs i x less)) in
    subst (λ (texts : List (List ℕ)). Adds texts a c) both (so_far ⊳ item)

-- the tokens of all items
pub all_items : {X : Type 0} (f : X → List (List ℕ)) {xs ys : List X} (i : ℕ) {a b : List ℕ} → xs ≡ ys → length xs ≤ i →
    Adds (flat_map f (take i xs)) a b → Adds (flat_map f ys) a b
all_items f {xs = xs} i {a = a} {b = b} same past so_far =
    subst (λ (texts : List (List ℕ)). Adds texts a b) (ap (flat_map f) (take_all i xs past ∙ same)) so_far

-- the tokens of the trees of all items
pub all_trees : {X Y : Type 0} (f : Y → List (List ℕ)) (g : X → Y) {xs ys : List X} (i : ℕ) {a b : List ℕ} → xs ≡ ys → length xs ≤ i →
    Adds (flat_map (λ x. f (g x)) (take i xs)) a b → Adds (flat_map f (map g ys)) a b
all_trees f g {ys = ys} i {a = a} {b = b} same past so_far =
    subst (λ (texts : List (List ℕ)). Adds texts a b) (flat_map-map f g ys) (all_items (λ x. f (g x)) i same past so_far)

pub one_sign : {x a b c : List ℕ} (n : ℕ) → Adds (replicate n x) a b → Adds (x ∷ []) b c → Adds (replicate (n + 1) x) a c
one_sign {x = x} {a = a} {c = c} n so_far item =
    subst (λ (texts : List (List ℕ)). Adds texts a c) (replicate_more n x) (so_far ⊳ item)

pub all_signs : (x : List ℕ) {a b : List ℕ} (n m : ℕ) → n ≡ m → Adds (replicate n x) a b → Adds (replicate m x) a b
all_signs x {a = a} {b = b} n m same so_far = subst (λ (k : ℕ). Adds (replicate k x) a b) same so_far

-- tokens that are the same
pub reads_as : {x y : List ℕ} {a b : List ℕ} → x ≡ y → Adds (x ∷ []) a b → Adds (y ∷ []) a b
reads_as {a = a} {b = b} same one = subst (λ (t : List ℕ). Adds (t ∷ []) a b) same one

pub same_texts : {xs ys : List (List ℕ)} {a b : List ℕ} → xs ≡ ys → Adds xs a b → Adds ys a b
same_texts {a = a} {b = b} same these = subst (λ (texts : List (List ℕ)). Adds texts a b) same these

-- what follows from the last call, where it succeeds
pub on_ok : {X E P Q : Type 0} (r : Result X E) → (P → Q) → OnOk r P → OnOk r Q
on_ok (Ok x) f p = f p
on_ok (Err e) f p = tt

joined-spaced : (x : List ℕ) (xs : List (List ℕ)) → join_with_byte 32 (x ∷ xs) ≡ x ++ spaced xs
joined-spaced x [] = sym (append-nil x)
joined-spaced x (y ∷ ys) = ap (λ (more : List ℕ). x ++ 32 ∷ more) (joined-spaced y ys)

-- a first token without a space before it, the others, and a line feed
pub whole : (x : List ℕ) (xs : List (List ℕ)) (a b c : List ℕ) → a ≡ x → Adds xs a b → c ≡ b ++ 10 ∷ [] →
    c ≡ join_with_byte 32 (x ∷ xs) ++ (10 ∷ [])
whole x xs a b c first these end =
    end ∙ ap (λ (front : List ℕ). front ++ (10 ∷ []))
    (these.is ∙ ap (λ (front : List ℕ). front ++ spaced xs) first ∙ sym (joined-spaced x xs))
