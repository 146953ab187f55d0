-- Names that are keys of a set, numbered as the attributes that bear them.
use Rattle.std.proofs.Common.{◌≡◌, ℕ, ◌+◌, Bool, true, false, cond, ◌||◌, if◌then◌else◌, List, [], ◌∷◌, ◌++◌, map, Option, Some, None, option_map, refl, sym, ap, ◌∙◌}
use Rattle.std.specs.Borrow.{Bor}
use Rattle.std.specs.List.{list_any, position, position_from}
use Rattle.std.specs.Str.{bytes_eq}
use Rattle.std.proofs.lemmas.Iterator.Adapters.{position_from-zero}
use Rattle.std.proofs.lemmas.List.{map-append}
use Rattle.std.proofs.lemmas.Slice.Eq.{bytes_eq-Decides}
use Rattle.policy_tree.specs.declared.typed.Attr.{Attr}
use Rattle.policy_types.specs.declared.sites.Feature.{Feature}
use Rattle.policy_types.specs.declared.sites.Feature.TheVariants.{Attribute}
use Rattle.policy_types.specs.References.{attribute_named}

abbrev pub Key : Type 0
Key = Bor (List ℕ)

abbrev pub texts : List Key → List (List ℕ)
texts keys = map (λ key. key.now) keys

abbrev pub names_of : List Attr → List (List ℕ)
names_of attrs = map (λ attr. attr.name) attrs

-- a key that has the name
abbrev pub is_named : List ℕ → Key → Bool
is_named name key = bytes_eq name key.now

-- which of two names comes first doesn't matter
bytes_eq-swap : (a b : List ℕ) → bytes_eq a b ≡ bytes_eq b a
bytes_eq-swap a b = by (bytes_eq a b) (bytes_eq b a) refl refl
  where
    by : (x y : Bool) → bytes_eq a b ≡ x → bytes_eq b a ≡ y → x ≡ y
    by true true e f = refl
    by false false e f = refl
    by true false e f = let same = (bytes_eq-Decides b a).1 (sym ((bytes_eq-Decides a b).0 e)) in cc
    by false true e f = let same = (bytes_eq-Decides a b).1 (sym ((bytes_eq-Decides b a).0 f)) in cc

some_none : {f : Feature} → ◌≡◌ {A = Option Feature} (Some f) None → ⊥
some_none e = cc

-- where neither the first nor what follows is found, none is
not_here : (x y : Bool) (first : Feature) (others : Option Feature) (more : Bool) → x ≡ y → (others ≡ None → more ≡ false) →
    (if y then Some first else others) ≡ None → (x || more) ≡ false
not_here x true first others more same rest lacks = absurd (some_none lacks)
not_here true false first others more same rest lacks = absurd (cc)
not_here false false first others more same rest lacks = rest lacks

head-same : {a b : List ℕ} {xs ys : List (List ℕ)} → a ∷ xs ≡ b ∷ ys → (a ≡ b) × (xs ≡ ys)
head-same e = (cc, cc)

module _ (name : List ℕ) where
  numbered_from : (at : ℕ) (keys : List Key) (attrs : List Attr) → texts keys ≡ names_of attrs →
      option_map Attribute (position_from (is_named name) at keys) ≡ attribute_named at attrs name
  numbered_from at [] [] same = refl
  numbered_from at [] (a ∷ attrs) same = absurd (cc)
  numbered_from at (k ∷ keys) [] same = absurd (cc)
  numbered_from at (k ∷ keys) (a ∷ attrs) same =
      let parts = head-same same in
      let test : bytes_eq name k.now ≡ bytes_eq a.name name = ap (bytes_eq name) parts.0 ∙ bytes_eq-swap name a.name in
      by (bytes_eq name k.now) (bytes_eq a.name name) test (numbered_from (at + 1) keys attrs parts.1)
    where
      by : (x y : Bool) → x ≡ y → option_map Attribute (position_from (is_named name) (at + 1) keys) ≡ attribute_named (at + 1) attrs name →
          option_map Attribute (cond x (Some at) (position_from (is_named name) (at + 1) keys)) ≡ (if y then Some (Attribute at) else attribute_named (at + 1) attrs name)
      by true true e rest = refl
      by false false e rest = rest
      by true false e rest = absurd (cc)
      by false true e rest = absurd (cc)

  -- the place of a name among the keys is the number of its attribute
  pub numbered : (keys : List Key) (attrs : List Attr) → texts keys ≡ names_of attrs → option_map Attribute (position (is_named name) keys) ≡ attribute_named 0 attrs name
  numbered keys attrs same = ap (option_map Attribute) (position_from-zero (is_named name) keys) ∙ numbered_from 0 keys attrs same

  -- a name that no attribute bears is no key
  absent_from : (at : ℕ) (keys : List Key) (attrs : List Attr) → texts keys ≡ names_of attrs → attribute_named at attrs name ≡ None → list_any (is_named name) keys ≡ false
  absent_from at [] attrs same none = refl
  absent_from at (k ∷ keys) [] same none = absurd (cc)
  absent_from at (k ∷ keys) (a ∷ attrs) same none =
      let parts = head-same same in
      let test : bytes_eq name k.now ≡ bytes_eq a.name name = ap (bytes_eq name) parts.0 ∙ bytes_eq-swap name a.name in
      not_here (bytes_eq name k.now) (bytes_eq a.name name) (Attribute at) (attribute_named (at + 1) attrs name) (list_any (is_named name) keys) test
      (absent_from (at + 1) keys attrs parts.1) none

pub absent : (name : List ℕ) (keys : List Key) (attrs : List Attr) → texts keys ≡ names_of attrs → attribute_named 0 attrs name ≡ None → list_any (is_named name) keys ≡ false
absent name keys attrs same none = absent_from name 0 keys attrs same none

-- with one more of each they are numbered alike again
pub one_more : (keys : List Key) (key : Key) (attrs : List Attr) (attr : Attr) → texts keys ≡ names_of attrs → attr.name ≡ key.now →
    texts (keys ++ key ∷ []) ≡ names_of (attrs ++ attr ∷ [])
one_more keys key attrs attr same name =
    map-append (λ (k : Key). k.now) keys (key ∷ [])
    ∙ ap (λ (xs : List (List ℕ)). xs ++ key.now ∷ []) same
    ∙ ap (λ (x : List ℕ). names_of attrs ++ x ∷ []) (sym name)
    ∙ sym (map-append (λ (a : Attr). a.name) attrs (attr ∷ []))

-- what is found among the keys is the number
pub told : (name : List ℕ) (keys : List Key) (attrs : List Attr) → texts keys ≡ names_of attrs → (found : Option ℕ) → found ≡ position (is_named name) keys →
    option_map Attribute found ≡ attribute_named 0 attrs name
told name keys attrs same found is = ap (option_map Attribute) is ∙ numbered name keys attrs same
