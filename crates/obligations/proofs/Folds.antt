-- Rows, cases and lists of cases as tests of the values.
use Rattle.std.proofs.Common.{◌≡◌, ◌*◌, int_le, Bool, true, false, ◌&&◌, ◌||◌, List, [], ◌∷◌, ◌++◌, length, map, refl, sym, ap, ◌∙◌, arith}
use Rattle.std.specs.List.{list_all, list_any}
use Rattle.std.proofs.lemmas.List.{append-nil, append_assoc, length-append, length-map}
use Rattle.std.proofs.lemmas.List.Folds.{list_all-append, list_any-append}
use Rattle.linear_form.specs.declared.form.Row.{Row}
use Rattle.linear_form.specs.Solution.{left_side}
use Rattle.policy_eval.specs.Values.{Assignment}
use Rattle.obligations.specs.Cases.{crossed}

-- whether the row holds
abbrev pub row_holds : Assignment → Row → Bool
row_holds values row = int_le (left_side values row.terms) row.bound

-- whether all rows of the case hold
abbrev pub case_holds : Assignment → List Row → Bool
case_holds values rows = list_all (row_holds values) rows

-- whether all rows of some case hold
abbrev pub some_holds : Assignment → List (List Row) → Bool
some_holds values cases = list_any (case_holds values) cases

module _ {X : Type 0} (p : X → Bool) where
  any_prefixed : (xs : List X) (right : List (List X)) → list_any (list_all p) (map (λ ys. xs ++ ys) right) ≡ (list_all p xs && list_any (list_all p) right)
  any_prefixed xs [] = never (list_all p xs)
    where
      never : (b : Bool) → false ≡ (b && false)
      never true = refl
      never false = refl
  any_prefixed xs (ys ∷ right) =
      ap (λ b. b || list_any (list_all p) (map (λ zs. xs ++ zs) right)) (list_all-append p xs ys)
      ∙ (ap (λ b. (list_all p xs && list_all p ys) || b) (any_prefixed xs right)
      ∙ shared (list_all p xs) (list_all p ys) (list_any (list_all p) right))
    where
      shared : (a b c : Bool) → ((a && b) || (a && c)) ≡ (a && (b || c))
      shared true b c = refl
      shared false b c = refl

some_prefixed : (values : Assignment) (rows : List Row) (right : List (List Row)) → some_holds values (map (λ more. rows ++ more) right) ≡ (case_holds values rows && some_holds values right)
some_prefixed values rows right = any_prefixed (row_holds values) rows right

-- a case of the one with a case of the other
pub some_crossed : (values : Assignment) (left right : List (List Row)) → some_holds values (crossed left right) ≡ (some_holds values left && some_holds values right)
some_crossed values [] right = refl
some_crossed values (rows ∷ left) right =
    list_any-append (case_holds values) (map (λ more. rows ++ more) right) (crossed left right)
    ∙ (ap (λ b. b || some_holds values (crossed left right)) (some_prefixed values rows right)
    ∙ (ap (λ b. (case_holds values rows && some_holds values right) || b) (some_crossed values left right)
    ∙ shared (case_holds values rows) (some_holds values left) (some_holds values right)))
  where
    shared : (a b c : Bool) → ((a && c) || (b && c)) ≡ ((a || b) && c)
    shared true true true = refl
    shared true true false = refl
    shared true false true = refl
    shared true false false = refl
    shared false b c = refl

-- a case of the one or of the other
pub some_joined : (values : Assignment) (left right : List (List Row)) → some_holds values (left ++ right) ≡ (some_holds values left || some_holds values right)
some_joined values left right = list_any-append (case_holds values) left right

-- as many pairs
pub length-crossed : (left right : List (List Row)) → length (crossed left right) ≡ length left * length right
length-crossed [] right = omega arith
length-crossed (rows ∷ left) right =
    let front = length-append (map (λ more. rows ++ more) right) (crossed left right) in
    let each = length-map right (λ (more : List Row). rows ++ more) in
    let rest = length-crossed left right in
    omega arith

-- one more case on the left
pub crossed_push : (left : List (List Row)) (rows : List Row) (right : List (List Row)) → crossed (left ++ rows ∷ []) right ≡ crossed left right ++ map (λ more. rows ++ more) right
crossed_push [] rows right = append-nil (map (λ more. rows ++ more) right)
crossed_push (first ∷ left) rows right =
    ap (λ cases. map (λ more. first ++ more) right ++ cases) (crossed_push left rows right)
    ∙ sym (append_assoc (map (λ more. first ++ more) right) (crossed left right) (map (λ more. rows ++ more) right))
