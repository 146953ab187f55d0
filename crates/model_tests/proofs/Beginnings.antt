-- Where the Round of a number stands, by a test along the history.
use Rattle.std.proofs.Common.{◌≡◌, ℕ, zero, suc, ◌+◌, Bool, true, false, not, ◌&&◌, ◌||◌, eqb, List, [], ◌∷◌, refl, arith, ap, sym, ◌∙◌}
use Rattle.std.proofs.lemmas.Bool.Decides.{nat_tests}
use mathlib.Core.Option.{some, some-ne-none, some-injective}
use lib.ListN.{get_elem?}
use Rattle.round_model.specs.declared.entry.Entry.{Entry}
use Rattle.round_model.specs.declared.entry.Entry.TheVariants as entry

-- whether the entry is the Round of that number
abbrev pub is_round_of : ℕ → Entry → Bool
is_round_of number (entry.Round n) = eqb n number
is_round_of number (entry.Enter thread by at reads) = false
is_round_of number (entry.Wake thread by at reads) = false
is_round_of number (entry.Work by what) = false
is_round_of number (entry.Steal by from threads reads) = false
is_round_of number (entry.Fail by from reads) = false
is_round_of number (entry.Pass by reads) = false

-- whether that Round stands at `at` alone, the first entry standing at k
abbrev pub stands_alone : ℕ → ℕ → ℕ → List Entry → Bool
stands_alone number at k [] = true
stands_alone number at k (e ∷ es) = (not (is_round_of number e) || eqb k at) && stands_alone number at (suc k) es

here : (a b rest : Bool) → ((not a || b) && rest) ≡ true → a ≡ true → b ≡ true
here true true rest test is = refl
here true false rest test is = absurd (cc)
here false b rest test is = absurd (cc)

rest_of : (a rest : Bool) → (a && rest) ≡ true → rest ≡ true
rest_of true rest test = test
rest_of false rest test = absurd (cc)

alone : (number at k : ℕ) (es : List Entry) → stands_alone number at k es ≡ true → (j : ℕ) → get_elem? es j ≡ some (entry.Round number) → k + j ≡ at
alone number at k [] test j is = absurd (some-ne-none (entry.Round number) (sym is))
alone number at k (e ∷ es) test zero is =
    let same : e ≡ entry.Round number = some-injective e (entry.Round number) is in
    let itself : is_round_of number e ≡ true = ap (is_round_of number) same ∙ (let equal : eqb number number ≡ true = grind (arith, nat_tests) in equal) in
    let at_k : eqb k at ≡ true = here (is_round_of number e) (eqb k at) (stands_alone number at (suc k) es) test itself in
    grind (arith, nat_tests)
alone number at k (e ∷ es) test (suc j) is =
    let further = alone number at (suc k) es (rest_of (not (is_round_of number e) || eqb k at) (stands_alone number at (suc k) es) test) j is in omega arith

pub begins_alone : (number at : ℕ) (history : List Entry) → stands_alone number at 0 history ≡ true → (j : ℕ) → get_elem? history j ≡ some (entry.Round number) → j ≡ at
begins_alone number at history test j is = let found = alone number at 0 history test j is in omega arith
