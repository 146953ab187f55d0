-- A history is legal where each entry is legal after those before it, entry by entry.
use Rattle.std.proofs.Common.{◌≡◌, ℕ, zero, suc, Bool, true, false, ◌&&◌, leb, List, [], ◌∷◌, ◌++◌, All, refl, sym, subst, arith}
use Rattle.std.specs.List.{list_all}
use Rattle.std.proofs.lemmas.List.{append-nil, append_assoc}
use Rattle.std.proofs.lemmas.Bool.Decides.{nat_tests}
use mathlib.Core.Option.{some-ne-none}
use Rattle.policy_tree.specs.Meaning.{Meaning}
use Rattle.round_model.specs.declared.entry.Entry.{Entry}
use Rattle.round_model.specs.declared.plan.Plan.{Plan}
use Rattle.round_model.specs.Legal.{Legal, LegalNext}
use Rattle.round_model.specs.Reads.{IsReadOf}
use Rattle.round_model.proofs.Grows.{legal_grows}

-- each of these entries is legal after those done and the ones before it
abbrev pub LegalFrom : Meaning → Plan → List Entry → List Entry → Type 0
LegalFrom p plan done [] = Unit {0}
LegalFrom p plan done (e ∷ es) = LegalNext p plan done e × LegalFrom p plan (done ++ e ∷ []) es

pub nothing_legal : (p : Meaning) (plan : Plan) → Legal p plan []
nothing_legal p plan k e is = absurd (some-ne-none e (sym is))

pub legal_from : (p : Meaning) (plan : Plan) (done todo : List Entry) → Legal p plan done → LegalFrom p plan done todo → Legal p plan (done ++ todo)
legal_from p plan done [] legal steps = subst (Legal p plan) (sym (append-nil done)) legal
legal_from p plan done (e ∷ es) legal steps =
    subst (Legal p plan) (append_assoc done (e ∷ []) es) (legal_from p plan (done ++ e ∷ []) es (legal_grows.grows p plan done e legal steps.0) steps.1)

-- a walk from the empty history
pub legal_walk : (p : Meaning) (plan : Plan) (history : List Entry) → LegalFrom p plan [] history → Legal p plan history
legal_walk p plan history steps = legal_from p plan [] history (nothing_legal p plan) steps

-- the test of the reads of an entry
abbrev pub is_read_of : ℕ → ℕ → ℕ → Bool
is_read_of start position p = leb start p && leb p position

is_read_of-true : (start position p : ℕ) → is_read_of start position p ≡ true → IsReadOf start position p
is_read_of-true start position p test = record { in_round = grind (arith, nat_tests); before_entry = grind (arith, nat_tests) }

and_true : (a b : Bool) → (a && b) ≡ true → (a ≡ true) × (b ≡ true)
and_true true b e = (refl, e)
and_true false b e = absurd (cc)

pub reads_within : (start position : ℕ) (reads : List ℕ) → list_all (is_read_of start position) reads ≡ true → All (IsReadOf start position) reads
reads_within start position [] test k d inside = absurd (omega arith)
reads_within start position (r ∷ rs) test zero d inside = is_read_of-true start position r (and_true (is_read_of start position r) (list_all (is_read_of start position) rs) test).0
reads_within start position (r ∷ rs) test (suc k) d inside =
    reads_within start position rs (and_true (is_read_of start position r) (list_all (is_read_of start position) rs) test).1 k d (omega arith)
