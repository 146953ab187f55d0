-- The cores that the entries of a legal history touch are there.
use Rattle.std.proofs.Common.{◌≡◌, ℕ, ◌<◌, ◌||◌, eqb, Bool, true, false, List, [], ◌∷◌, All, IfSome, Option, Some, None, refl, sym, subst, arith}
use Rattle.std.proofs.lemmas.Bool.Decides.{nat_tests}
use Rattle.policy_tree.specs.Meaning.{Meaning}
use Rattle.round_model.specs.declared.entry.Entry.{Entry}
use Rattle.round_model.specs.declared.entry.Entry.TheVariants as entry
use Rattle.round_model.specs.declared.plan.Plan.{Plan}
use Rattle.round_model.specs.Attempts.{attempt_of, attempt_with, moves_of, steal_or_fail}
use Rattle.round_model.specs.Choices.{choice_of}
use Rattle.round_model.specs.Cores.{Cores}
use Rattle.round_model.specs.Entries.{touches}
use Rattle.round_model.specs.Legal.{Legal, LegalNext}
use Rattle.round_model.specs.Reads.{read_values}
use Rattle.round_model.specs.Rows.{Row}
use Rattle.round_model.specs.Scenes.{scene_of}
use Rattle.round_model.proofs.Histories.{legal_induction}
use Rattle.round_model.proofs.Keeping.{All-append, All-one}
use Rattle.round_model.proofs.Outcomes.{choice_there}
use Rattle.round_model.proofs.There.{acts_there, are_there}

one_of : (a c n : ℕ) → eqb a c ≡ true → a < n → c < n
one_of a c n is there = let same : a ≡ c = grind (arith, nat_tests) in omega arith

one_of_two : (a b c n : ℕ) → (eqb a c || eqb b c) ≡ true → a < n → b < n → c < n
one_of_two a b c n is first second = by_first (eqb a c) refl is
  where
    by_first : (x : Bool) → eqb a c ≡ x → (x || eqb b c) ≡ true → c < n
    by_first true e is = one_of a c n e first
    by_first false e is = one_of b c n is second

-- the victim of an attempt that fails
failed_at : (p : Meaning) (plan : Plan) (m : Cores) (a from : ℕ) (reads : List ℕ) (chosen : Option ℕ)
    → entry.Fail a from reads ≡ attempt_with p plan m a reads chosen → IfSome chosen (λ v. v < plan.cores) → from < plan.cores
failed_at p plan m a from reads None is there = absurd (cc)
failed_at p plan m a from reads (Some v) is there = by_moves (moves_of p plan a v p.batch (m a) (m v)) is
  where
    by_moves : (moves : List ℕ) → entry.Fail a from reads ≡ steal_or_fail a v reads moves → from < plan.cores
    by_moves [] is = let same : from ≡ v = cc in subst (λ c. c < plan.cores) (sym same) there
    by_moves (id ∷ ids) is = absurd (cc)

fail_there : (p : Meaning) (plan : Plan) (h : List Entry) (by from : ℕ) (reads : List ℕ) → LegalNext p plan h (entry.Fail by from reads) → from < plan.cores
unfolding LegalNext Row attempt_of
fail_there p plan h by from reads legal =
    let s = scene_of p plan h by in let values = read_values plan s.seen reads in
    failed_at p plan s.cores by from reads (choice_of p plan.cores values by) legal.row.outcome (choice_there p plan.cores values by)

pub touched_next : (p : Meaning) (plan : Plan) (h : List Entry) (e : Entry) → LegalNext p plan h e → (c : ℕ) → touches c e ≡ true → c < plan.cores
unfolding touches
touched_next p plan h (entry.Round number) legal c is = absurd (cc)
touched_next p plan h (entry.Enter thread by at reads) legal c is = one_of at c plan.cores is (are_there p plan h (entry.Enter thread by at reads) legal)
touched_next p plan h (entry.Wake thread by at reads) legal c is =
    let there = are_there p plan h (entry.Wake thread by at reads) legal in one_of_two by at c plan.cores is there.0 there.1
touched_next p plan h (entry.Work by what) legal c is = one_of by c plan.cores is (are_there p plan h (entry.Work by what) legal)
touched_next p plan h (entry.Steal by from threads reads) legal c is =
    let there = are_there p plan h (entry.Steal by from threads reads) legal in one_of_two by from c plan.cores is there.0 there.1.0
touched_next p plan h (entry.Fail by from reads) legal c is =
    one_of_two by from c plan.cores is (acts_there p plan h (entry.Fail by from reads) by refl legal) (fail_there p plan h by from reads legal)
touched_next p plan h (entry.Pass by reads) legal c is = one_of by c plan.cores is (acts_there p plan h (entry.Pass by reads) by refl legal)

-- the cores that the entry touches are among those of the plan
AreTouched : Plan → Entry → Type 0
AreTouched plan e = (c : ℕ) → touches c e ≡ true → c < plan.cores

pub touched_there : (p : Meaning) (plan : Plan) (h : List Entry) → Legal p plan h → All (λ (e : Entry). (c : ℕ) → touches c e ≡ true → c < plan.cores) h
unfolding AreTouched
touched_there p plan h legal =
    legal_induction p plan (All (AreTouched plan)) (λ k d inside. absurd (omega arith))
    (λ g e so_far next each. All-append (AreTouched plan) g (e ∷ []) each (All-one (AreTouched plan) e (touched_next p plan g e next))) h legal
