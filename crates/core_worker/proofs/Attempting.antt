-- What an attempt is, and what it is not.
use Rattle.std.proofs.Common.{◌≡◌, ◌≢◌, ℕ, ◌<◌, true, false, List, IfSome, Option, Some, None, refl, sym, subst}
use Rattle.policy_tree.specs.Meaning.{Meaning}
use Rattle.policy_eval.specs.declared.env.CoreValues.{CoreValues}
use Rattle.round_model.specs.declared.entry.Entry.{Entry}
use Rattle.round_model.specs.declared.entry.Entry.TheVariants as entry
use Rattle.round_model.specs.declared.plan.Plan.{Plan}
use Rattle.round_model.specs.Attempts.{attempt_with, moves_of}
use Rattle.round_model.specs.Choices.{choice_of}
use Rattle.round_model.specs.Cores.{Cores}
use Rattle.round_model.specs.Entries.{ends}
use Rattle.round_model.specs.Kinds.{is_attempt, is_work}
use Rattle.round_model.proofs.Outcomes.{choice_other}
use Rattle.round_judge.specs.declared.past.Arrival.{Arrival}
use Rattle.round_judge.specs.Additions.{arrivals_after}
use Rattle.core_moves.proofs.Stealing.{tries}

-- an attempt is one of the core that makes it
pub attempts : (p : Meaning) (plan : Plan) (m : Cores) (a : ℕ) (reads : List ℕ) (chosen : Option ℕ) → is_attempt (attempt_with p plan m a reads chosen) ≡ true
attempts p plan m a reads None = refl
attempts p plan m a reads (Some v) = tries a v reads (moves_of p plan a v p.batch (m a) (m v))

-- a core is never its own choice
pub chosen_apart : (p : Meaning) (n : ℕ) (values : ℕ → CoreValues) (a : ℕ) (choice : Option ℕ) → choice ≡ choice_of p n values a → IfSome choice (λ v. (v < n) × (a ≢ v))
chosen_apart p n values a choice is = subst (λ (o : Option ℕ). IfSome o (λ v. (v < n) × (a ≢ v))) (sym is) (choice_other p n values a)

-- an attempt is no unit of work
pub no_work : (e : Entry) → is_attempt e ≡ true → is_work e ≡ false
no_work (entry.Round number) is = refl
no_work (entry.Enter thread by at reads) is = refl
no_work (entry.Wake thread by at reads) is = refl
no_work (entry.Work by what) is = absurd (cc)
no_work (entry.Steal by from threads reads) is = refl
no_work (entry.Fail by from reads) is = refl
no_work (entry.Pass by reads) is = refl

-- nobody enters by it
pub leaves_arrivals : (a : ℕ) (e : Entry) → is_attempt e ≡ true → (arrivals : List Arrival) → arrivals_after a e arrivals ≡ arrivals
leaves_arrivals a (entry.Round number) is arrivals = refl
leaves_arrivals a (entry.Enter thread by at reads) is arrivals = absurd (cc)
leaves_arrivals a (entry.Wake thread by at reads) is arrivals = refl
leaves_arrivals a (entry.Work by what) is arrivals = refl
leaves_arrivals a (entry.Steal by from threads reads) is arrivals = refl
leaves_arrivals a (entry.Fail by from reads) is arrivals = refl
leaves_arrivals a (entry.Pass by reads) is arrivals = refl

-- and nobody ends by it
pub ends_nobody : (e : Entry) → is_attempt e ≡ true → (id : ℕ) → ends id e ≡ false
ends_nobody (entry.Round number) is id = refl
ends_nobody (entry.Enter thread by at reads) is id = refl
ends_nobody (entry.Wake thread by at reads) is id = refl
ends_nobody (entry.Work by what) is id = absurd (cc)
ends_nobody (entry.Steal by from threads reads) is id = refl
ends_nobody (entry.Fail by from reads) is id = refl
ends_nobody (entry.Pass by reads) is id = refl
