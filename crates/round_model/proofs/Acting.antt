-- What an entry of an acting core is and says.
use Rattle.std.proofs.Common.{◌≡◌, eqb, ℕ, ◌||◌, Bool, true, false, List, Some, refl, ap}
use Rattle.policy_tree.specs.Meaning.{Meaning}
use Rattle.round_model.specs.declared.entry.Entry.{Entry}
use Rattle.round_model.specs.declared.entry.Entry.TheVariants as entry
use Rattle.round_model.specs.declared.plan.Plan.{Plan}
use Rattle.round_model.specs.After.{after, round_after, round_of}
use Rattle.round_model.specs.Entries.{acting_core, acts}
use Rattle.round_model.specs.Kinds.{is_round}
use Rattle.round_model.specs.Legal.{LegalNext}
use Rattle.round_model.specs.Rows.{Row}
use Rattle.round_model.specs.Scenes.{scene_of}
use Rattle.round_model.specs.Fitting.{MayBeSaid}

-- an entry with an acting core begins no round
pub no_round : (e : Entry) (by : ℕ) → acting_core e ≡ Some by → is_round e ≡ false
no_round (entry.Round number) by is = absurd (cc)
no_round (entry.Enter thread a at reads) by is = refl
no_round (entry.Wake thread a at reads) by is = refl
no_round (entry.Work a what) by is = refl
no_round (entry.Steal a from threads reads) by is = refl
no_round (entry.Fail a from reads) by is = refl
no_round (entry.Pass a reads) by is = refl

pub round_stays : (e : Entry) (by round : ℕ) → acting_core e ≡ Some by → round_after round e ≡ round
round_stays (entry.Round number) by round is = absurd (cc)
round_stays (entry.Enter thread a at reads) by round is = refl
round_stays (entry.Wake thread a at reads) by round is = refl
round_stays (entry.Work a what) by round is = refl
round_stays (entry.Steal a from threads reads) by round is = refl
round_stays (entry.Fail a from reads) by round is = refl
round_stays (entry.Pass a reads) by round is = refl

-- what a legal entry says of a unit is what the unit comes to
pub legal_said : (p : Meaning) (plan : Plan) (h : List Entry) (e : Entry) → LegalNext p plan h e → MayBeSaid p plan (round_of h) (after p plan h) e
unfolding LegalNext Row scene_of
legal_said p plan h (entry.Round number) legal = tt
legal_said p plan h (entry.Enter thread a at reads) legal = tt
legal_said p plan h (entry.Wake thread a at reads) legal = tt
legal_said p plan h (entry.Work a what) legal = legal.row.outcome
legal_said p plan h (entry.Steal a from threads reads) legal = tt
legal_said p plan h (entry.Fail a from reads) legal = tt
legal_said p plan h (entry.Pass a reads) legal = tt

pub or_nothing : (b : Bool) → (b || false) ≡ b
or_nothing true = refl
or_nothing false = refl

pub acts_is : (e : Entry) (by k : ℕ) → acting_core e ≡ Some by → acts k e ≡ eqb by k
unfolding acts
acts_is (entry.Round number) by k is = absurd (cc)
acts_is (entry.Enter thread a at reads) by k is = let same : a ≡ by = cc in ap (λ c. eqb c k) same
acts_is (entry.Wake thread a at reads) by k is = let same : a ≡ by = cc in ap (λ c. eqb c k) same
acts_is (entry.Work a what) by k is = let same : a ≡ by = cc in ap (λ c. eqb c k) same
acts_is (entry.Steal a from threads reads) by k is = let same : a ≡ by = cc in ap (λ c. eqb c k) same
acts_is (entry.Fail a from reads) by k is = let same : a ≡ by = cc in ap (λ c. eqb c k) same
acts_is (entry.Pass a reads) by k is = let same : a ≡ by = cc in ap (λ c. eqb c k) same
