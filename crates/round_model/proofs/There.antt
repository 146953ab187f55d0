-- The cores that a legal entry names are there.
use Rattle.std.proofs.Common.{◌≡◌, ◌≢◌, ℕ, ◌<◌, List, [], ◌∷◌, IfSome, Option, Some, None, ap, subst}
use Rattle.policy_tree.specs.Meaning.{Meaning}
use Rattle.round_model.specs.declared.entry.Entry.{Entry}
use Rattle.round_model.specs.declared.entry.Entry.TheVariants as entry
use Rattle.round_model.specs.declared.plan.Plan.{Plan}
use Rattle.round_model.specs.Attempts.{attempt_of, attempt_with, moves_of, steal_or_fail}
use Rattle.round_model.specs.Choices.{choice_of}
use Rattle.round_model.specs.Cores.{Cores}
use Rattle.round_model.specs.Entries.{acting_core}
use Rattle.round_model.specs.Legal.{LegalNext}
use Rattle.round_model.specs.Reads.{read_values}
use Rattle.round_model.specs.Rows.{Row}
use Rattle.round_model.specs.Scenes.{scene_of}
use Rattle.round_model.specs.Fitting.{AreThere}
use Rattle.round_model.proofs.Outcomes.{choice_other, target_there}

-- the core that acts
pub acts_there : (p : Meaning) (plan : Plan) (h : List Entry) (e : Entry) (by : ℕ) → acting_core e ≡ Some by → LegalNext p plan h e → by < plan.cores
unfolding LegalNext Row
acts_there p plan h (entry.Round number) by is legal = absurd (cc)
acts_there p plan h (entry.Enter thread a at reads) by is legal = let same : a ≡ by = cc in subst (λ c. c < plan.cores) same legal.row.core
acts_there p plan h (entry.Wake thread a at reads) by is legal = let same : a ≡ by = cc in subst (λ c. c < plan.cores) same legal.row.core
acts_there p plan h (entry.Work a what) by is legal = let same : a ≡ by = cc in subst (λ c. c < plan.cores) same legal.row.core
acts_there p plan h (entry.Steal a from threads reads) by is legal = let same : a ≡ by = cc in subst (λ c. c < plan.cores) same legal.row.core
acts_there p plan h (entry.Fail a from reads) by is legal = let same : a ≡ by = cc in subst (λ c. c < plan.cores) same legal.row.core
acts_there p plan h (entry.Pass a reads) by is legal = let same : a ≡ by = cc in subst (λ c. c < plan.cores) same legal.row.core

-- the victim of a steal is the core that was chosen
stolen_from : (p : Meaning) (plan : Plan) (m : Cores) (a from : ℕ) (threads reads : List ℕ) (chosen : Option ℕ)
    → entry.Steal a from threads reads ≡ attempt_with p plan m a reads chosen → chosen ≡ Some from
stolen_from p plan m a from threads reads None is = absurd (cc)
stolen_from p plan m a from threads reads (Some v) is = by_moves (moves_of p plan a v p.batch (m a) (m v)) is
  where
    by_moves : (moves : List ℕ) → entry.Steal a from threads reads ≡ steal_or_fail a v reads moves → Some v ≡ Some from
    by_moves [] is = absurd (cc)
    by_moves (id ∷ ids) is = let same : v ≡ from = cc in ap Some same

-- the cores that the entry changes
pub are_there : (p : Meaning) (plan : Plan) (h : List Entry) (e : Entry) → LegalNext p plan h e → AreThere plan.cores e
unfolding LegalNext Row attempt_of
are_there p plan h (entry.Round number) legal = tt
are_there p plan h (entry.Enter thread by at reads) legal =
    let s = scene_of p plan h by in
    subst (λ (o : Option ℕ). IfSome o (λ v. v < plan.cores)) legal.row.placement.target (target_there p plan.cores (read_values plan s.seen reads) by legal.row.core)
are_there p plan h (entry.Wake thread by at reads) legal =
    let s = scene_of p plan h by in
    (legal.row.core, subst (λ (o : Option ℕ). IfSome o (λ v. v < plan.cores)) legal.row.placement.target (target_there p plan.cores (read_values plan s.seen reads) by legal.row.core))
are_there p plan h (entry.Work by what) legal = legal.row.core
are_there p plan h (entry.Steal by from threads reads) legal =
    let s = scene_of p plan h by in let values = read_values plan s.seen reads in
    let chosen = stolen_from p plan s.cores by from threads reads (choice_of p plan.cores values by) legal.row.outcome in
    let found = subst (λ (o : Option ℕ). IfSome o (λ v. (v < plan.cores) × (by ≢ v))) chosen (choice_other p plan.cores values by) in
    (legal.row.core, found)
are_there p plan h (entry.Fail by from reads) legal = tt
are_there p plan h (entry.Pass by reads) legal = tt
