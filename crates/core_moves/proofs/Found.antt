-- What a legal entry names is there: the thread that enters, that wakes or that is stolen, and the cores that it touches.
use Rattle.std.proofs.Common.{◌≡◌, ℕ, ◌==◌, Bool, cond, true, false, List, [], ◌∷◌, find, IsSome, Option, Some, None, refl, sym, ap, ◌∙◌, arith}
use Rattle.std.specs.Prelude.{IsSomeAnd}
use Rattle.std.proofs.lemmas.Bool.Decides.{nat_tests}
use Rattle.policy_tree.specs.Meaning.{Meaning}
use Rattle.round_model.specs.declared.entry.Entry.{Entry}
use Rattle.round_model.specs.declared.entry.Entry.TheVariants as entry
use Rattle.round_model.specs.declared.plan.Plan.{Plan}
use Rattle.round_model.specs.declared.plan.Planned.{Planned}
use Rattle.round_model.specs.declared.state.Blocked.{Blocked}
use Rattle.round_model.specs.declared.state.ModelCore.{ModelCore}
use Rattle.round_model.specs.After.{after, round_of}
use Rattle.round_model.specs.Legal.{LegalNext}
use Rattle.round_model.specs.Moves.{blocked_of, is_blocked_task}
use Rattle.round_model.specs.Programs.{planned_of}
use Rattle.round_model.specs.Rows.{Row}
use Rattle.round_model.specs.Scenes.{entering_next, is_due_blocked, is_entering, own_entries, scene_of, waking_next}

-- an item that one test finds and another passes is found by that one too, or another in front of it
also_found : {X : Type 0} (first second : X → Bool) (xs : List X) (x : X) → find first xs ≡ Some x → second x ≡ true → IsSome (find second xs)
also_found first second [] x is passes = absurd (cc)
also_found first second (y ∷ ys) x is passes =
    elim (second y) as (λ b. second y ≡ b → IsSome (cond b (Some y) (find second ys))) [
      | true ↦ λ e. refl
      | false ↦ λ e. elim (first y) as (λ a. cond a (Some y) (find first ys) ≡ Some x → IsSome (find second ys)) [
        | true ↦ λ found. let same : y ≡ x = cc in let both : false ≡ true = sym e ∙ (ap second same ∙ passes) in absurd (cc)
        | false ↦ λ found. also_found first second ys x found passes
      ] is
    ] refl

some_of : {X : Type 0} (P : X → Type 0) (o : Option X) → IsSomeAnd o P → (x : X) × (o ≡ Some x) × P x
some_of P None is = absurd is
some_of P (Some x) is = (x, refl, is)

-- the thread that enters is one of the plan
pub enters_planned : (plan : Plan) (round a thread : ℕ) (own : List Entry) → IsSomeAnd (entering_next plan round a own) (λ (t : Planned). t.id ≡ thread) → IsSome (planned_of plan thread)
unfolding entering_next
enters_planned plan round a thread own next =
    let found = some_of (λ (t : Planned). t.id ≡ thread) (entering_next plan round a own) next in let named = found.2 in
    also_found (is_entering round a own) (λ (t : Planned). t.id == thread) plan.threads found.0 found.1 (grind (arith, nat_tests))

-- the thread that wakes is blocked
pub wakes_blocked : (round thread : ℕ) (core : ModelCore) → IsSomeAnd (waking_next round core) (λ (b : Blocked). b.task.id ≡ thread) → IsSome (blocked_of thread core)
unfolding waking_next
wakes_blocked round thread core next =
    let found = some_of (λ (b : Blocked). b.task.id ≡ thread) (waking_next round core) next in let named = found.2 in
    also_found (is_due_blocked round) (is_blocked_task thread) core.blocked found.0 found.1 (grind (arith, nat_tests))

pub enter_planned : (p : Meaning) (plan : Plan) (h : List Entry) (thread by at : ℕ) (reads : List ℕ) → LegalNext p plan h (entry.Enter thread by at reads)
    → IsSome (planned_of plan thread)
unfolding LegalNext Row scene_of
enter_planned p plan h thread by at reads legal = enters_planned plan (round_of h) by thread (own_entries h by) legal.row.next

pub wake_blocked : (p : Meaning) (plan : Plan) (h : List Entry) (thread by at : ℕ) (reads : List ℕ) → LegalNext p plan h (entry.Wake thread by at reads)
    → IsSome (blocked_of thread (after p plan h by))
unfolding LegalNext Row scene_of
wake_blocked p plan h thread by at reads legal = wakes_blocked (round_of h) thread (after p plan h by) legal.row.next
