-- A directory that is filled from the plan's last thread to its first.
use Rattle.std.proofs.Common.{◌≡◌, ◌≢◌, ℕ, suc, ◌+◌, ◌==◌, ◌<◌, ◌≤◌, Bool, true, false, cond, eqb, List, [], ◌∷◌, length, drop, set, find, slice_get, Option, Some, None, option_and_then, refl, sym, ap, ◌∙◌, arith, ⊎_elim, get_or-set_same, get_or-set_other}
use Rattle.std.proofs.lemmas.Bool.{cases_lt}
use Rattle.std.proofs.lemmas.Bool.Decides.{nat_tests}
use Rattle.std.proofs.lemmas.List.{get_or_past}
use Rattle.std.proofs.Math.ListN.{length-set}
use Rattle.sched_base.specs.declared.limits.TheConstants.{MAX_THREADS}
use Rattle.policy_tree.specs.Meaning.{Meaning}
use Rattle.round_model.specs.declared.plan.Plan.{Plan}
use Rattle.round_model.specs.declared.plan.Planned.{Planned}
use Rattle.round_model.specs.Fits.{Fits, ThreadFits}
use Rattle.round_model.specs.Lists.{Lists, place_in}
use Rattle.round_model.proofs.Elections.{drop_here}
use Rattle.round_model.proofs.Finding.{All-at}

abbrev pub is_thread : ℕ → Planned → Bool
is_thread id t = t.id == id

-- of the threads from `at` on the directory has the first of each number that it has room for
pub record LeadsFrom (threads : List Planned) (directory : List (Option ℕ)) (at : ℕ) : Type 0 where
  pub leads : (id : ℕ) → id < length directory → find (is_thread id) (drop at threads) ≡ option_and_then (slice_get threads) (place_in directory id)

-- a thread more in front, which is written over what stood there
pub LeadsFrom-more : (threads : List Planned) (directory : List (Option ℕ)) (at : ℕ) (t : Planned) → slice_get threads at ≡ Some t
    → LeadsFrom threads directory (suc at) → LeadsFrom threads (set directory t.id (Some at)) at
LeadsFrom-more threads directory at t is from = record {
  leads = λ id inside.
      let front = ap (find (is_thread id)) (drop_here threads at t is) in
      elim (eqb t.id id) as (λ b. eqb t.id id ≡ b → find (is_thread id) (drop at threads) ≡ option_and_then (slice_get threads) (place_in (set directory t.id (Some at)) id)) [
        | true ↦ λ e.
            let same : id ≡ t.id = grind (arith, nat_tests) in
            let room : t.id < length directory = omega (arith, length-set directory t.id (Some at)) in
            let written : place_in (set directory t.id (Some at)) id ≡ Some at = ap (place_in (set directory t.id (Some at))) same ∙ get_or-set_same directory t.id (Some at) None room in
            front ∙ (ap (λ b. cond b (Some t) (find (is_thread id) (drop (suc at) threads))) e ∙ (sym is ∙ sym (ap (option_and_then (slice_get threads)) written)))
        | false ↦ λ e.
            let other : id ≢ t.id = grind (arith, nat_tests) in
            let kept : place_in (set directory t.id (Some at)) id ≡ place_in directory id = get_or-set_other directory t.id id (Some at) None other in
            let within : id < length directory = omega (arith, length-set directory t.id (Some at)) in
            front ∙ (ap (λ b. cond b (Some t) (find (is_thread id) (drop (suc at) threads))) e ∙ (from.leads id within ∙ sym (ap (option_and_then (slice_get threads)) kept)))
      ] refl;
}

-- a thread more in front whose number the directory has no room for
pub LeadsFrom-past : (threads : List Planned) (directory : List (Option ℕ)) (at : ℕ) (t : Planned) → slice_get threads at ≡ Some t
    → length directory ≤ t.id → LeadsFrom threads directory (suc at) → LeadsFrom threads directory at
LeadsFrom-past threads directory at t is past from = record {
  leads = λ id inside.
      let other : eqb t.id id ≡ false = grind (arith, nat_tests) in
      ap (find (is_thread id)) (drop_here threads at t is)
      ∙ (ap (λ b. cond b (Some t) (find (is_thread id) (drop (suc at) threads))) other ∙ from.leads id inside);
}

-- no thread of these has the number
nobody : (threads : List Planned) (id : ℕ) → ((k : ℕ) (t : Planned) → slice_get threads k ≡ Some t → t.id < id) → find (is_thread id) threads ≡ None
nobody [] id less = refl
nobody (t ∷ threads) id less =
    let below = less 0 t refl in let other : eqb t.id id ≡ false = grind (arith, nat_tests) in
    ap (λ b. cond b (Some t) (find (is_thread id) threads)) other ∙ nobody threads id (λ k u is. less (suc k) u is)

small_ids : (p : Meaning) (plan : Plan) → Fits p plan → (k : ℕ) (t : Planned) → slice_get plan.threads k ≡ Some t → t.id ≤ MAX_THREADS
small_ids p plan fits k t is = (All-at (ThreadFits p plan.cores) plan.threads fits.threads k t is).id_small

-- the directory of all threads
pub lists_all : (plan : Plan) (directory : List (Option ℕ)) → length directory ≡ MAX_THREADS + 1 → LeadsFrom plan.threads directory 0
    → (p : Meaning) → Fits p plan → Lists plan directory
lists_all plan directory room from p fits id = ⊎_elim
    (λ inside. from.leads id inside)
    (λ past. nobody plan.threads id (λ k t is. let small = small_ids p plan fits k t is in omega arith)
    ∙ sym (ap (option_and_then (slice_get plan.threads)) (get_or_past directory id None past)))
    (cases_lt id (length directory))
