-- Every state that a legal history leaves is bounded.
use Rattle.std.proofs.Common.{◌≡◌, ◌≢◌, ℕ, suc, ◌+◌, ◌==◌, ◌<◌, ◌≤◌, eqb, Bool, true, false, List, [], ◌∷◌, ◌++◌, length, map, sum_by, count_by, get_or, All, refl, sym, ap, subst, ◌∙◌, arith}
use Rattle.std.specs.Prelude.{AllPairs}
use Rattle.std.proofs.lemmas.Bool.Decides.{nat_tests}
use Rattle.std.proofs.lemmas.List.Sums.{sum_by-cons, sum_by-le-sum_by}
use Rattle.policy_tree.specs.Meaning.{Meaning}
use Rattle.policy_eval.specs.Obligations.{MeetsHandlerObligations}
use Rattle.round_model.specs.declared.entry.Entry.{Entry}
use Rattle.round_model.specs.declared.plan.Plan.{Plan}
use Rattle.round_model.specs.declared.plan.Planned.{Planned}
use Rattle.round_model.specs.declared.state.ModelCore.{ModelCore}
use Rattle.round_model.specs.After.{after, after_from, round_of}
use Rattle.round_model.specs.Bounds.{standing_count, standing_total}
use Rattle.round_model.specs.BoundsLaws.{BoundsLaw, has_entered, is_awaited, named_count, named_total}
use Rattle.round_model.specs.Cores.{Cores, core_numbers, opening_state, tasks_of}
use Rattle.round_model.specs.Fits.{Fits}
use Rattle.round_model.specs.Kept.{Holds}
use Rattle.round_model.specs.Legal.{Legal, LegalNext}
use Rattle.round_model.specs.Moves.{is_blocked_task, is_task}
use Rattle.round_model.specs.Phases.{blocked_places_of, places_of}
use Rattle.round_model.proofs.InBounds.{holds_bounds}
use Rattle.round_model.proofs.Arrived.{entered_grows, entered_name, entered_or_awaited}
use Rattle.round_model.proofs.Awaited.{fresh}
use Rattle.round_model.proofs.Counting.{counted}
use Rattle.round_model.proofs.Gaining.{AllGain, moved_gains, named_comes}
use Rattle.round_model.proofs.Grows.{one_more}
use Rattle.round_model.proofs.Histories.{legal_induction}
use Rattle.round_model.proofs.Keeping.{bounds_hold}
use Rattle.round_model.proofs.Openings.{opening_core}
use Rattle.round_model.proofs.There.{are_there}
use Rattle.round_model.proofs.Totals.{sum_of_both, total, total_has, total_is, total_two}

-- what holds after each entry: the numbers are in range, and no more threads stand than have entered
pub record Stays (p : Meaning) (plan : Plan) (named : ℕ → Bool) (h : List Entry) : Type 0 where
  pub holds : (c : ℕ) → c < plan.cores → Holds p (after p plan h c)
  pub count : total (named_count named) plan.cores (after p plan h) ≤ count_by (entered_name named h) plan.threads

nobody_named : (named : ℕ → Bool) (plan : Plan) (cores : List ℕ) → sum_by (named_count named) (map (opening_state plan) cores) ≡ 0
unfolding opening_state
nobody_named named plan [] = refl
nobody_named named plan (c ∷ cores) = omega (arith, sum_by-cons (named_count named) (opening_state plan c) (map (opening_state plan) cores), nobody_named named plan cores)

module _ (p : Meaning) (plan : Plan) (fits : Fits p plan) (handlers : MeetsHandlerObligations p) (named : ℕ → Bool) where
  stays_opening : Stays p plan named []
  unfolding after_from
  stays_opening = record {
    holds = λ c there. bounds_hold p (opening_state plan c) (opening_core p plan fits c there);
    count = omega (arith, nobody_named named plan (core_numbers plan));
  }

  stays_more : (h : List Entry) (e : Entry) → Legal p plan h → LegalNext p plan h e → Stays p plan named h → Stays p plan named (h ++ e ∷ [])
  stays_more h e so_far legal stays =
      let gain = moved_gains p plan fits handlers named (round_of h) (after p plan h) stays.holds e (are_there p plan h e legal) in
      let here = subst (AllGain p named plan.cores (named_comes named e) (after p plan h)) (sym (one_more p plan h e)) gain in
      record {
        holds = here.holds;
        count = let one = here.count in let two = stays.count in let three = entered_grows named p plan fits h so_far e legal in omega arith;
      }

  pub stays : (h : List Entry) → Legal p plan h → Stays p plan named h
  stays h legal = legal_induction p plan (Stays p plan named) stays_opening stays_more h legal

nobody_at : (plan : Plan) (c : ℕ) → standing_count (opening_state plan c) ≡ 0
unfolding opening_state
nobody_at plan c = refl

-- every number
count_all : {X : Type 0} (xs : List X) → count_by (λ x. true) xs ≡ length xs
count_all [] = refl
count_all (x ∷ xs) = omega (arith, sum_by-cons (λ y. counted true) x xs, count_all xs)

standing_named : (core : ModelCore) → named_count (λ id. true) core ≡ standing_count core
standing_named core = omega (arith, count_all (tasks_of core), count_all core.blocked)

pub total_standing : (plan : Plan) (m : Cores) → standing_total plan m ≡ total (named_count (λ id. true)) plan.cores m
total_standing plan m =
    total_is standing_count plan.cores m
    ∙ both (sum_by-le-sum_by standing_count (named_count (λ id. true)) (map m (core_numbers plan)) (λ core. omega (arith, standing_named core)))
    (sum_by-le-sum_by (named_count (λ id. true)) standing_count (map m (core_numbers plan)) (λ core. omega (arith, standing_named core)))
  where
    both : {a b : ℕ} → a ≤ b → b ≤ a → a ≡ b
    both first second = omega arith

-- one number stands once at most among different ones
named_never : (id : ℕ) (threads : List Planned) → All (λ (t : Planned). t.id ≢ id) threads → count_by (λ (t : Planned). t.id == id) threads ≡ 0
named_never id [] never = refl
named_never id (t ∷ threads) never =
    let apart : t.id ≢ id = never 0 t (omega arith) in
    let other : eqb t.id id ≡ false = grind (arith, nat_tests) in
    let here : counted (eqb t.id id) ≡ 0 = ap counted other in
    omega (arith, sum_by-cons (λ (x : Planned). counted (x.id == id)) t threads, named_never id threads (λ k d inside. never (suc k) d (omega arith)))

pub named_once : (id : ℕ) (threads : List Planned) → AllPairs (λ (t u : Planned). t.id ≢ u.id) threads → count_by (λ (t : Planned). t.id == id) threads ≤ 1
named_once id [] distinct = omega arith
named_once id (t ∷ threads) distinct =
    let cons = sum_by-cons (λ (x : Planned). counted (x.id == id)) t threads in
    elim (eqb t.id id) as (λ b. eqb t.id id ≡ b → count_by (λ (x : Planned). x.id == id) (t ∷ threads) ≤ 1) [
      | true ↦ λ is.
          let here : counted (eqb t.id id) ≡ 1 = ap counted is in
          let same : t.id ≡ id = grind (arith, nat_tests) in
          let none = named_never id threads (λ k d inside. subst (λ (i : ℕ). (get_or threads k d).id ≢ i) same (λ equal. distinct 0 (suc k) d (omega arith) (omega arith) (sym equal))) in
          omega arith
      | false ↦ λ is.
          let here : counted (eqb t.id id) ≡ 0 = ap counted is in
          let rest = named_once id threads (λ i j d before inside. distinct (suc i) (suc j) d (omega arith) (omega arith)) in
          omega arith
    ] refl

-- the places of one number
places_are : (plan : Plan) (m : Cores) (id : ℕ) → places_of plan m id + blocked_places_of plan m id ≡ named_total (λ n. n == id) plan m
places_are plan m id =
    let named : ℕ → Bool = λ n. n == id in
    let tasks : ModelCore → ℕ = λ core. count_by (is_task id) (tasks_of core) in
    let blocked : ModelCore → ℕ = λ core. count_by (is_blocked_task id) core.blocked in
    omega (arith, total_is tasks plan.cores m, total_is blocked plan.cores m, total_is (named_count named) plan.cores m, sum_of_both tasks blocked (map m (core_numbers plan)))

pub bounds_law : BoundsLaw
bounds_law p plan h fits handlers legal =
    let every = stays p plan fits handlers (λ id. true) h legal in
    let m = after p plan h in
    let new = fresh p plan fits h legal in
    let standing = total_standing plan m in
    let of_names : (named : ℕ → Bool) → named_total named plan m ≤ count_by (entered_name named h) plan.threads =
    λ named. let count = (stays p plan fits handlers named h legal).count in omega (arith, total_is (named_count named) plan.cores m) in
    let entered : standing_total plan m ≤ count_by (has_entered h) plan.threads = let count = every.count in omega arith in
    let room : standing_total plan m + count_by (is_awaited h) plan.threads ≤ length plan.threads =
    let both = entered_or_awaited (λ id. true) h plan.threads new in omega (arith, count_all plan.threads) in
    record {
      bounds = record {
        total = omega arith;
        each = λ c there.
            let few = total_has (named_count (λ id. true)) plan.cores m c there in
            holds_bounds p (m c) (every.holds c there) (omega (arith, standing_named (m c), fits.few_threads));
      };
      two_cores = λ a b first second apart.
          let few = total_two standing_count plan.cores m a b (opening_state plan a) (nobody_at plan a) first second apart in
          omega (arith, total_is standing_count plan.cores m);
      entered = entered;
      of_names = of_names;
      fresh = new;
      room = room;
      once = λ id.
          let named : ℕ → Bool = λ n. n == id in
          let count = of_names named in
          let both = entered_or_awaited named h plan.threads new in
          omega (arith, places_are plan m id, named_once id plan.threads fits.distinct);
    }
