-- The judge's steps: what is summed up is what the moves would leave.
use Rattle.std.proofs.Common.{◌≡◌, ℕ, suc, ◌+◌, ◌-◌, ◌*◌, ◌<◌, ◌≤◌, Bool, true, false, cond, List, [], ◌∷◌, ◌++◌, All, Contains, Option, Some, find, length, option_to_list, sum_by, refl, sym, ap, ap₂, ◌∙◌, subst, arith}
use Rattle.std.proofs.lemmas.List.{length-append}
use Rattle.std.proofs.lemmas.List.Sums.{sum_by-append}
use Rattle.sched_base.specs.declared.limits.TheConstants.{MAX_THREADS}
use Rattle.sched_base.specs.declared.task.Task.{Task}
use Rattle.policy_tree.specs.Meaning.{BatchTree, Meaning}
use Rattle.policy_eval.specs.declared.env.CoreValues.{CoreValues}
use Rattle.policy_eval.specs.Fitting.{CoreFits, IsTask}
use Rattle.policy_eval.specs.Orders.{best_of}
use Rattle.policy_eval.specs.Ranges.{greatest_weight, least_weight}
use Rattle.policy_eval.specs.Sights.{move_values}
use Rattle.policy_eval.specs.Values.{holds}
use Rattle.round_model.specs.declared.plan.Plan.{Plan}
use Rattle.round_model.specs.declared.state.ModelCore.{ModelCore}
use Rattle.round_model.specs.Attempts.{further_moves, kept_if, next_of}
use Rattle.round_model.specs.Bounds.{CoreInBounds}
use Rattle.round_model.specs.Batches.{is_named, unnamed, with_fewer, with_more}
use Rattle.round_model.specs.Cores.{load_of, seen_of, tasks_of, thread_count}
use Rattle.round_model.specs.Moves.{StandOnce, handed, handed_all, is_task, received, received_all, taken_from}
use Rattle.round_model.specs.Reads.{values_of}
use Rattle.round_model.specs.Work.{before}
use Rattle.round_model.proofs.Bests.{best_among}
use Rattle.round_model.proofs.Keeping.{All-append, All-one}
use Rattle.round_model.proofs.MovedOn.{come_more, come_one, fewer_seen_is, found_count-more, found_load-more, leave_more, leave_one, more_seen_is, queue_left}
use Rattle.round_model.proofs.MoveSteps.{next-best, one-further}
use Rattle.round_model.proofs.Once.{best-found, once-left, unnamed-left}
use Rattle.round_judge.specs.Code.Batches.{AreSeen, IsJudged, IsWithin, ShowsCore}
use Rattle.round_judge.proofs.Unnamed.{extra-all, extra-any, first-less, more-less, ones, spare-all, spare-any, sum-alone}

-- what holds of all tasks holds of the best of those that aren't taken
All-unnamed : (P : Task → Type 0) (ids : List ℕ) (ts : List Task) → All P ts → All P (unnamed ids ts)
All-unnamed P ids [] each = each
All-unnamed P ids (t ∷ ts) each = at (is_named ids t.id) (All-unnamed P ids ts (λ k d inside. each (suc k) d (omega arith)))
  where
    at : (b : Bool) → All P (unnamed ids ts) → All P (cond b (unnamed ids ts) (t ∷ unnamed ids ts))
    at true rest = rest
    at false rest = All-append P (t ∷ []) (unnamed ids ts) (All-one P t (each 0 t (omega arith))) rest

pub best-All : (P : Task → Type 0) (first : Task → Task → Bool) (ts : List Task) (t : Task) → All P ts → best_of first ts ≡ Some t → P t
best-All P first ts t each is = let (k, inside, same) : Contains ts t = best_among first ts t is in subst P same (each k t inside)

pub untaken-All : (P : Task → Type 0) (first : Task → Task → Bool) (ids : List ℕ) (ts : List Task) (t : Task) → All P ts → best_of first (unnamed ids ts) ≡ Some t → P t
untaken-All P first ids ts t each is = best-All P first (unnamed ids ts) t (All-unnamed P ids ts each) is

-- no more is taken than is there
pub within-first : (p : Meaning) (victim : ModelCore) (t : Task) → All (IsTask p) victim.queue → best_of (before p.steal) victim.queue ≡ Some t
    → IsWithin p victim 1 (t.id ∷ []) t.weight
within-first p victim t each best =
    record {
      taken = t ∷ [];
      fits = All-one (IsTask p) t (best-All (IsTask p) (before p.steal) victim.queue t each best);
      count = refl;
      many = refl;
      sum = sym (sum-alone (λ (x : Task). x.weight) t);
      part = λ f. omega (arith, sum-alone f t, first-less f (before p.steal) victim.queue t best);
    }

pub within-more : (p : Meaning) (victim : ModelCore) (at : ℕ) (stolen : List ℕ) (load : ℕ) → IsWithin p victim at stolen load → (t : Task)
    → All (IsTask p) victim.queue → best_of (before p.steal) (unnamed stolen victim.queue) ≡ Some t → IsWithin p victim (at + 1) (stolen ++ t.id ∷ []) (load + t.weight)
within-more p victim at stolen load is t each best =
    record {
      taken = is.taken ++ t ∷ [];
      fits = All-append (IsTask p) is.taken (t ∷ []) is.fits (All-one (IsTask p) t (untaken-All (IsTask p) (before p.steal) stolen victim.queue t each best));
      count = length-append stolen (t.id ∷ []) ∙ ap (λ n. n + 1) is.count;
      many = length-append is.taken (t ∷ []) ∙ ap (λ n. n + 1) is.many;
      sum = let w : Task → ℕ = λ x. x.weight in omega (arith, is.sum, sum_by-append w is.taken (t ∷ []), sum-alone w t);
      part = λ f. omega (arith, is.part f, sum_by-append f is.taken (t ∷ []), sum-alone f t, more-less f (before p.steal) stolen victim.queue t best);
    }

-- what is left of so many threads is as light and as heavy as the weights allow
light_of : (d n at least all load : ℕ) → d + at ≡ n → n * least + load ≤ all + at * least → d * least ≤ all - load
light_of d n at least all load is less = let product : (d + at) * least ≡ n * least = ap (λ k. k * least) is in omega (arith, product, less)

heavy_of : (d n at greatest all load : ℕ) → d + at ≡ n → all + at * greatest ≤ n * greatest + load → all - load ≤ d * greatest
heavy_of d n at greatest all load is less = let product : (d + at) * greatest ≡ n * greatest = ap (λ k. k * greatest) is in omega (arith, product, less)

module _ (p : Meaning) (victim : ModelCore) (at : ℕ) (stolen : List ℕ) (load : ℕ) (is : IsWithin p victim at stolen load) where
  taken-part : (f : Task → ℕ) → sum_by f is.taken ≤ sum_by f (tasks_of victim)
  taken-part f = omega (arith, is.part f, sum_by-append f (option_to_list victim.current) victim.queue)

  pub within-load : load ≤ load_of victim
  within-load = omega (arith, is.sum, taken-part (λ (x : Task). x.weight))

  pub within-count : length stolen ≤ thread_count victim
  within-count = omega (arith, is.count, is.many, ones is.taken, ones (tasks_of victim), taken-part (λ (x : Task). 1))

  taken-light : at * least_weight p.load ≤ load
  taken-light =
      let least = least_weight p.load in let many = ap (λ n. n * least) is.many in
      omega (arith, many, is.sum, extra-all least is.taken (λ k d inside. (is.fits k d inside).weight.least))

  taken-heavy : load ≤ at * greatest_weight p.load
  taken-heavy =
      let greatest = greatest_weight p.load in let many = ap (λ n. n * greatest) is.many in
      omega (arith, many, is.sum, spare-all greatest is.taken (λ k d inside. (is.fits k d inside).weight.greatest))

  left-light : CoreInBounds p victim → thread_count victim * least_weight p.load + load ≤ load_of victim + at * least_weight p.load
  left-light bounds =
      let least = least_weight p.load in let many = ap (λ n. n * least) is.many in
      omega (
        arith,
        many,
        is.sum,
        taken-part (λ (x : Task). x.weight - least),
        extra-any least is.taken,
        extra-all least (tasks_of victim) (λ k d inside. (bounds.tasks k d inside).weight.least),
      )

  left-heavy : CoreInBounds p victim → load_of victim + at * greatest_weight p.load ≤ thread_count victim * greatest_weight p.load + load
  left-heavy bounds =
      let greatest = greatest_weight p.load in let many = ap (λ n. n * greatest) is.many in
      omega (
        arith,
        many,
        is.sum,
        taken-part (λ (x : Task). greatest - x.weight),
        spare-any greatest is.taken,
        spare-all greatest (tasks_of victim) (λ k d inside. (bounds.tasks k d inside).weight.greatest),
      )

  module _ (own other : CoreValues) (shows : ShowsCore p other victim) (few : own.nr + other.nr ≤ MAX_THREADS) where
    -- what is seen of both cores stays in its ranges
    pub more_fits : CoreFits p own → (count : ℕ) → count ≡ length stolen → CoreFits p (with_more count load own)
    more_fits fits count same =
        subst (λ (n : ℕ). CoreFits p (with_more n load own)) (sym (same ∙ is.count))
        (record {
          loads = record {
            few = omega (arith, few, within-count, is.count, shows.count);
            light = omega (arith, fits.loads.light, taken-light);
            heavy = omega (arith, fits.loads.heavy, taken-heavy);
          };
          consts = fits.consts;
        })

    pub fewer_fits : (count : ℕ) → count ≡ length stolen → CoreFits p (with_fewer count load other)
    fewer_fits count same =
        let left : (other.nr - count) + at ≡ thread_count victim = omega (arith, same, within-count, is.count, shows.count) in
        record {
          loads = record {
            few = omega (arith, few);
            light = subst (λ (all : ℕ). (other.nr - count) * least_weight p.load ≤ all - load) (sym shows.weight)
                (light_of (other.nr - count) (thread_count victim) at (least_weight p.load) (load_of victim) load left (left-light shows.bounds));
            heavy = subst (λ (all : ℕ). all - load ≤ (other.nr - count) * greatest_weight p.load) (sym shows.weight)
                (heavy_of (other.nr - count) (thread_count victim) at (greatest_weight p.load) (load_of victim) load left (left-heavy shows.bounds));
          };
          consts = shows.fits.consts;
        }

module _ (p : Meaning) (plan : Plan) (a v : ℕ) (b : BatchTree) (thief victim : ModelCore) (once : StandOnce victim.queue) where
  -- what the best thread's number finds in the queue as the moves left it
  left-found : (ids : List ℕ) (t : Task) → next_of p plan a v b (received_all (taken_from ids victim.queue).found thief) (handed_all ids victim) ≡ Some t
      → find (is_task t.id) (taken_from ids victim.queue).left ≡ Some t
  left-found ids t some =
      best-found (before p.steal) (taken_from ids victim.queue).left t (once-left ids victim.queue once)
      (ap (best_of (before p.steal)) (sym (queue_left ids victim)) ∙ next-best p plan a v b (received_all (taken_from ids victim.queue).found thief) (handed_all ids victim) t some)

  pub judged-first : (t : Task) → best_of (before p.steal) victim.queue ≡ Some t
      → IsJudged p plan a v b thief victim (t.id ∷ further_moves p plan a v b (b.limit - 1) (received t thief) (handed t.id victim)) 1 (t.id ∷ []) t.weight
  judged-first t best =
      let queued = best-found (before p.steal) victim.queue t once best in
      record {
        moves = ap₂ (λ (x y : ModelCore). t.id ∷ further_moves p plan a v b (b.limit - 1) x y) (come_one t thief victim queued) (leave_one t.id victim);
        found = found_count-more [] t victim queued;
        sum = let one = found_load-more [] t victim queued in let none : sum_by (λ (x : Task). x.weight) [] ≡ 0 = refl in omega (arith, one, none);
      }

  module _ (whole : List ℕ) (at : ℕ) (stolen : List ℕ) (load : ℕ) (is : IsJudged p plan a v b thief victim whole at stolen load) where
    -- what the judge finds is the next thread of the cores as the moves left them
    pub judged-next : (own other : CoreValues) → AreSeen plan a v own other thief victim → length stolen ≡ at → (count fewer : ℕ) → count ≡ length stolen → fewer ≡ length stolen
        → (x y : CoreValues) → x ≡ with_more count load own → y ≡ with_fewer fewer load other
        → (o : Option Task) → o ≡ kept_if (λ t. holds (move_values x y t.weight t.attrs) b.condition) (best_of (before p.steal) (unnamed stolen victim.queue))
        → o ≡ next_of p plan a v b (received_all (taken_from stolen victim.queue).found thief) (handed_all stolen victim)
    unfolding next_of
    judged-next own other seen many count fewer counted counted_too x y x_is y_is o o_is =
        let found : length stolen ≡ length (taken_from stolen victim.queue).found = many ∙ sym is.found in
        let asked : CoreValues → CoreValues → Task → Bool = λ x y t. holds (move_values x y t.weight t.attrs) b.condition in
        o_is ∙ (ap₂ (λ (x y : CoreValues). kept_if (asked x y) (best_of (before p.steal) (unnamed stolen victim.queue)))
        (x_is ∙ more_seen_is stolen thief victim plan a own count load seen.own_is (counted ∙ found) is.sum)
        (y_is ∙ fewer_seen_is stolen victim plan v other fewer load seen.other_is (counted_too ∙ found) is.sum)
        ∙ ap (λ (tasks : List Task). kept_if (asked (values_of plan a (seen_of (received_all (taken_from stolen victim.queue).found thief))) (values_of plan v (seen_of (handed_all stolen victim)))) (best_of (before p.steal) tasks))
        (unnamed-left stolen victim.queue once ∙ sym (queue_left stolen victim)))

    pub judged-more : (t : Task) → at < b.limit → next_of p plan a v b (received_all (taken_from stolen victim.queue).found thief) (handed_all stolen victim) ≡ Some t
        → IsJudged p plan a v b thief victim whole (at + 1) (stolen ++ t.id ∷ []) (load + t.weight)
    judged-more t more some =
        let found = left-found stolen t some in
        record {
          moves = one-further p plan a v b whole stolen (received_all (taken_from stolen victim.queue).found thief) (handed_all stolen victim) at t is.moves more some
              ∙ ap₂ (λ (x y : ModelCore). (stolen ++ t.id ∷ []) ++ further_moves p plan a v b (b.limit - (at + 1)) x y) (come_more stolen t thief victim found) (leave_more stolen t.id victim);
          found = found_count-more stolen t victim found ∙ ap (λ n. n + 1) is.found;
          sum = ap (λ n. n + t.weight) is.sum ∙ sym (found_load-more stolen t victim found);
        }
