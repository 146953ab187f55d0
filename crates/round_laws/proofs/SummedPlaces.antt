-- How often the thread of a number stands at the cores of a plan, and how often it is blocked there, after an entry: exactly.
use Rattle.std.proofs.Common.{◌≡◌, ◌≢◌, ℕ, ◌+◌, ◌<◌, true, false, List, count_by, IfSome, Option, Some, sym, ap, ◌∙◌, subst, arith}
use Rattle.std.proofs.lemmas.Bool.Decides.{nat_tests}
use Rattle.policy_tree.specs.Meaning.{Meaning}
use Rattle.policy_eval.specs.Fitting.{IsTask}
use Rattle.policy_eval.specs.Obligations.{MeetsHandlerObligations}
use Rattle.round_model.specs.declared.entry.Did.{Did}
use Rattle.round_model.specs.declared.entry.Entry.TheVariants as entry
use Rattle.round_model.specs.declared.plan.Plan.{Plan}
use Rattle.round_model.specs.declared.plan.Planned.{Planned}
use Rattle.round_model.specs.declared.state.Blocked.{Blocked}
use Rattle.round_model.specs.declared.state.ModelCore.{ModelCore}
use Rattle.round_model.specs.After.{moved}
use Rattle.round_model.specs.Cores.{Cores}
use Rattle.round_model.specs.Fits.{Fits}
use Rattle.round_model.specs.Kept.{Holds}
use Rattle.round_model.specs.Moves.{admitted, blocked_of, handed_all, is_blocked_task, is_task, received_all, released, taken_from}
use Rattle.round_model.specs.Programs.{entering_task, planned_of}
use Rattle.round_model.specs.Updates.{updated}
use Rattle.round_model.specs.Work.{IsOutcomeOfWork, core_after_work}
use Rattle.round_model.proofs.Directories.{is_thread}
use Rattle.round_model.proofs.Finding.{find-All, find-passes}
use Rattle.round_model.proofs.Gaining.{blocked_still}
use Rattle.round_model.proofs.Keeping.{entering_fits, stays_after, updated_other}
use Rattle.round_model.proofs.Moved.{moved_enter, moved_steal, moved_wake, moved_work}
use Rattle.round_model.proofs.Totals.{total, total_has, total_same, total_updated}
use Rattle.round_laws.proofs.ThreadChanges.{AsSaid, HasWoken, IsSame, one_of, said_of_sums}
use Rattle.round_laws.proofs.CountedPlaces.{admitted_comes, blocked_at, handed_blocked, handed_places, places_at, received_comes, released_blocked, released_places}
use Rattle.round_laws.proofs.WorkedPlaces.{work_said}

blocked_fits : (p : Meaning) (id : ℕ) (b : Blocked) (core : ModelCore) → Holds p core → blocked_of id core ≡ Some b → IsTask p b.task
blocked_fits p id b core holds is =
    subst (λ (o : Option Blocked). IfSome o (λ x. IsTask p x.task)) is (find-All (is_blocked_task id) (λ (x : Blocked). IsTask p x.task) core.blocked holds.blocked)

module _ (f : ModelCore → ℕ) (n : ℕ) (m : Cores) where
  -- one core changes
  sum_put : (at : ℕ) (x : ModelCore) (more : ℕ) → at < n → f x ≡ f (m at) + more → total f n (updated m at x) ≡ total f n m + more
  sum_put at x more there gains = omega (arith, total_updated f n m at x there)

  -- one core changes, and then another or the same one
  sum_moved : (at by : ℕ) (x y : ModelCore) (more less : ℕ) → at < n → by < n → f x ≡ f (m at) + more → f y + less ≡ f (updated m at x by)
      → total f n (updated (updated m at x) by y) + less ≡ total f n m + more
  sum_moved at by x y more less there own gains loses =
      omega (arith, total_updated f n m at x there, total_updated f n (updated m at x) by y own)

module _ (id : ℕ) (n : ℕ) where
  -- the places of the thread at the first cores, and those where it is blocked
  abbrev pub all_places : Cores → ℕ
  all_places m = total (places_at id) n m

  abbrev pub all_blocked : Cores → ℕ
  all_blocked m = total (blocked_at id) n m

module _ (id : ℕ) (p : Meaning) (plan : Plan) (fits : Fits p plan) (handlers : MeetsHandlerObligations p) (round : ℕ) (m : Cores)
    (holds : (c : ℕ) → c < plan.cores → Holds p (m c)) where
  abbrev places : Cores → ℕ
  places k = all_places id plan.cores k

  abbrev blocked : Cores → ℕ
  blocked k = all_blocked id plan.cores k

  -- where no core changes
  pub same_cores : (k : Cores) → ((c : ℕ) → m c ≡ k c) → IsSame (places m) (blocked m) (places k) (blocked k)
  same_cores k same = record {
    places = sym (total_same (places_at id) plan.cores m k (λ c there. same c));
    blocked = sym (total_same (blocked_at id) plan.cores m k (λ c there. same c));
  }

  -- a thread comes to the cores
  pub record IsLetIn (one : ℕ) (k : Cores) : Type 0 where
    pub places : all_places id plan.cores k ≡ all_places id plan.cores m + one
    pub blocked : all_blocked id plan.cores k ≡ all_blocked id plan.cores m

  -- a thread of the plan enters
  pub enter_sums : (thread by at : ℕ) (reads : List ℕ) → at < plan.cores → (t : Planned) → planned_of plan thread ≡ Some t
      → IsLetIn (one_of id thread) (moved p plan round (entry.Enter thread by at reads) m)
  enter_sums thread by at reads there t is =
      let named : t.id ≡ thread = let test = find-passes (is_thread thread) plan.threads t is in grind (arith, nat_tests) in
      let same : one_of id t.id ≡ one_of id thread = ap (one_of id) named in
      let x = admitted p true (entering_task p t) (m at) in
      let comes = admitted_comes id p fits.policy handlers true (entering_task p t) (m at) (holds at there) (entering_fits p plan fits thread t is) in
      let k = moved p plan round (entry.Enter thread by at reads) m in
      let alike = moved_enter p plan round m thread by at reads (Some t) is in
      record {
        places = omega (arith, sum_put (places_at id) plan.cores m at x (one_of id t.id) there comes.places, total_same (places_at id) plan.cores (updated m at x) k (λ c inside. alike c));
        blocked = omega (arith, sum_put (blocked_at id) plan.cores m at x 0 there (omega (arith, comes.blocked)), total_same (blocked_at id) plan.cores (updated m at x) k (λ c inside. alike c));
      }

  -- a blocked thread wakes
  pub wake_sums : (thread by at : ℕ) (reads : List ℕ) → by < plan.cores → at < plan.cores → (b : Blocked) → blocked_of thread (m by) ≡ Some b
      → let k = moved p plan round (entry.Wake thread by at reads) m in HasWoken (one_of id thread) (places m) (blocked m) (places k) (blocked k)
  wake_sums thread by at reads own there b is =
      let named : b.task.id ≡ thread = let test = find-passes (is_blocked_task thread) (m by).blocked b is in grind (arith, nat_tests) in
      let same : one_of id b.task.id ≡ one_of id thread = ap (one_of id) named in
      let x = admitted p false b.task (m at) in
      let mid = updated m at x by in
      let y = released thread mid in
      let comes = admitted_comes id p fits.policy handlers false b.task (m at) (holds at there) (blocked_fits p thread b (m by) (holds by own) is) in
      let still : blocked_of thread mid ≡ Some b =
      stays_after (λ core. blocked_of thread core ≡ Some b) m at by x is (λ same. blocked_still p false b.task thread b (m at) (subst (λ k. blocked_of thread (m k) ≡ Some b) (sym same) is)) in
      let k = moved p plan round (entry.Wake thread by at reads) m in
      let alike = moved_wake p plan round m thread by at reads b is in
      record {
        places = omega (
          arith,
          sum_moved (places_at id) plan.cores m at by x y (one_of id b.task.id) 0 there own comes.places (omega (arith, released_places id thread mid)),
          total_same (places_at id) plan.cores (updated (updated m at x) by y) k (λ c inside. alike c),
        );
        blocked = omega (
          arith,
          sum_moved (blocked_at id) plan.cores m at by x y 0 (one_of id b.task.id) there own (omega (arith, comes.blocked)) (released_blocked id thread b mid still),
          total_same (blocked_at id) plan.cores (updated (updated m at x) by y) k (λ c inside. alike c),
        );
      }

  -- a steal moves threads from core to core
  pub steal_sums : (by from : ℕ) (threads reads : List ℕ) → by < plan.cores → from < plan.cores → by ≢ from
      → let k = moved p plan round (entry.Steal by from threads reads) m in IsSame (places m) (blocked m) (places k) (blocked k)
  steal_sums by from threads reads own there apart =
      let found = (taken_from threads (m from).queue).found in
      let one = count_by (is_task id) found in
      let x = received_all found (m by) in
      let y = handed_all threads (m from) in
      let comes = received_comes id found (m by) in
      let mid : updated m by x from ≡ m from = updated_other m by from x apart in
      let k = moved p plan round (entry.Steal by from threads reads) m in
      let alike = moved_steal p plan round m by from threads reads apart in
      record {
        places = omega (
          arith,
          sum_moved (places_at id) plan.cores m by from x y one one own there comes.places (handed_places id threads (m from) ∙ ap (places_at id) (sym mid)),
          total_same (places_at id) plan.cores (updated (updated m by x) from y) k (λ c inside. alike c),
        );
        blocked = omega (
          arith,
          sum_moved (blocked_at id) plan.cores m by from x y 0 0 own there (omega (arith, comes.blocked)) (omega (arith, handed_blocked id threads (m from), ap (blocked_at id) mid)),
          total_same (blocked_at id) plan.cores (updated (updated m by x) from y) k (λ c inside. alike c),
        );
      }

  -- a unit of work does what is said of it
  pub work_sums : (by : ℕ) (what : Did) → by < plan.cores → IsOutcomeOfWork p plan round (m by) what
      → let k = moved p plan round (entry.Work by what) m in AsSaid id what (places m) (blocked m) (places k) (blocked k)
  work_sums by what there said =
      let x = core_after_work p plan round (m by) in
      let k = moved p plan round (entry.Work by what) m in
      let alike = moved_work p plan round m by what in
      said_of_sums id what (places_at id (m by)) (blocked_at id (m by)) (places_at id x) (blocked_at id x) (places m) (blocked m) (places k) (blocked k)
      (work_said id p fits.policy handlers plan round (m by) (holds by there) what said)
      (omega (arith, total_updated (places_at id) plan.cores m by x there, total_same (places_at id) plan.cores (updated m by x) k (λ c inside. alike c)))
      (omega (arith, total_updated (blocked_at id) plan.cores m by x there, total_same (blocked_at id) plan.cores (updated m by x) k (λ c inside. alike c)))
      (total_has (places_at id) plan.cores m by there)
