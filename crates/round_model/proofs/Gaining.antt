-- What the cores of a plan have after an entry: numbers in their ranges, and no more threads of any numbers than before
-- and the one that enters.
use Rattle.std.proofs.Common.{◌≡◌, ◌≢◌, ℕ, ◌+◌, ◌<◌, ◌≤◌, Bool, true, false, List, count_by, IfSome, Option, Some, None, refl, sym, ap, ◌∙◌, subst, arith}
use Rattle.std.proofs.lemmas.Bool.Decides.{nat_tests}
use Rattle.sched_base.specs.declared.task.Task.{Task}
use Rattle.policy_tree.specs.declared.typed.Event.TheVariants as event
use Rattle.policy_tree.specs.Meaning.{Meaning}
use Rattle.policy_eval.specs.Events.{outcomes_of}
use Rattle.policy_eval.specs.Fitting.{IsTask}
use Rattle.policy_eval.specs.Obligations.{MeetsHandlerObligations}
use Rattle.round_model.specs.declared.entry.Entry.{Entry}
use Rattle.round_model.specs.declared.entry.Entry.TheVariants as entry
use Rattle.round_model.specs.declared.plan.Plan.{Plan}
use Rattle.round_model.specs.declared.plan.Planned.{Planned}
use Rattle.round_model.specs.declared.state.Blocked.{Blocked}
use Rattle.round_model.specs.declared.state.ModelCore.{ModelCore}
use Rattle.round_model.specs.After.{entered, moved}
use Rattle.round_model.specs.BoundsLaws.{named_count}
use Rattle.round_model.specs.Cores.{Cores}
use Rattle.round_model.specs.Fits.{Fits}
use Rattle.round_model.specs.Kept.{Holds}
use Rattle.round_model.specs.Moves.{admitted, blocked_of, core_after_event, handed_all, is_blocked_task, received_all, released, taken_from}
use Rattle.round_model.specs.Programs.{entering_task, planned_of}
use Rattle.round_model.specs.Fitting.{AreThere}
use Rattle.round_model.specs.Updates.{updated}
use Rattle.round_model.specs.Work.{core_after_work}
use Rattle.round_model.proofs.Counting.{counted}
use Rattle.round_model.proofs.Directories.{is_thread}
use Rattle.round_model.proofs.Finding.{find-All, find-passes}
use Rattle.round_model.proofs.Keeping.{entering_fits, holds_released, stays_after, updated_other}
use Rattle.round_model.proofs.Moved.{blocked-outcomes, moved_enter, moved_no_enter, moved_no_wake, moved_steal, moved_wake, moved_work, unmoved_fail, unmoved_pass, unmoved_round}
use Rattle.round_model.proofs.Standing.{Gains, event_gains, handed_count, has_name, received_count, released_count, work_gains}
use Rattle.round_model.proofs.Takings.{All-found, holds_come, holds_left}
use Rattle.round_model.proofs.Totals.{total, total_same, total_updated}

-- how many threads of those numbers come with the entry
abbrev pub named_comes : (ℕ → Bool) → Entry → ℕ
named_comes named (entry.Round number) = 0
named_comes named (entry.Enter thread by at reads) = counted (named thread)
named_comes named (entry.Wake thread by at reads) = 0
named_comes named (entry.Work by what) = 0
named_comes named (entry.Steal by from threads reads) = 0
named_comes named (entry.Fail by from reads) = 0
named_comes named (entry.Pass by reads) = 0

-- a blocked thread stays blocked, and a queued one queued, as another comes
pub blocked_still : (p : Meaning) (fresh : Bool) (t : Task) (id : ℕ) (b : Blocked) (core : ModelCore) → blocked_of id core ≡ Some b → blocked_of id (admitted p fresh t core) ≡ Some b
unfolding core_after_event
blocked_still p fresh t id b core is = blocked-outcomes id 0 b (outcomes_of p event.Enqueue fresh core.consts t) core is

blocked_fits : (p : Meaning) (id : ℕ) (b : Blocked) (core : ModelCore) → Holds p core → blocked_of id core ≡ Some b → IsTask p b.task
blocked_fits p id b core holds is =
    subst (λ (o : Option Blocked). IfSome o (λ x. IsTask p x.task)) is (find-All (is_blocked_task id) (λ (x : Blocked). IsTask p x.task) core.blocked holds.blocked)

module _ (p : Meaning) (named : ℕ → Bool) (n : ℕ) where
  -- the first cores after a change, to which threads come that count so much
  pub record AllGain (more : ℕ) (m k : Cores) : Type 0 where
    pub holds : (c : ℕ) → c < n → Holds p (k c)
    pub count : total (named_count named) n k ≤ total (named_count named) n m + more

  gain_same : (more : ℕ) (m k l : Cores) → AllGain more m k → ((c : ℕ) → k c ≡ l c) → AllGain more m l
  gain_same more m k l gain same = record {
    holds = λ c there. subst (Holds p) (same c) (gain.holds c there);
    count = let one = gain.count in let two = total_same (named_count named) n k l (λ c there. same c) in omega arith;
  }

  gain_none : (m : Cores) → ((c : ℕ) → c < n → Holds p (m c)) → AllGain 0 m m
  gain_none m holds = record { holds = holds; count = omega arith }

  gain_at : (more : ℕ) (m : Cores) (at : ℕ) (x : ModelCore) → ((c : ℕ) → c < n → Holds p (m c)) → at < n → Gains p named more (m at) x → AllGain more m (updated m at x)
  gain_at more m at x holds there gains = record {
    holds = λ c inside. stays_after (Holds p) m at c x (holds c inside) (λ same. gains.holds);
    count = let one = gains.count in let two = total_updated (named_count named) n m at x there in omega arith;
  }

  -- a thread comes to one core and leaves another
  gain_moved : (w : ℕ) (m : Cores) (at by : ℕ) (x : ModelCore) (y : ModelCore) → AllGain w m (updated m at x) → by < n
      → Holds p y → named_count named y + w ≡ named_count named (updated m at x by) → AllGain 0 m (updated (updated m at x) by y)
  gain_moved w m at by x y gain there held less = record {
    holds = λ c inside. stays_after (Holds p) (updated m at x) by c y (gain.holds c inside) (λ same. held);
    count = let one = gain.count in let two = total_updated (named_count named) n (updated m at x) by y there in omega arith;
  }

module _ (p : Meaning) (plan : Plan) (fits : Fits p plan) (handlers : MeetsHandlerObligations p) (named : ℕ → Bool) (round : ℕ) (m : Cores)
    (holds : (c : ℕ) → c < plan.cores → Holds p (m c)) where
  enter_gains : (thread by at : ℕ) (reads : List ℕ) → at < plan.cores → (found : Option Planned) → planned_of plan thread ≡ found
      → AllGain p named plan.cores (counted (named thread)) m (moved p plan round (entry.Enter thread by at reads) m)
  enter_gains thread by at reads there None is =
      let same = gain_same p named plan.cores 0 m m (moved p plan round (entry.Enter thread by at reads) m) (gain_none p named plan.cores m holds) (moved_no_enter p plan round m thread by at reads is) in
      record { holds = same.holds; count = let one = same.count in omega arith }
  enter_gains thread by at reads there (Some t) is =
      let id : t.id ≡ thread = let test = find-passes (is_thread thread) plan.threads t is in grind (arith, nat_tests) in
      let gains = event_gains p named fits.policy handlers event.Enqueue true 0 (entering_task p t) (m at) (holds at there) (entering_fits p plan fits thread t is) in
      let here = subst (λ (i : ℕ). Gains p named (counted (named i)) (m at) (admitted p true (entering_task p t) (m at))) id gains in
      gain_same p named plan.cores (counted (named thread)) m (updated m at (entered p (Some t) (m at))) (moved p plan round (entry.Enter thread by at reads) m)
      (gain_at p named plan.cores (counted (named thread)) m at (admitted p true (entering_task p t) (m at)) holds there here)
      (moved_enter p plan round m thread by at reads (Some t) is)

  wake_gains : (thread by at : ℕ) (reads : List ℕ) → by < plan.cores → at < plan.cores → (found : Option Blocked) → blocked_of thread (m by) ≡ found
      → AllGain p named plan.cores 0 m (moved p plan round (entry.Wake thread by at reads) m)
  wake_gains thread by at reads own there None is =
      gain_same p named plan.cores 0 m m (moved p plan round (entry.Wake thread by at reads) m) (gain_none p named plan.cores m holds) (moved_no_wake p plan round m thread by at reads is)
  wake_gains thread by at reads own there (Some b) is =
      let w = counted (named b.task.id) in
      let x = admitted p false b.task (m at) in
      let came = gain_at p named plan.cores w m at x holds there (event_gains p named fits.policy handlers event.Enqueue false 0 b.task (m at) (holds at there) (blocked_fits p thread b (m by) (holds by own) is)) in
      let still : blocked_of thread (updated m at x by) ≡ Some b =
      stays_after (λ core. blocked_of thread core ≡ Some b) m at by x is (λ same. blocked_still p false b.task thread b (m at) (subst (λ k. blocked_of thread (m k) ≡ Some b) (sym same) is)) in
      gain_same p named plan.cores 0 m (updated (updated m at x) by (released thread (updated m at x by))) (moved p plan round (entry.Wake thread by at reads) m)
      (gain_moved p named plan.cores w m at by x (released thread (updated m at x by)) came own
      (holds_released p thread (updated m at x by) (came.holds by own)) (released_count p named thread b (updated m at x by) still))
      (moved_wake p plan round m thread by at reads b is)

  steal_gains : (by from : ℕ) (threads reads : List ℕ) → by < plan.cores → from < plan.cores → by ≢ from
      → AllGain p named plan.cores 0 m (moved p plan round (entry.Steal by from threads reads) m)
  steal_gains by from threads reads own there apart =
      let found = (taken_from threads (m from).queue).found in
      let w = count_by (has_name named) found in
      let x = received_all found (m by) in let y = handed_all threads (m from) in
      let came = gain_at p named plan.cores w m by x holds own (record {
        holds = holds_come p found (m by) (holds by own) (All-found (IsTask p) threads (m from).queue (holds from there).queue);
        count = received_count p named found (m by);
      }) in
      let stays : updated m by x from ≡ m from = updated_other m by from x apart in
      let less = handed_count p named threads (m from) ∙ ap (named_count named) (sym stays) in
      gain_same p named plan.cores 0 m (updated (updated m by x) from y) (moved p plan round (entry.Steal by from threads reads) m)
      (gain_moved p named plan.cores w m by from x y came there (holds_left p threads (m from) (holds from there)) less)
      (moved_steal p plan round m by from threads reads apart)

  -- the cores after any entry
  pub moved_gains : (e : Entry) → AreThere plan.cores e → AllGain p named plan.cores (named_comes named e) m (moved p plan round e m)
  moved_gains (entry.Round number) there = gain_same p named plan.cores 0 m m (moved p plan round (entry.Round number) m) (gain_none p named plan.cores m holds) (unmoved_round p plan round m number)
  moved_gains (entry.Enter thread by at reads) there = enter_gains thread by at reads there (planned_of plan thread) refl
  moved_gains (entry.Wake thread by at reads) there = wake_gains thread by at reads there.0 there.1 (blocked_of thread (m by)) refl
  moved_gains (entry.Work by what) there =
      gain_same p named plan.cores 0 m (updated m by (core_after_work p plan round (m by))) (moved p plan round (entry.Work by what) m)
      (gain_at p named plan.cores 0 m by (core_after_work p plan round (m by)) holds there (work_gains p named fits.policy handlers plan round (m by) (holds by there)))
      (moved_work p plan round m by what)
  moved_gains (entry.Steal by from threads reads) there = steal_gains by from threads reads there.0 there.1.0 there.1.1
  moved_gains (entry.Fail by from reads) there = gain_same p named plan.cores 0 m m (moved p plan round (entry.Fail by from reads) m) (gain_none p named plan.cores m holds) (unmoved_fail p plan round m by from reads)
  moved_gains (entry.Pass by reads) there = gain_same p named plan.cores 0 m m (moved p plan round (entry.Pass by reads) m) (gain_none p named plan.cores m holds) (unmoved_pass p plan round m by reads)
