-- The entries of a legal history can be printed.
use Rattle.std.proofs.Common.{◌≡◌, inl, inr, ℕ, zero, suc, ◌-◌, ◌<◌, ◌≤◌, Bool, true, false, cond, List, [], ◌∷◌, map, find, take, length, get_or, slice_get, All, IfSome, IsSomeAnd, Option, Some, None, option_and_then, refl, sym, subst, arith}
use Rattle.std.proofs.lemmas.Bool.Decides.{nat_tests}
use Rattle.std.proofs.lemmas.List.{length-take}
use Rattle.std.proofs.lemmas.List.Elements.{All-contains}
use mathlib.Core.Option.{some}
use lib.ListN.{get_elem?}
use Rattle.sched_base.specs.declared.limits.TheConstants.{MAX_ENTRIES, MAX_STOLEN}
use Rattle.sched_base.specs.declared.task.Task.{Task}
use Rattle.policy_tree.specs.declared.typed.Put.{Put}
use Rattle.policy_tree.specs.declared.typed.Put.TheVariants as put
use Rattle.policy_tree.specs.Meaning.{BatchTree, Meaning, PlaceTree, here, least}
use Rattle.policy_eval.specs.Orders.{best_of, better_of}
use Rattle.policy_eval.specs.Resolved.{HasResolvedBatch}
use Rattle.round_model.specs.declared.entry.Did.TheVariants as did
use Rattle.round_model.specs.declared.entry.Entry.{Entry}
use Rattle.round_model.specs.declared.entry.Entry.TheVariants as entry
use Rattle.round_model.specs.declared.plan.Burst.{Burst}
use Rattle.round_model.specs.declared.plan.Plan.{Plan}
use Rattle.round_model.specs.declared.plan.Planned.{Planned}
use Rattle.round_model.specs.declared.state.Blocked.{Blocked}
use Rattle.round_model.specs.declared.state.ModelCore.{ModelCore}
use Rattle.round_model.specs.After.{after, round_of}
use Rattle.round_model.specs.Attempts.{attempt_of, attempt_with, first_of, further_moves, goes_on, kept_if, moves_after, moves_with, next_of, present_values, steal_or_fail}
use Rattle.round_model.specs.Bursts.{HasBurst, HaveBursts, LiesIn}
use Rattle.round_model.specs.Choices.{choice_of, may_steal}
use Rattle.round_model.specs.Cores.{Cores}
use Rattle.round_model.specs.Fits.{Fits, ThreadFits}
use Rattle.round_model.specs.Legal.{LegalNext}
use Rattle.round_model.specs.Limits.{IsWithinLimits}
use Rattle.round_model.specs.Moves.{handed, is_task, received}
use Rattle.round_model.specs.Programs.{Meeting, blocking, burst_of, ending_now, planned_of, tick, yielding}
use Rattle.round_model.specs.Reads.{ReadsFit, read_values, round_start}
use Rattle.round_model.specs.Rows.{PlacementReads, Row}
use Rattle.round_model.specs.Scenes.{Scene, entering_next, is_due_blocked, is_entering, own_entries, scene_of, waking_next}
use Rattle.round_model.specs.Work.{after_meeting, after_unit, before, did_of, elected, run_over, worked}
use Rattle.round_model.proofs.Histories.{due_within}
use Rattle.round_model.proofs.Bursts.{elects_burst, have_bursts}
use Rattle.round_model.proofs.Directories.{is_thread}
use Rattle.round_model.proofs.Finding.{find-All, find-passes}
use Rattle.round_model.proofs.Keeping.{All-append, All-one, All-without}
use Rattle.round_model.proofs.Outcomes.{choice_there}
use Rattle.round_model.proofs.There.{are_there}
use Rattle.sched_history.specs.declared.forms.LineForm.TheVariants as form
use Rattle.sched_history.specs.Lines.{entry_lines}
use Rattle.sched_history.specs.Ranges.{AreOneEach, ArePlacementReads, AreStolen, IsCoreNumber, IsPrintable, IsPrintableLine, IsThreadNumber, LegalIsPrintable, NamesThread}
use Rattle.sched_history.specs.Spelling.{second_form}
use Rattle.sched_history.proofs.EntryLines.{length-lines, line_at}

-- what holds of each task holds of the best
best_All : {X : Type 0} (P : X → Type 0) (comes : X → X → Bool) (xs : List X) → All P xs → IfSome (best_of comes xs) P
best_All P comes [] each = tt
best_All P comes (x ∷ xs) each = with_rest (best_of comes xs) (best_All P comes xs (λ k d inside. each (suc k) d (omega arith)))
  where
    with_rest : (later : Option _) → IfSome later P → P (better_of comes x later)
    with_rest None is = each 0 x (omega arith)
    with_rest (Some y) is = elim (comes y x) as (λ b. P (cond b y x)) [ true ↦ is | false ↦ each 0 x (omega arith) ]

module _ (p : Meaning) (plan : Plan) (fits : Fits p plan) (limits : IsWithinLimits plan) where
  -- a thread that has a burst is one of the plan
  numbered : (t : Task) → HasBurst plan t → IsThreadNumber t.id
  numbered t has = by_found (planned_of plan t.id) refl has
    where
      by_found : (found : Option Planned) → planned_of plan t.id ≡ found → LiesIn t.place (option_and_then (λ (q : Planned). slice_get q.bursts t.place.burst) found) → IsThreadNumber t.id
      by_found None is has_one = absurd has_one
      by_found (Some q) is has_one =
          let passes = find-passes (is_thread t.id) plan.threads q is in
          let same : q.id ≡ t.id = grind (arith, nat_tests) in
          let thread = subst (λ (found : Option Planned). IfSome found (ThreadFits p plan.cores)) is (find-All (is_thread t.id) (ThreadFits p plan.cores) plan.threads fits.threads) in
          subst IsThreadNumber same (thread.id_positive, thread.id_small)

  core_small : (start c : ℕ) → c < plan.cores → IsCoreNumber (form.Second plan.cores start) c
  core_small start c there = let few = limits.few_cores in omega arith

  reads_small : (s : Scene) (reads : List ℕ) → s.position ≤ MAX_ENTRIES → ReadsFit plan.cores s.start s.position reads → AreOneEach plan.cores s.start reads
  reads_small s reads room fit = record {
    count = (fits.some_cores, limits.few_cores);
    one_each = fit.one_each;
    positions = λ k d inside. let read = fit.each k d inside in let low = read.in_round in let high = read.before_entry in (omega arith, omega arith);
  }

  placement_small : (place : PlaceTree) (s : Scene) (reads : List ℕ) → s.position ≤ MAX_ENTRIES → PlacementReads place plan s reads → ArePlacementReads (form.Second plan.cores s.start) reads
  placement_small here s reads room none = inl none
  placement_small (least e) s reads room fit = inr (reads_small s reads room fit)

  -- the words of a unit name its thread
  named_by : (id : ℕ) (o : Task × Put) → IsThreadNumber id → NamesThread (did_of id o)
  named_by id (t, put.Queue) is = is
  named_by id (t, put.Keep) is = is
  named_by id (t, put.Block) is = is

  all_named : (id : ℕ) (outcomes : List (Task × Put)) → IsThreadNumber id → All NamesThread (map (did_of id) outcomes)
  all_named id [] is = λ k d inside. absurd (omega arith)
  all_named id (o ∷ outcomes) is = All-append NamesThread (did_of id o ∷ []) (map (did_of id) outcomes) (All-one NamesThread (did_of id o) (named_by id o is)) (all_named id outcomes is)

  meeting_named : (round : ℕ) (m : Meeting) (t : Task) (core : ModelCore) → IsThreadNumber t.id → All NamesThread (after_meeting p round m t core).dids
  meeting_named round tick t core is = all_named t.id _ is
  meeting_named round yielding t core is = all_named t.id _ is
  meeting_named round (blocking rounds) t core is = all_named t.id _ is
  meeting_named round ending_now t core is = All-one NamesThread (did.Ended t.id) is

  run_named : (round : ℕ) (core : ModelCore) (current : Option Task) → IfSome current (HasBurst plan) → All NamesThread (run_over p plan round core current).dids
  run_named round core None has = All-one NamesThread did.Nothing tt
  run_named round core (Some t) has = by_burst (burst_of plan t)
    where
      by_burst : (found : Option Burst) → All NamesThread (after_unit p round core t found).dids
      by_burst None = λ k d inside. absurd (omega arith)
      by_burst (Some b) = meeting_named round _ _ _ (numbered t has)

  work_named : (round : ℕ) (core : ModelCore) → HaveBursts plan core → All NamesThread (worked p plan round core).dids
  unfolding worked
  work_named round core have = run_named round (elected p core) (elected p core).current (elects_burst p plan core have)

  -- a move and those after it are few, and each is of a thread of the plan
  few_with : (n : ℕ) (o : Option Task) (rest : Task → List ℕ) → ((t : Task) → length (rest t) ≤ n) → length (moves_with o (λ t. t.id ∷ rest t)) ≤ suc n
  few_with n None rest few = omega arith
  few_with n (Some t) rest few = let one = few t in omega arith

  numbered_with : (o : Option Task) (rest : Task → List ℕ) → IfSome o (HasBurst plan) → ((t : Task) → All IsThreadNumber (rest t)) → All IsThreadNumber (moves_with o (λ t. t.id ∷ rest t))
  numbered_with None rest has each = λ k d inside. absurd (omega arith)
  numbered_with (Some t) rest has each = All-append IsThreadNumber (t.id ∷ []) (rest t) (All-one IsThreadNumber t.id (numbered t has)) (each t)

  kept_bursts : (test : Task → Bool) (o : Option Task) → IfSome o (HasBurst plan) → IfSome (kept_if test o) (HasBurst plan)
  kept_bursts test None has = tt
  kept_bursts test (Some t) has = elim (test t) as (λ b. IfSome (cond b (Some t) None) (HasBurst plan)) [ true ↦ has | false ↦ tt ]

  module _ (a v : ℕ) where
    next_bursts : (b : BatchTree) (thief victim : ModelCore) → All (HasBurst plan) victim.queue → IfSome (next_of p plan a v b thief victim) (HasBurst plan)
    unfolding next_of
    next_bursts b thief victim have =
        kept_bursts (goes_on p plan a v b thief victim) (best_of (before p.steal) victim.queue) (best_All (HasBurst plan) (before p.steal) victim.queue have)

    few_further : (b : BatchTree) (n : ℕ) (thief victim : ModelCore) → length (further_moves p plan a v b n thief victim) ≤ n
    unfolding further_moves
    few_further b zero thief victim = omega arith
    few_further b (suc n) thief victim =
        few_with n (next_of p plan a v b thief victim) (λ t. further_moves p plan a v b n (received t thief) (handed t.id victim)) (λ t. few_further b n (received t thief) (handed t.id victim))

    numbered_further : (b : BatchTree) (n : ℕ) (thief victim : ModelCore) → All (HasBurst plan) victim.queue → All IsThreadNumber (further_moves p plan a v b n thief victim)
    unfolding further_moves handed
    numbered_further b zero thief victim have = λ k d inside. absurd (omega arith)
    numbered_further b (suc n) thief victim have =
        numbered_with (next_of p plan a v b thief victim) (λ t. further_moves p plan a v b n (received t thief) (handed t.id victim)) (next_bursts b thief victim have)
        (λ t. numbered_further b n (received t thief) (handed t.id victim) (All-without (HasBurst plan) (is_task t.id) victim.queue have))

    few_after : (batch : Option BatchTree) → HasResolvedBatch p batch → (thief victim : ModelCore) → length (moves_after p plan a v batch thief victim) < MAX_STOLEN
    few_after None is thief victim = omega arith
    few_after (Some b) is thief victim = let some = is.some in let few = is.few in let rest = few_further b (b.limit - 1) thief victim in omega arith

    numbered_after : (batch : Option BatchTree) (thief victim : ModelCore) → All (HasBurst plan) victim.queue → All IsThreadNumber (moves_after p plan a v batch thief victim)
    numbered_after None thief victim have = λ k d inside. absurd (omega arith)
    numbered_after (Some b) thief victim have = numbered_further b (b.limit - 1) thief victim have

    -- so are those of a steal
    stolen_small : (thief victim : ModelCore) (t : Task) → All (HasBurst plan) victim.queue → HasBurst plan t → AreStolen (t.id ∷ moves_after p plan a v p.batch (received t thief) (handed t.id victim))
    unfolding handed
    stolen_small thief victim t have has = record {
      some = omega arith;
      few = let rest = few_after p.batch fits.policy.batch (received t thief) (handed t.id victim) in omega arith;
      numbers = All-append IsThreadNumber (t.id ∷ []) (moves_after p plan a v p.batch (received t thief) (handed t.id victim)) (All-one IsThreadNumber t.id (numbered t has))
          (numbered_after p.batch (received t thief) (handed t.id victim) (All-without (HasBurst plan) (is_task t.id) victim.queue have));
    }

  -- an attempt names cores and threads of the plan
  attempt_printable : (start : ℕ) (m : Cores) (a : ℕ) (reads : List ℕ) (chosen : Option ℕ) → ((c : ℕ) → HaveBursts plan (m c)) → a < plan.cores → AreOneEach plan.cores start reads → IfSome chosen (λ v. v < plan.cores)
      → IsPrintable (form.Second plan.cores start) (attempt_with p plan m a reads chosen)
  attempt_printable start m a reads None have own read there = (core_small start a own, read)
  attempt_printable start m a reads (Some v) have own read there =
      by_first (first_of p plan a v (m a) (m v)) (first_bursts (may_steal p (present_values plan m a) (present_values plan m v)))
    where
      first_bursts : (b : Bool) → IfSome (cond b (best_of (before p.steal) (m v).queue) None) (HasBurst plan)
      first_bursts true = best_All (HasBurst plan) (before p.steal) (m v).queue (have v).queue
      first_bursts false = tt

      by_first : (first : Option Task) → IfSome first (HasBurst plan)
          → IsPrintable (form.Second plan.cores start) (steal_or_fail a v reads (moves_with first (λ t. t.id ∷ moves_after p plan a v p.batch (received t (m a)) (handed t.id (m v)))))
      by_first None has = (core_small start a own, core_small start v there, read)
      by_first (Some t) has = (core_small start a own, core_small start v there, stolen_small a v (m a) (m v) t (have v).queue has, read)

  -- what the reads of an attempt come to
  attempt_is_printable : (h : List Entry) (a : ℕ) (reads : List ℕ) (e : Entry) → length h ≤ MAX_ENTRIES → a < plan.cores → ReadsFit plan.cores (scene_of p plan h a).start (scene_of p plan h a).position reads
      → e ≡ attempt_of p plan (after p plan h) (read_values plan (scene_of p plan h a).seen reads) a reads → IsPrintable (form.Second plan.cores (round_start h)) e
  unfolding attempt_of scene_of
  attempt_is_printable h a reads e room own fit is =
      subst (IsPrintable (form.Second plan.cores (round_start h))) (sym is)
      (attempt_printable (round_start h) (after p plan h) a reads (choice_of p plan.cores (read_values plan (scene_of p plan h a).seen reads) a) (λ c. have_bursts p plan h c fits) own (reads_small (scene_of p plan h a) reads room fit)
      (choice_there p plan.cores (read_values plan (scene_of p plan h a).seen reads) a))

  entering_numbered : (found : Option Planned) (id : ℕ) → IfSome found (ThreadFits p plan.cores) → IsSomeAnd found (λ t. t.id ≡ id) → IsThreadNumber id
  entering_numbered None id is next = absurd next
  entering_numbered (Some t) id is next = subst IsThreadNumber next (is.id_positive, is.id_small)

  waking_numbered : (found : Option Blocked) (id : ℕ) → IfSome found (λ (b : Blocked). HasBurst plan b.task) → IsSomeAnd found (λ b. b.task.id ≡ id) → IsThreadNumber id
  waking_numbered None id is next = absurd next
  waking_numbered (Some b) id is next = subst IsThreadNumber next (numbered b.task is)

  next_printable : (h : List Entry) (e : Entry) → length h ≤ MAX_ENTRIES → LegalNext p plan h e → IsPrintable (form.Second plan.cores (round_start h)) e
  unfolding LegalNext Row scene_of entering_next waking_next
  next_printable h (entry.Round number) room legal =
      let few = limits.few_rounds in let due = due_within plan h legal.due in let next = legal.next in (omega arith, omega arith)
  next_printable h (entry.Enter thread by at reads) room legal =
      let s = scene_of p plan h by in
      let test = is_entering (round_of h) by (own_entries h by) in (
        entering_numbered (find test plan.threads) thread (find-All test (ThreadFits p plan.cores) plan.threads fits.threads) legal.row.next,
        core_small (round_start h) by legal.row.core,
        core_small (round_start h) at (are_there p plan h (entry.Enter thread by at reads) legal),
        placement_small p.place s reads room legal.row.placement.read,
      )
  next_printable h (entry.Wake thread by at reads) room legal =
      let s = scene_of p plan h by in
      let test = is_due_blocked (round_of h) in let core = after p plan h by in (
        waking_numbered (find test core.blocked) thread (find-All test (λ (b : Blocked). HasBurst plan b.task) core.blocked (have_bursts p plan h by fits).blocked) legal.row.next,
        core_small (round_start h) by legal.row.core,
        core_small (round_start h) at (are_there p plan h (entry.Wake thread by at reads) legal).1,
        placement_small p.place s reads room legal.row.placement.read,
      )
  next_printable h (entry.Work by what) room legal =
      (core_small (round_start h) by legal.row.core, All-contains NamesThread (worked p plan (round_of h) (after p plan h by)).dids what (work_named (round_of h) (after p plan h by) (have_bursts p plan h by fits)) legal.row.outcome)
  next_printable h (entry.Steal by from threads reads) room legal = attempt_is_printable h by reads (entry.Steal by from threads reads) room legal.row.core legal.row.read legal.row.outcome
  next_printable h (entry.Fail by from reads) room legal = attempt_is_printable h by reads (entry.Fail by from reads) room legal.row.core legal.row.read legal.row.outcome
  next_printable h (entry.Pass by reads) room legal = attempt_is_printable h by reads (entry.Pass by reads) room legal.row.core legal.row.read legal.row.outcome

elem_at : (xs : List Entry) (k : ℕ) (d : Entry) → k < length xs → get_elem? xs k ≡ some (get_or xs k d)
elem_at [] k d inside = absurd (omega arith)
elem_at (x ∷ xs) zero d inside = refl
elem_at (x ∷ xs) (suc k) d inside = elem_at xs k d (omega arith)

pub legal_is_printable : LegalIsPrintable
legal_is_printable p plan history fits limits legal room = record {
  count = (fits.some_cores, limits.few_cores);
  printable = record { lines = each; few = room };
}
  where
    each : All IsPrintableLine (entry_lines 0 (second_form plan.cores) history)
    each k d inside =
        let within : k < length history = omega (arith, inside, length-lines 0 (second_form plan.cores) history) in
        subst IsPrintableLine (sym (line_at 0 (second_form plan.cores) history k d.entry d within))
        (next_printable p plan fits limits (take k history) (get_or history k d.entry) (omega (arith, length-take k history)) (legal k (get_or history k d.entry) (elem_at history k d.entry within)))
