-- A past with an entry of one core more has its numbers in range.
use Rattle.std.proofs.Common.{◌≡◌, ℕ, ◌+◌, ◌-◌, ◌<◌, ◌≤◌, nat_lt, ltb, Bool, true, false, cond, List, [], ◌∷◌, length, get_or, sum_by, count_by, All, IsSome, Option, Some, None, option_map, refl, sym, ap, subst, ◌∙◌, arith}
use Rattle.std.specs.Prelude.{IsSomeAnd}
use Rattle.std.proofs.Math.ListN.{length-set}
use Rattle.std.proofs.Math.Seq.{get_or-append_seam}
use Rattle.std.proofs.lemmas.Bool.Decides.{nat_tests}
use Rattle.std.proofs.lemmas.List.{get_or_append_left, length-append}
use Rattle.std.proofs.lemmas.List.Sums.{get_or-le-sum_by}
use Rattle.sched_base.specs.declared.limits.TheConstants.{MAX_ENTRIES, MAX_THREADS}
use Rattle.policy_tree.specs.Meaning.{Meaning}
use Rattle.policy_eval.specs.Fitting.{LoadsFit}
use Rattle.round_model.specs.declared.entry.Did.{Did}
use Rattle.round_model.specs.declared.entry.Did.TheVariants as did
use Rattle.round_model.specs.declared.entry.Entry.{Entry}
use Rattle.round_model.specs.declared.entry.Entry.TheVariants as entry
use Rattle.round_model.specs.declared.plan.Plan.{Plan}
use Rattle.round_model.specs.declared.plan.Planned.{Planned}
use Rattle.round_model.specs.declared.state.CountAndLoad.{CountAndLoad}
use Rattle.round_model.specs.declared.state.ModelCore.{ModelCore}
use Rattle.round_model.specs.After.{round_of}
use Rattle.round_model.specs.Bounds.{CoreInBounds, standing_count}
use Rattle.round_model.specs.Cores.{opening_state, seen_of}
use Rattle.round_model.specs.Entries.{acting_core, touches}
use Rattle.round_model.specs.Kept.{Holds}
use Rattle.round_model.specs.Legal.{LegalNext}
use Rattle.round_model.specs.Lists.{Lists}
use Rattle.round_model.specs.Rows.{Row}
use Rattle.round_model.specs.Scenes.{entering_next, own_entries, scene_of}
use Rattle.round_model.proofs.Keeping.{length-without, some_at}
use Rattle.round_judge.specs.declared.past.Past.{Past}
use Rattle.round_judge.specs.Past.{IsPastOf, StandsFor, arrival_of, arrives_at, seen_in}
use Rattle.round_judge.specs.Steps.{comes}
use Rattle.round_judge.specs.Additions.{IsAdded, arrivals_after, ended_after, ended_by, turn_after}
use Rattle.round_judge.proofs.Keeping.{all_hold}
use Rattle.round_judge.proofs.Pasts.{arriving_next}
use Rattle.round_model.proofs.InBounds.{holds_bounds}

-- cores whose numbers lie in their ranges, and at which few threads stand in all, are in bounds
all_in_bounds : (p : Meaning) (state : List ModelCore) → All (Holds p) state → sum_by standing_count state ≤ MAX_THREADS → All (CoreInBounds p) state
all_in_bounds p state holds few = λ k d inside.
    let this = get_or-le-sum_by standing_count state k d inside in
    holds_bounds p (get_or state k d) (holds k d inside) (omega arith)

-- the flags keep their number
flags_kept : (e : Entry) (flags : List Bool) → length (ended_after e flags) ≡ length flags
flags_kept (entry.Round number) flags = refl
flags_kept (entry.Enter thread c at reads) flags = refl
flags_kept (entry.Wake thread c at reads) flags = refl
flags_kept (entry.Work c what) flags = by_word what
  where
    by_word : (word : Did) → length (ended_by word flags) ≡ length flags
    by_word did.Nothing = refl
    by_word (did.Kept thread) = refl
    by_word (did.Queued thread) = refl
    by_word (did.Blocked thread) = refl
    by_word (did.Ended thread) = length-set flags thread true
flags_kept (entry.Steal c from threads reads) flags = refl
flags_kept (entry.Fail c from reads) flags = refl
flags_kept (entry.Pass c reads) flags = refl

-- who comes was to arrive
pub fewer_left : (p : Meaning) (plan : Plan) (past : Past) (h : List Entry) (e : Entry) (by : ℕ) → acting_core e ≡ Some by → StandsFor p plan past h → LegalNext p plan h e
    → length (arrivals_after by e past.arrivals) + comes e ≡ length past.arrivals
unfolding LegalNext Row scene_of
fewer_left p plan past h (entry.Round number) by is stands legal = omega arith
fewer_left p plan past h (entry.Enter thread c at reads) by is stands legal =
    let same : c ≡ by = cc in
    let begun : 0 < past.rounds = let one = legal.begun in omega (arith, stands.rounds) in
    let found = arriving_next plan h past.arrivals c (stands.arrivals begun) in
    subst (λ (b : ℕ). length (arrivals_after b (entry.Enter thread c at reads) past.arrivals) + 1 ≡ length past.arrivals) same
    (length-without (arrives_at c) past.arrivals (subst IsSome (sym found) (is_there (entering_next plan (round_of h) c (own_entries h c)) legal.row.next)))
  where
    is_there : (found : Option Planned) → IsSomeAnd found (λ (t : Planned). t.id ≡ thread) → IsSome (option_map arrival_of found)
    is_there None next = absurd next
    is_there (Some t) next = refl
fewer_left p plan past h (entry.Wake thread c at reads) by is stands legal = omega arith
fewer_left p plan past h (entry.Work c what) by is stands legal = omega arith
fewer_left p plan past h (entry.Steal c from threads reads) by is stands legal = omega arith
fewer_left p plan past h (entry.Fail c from reads) by is stands legal = omega arith
fewer_left p plan past h (entry.Pass c reads) by is stands legal = omega arith

module _ (p : Meaning) (plan : Plan) (old new : Past) (e : Entry) (by : ℕ) (belongs : IsPastOf p plan old) (added : IsAdded p plan by e old new) where
  -- what the rows say of a core is within bounds, as it was and as it now is
  rows_in_bounds : All (CoreInBounds p) new.state → (k c : ℕ) → k < length new.rows → c < plan.cores → LoadsFit p (seen_in new.rows k c).nr (seen_in new.rows k c).load
  rows_in_bounds each k c inside there =
      let k0 = length old.rows - 1 in
      let some = belongs.window.some in
      let row = get_or old.rows k0 [] in
      let look = added.rows k0 row (omega arith) (some_at old.rows k0 [] (omega arith)) in
      let seen = look.0 in
      let count : length new.rows ≡ length old.rows + 1 = ap length look.2 ∙ length-append old.rows (seen ∷ []) in
      let none = opening_state plan c in
      let size : length new.state ≡ plan.cores = added.kept.len ∙ belongs.cores in
      let core = get_or new.state c none in
      let fits : CountAndLoad → Type 0 = λ s. LoadsFit p s.nr s.load in
      elim (ltb k (length old.rows)) as (λ b. ltb k (length old.rows) ≡ b → LoadsFit p (seen_in new.rows k c).nr (seen_in new.rows k c).load) [
        | true ↦ λ test.
            let earlier : k < length old.rows = grind (arith, nat_tests) in
            subst (λ (s : CountAndLoad). LoadsFit p s.nr s.load) (sym (ap (λ (rows : List (List CountAndLoad)). seen_in rows k c) look.2
            ∙ ap (λ (r : List CountAndLoad). get_or r c (record { nr = 0; load = 0 })) (get_or_append_left old.rows (seen ∷ []) [] k earlier)))
            (belongs.rows k c earlier there)
        | false ↦ λ test.
            let reached : length old.rows ≤ k = grind (arith, nat_tests) in
            let last : k ≡ length old.rows = omega (arith, count) in
            subst (λ (s : CountAndLoad). LoadsFit p s.nr s.load) (sym (ap (λ (j : ℕ). seen_in new.rows j c) last
            ∙ (ap (λ (rows : List (List CountAndLoad)). seen_in rows (length old.rows) c) look.2
            ∙ (ap (λ (r : List CountAndLoad). get_or r c (record { nr = 0; load = 0 })) (get_or-append_seam old.rows seen [] [])
            ∙ look.1 c core (some_at new.state c none (omega arith))))))
            (elim (touches c e) as (λ b. LoadsFit p (cond b (seen_of core) (get_or row c (record { nr = 0; load = 0 }))).nr (cond b (seen_of core) (get_or row c (record { nr = 0; load = 0 }))).load) [
              | true ↦ (each c none (omega arith)).loads
              | false ↦ belongs.rows k0 c (omega arith) there
            ])
      ] refl

  pub belongs_added : old.entries < MAX_ENTRIES → by < plan.cores → sum_by standing_count old.state + comes e ≤ MAX_THREADS
      → length (arrivals_after by e old.arrivals) + comes e ≡ length old.arrivals → IsPastOf p plan new
  belongs_added room there free fewer =
      let k0 = length old.rows - 1 in
      let some = belongs.window.some in
      let look = added.rows k0 (get_or old.rows k0 []) (omega arith) (some_at old.rows k0 [] (omega arith)) in
      let count : length new.rows ≡ length old.rows + 1 = ap length look.2 ∙ length-append old.rows (look.0 ∷ []) in
      let turn = get_or old.turns by (record { worked = false; attempted = false }) in
      let turns = added.turns turn (some_at old.turns by (record { worked = false; attempted = false }) (omega (arith, belongs.turns))) in
      let stand = added.kept.count in
      let each = all_in_bounds p new.state (added.kept.each (all_hold p old.state belongs.each)) (omega arith) in
      let left = ap length added.arrivals in
      let later : count_by (λ (t : Planned). nat_lt new.rounds t.round) plan.threads ≡ count_by (λ (t : Planned). nat_lt old.rounds t.round) plan.threads =
      ap (λ (n : ℕ). count_by (λ (t : Planned). nat_lt n t.round) plan.threads) added.rounds in
      record {
        limits = belongs.limits;
        cores = added.kept.len ∙ belongs.cores;
        turns = ap length turns ∙ (length-set old.turns by (turn_after e turn) ∙ belongs.turns);
        each = each;
        total = let total = belongs.total in omega (arith, left, later, fewer);
        window = record {
          some = omega (arith, count);
          within = let within = belongs.window.within in omega (arith, count, added.entries);
          few = omega (arith, added.entries);
        };
        rows = rows_in_bounds each;
        rounds = let within = belongs.rounds in omega (arith, added.rounds);
        lists = subst (Lists plan) (sym added.directory) belongs.lists;
        ended = ap length added.ended ∙ (flags_kept e old.ended ∙ belongs.ended);
      }
