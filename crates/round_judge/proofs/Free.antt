-- There is room for the thread that a legal entry lets in.
use Rattle.std.proofs.Common.{◌≡◌, ℕ, ◌+◌, ◌<◌, ◌≤◌, Bool, List, [], ◌∷◌, find, length, sum_by, Option, Some, None, option_map, arith}
use Rattle.std.specs.Prelude.{IsSomeAnd}
use Rattle.sched_base.specs.declared.limits.TheConstants.{MAX_THREADS}
use Rattle.policy_tree.specs.Meaning.{Meaning}
use Rattle.round_model.specs.declared.entry.Entry.{Entry}
use Rattle.round_model.specs.declared.entry.Entry.TheVariants as entry
use Rattle.round_model.specs.declared.plan.Plan.{Plan}
use Rattle.round_model.specs.declared.plan.Planned.{Planned}
use Rattle.round_model.specs.After.{round_of}
use Rattle.round_model.specs.Bounds.{standing_count}
use Rattle.round_model.specs.Fits.{Fits}
use Rattle.round_model.specs.Legal.{LegalNext}
use Rattle.round_model.specs.Rows.{Row}
use Rattle.round_model.specs.Scenes.{entering_next, own_entries, scene_of}
use Rattle.round_judge.specs.declared.past.Arrival.{Arrival}
use Rattle.round_judge.specs.declared.past.Past.{Past}
use Rattle.round_judge.specs.Past.{IsPastOf, StandsFor, arrival_of, arrives_at}
use Rattle.round_judge.specs.Steps.{comes}
use Rattle.round_judge.proofs.Pasts.{arriving_next}

some_found : (test : Arrival → Bool) (arrivals : List Arrival) (found : Option Planned) (id : ℕ) → find test arrivals ≡ option_map arrival_of found
    → IsSomeAnd found (λ (t : Planned). t.id ≡ id) → 1 ≤ length arrivals
some_found test [] None id is next = absurd next
some_found test [] (Some t) id is next = absurd (cc)
some_found test (x ∷ arrivals) found id is next = omega arith

pub is_free : (p : Meaning) (plan : Plan) (past : Past) (h : List Entry) (e : Entry) → Fits p plan → IsPastOf p plan past → StandsFor p plan past h → LegalNext p plan h e
    → sum_by standing_count past.state + comes e ≤ MAX_THREADS
unfolding LegalNext Row scene_of
is_free p plan past h (entry.Round number) fits belongs stands legal = let total = belongs.total in omega (arith, fits.few_threads)
is_free p plan past h (entry.Enter thread by at reads) fits belongs stands legal =
    let total = belongs.total in
    let begun : 0 < past.rounds = let one = legal.begun in omega (arith, stands.rounds) in
    let found = arriving_next plan h past.arrivals by (stands.arrivals begun) in
    let some = some_found (arrives_at by) past.arrivals (entering_next plan (round_of h) by (own_entries h by)) thread found legal.row.next in
    omega (arith, fits.few_threads)
is_free p plan past h (entry.Wake thread by at reads) fits belongs stands legal = let total = belongs.total in omega (arith, fits.few_threads)
is_free p plan past h (entry.Work by what) fits belongs stands legal = let total = belongs.total in omega (arith, fits.few_threads)
is_free p plan past h (entry.Steal by from threads reads) fits belongs stands legal = let total = belongs.total in omega (arith, fits.few_threads)
is_free p plan past h (entry.Fail by from reads) fits belongs stands legal = let total = belongs.total in omega (arith, fits.few_threads)
is_free p plan past h (entry.Pass by reads) fits belongs stands legal = let total = belongs.total in omega (arith, fits.few_threads)
