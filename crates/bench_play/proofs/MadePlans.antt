-- The plan of a made trace: each line fits the policy, each thread is there, and the limit has room for all rounds.
use Rattle.std.proofs.Common.{◌≡◌, ◌∙◌, ℕ, zero, suc, ◌+◌, ◌*◌, ◌/◌, ◌%◌, ltb, eqb, false, List, [], ◌∷◌, ◌++◌, length, Option, Some, None, Ok, ap, ap₂, refl, sym, arith}
use Rattle.std.specs.Option.{option_or}
use Rattle.std.proofs.lemmas.Bool.Decides.{nat_tests}
use Rattle.std.proofs.lemmas.List.{length-append}
use Rattle.std.proofs.lemmas.List.Elements.{filter_map-append}
use Rattle.std.proofs.lemmas.Nat.{mod_below}
use Rattle.sched_base.specs.declared.limits.TheConstants.{MAX_THREADS}
use Rattle.policy_tree.specs.declared.typed.Attr.{Attr}
use Rattle.policy_tree.specs.declared.typed.Load.{Load}
use Rattle.policy_tree.specs.declared.typed.Load.TheVariants as load
use Rattle.policy_tree.specs.Meaning.{Meaning}
use Rattle.round_model.specs.declared.plan.Plan.{Plan}
use Rattle.round_model.specs.Fits.{Fits}
use Rattle.round_model.specs.Limits.{IsWithinLimits}
use Rattle.serial_steps.specs.Room.{HasRoomForRounds}
use Rattle.serial_steps.specs.SerialEnds.{most_entries}
use Rattle.job_trace.specs.declared.plan_fault.PlanFault.{PlanFault}
use Rattle.job_trace.specs.declared.trace.Numbered.{Numbered}
use Rattle.job_trace.specs.Plans.{SpellsPlan, first_fault, is_foreign, limit_of, line_fault, rounds_of, IsForeign, thread_of, threads_of}
use Rattle.job_trace.specs.Rules.{cores_of}
use Rattle.trace_maker.specs.Generator.{drawn, state_after}
use Rattle.trace_maker.specs.Made.{made, made_trace, thread_line, thread_lines}
use Rattle.fair_policy.specs.Fair.{fair_meaning}
use Rattle.bench_play.specs.Bench.{IsMadePlan, IsSize}

-- the weight of a made thread is one that the policy has
weight_fits : (draw : ℕ) → is_foreign (load.Weight 1 8) (1 + draw / 32 % 8) ≡ false
weight_fits draw =
    let below = mod_below (draw / 32) 8 (omega arith) in
    let least : ltb (1 + draw / 32 % 8) 1 ≡ false = grind (arith, nat_tests) in
    let greatest : ltb 8 (1 + draw / 32 % 8) ≡ false = grind (arith, nat_tests) in
    rw (least, greatest) refl

-- no fault is found exactly where neither finds one
neither : (a b : Option PlanFault) → option_or a b ≡ None → (a ≡ None) × (b ≡ None)
neither None b none = (refl, none)
neither (Some fault) b none = absurd (cc)

none_then : (a b : Option PlanFault) → a ≡ None → b ≡ None → option_or a b ≡ None
none_then a b none others = cc (ap (λ (x : Option PlanFault). option_or x b) none)

-- a line more that fits
fit_more : (l : Load) (attrs : List Attr) (ns : List Numbered) (n : Numbered) → first_fault l attrs ns ≡ None → line_fault l attrs n.number n.line ≡ None
    → first_fault l attrs (ns ++ n ∷ []) ≡ None
fit_more l attrs [] n front last = none_then (line_fault l attrs n.number n.line) None last refl
fit_more l attrs (m ∷ ns) n front last =
    let parts = neither (line_fault l attrs m.number m.line) (first_fault l attrs ns) front in
    none_then (line_fault l attrs m.number m.line) (first_fault l attrs (ns ++ n ∷ [])) parts.0 (fit_more l attrs ns n parts.1 last)

lines_fit : (seed size : ℕ) → first_fault (load.Weight 1 8) [] (thread_lines seed size) ≡ None
lines_fit seed zero = refl
lines_fit seed (suc done) =
    let draw = drawn (state_after seed (suc done)) in
    fit_more (load.Weight 1 8) [] (thread_lines seed done) (thread_line (suc done) draw) (lines_fit seed done) (rw (weight_fits draw) refl)

pub made_fits : (seed size : ℕ) → first_fault fair_meaning.load fair_meaning.core_attrs (made_trace seed size) ≡ None
made_fits seed size = lines_fit seed size

-- each line lets in a thread
threads_there : (seed size : ℕ) → length (threads_of (load.Weight 1 8) (thread_lines seed size)) ≡ size
threads_there seed zero = refl
threads_there seed (suc done) =
    let l = load.Weight 1 8 in let front = thread_lines seed done in let last = thread_line (suc done) (drawn (state_after seed (suc done))) in
    ap length (filter_map-append (λ (n : Numbered). thread_of l n.line) front (last ∷ []))
    ∙ omega (arith, threads_there seed done, length-append (threads_of l front) (threads_of l (last ∷ [])))

-- a trace of that size is made
pub is_made : (seed size : ℕ) → IsSize size → made seed size ≡ Ok (made_trace seed size)
is_made seed size sized =
    let some : eqb size 0 ≡ false = grind (arith, nat_tests, sized.some) in
    let few : ltb MAX_THREADS size ≡ false = grind (arith, nat_tests, sized.few) in
    rw (some, few) refl

pub is_made_plan : (seed size : ℕ) (plan : Plan) → IsSize size → SpellsPlan fair_meaning (made_trace seed size) plan → Fits fair_meaning plan → IsWithinLimits plan → IsMadePlan seed size plan
is_made_plan seed size plan sized spells fits limits = record {
  trace = made_trace seed size;
  made = is_made seed size sized;
  means = spells;
  fits = fits;
  limits = limits;
  threads = ap (λ (q : Plan). length q.threads) spells.is ∙ threads_there seed size;
}

-- 60 rounds of at most 1,088 entries
pub made_room : (seed size : ℕ) (plan : Plan) → IsSize size → IsMadePlan seed size plan → HasRoomForRounds plan
made_room seed size plan sized planned =
    let same : made_trace seed size ≡ planned.trace = cc (is_made seed size sized, planned.made) in
    let rounds : plan.rounds ≡ 60 = ap (λ (q : Plan). q.rounds) planned.means.is ∙ sym (ap rounds_of same) in
    let cores : plan.cores ≡ 32 = ap (λ (q : Plan). q.cores) planned.means.is ∙ sym (ap cores_of same) in
    let limit : plan.limit ≡ 65536 = ap (λ (q : Plan). q.limit) planned.means.is ∙ sym (ap limit_of same) in
    let few = sized.few in let threads = planned.threads in
    let product : plan.rounds * most_entries plan ≡ 60 * most_entries plan = ap (λ (n : ℕ). n * most_entries plan) rounds in
    omega arith

-- and so the trace is never refused
pub never_foreign : (seed size : ℕ) (p : Meaning) (trace : List Numbered) (fault : PlanFault) → p ≡ fair_meaning → trace ≡ made_trace seed size → IsForeign p trace fault → ⊥
never_foreign seed size p trace fault fair same foreign =
    let none : first_fault p.load p.core_attrs trace ≡ None =
    ap₂ (λ (q : Meaning) (lines : List Numbered). first_fault q.load q.core_attrs lines) fair same ∙ made_fits seed size in
    absurd (cc)
