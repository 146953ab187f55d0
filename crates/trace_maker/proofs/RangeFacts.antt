-- The numbers of a made thread pass no range.
use Rattle.std.proofs.Common.{◌≡◌, ℕ, ◌+◌, ◌≤◌, ◌/◌, ◌%◌, ◌-◌, Bool, true, false, cond, List, [], ◌∷◌, None, refl, arith, ltb}
use Rattle.std.specs.Prelude.{◌==◌}
use Rattle.std.proofs.lemmas.Bool.Decides.{nat_tests}
use Rattle.std.proofs.lemmas.Nat.{mod_below}
use Rattle.sched_base.specs.declared.limits.TheConstants.{MAX_BLOCK_ROUNDS, MAX_ROUNDS, MAX_THREADS, MAX_UNITS, MAX_WEIGHT}
use Rattle.round_model.specs.declared.plan.Ending.TheVariants as ending
use Rattle.job_trace.specs.declared.trace.TraceLine.TheVariants.{Thread}
use Rattle.job_trace.specs.Forms.{burst}
use Rattle.job_trace.specs.Rules.{Measure, burst_measures, first_passed, measures, passed_end, ranged}
use Rattle.trace_maker.specs.Made.{bursts_of_kind, made_bursts, made_cores, made_thread}

within-range : (value low high : ℕ) → low ≤ value → value ≤ high → passed_end (ranged value low high) ≡ None
within-range value low high above below =
    let not_below : ltb value low ≡ false = grind (arith, nat_tests) in
    let not_above : ltb high value ≡ false = grind (arith, nat_tests) in
    rw (not_below, not_above) refl

next-within : (value low high : ℕ) (rest : List Measure) → low ≤ value → value ≤ high → first_passed rest ≡ None →
    first_passed (ranged value low high ∷ rest) ≡ None
next-within value low high rest above below none = rw (within-range value low high above below) none

bursts-within : (kind units rounds : ℕ) → 1 ≤ units → units ≤ MAX_UNITS → 1 ≤ rounds → rounds ≤ MAX_BLOCK_ROUNDS →
    first_passed (burst_measures 1 (bursts_of_kind kind units rounds)) ≡ None
bursts-within kind units rounds some few some_rounds few_rounds = by (kind == 0) (kind == 1) (kind == 2)
  where
    last : first_passed (burst_measures 2 (burst units ending.End ∷ [])) ≡ None
    last = next-within units 1 MAX_UNITS [] some few refl

    by : (a b c : Bool) → first_passed (burst_measures 1 (cond a (burst 1 ending.Forever ∷ []) (cond b (burst units ending.End ∷ [])
        (cond c (burst units (ending.Block rounds) ∷ burst units ending.End ∷ []) (burst units ending.Yield ∷ burst units ending.End ∷ []))))) ≡ None
    by true b c = refl
    by false true c = next-within units 1 MAX_UNITS [] some few refl
    by false false true =
        next-within units 1 MAX_UNITS (ranged rounds 1 MAX_BLOCK_ROUNDS ∷ burst_measures 2 (burst units ending.End ∷ [])) some few
        (next-within rounds 1 MAX_BLOCK_ROUNDS (burst_measures 2 (burst units ending.End ∷ [])) some_rounds few_rounds last)
    by false false false = next-within units 1 MAX_UNITS (burst_measures 2 (burst units ending.End ∷ [])) some few last

pub thread-within : (id draw : ℕ) → 1 ≤ id → id ≤ MAX_THREADS → first_passed (measures made_cores (Thread (made_thread id draw))) ≡ None
thread-within id draw some few =
    let core = mod_below draw 4 (omega arith) in
    let round = mod_below (draw / 4) 8 (omega arith) in
    let weight = mod_below (draw / 32) 8 (omega arith) in
    let units = mod_below (draw / 256) 16 (omega arith) in
    let rounds = mod_below (draw / 16384) 8 (omega arith) in
    let bursts : List Measure = burst_measures 1 (made_bursts draw) in
    let weighs : List Measure = ranged (1 + draw / 32 % 8) 1 MAX_WEIGHT ∷ bursts in
    let enters : List Measure = ranged (1 + draw / 4 % 8) 1 MAX_ROUNDS ∷ weighs in
    next-within id 1 MAX_THREADS (ranged (draw % 4) 0 (made_cores - 1) ∷ enters) some few
    (next-within (draw % 4) 0 (made_cores - 1) enters (omega arith) (omega (arith, core))
    (next-within (1 + draw / 4 % 8) 1 MAX_ROUNDS weighs (omega arith) (omega (arith, round))
    (next-within (1 + draw / 32 % 8) 1 MAX_WEIGHT bursts (omega arith) (omega (arith, weight))
    (bursts-within (draw / 4096 % 4) (1 + draw / 256 % 16) (1 + draw / 16384 % 8) (omega arith) (omega (arith, units)) (omega arith) (omega (arith, rounds))))))
