-- Each line of a made trace has a spelling.
use Rattle.std.proofs.Common.{ℕ, ◌+◌, ◌≤◌, ◌<◌, ◌^◌, ◌/◌, ◌%◌, Bool, true, false, cond, List, [], ◌∷◌, codes, arith, lit<}
use Rattle.std.specs.Prelude.{decimal, ◌==◌}
use Rattle.std.proofs.lemmas.Nat.{mod_below}
use Rattle.sched_base.specs.declared.limits.TheConstants.{MAX_DIGITS, MAX_ENTRIES, MAX_THREADS}
use Rattle.round_model.specs.declared.plan.Ending.TheVariants as ending
use Rattle.text_forms.proofs.DecimalLemmas.{decimal-read}
use Rattle.job_trace.specs.declared.trace.TraceLine.TheVariants.{Cores, Rounds, Entries, Thread}
use Rattle.job_trace.specs.Forms.{SpellsNumber, SpellsProgram, burst, cores_line, entries_line, rounds_line, run_block, run_end, run_forever, run_yield, some_weight, thread_line}
use Rattle.job_trace.specs.Rules.{HasSpelling}
use Rattle.trace_maker.specs.Made.{bursts_of_kind, made_cores, made_rounds, made_thread}

-- numbers up to a million have a spelling
spelt : (n : ℕ) → n ≤ 1000000 → SpellsNumber (decimal n) n
spelt n few = let room : 1000000 < 10 ^ MAX_DIGITS = lit< tt in decimal-read n (omega (arith, few, room))

program-spelt : (kind units rounds : ℕ) → units ≤ 1000000 → rounds ≤ 1000000 → (words : List (List ℕ)) × SpellsProgram words (bursts_of_kind kind units rounds)
program-spelt kind units rounds few few_rounds = by (kind == 0) (kind == 1) (kind == 2)
  where
    last : SpellsProgram (codes "run" ∷ decimal units ∷ []) (burst units ending.End ∷ [])
    last = run_end (decimal units) (spelt units few)

    by : (a b c : Bool) → (words : List (List ℕ)) × SpellsProgram words (cond a (burst 1 ending.Forever ∷ []) (cond b (burst units ending.End ∷ [])
        (cond c (burst units (ending.Block rounds) ∷ burst units ending.End ∷ []) (burst units ending.Yield ∷ burst units ending.End ∷ []))))
    by true b c = (codes "forever" ∷ [], run_forever)
    by false true c = (codes "run" ∷ decimal units ∷ [], last)
    by false false true = (
      codes "run" ∷ decimal units ∷ codes "block" ∷ decimal rounds ∷ codes "run" ∷ decimal units ∷ [],
      run_block (decimal units) (decimal rounds) (codes "run" ∷ decimal units ∷ []) (spelt units few) (spelt rounds few_rounds) last,
    )
    by false false false = (
      codes "run" ∷ decimal units ∷ codes "yield" ∷ codes "run" ∷ decimal units ∷ [],
      run_yield (decimal units) (codes "run" ∷ decimal units ∷ []) (spelt units few) last,
    )

pub thread-spelt : (id draw : ℕ) → id ≤ MAX_THREADS → HasSpelling (Thread (made_thread id draw))
thread-spelt id draw few =
    let core = mod_below draw 4 (omega arith) in
    let round = mod_below (draw / 4) 8 (omega arith) in
    let weight = mod_below (draw / 32) 8 (omega arith) in
    let units = mod_below (draw / 256) 16 (omega arith) in
    let rounds = mod_below (draw / 16384) 8 (omega arith) in
    let (program, runs) = program-spelt (draw / 4096 % 4) (1 + draw / 256 % 16) (1 + draw / 16384 % 8) (omega (arith, units)) (omega (arith, rounds)) in (
      codes "thread" ∷ decimal id ∷ codes "core" ∷ decimal (draw % 4) ∷ codes "round" ∷ decimal (1 + draw / 4 % 8)
          ∷ codes "weight" ∷ decimal (1 + draw / 32 % 8) ∷ program,
      thread_line (decimal id) (decimal (draw % 4)) (decimal (1 + draw / 4 % 8)) (codes "weight" ∷ decimal (1 + draw / 32 % 8) ∷ []) program
          (spelt id (omega (arith, few))) (spelt (draw % 4) (omega (arith, core))) (spelt (1 + draw / 4 % 8) (omega (arith, round)))
          (some_weight (decimal (1 + draw / 32 % 8)) (spelt (1 + draw / 32 % 8) (omega (arith, weight)))) runs,
    )

pub cores-spelt : HasSpelling (Cores made_cores)
cores-spelt = (codes "cores" ∷ decimal made_cores ∷ [], cores_line (decimal made_cores) (spelt made_cores (omega arith)))

pub rounds-spelt : HasSpelling (Rounds made_rounds)
rounds-spelt = (codes "rounds" ∷ decimal made_rounds ∷ [], rounds_line (decimal made_rounds) (spelt made_rounds (omega arith)))

pub entries-spelt : HasSpelling (Entries MAX_ENTRIES)
entries-spelt = (codes "entries" ∷ decimal MAX_ENTRIES ∷ [], entries_line (decimal MAX_ENTRIES) (spelt MAX_ENTRIES (omega arith)))
