-- Numbers as they are kept while a line is read: they pass a range exactly where the numbers themselves do, and where
-- they pass none they are the numbers.
use Rattle.std.proofs.Common.{◌≡◌, ◌∙◌, ℕ, zero, suc, ◌-◌, ◌+◌, ◌<◌, ◌≤◌, Bool, true, false, cond, List, [], ◌∷◌, ◌++◌, map, Option, Some, None, refl, ap, ap₂, sym, arith, ltb}
use Rattle.std.specs.Prelude.{ℤ, pos, negsuc, neg_ℤ}
use Rattle.std.specs.Option.{option_or}
use Rattle.std.proofs.lemmas.Bool.Decides.{nat_tests}
use Rattle.sched_base.specs.declared.limits.TheConstants.{MAX_ATTRIBUTE, MAX_BLOCK_ROUNDS, MAX_BURSTS, MAX_CORES, MAX_ENTRIES, MAX_ORDER_CORES, MAX_ROUNDS, MAX_THREADS, MAX_UNITS, MAX_WEIGHT}
use Rattle.round_model.specs.declared.plan.Burst.{Burst}
use Rattle.round_model.specs.declared.plan.Planned.{Planned}
use Rattle.round_model.specs.declared.plan.Ending.{Ending}
use Rattle.round_model.specs.declared.plan.Ending.TheVariants as ending
use Rattle.job_trace.specs.declared.trace.NamedConst.{NamedConst}
use Rattle.job_trace.specs.declared.trace.TraceLine.{TraceLine}
use Rattle.job_trace.specs.declared.trace.TraceLine.TheVariants.{Cores, Rounds, Entries, Core, Thread, Order}
use Rattle.job_trace.specs.declared.trace.Numbered.{Numbered}
use Rattle.job_trace.specs.Forms.{negative}
use Rattle.job_trace.specs.Rules.{Measure, block_measures, burst_measures, const_measure, constant, first_passed, may_stand, measures, order_measures, passed_end, ranged}
use Rattle.job_trace.specs.Code.Steps.{greatest_kept, kept}
use Rattle.job_trace.proofs.RangeLemmas.{first-none}

abbrev pub kept_ending : Ending → Ending
kept_ending ending.Yield = ending.Yield
kept_ending (ending.Block rounds) = ending.Block (kept rounds)
kept_ending ending.End = ending.End
kept_ending ending.Forever = ending.Forever

abbrev pub kept_burst : Burst → Burst
kept_burst b = record { units = kept b.units; ending = kept_ending b.ending }

abbrev pub kept_value : ℤ → ℤ
kept_value (pos n) = pos (kept n)
kept_value (negsuc n) = negative (kept (suc n))

abbrev pub kept_const : NamedConst → NamedConst
kept_const given = record { name = given.name; value = kept_value given.value }

abbrev pub kept_line : TraceLine → TraceLine
kept_line (Cores number) = Cores (kept number)
kept_line (Rounds number) = Rounds (kept number)
kept_line (Entries number) = Entries (kept number)
kept_line (Core given) = Core (record { core = kept given.core; consts = map kept_const given.consts })
kept_line (Thread t) = Thread (record {
  id = kept t.id;
  core = kept t.core;
  round = kept t.round;
  weight = kept t.weight;
  bursts = map kept_burst t.bursts;
})
kept_line (Order order) = Order (record { round = kept order.round; cores = map kept order.cores })

pub kept-small : (n : ℕ) → n ≤ greatest_kept → kept n ≡ n
kept-small n few = by (ltb greatest_kept n) refl
  where
    by : (b : Bool) → ltb greatest_kept n ≡ b → cond b greatest_kept n ≡ n
    by true e = absurd (grind (arith, nat_tests))
    by false e = refl

kept-large : (n : ℕ) → ltb greatest_kept n ≡ true → kept n ≡ greatest_kept
kept-large n e = rw e refl

pub kept-negative : (n : ℕ) → kept_value (negative n) ≡ negative (kept n)
kept-negative zero = refl
kept-negative (suc n) = refl

-- a kept number passes what the number passes
record KeepsRange (n low high : ℕ) : Type 0 where
  passes : passed_end (ranged (kept n) low high) ≡ passed_end (ranged n low high)
  stays : passed_end (ranged n low high) ≡ None → kept n ≡ n

keeps-range : (n low high : ℕ) → low ≤ high → high < greatest_kept → KeepsRange n low high
keeps-range n low high order few = by (ltb greatest_kept n) refl
  where
    above_shown : ltb n low ≡ false → ltb high n ≡ true → passed_end (ranged n low high) ≡ Some (pos high)
    above_shown not_below above = rw (not_below, above) refl

    never : Some (pos high) ≡ None → kept n ≡ n
    never e = cc

    by : (b : Bool) → ltb greatest_kept n ≡ b → KeepsRange n low high
    by false e = record { passes = rw e refl; stays = λ none. rw e refl }
    by true e =
        let above : ltb high n ≡ true = grind (arith, nat_tests) in
        let not_below : ltb n low ≡ false = grind (arith, nat_tests) in
        let kept_above : ltb high greatest_kept ≡ true = grind (arith, nat_tests) in
        let kept_not_below : ltb greatest_kept low ≡ false = grind (arith, nat_tests) in
        record {
          passes = rw (e, above, not_below, kept_above, kept_not_below) refl;
          stays = λ none. never (sym (above_shown not_below above) ∙ none);
        }

keeps-value : (value : ℤ) → (passed_end (constant (kept_value value)) ≡ passed_end (constant value)) × (passed_end (constant value) ≡ None → kept_value value ≡ value)
keeps-value (pos n) = by (ltb greatest_kept n) refl
  where
    by : (b : Bool) → ltb greatest_kept n ≡ b →
        (passed_end (constant (pos (kept n))) ≡ passed_end (constant (pos n))) × (passed_end (constant (pos n)) ≡ None → pos (kept n) ≡ pos n)
    by false e = (rw e refl, λ none. rw e refl)
    by true e =
        let above : ltb MAX_UNITS n ≡ true = grind (arith, nat_tests) in
        (rw e (rw above refl), λ none. let shown : passed_end (constant (pos n)) ≡ Some MAX_ATTRIBUTE = rw above refl in let clash : Some MAX_ATTRIBUTE ≡ None = sym shown ∙ none in cc)
keeps-value (negsuc n) = by (ltb greatest_kept (suc n)) refl
  where
    by : (b : Bool) → ltb greatest_kept (suc n) ≡ b →
        (passed_end (constant (negative (kept (suc n)))) ≡ passed_end (constant (negsuc n))) × (passed_end (constant (negsuc n)) ≡ None → negative (kept (suc n)) ≡ negsuc n)
    by false e = (rw e refl, λ none. rw e refl)
    by true e =
        let large = kept-large (suc n) e in
        let above : ltb 1048574 n ≡ true = grind (arith, nat_tests) in
        let shown : passed_end (constant (negsuc n)) ≡ Some (neg_ℤ MAX_ATTRIBUTE) = rw above refl in
        (ap (λ k. passed_end (constant (negative k))) large ∙ sym shown, λ none. let clash : Some (neg_ℤ MAX_ATTRIBUTE) ≡ None = sym shown ∙ none in cc)

-- the measures of two lists together
pub first_passed-append : (ms ns : List Measure) → first_passed (ms ++ ns) ≡ option_or (first_passed ms) (first_passed ns)
first_passed-append [] ns = refl
first_passed-append (m ∷ ms) ns = by (passed_end m) (first_passed-append ms ns)
  where
    by : (o : Option ℤ) → first_passed (ms ++ ns) ≡ option_or (first_passed ms) (first_passed ns) →
        option_or o (first_passed (ms ++ ns)) ≡ option_or (option_or o (first_passed ms)) (first_passed ns)
    by None e = e
    by (Some end) e = refl

pub append-none : (ms ns : List Measure) → first_passed (ms ++ ns) ≡ None → (first_passed ms ≡ None) × (first_passed ns ≡ None)
append-none ms ns e = by (first_passed ms) refl (sym (first_passed-append ms ns) ∙ e)
  where
    by : (o : Option ℤ) → first_passed ms ≡ o → option_or o (first_passed ns) ≡ None → (first_passed ms ≡ None) × (first_passed ns ≡ None)
    by None is e = (is, e)
    by (Some end) is e = cc

-- what is kept of a thing passes what the thing passes, and is the thing where it passes nothing
pub record Keeps {X : Type 0} (measures_of : X → List Measure) (keep : X → X) (x : X) : Type 0 where
  pub passes : first_passed (measures_of (keep x)) ≡ first_passed (measures_of x)
  pub stays : first_passed (measures_of x) ≡ None → keep x ≡ x

next-passes : (m n : Measure) (ms ns : List Measure) → passed_end m ≡ passed_end n → first_passed ms ≡ first_passed ns →
    first_passed (m ∷ ms) ≡ first_passed (n ∷ ns)
next-passes m n ms ns e f = ap₂ option_or e f

append-passes : (ks ls ms ns : List Measure) → first_passed ks ≡ first_passed ms → first_passed ls ≡ first_passed ns →
    first_passed (ks ++ ls) ≡ first_passed (ms ++ ns)
append-passes ks ls ms ns e f = first_passed-append ks ls ∙ ap₂ option_or e f ∙ sym (first_passed-append ms ns)

keeps-block : (e : Ending) → Keeps block_measures kept_ending e
keeps-block ending.Yield = record { passes = refl; stays = λ none. refl }
keeps-block (ending.Block rounds) =
    let range = keeps-range rounds 1 MAX_BLOCK_ROUNDS (omega arith) (omega arith) in
    record {
      passes = next-passes (ranged (kept rounds) 1 MAX_BLOCK_ROUNDS) (ranged rounds 1 MAX_BLOCK_ROUNDS) [] [] range.passes refl;
      stays = λ none. ap (λ r. ending.Block r) (range.stays (first-none (ranged rounds 1 MAX_BLOCK_ROUNDS) [] none).0);
    }
keeps-block ending.End = record { passes = refl; stays = λ none. refl }
keeps-block ending.Forever = record { passes = refl; stays = λ none. refl }

burst-same : (b : Burst) → kept b.units ≡ b.units → kept_ending b.ending ≡ b.ending → kept_burst b ≡ b
burst-same b e f = ap₂ (λ units end. record { units = units; ending = end }) e f

keeps-bursts : (count : ℕ) (bs : List Burst) → Keeps (burst_measures count) (map kept_burst) bs
keeps-bursts count [] = record { passes = refl; stays = λ none. refl }
keeps-bursts count (b ∷ rest) =
    let later = keeps-bursts (count + 1) rest in
    let units = keeps-range b.units 1 MAX_UNITS (omega arith) (omega arith) in
    let block = keeps-block b.ending in
    let more : List Measure = block_measures b.ending ++ burst_measures (count + 1) rest in
    let kept_more : List Measure = block_measures (kept_ending b.ending) ++ burst_measures (count + 1) (map kept_burst rest) in
    record {
      passes =
          next-passes (ranged count 1 MAX_BURSTS) (ranged count 1 MAX_BURSTS) (ranged (kept b.units) 1 MAX_UNITS ∷ kept_more) (ranged b.units 1 MAX_UNITS ∷ more) refl
          (next-passes (ranged (kept b.units) 1 MAX_UNITS) (ranged b.units 1 MAX_UNITS) kept_more more units.passes
          (append-passes (block_measures (kept_ending b.ending)) (burst_measures (count + 1) (map kept_burst rest)) (block_measures b.ending) (burst_measures (count + 1) rest) block.passes later.passes));
      stays = λ none.
          let at_count = first-none (ranged count 1 MAX_BURSTS) (ranged b.units 1 MAX_UNITS ∷ more) none in
          let at_units = first-none (ranged b.units 1 MAX_UNITS) more at_count.1 in
          let parts = append-none (block_measures b.ending) (burst_measures (count + 1) rest) at_units.1 in
          ap₂ (λ (c : Burst) cs. c ∷ cs) (burst-same b (units.stays at_units.0) (block.stays parts.0)) (later.stays parts.1);
    }

keeps-cores : (last count : ℕ) → last < greatest_kept → (cores : List ℕ) → Keeps (order_measures last count) (map kept) cores
keeps-cores last count few [] = record { passes = refl; stays = λ none. refl }
keeps-cores last count few (core ∷ rest) =
    let later = keeps-cores last (count + 1) few rest in
    let range = keeps-range core 0 last (omega arith) few in
    let more : List Measure = order_measures last (count + 1) rest in
    let kept_more : List Measure = order_measures last (count + 1) (map kept rest) in
    record {
      passes =
          next-passes (ranged count 1 MAX_ORDER_CORES) (ranged count 1 MAX_ORDER_CORES) (ranged (kept core) 0 last ∷ kept_more) (ranged core 0 last ∷ more) refl
          (next-passes (ranged (kept core) 0 last) (ranged core 0 last) kept_more more range.passes later.passes);
      stays = λ none.
          let at_count = first-none (ranged count 1 MAX_ORDER_CORES) (ranged core 0 last ∷ more) none in
          let at_core = first-none (ranged core 0 last) more at_count.1 in
          ap₂ (λ (c : ℕ) cs. c ∷ cs) (range.stays at_core.0) (later.stays at_core.1);
    }

keeps-consts : (consts : List NamedConst) → Keeps (map const_measure) (map kept_const) consts
keeps-consts [] = record { passes = refl; stays = λ none. refl }
keeps-consts (given ∷ rest) =
    let later = keeps-consts rest in
    let value = keeps-value given.value in
    record {
      passes = next-passes (constant (kept_value given.value)) (constant given.value) (map const_measure (map kept_const rest)) (map const_measure rest) value.0 later.passes;
      stays = λ none.
          let here = first-none (constant given.value) (map const_measure rest) none in
          ap₂ (λ (c : NamedConst) cs. c ∷ cs) (ap (λ v. record { name = given.name; value = v }) (value.1 here.0)) (later.stays here.1);
    }

number-passes : (n low high : ℕ) → low ≤ high → high < greatest_kept →
    first_passed (ranged (kept n) low high ∷ []) ≡ first_passed (ranged n low high ∷ [])
number-passes n low high order few =
    next-passes (ranged (kept n) low high) (ranged n low high) [] [] (keeps-range n low high order few).passes refl

number-stays : (n low high : ℕ) → low ≤ high → high < greatest_kept → first_passed (ranged n low high ∷ []) ≡ None → kept n ≡ n
number-stays n low high order few none =
    (keeps-range n low high order few).stays (first-none (ranged n low high) [] none).0

-- a line passes what its kept numbers pass, and is kept whole where it passes nothing
pub keeps-line : (cores : ℕ) → cores ≤ MAX_CORES → (line : TraceLine) → Keeps (measures cores) kept_line line
keeps-line cores few (Cores n) = record {
  passes = number-passes n 1 MAX_CORES (omega arith) (omega arith);
  stays = λ none. ap (λ k. Cores k) (number-stays n 1 MAX_CORES (omega arith) (omega arith) none);
}
keeps-line cores few (Rounds n) = record {
  passes = number-passes n 0 MAX_ROUNDS (omega arith) (omega arith);
  stays = λ none. ap (λ k. Rounds k) (number-stays n 0 MAX_ROUNDS (omega arith) (omega arith) none);
}
keeps-line cores few (Entries n) = record {
  passes = number-passes n 0 MAX_ENTRIES (omega arith) (omega arith);
  stays = λ none. ap (λ k. Entries k) (number-stays n 0 MAX_ENTRIES (omega arith) (omega arith) none);
}
keeps-line cores few (Core given) =
    let core = keeps-range given.core 0 (cores - 1) (omega arith) (omega (arith, few)) in
    let later = keeps-consts given.consts in
    let more : List Measure = map const_measure given.consts in
    let kept_more : List Measure = map const_measure (map kept_const given.consts) in
    record {
      passes = next-passes (ranged (kept given.core) 0 (cores - 1)) (ranged given.core 0 (cores - 1)) kept_more more core.passes later.passes;
      stays = λ none.
          let here = first-none (ranged given.core 0 (cores - 1)) more none in
          ap₂ (λ c cs. Core (record { core = c; consts = cs })) (core.stays here.0) (later.stays here.1);
    }
keeps-line cores few (Order order) =
    let round = keeps-range order.round 1 MAX_ROUNDS (omega arith) (omega arith) in
    let later = keeps-cores (cores - 1) 1 (omega (arith, few)) order.cores in
    let more : List Measure = order_measures (cores - 1) 1 order.cores in
    let kept_more : List Measure = order_measures (cores - 1) 1 (map kept order.cores) in
    record {
      passes = next-passes (ranged (kept order.round) 1 MAX_ROUNDS) (ranged order.round 1 MAX_ROUNDS) kept_more more round.passes later.passes;
      stays = λ none.
          let here = first-none (ranged order.round 1 MAX_ROUNDS) more none in
          ap₂ (λ r cs. Order (record { round = r; cores = cs })) (round.stays here.0) (later.stays here.1);
    }
keeps-line cores few (Thread t) =
    let id = keeps-range t.id 1 MAX_THREADS (omega arith) (omega arith) in
    let core = keeps-range t.core 0 (cores - 1) (omega arith) (omega (arith, few)) in
    let round = keeps-range t.round 1 MAX_ROUNDS (omega arith) (omega arith) in
    let weight = keeps-range t.weight 1 MAX_WEIGHT (omega arith) (omega arith) in
    let later = keeps-bursts 1 t.bursts in
    let w : List Measure = ranged t.weight 1 MAX_WEIGHT ∷ burst_measures 1 t.bursts in
    let r : List Measure = ranged t.round 1 MAX_ROUNDS ∷ w in
    let c : List Measure = ranged t.core 0 (cores - 1) ∷ r in
    record {
      passes =
          ap₂ option_or id.passes (ap₂ option_or core.passes (ap₂ option_or round.passes (ap₂ option_or weight.passes later.passes)));
      stays = λ none.
          let at_id = first-none (ranged t.id 1 MAX_THREADS) c none in
          let at_core = first-none (ranged t.core 0 (cores - 1)) r at_id.1 in
          let at_round = first-none (ranged t.round 1 MAX_ROUNDS) w at_core.1 in
          let at_weight = first-none (ranged t.weight 1 MAX_WEIGHT) (burst_measures 1 t.bursts) at_round.1 in
          thread-same t (id.stays at_id.0) (core.stays at_core.0) (round.stays at_round.0) (weight.stays at_weight.0) (later.stays at_weight.1);
    }
  where
    thread-same : (t : Planned) → kept t.id ≡ t.id → kept t.core ≡ t.core → kept t.round ≡ t.round → kept t.weight ≡ t.weight →
        map kept_burst t.bursts ≡ t.bursts → kept_line (Thread t) ≡ Thread t
    thread-same t e f g h i =
        ap₂ (λ id core. Thread (record { id = id; core = core; round = kept t.round; weight = kept t.weight; bursts = map kept_burst t.bursts })) e f
        ∙ ap₂ (λ round weight. Thread (record { id = t.id; core = t.core; round = round; weight = weight; bursts = map kept_burst t.bursts })) g h
        ∙ ap (λ bursts. Thread (record { id = t.id; core = t.core; round = t.round; weight = t.weight; bursts = bursts })) i

pub kept-stands : (front : List Numbered) (line : TraceLine) → may_stand front (kept_line line) ≡ may_stand front line
kept-stands [] (Cores n) = refl
kept-stands [] (Rounds n) = refl
kept-stands [] (Entries n) = refl
kept-stands [] (Core given) = refl
kept-stands [] (Thread t) = refl
kept-stands [] (Order order) = refl
kept-stands (first ∷ []) (Cores n) = refl
kept-stands (first ∷ []) (Rounds n) = refl
kept-stands (first ∷ []) (Entries n) = refl
kept-stands (first ∷ []) (Core given) = refl
kept-stands (first ∷ []) (Thread t) = refl
kept-stands (first ∷ []) (Order order) = refl
kept-stands (first ∷ second ∷ rest) line = refl
