use Rattle.std.proofs.Common.{◌∙◌, ◌++◌, ◌∷◌, [], ℕ, List, max, length, ap, ap₂, sym, arith}
use Rattle.std.proofs.lemmas.List.{length-append}
use Rattle.std.proofs.lemmas.List.FromFn.{map-range_with_len_more}
use Rattle.round_model.specs.FreshReads.{touched_from}
use Rattle.round_model.specs.Reads.{round_start}
use Rattle.turn_tests.proofs.reads.fresh_reads.Goals as goal

pub loop-core-preserved : goal.loop-core-preserved
loop-core-preserved c =
    let h = c.args.history.now in
    let read : ℕ → ℕ = λ core. max (round_start h) (touched_from core 0 0 h) in
    let is = c.loop-core.invariant.reads in let few = c.loop-core.invariant.few in
    record {
      reads = c.push.ensures ∙ (ap₂ (λ (reads : List ℕ) (r : ℕ). reads ++ r ∷ []) is (c.max.ensures ∙ ap₂ max c.round_start-start.ensures c.touched.ensures) ∙ sym (map-range_with_len_more read 0 c.loop-core.core c.loop-core.core (omega arith)));
      few = omega (arith, ap length c.push.ensures, length-append c.loop-core.reads (c.max.result ∷ []));
    }
