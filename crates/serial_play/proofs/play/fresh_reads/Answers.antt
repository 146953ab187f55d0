use Rattle.std.proofs.Common.{◌∙◌, ◌++◌, ◌∷◌, [], ℕ, List, max, slice_index, length, ap, ap₂, sym, arith}
use Rattle.std.proofs.lemmas.List.{length-append}
use Rattle.std.proofs.lemmas.List.FromFn.{map-range_with_len_more}
use Rattle.serial_play.proofs.play.fresh_reads.Goals as goal

pub loop-core-preserved : goal.loop-core-preserved
loop-core-preserved c =
    let read : ℕ → ℕ = λ core. max c.args.play.now.start (slice_index c.args.play.now.touched core) in
    let is = c.loop-core.invariant.reads in let few = c.loop-core.invariant.few in
    record {
      reads = c.push.ensures ∙ (ap₂ (λ (reads : List ℕ) (r : ℕ). reads ++ r ∷ []) is c.max.ensures ∙ sym (map-range_with_len_more read 0 c.loop-core.core c.loop-core.core (omega arith)));
      few = omega (arith, ap length c.push.ensures, length-append c.loop-core.reads (c.max.result ∷ []));
    }
