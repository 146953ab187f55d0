-- One item more in the array of a short list.
use Rattle.std.proofs.Common.{ℕ, ◌+◌, ◌-◌, ◌<◌, List, drop, replicate, sym, ap, ◌∙◌, arith, set}
use Rattle.std.proofs.lemmas.List.{length-set, drop-set-lt, drop-drop, drop-replicate}
use Rattle.sched_base.specs.Padded.{IsPadded}

pub IsPadded-set : (bound len x : ℕ) (at : List ℕ) → IsPadded bound len at → len < bound → IsPadded bound (len + 1) (set at len x)
IsPadded-set bound len x at is room = record {
  few = omega arith;
  full = length-set at len x ∙ is.full;
  clean =
      drop-set-lt (len + 1) at len x (omega arith)
      ∙ (sym (drop-drop 1 len at) ∙ (ap (drop 1) is.clean ∙ (drop-replicate 1 (bound - len) 0 ∙ ap (λ n. replicate n 0) (omega arith))));
}
