-- A put takes one more front of what is left.
use Rattle.std.proofs.Common.{arith, List, ℕ, ◌++◌, length, take, drop, sym, ◌∙◌, ap, append_assoc}
use Rattle.std.proofs.lemmas.Grind.{common_steps}
use Rattle.std.proofs.lemmas.List.{take-append-drop}
use Rattle.sched_io.proofs.WrittenLemmas.{Adds-append, Grows-silent}
use Rattle.sched_io.proofs.PieceLemmas.{nothing_behind}
use Rattle.sched_io.proofs.sinks.put_rest.Goals as goal

pub loop-left-preserved : goal.loop-left-preserved
loop-left-preserved g c =
    let before = c.loop-left.invariant.written in
    let left : List ℕ = c.loop-left.left.now in
    let count : ℕ = c.in_ok-count.count in
    let takes = c.in_ok-count.ensures.takes in
    record {
      written = (
        before.0 ++ take count left,
        before.1
            ∙ ap (λ (x : List ℕ). before.0 ++ x) (sym (take-append-drop count left))
            ∙ sym (append_assoc before.0 (take count left) (drop count left))
            ∙ ap (λ (x : List ℕ). (before.0 ++ take count left) ++ x) (sym c.split_at.ensures.back),
        Adds-append before.0 (take count left) _ _ _ before.2 takes.bytes,
      );
      steady = takes.steady ∙ c.loop-left.invariant.steady;
      silent = λ none. Grows-silent _ _ _ takes.pieces (c.loop-left.invariant.silent none);
      idle = λ none. let empty = ap length (nothing_behind before.0 left (sym none ∙ before.1)) in absurd (grind (arith, common_steps, empty));
    }
