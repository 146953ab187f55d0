-- One thread more, each time round.
use Rattle.std.proofs.Common.{◌≡◌, ◌<◌, ℕ, List, ◌++◌, codes, length, get_or, append_assoc, ap, ◌∙◌, arith}
use Rattle.std.specs.Prelude.{decimal}
use Rattle.std.proofs.lemmas.List.{take_all}
use Rattle.sched_history.specs.Spelling.{spaced, spaced_number}
use Rattle.sched_history.proofs.SpacedLemmas.{spaced-take-more}
use Rattle.history_reasons.proofs.printing.threads_line.Goals as goal

pub loop-at-init : goal.loop-at-init
unfolding spaced
loop-at-init c =
    let front = c.add.ensures ∙ ap (λ (bytes : List ℕ). bytes ++ codes "rule threads") c.new-line.ensures in
    record { told = front; small = omega (arith, ap length front) }

pub loop-at-preserved : goal.loop-at-preserved
loop-at-preserved c =
    let ids = c.args.ids.now in let at : ℕ = c.loop-at.at in
    let within : at < length ids = omega arith in
    let next : c.add_named.new.line ≡ c.loop-at.line ++ spaced_number c.get.result =
    c.add_named.ensures.line ∙ append_assoc c.loop-at.line (codes " ") (decimal c.get.result) in
    record {
      told = next
          ∙ (ap (λ n. c.loop-at.line ++ spaced_number n) c.get.ensures.value
          ∙ (ap (λ (bytes : List ℕ). bytes ++ spaced_number (get_or ids at 0)) c.loop-at.invariant.told
          ∙ spaced-take-more (codes "rule threads") ids at within));
      small = let before = c.loop-at.invariant.small in let more = c.add_named.ensures.small in omega (arith, before, more);
    }

pub returns : goal.returns
returns c =
    let ids = c.args.ids.now in let at : ℕ = c.loop-at.at in
    c.add-2.ensures
    ∙ (ap (λ (bytes : List ℕ). bytes ++ codes "\n") c.loop-at.invariant.told
    ∙ ap (λ (numbers : List ℕ). (codes "rule threads" ++ spaced numbers) ++ codes "\n") (take_all at ids (omega arith)))
