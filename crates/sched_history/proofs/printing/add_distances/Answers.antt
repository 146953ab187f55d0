-- One distance more, each time round.
use Rattle.std.proofs.Common.{◌≢◌, ◌-◌, ◌<◌, List, ℕ, [], ◌++◌, codes, sym, ◌∙◌, ap, append-nil, append_assoc, get_or, length, length-append, arith}
use Rattle.std.proofs.lemmas.Grind.{common_steps}
use Rattle.std.proofs.lemmas.List.{take_all}
use Rattle.sched_history.specs.Spelling.{distances, spaced, spaced_number}
use Rattle.sched_history.proofs.Distances.{distance_at, length-distances, with_colon}
use Rattle.sched_history.proofs.SpacedLemmas.{length-spaced-take, spaced-take-more}
use Rattle.sched_history.proofs.printing.add_distances.Goals as goal

pub loop-at-init : goal.loop-at-init
unfolding spaced
loop-at-init c = sym (append-nil c.add.new.self)

pub add_spaced-requires : goal.add_spaced-requires
add_spaced-requires c =
    let reads = c.args.reads.now in let start : ℕ = c.args.start in let at : ℕ = c.loop-at.at in let all = distances start reads in
    let some : reads ≢ [] = λ none. omega (arith, ap length none) in
    let inside : at < length all = omega (arith, length-distances start reads) in
    let room = length-spaced-take c.add.new.self all at inside in
    let line = ap length c.add.ensures in
    let whole = ap length (with_colon start reads some) in
    rw c.loop-at.invariant (omega (
      arith,
      room,
      line,
      whole,
      length-append c.args.line.now (codes " :"),
      length-append (codes " :") (spaced all),
      c.requires.room,
    ))

pub loop-at-preserved : goal.loop-at-preserved
loop-at-preserved c =
    let reads = c.args.reads.now in let start : ℕ = c.args.start in let at : ℕ = c.loop-at.at in let all = distances start reads in
    let within : at < length reads = omega arith in
    let inside : at < length all = omega (arith, length-distances start reads) in
    c.add_spaced.ensures
    ∙ (ap (λ (n : ℕ). c.loop-at.line ++ spaced_number (n - start)) c.get.ensures.value
    ∙ (ap (λ (n : ℕ). c.loop-at.line ++ spaced_number n) (sym (distance_at start reads at within))
    ∙ (ap (λ (bytes : List ℕ). bytes ++ spaced_number (get_or all at 0)) c.loop-at.invariant
    ∙ spaced-take-more c.add.new.self all at inside)))

pub returns : goal.returns
returns c =
    let reads = c.args.reads.now in let start : ℕ = c.args.start in let at : ℕ = c.loop-at.at in let all = distances start reads in
    let some : reads ≢ [] = grind (arith, common_steps, c.is_empty.ensures, c.if-is_empty.false) in
    c.loop-at.invariant
    ∙ (ap (λ (numbers : List ℕ). c.add.new.self ++ spaced numbers) (take_all at all (omega (arith, length-distances start reads)))
    ∙ (ap (λ (bytes : List ℕ). bytes ++ spaced all) c.add.ensures
    ∙ (append_assoc c.args.line.now (codes " :") (spaced all) ∙ ap (λ (bytes : List ℕ). c.args.line.now ++ bytes) (sym (with_colon start reads some)))))
