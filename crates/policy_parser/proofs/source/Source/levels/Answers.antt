use Rattle.std.proofs.Common.{◌∷◌, ◌∙◌, ◌++◌, [], ap, arith}
use Rattle.std.proofs.lemmas.Result.{err_from_is_err_and}
use Rattle.policy_parser.proofs.Judged.{yes, isnt, passes}
use Rattle.policy_parser.proofs.LevelMoves.{levels-level, levels-over}
use Rattle.policy_parser.proofs.LevelParts.{leveled-one, leveled-snoc}
use Rattle.policy_parser.proofs.source.Source.levels.Goals as goal

pub returns-in_err-first-clause-reads : goal.returns-in_err-first-clause-reads
returns-in_err-first-clause-reads c = λ below.
    let p = err_from_is_err_and c.from_residual.result c.from_residual.ensures.1 in
    rw (p.1, p.2) (c.in_err-first.ensures.reads below)

pub levels-init : goal.levels-init
levels-init c = record {
  later = c.in_ok-first.ensures.later.0;
  within = c.in_ok-first.ensures.later.1;
  few = omega (arith, c.in_ok-first.ensures.later);
  short = omega (arith, c.in_ok-push.ensures.len, c.new-levels.ensures.len, c.in_ok-first.ensures.later);
  are = leveled-one c.in_ok-first.first (c.in_ok-push.ensures.items ∙ ap (λ x. x ++ c.in_ok-first.first ∷ []) c.new-levels.ensures.items) c.in_ok-first.ensures.is;
  reads = λ below. c.in_ok-first.ensures.reads below;
}

pub returns-in_err-level-clause-reads : goal.returns-in_err-level-clause-reads
returns-in_err-level-clause-reads c = λ below.
    let p = err_from_is_err_and c.from_residual-in_err-level.result c.from_residual-in_err-level.ensures.1 in
    rw (p.1, p.2)
    (passes _ (c.levels.invariant.reads below ∙ levels-level _ _ c.levels.next c.levels.count below (yes c.has.ensures.is c.levels-test.true))
    (c.in_err-level.ensures.reads below))

pub levels-preserved : goal.levels-preserved
levels-preserved c = record {
  later = omega (arith, c.in_ok-level.ensures.later, c.levels.invariant.later);
  within = c.in_ok-level.ensures.later.1;
  few = omega (arith, c.in_ok-level.ensures.later, c.levels.invariant.few);
  short = omega (arith, c.in_ok-push-2.ensures.len, c.in_ok-level.ensures.later, c.levels.invariant.short);
  are = leveled-snoc c.in_ok-level.level c.levels.invariant.are c.in_ok-level.ensures.is c.in_ok-push-2.ensures.items;
  reads = λ below.
      c.levels.invariant.reads below
      ∙ levels-level _ _ c.levels.next c.levels.count below (yes c.has.ensures.is c.levels-test.true)
      ∙ c.in_ok-level.ensures.reads below;
}

pub returns-clause-reads : goal.returns-clause-reads
returns-clause-reads c = λ below.
    c.levels.invariant.reads below ∙ levels-over _ _ c.levels.next c.levels.count below (isnt c.has.ensures.is c.levels-test.false)
