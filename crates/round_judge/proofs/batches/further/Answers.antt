use Rattle.std.proofs.Common.{ℕ, ◌-◌, ◌+◌, [], ◌∷◌, ◌++◌, Bool, List, arith, sym, ◌∙◌, subst}
use Rattle.sched_base.specs.declared.task.Task.{Task}
use Rattle.policy_tree.specs.Meaning.{batch_tree, meaning_of}
use Rattle.policy_eval.specs.Fitting.{CoreFits}
use Rattle.policy_eval.specs.Orders.{best_of}
use Rattle.policy_eval.specs.Sights.{move_values}
use Rattle.policy_eval.specs.Values.{holds}
use Rattle.policy_eval.proofs.Wide.{LoadsFit-bound}
use Rattle.round_model.specs.Attempts.{further_moves}
use Rattle.round_model.specs.Batches.{unnamed}
use Rattle.round_model.specs.Moves.{handed, handed_all, received, received_all, taken_from}
use Rattle.round_model.specs.Work.{before}
use Rattle.round_model.proofs.MoveSteps.{full-further, kept_is, none-further}
use Rattle.round_judge.specs.Code.Batches.{Judges}
use Rattle.round_judge.proofs.Judged.{fewer_fits, judged-first, judged-more, judged-next, more_fits, within-count, within-first, within-load, within-more}
use Rattle.round_judge.proofs.Units.{queued_tasks}
use Rattle.round_judge.proofs.batches.further.Goals as goal

pub loop-move-init : goal.loop-move-init
loop-move-init c =
    let p = meaning_of c.args.policy.now in let b = batch_tree c.args.batch.now in let own = c.args.own.now in let other = c.args.other.now in let victim = c.args.victim.now in let first = c.args.first in
    subst (λ (ids : List ℕ). Judges p b own other victim first 1 ids c.from-load.result) (sym c.of-stolen.ensures)
    (subst (λ (load : ℕ). Judges p b own other victim first 1 (first.id ∷ []) load) (sym c.from-load.ensures)
    (record {
      within = within-first p victim first (queued_tasks p victim c.requires.victim.bounds.tasks) c.requires.first;
      exact = λ plan a v thief seen. judged-first p plan a v b thief victim seen.once first c.requires.first;
    }))

pub more_seen-own_now-requires-clause-light : goal.more_seen-own_now-requires-clause-light
more_seen-own_now-requires-clause-light c =
    let p = meaning_of c.args.policy.now in let own = c.args.own.now in let other = c.args.other.now in let l = c.loop-move in
    let few = within-load p c.args.victim.now l._move l.stolen l.load l.invariant.within in
    omega (arith, few, c.requires.victim.weight, LoadsFit-bound p c.requires.policy own.nr own.load c.requires.own.loads, LoadsFit-bound p c.requires.policy other.nr other.load c.requires.victim.fits.loads)

pub fewer_seen-other_now-requires-clause-some : goal.fewer_seen-other_now-requires-clause-some
fewer_seen-other_now-requires-clause-some c =
    let l = c.loop-move in
    omega (arith, within-count (meaning_of c.args.policy.now) c.args.victim.now l._move l.stolen l.load l.invariant.within, c.len-in-loop-move.ensures.len, c.requires.victim.count)

pub fewer_seen-other_now-requires-clause-heavy : goal.fewer_seen-other_now-requires-clause-heavy
fewer_seen-other_now-requires-clause-heavy c =
    let l = c.loop-move in
    omega (arith, within-load (meaning_of c.args.policy.now) c.args.victim.now l._move l.stolen l.load l.invariant.within, c.requires.victim.weight)

pub next-requires-clause-own : goal.next-requires-clause-own
next-requires-clause-own c =
    let p = meaning_of c.args.policy.now in let l = c.loop-move in
    subst (CoreFits p) (sym c.more_seen-own_now.ensures)
    (more_fits p c.args.victim.now l._move l.stolen l.load l.invariant.within c.args.own.now c.args.other.now c.requires.victim c.requires.few c.requires.own c.len.result c.len.ensures.len)

pub next-requires-clause-other : goal.next-requires-clause-other
next-requires-clause-other c =
    let p = meaning_of c.args.policy.now in let l = c.loop-move in
    subst (CoreFits p) (sym c.fewer_seen-other_now.ensures)
    (fewer_fits p c.args.victim.now l._move l.stolen l.load l.invariant.within c.args.own.now c.args.other.now c.requires.victim c.requires.few c.len-in-loop-move.result c.len-in-loop-move.ensures.len)

pub next-requires-clause-queue : goal.next-requires-clause-queue
next-requires-clause-queue c = queued_tasks (meaning_of c.args.policy.now) c.args.victim.now c.requires.victim.bounds.tasks

pub returns-in_default : goal.returns-in_default
returns-in_default c plan a v thief seen =
    let p = meaning_of c.args.policy.now in let b = batch_tree c.args.batch.now in let victim = c.args.victim.now in let first = c.args.first in let l = c.loop-move in
    let judged = l.invariant.exact plan a v thief seen in
    let whole = first.id ∷ further_moves p plan a v b (b.limit - 1) (received first thief) (handed first.id victim) in
    let next = judged-next p plan a v b thief victim seen.once whole l._move l.stolen l.load judged c.args.own.now c.args.other.now seen l.invariant.within.count
    c.len.result c.len-in-loop-move.result c.len.ensures.len c.len-in-loop-move.ensures.len c.more_seen-own_now.result c.fewer_seen-other_now.result c.more_seen-own_now.ensures c.fewer_seen-other_now.ensures
    c.next.result c.next.ensures in
    none-further p plan a v b whole l.stolen (received_all (taken_from l.stolen victim.queue).found thief) (handed_all l.stolen victim) (b.limit - l._move) judged.moves (sym next ∙ c.in_default.is)

pub push-requires : goal.push-requires
push-requires c = omega (arith, c.loop-move.invariant.within.count, c.loop-move-test.true, c.requires.batch.few)

pub overflow_add-load : goal.overflow_add-load
overflow_add-load c =
    let p = meaning_of c.args.policy.now in let other = c.args.other.now in let l = c.loop-move in
    let few = within-load p c.args.victim.now l._move l.stolen l.load l.invariant.within in
    omega (arith, few, c.requires.victim.weight, LoadsFit-bound p c.requires.policy other.nr other.load c.requires.victim.fits.loads, c.from-load-in-loop-move.ensures)

pub loop-move-preserved : goal.loop-move-preserved
loop-move-preserved c =
    let p = meaning_of c.args.policy.now in let b = batch_tree c.args.batch.now in let own = c.args.own.now in let other = c.args.other.now in let victim = c.args.victim.now in let first = c.args.first in
    let l = c.loop-move in let t = c.in-Some.next in
    let test : Task → Bool = λ x. holds (move_values c.more_seen-own_now.result c.fewer_seen-other_now.result x.weight x.attrs) b.condition in
    let best = (kept_is test (best_of (before p.steal) (unnamed l.stolen victim.queue)) t (sym c.next.ensures ∙ c.in-Some.is)).0 in
    subst (λ (ids : List ℕ). Judges p b own other victim first (l._move + 1) ids (l.load + c.from-load-in-loop-move.result)) (sym c.push.ensures)
    (subst (λ (weight : ℕ). Judges p b own other victim first (l._move + 1) (l.stolen ++ t.id ∷ []) (l.load + weight)) (sym c.from-load-in-loop-move.ensures)
    (record {
      within = within-more p victim l._move l.stolen l.load l.invariant.within t (queued_tasks p victim c.requires.victim.bounds.tasks) best;
      exact = λ plan a v thief seen.
          let judged = l.invariant.exact plan a v thief seen in
          let whole = first.id ∷ further_moves p plan a v b (b.limit - 1) (received first thief) (handed first.id victim) in
          let next = judged-next p plan a v b thief victim seen.once whole l._move l.stolen l.load judged own other seen l.invariant.within.count
          c.len.result c.len-in-loop-move.result c.len.ensures.len c.len-in-loop-move.ensures.len c.more_seen-own_now.result c.fewer_seen-other_now.result c.more_seen-own_now.ensures c.fewer_seen-other_now.ensures
          c.next.result c.next.ensures in
          judged-more p plan a v b thief victim seen.once whole l._move l.stolen l.load judged t c.loop-move-test.true (sym next ∙ c.in-Some.is);
    }))

pub returns : goal.returns
returns c plan a v thief seen =
    let p = meaning_of c.args.policy.now in let b = batch_tree c.args.batch.now in let victim = c.args.victim.now in let first = c.args.first in let l = c.loop-move in
    full-further p plan a v b (first.id ∷ further_moves p plan a v b (b.limit - 1) (received first thief) (handed first.id victim)) l.stolen
    (received_all (taken_from l.stolen victim.queue).found thief) (handed_all l.stolen victim) (b.limit - l._move) (l.invariant.exact plan a v thief seen).moves (omega (arith, c.loop-move-test.false))
