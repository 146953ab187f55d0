use Rattle.std.proofs.Common.{◌≡◌, ◌+◌, ◌++◌, List, [], ◌∷◌, take, find, length, option_to_list, ap, ap₂, sym, ◌∙◌, arith}
use Rattle.std.proofs.lemmas.List.{length-take, take_more}
use Rattle.sched_base.specs.declared.task.Task.{Task}
use Rattle.round_model.specs.Moves.{is_task, taken_from, without_first}
use Rattle.round_model.proofs.Takings.{few-found, found-more, left-more}
use Rattle.round_judge.proofs.stealing.taken.Goals as goal

pub take_one-requires : goal.take_one-requires
take_one-requires c =
    let ids = c.args.threads.now in let at = c.loop-at.at in
    let few = few-found (take at ids) c.args.queue.now in let short = length-take at ids in
    let found = ap length c.loop-at.invariant.found in
    omega (arith, few, short, found)

pub loop-at-preserved : goal.loop-at-preserved
loop-at-preserved c =
    let ids = c.args.threads.now in let queue = c.args.queue.now in let at = c.loop-at.at in let id = c.get.result in
    let more : take (at + 1) ids ≡ take at ids ++ id ∷ [] = take_more ids at 0 (omega arith) ∙ ap (λ next. take at ids ++ next ∷ []) (sym c.get.ensures.value) in
    record {
      found = c.in_ok-take_one.ensures.found
          ∙ (ap₂ (λ (f l : List Task). f ++ option_to_list (find (is_task id) l)) c.loop-at.invariant.found c.loop-at.invariant.left
          ∙ (sym (found-more (take at ids) id queue) ∙ ap (λ (xs : List _). (taken_from xs queue).found) (sym more)));
      left = c.in_ok-take_one.ensures.left
          ∙ (ap (without_first (is_task id)) c.loop-at.invariant.left
          ∙ (sym (left-more (take at ids) id queue) ∙ ap (λ (xs : List _). (taken_from xs queue).left) (sym more)));
    }
