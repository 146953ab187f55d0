use Rattle.std.proofs.Common.{◌≡◌, ℕ, ◌+◌, ◌≤◌, ◌*◌, ◌^◌, ◌++◌, Option, arith, length, sum_by, option_to_list, ap, ap₂, ◌∙◌, sym}
use Rattle.std.proofs.lemmas.List.{length-append}
use Rattle.std.proofs.lemmas.List.Sums.{sum_by-cons}
use Rattle.sched_base.specs.declared.task.Task.{Task}
use Rattle.sched_base.specs.declared.limits.TheConstants.{MAX_THREADS}
use Rattle.round_model.specs.declared.state.CountAndLoad.{CountAndLoad}
use Rattle.round_model.proofs.state.ModelCore.seen.Goals as goal

pub with-requires-clause-few : goal.with-requires-clause-few
with-requires-clause-few c =
    let core = c.args.self.now in
    let few : length (option_to_list core.current) + length core.queue ≤ MAX_THREADS = simp length-append at c.requires in omega arith

pub with-requires-clause-light : goal.with-requires-clause-light
with-requires-clause-light c =
    let core = c.args.self.now in
    let few : length (option_to_list core.current) + length core.queue ≤ MAX_THREADS = simp length-append at c.requires in
    let count : length c.as_slice.result.now ≡ length core.queue = ap length c.as_slice.ensures.items in
    let small : c.weight_of.result ≤ length c.as_slice.result.now * 2 ^ 32 = c.weight_of.ensures.small in omega arith

pub returns-in-Some : goal.returns-in-Some
returns-in-Some c =
    let core = c.args.self.now in
    let seen : ℕ → ℕ → CountAndLoad = λ nr load. record { nr = nr; load = load } in
    let weight : Task → ℕ = λ t. t.weight in
    ap₂ seen (omega arith) (c.with.ensures.load ∙ ap (λ load. c.in-Some.task.weight + load) (c.weight_of.ensures.sum ∙ ap (sum_by weight) c.as_slice.ensures.items) ∙ sym (sum_by-cons weight c.in-Some.task core.queue))
    ∙ sym (ap (λ (current : Option Task). seen (length (option_to_list current ++ core.queue)) (sum_by weight (option_to_list current ++ core.queue))) c.in-Some.is)
