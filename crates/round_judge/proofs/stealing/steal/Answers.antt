use Rattle.std.proofs.Common.{◌≡◌, ◌+◌, List, All, length, get_or, ap, ◌∙◌, sym, subst, arith}
use Rattle.std.proofs.lemmas.Option.{get_or_from_slice_get}
use Rattle.sched_base.specs.declared.task.Task.{Task}
use Rattle.policy_eval.specs.Fitting.{IsTask}
use Rattle.round_model.specs.declared.state.ModelCore.{ModelCore}
use Rattle.round_model.specs.Cores.{Cores, listed}
use Rattle.round_model.specs.Kept.{Holds}
use Rattle.round_model.specs.Updates.{updated}
use Rattle.round_model.specs.Moves.{handed_all, received_all, taken_from}
use Rattle.round_model.proofs.Finding.{All-at}
use Rattle.round_model.proofs.Keeping.{some_at, updated_other}
use Rattle.round_model.proofs.Moved.{moved_steal}
use Rattle.round_model.proofs.States.{listed_at, listed_same}
use Rattle.round_model.proofs.Takings.{All-found, All-left, few-found, length-taken}
use Rattle.round_judge.specs.Units.{IsSmallCore}
use Rattle.round_judge.proofs.Keeping.{kept_after, listed_self}
use Rattle.round_judge.proofs.stealing.steal.Goals as goal

pub receive_all-requires-clause-room : goal.receive_all-requires-clause-room
receive_all-requires-clause-room c core is =
    let small = All-at IsSmallCore c.args.state.now c.requires.room c.args.by core is in let room = small.queue in
    let few = few-found c.args.threads c.get.result.now.queue in
    let many = ap length c.in_ok-found.ensures.found in
    omega (arith, few, many, room)

pub returns-clause-ok : goal.returns-clause-ok
unfolding handed_all
returns-clause-ok c n m p plan round reads is by from =
    let threads = c.args.threads in
    let same = listed_at n m c.args.state.now c.args.from c.get.result.now is c.get.ensures.item from in
    let found = c.in_ok-found.ensures.found ∙ ap (λ (core : ModelCore). (taken_from threads core.queue).found) same in
    let left = c.in_ok-found.ensures.left ∙ ap (λ (core : ModelCore). (taken_from threads core.queue).left) same in
    let x = received_all c.in_ok-found.found (m c.args.by) in
    let stays = updated_other m c.args.by c.args.from x c.requires.apart in
    c.leave_queue.ensures.state n (updated m c.args.by x) (c.in_ok-receive_all.ensures.ok n m is by) from
    ∙ (ap (λ (core : ModelCore). let y : ModelCore = record core { queue = c.in_ok-found.left } in listed n (updated (updated m c.args.by x) c.args.from y)) stays
    ∙ (ap (λ (queue : List Task). let y : ModelCore = record (m c.args.from) { queue = queue } in listed n (updated (updated m c.args.by x) c.args.from y)) left
    ∙ (ap (λ (tasks : List Task). listed n (updated (updated m c.args.by (received_all tasks (m c.args.by))) c.args.from (handed_all threads (m c.args.from)))) found
    ∙ listed_same n _ _ (λ k inside. moved_steal p plan round m c.args.by c.args.from threads reads c.requires.apart k))))

pub returns-clause-kept : goal.returns-clause-kept
returns-clause-kept c p each =
    let old = c.args.state.now in let mid = c.receive_all.new.state in let core = c.get.result.now in
    let by = c.args.by in let from = c.args.from in let threads = c.args.threads in
    let found = c.in_ok-found.found in let left = c.in_ok-found.left in
    let holds = All-at (Holds p) old each from core c.get.ensures.item in
    let fit = subst (All (IsTask p)) (sym c.in_ok-found.ensures.found) (All-found (IsTask p) threads core.queue holds.queue) in
    let rest_fit = subst (All (IsTask p)) (sym c.in_ok-found.ensures.left) (All-left (IsTask p) threads core.queue holds.queue) in
    let m : Cores = λ k. get_or old k core in
    let first = c.in_ok-receive_all.ensures.kept p fit in
    let got = c.in_ok-receive_all.ensures.ok (length old) m (listed_self old core) c.requires.by in
    let y = get_or mid from core in
    let at_from = some_at mid from core (omega (arith, c.receive_all.ensures.len)) in
    let x = received_all found (m by) in
    let there : m from ≡ core = get_or_from_slice_get old from core core c.get.ensures.item in
    let same : y ≡ core = listed_at (length old) (updated m by x) mid from y got at_from c.requires.from ∙ (updated_other m by from x c.requires.apart ∙ there) in
    let parts = length-taken threads core.queue in
    let count : length left + length found ≡ length y.queue =
    omega (arith, parts, ap length c.in_ok-found.ensures.found, ap length c.in_ok-found.ensures.left, ap (λ (z : ModelCore). length z.queue) same) in
    let second = c.leave_queue.ensures.kept p y (length found) at_from rest_fit count in
    let both = kept_after p 0 (length found) (length found) 0 old mid _ first second in
    record { len = both.len; each = both.each; count = let sums = both.count in omega arith }
