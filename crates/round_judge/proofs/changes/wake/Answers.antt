use Rattle.std.proofs.Common.{◌≡◌, ap, ◌∙◌, sym, subst, get_or, length, IsSome, is_some, false, option_map, arith}
use Rattle.std.proofs.lemmas.Option.{get_or_from_slice_get}
use Rattle.policy_tree.specs.Meaning.{meaning_of}
use Rattle.round_model.specs.declared.state.Blocked.{Blocked}
use Rattle.round_model.specs.declared.state.ModelCore.{ModelCore}
use Rattle.round_model.specs.Bounds.{CoreInBounds}
use Rattle.round_model.specs.Cores.{Cores}
use Rattle.round_model.specs.Moves.{admitted, blocked_of}
use Rattle.round_model.specs.Updates.{updated}
use Rattle.round_model.proofs.Finding.{All-at}
use Rattle.round_model.proofs.Keeping.{some_at, stays_after}
use Rattle.round_model.proofs.Moved.{blocked_found, blocked_missing, blocked_task_fits, moved_no_wake, moved_wake_task}
use Rattle.round_model.proofs.States.{listed_at, listed_same}
use Rattle.round_judge.proofs.Keeping.{blocked_stays, kept_moved, listed_self}
use Rattle.round_judge.proofs.changes.wake.Goals as goal

pub admit-requires-clause-task : goal.admit-requires-clause-task
admit-requires-clause-task c =
    let p = meaning_of c.args.policy.now in
    let core = All-at (CoreInBounds p) c.args.state.now c.requires.bounds c.args.by c.get.result.now c.get.ensures.item in
    blocked_task_fits p c.get.result.now core.blocked c.args.thread c.in-Some.task (sym c.blocked_task.ensures ∙ c.in-Some.is)

pub returns-in-None-clause-ok : goal.returns-in-None-clause-ok
returns-in-None-clause-ok c n m plan round reads is by at =
    let p = meaning_of c.args.policy.now in
    let same = listed_at n m c.args.state.now c.args.by c.get.result.now is c.get.ensures.item by in
    let none = blocked_missing (blocked_of c.args.thread (m c.args.by)) (ap (λ (x : ModelCore). option_map (λ (b : Blocked). b.task) (blocked_of c.args.thread x)) (sym same) ∙ (sym c.blocked_task.ensures ∙ c.in-None.is)) in
    is ∙ listed_same n m _ (λ k inside. moved_no_wake p plan round m c.args.thread c.args.by c.args.at reads none k)

pub returns-in_ok-admit-in-Some-clause-ok : goal.returns-in_ok-admit-in-Some-clause-ok
returns-in_ok-admit-in-Some-clause-ok c n m plan round reads is by at =
    let p = meaning_of c.args.policy.now in let t = c.in-Some.task in
    let same = listed_at n m c.args.state.now c.args.by c.get.result.now is c.get.ensures.item by in
    let found = blocked_found (blocked_of c.args.thread (m c.args.by)) t (ap (λ (x : ModelCore). option_map (λ (b : Blocked). b.task) (blocked_of c.args.thread x)) (sym same) ∙ (sym c.blocked_task.ensures ∙ c.in-Some.is)) in
    c.release.ensures.state n (updated m c.args.at (admitted p false t (m c.args.at))) (c.in_ok-admit-in-Some.ensures.ok n m is at) by
    ∙ listed_same n _ _ (λ k inside. moved_wake_task p plan round m c.args.thread c.args.by c.args.at reads found.0 t found.1 found.2 k)

pub returns-in_ok-admit-in-Some-clause-kept : goal.returns-in_ok-admit-in-Some-clause-kept
returns-in_ok-admit-in-Some-clause-kept c =
    let p = meaning_of c.args.policy.now in
    let old = c.args.state.now in let mid = c.admit.new.state in let core = c.get.result.now in let t = c.in-Some.task in
    let by = c.args.by in let at = c.args.at in
    let m : Cores = λ k. get_or old k core in
    let HasIt : ModelCore → Type 0 = λ x. IsSome (blocked_of c.args.thread x) in
    let found = blocked_found (blocked_of c.args.thread core) t (sym c.blocked_task.ensures ∙ c.in-Some.is) in
    let there : m by ≡ core = get_or_from_slice_get old by core core c.get.ensures.item in
    let got = c.in_ok-admit-in-Some.ensures.ok (length old) m (listed_self old core) c.requires.at in
    let at_by = some_at mid by core (omega (arith, c.admit.ensures.len)) in
    let after = admitted p false t (m at) in
    let stays = stays_after HasIt m at by after (subst HasIt (sym there) (ap is_some found.1))
    (λ e. blocked_stays p false t c.args.thread found.0 (m at) (ap (blocked_of c.args.thread) (ap m e ∙ there) ∙ found.1)) in
    let same = listed_at (length old) (updated m at after) mid by (get_or mid by core) got at_by c.requires.by in
    kept_moved p old mid _ c.in_ok-admit-in-Some.ensures.kept (c.release.ensures.kept p (get_or mid by core) at_by (subst HasIt (sym same) stays))
