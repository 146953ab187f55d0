use Rattle.std.proofs.Common.{◌<◌, List, Contains, sym, refl, subst}
use Rattle.std.proofs.lemmas.Bool.{false≢true}
use Rattle.policy_tree.specs.Meaning.{meaning_of}
use Rattle.round_model.specs.declared.entry.Did.{Did}
use Rattle.round_model.specs.After.{after, round_of}
use Rattle.round_model.specs.Scenes.{scene_of}
use Rattle.round_model.proofs.Judging.{refuted, work_legal, work_parts}
use Rattle.round_judge.proofs.Units.{unit_dids}
use Rattle.round_judge.proofs.judge.may_work.Goals as goal

pub returns-then-not-has_let_in : goal.returns-then-not-has_let_in
unfolding scene_of
returns-then-not-has_let_in c history stands = refuted (λ legal.
    let p = meaning_of c.args.policy.now in
    let parts = work_parts p c.args.plan.now history c.args.by c.args.did legal in
    false≢true ((c.if-not-has_let_in.ensures.let_in p history stands).1 (subst (λ n. 0 < n) (sym stands.rounds) legal.begun, parts.core, parts.entered)))

pub returns-then-not-owes_unit : goal.returns-then-not-owes_unit
unfolding scene_of
returns-then-not-owes_unit c history stands = refuted (λ legal.
    let p = meaning_of c.args.policy.now in
    let parts = work_parts p c.args.plan.now history c.args.by c.args.did legal in
    false≢true ((c.if-not-owes_unit.ensures p c.args.plan.now history stands parts.core).1 (record { woken = parts.woken; first = parts.first })))

pub returns : goal.returns
unfolding scene_of
returns c history stands =
    let p = meaning_of c.args.policy.now in let plan = c.args.plan.now in
    let ready = (c.if-not-has_let_in.ensures.let_in p history stands).0 refl in
    let owes = (c.if-not-owes_unit.ensures p plan history stands ready.1).0 refl in
    let dids = unit_dids p plan (round_of history) (after p plan history c.args.by) c.next_unit.result (c.next_unit.ensures history stands) in (
      λ e. work_legal p plan history c.args.by c.args.did (subst (λ n. 0 < n) stands.rounds ready.0) ready.1 ready.2 owes
          (subst (λ (list : List Did). Contains list c.args.did) (sym dids) (c.tells.ensures.0 e)),
      λ legal. c.tells.ensures.1 (subst (λ (list : List Did). Contains list c.args.did) dids (work_parts p plan history c.args.by c.args.did legal).outcome),
    )
