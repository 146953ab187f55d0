use Rattle.std.proofs.Common.{refl, sym}
use Rattle.policy_tree.specs.Meaning.{meaning_of}
use Rattle.round_model.specs.declared.entry.Entry.TheVariants as entry
use Rattle.round_model.specs.Entries.{acts}
use Rattle.round_model.proofs.Acting.{or_nothing}
use Rattle.round_model.proofs.Owing.{none_by}
use Rattle.round_judge.specs.Past.{is_flagged}
use Rattle.core_worker.proofs.Noting.{may_move, moment_added, within_of}
use Rattle.core_worker.proofs.Stepping.{added_legal, enter_step}
use Rattle.core_worker.proofs.run.Run.let_in.Goals as goal

pub enter-requires-clause-next : goal.enter-requires-clause-next
enter-requires-clause-next c =
    let p = meaning_of c.args.policy.now in let plan = c.args.plan.now in let run = c.args.self.now in let a = c.args.core in
    let fits = c.requires.fits in let handlers = c.requires.handlers in let there = c.requires.core in
    let (s, m, is) = c.requires.at in
    let at = c.placement-at.result.0 in let reads = c.placement-at.result.1 in
    let step = enter_step p plan fits handlers run s a m there c.args.thread at reads is (c.placement-at.ensures.reads s m) (c.placement-at.ensures.target s m) in
    let ok = added_legal p plan fits handlers s a (entry.Enter c.args.thread a at reads) (within_of p plan fits handlers run s m) there step in
    (s.history, may_move p plan fits handlers run s a (entry.Enter c.args.thread a at reads) m there ok.legal ok.acting)

pub returns : goal.returns
returns c s m is =
    let p = meaning_of c.args.policy.now in let plan = c.args.plan.now in let run = c.args.self.now in let a = c.args.core in
    let fits = c.requires.fits in let handlers = c.requires.handlers in let there = c.requires.core in
    let at = c.placement-at.result.0 in let reads = c.placement-at.result.1 in
    let e = entry.Enter c.args.thread a at reads in
    let step = enter_step p plan fits handlers run s a m there c.args.thread at reads is (c.placement-at.ensures.reads s m) (c.placement-at.ensures.target s m) in
    let ok = added_legal p plan fits handlers s a e (within_of p plan fits handlers run s m) there step in
    moment_added p plan fits handlers run _ s a e m there ok.legal ok.acting step
    (c.enter.ensures s.history (may_move p plan fits handlers run s a e m there ok.legal ok.acting)) (record {
      round = refl;
      worked = λ k inside. sym (none_by (is_flagged run.turns.worked k) (acts k e));
      attempted = λ k inside. sym (none_by (is_flagged run.turns.attempted k) (acts k e));
      looks = refl;
      arrivals = c.leave_out.ensures.threads;
      places = c.leave_out.ensures.room;
      ended = λ id inside. sym (or_nothing (is_flagged run.ended id));
      flags = refl;
    })
