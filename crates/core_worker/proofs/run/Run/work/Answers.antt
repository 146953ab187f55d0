use Rattle.std.proofs.Common.{◌∙◌, ◌≡◌, length, ◌&&◌, ◌||◌, Bool, true, false, ap, refl, sym, arith}
use Rattle.policy_tree.specs.Meaning.{meaning_of}
use Rattle.round_model.specs.declared.entry.Entry.TheVariants as entry
use Rattle.round_model.specs.Entries.{acts}
use Rattle.round_model.proofs.Acting.{acts_is}
use Rattle.round_model.proofs.Owing.{none_by}
use Rattle.round_judge.specs.Past.{is_flagged}
use Rattle.round_judge.proofs.Added.{flag_by, flag_set}
use Rattle.core_worker.proofs.Noting.{flags_long, moment_added, within_of}
use Rattle.core_worker.proofs.Stepping.{added_legal, may_work, work_step}
use Rattle.core_worker.proofs.run.Run.work.Goals as goal

pub work-did-requires-clause-may : goal.work-did-requires-clause-may
work-did-requires-clause-may c =
    let p = meaning_of c.args.policy.now in let plan = c.args.plan.now in
    let (s, m, is) = c.requires.at in
    (s.history, may_work p plan c.requires.fits c.requires.handlers c.args.self.now s c.args.core m c.requires.core is)

pub returns : goal.returns
returns c s m is =
    let p = meaning_of c.args.policy.now in let plan = c.args.plan.now in let run = c.args.self.now in let a = c.args.core in
    let fits = c.requires.fits in let handlers = c.requires.handlers in let there = c.requires.core in
    let d = c.work-did.result in
    let e = entry.Work a d in
    let works = c.work-did.ensures s.history (may_work p plan fits handlers run s a m there is) in
    let step = work_step p plan fits handlers run s a m there d is works.outcome in
    let ok = added_legal p plan fits handlers s a e (within_of p plan fits handlers run s m) there step in
    let few = c.requires.limits.few_cores in
    moment_added p plan fits handlers run _ s a e m there ok.legal ok.acting step works.are (record {
      round = refl;
      worked = λ k inside. flag_set run.turns.worked a k (omega arith) ∙ ap (λ b. is_flagged run.turns.worked k || b) (sym (and_true (acts k e) ∙ acts_is e a k refl));
      attempted = λ k inside. sym (none_by (is_flagged run.turns.attempted k) (acts k e));
      looks = refl;
      arrivals = refl;
      places = refl;
      ended = λ id inside. ap (λ flags. is_flagged flags id) c.note_did.ensures ∙ flag_by d run.ended id inside;
      flags = ap (λ flags. length flags) c.note_did.ensures ∙ flags_long d run.ended;
    })
  where
    and_true : (b : Bool) → (b && true) ≡ b
    and_true true = refl
    and_true false = refl
