use Rattle.std.proofs.Common.{◌∙◌, ◌≡◌, ◌&&◌, ◌||◌, Bool, true, false, ap, refl, sym, arith}
use Rattle.policy_tree.specs.Meaning.{meaning_of}
use Rattle.round_model.specs.declared.entry.Entry.{Entry}
use Rattle.round_model.specs.After.{after}
use Rattle.round_model.specs.Attempts.{attempt_with}
use Rattle.round_model.specs.Outcomes.{values_at}
use Rattle.round_model.specs.Entries.{acts}
use Rattle.round_model.specs.Kinds.{is_attempt}
use Rattle.round_model.proofs.Acting.{acts_is, or_nothing}
use Rattle.round_model.proofs.Owing.{none_by}
use Rattle.round_judge.specs.Past.{is_flagged}
use Rattle.round_judge.proofs.Added.{flag_set}
use Rattle.core_worker.proofs.Attempting.{attempts, chosen_apart, ends_nobody, leaves_arrivals, no_work}
use Rattle.core_worker.proofs.Noting.{may_move, moment_added, reached_by, within_of}
use Rattle.core_worker.proofs.Stepping.{added_legal, attempt_step}
use Rattle.core_worker.proofs.run.Run.attempt.Goals as goal

pub attempt-requires-clause-reached : goal.attempt-requires-clause-reached
attempt-requires-clause-reached c =
    let (s, m, is) = c.requires.at in (s.history, reached_by (meaning_of c.args.policy.now) c.args.plan.now c.requires.fits c.requires.handlers c.args.self.now s m)

pub attempt-requires-clause-room : goal.attempt-requires-clause-room
attempt-requires-clause-room c =
    let p = meaning_of c.args.policy.now in let plan = c.args.plan.now in let run = c.args.self.now in let a = c.args.core in let look = c.args.look in
    let fits = c.requires.fits in let handlers = c.requires.handlers in let there = c.requires.core in
    let (s, m, is) = c.requires.at in
    let e : Entry = attempt_with p plan (after p plan s.history) a look.reads look.choice in
    let step = attempt_step p plan fits handlers run s a m there look e is refl in
    let ok = added_legal p plan fits handlers s a e (within_of p plan fits handlers run s m) there step in
    let may = may_move p plan fits handlers run s a e m there ok.legal ok.acting in
    omega (arith, may.room, may.are.entries)

pub attempt-requires-clause-choice : goal.attempt-requires-clause-choice
attempt-requires-clause-choice c =
    let p = meaning_of c.args.policy.now in let plan = c.args.plan.now in let (s, m, is) = c.requires.at in
    chosen_apart p plan.cores (values_at p plan s.history c.args.look.reads) c.args.core c.args.look.choice is.is.choice

pub returns : goal.returns
returns c s m is =
    let p = meaning_of c.args.policy.now in let plan = c.args.plan.now in let run = c.args.self.now in let a = c.args.core in let look = c.args.look in
    let fits = c.requires.fits in let handlers = c.requires.handlers in let there = c.requires.core in
    let e = c.attempt.result in let e_is = c.attempt.ensures.entry s.history m.at.cores in
    let kind : is_attempt e ≡ true = ap is_attempt e_is ∙ attempts p plan (after p plan s.history) a look.reads look.choice in
    let step = attempt_step p plan fits handlers run s a m there look e is e_is in
    let ok = added_legal p plan fits handlers s a e (within_of p plan fits handlers run s m) there step in
    let few = c.requires.limits.few_cores in
    moment_added p plan fits handlers run _ s a e m there ok.legal ok.acting step (c.attempt.ensures.cores s.history m.at.cores) (record {
      round = refl;
      worked = λ k inside. sym (ap (λ b. is_flagged run.turns.worked k || (acts k e && b)) (no_work e kind) ∙ none_by (is_flagged run.turns.worked k) (acts k e));
      attempted = λ k inside. flag_set run.turns.attempted a k (omega arith) ∙ ap (λ b. is_flagged run.turns.attempted k || b) (sym (ap (λ b. acts k e && b) kind ∙ (and_true (acts k e) ∙ acts_is e a k ok.acting)));
      looks = refl;
      arrivals = sym (leaves_arrivals a e kind run.arrivals.items);
      places = refl;
      ended = λ id inside. sym (ap (λ b. is_flagged run.ended id || b) (ends_nobody e kind id) ∙ or_nothing (is_flagged run.ended id));
      flags = refl;
    })
  where
    and_true : (b : Bool) → (b && true) ≡ b
    and_true true = refl
    and_true false = refl
