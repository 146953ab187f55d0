use Rattle.std.proofs.Common.{◌≡◌, ◌∙◌, sym, arith}
use Rattle.policy_tree.specs.Meaning.{meaning_of}
use Rattle.serial_steps.specs.SerialEnds.{IsFull}
use Rattle.serial_steps.specs.SerialRounds.{serial_rounds}
use Rattle.serial_steps.proofs.SerialEnding.{ended_whole, fits_not_full, round_legal}
use Rattle.serial_steps.proofs.SerialEnding.{rounds_over, serial_next, stopped_full}
use Rattle.serial_steps.proofs.SerialWholes.{next_too}
use Rattle.serial_play.proofs.rounds.play_rounds.Goals as goal

pub loop-begun-init : goal.loop-begun-init
loop-begun-init c = record {
  play = c.in_ok-play.ensures.play (meaning_of c.args.policy.now) c.requires.fits;
  serial = c.in_ok-play.ensures.empty;
  fitted = λ k none. absurd (omega arith);
}

pub returns-then-not-round_due : goal.returns-then-not-round_due
returns-then-not-round_due c =
    let p = meaning_of c.args.policy.now in let plan = c.args.plan.now in let play = c.loop-begun.play in let is = c.loop-begun.invariant in
    ended_whole p plan c.requires.fits c.requires.handlers c.loop-begun.begun play.history (omega arith) is.serial
    (sym (c.round_due.ensures p play.history is.play.stands) ∙ c.if-not-round_due.true) is.fitted

pub returns-then-not-round_fits : goal.returns-then-not-round_fits
returns-then-not-round_fits c =
    let p = meaning_of c.args.policy.now in let plan = c.args.plan.now in let play = c.loop-begun.play in let is = c.loop-begun.invariant in
    stopped_full p plan c.requires.fits c.requires.handlers c.loop-begun.begun play.history is.serial
    (sym (c.round_due.ensures p play.history is.play.stands) ∙ c.if-not-round_due.false)
    (λ room. let count = c.len.ensures in let fits = c.round_fits.ensures.1 (omega (arith, count)) in let none = c.if-not-round_fits.true in absurd (cc))
    is.fitted

pub play_round-requires-clause-legal : goal.play_round-requires-clause-legal
play_round-requires-clause-legal c =
    let p = meaning_of c.args.policy.now in let plan = c.args.plan.now in let play = c.loop-begun.play in let is = c.loop-begun.invariant in
    round_legal p plan c.requires.fits c.requires.handlers c.loop-begun.begun play.history is.serial
    (sym (c.round_due.ensures p play.history is.play.stands) ∙ c.if-not-round_due.false)

pub loop-begun-preserved : goal.loop-begun-preserved
loop-begun-preserved c =
    let p = meaning_of c.args.policy.now in let plan = c.args.plan.now in let play = c.loop-begun.play in let is = c.loop-begun.invariant in let plays = c.in_ok-play_round.ensures in
    record {
      play = plays.play;
      serial = serial_next p plan c.loop-begun.begun play.history c.play_round.new.play.history is.serial plays.history;
      fitted = next_too (λ k. IsFull plan (serial_rounds p plan k) → ⊥) c.loop-begun.begun is.fitted
          (fits_not_full plan play.history (serial_rounds p plan c.loop-begun.begun) is.serial
          (let count = c.len.ensures in let room = c.round_fits.ensures.0 c.if-not-round_fits.false in omega (arith, count)));
    }

pub returns : goal.returns
returns c =
    let p = meaning_of c.args.policy.now in let plan = c.args.plan.now in let play = c.loop-begun.play in let is = c.loop-begun.invariant in
    let all : c.loop-begun.begun ≡ plan.rounds = omega arith in
    ended_whole p plan c.requires.fits c.requires.handlers c.loop-begun.begun play.history (omega arith) is.serial
    (rounds_over p plan c.requires.fits c.requires.handlers c.loop-begun.begun play.history is.serial (omega arith)) is.fitted
