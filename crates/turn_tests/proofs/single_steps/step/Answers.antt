use Rattle.std.proofs.Common.{◌≡◌, ◌∙◌, refl, sym, ap, subst}
use Rattle.turn_steps.specs.declared.asking.Ask.{Ask}
use Rattle.turn_steps.specs.declared.asking.Told.TheVariants as told
use Rattle.turn_steps.specs.declared.reached.Reached.TheVariants as reached
use Rattle.turn_steps.specs.Answers.{Answers}
use Rattle.turn_steps.specs.Reaches.{look_in}
use Rattle.turn_steps.specs.States.{state_of}
use Rattle.crew_play.proofs.Handing.{same_passed}
use Rattle.core_calls.proofs.Trying.{may_attempt}
use Rattle.turn_tests.specs.Memory.{view_of}
use Rattle.turn_tests.proofs.single_steps.step.Goals as goal

pub asks-asked-requires : goal.asks-asked-requires
asks-asked-requires g c = record { plan = c.requires.beside.playing.of_plan }

pub takes-taken-requires-clause-look : goal.takes-taken-requires-clause-look
takes-taken-requires-clause-look g c look is =
    let e = c.asks-asked.ensures in let kept = (e.awaits told.Acted).0 (subst (λ (a : Ask). Answers a told.Acted) (sym is) refl) in
    let some = ap look_in kept.2 in let said = e.look look is in let same : kept.1 ≡ look = cc in
    may_attempt (state_of c.args.turning.now) (view_of c.args.calls.now) c.requires.beside.playing kept.0 look (kept.2 ∙ ap (reached.Looked kept.0) same)

pub returns-clause-beside : goal.returns-clause-beside
returns-clause-beside g c =
    let s = c.crew_step-goes_on.ensures in
    record {
      ready = s.ready.0;
      playing = s.playing.0;
      passed = same_passed (g.G.Gate.passed c.args.gate.now) (state_of c.args.turning.now) (state_of c.crew_step-goes_on.new.turning) s.playing.1 s.passed;
    }
