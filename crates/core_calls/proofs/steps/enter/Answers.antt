use Rattle.std.proofs.Common.{ap, subst}
use Rattle.core_calls.specs.Steps.{Entered}
use Rattle.core_calls.proofs.Turning.{core_is}
use Rattle.turn_steps.specs.declared.asking.Told.TheVariants as told
use Rattle.turn_steps.specs.Answers.{with_told}
use Rattle.turn_steps.specs.States.{TurnState, state_of}
use Rattle.core_calls.specs.Stepping.{HasLooked}
use Rattle.core_calls.proofs.Entered.{entered_asked, entered_playing, may_enter}
use Rattle.core_calls.proofs.Growing.{played_as, same_turn, told_behind_all, told_more}
use Rattle.core_calls.proofs.Knowing.{told_few}
use Rattle.core_calls.proofs.steps.enter.Goals as goal

pub enter-requires-clause-may : goal.enter-requires-clause-may
enter-requires-clause-may g c =
    may_enter (state_of c.args.turning.now) (g.C.CoreCalls.view c.args.calls.now) c.requires.playing c.args.thread c.requires.awaits c.requires.asked (g.met.C.CoreCalls.known c.args.calls.now c.requires.ready)

pub told-requires-clause-few : goal.told-requires-clause-few
told-requires-clause-few g c =
    told_few (state_of c.args.turning.now) (g.C.CoreCalls.view c.args.calls.now) c.requires.playing.told (g.met.C.CoreCalls.known c.args.calls.now c.requires.ready)

pub returns-clause-playing : goal.returns-clause-playing
returns-clause-playing g c =
    let t = state_of c.args.turning.now in let v = g.C.CoreCalls.view c.args.calls.now in let now = g.C.CoreCalls.view c.enter.new.self in let u = state_of c.told.new.self in let p = c.requires.playing in
    let entered = subst (λ a. Entered a c.args.thread c.enter.result v now) (core_is v t.core p.told.of_core) c.enter.ensures.entered in
    let is = c.told.ensures.state in (
      played_as (with_told told.Arrived t) u now is
          (entered_playing t v p c.args.thread c.requires.awaits c.requires.asked c.enter.result now entered (told_behind_all told.Arrived t u is c.told.ensures.told)),
      same_turn told.Arrived t u is,
    )

pub returns-clause-added : goal.returns-clause-added
returns-clause-added g c =
    let t = state_of c.args.turning.now in let v = g.C.CoreCalls.view c.args.calls.now in let now = g.C.CoreCalls.view c.enter.new.self in let p = c.requires.playing in
    entered_asked t v p c.args.thread c.requires.awaits c.requires.asked c.enter.result now (subst (λ a. Entered a c.args.thread c.enter.result v now) (core_is v t.core p.told.of_core) c.enter.ensures.entered)
    (state_of c.told.new.self) c.told.ensures.state

pub returns-clause-looked : goal.returns-clause-looked
returns-clause-looked g c looked = subst HasLooked (ap (λ (x : TurnState). x.reached) c.told.ensures.state) looked

pub returns-clause-more : goal.returns-clause-more
returns-clause-more g c = told_more told.Arrived (state_of c.args.turning.now) (state_of c.told.new.self) c.told.ensures.told
