use Rattle.std.proofs.Common.{sym, subst}
use Rattle.turn_steps.specs.declared.asking.Told.TheVariants as told
use Rattle.turn_steps.specs.Answers.{with_told}
use Rattle.turn_steps.specs.States.{state_of}
use Rattle.core_calls.specs.Stepping.{HasLooked}
use Rattle.core_calls.proofs.Growing.{played_as, same_turn, told_behind_all, told_more}
use Rattle.core_calls.proofs.Knowing.{told_few}
use Rattle.core_calls.proofs.Trying.{may_try, tried_asked, tried_playing}
use Rattle.core_calls.proofs.steps.try_by.Goals as goal

pub attempt-requires-clause-may : goal.attempt-requires-clause-may
attempt-requires-clause-may g c =
    let a = c.requires.awaits in may_try (state_of c.args.turning.now) (g.C.CoreCalls.view c.args.calls.now) c.requires.playing a.0 c.args.look a.1

pub told-requires-clause-awaited : goal.told-requires-clause-awaited
told-requires-clause-awaited g c = let a = c.requires.awaits in (a.0, c.args.look, a.1)

pub told-requires-clause-few : goal.told-requires-clause-few
told-requires-clause-few g c =
    told_few (state_of c.args.turning.now) (g.C.CoreCalls.view c.args.calls.now) c.requires.playing.told (g.met.C.CoreCalls.known c.args.calls.now c.requires.ready)

pub returns-clause-playing : goal.returns-clause-playing
returns-clause-playing g c =
    let t = state_of c.args.turning.now in let v = g.C.CoreCalls.view c.args.calls.now in let now = g.C.CoreCalls.view c.attempt.new.self in let u = state_of c.told.new.self in
    let a = c.requires.awaits in let is = c.told.ensures.state in (
      played_as (with_told told.Acted t) u now is
          (tried_playing t v c.requires.playing a.0 c.args.look a.1 c.attempt.result now c.attempt.ensures.tried (told_behind_all told.Acted t u is c.told.ensures.told)),
      same_turn told.Acted t u is,
    )

pub returns-clause-added : goal.returns-clause-added
returns-clause-added g c =
    let a = c.requires.awaits in
    tried_asked (state_of c.args.turning.now) (g.C.CoreCalls.view c.args.calls.now) c.requires.playing a.0 c.args.look a.1 c.attempt.result (g.C.CoreCalls.view c.attempt.new.self) c.attempt.ensures.tried c.requires.asked
    (state_of c.told.new.self) c.told.ensures.state

pub returns-clause-looked : goal.returns-clause-looked
returns-clause-looked g c looked = subst HasLooked (sym c.requires.awaits.1) tt

pub returns-clause-more : goal.returns-clause-more
returns-clause-more g c = told_more told.Acted (state_of c.args.turning.now) (state_of c.told.new.self) c.told.ensures.told
