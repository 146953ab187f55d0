use Rattle.std.proofs.Common.{◌∙◌, ap, sym, subst}
use Rattle.core_calls.specs.Steps.{Worked}
use Rattle.core_calls.proofs.Turning.{core_is}
use Rattle.turn_steps.specs.declared.asking.Told.TheVariants as told
use Rattle.turn_steps.specs.Answers.{with_told}
use Rattle.turn_steps.specs.States.{TurnState, state_of}
use Rattle.core_calls.specs.Stepping.{HasLooked}
use Rattle.core_calls.proofs.Growing.{played_as, same_turn, told_behind_all, told_more}
use Rattle.core_calls.proofs.Knowing.{told_few}
use Rattle.core_calls.proofs.WakingSteps.{may_work, unit_asked, unit_playing}
use Rattle.core_calls.proofs.steps.work.Goals as goal

pub work-did-requires-clause-may : goal.work-did-requires-clause-may
work-did-requires-clause-may g c =
    may_work (state_of c.args.turning.now) (g.C.CoreCalls.view c.args.calls.now) c.requires.playing c.requires.awaits c.requires.asked (g.met.C.CoreCalls.known c.args.calls.now c.requires.ready)

pub work-did-requires-clause-round : goal.work-did-requires-clause-round
work-did-requires-clause-round g c = c.round.ensures ∙ sym c.requires.playing.told.round

pub told-requires-clause-few : goal.told-requires-clause-few
told-requires-clause-few g c =
    told_few (state_of c.args.turning.now) (g.C.CoreCalls.view c.args.calls.now) c.requires.playing.told (g.met.C.CoreCalls.known c.args.calls.now c.requires.ready)

pub returns-clause-playing : goal.returns-clause-playing
returns-clause-playing g c =
    let t = state_of c.args.turning.now in let v = g.C.CoreCalls.view c.args.calls.now in let now = g.C.CoreCalls.view c.work-did.new.self in let u = state_of c.told.new.self in let p = c.requires.playing in
    let did = c.work-did.result in let worked = subst (λ a. Worked a did v now) (core_is v t.core p.told.of_core) c.work-did.ensures.worked in
    let is = c.told.ensures.state in (
      played_as (with_told (told.Worked did) t) u now is (unit_playing t v p did now worked c.requires.awaits (told_behind_all (told.Worked did) t u is c.told.ensures.told)),
      same_turn (told.Worked did) t u is,
    )

pub returns-clause-added : goal.returns-clause-added
returns-clause-added g c =
    let t = state_of c.args.turning.now in let v = g.C.CoreCalls.view c.args.calls.now in let now = g.C.CoreCalls.view c.work-did.new.self in let p = c.requires.playing in
    unit_asked t v p c.work-did.result now (subst (λ a. Worked a c.work-did.result v now) (core_is v t.core p.told.of_core) c.work-did.ensures.worked) c.requires.asked
    (state_of c.told.new.self) c.told.ensures.state

pub returns-clause-looked : goal.returns-clause-looked
returns-clause-looked g c looked = absurd (subst HasLooked (ap (λ (x : TurnState). x.reached) c.told.ensures.state) looked)

pub returns-clause-more : goal.returns-clause-more
returns-clause-more g c = told_more (told.Worked c.work-did.result) (state_of c.args.turning.now) (state_of c.told.new.self) c.told.ensures.told
