use Rattle.std.proofs.Common.{◌∙◌, MatchOption, refl, sym, subst, arith}
use Rattle.core_calls.specs.Steps.{HasNoneDue, Woken}
use Rattle.core_calls.proofs.Turning.{core_is, none_woke, some_woke}
use Rattle.turn_steps.specs.declared.asking.Ask.TheVariants as ask
use Rattle.turn_steps.specs.declared.asking.Told.TheVariants as told
use Rattle.turn_steps.specs.Answers.{with_told}
use Rattle.turn_steps.specs.Asks.{AsksAsModel}
use Rattle.turn_steps.specs.States.{TurnState, state_of}
use Rattle.turn_steps.proofs.ModelAsks.{model_of_unit}
use Rattle.core_calls.specs.Stepping.{AddsAsked}
use Rattle.core_calls.proofs.Growing.{played_as, same_turn, told_behind_all, told_more}
use Rattle.core_calls.proofs.Knowing.{told_few}
use Rattle.core_calls.proofs.WakingSteps.{asked_before, may_wake, none_playing, woken_asked, woken_playing}
use Rattle.core_calls.proofs.steps.wake_or_work.Goals as goal

pub wake_next-requires-clause-may : goal.wake_next-requires-clause-may
wake_next-requires-clause-may g c =
    may_wake (state_of c.args.turning.now) (g.C.CoreCalls.view c.args.calls.now) c.requires.playing c.requires.asked (g.met.C.CoreCalls.known c.args.calls.now c.requires.ready)

pub told-requires-clause-few : goal.told-requires-clause-few
told-requires-clause-few g c =
    told_few (state_of c.args.turning.now) (g.C.CoreCalls.view c.args.calls.now) c.requires.playing.told (g.met.C.CoreCalls.known c.args.calls.now c.requires.ready)

pub told-requires-else-is_some-clause-few : goal.told-requires-else-is_some-clause-few
told-requires-else-is_some-clause-few g c =
    told_few (state_of c.args.turning.now) (g.C.CoreCalls.view c.args.calls.now) c.requires.playing.told (g.met.C.CoreCalls.known c.args.calls.now c.requires.ready)

pub work-requires-clause-asked : goal.work-requires-clause-asked
work-requires-clause-asked g c =
    let t = state_of c.args.turning.now in let v = g.C.CoreCalls.view c.args.calls.now in let mid = g.C.CoreCalls.view c.wake_next.new.self in let p = c.requires.playing in
    let next = subst (λ k. MatchOption c.wake_next.result (HasNoneDue k v mid) (λ at. Woken k at v mid)) (core_is v t.core p.told.of_core) c.wake_next.ensures.woken in
    let none = none_woke t.core v mid c.wake_next.result next (sym c.is_some.ensures ∙ c.if-is_some.false) in
    let u = state_of c.told-else-is_some.new.self in let is = c.told-else-is_some.ensures.state in
    let playing = none_playing t v p mid none c.requires.awaits.1 (told_behind_all told.NothingDue t u is c.told-else-is_some.ensures.told) in
    subst (λ (x : TurnState). AsksAsModel mid.plan x ask.Work) (sym is) (model_of_unit mid.plan (with_told told.NothingDue t) c.requires.awaits.1 playing.of_plan refl)

pub returns-then-is_some-clause-playing : goal.returns-then-is_some-clause-playing
returns-then-is_some-clause-playing g c =
    let t = state_of c.args.turning.now in let v = g.C.CoreCalls.view c.args.calls.now in let now = g.C.CoreCalls.view c.wake_next.new.self in let p = c.requires.playing in
    let next = subst (λ k. MatchOption c.wake_next.result (HasNoneDue k v now) (λ at. Woken k at v now)) (core_is v t.core p.told.of_core) c.wake_next.ensures.woken in
    let woke = some_woke t.core v now c.wake_next.result next (sym c.is_some.ensures ∙ c.if-is_some.true) in let u = state_of c.told.new.self in let is = c.told.ensures.state in (
      played_as (with_told told.Woke t) u now is (woken_playing t v p woke.0 now woke.1 c.requires.awaits.0 (told_behind_all told.Woke t u is c.told.ensures.told)),
      same_turn told.Woke t u is,
    )

pub returns-then-is_some-clause-added : goal.returns-then-is_some-clause-added
returns-then-is_some-clause-added g c =
    let t = state_of c.args.turning.now in let v = g.C.CoreCalls.view c.args.calls.now in let now = g.C.CoreCalls.view c.wake_next.new.self in let p = c.requires.playing in
    let next = subst (λ k. MatchOption c.wake_next.result (HasNoneDue k v now) (λ at. Woken k at v now)) (core_is v t.core p.told.of_core) c.wake_next.ensures.woken in
    let woke = some_woke t.core v now c.wake_next.result next (sym c.is_some.ensures ∙ c.if-is_some.true) in
    woken_asked t v p woke.0 now woke.1 (state_of c.told.new.self) c.told.ensures.state

pub returns-else-is_some-clause-added : goal.returns-else-is_some-clause-added
returns-else-is_some-clause-added g c =
    let t = state_of c.args.turning.now in let v = g.C.CoreCalls.view c.args.calls.now in let mid = g.C.CoreCalls.view c.wake_next.new.self in let now = g.C.CoreCalls.view c.work.new.calls in let p = c.requires.playing in
    let next = subst (λ k. MatchOption c.wake_next.result (HasNoneDue k v mid) (λ at. Woken k at v mid)) (core_is v t.core p.told.of_core) c.wake_next.ensures.woken in
    let none = none_woke t.core v mid c.wake_next.result next (sym c.is_some.ensures ∙ c.if-is_some.false) in
    let u = state_of c.told-else-is_some.new.self in let is = c.told-else-is_some.ensures.state in let last = state_of c.work.new.turning in
    let playing = none_playing t v p mid none c.requires.awaits.1 (told_behind_all told.NothingDue t u is c.told-else-is_some.ensures.told) in
    asked_before t v p mid none c.requires.awaits.0 (model_of_unit mid.plan (with_told told.NothingDue t) c.requires.awaits.1 playing.of_plan refl) playing.told now last
    (subst (λ (x : TurnState). AddsAsked x last mid now) is c.work.ensures.added)

pub returns-then-is_some-clause-more : goal.returns-then-is_some-clause-more
returns-then-is_some-clause-more g c = told_more told.Woke (state_of c.args.turning.now) (state_of c.told.new.self) c.told.ensures.told

pub returns-else-is_some-clause-more : goal.returns-else-is_some-clause-more
returns-else-is_some-clause-more g c =
    let none = told_more told.NothingDue (state_of c.args.turning.now) (state_of c.told-else-is_some.new.self) c.told-else-is_some.ensures.told in let unit = c.work.ensures.more in omega arith
