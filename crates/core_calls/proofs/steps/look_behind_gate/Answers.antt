use Rattle.std.proofs.Common.{ℕ, sym, subst}
use Rattle.core_calls.proofs.Turning.{core_is}
use Rattle.turn_steps.specs.declared.asking.Told.TheVariants as told
use Rattle.turn_steps.specs.Answers.{with_told}
use Rattle.turn_steps.specs.States.{state_of}
use Rattle.core_calls.proofs.Growing.{played_as, same_turn, told_behind_all, told_more}
use Rattle.core_calls.proofs.Knowing.{told_few}
use Rattle.core_calls.proofs.Trying.{looked_asked, looked_playing, may_look}
use Rattle.core_calls.proofs.steps.look_behind_gate.Goals as goal

pub look-look-requires-clause-may : goal.look-look-requires-clause-may
look-look-requires-clause-may g c = let a = c.requires.awaits in may_look (state_of c.args.turning.now) (g.C.CoreCalls.view c.args.calls.now) c.requires.playing a.0 a.1

pub told-requires-clause-few : goal.told-requires-clause-few
told-requires-clause-few g c =
    told_few (state_of c.args.turning.now) (g.C.CoreCalls.view c.args.calls.now) c.requires.playing.told (g.met.C.CoreCalls.known c.args.calls.now c.requires.ready)

pub returns-clause-playing : goal.returns-clause-playing
returns-clause-playing g c =
    let t = state_of c.args.turning.now in let v = g.C.CoreCalls.view c.args.calls.now in let now = g.C.CoreCalls.view c.look-look.new.self in let u = state_of c.told.new.self in
    let look = c.look-look.result in let a = c.requires.awaits in let is = c.told.ensures.state in (
      played_as (with_told (told.Looked look) t) u now is
          (looked_playing t v c.requires.playing a.0 a.1 look now c.look-look.ensures.looked (told_behind_all (told.Looked look) t u is c.told.ensures.told)),
      same_turn (told.Looked look) t u is,
    )

pub returns-clause-looked : goal.returns-clause-looked
returns-clause-looked g c =
    let a = c.requires.awaits in
    looked_asked (state_of c.args.turning.now) (g.C.CoreCalls.view c.args.calls.now) c.requires.playing a.0 a.1 c.look-look.result (g.C.CoreCalls.view c.look-look.new.self) c.look-look.ensures.looked c.requires.asked
    (state_of c.told.new.self) c.told.ensures.state

pub returns-clause-more : goal.returns-clause-more
returns-clause-more g c = told_more (told.Looked c.look-look.result) (state_of c.args.turning.now) (state_of c.told.new.self) c.told.ensures.told

pub look-look-requires-clause-passed : goal.look-look-requires-clause-passed
look-look-requires-clause-passed g c =
    let t = state_of c.args.turning.now in let v = g.C.CoreCalls.view c.args.calls.now in let said = c.requires.playing.told in let P : ℕ → ℕ → Type 0 = g.G.Gate.passed c.args.gate.now in
    subst (λ k. P k v.round) (sym (core_is v t.core said.of_core)) (subst (P t.core) (sym said.round) (subst (λ k. P k t.round) c.core.ensures (subst (P c.core.result) c.round.ensures c.pass.ensures)))
