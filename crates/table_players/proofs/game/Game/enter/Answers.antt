use Rattle.std.proofs.Common.{◌≡◌, length, get_or, ap, sym, subst, ◌∙◌}
use Rattle.round_model.specs.declared.plan.Plan.{Plan}
use Rattle.round_model.specs.declared.plan.Planned.{Planned}
use Rattle.core_table.specs.declared.seat.Table.{Table}
use Rattle.core_table.specs.Public.{IsOf, view_of}
use Rattle.core_calls.specs.Steps.{Entered, MayEnter}
use Rattle.table_players.specs.Games.{LetsNext, LetsNone}
use Rattle.table_players.proofs.Turning.{entered_one, may_enter, none_enters}
use Rattle.table_players.proofs.game.Game.enter.Goals as goal

pub wake-requires : goal.wake-requires
wake-requires g c =
    let v = view_of c.args.seat.now in let self = c.args.self.now in
    let plan_is : self.plan.now ≡ v.plan = self.of ∙ sym c.requires.of.opening.plan in
    record {
      of = c.requires.of;
      turn = none_enters v c.args.core c.args.place c.requires.turn (subst (λ (x : Plan). LetsNone c.args.core x.threads c.args.place (length x.threads)) plan_is c.in_default.ensures);
    }

pub enter-requires-clause-may : goal.enter-requires-clause-may
enter-requires-clause-may g c =
    let v = view_of c.args.seat.now in let self = c.args.self.now in let at = c.in-Some.at in let thread = c.get.result.now in
    let plan_is : self.plan.now ≡ v.plan = self.of ∙ sym c.requires.of.opening.plan in
    let next = subst (λ (x : Plan). LetsNext c.args.core x.threads c.args.place at) plan_is c.in-Some.ensures in
    let is : thread.id ≡ (get_or v.plan.threads at thread).id = ap (λ (t : Planned). t.id) c.get.ensures.value ∙ ap (λ (x : Plan). (get_or x.threads at thread).id) plan_is in
    subst (λ core. MayEnter v core thread.id) (sym c.actor.ensures.core) (may_enter v c.args.core c.args.place at thread thread.id c.requires.turn next is)

pub returns : goal.returns
returns g c =
    let v = view_of c.args.seat.now in let w = view_of c.enter.new.seat in let self = c.args.self.now in let at = c.in-Some.at in let thread = c.get.result.now in
    let plan_is : self.plan.now ≡ v.plan = self.of ∙ sym c.requires.of.opening.plan in
    let next = subst (λ (x : Plan). LetsNext c.args.core x.threads c.args.place at) plan_is c.in-Some.ensures in
    let is : thread.id ≡ (get_or v.plan.threads at thread).id = ap (λ (t : Planned). t.id) c.get.ensures.value ∙ ap (λ (x : Plan). (get_or x.threads at thread).id) plan_is in
    record {
      of = subst (λ (t : Table). IsOf t c.enter.new.seat) c.actor.ensures.table c.enter.ensures.seat;
      turn = entered_one v c.args.core c.args.place at thread thread.id c.enter.result w c.requires.turn next is
          (subst (λ core. Entered core thread.id c.enter.result v w) c.actor.ensures.core c.enter.ensures.entered);
    }
