use Rattle.std.proofs.Common.{◌≡◌, ◌<◌, [], ◌∷◌, ap, sym, subst, ◌∙◌, length}
use Rattle.round_model.specs.declared.entry.Entry.TheVariants as entry
use Rattle.round_model.specs.declared.plan.Plan.{Plan}
use Rattle.core_table.specs.declared.views.View.{View}
use Rattle.core_table.specs.Logs.{RoundLogView}
use Rattle.core_table.specs.Views.{taken}
use Rattle.core_table.specs.Told.{MayBeginRound}
use Rattle.core_table.specs.Plays.{Begins}
use Rattle.core_table.proofs.Rounding.{begun_live, begun_plan, begun_policy, may_held, round_back, round_begun, round_log_is, round_room, with_entry, written}
use Rattle.core_table.proofs.writes.write_round.Goals as goal

pub begin-at-requires-clause-alone : goal.begin-at-requires-clause-alone
begin-at-requires-clause-alone g c = let t = c.hold_rounds-log.ensures.took in let v = c.args.place.now.me.0 in let is = ap (λ m. m.0) t.took.now in record {
  of = taken v.plan.cores v.plan.cores t.state;
  held = ap (λ (w : View). w.held) is ∙ ap (λ l. taken v.plan.cores v.plan.cores t.state ∷ l) c.requires.free;
  core = ap (λ (w : View). w.plan.cores) (sym is);
}

pub begin-at-requires-clause-back : goal.begin-at-requires-clause-back
begin-at-requires-clause-back g c = let t = c.hold_rounds-log.ensures.took in let b = c.requires.back in let is = ap (λ m. m.0) t.took.now in
    record { merged = b.merged; turns = b.turns; role = ap (λ (w : View). w.role) is ∙ b.role; back = b.back }

pub begin-at-requires-clause-may : goal.begin-at-requires-clause-may
begin-at-requires-clause-may g c = let t = c.hold_rounds-log.ensures.took in let is = ap (λ m. m.0) t.took.now in
    subst (λ (w : View). MayBeginRound w c.args.number) (sym is) (may_held c.args.number c.args.place.now.me.0 t.state c.requires.free c.requires.may)

pub log-requires : goal.log-requires
log-requires g c = let t = c.hold_rounds-log.ensures.took in let is = ap (λ m. m.0) t.took.now in let d = subst (λ (w : View). Begins c.args.number w c.begin-at.result c.begin-at.new.place.me.0) is c.begin-at.ensures.begun.0 in
    subst (λ (l : RoundLogView). length l.entries < l.room) t.is (round_room c.args.place.now.me.0 t.state c.args.number c.begin-at.result c.begin-at.new.place.me.0 c.requires.free d)

pub release_rounds-requires-clause-table : goal.release_rounds-requires-clause-table
release_rounds-requires-clause-table g c = let t = c.hold_rounds-log.ensures.took in let is = ap (λ m. m.0) t.took.now in let d = subst (λ (w : View). Begins c.args.number w c.begin-at.result c.begin-at.new.place.me.0) is c.begin-at.ensures.begun.0 in
    let s = c.requires.table in let v = c.args.place.now.me.0 in record {
      table_is = c.begin-at.ensures.table.0 ∙ (c.hold_rounds-log.ensures.table.0 ∙ s.table_is);
      of_opening = record {
        policy = begun_policy v t.state c.args.number c.begin-at.result c.begin-at.new.place.me.0 c.requires.free d ∙ s.of_opening.policy;
        plan = begun_plan v t.state c.args.number c.begin-at.result c.begin-at.new.place.me.0 c.requires.free d ∙ s.of_opening.plan;
      };
      live = begun_live v t.state c.args.number c.begin-at.result c.begin-at.new.place.me.0 c.requires.free d;
      opened = s.opened;
    }

pub release_rounds-requires-clause-newest : goal.release_rounds-requires-clause-newest
release_rounds-requires-clause-newest g c = let t = c.hold_rounds-log.ensures.took in let is = ap (λ m. m.0) t.took.now in let v = c.args.place.now.me.0 in let d = subst (λ (w : View). Begins c.args.number w c.begin-at.result c.begin-at.new.place.me.0) is c.begin-at.ensures.begun.0 in
    let n : v.plan.cores ≡ c.args.cores = ap (λ (q : Plan). q.cores) c.requires.table.of_opening.plan ∙ sym c.requires.cores in (
      written v t.state c.args.number c.begin-at.result c.begin-at.new.place.me.0 c.requires.free d,
      [],
      round_back v t.state c.args.number c.begin-at.result c.begin-at.new.place.me.0 c.requires.free d c.args.cores n,
      round_log_is v t.state c.args.number c.begin-at.result c.begin-at.new.place.me.0 c.requires.free d ∙ (ap (with_entry c.begin-at.result (entry.Round c.args.number)) t.is ∙ sym c.log.ensures),
    )

pub returns-clause-begun : goal.returns-clause-begun
returns-clause-begun g c = let t = c.hold_rounds-log.ensures.took in let is = ap (λ m. m.0) t.took.now in let d = subst (λ (w : View). Begins c.args.number w c.begin-at.result c.begin-at.new.place.me.0) is c.begin-at.ensures.begun.0 in
    round_begun c.args.place.now.me.0 t.state c.args.number c.begin-at.result c.begin-at.new.place.me.0 c.requires.free d c.release_rounds.new.place.me.0 (ap (λ m. m.0) c.release_rounds.ensures.home.now)
