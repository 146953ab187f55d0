-- A core's turn, step by step.
use Rattle.std.proofs.Common.{◌≡◌, ◌<◌, ◌+◌, ◌||◌, ℕ, Bool, true, false, length, get_or, refl, sym, ap, ◌∙◌, subst}
use Rattle.round_model.specs.declared.entry.Did.{Did}
use Rattle.round_model.specs.declared.entry.Entry.{Entry}
use Rattle.round_model.specs.declared.entry.Entry.TheVariants as entry
use Rattle.round_model.specs.declared.plan.Plan.{Plan}
use Rattle.round_model.specs.declared.plan.Planned.{Planned}
use Rattle.round_model.specs.Kinds.{is_attempt, is_work}
use Rattle.core_table.specs.declared.views.View.{View}
use Rattle.core_table.specs.Told.{IsSeatOf}
use Rattle.select_phase.specs.declared.looks.Look.{Look}
use Rattle.select_phase.specs.Seen.{AreLast, HasMoreNotes, Looked}
use Rattle.steal_phase.specs.Attempts.{HasAdded, MayAttempt}
use Rattle.core_calls.specs.Steps.{Entered, HasLetAllIn, HasNoneDue, MayEnter, MayWake, MayWork, Woken, Worked}
use Rattle.table_players.specs.declared.players.Stage.{Stage}
use Rattle.table_players.specs.declared.players.Stage.TheVariants as stage
use Rattle.table_players.specs.Crowds.{IsCrowd}
use Rattle.table_players.specs.Games.{HasDone, IsStage, IsTurn, LetsNext, LetsNone}
use Rattle.table_players.proofs.Letting.{all_let_in, any_more, let_in_one, next_enters, plan_same, still_all_in}

-- the seat drew an entry more, and the core has come so far
turned : (v w : View) (core at : ℕ) (e : Entry) (before now : Stage) → IsTurn v core before → HasAdded core at e v w → IsStage w core now → IsTurn w core now
turned v w core at e before now old added come = record {
  plan = subst IsCrowd (sym (plan_same v w core at e added)) old.plan;
  there = subst (λ (x : Plan). core < x.cores) (sym (plan_same v w core at e added)) old.there;
  round = ap (λ (x : View). x.round) added.rest ∙ old.round;
  of_core = added.of_core;
  free = added.free;
  stage = come;
}

-- what the core has done, with an entry more
done_more : (v w : View) (core at : ℕ) (e : Entry) (worked attempted : Bool) → HasAdded core at e v w → HasDone v worked attempted → HasDone w (worked || (is_work e || false)) (attempted || (is_attempt e || false))
done_more v w core at e worked attempted added done = record {
  work = any_more is_work v w core at e added ∙ ap (λ b. b || (is_work e || false)) done.work;
  attempt = any_more is_attempt v w core at e added ∙ ap (λ b. b || (is_attempt e || false)) done.attempt;
}

module _ (v : View) (core : ℕ) where
  -- a thread enters
  pub may_enter : (place k : ℕ) (d : Planned) (id : ℕ) → IsTurn v core (stage.Entering place) → LetsNext core v.plan.threads place k → id ≡ (get_or v.plan.threads k d).id → MayEnter v core id
  may_enter place k d id turn next is = record { of_core = turn.of_core; next = next_enters v turn.plan core place turn.stage.0 k next d turn.round id is; free = turn.free }

  pub entered_one : (place k : ℕ) (d : Planned) (id at : ℕ) (w : View) → IsTurn v core (stage.Entering place) → LetsNext core v.plan.threads place k → id ≡ (get_or v.plan.threads k d).id → Entered core id at v w
      → IsTurn w core (stage.Entering (k + 1))
  entered_one place k d id at w turn next is came = turned v w core at (entry.Enter id core came.to came.reads) (stage.Entering place) (stage.Entering (k + 1)) turn came.adds.added (
    let_in_one v turn.plan core place turn.stage.0 k next d w at came.to came.reads id is came.adds.added,
    done_more v w core at (entry.Enter id core came.to came.reads) false false came.adds.added turn.stage.1,
  )

  -- none is left to enter
  pub none_enters : (place : ℕ) → IsTurn v core (stage.Entering place) → LetsNone core v.plan.threads place (length v.plan.threads) → IsTurn v core stage.Waking
  none_enters place turn none = record {
    plan = turn.plan;
    there = turn.there;
    round = turn.round;
    of_core = turn.of_core;
    free = turn.free;
    stage = (all_let_in v turn.plan core place turn.stage.0 turn.round none, turn.stage.1);
  }

  -- a thread wakes, or none is due
  pub may_wake : IsTurn v core stage.Waking → MayWake v core
  may_wake turn = record { of_core = turn.of_core; entered = turn.stage.0; free = turn.free }

  pub woke_one : (at : ℕ) (w : View) → IsTurn v core stage.Waking → Woken core at v w → IsTurn w core stage.Waking
  woke_one at w turn woke = turned v w core at (entry.Wake woke.thread core woke.to woke.reads) stage.Waking stage.Waking turn woke.adds.added (
    still_all_in v w core at (entry.Wake woke.thread core woke.to woke.reads) (λ id. refl) woke.adds.added turn.stage.0,
    done_more v w core at (entry.Wake woke.thread core woke.to woke.reads) false false woke.adds.added turn.stage.1,
  )

  pub woke_none : (w : View) → IsTurn v core stage.Waking → HasNoneDue core v w → IsTurn w core stage.Working
  woke_none w turn none = record {
    plan = subst IsCrowd (sym (ap (λ (x : View). x.plan) none.rest)) turn.plan;
    there = subst (λ (x : Plan). core < x.cores) (sym (ap (λ (x : View). x.plan) none.rest)) turn.there;
    round = ap (λ (x : View). x.round) none.rest ∙ turn.round;
    of_core = record { none_due = true; role = none.marked };
    free = ap (λ (x : View). x.held) none.rest ∙ turn.free;
    stage = (
      none.marked,
      subst (λ (x : View). HasLetAllIn x core) (sym none.rest) turn.stage.0,
      subst (λ (x : View). HasDone x false false) (sym none.rest) (record { work = turn.stage.1.work; attempt = turn.stage.1.attempt }),
    );
  }

  -- the unit
  pub may_work : IsTurn v core stage.Working → MayWork v core
  may_work turn = record { marked = turn.stage.0; entered = turn.stage.1; first = turn.stage.2.work; free = turn.free }

  pub worked_one : (what : Did) (w : View) → IsTurn v core stage.Working → Worked core what v w → IsTurn w core stage.Looking
  worked_one what w turn did = turned v w core did.at (entry.Work core what) stage.Working stage.Looking turn did.adds.added
      (done_more v w core did.at (entry.Work core what) false false did.adds.added turn.stage.2)

  -- the look
  pub looked_now : (look : Look) (w : View) → IsTurn v core stage.Looking → HasMoreNotes v w → look.by ≡ core → Looked w look → AreLast w look.reads → IsTurn w core (stage.Attempting look)
  looked_now look w turn more by looked last = record {
    plan = subst IsCrowd (sym (ap (λ (x : View). x.plan) more.is)) turn.plan;
    there = subst (λ (x : Plan). core < x.cores) (sym (ap (λ (x : View). x.plan) more.is)) turn.there;
    round = ap (λ (x : View). x.round) more.is ∙ turn.round;
    of_core = record { none_due = turn.of_core.none_due; role = ap (λ (x : View). x.role) more.is ∙ turn.of_core.role };
    free = ap (λ (x : View). x.held) more.is ∙ turn.free;
    stage = (
      by,
      looked,
      last,
      subst (λ (x : View). HasDone x true false) (sym more.is) (record { work = turn.stage.work; attempt = turn.stage.attempt }),
    );
  }

  -- the attempt
  pub may_attempt : (look : Look) → IsTurn v core (stage.Attempting look) → MayAttempt v look
  may_attempt look turn = record {
    ready = record { of_core = subst (IsSeatOf v) (sym turn.stage.0) turn.of_core; worked = turn.stage.3.work; first = turn.stage.3.attempt; free = turn.free };
    looked = turn.stage.1;
  }

  pub attempted_now : (look : Look) (at : ℕ) (e : Entry) (w : View) → IsTurn v core (stage.Attempting look) → HasAdded look.by at e v w → IsTurn w core stage.Over
  attempted_now look at e w turn added = turned v w core at e (stage.Attempting look) stage.Over turn (subst (λ by. HasAdded by at e v w) turn.stage.0 added) tt

-- nothing is said of a turn that is over
pub over_now : (v : View) (core : ℕ) (before : Stage) → IsTurn v core before → IsTurn v core stage.Over
over_now v core before turn = record { plan = turn.plan; there = turn.there; round = turn.round; of_core = turn.of_core; free = turn.free; stage = tt }
