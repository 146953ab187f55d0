-- How far a turn has come that is played step by step, from its first view on.
use Rattle.std.proofs.Common.{◌≡◌, ℕ, ◌⊎◌, inl, inr, Bool, true, false, map, ◌++◌, refl, sym, ap, ◌∙◌, subst}
use Rattle.std.specs.List.{list_any}
use Rattle.std.proofs.lemmas.Bool.{true≢false}
use Rattle.core_state.specs.declared.logged.Logged.{Logged}
use Rattle.round_model.specs.Entries.{lets_in}
use Rattle.core_table.specs.declared.views.View.{View}
use Rattle.core_calls.specs.declared.turned.Turned.{Turned}
use Rattle.core_calls.specs.Stepping.{HasLooked, IsPlaying, IsSameTurn, Steps}
use Rattle.core_calls.specs.Turns.{HasTurned, IsFresh}
use Rattle.turn_steps.specs.declared.reached.Reached.{Reached}
use Rattle.turn_steps.specs.declared.reached.Reached.TheVariants as reached
use Rattle.turn_steps.specs.Reaches.{IsOver}
use Rattle.turn_steps.specs.States.{TurnState, first_state}
use Rattle.turn_steps.specs.Views.{told_of}

-- a turn that was told nothing, by a seat that drew nothing
pub fresh_playing : (core : ℕ) (v : View) (t : TurnState) → IsFresh v core → t ≡ first_state v.plan core v.round → IsPlaying t v
fresh_playing core v t fresh is = subst (λ (x : TurnState). IsPlaying x v) (sym is) record {
  told = record {
    of_core = fresh.of_core;
    round = refl;
    own = ap (λ l. map told_of (map (λ (x : Logged). x.entry) l)) fresh.own;
    entered = λ id. ap (λ l. list_any (lets_in id) (map (λ (x : Logged). x.entry) l)) fresh.own;
    marked = λ behind. absurd behind;
  };
  of_plan = refl;
  all = λ behind. absurd behind;
  free = fresh.free;
  look = tt;
}

-- beside what the steps of a core change the view is as it was
abbrev pub IsLikeFirst : (first now : View) → Type 0
IsLikeFirst first now = now ≡ record first { role = now.role; own = now.own; notes = now.notes; held = now.held }

-- the turn of the core in the round has come so far, and was begun with that view
pub record HasComeSoFar (core round : ℕ) (Passed : ℕ → ℕ → Type 0) (first : View) (t : TurnState) (v : View) : Type 0 where
  pub playing : IsPlaying t v
  pub same : IsSameTurn (record t { core = core; round = round }) t
  pub rest : IsLikeFirst first v
  pub passed : HasLooked t.reached → Passed core round

-- as it begins
pub begun : (core round : ℕ) (Passed : ℕ → ℕ → Type 0) (v : View) (t : TurnState) → IsFresh v core → round ≡ v.round → t ≡ first_state v.plan core round → HasComeSoFar core round Passed v t v
begun core round Passed v t fresh now is = record {
  playing = fresh_playing core v t fresh (is ∙ ap (first_state v.plan core) now);
  same = record { core = ap (λ (x : TurnState). x.core) is; round = ap (λ (x : TurnState). x.round) is };
  rest = refl;
  passed = λ looked. absurd (subst (λ (x : TurnState). HasLooked x.reached) is looked);
}

-- a step changes no more
still_like : (goes : Bool) (t u : TurnState) (first v w : View) → Steps goes t u v w → IsLikeFirst first v → IsLikeFirst first w
still_like true t u first v w (inl a) like = a.adds.added.rest ∙ ap (λ (x : View). record x { role = w.role; own = w.own; notes = w.notes; held = w.held }) like
still_like true t u first v w (inr l) like =
    let more = l.looked.read.more in
    subst (IsLikeFirst first) (sym l.looked.read.is) (ap (λ (x : View). record x { notes = more ++ v.notes }) like)
still_like false t u first v w r like = subst (IsLikeFirst first) (sym r.same) like

-- behind one more step
pub come_further : (core round : ℕ) (Passed : ℕ → ℕ → Type 0) (first v w : View) (t u : TurnState) (goes : Bool) → HasComeSoFar core round Passed first t v → Steps goes t u v w → IsPlaying u w → IsSameTurn t u
    → (HasLooked u.reached → Passed t.core t.round) → HasComeSoFar core round Passed first u w
come_further core round Passed first v w t u goes s steps playing same passed = record {
  playing = playing;
  same = record { core = same.core ∙ s.same.core; round = same.round ∙ s.same.round };
  rest = still_like goes t u first v w steps s.rest;
  passed = λ looked. subst (λ k. Passed k round) s.same.core (subst (Passed t.core) s.same.round (passed looked));
}

has_looked : (r : Reached) → IsOver r → HasLooked r
has_looked reached.Threads over = absurd over
has_looked reached.NothingDue over = absurd over
has_looked (reached.Worked did) over = absurd over
has_looked (reached.Looked did look) over = absurd over
has_looked (reached.Acted did look) over = tt

-- where its turn is over, it passed
pub has_passed : (core round : ℕ) (Passed : ℕ → ℕ → Type 0) (first v : View) (t : TurnState) → HasComeSoFar core round Passed first t v → IsOver t.reached → Passed core round
has_passed core round Passed first v t s over = s.passed (has_looked t.reached over)

-- and what the turn came to is so from its first view on
pub turned_since : (core round : ℕ) (Passed : ℕ → ℕ → Type 0) (first v : View) (t : TurnState) (turned : Turned) → HasComeSoFar core round Passed first t v → HasTurned t.core turned v v → HasTurned core turned first v
turned_since core round Passed first v t turned s h = subst (λ k. HasTurned k turned first v) s.same.core record {
  of_core = h.of_core;
  free = h.free;
  is_over = h.is_over;
  attempted = h.attempted;
  entries = h.entries;
  ended = h.ended;
  rest = s.rest;
}

-- a step that doesn't go on leaves the turn over
pub ended : (goes : Bool) (t u : TurnState) (v w : View) → Steps goes t u v w → goes ≡ false → IsOver t.reached → IsOver u.reached
ended true t u v w steps stops over = absurd (true≢false stops)
ended false t u v w steps stops over = subst (λ (x : TurnState). IsOver x.reached) (sym steps.untold) over
