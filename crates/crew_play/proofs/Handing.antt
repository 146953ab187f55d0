-- Hands are dealt and gathered one by one.
use Rattle.std.proofs.Common.{◌≡◌, ℕ, zero, suc, ◌+◌, ◌-◌, ◌<◌, ◌≤◌, List, [], ◌∷◌, map, length, get_or, Some, refl, sym, ap, ◌∙◌, subst, arith}
use Rattle.std.specs.List.{list_any}
use Rattle.core_state.specs.declared.logged.Logged.{Logged}
use Rattle.round_model.specs.Entries.{lets_in}
use Rattle.round_model.specs.declared.plan.Plan.{Plan}
use Rattle.core_table.specs.declared.seat.Seat.{Seat}
use Rattle.core_table.specs.declared.seat.Table.{Table}
use Rattle.core_table.specs.declared.views.View.{View}
use Rattle.core_table.specs.Public.{IsOf, plan_of, view_of}
use Rattle.core_table.specs.Views.{leaving}
use Rattle.core_calls.specs.declared.turned.Turned.{Turned}
use Rattle.core_calls.specs.Turns.{HasTurned, IsFresh}
use Rattle.parallel_play.specs.declared.sums.Tally.{Tally}
use Rattle.parallel_play.specs.Playing.{IdleFrom, Joins, Played}
use Rattle.parallel_play.specs.Tallies.{CountsTurn}
use Rattle.parallel_play.proofs.Seating.{left_idle, played_more}
use Rattle.turn_steps.specs.declared.reached.Reached.{Reached}
use Rattle.turn_steps.specs.declared.reached.Reached.TheVariants as reached
use Rattle.turn_steps.specs.Reaches.{IsOver}
use Rattle.turn_steps.specs.States.{TurnState, first_state}
use Rattle.turn_steps.specs.Views.{told_of}
use Rattle.crew_play.specs.declared.hands.Hand.{Hand}
use Rattle.crew_play.specs.Hands.{AllOver, IsCrew, IsHandOf, Nobody, dealt, turn_in}
use Rattle.core_calls.specs.Stepping.{HasLooked, IsPlaying, IsSameTurn}

-- a turn that was told nothing, by a seat that drew nothing
pub fresh_playing : (core : ℕ) (v : View) (t : TurnState) → IsFresh v core → t ≡ first_state v.plan core v.round → IsPlaying t v
fresh_playing core v t fresh is = subst (λ (x : TurnState). IsPlaying x v) (sym is) record {
  told = record {
    of_core = fresh.of_core;
    round = refl;
    own = ap (λ (l : List Logged). map told_of (map (λ (x : Logged). x.entry) l)) fresh.own;
    entered = λ id. ap (λ (l : List Logged). list_any (lets_in id) (map (λ (x : Logged). x.entry) l)) fresh.own;
    marked = λ behind. absurd behind;
  };
  of_plan = refl;
  all = λ behind. absurd behind;
  free = fresh.free;
  look = tt;
}

pub fresh_hand : (table : Table) (core round : ℕ) (seat : Seat) (h : Hand) → h.seat ≡ Some seat → turn_in h ≡ first_state (plan_of table) core round → IsOf table seat → IsFresh (view_of seat) core
    → round ≡ (view_of seat).round → core < (plan_of table).cores → IsHandOf table Nobody core round h
fresh_hand table core round seat h there is of fresh same low =
    let plan : (view_of seat).plan ≡ plan_of table = of.opening.plan in record {
      hand = record {
        seat = seat;
        there = there;
        of = of;
        playing = fresh_playing core (view_of seat) (turn_in h) fresh (is ∙ (λ i. first_state (sym plan i) core (same i)));
        low = subst (λ (t : TurnState). t.core < (plan_of table).cores) (sym is) low;
        passed = λ looked. absurd (subst (λ (t : TurnState). HasLooked t.reached) is looked);
      };
      core_is = ap (λ (t : TurnState). t.core) is;
      round_is = ap (λ (t : TurnState). t.round) is;
    }

-- with so many seats out the cores behind are idle
pub dealt_idle : (first : ℕ) (v : View) → IdleFrom first v → (many : ℕ) → IdleFrom (first + many) (dealt first many v)
dealt_idle first v idle zero = subst (λ k. IdleFrom k v) (omega arith) idle
dealt_idle first v idle (suc many) =
    subst (λ k. IdleFrom k (leaving (first + many) (dealt first many v))) (omega arith) (left_idle (first + many) (dealt first many v) (dealt_idle first v idle many))

pub dealt_cores : (first : ℕ) (v : View) (many : ℕ) → (dealt first many v).plan ≡ v.plan
dealt_cores first v zero = refl
dealt_cores first v (suc many) = dealt_cores first v many

-- one more seat is back
pub gathered : (first many : ℕ) (start counted after : Tally) (v w own x : View) (turned : Turned) → IdleFrom first v → Played (first + suc many) start counted (dealt first (suc many) v) w
    → HasTurned (first + many) turned own own → Joins w own x → CountsTurn turned counted after → first + many < v.plan.cores → Played (first + many) start after (dealt first many v) x
gathered first many start counted after v w own x turned idle played done joins adds low =
    let here = dealt_idle first v idle many in
    played_more (first + many) start counted after (dealt first many v) (dealt first (suc many) v) w own x turned here
    (record { view = refl; idle = left_idle (first + many) (dealt first many v) here })
    (subst (λ k. Played k start counted (dealt first (suc many) v) w) (omega arith) played)
    own done joins adds (subst (λ (q : Plan). first + many < q.cores) (sym (dealt_cores first v many)) low)

-- a hand is that of its own core
pub own_core : (table : Table) (Passed : ℕ → ℕ → Type 0) (core round : ℕ) (h : Hand) → IsHandOf table Passed core round h → IsHandOf table Passed (turn_in h).core round h
own_core table Passed core round h is = record { hand = is.hand; core_is = refl; round_is = is.round_is }

-- who have passed by one account have by another that it gives
pub crew_as : (table : Table) (P Q : ℕ → ℕ → Type 0) (round first : ℕ) (hands : List Hand) → ((core at : ℕ) → P core at → Q core at) → IsCrew table P round first hands → IsCrew table Q round first hands
crew_as table P Q round first hands gives crew k d low =
    let is = crew k d low in record {
      hand = record { seat = is.hand.seat; there = is.hand.there; of = is.hand.of; playing = is.hand.playing; low = is.hand.low; passed = λ looked. gives (turn_in (get_or hands k d)).core (turn_in (get_or hands k d)).round (is.hand.passed looked) };
      core_is = is.core_is;
      round_is = is.round_is;
    }

item_at : {X : Type 0} (xs : List X) (k : ℕ) → k < length xs → X
item_at [] k low = absurd (omega arith)
item_at (x ∷ xs) k low = x

looked_over : (r : Reached) → IsOver r → HasLooked r
looked_over reached.Threads over = absurd over
looked_over reached.NothingDue over = absurd over
looked_over (reached.Worked did) over = absurd over
looked_over (reached.Looked did look) over = tt
looked_over (reached.Acted did look) over = tt

-- the cores whose turns are over have passed
pub crew_passed : (table : Table) (P : ℕ → ℕ → Type 0) (round first : ℕ) (hands : List Hand) → IsCrew table P round first hands → AllOver hands → (core : ℕ) → first ≤ core → core < first + length hands → P core round
crew_passed table P round first hands crew over core late early =
    let k : ℕ = core - first in let low : k < length hands = omega arith in let d : Hand = item_at hands k low in let is = crew k d low in
    subst (λ r. P core r) is.round_is
    (subst (λ a. P a (turn_in (get_or hands k d)).round) (is.core_is ∙ (let same : first + k ≡ core = omega arith in same)) (is.hand.passed (looked_over (turn_in (get_or hands k d)).reached (over k d low))))

pub dealt_round : (first : ℕ) (v : View) (many : ℕ) → (dealt first many v).round ≡ v.round
dealt_round first v zero = refl
dealt_round first v (suc many) = dealt_round first v many

-- who has passed before a step has passed behind it
pub same_passed : (P : ℕ → ℕ → Type 0) (t u : TurnState) → IsSameTurn t u → (HasLooked u.reached → P t.core t.round) → HasLooked u.reached → P u.core u.round
same_passed P t u same passed looked = subst (λ k. P k u.round) (sym same.core) (subst (λ r. P t.core r) (sym same.round) (passed looked))
