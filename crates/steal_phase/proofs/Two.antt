-- Two cores that a legal history leaves: what the calls on them ask.
use Rattle.std.proofs.Common.{◌≡◌, ◌≢◌, ℕ, ◌<◌, sym, subst}
use Rattle.policy_tree.specs.Meaning.{Meaning}
use Rattle.round_model.specs.declared.plan.Plan.{Plan}
use Rattle.core_state.specs.Views.{CoreView}
use Rattle.batch_moves.specs.Sides.{MayTake}
use Rattle.batch_moves.proofs.Reached.{may_take}
use Rattle.core_table.specs.declared.views.HeldCore.{HeldCore}
use Rattle.core_table.specs.declared.views.View.{View}
use Rattle.core_table.specs.Pairs.{holding_two}
use Rattle.core_table.specs.Views.{meaning_in, taken}
use Rattle.core_table.specs.Told.{IsKnown}
use Rattle.core_table.proofs.TwoHeld.{first_place, second_place}
use Rattle.steal_phase.specs.Taking.{AreTwo}

-- threads of the second may go over to the first
pub may_go_over : (p : Meaning) (plan : Plan) (a : ℕ) (y : CoreView) (b : ℕ) (z : CoreView) → AreTwo p plan a y b z → MayTake p y z
may_go_over p plan a y b z two =
    may_take p plan two.fits two.handlers two.history two.legal a b y z two.first two.second two.apart two.first_now.core (two.first_now.room two.first) two.second_now.core

-- two cores that a seat holds are such
pub two_held : (v : View) (q : Meaning) (plan : Plan) (b c first second : ℕ) (y z : CoreView) → meaning_in v ≡ q → v.plan ≡ plan → first ≡ b → second ≡ c → b ≢ c → b < v.plan.cores → c < v.plan.cores
    → IsKnown (holding_two b y c z v) → AreTwo q plan first y second z
two_held v q plan b c first second y z is_q is_plan is_first is_second apart inside above known =
    let one : HeldCore = taken v.plan.cores b y in let other : HeldCore = taken v.plan.cores c z in
    let here = first_place b c one other v.held in let there = second_place b c one other v.held in
    subst (λ (x : Meaning × Plan × ℕ × ℕ). AreTwo x.0 x.1 x.2 y x.3 z) (λ i. (is_q i, is_plan i, sym is_first i, sym is_second i)) (record {
      history = known.0;
      fits = known.1.fits;
      handlers = known.1.handlers;
      legal = known.1.legal;
      apart = apart;
      first = inside;
      second = above;
      first_now = (known.1.held here.0 one here.1).now;
      second_now = (known.1.held there.0 other there.1).now;
    })
