-- Threads go over from one core to another: what the call asks, and what it comes to.
use Rattle.std.proofs.Common.{◌≡◌, ◌≢◌, ℕ, ◌<◌, ℤ, true, List, [], ◌∷◌, ◌++◌, get_or, get_or-set_other, set, refl, sym, ap, ◌∙◌, subst}
use Rattle.sched_base.specs.declared.task.Task.{Task}
use Rattle.policy_tree.specs.Meaning.{Meaning}
use Rattle.policy_eval.specs.Obligations.{MeetsHandlerObligations}
use Rattle.round_model.specs.declared.entry.Entry.{Entry}
use Rattle.round_model.specs.declared.plan.Plan.{Plan}
use Rattle.round_model.specs.declared.state.ModelCore.{ModelCore}
use Rattle.round_model.specs.After.{after, round_of}
use Rattle.round_model.specs.Attempts.{moves_of, steal_or_fail}
use Rattle.round_model.specs.Updates.{updated}
use Rattle.round_model.specs.Cores.{Cores, consts_of}
use Rattle.round_model.specs.Fits.{Fits}
use Rattle.round_model.specs.Kinds.{is_attempt}
use Rattle.round_model.specs.Moves.{handed_all, received_all, taken_from}
use Rattle.round_model.proofs.Grows.{one_more}
use Rattle.round_model.proofs.Keeping.{updated_other}
use Rattle.core_state.specs.Views.{CoreView}
use Rattle.batch_moves.specs.Sides.{MayTake}
use Rattle.batch_moves.proofs.Reached.{may_take}
use Rattle.core_moves.specs.Code.Steals.{HoldsOfTwo, TakesBetween, taken_over}
use Rattle.core_moves.specs.Cores.{AreCoresOf, AreReached, CoresView, Shows, shown}
use Rattle.core_moves.proofs.Effects.{attempts}
use Rattle.core_moves.proofs.Shown.{shown_at, shown_item, shown_put, shown_same, shown_some}

-- an attempt on a core that was chosen is one
pub tries : (by from : ℕ) (reads threads : List ℕ) → is_attempt (steal_or_fail by from reads threads) ≡ true
tries by from reads [] = refl
tries by from reads (id ∷ ids) = refl

module _ (p : Meaning) (plan : Plan) (v : CoresView) (a b : ℕ) (first : a < plan.cores) (second : b < plan.cores) (apart : a ≢ b) where
  -- threads may go over between two cores that a legal history left
  pub may_take_two : Fits p plan → MeetsHandlerObligations p → AreReached p plan v → HoldsOfTwo v.cores a b (MayTake p)
  may_take_two fits handlers reached y z at there =
      let h = reached.0 in let m : Cores = after p plan h in
      let own = shown_at p plan h m v reached.1.are a y first at in let other = shown_at p plan h m v reached.1.are b z second there in
      may_take p plan fits handlers h reached.1.legal a b y z first second apart
      (ap (λ (y : CoreView). y.core) own) (ap (λ (y : CoreView). y.room) own) (ap (λ (y : CoreView). y.core) other)

  module _ (own other : List ℤ) (threads : List ℕ) (cores : List CoreView) (takes : TakesBetween p own other a b threads v.cores cores) where
    -- which threads those are
    pub threads_are : own ≡ consts_of plan a → other ≡ consts_of plan b → (h : List Entry) → AreCoresOf p plan h v
        → threads ≡ moves_of p plan a b p.batch (after p plan h a) (after p plan h b)
    threads_are own_is other_is h are =
        let m : Cores = after p plan h in
        (takes (shown p plan h m a) (shown p plan h m b) (shown_some p plan h m v are a first) (shown_some p plan h m v are b second)).moves plan a b own_is other_is

    -- the cores are those where they went over
    pub shown_over : (new : CoresView) → new ≡ record v { cores = cores } → (h : List Entry) (m : Cores) → Shows p plan h m v → Shows p plan h (taken_over m a b threads) new
    shown_over new is h m shows =
        let y : CoreView = shown p plan h m a in let z : CoreView = shown p plan h m b in
        let found : List Task = (taken_from threads (m b).queue).found in
        let come : ModelCore = received_all found (m a) in let left : ModelCore = handed_all threads (m b) in
        let y_now : CoreView = record y { core = come } in let z_now : CoreView = record z { core = left } in
        let taken = takes y z (shown_some p plan h m v shows a first) (shown_some p plan h m v shows b second) in
        let mid : CoresView = record v { cores = set v.cores a y_now } in
        let one : Shows p plan h (updated m a come) mid =
        shown_put p plan h m v mid shows a first y y_now (sym (shown_item p plan h m v shows a y first)) (received_all found) refl refl in
        let there : z ≡ get_or (set v.cores a y_now) b z = sym (get_or-set_other v.cores a b y_now z (λ same. apart (sym same)) ∙ shown_item p plan h m v shows b z second) in
        let two = shown_put p plan h (updated m a come) mid new one b second z z_now there (handed_all threads) refl (is ∙ ap (λ (list : List CoreView). let u : CoresView = record v { cores = list } in u) taken.cores) in
        subst (λ (x : ModelCore). Shows p plan h (updated (updated m a come) b (handed_all threads x)) new) (updated_other m a b come apart) two

  -- those behind the attempt, which isn't logged yet
  pub moved_over : (threads reads : List ℕ) (new : CoresView) (h : List Entry) → Shows p plan h (taken_over (after p plan h) a b threads) new
      → (e : Entry) → e ≡ steal_or_fail a b reads threads → Shows p plan h (after p plan (h ++ e ∷ [])) new
  moved_over threads reads new h shows e is =
      let m : Cores = after p plan h in let tried : Entry = steal_or_fail a b reads threads in
      subst (λ (x : Entry). Shows p plan h (after p plan (h ++ x ∷ [])) new) (sym is)
      (shown_same p plan h (taken_over m a b threads) (after p plan (h ++ tried ∷ [])) new
      (λ c inside. attempts p plan (round_of h) m a b threads reads apart c ∙ sym (ap (λ (k : Cores). k c) (one_more p plan h tried))) shows)
