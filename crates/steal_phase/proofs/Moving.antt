-- What an attempt makes of the cores that it touches, where a seat holds them.
use Rattle.std.proofs.Common.{◌≡◌, subst, ◌≢◌, ℕ, ◌<◌, ◌⊎◌, ◌||◌, eqb, Bool, true, false, cond, List, [], ◌∷◌, refl, sym, ap, ap₂, ◌∙◌, inl, inr, arith, eq-eqb, ne_eqb}
use Rattle.std.proofs.lemmas.Bool.Decides.{nat_tests}
use Rattle.std.proofs.lemmas.List.{append-nil}
use mathlib.Core.Logic.{dite}
use native.Mathlib.Decide.{ℕ_discrete}
use mathlib.Core.Option.{some}
use lib.ListN.{get_elem?}
use Rattle.sched_base.specs.declared.task.Task.{Task}
use Rattle.policy_tree.specs.Meaning.{Meaning}
use Rattle.round_model.specs.declared.entry.Entry.{Entry}
use Rattle.round_model.specs.declared.entry.Entry.TheVariants as entry
use Rattle.round_model.specs.declared.plan.Plan.{Plan}
use Rattle.round_model.specs.declared.state.ModelCore.{ModelCore}
use Rattle.round_model.specs.After.{effect, moved, stolen}
use Rattle.round_model.specs.Attempts.{attempt_on, steal_or_fail}
use Rattle.round_model.specs.Cores.{Cores}
use Rattle.round_model.specs.Entries.{touches}
use Rattle.round_model.specs.Moves.{handed_all, received_all, taken_from}
use Rattle.round_model.proofs.Moved.{unmoved_fail, unmoved_pass}
use Rattle.core_state.specs.Views.{CoreView}
use Rattle.core_table.specs.declared.views.HeldCore.{HeldCore}
use Rattle.core_table.specs.declared.views.View.{View}
use Rattle.core_table.specs.Views.{holding, meaning_in, taken}
use Rattle.core_table.specs.Told.{IsLocalIn}
use Rattle.core_table.specs.Pairs.{HasMovedTwo, holding_two, stacked}
use Rattle.core_table.specs.Public.{HasMoved, IsMoved}
use Rattle.core_table.proofs.TwoHeld.{first_place, second_place}
use Rattle.steal_phase.specs.Taking.{Steals, best_to_steal}

either_hits : (a b c : ℕ) → (eqb a c || eqb b c) ≡ true → (c ≡ a) ⊎ (c ≡ b)
either_hits a b c is = dite (ℕ_discrete a c)
    (λ first. inl (sym first))
    (λ other. inr (let alone : eqb b c ≡ true = sym (ap (λ x. x || eqb b c) (ne_eqb a c other)) ∙ is in grind (arith, nat_tests)))

-- an entry that touches two cores and no third
module _ (e : Entry) (a b : ℕ) (touched : (c : ℕ) → touches c e ≡ (eqb a c || eqb b c)) where
  pub touches_first : touches a e ≡ true
  touches_first = touched a ∙ ap (λ x. x || eqb b a) (eq-eqb a a refl)

  pub touches_second : touches b e ≡ true
  touches_second = touched b ∙ second (eqb a b)
    where
      second : (x : Bool) → (x || eqb b b) ≡ true
      second true = refl
      second false = eq-eqb b b refl

  -- once a seat holds both, in whatever order they were taken, and they are as the entry leaves them
  pub moves_two : (v : View) (y z y_now z_now : CoreView) → a ≢ b → v.held ≡ [] → a < v.plan.cores → b < v.plan.cores → IsMoved e (holding_two a y b z v) (taken v.plan.cores a y) y_now
      → IsMoved e (holding_two a y b z v) (taken v.plan.cores b z) z_now → HasMovedTwo e (holding_two a y b z v) a y_now b z_now
  moves_two v y z y_now z_now apart free inside above first second =
      let one : HeldCore = taken v.plan.cores a y in let other : HeldCore = taken v.plan.cores b z in
      record {
        first = one;
        second = other;
        only = λ k. stacked a b one other (free k);
        first_core = refl;
        first_is = first;
        second_core = refl;
        second_is = second;
        apart = apart;
        there = (inside, above);
        first_touched = touches_first;
        second_touched = touches_second;
        alone = λ d is. either_hits a b d (sym (touched d) ∙ is);
      }

-- the entry of an attempt touches thief and victim alone
touches_two : (c a b : ℕ) (reads threads : List ℕ) → touches c (steal_or_fail a b reads threads) ≡ (eqb a c || eqb b c)
unfolding touches
touches_two c a b reads [] = refl
touches_two c a b reads (id ∷ ids) = refl

module _ (a b : ℕ) (reads threads : List ℕ) where
  touches_thief : touches a (steal_or_fail a b reads threads) ≡ true
  touches_thief = touches_first (steal_or_fail a b reads threads) a b (λ c. touches_two c a b reads threads)

  touches_victim : touches b (steal_or_fail a b reads threads) ≡ true
  touches_victim = touches_second (steal_or_fail a b reads threads) a b (λ c. touches_two c a b reads threads)

-- where no thread is taken both are as they were
pub none_come : (core : ModelCore) → received_all [] core ≡ core
unfolding received_all
none_come core = ap (λ (queue : List Task). let come : ModelCore = record core { queue = queue } in come) (append-nil core.queue)

pub none_leave : (core : ModelCore) → handed_all [] core ≡ core
unfolding handed_all
none_leave core = refl

-- an attempt, at the thief and at the victim
module _ (p : Meaning) (plan : Plan) (round : ℕ) (m : Cores) (a b : ℕ) (reads : List ℕ) (apart : a ≢ b) where
  thief_gains : (threads : List ℕ) → moved p plan round (steal_or_fail a b reads threads) m a ≡ received_all (taken_from threads (m b).queue).found (m a)
  unfolding effect
  thief_gains [] = sym (none_come (m a) ∙ unmoved_fail p plan round m a b reads a)
  thief_gains (id ∷ ids) =
      let threads = id ∷ ids in let found = (taken_from threads (m b).queue).found in
      ap (λ x. cond x (stolen a b a threads (m b) (m a)) (m a)) (touches_thief a b reads threads)
      ∙ (ap (λ x. let left : ModelCore = cond x (handed_all threads (m a)) (m a) in cond (eqb a a) (received_all found left) left) (ne_eqb b a (λ e. apart (sym e)))
      ∙ ap (λ x. cond x (received_all found (m a)) (m a)) (eq-eqb a a refl))

  victim_loses : (threads : List ℕ) → moved p plan round (steal_or_fail a b reads threads) m b ≡ handed_all threads (m b)
  unfolding effect
  victim_loses [] = sym (none_leave (m b) ∙ unmoved_fail p plan round m a b reads b)
  victim_loses (id ∷ ids) =
      let threads = id ∷ ids in let found = (taken_from threads (m b).queue).found in
      ap (λ x. cond x (stolen a b b threads (m b) (m b)) (m b)) (touches_victim a b reads threads)
      ∙ (ap (λ x. let left : ModelCore = cond (eqb b b) (handed_all threads (m b)) (m b) in cond x (received_all found left) left) (ne_eqb a b apart)
      ∙ ap (λ x. cond x (handed_all threads (m b)) (m b)) (eq-eqb b b refl))

-- the seat holds thief and victim as y and z
module _ (v : View) (a b : ℕ) (y z : CoreView) (apart : a ≢ b) (i j : ℕ) (thief : get_elem? v.held i ≡ some (taken v.plan.cores a y)) (victim : get_elem? v.held j ≡ some (taken v.plan.cores b z)) (reads threads : List ℕ)
    (gained lost : CoreView) (takes : Steals threads y z gained lost) where
  thief_moved : IsMoved (steal_or_fail a b reads threads) v (taken v.plan.cores a y) gained
  thief_moved m agree =
      let own : m a ≡ y.core = agree i (taken v.plan.cores a y) thief in let other : m b ≡ z.core = agree j (taken v.plan.cores b z) victim in
      takes.gained ∙ (λ k. record y {
        core = (ap₂ (λ (x y : ModelCore). received_all (taken_from threads x.queue).found y) (sym other) (sym own)
            ∙ sym (thief_gains (meaning_in v) v.plan v.round m a b reads apart threads)) k;
      })

  victim_moved : IsMoved (steal_or_fail a b reads threads) v (taken v.plan.cores b z) lost
  victim_moved m agree =
      let other : m b ≡ z.core = agree j (taken v.plan.cores b z) victim in
      takes.lost ∙ (λ k. record z { core = (ap (handed_all threads) (sym other) ∙ sym (victim_loses (meaning_in v) v.plan v.round m a b reads apart threads)) k })

-- thief and victim are held, in whatever order they were taken
pub moved_both : (v : View) (a b : ℕ) (y z gained lost : CoreView) → a ≢ b → v.held ≡ [] → (reads threads : List ℕ) → Steals threads y z gained lost → a < v.plan.cores → b < v.plan.cores
    → HasMovedTwo (steal_or_fail a b reads threads) (holding_two a y b z v) a gained b lost
moved_both v a b y z gained lost apart free reads threads takes inside above =
    let w : View = holding_two a y b z v in let thief : HeldCore = taken v.plan.cores a y in let victim : HeldCore = taken v.plan.cores b z in
    let own = first_place a b thief victim v.held in let other = second_place a b thief victim v.held in
    moves_two (steal_or_fail a b reads threads) a b (λ c. touches_two c a b reads threads) v y z gained lost apart free inside above
    (thief_moved w a b y z apart own.0 other.0 own.1 other.1 reads threads gained lost takes) (victim_moved w a b y z apart own.0 other.0 own.1 other.1 reads threads gained lost takes)

-- an attempt without a choice leaves its core as it is
pub moved_pass : (v : View) (a : ℕ) (y : CoreView) (reads : List ℕ) → v.held ≡ [] → a < v.plan.cores → HasMoved (entry.Pass a reads) (holding a y v) a y
unfolding touches
moved_pass v a y reads free low =
    let w : View = holding a y v in
    record {
      of = taken v.plan.cores a y;
      only = λ k. taken v.plan.cores a y ∷ free k;
      core = refl;
      is = λ m agree. let own : m a ≡ y.core = agree 0 (taken v.plan.cores a y) refl in (λ k. record y { core = (sym own ∙ unmoved_pass (meaning_in w) w.plan w.round m a reads a) k });
      there = low;
      touched = eq-eqb a a refl;
      alone = λ d is. let same : a ≡ d = grind (arith, nat_tests) in sym same;
    }

-- the attempt is the model's in every state that has the two cores so
pub attempt_is : (p : Meaning) (plan : Plan) (a b : ℕ) (x y : ModelCore) (reads threads : List ℕ) → threads ≡ best_to_steal p plan a x b y → (m : Cores) → m a ≡ x → m b ≡ y
    → steal_or_fail a b reads threads ≡ attempt_on p plan m a reads b
attempt_is p plan a b x y reads threads is m first second =
    ap (steal_or_fail a b reads) (is ∙ ap₂ (λ (thief victim : ModelCore). best_to_steal p plan a thief b victim) (sym first) (sym second))

-- both by other names of the entry, the view and the cores
pub moved_as : (e f : Entry) (v w : View) (b c one other : ℕ) (y z : CoreView) → f ≡ e → w ≡ v → one ≡ b → other ≡ c → HasMovedTwo e v b y c z → HasMovedTwo f w one y other z
moved_as e f v w b c one other y z is view first second moved =
    subst (λ (x : Entry × View × ℕ × ℕ). HasMovedTwo x.0 x.1 x.2 y x.3 z) (λ i. (sym is i, sym view i, sym first i, sym second i)) moved

pub legal_as : (e f : Entry) (v w : View) → f ≡ e → w ≡ v → IsLocalIn v e → IsLocalIn w f
legal_as e f v w is view legal = subst (λ (x : View × Entry). IsLocalIn x.0 x.1) (λ i. (sym view i, sym is i)) legal
