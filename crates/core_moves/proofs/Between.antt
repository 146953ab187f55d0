-- Two cores of a list, of which one stands in its front and the other begins its back: both changed.
use Rattle.std.proofs.Common.{◌≡◌, ℕ, ◌-◌, ◌<◌, ℤ, List, ◌++◌, get_or, length, set, slice_get, Some, sym, ap, ap₂, ◌∙◌, subst, arith}
use Rattle.std.proofs.Math.ListN.{length-set}
use Rattle.std.proofs.lemmas.List.{get_or-append_right, get_or_append_left, set-append_left, set-append_right}
use Rattle.std.proofs.lemmas.Option.{same_Some, slice_get-get_or}
use Rattle.policy_tree.specs.Meaning.{Meaning}
use Rattle.round_model.specs.Attempts.{moves_of}
use Rattle.round_model.specs.Moves.{handed_all, received_all, taken_from}
use Rattle.core_state.specs.Views.{CoreView}
use Rattle.batch_moves.specs.Sides.{InEachPlan}
use Rattle.core_moves.specs.Code.Steals.{AreTaken}

module _ (cores front back : List CoreView) (n : ℕ) (whole : cores ≡ front ++ back) (len : length front ≡ n) where
  first_of_back : n - n ≡ 0
  first_of_back = omega arith

  -- what stands there
  pub front_there : (k : ℕ) (d : CoreView) → k < n → k < length cores → slice_get cores k ≡ Some (get_or front k d)
  front_there k d inside there =
      slice_get-get_or cores k d there ∙ ap Some (ap (λ (list : List CoreView). get_or list k d) whole ∙ get_or_append_left front back d k (omega arith))

  pub back_there : (d : CoreView) → n < length cores → slice_get cores n ≡ Some (get_or back 0 d)
  back_there d there =
      slice_get-get_or cores n d there
      ∙ ap Some (ap (λ (list : List CoreView). get_or list n d) whole ∙ (get_or-append_right front back n n d len (omega arith) ∙ ap (λ i. get_or back i d) first_of_back))

  -- the one in front changed first, or last
  pub set_front_first : (k : ℕ) (x y : CoreView) → k < n → set front k x ++ set back 0 y ≡ set (set cores k x) n y
  set_front_first k x y inside = sym (
      ap (λ (list : List CoreView). set (set list k x) n y) whole
      ∙ (ap (λ (list : List CoreView). set list n y) (set-append_left front back k x (omega arith))
      ∙ (set-append_right (set front k x) back n n y (length-set front k x ∙ len) (omega arith) ∙ ap (λ i. set front k x ++ set back i y) first_of_back)))

  pub set_front_last : (k : ℕ) (x y : CoreView) → k < n → set front k x ++ set back 0 y ≡ set (set cores n y) k x
  set_front_last k x y inside = sym (
      ap (λ (list : List CoreView). set (set list n y) k x) whole
      ∙ (ap (λ (list : List CoreView). set list k x) (set-append_right front back n n y len (omega arith) ∙ ap (λ i. front ++ set back i y) first_of_back)
      ∙ set-append_left front (set back 0 y) k x (omega arith)))

-- the threads went over, by what is told of the two cores under other names
pub taken_by : (p : Meaning) (own other : List ℤ) (a b : ℕ) (threads : List ℕ) (old new : List CoreView) (y z y_there z_there y_now z_now : CoreView)
    → slice_get old a ≡ Some y → slice_get old b ≡ Some z → slice_get old a ≡ Some y_there → slice_get old b ≡ Some z_there
    → InEachPlan own other (λ plan a v. threads ≡ moves_of p plan a v p.batch y_there.core z_there.core)
    → y_now ≡ record y_there { core = received_all (taken_from threads z_there.core.queue).found y_there.core } → z_now ≡ record z_there { core = handed_all threads z_there.core }
    → new ≡ set (set old a y_now) b z_now → AreTaken p own other a b threads old new y z
taken_by p own other a b threads old new y z y_there z_there y_now z_now at there at_too there_too moves come left is =
    let first : y_there ≡ y = same_Some y_there y (sym at_too ∙ at) in let second : z_there ≡ z = same_Some z_there z (sym there_too ∙ there) in
    record {
      moves = subst (λ (x : CoreView). InEachPlan own other (λ plan a v. threads ≡ moves_of p plan a v p.batch x.core z.core)) first
          (subst (λ (x : CoreView). InEachPlan own other (λ plan a v. threads ≡ moves_of p plan a v p.batch y_there.core x.core)) second moves);
      cores = is ∙ ap₂ (λ (x w : CoreView). set (set old a x) b w)
          (come ∙ ap₂ (λ (x w : CoreView). let u : CoreView = record x { core = received_all (taken_from threads w.core.queue).found x.core } in u) first second)
          (left ∙ ap (λ (w : CoreView). let u : CoreView = record w { core = handed_all threads w.core } in u) second);
    }
