-- What follows from two cores that a seat holds, whichever has the lower number.
use Rattle.std.proofs.Common.{◌≡◌, ◌≢◌, ℕ, ◌<◌, true, false, cond, List, [], ◌∷◌, ◌++◌, map, length, refl, sym, ap, ◌∙◌, subst, arith, eq-eqb, ne_eqb, suc}
use Rattle.std.specs.Prelude.{nat_lt}
use Rattle.std.proofs.lemmas.Bool.Decides.{nat_tests}
use mathlib.Core.Logic.{dite}
use mathlib.Core.Option.{some}
use native.Mathlib.Decide.{dec_lt}
use lib.ListN.{get_elem?}
use Rattle.round_model.specs.declared.entry.Entry.{Entry}
use Rattle.round_model.specs.After.{after}
use Rattle.round_model.specs.Entries.{touches}
use Rattle.core_state.specs.Logs.{logged}
use Rattle.core_state.specs.Views.{CoreView}
use Rattle.core_table.specs.declared.views.HeldCore.{HeldCore}
use Rattle.core_table.specs.declared.views.Note.{Note}
use Rattle.core_table.specs.declared.views.View.{View}
use Rattle.core_table.specs.Pairs.{HasMovedTwo, HasTwo, MayGiveTwo, holding_two, stacked}
use Rattle.core_table.specs.Plays.{Draws}
use Rattle.core_table.specs.Public.{HasCore, publishing}
use Rattle.core_table.specs.Views.{held_grown, holding, meaning_in, note_of_core, published, taken, version_of}
use Rattle.core_table.proofs.Known.{moved_grown}
use Rattle.core_table.proofs.Publishing.{published_core, published_state}

-- a core that is held is noted
pub notes_held : (c : ℕ) (y : CoreView) (v : View) → c < v.plan.cores → (holding c y v).notes ≡ note_of_core v.start c y ∷ v.notes
notes_held c y v low = ap (λ b. cond b v.notes (note_of_core v.start c y ∷ v.notes)) (ne_eqb c v.plan.cores (λ e. omega arith))

below_tests : (b c : ℕ) → b < c → nat_lt b c ≡ true
below_tests b c up = grind (arith, nat_tests)

above_tests : (b c : ℕ) → c < b → nat_lt b c ≡ false
above_tests b c down = grind (arith, nat_tests)

module _ {X : Type 0} (b c : ℕ) (x y : X) (before : List X) where
  -- where each of the two stands
  pub first_place : (i : ℕ) × (get_elem? (stacked b c x y before) i ≡ some x)
  first_place = elim (nat_lt b c) as (λ t. (i : ℕ) × (get_elem? (cond t (y ∷ x ∷ before) (x ∷ y ∷ before)) i ≡ some x)) [ true ↦ (1, refl) | false ↦ (0, refl) ]

  pub second_place : (i : ℕ) × (get_elem? (stacked b c x y before) i ≡ some y)
  second_place = elim (nat_lt b c) as (λ t. (i : ℕ) × (get_elem? (cond t (y ∷ x ∷ before) (x ∷ y ∷ before)) i ≡ some y)) [ true ↦ (0, refl) | false ↦ (1, refl) ]

  pub stacked_up : b < c → stacked b c x y before ≡ y ∷ x ∷ before
  stacked_up up = ap (λ t. cond t (y ∷ x ∷ before) (x ∷ y ∷ before)) (below_tests b c up)

  pub stacked_down : c < b → stacked b c x y before ≡ x ∷ y ∷ before
  stacked_down down = ap (λ t. cond t (y ∷ x ∷ before) (x ∷ y ∷ before)) (above_tests b c down)

  pub stacked_over : stacked b c x y before ≡ stacked b c x y [] ++ before
  stacked_over =
      elim (nat_lt b c) as (λ t. cond t (y ∷ x ∷ before) (x ∷ y ∷ before) ≡ cond t (y ∷ x ∷ []) (x ∷ y ∷ []) ++ before) [ true ↦ refl | false ↦ refl ]

  pub stacked_length : length (stacked b c x y before) ≡ suc (suc (length before))
  stacked_length = elim (nat_lt b c) as (λ t. length (cond t (y ∷ x ∷ before) (x ∷ y ∷ before)) ≡ suc (suc (length before))) [ true ↦ refl | false ↦ refl ]

pub map_stacked : {X Y : Type 0} (f : X → Y) (b c : ℕ) (x y : X) → map f (stacked b c x y []) ≡ stacked b c (f x) (f y) []
map_stacked f b c x y =
    elim (nat_lt b c) as (λ t. map f (cond t (y ∷ x ∷ []) (x ∷ y ∷ [])) ≡ cond t (f y ∷ f x ∷ []) (f x ∷ f y ∷ [])) [ true ↦ refl | false ↦ refl ]

-- both are held, whichever was taken first
module _ (v : View) (b c : ℕ) (y z : CoreView) (inside : b < v.plan.cores) (above : c < v.plan.cores) where
  pub held_up : b < c → holding c z (holding b y v) ≡ holding_two b y c z v
  held_up up =
      let held = stacked_up b c (taken v.plan.cores b y) (taken v.plan.cores c z) v.held up in
      let more = notes_held c z (holding b y v) above ∙ ap (λ (l : List Note). note_of_core v.start c z ∷ l) (notes_held b y v inside) in
      let notes = more ∙ sym (stacked_up b c (note_of_core v.start b y) (note_of_core v.start c z) v.notes up) in
      λ i. record v { held = sym held i; notes = notes i }

  pub held_down : c < b → holding b y (holding c z v) ≡ holding_two b y c z v
  held_down down =
      let held = stacked_down b c (taken v.plan.cores b y) (taken v.plan.cores c z) v.held down in
      let more = notes_held b y (holding c z v) inside ∙ ap (λ (l : List Note). note_of_core v.start b y ∷ l) (notes_held c z v above) in
      let notes = more ∙ sym (stacked_down b c (note_of_core v.start b y) (note_of_core v.start c z) v.notes down) in
      λ i. record v { held = sym held i; notes = notes i }

  pub held_either : b ≢ c → (P : View → Type 0) → P (holding c z (holding b y v)) → P (holding b y (holding c z v)) → P (holding_two b y c z v)
  held_either apart P up down = dite (dec_lt b c) (λ low. subst P (held_up low) up) (λ most. subst P (held_down (omega (arith, apart, most))) down)

-- of two held cores, the first
pub first_has : (v : View) (b : ℕ) (y : CoreView) (c : ℕ) (z : CoreView) → HasTwo v b y c z → HasCore v b y
first_has v b y c z two = let at = first_place b c two.first two.second [] in record {
  place = at.0;
  of = two.first;
  there = ap (λ (l : List HeldCore). get_elem? l at.0) two.held ∙ at.1;
  core = two.first_core;
  state = two.first_state;
}

-- and the second once the first is published
pub second_still : (v w : View) (b : ℕ) (y : CoreView) (c : ℕ) (z : CoreView) → HasTwo v b y c z → w ≡ publishing b y v → HasCore w c z
second_still v w b y c z two is =
    let x : HeldCore = published v.plan.cores b two.first in let u : HeldCore = published v.plan.cores b two.second in let at = second_place b c x u [] in
    let held : w.held ≡ stacked b c x u [] = ap (λ (t : View). t.held) is ∙ (ap (map (published v.plan.cores b)) two.held ∙ map_stacked (published v.plan.cores b) b c two.first two.second) in
    record {
      place = at.0;
      of = u;
      there = ap (λ (l : List HeldCore). get_elem? l at.0) held ∙ at.1;
      core = published_core v.plan.cores b two.second ∙ two.second_core;
      state = published_state v.plan.cores b two.second ∙ two.second_state;
    }

-- a held core whose word was written is as its word says it, also once the word of another was written
taken_once : (n c : ℕ) (x : HeldCore) (y : CoreView) → x.core ≡ c → x.state ≡ y → published n c x ≡ taken n c y
taken_once n c x y core state =
    ap (λ t. cond t (record x { version = version_of n x.core x.state }) x) (eq-eqb x.core c core)
    ∙ (λ i. record { core = core i; state = state i; version = version_of n (core i) (state i) })

untouched : (n c : ℕ) (x : HeldCore) → x.core ≢ c → published n c x ≡ x
untouched n c x other = ap (λ t. cond t (record x { version = version_of n x.core x.state }) x) (ne_eqb x.core c other)

pub both_published : (v w u : View) (b : ℕ) (y : CoreView) (c : ℕ) (z : CoreView) → HasTwo v b y c z → b ≢ c → w ≡ publishing b y v → u ≡ publishing c z w → MayGiveTwo u b y c z
both_published v w u b y c z two apart first second =
    let n = v.plan.cores in
    let held = ap (map (published n c)) (ap (map (published n b)) two.held ∙ map_stacked (published n b) b c two.first two.second)
    ∙ map_stacked (published n c) b c (published n b two.first) (published n b two.second) in
    let own = ap (published n c) (taken_once n b two.first y two.first_core two.first_state) ∙ untouched n c (taken n b y) apart in
    let other = ap (published n c) (untouched n b two.second (λ same. apart (sym same ∙ two.second_core))) ∙ taken_once n c two.second z two.second_core two.second_state in
    let whole : u ≡ publishing c z (publishing b y v) = second ∙ ap (publishing c z) first in
    subst (λ (t : View). MayGiveTwo t b y c z) (sym whole) (held ∙ (λ i. stacked b c (own i) (other i) []))

-- the entry was drawn: both values, with the entry in their logs, are held
pub drawn_two : (e : Entry) (v v' : View) (n : ℕ) (d : Draws e v n v') (b : ℕ) (y : CoreView) (c : ℕ) (z : CoreView) → HasMovedTwo e v b y c z
    → HasTwo v' b (record y { log = y.log ++ logged n e ∷ [] }) c (record z { log = z.log ++ logged n e ∷ [] })
drawn_two e v v' n d b y c z two =
    let grow : HeldCore → HeldCore = held_grown v.round n e (after (meaning_in v) v.plan d.history) v in
    record {
      first = grow two.first;
      second = grow two.second;
      held = ap (λ (w : View). w.held) d.view ∙ (ap (map grow) two.only ∙ map_stacked grow b c two.first two.second);
      first_core = two.first_core;
      first_state = moved_grown e v v' n d two.first y two.first_is (subst (λ k. k < v.plan.cores) (sym two.first_core) two.there.0)
          (subst (λ k. touches k e ≡ true) (sym two.first_core) two.first_touched);
      second_core = two.second_core;
      second_state = moved_grown e v v' n d two.second z two.second_is (subst (λ k. k < v.plan.cores) (sym two.second_core) two.there.1)
          (subst (λ k. touches k e ≡ true) (sym two.second_core) two.second_touched);
    }
