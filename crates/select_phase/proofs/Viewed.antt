-- What was read stays known, and it is what any scene of the view has: so choice and target are the model's there.
use Rattle.std.proofs.Common.{◌≡◌, ℕ, ◌+◌, ◌<◌, List, [], ◌∷◌, ◌++◌, length, sym, ap, ◌∙◌, subst, arith, slice_index}
use Rattle.std.proofs.lemmas.List.{get_or_default}
use lib.ListN.{get_elem?}
use Rattle.policy_tree.specs.Meaning.{Meaning, PlaceTree, here, least}
use Rattle.round_model.specs.declared.plan.Plan.{Plan}
use Rattle.round_model.specs.declared.state.CountAndLoad.{CountAndLoad}
use Rattle.round_model.specs.Choices.{choice_of, target_by, target_of}
use Rattle.round_model.specs.Reads.{IsReadOf, ReadsFit, read_values, values_of}
use Rattle.round_model.specs.Rows.{IsPlacement, PlacementReads}
use Rattle.round_model.specs.Scenes.{Scene}
use Rattle.round_model.proofs.Outcomes.{choice_same, target_same}
use Rattle.core_state.specs.Views.{CoreView}
use Rattle.core_table.specs.declared.views.Note.{Note}
use Rattle.core_table.specs.declared.views.View.{View}
use Rattle.core_table.specs.Views.{holding, meaning_in, note_of_core, noted}
use Rattle.core_table.specs.Told.{IsAsViewed, IsNoteOf}
use Rattle.core_table.proofs.TwoHeld.{notes_held}
use Rattle.select_phase.specs.declared.looks.Look.{Look}
use Rattle.select_phase.specs.Seen.{HasRead, HasReadAll, Looked, Placed, ReadFor, values_read}
use Rattle.select_phase.proofs.Reading.{behind}

-- a seat with more notes has read it still
pub still_read : (v w : View) (more : List Note) (c at : ℕ) (seen : CountAndLoad) → w.notes ≡ more ++ v.notes → HasRead v c at seen → HasRead w c at seen
still_read v w more c at seen is r = record {
  place = length more + r.place;
  there = ap (λ (l : List Note). get_elem? l (length more + r.place)) is ∙ (behind more v.notes r.place ∙ r.there);
}

pub still_all : (v w : View) (more : List Note) (reads : List ℕ) (seen : ℕ → CountAndLoad) → w.plan ≡ v.plan → w.notes ≡ more ++ v.notes → HasReadAll v reads seen → HasReadAll w reads seen
still_all v w more reads seen plan is all =
    let cores = ap (λ (p : Plan). p.cores) plan in
    record { one_each = all.one_each ∙ sym cores; each = λ c low. still_read v w more c (slice_index reads c) (seen c) is (all.each c (omega arith)) }

-- once it holds a core, too
pub held_all : (c : ℕ) (y : CoreView) (v : View) (reads : List ℕ) (seen : ℕ → CountAndLoad) → c < v.plan.cores → HasReadAll v reads seen → HasReadAll (holding c y v) reads seen
held_all c y v reads seen low all = still_all v (holding c y v) (note_of_core v.start c y ∷ []) reads seen (λ i. v.plan) (notes_held c y v low) all

module _ (v : View) (s : Scene) (viewed : IsAsViewed v s) (reads : List ℕ) (seen : ℕ → CountAndLoad) where
  module _ (all : HasReadAll v reads seen) where
    note_is : (c : ℕ) → c < v.plan.cores → IsNoteOf s (noted c (slice_index reads c) (seen c))
    note_is c low = let r = all.each c low in viewed.notes r.place (noted c (slice_index reads c) (seen c)) r.there

    pub reads_fit : ReadsFit v.plan.cores s.start s.position reads
    reads_fit = record {
      one_each = all.one_each;
      each = λ c d inside.
          let low : c < v.plan.cores = omega (arith, all.one_each) in
          subst (IsReadOf s.start s.position) (get_or_default reads c 0 d inside) (record { in_round = (note_is c low).in_round; before_entry = (note_is c low).before });
    }

    pub values_are : (c : ℕ) → c < v.plan.cores → read_values v.plan s.seen reads c ≡ values_read v seen c
    values_are c low = ap (values_of v.plan c) (note_is c low).seen

    pub choice_is : (p : Meaning) (a : ℕ) → a < v.plan.cores → choice_of p v.plan.cores (read_values v.plan s.seen reads) a ≡ choice_of p v.plan.cores (values_read v seen) a
    choice_is p a own = choice_same p v.plan.cores (read_values v.plan s.seen reads) (values_read v seen) values_are a own

  fit_for : (rule : PlaceTree) → ReadFor rule v reads seen → PlacementReads rule v.plan s reads
  fit_for here none = none
  fit_for (least e) all = reads_fit all

  target_for : (p : Meaning) (a : ℕ) (rule : PlaceTree) → p.place ≡ rule → ReadFor rule v reads seen
      → target_of p v.plan.cores (read_values v.plan s.seen reads) a ≡ target_of p v.plan.cores (values_read v seen) a
  unfolding target_of
  target_for p a here is none =
      ap (λ rule. target_by rule v.plan.cores (read_values v.plan s.seen reads) a) is ∙ sym (ap (λ rule. target_by rule v.plan.cores (values_read v seen) a) is)
  target_for p a (least e) is all = target_same p v.plan.cores (read_values v.plan s.seen reads) (values_read v seen) (values_are all) a

-- what was placed is a placement of the model
pub placement_is : (v : View) (s : Scene) (core at : ℕ) (reads : List ℕ) → IsAsViewed v s → Placed v core at reads → IsPlacement (meaning_in v) v.plan s core at reads
placement_is v s core at reads viewed placed = record {
  read = fit_for v s viewed reads placed.seen (meaning_in v).place placed.read;
  target = target_for v s viewed reads placed.seen (meaning_in v) core (meaning_in v).place (λ i. (meaning_in v).place) placed.read ∙ placed.target;
}

read_for_held : (c : ℕ) (y : CoreView) (v : View) (rule : PlaceTree) (reads : List ℕ) (seen : ℕ → CountAndLoad) → c < v.plan.cores → ReadFor rule v reads seen → ReadFor rule (holding c y v) reads seen
read_for_held c y v here reads seen low none = none
read_for_held c y v (least e) reads seen low all = held_all c y v reads seen low all

-- a core that is held after a look or a placement changes neither
pub placed_held : (c : ℕ) (y : CoreView) (v : View) (core at : ℕ) (reads : List ℕ) → c < v.plan.cores → Placed v core at reads → Placed (holding c y v) core at reads
placed_held c y v core at reads low placed =
    record { seen = placed.seen; read = read_for_held c y v (meaning_in v).place reads placed.seen low placed.read; target = placed.target; there = placed.there }

pub looked_held : (c : ℕ) (y : CoreView) (v : View) (look : Look) → c < v.plan.cores → Looked v look → Looked (holding c y v) look
looked_held c y v look low looked = record {
  seen = looked.seen;
  core = looked.core;
  read = held_all c y v look.reads looked.seen low looked.read;
  choice = looked.choice;
  none = looked.none;
  other = looked.other;
}
