-- What a seat has read of all cores, and what follows from it.
use Rattle.std.specs.Prelude.{◌≡◌, ◌≢◌, ◌↔◌, ℕ, ◌+◌, ◌<◌, ◌≤◌, List, [], ◌++◌, length, slice_index, IfSome, None, Some}
use mathlib.Core.Option.{some}
use lib.ListN.{get_elem?}
use Rattle.policy_tree.specs.Meaning.{PlaceTree, here, least}
use Rattle.policy_eval.specs.declared.env.CoreValues.{CoreValues}
use Rattle.round_model.specs.declared.state.CountAndLoad.{CountAndLoad}
use Rattle.round_model.specs.Choices.{candidates_of, choice_of, target_of}
use Rattle.round_model.specs.Reads.{values_of}
use Rattle.core_table.specs.declared.views.Note.{Note}
use Rattle.core_table.specs.declared.views.View.{View}
use Rattle.core_table.specs.Views.{meaning_in, noted}
use Rattle.core_table.specs.Told.{Each}
use Rattle.select_phase.specs.declared.looks.Look.{Look}

-- nothing but notes has come to the seat
pub record HasMoreNotes (before now : View) : Type 0 where
  pub more : List Note
  pub is : now ≡ record before { notes = more ++ before.notes }

-- the seat read this of the core at that position
pub record HasRead (v : View) (c at : ℕ) (seen : CountAndLoad) : Type 0 where
  pub place : ℕ
  pub there : get_elem? v.notes place ≡ some (noted c at seen)

-- the k-th read is that of core k, of which the seat read this
pub record HasReadAll (v : View) (reads : List ℕ) (seen : ℕ → CountAndLoad) : Type 0 where
  pub one_each : length reads ≡ v.plan.cores
  pub each : (c : ℕ) → c < v.plan.cores → HasRead v c (slice_index reads c) (seen c)

-- no read is earlier than what the seat knew of its core before
abbrev pub AreLate : View → List ℕ → Type 0
AreLate before reads = Each (λ x. x.core < length reads → x.at ≤ slice_index reads x.core) before.notes

-- no more was read than these
abbrev pub AreAll : (before now : View) → List ℕ → Type 0
AreAll before now reads = length now.notes ≡ length reads + length before.notes

-- one of the seat's newest notes, of which we look at so many, is of the core at that position
pub record IsAmongLast (v : View) (many c at : ℕ) : Type 0 where
  pub place : ℕ
  pub newest : place < many
  pub seen : CountAndLoad
  pub there : get_elem? v.notes place ≡ some (noted c at seen)

-- these are the reads that the seat made last: as many newest notes as they are have each of them
abbrev pub AreLast : View → List ℕ → Type 0
AreLast v reads = (c : ℕ) → c < length reads → IsAmongLast v (length reads) c (slice_index reads c)

-- what a policy may ask of each core, by what was read
abbrev pub values_read : View → (ℕ → CountAndLoad) → ℕ → CoreValues
values_read v seen c = values_of v.plan c (seen c)

-- the look has a read of each core, and the choice that the model makes by them. There is none where the filter holds
-- for no other core
pub record Looked (v : View) (look : Look) : Type 0 where
  pub seen : ℕ → CountAndLoad
  pub core : look.by < v.plan.cores
  pub read : HasReadAll v look.reads seen
  pub choice : look.choice ≡ choice_of (meaning_in v) v.plan.cores (values_read v seen) look.by
  pub none : (look.choice ≡ None) ↔ (candidates_of (meaning_in v) v.plan.cores (values_read v seen) look.by ≡ [])
  pub other : IfSome look.choice (λ c. (c < v.plan.cores) × (c ≢ look.by))

-- what is read for a placement
abbrev pub ReadFor : PlaceTree → View → List ℕ → (ℕ → CountAndLoad) → Type 0
ReadFor here v reads seen = reads ≡ []
ReadFor (least e) v reads seen = HasReadAll v reads seen

-- the core places a thread on the core `at`, as the model does by these reads
pub record Placed (v : View) (core at : ℕ) (reads : List ℕ) : Type 0 where
  pub seen : ℕ → CountAndLoad
  pub read : ReadFor (meaning_in v).place v reads seen
  pub target : target_of (meaning_in v) v.plan.cores (values_read v seen) core ≡ Some at
  pub there : at < v.plan.cores
