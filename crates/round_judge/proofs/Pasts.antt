-- What is read off a past.
use Rattle.std.proofs.Common.{◌≡◌, ℕ, suc, ◌==◌, ◌<◌, ltb, Bool, true, false, not, ◌||◌, ◌&&◌, cond, List, [], ◌∷◌, map, filter, find, slice_get, get_or, Option, Some, None, option_map, All, refl, sym, ap, ap₂, ◌∙◌, arith}
use Rattle.std.specs.List.{list_all, list_any}
use Rattle.std.proofs.lemmas.Option.{get_or_from_slice_get}
use Rattle.std.proofs.lemmas.List.FromFn.{get_or-map-range_with_len}
use Rattle.policy_tree.specs.Meaning.{Meaning}
use Rattle.round_model.specs.declared.entry.Entry.{Entry}
use Rattle.round_model.specs.declared.plan.Plan.{Plan}
use Rattle.round_model.specs.declared.plan.Planned.{Planned}
use Rattle.round_model.specs.After.{round_of}
use Rattle.round_model.specs.Cores.{core_numbers}
use Rattle.round_model.specs.Legal.{has_ended, is_complete, is_due, rounds_begun}
use Rattle.round_model.specs.Scenes.{entering_next, has_attempted, is_entering, own_entries}
use Rattle.round_judge.specs.declared.past.Arrival.{Arrival}
use Rattle.round_judge.specs.declared.past.Past.{Past}
use Rattle.round_judge.specs.declared.past.Turn.{Turn}
use Rattle.round_judge.specs.Past.{Awaits, StandsFor, arrival_of, arrives_at, is_flagged, turn_of}

-- an alternative, and a condition more, by their first part
pub or-true : (a b : Bool) → a ≡ true → a ≡ (a || b)
or-true true b e = refl
or-true false b e = absurd (cc)

pub or-false : (a b : Bool) → a ≡ false → b ≡ (a || b)
or-false true b e = absurd (cc)
or-false false b e = refl

pub and-true : (a b : Bool) → a ≡ true → b ≡ (a && b)
and-true true b e = refl
and-true false b e = absurd (cc)

pub and-false : (a b : Bool) → a ≡ false → a ≡ (a && b)
and-false true b e = absurd (cc)
and-false false b e = refl

-- the first item
abbrev head_of : {X : Type 0} → List X → Option X
head_of [] = None
head_of (x ∷ xs) = Some x

list_all-turns : (history : List Entry) (cores : List ℕ) → list_all (λ (turn : Turn). turn.attempted) (map (turn_of history) cores) ≡ list_all (λ c. has_attempted (own_entries history c)) cores
list_all-turns history [] = refl
list_all-turns history (c ∷ cores) = ap (λ rest. has_attempted (own_entries history c) && rest) (list_all-turns history cores)

pub list_any-ended : (history : List Entry) (flags : List Bool) (threads : List Planned) → All (λ (t : Planned). is_flagged flags t.id ≡ has_ended history t) threads
    → list_any (λ (t : Planned). not (is_flagged flags t.id)) threads ≡ list_any (λ t. not (has_ended history t)) threads
list_any-ended history flags [] same = refl
list_any-ended history flags (t ∷ threads) same =
    ap₂ (λ a b. not a || b) (same 0 t (omega arith)) (list_any-ended history flags threads (λ k d inside. same (suc k) d (omega arith)))

module _ (p : Meaning) (plan : Plan) (past : Past) (history : List Entry) (stands : StandsFor p plan past history) where
  pub complete_by_turns : (past.rounds == 0 || list_all (λ (turn : Turn). turn.attempted) past.turns) ≡ is_complete plan history
  unfolding is_complete
  complete_by_turns =
      ap₂ (λ rounds (turns : List Turn). rounds == 0 || list_all (λ (turn : Turn). turn.attempted) turns) stands.rounds stands.turns
      ∙ ap (λ rest. rounds_begun history == 0 || rest) (list_all-turns history (core_numbers plan))

  pub due_by_flags : (ltb past.rounds plan.rounds && list_any (λ (t : Planned). not (is_flagged past.ended t.id)) plan.threads) ≡ is_due plan history
  unfolding is_due
  due_by_flags =
      ap₂ (λ rounds left. ltb rounds plan.rounds && left) stands.rounds (list_any-ended history past.ended plan.threads stands.ended)

find-filter : {X : Type 0} (test : X → Bool) (xs : List X) → find test xs ≡ head_of (filter test xs)
find-filter test [] = refl
find-filter test (x ∷ xs) =
    elim (test x) as (λ b. cond b (Some x) (find test xs) ≡ head_of (cond b (x ∷ filter test xs) (filter test xs))) [ true ↦ refl | false ↦ find-filter test xs ]

head_of-map : {X Y : Type 0} (f : X → Y) (xs : List X) → head_of (map f xs) ≡ option_map f (head_of xs)
head_of-map f [] = refl
head_of-map f (x ∷ xs) = refl

-- the thread that the core lets in next, by the arrivals
pub arriving_next : (plan : Plan) (history : List Entry) (arrivals : List Arrival) (a : ℕ) → Awaits plan history arrivals
    → find (arrives_at a) arrivals ≡ option_map arrival_of (entering_next plan (round_of history) a (own_entries history a))
unfolding entering_next
arriving_next plan history arrivals a awaits =
    let test = is_entering (round_of history) a (own_entries history a) in
    find-filter (arrives_at a) arrivals ∙ (ap head_of (awaits.at_core a) ∙ (head_of-map arrival_of (filter test plan.threads) ∙ sym (ap (option_map arrival_of) (find-filter test plan.threads))))

pub id_of_arrival : (found : Option Planned) → option_map (λ (x : Arrival). x.id) (option_map arrival_of found) ≡ option_map (λ (t : Planned). t.id) found
id_of_arrival None = refl
id_of_arrival (Some t) = refl

-- how far a core has come, by its turn
pub turn_at : (p : Meaning) (plan : Plan) (past : Past) (history : List Entry) → StandsFor p plan past history
    → (a : ℕ) (turn : Turn) → a < plan.cores → slice_get past.turns a ≡ Some turn → turn ≡ turn_of history a
turn_at p plan past history stands a turn there is =
    sym (get_or_from_slice_get past.turns a turn turn is)
    ∙ (ap (λ (turns : List Turn). get_or turns a turn) stands.turns ∙ get_or-map-range_with_len (turn_of history) 0 plan.cores a a turn there (omega arith))
