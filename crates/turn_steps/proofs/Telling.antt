-- What own entries have, by what was told of them.
use Rattle.std.proofs.Common.{◌≡◌, ℕ, zero, suc, ◌+◌, ◌||◌, Bool, true, false, cond, List, [], ◌∷◌, ◌++◌, filter, map, length, replicate, Option, Some, None, refl, ap, ap₂, ◌∙◌, arith, length-append}
use Rattle.std.specs.List.{list_any}
use Rattle.std.proofs.lemmas.List.{length-replicate}
use Rattle.std.proofs.lemmas.List.Elements.{filter-append}
use Rattle.std.proofs.lemmas.List.Folds.{list_any-append}
use Rattle.round_model.specs.declared.entry.Entry.{Entry}
use Rattle.round_model.specs.declared.entry.Entry.TheVariants as entry
use Rattle.round_model.specs.Entries.{ends, is_ended}
use Rattle.round_model.specs.Kinds.{is_attempt, is_work}
use Rattle.turn_steps.specs.declared.asking.Told.{Told}
use Rattle.turn_steps.specs.declared.asking.Told.TheVariants as told
use Rattle.turn_steps.specs.declared.reached.Reached.{Reached}
use Rattle.turn_steps.specs.declared.reached.Reached.TheVariants as reached
use Rattle.turn_steps.specs.Answers.{drawn, has_entry}
use Rattle.turn_steps.specs.Code.Reaching.{entries_in}
use Rattle.turn_steps.specs.Reaches.{told_behind}
use Rattle.turn_steps.specs.States.{TurnState}
use Rattle.turn_steps.specs.Views.{told_of}

abbrev pub tells_work : Option Told → Bool
tells_work None = false
tells_work (Some told.Arrived) = false
tells_work (Some told.Woke) = false
tells_work (Some told.NothingDue) = false
tells_work (Some (told.Worked did)) = true
tells_work (Some (told.Looked look)) = false
tells_work (Some told.Acted) = false

abbrev pub tells_attempt : Option Told → Bool
tells_attempt None = false
tells_attempt (Some told.Arrived) = false
tells_attempt (Some told.Woke) = false
tells_attempt (Some told.NothingDue) = false
tells_attempt (Some (told.Worked did)) = false
tells_attempt (Some (told.Looked look)) = false
tells_attempt (Some told.Acted) = true

abbrev pub tells_end : ℕ → Option Told → Bool
tells_end id None = false
tells_end id (Some told.Arrived) = false
tells_end id (Some told.Woke) = false
tells_end id (Some told.NothingDue) = false
tells_end id (Some (told.Worked did)) = is_ended id did
tells_end id (Some (told.Looked look)) = false
tells_end id (Some told.Acted) = false

pub works : (e : Entry) → is_work e ≡ tells_work (told_of e)
works (entry.Round number) = refl
works (entry.Enter thread by at reads) = refl
works (entry.Wake thread by at reads) = refl
works (entry.Work by did) = refl
works (entry.Steal by from threads reads) = refl
works (entry.Fail by from reads) = refl
works (entry.Pass by reads) = refl

pub attempts : (e : Entry) → is_attempt e ≡ tells_attempt (told_of e)
attempts (entry.Round number) = refl
attempts (entry.Enter thread by at reads) = refl
attempts (entry.Wake thread by at reads) = refl
attempts (entry.Work by did) = refl
attempts (entry.Steal by from threads reads) = refl
attempts (entry.Fail by from reads) = refl
attempts (entry.Pass by reads) = refl

pub ends_by : (id : ℕ) (e : Entry) → ends id e ≡ tells_end id (told_of e)
ends_by id (entry.Round number) = refl
ends_by id (entry.Enter thread by at reads) = refl
ends_by id (entry.Wake thread by at reads) = refl
ends_by id (entry.Work by did) = refl
ends_by id (entry.Steal by from threads reads) = refl
ends_by id (entry.Fail by from reads) = refl
ends_by id (entry.Pass by reads) = refl

module _ (test : Entry → Bool) (tells : Option Told → Bool) (same : (e : Entry) → test e ≡ tells (told_of e)) where
  any_told : (own : List Entry) → list_any test own ≡ list_any tells (map told_of own)
  any_told [] = refl
  any_told (e ∷ es) = ap₂ (λ b c. b || c) (same e) (any_told es)

  any_some : (answers : List Told) → list_any tells (map Some answers) ≡ list_any (λ answer. tells (Some answer)) answers
  any_some [] = refl
  any_some (answer ∷ answers) = ap (λ c. tells (Some answer) || c) (any_some answers)

  -- what is true of an entry is so of what was told of it
  pub any_of : (own : List Entry) (answers : List Told) → map told_of own ≡ map Some answers → list_any test own ≡ list_any (λ answer. tells (Some answer)) answers
  any_of own answers is = any_told own ∙ (ap (list_any tells) is ∙ any_some answers)

all_kept : (answer : Told) → has_entry answer ≡ true → (n : ℕ) → filter has_entry (replicate n answer) ≡ replicate n answer
all_kept answer kept zero = refl
all_kept answer kept (suc n) = ap (λ b. cond b (answer ∷ filter has_entry (replicate n answer)) (filter has_entry (replicate n answer))) kept ∙ ap (λ l. answer ∷ l) (all_kept answer kept n)

none_of : (test : Told → Bool) (answer : Told) → test answer ≡ false → (n : ℕ) → list_any test (replicate n answer) ≡ false
none_of test answer fails zero = refl
none_of test answer fails (suc n) = ap (λ b. b || list_any test (replicate n answer)) fails ∙ none_of test answer fails n

module _ (t : TurnState) where
  -- the threads that entered, those that woke, and what came behind them
  drawn_is : drawn t ≡ replicate t.arrived told.Arrived ++ (replicate t.woke told.Woke ++ filter has_entry (told_behind t.reached))
  drawn_is = filter-append has_entry (replicate t.arrived told.Arrived) (replicate t.woke told.Woke ++ told_behind t.reached)
      ∙ ap₂ (λ (l m : List Told). l ++ m) (all_kept told.Arrived refl t.arrived)
      (filter-append has_entry (replicate t.woke told.Woke) (told_behind t.reached) ∙ ap (λ l. l ++ filter has_entry (told_behind t.reached)) (all_kept told.Woke refl t.woke))

  pub any_drawn : (test : Told → Bool) → test told.Arrived ≡ false → test told.Woke ≡ false → list_any test (drawn t) ≡ list_any test (filter has_entry (told_behind t.reached))
  any_drawn test first second = ap (list_any test) drawn_is
      ∙ (list_any-append test (replicate t.arrived told.Arrived) (replicate t.woke told.Woke ++ filter has_entry (told_behind t.reached))
      ∙ (ap (λ b. b || list_any test (replicate t.woke told.Woke ++ filter has_entry (told_behind t.reached))) (none_of test told.Arrived first t.arrived)
      ∙ (list_any-append test (replicate t.woke told.Woke) (filter has_entry (told_behind t.reached))
      ∙ ap (λ b. b || list_any test (filter has_entry (told_behind t.reached))) (none_of test told.Woke second t.woke))))

  pub drawn_count : length (drawn t) ≡ t.arrived + t.woke + entries_in t.reached
  drawn_count =
      let all = ap length drawn_is in let one = length-append (replicate t.arrived told.Arrived) (replicate t.woke told.Woke ++ filter has_entry (told_behind t.reached)) in
      let two = length-append (replicate t.woke told.Woke) (filter has_entry (told_behind t.reached)) in
      let first = length-replicate t.arrived told.Arrived in let second = length-replicate t.woke told.Woke in let behind = count_behind t.reached in
      omega arith
    where
      count_behind : (r : Reached) → length (filter has_entry (told_behind r)) ≡ entries_in r
      count_behind reached.Threads = refl
      count_behind reached.NothingDue = refl
      count_behind (reached.Worked did) = refl
      count_behind (reached.Looked did look) = refl
      count_behind (reached.Acted did look) = refl
