-- The units of a core among the entries: how their number goes on, and that each complete round has one.
use Rattle.std.proofs.Common.{◌≡◌, ℕ, zero, suc, ◌+◌, ◌<◌, ◌≤◌, ◌⊎◌, inl, inr, Bool, true, false, cond, List, [], ◌∷◌, take, drop, count_by, ap, ◌∙◌, subst, arith, length-take-le, eq-or-lt_of_le}
use Rattle.std.proofs.lemmas.Bool.Decides.{nat_tests}
use Rattle.std.proofs.lemmas.List.{drop-append-le, drop_all, length-take}
use Rattle.std.proofs.lemmas.List.Sums.{sum_by_push}
use mathlib.Core.Option.{some}
use lib.ListN.{get_elem?}
use Rattle.policy_tree.specs.Meaning.{Meaning}
use Rattle.round_model.specs.declared.entry.Entry.{Entry}
use Rattle.round_model.specs.declared.entry.Entry.TheVariants as entry
use Rattle.round_model.specs.declared.plan.Plan.{Plan}
use Rattle.round_model.specs.Entries.{acts}
use Rattle.round_model.specs.Kinds.{is_attempt, is_work}
use Rattle.round_model.specs.Legal.{Legal, LegalNext}
use Rattle.round_model.specs.Reads.{round_start}
use Rattle.round_model.specs.Rounds.{Attempts, BeginsAt}
use Rattle.round_model.specs.Rows.{Row}
use Rattle.round_model.specs.Scenes.{has_worked, own_entries, scene_of}
use Rattle.round_model.proofs.Grows.{in_front}
use Rattle.waiting_laws.specs.Waiting.{is_unit_of, units_of}
use Rattle.round_laws.proofs.CompleteRounds.{complete_before, found_one, starts_behind}
use Rattle.round_laws.proofs.Positions.{entry_more}
use Rattle.round_laws.proofs.RoundNumbers.{EntryAt, begins_in_order, begun_before, behind_round, entry_at, entry_inside, opened, opens_next, past_end, which_entry}

-- how the number of units goes on
pub units_none : (h : List Entry) (c low high : ℕ) → high ≤ low → units_of h c low high ≡ 0
units_none h c low high before = ap (count_by (is_unit_of c)) (drop_all low (take high h) (omega (arith, length-take high h)))

pub units_more : (h : List Entry) (c low high : ℕ) (e : Entry) → get_elem? h high ≡ some e → low ≤ high → units_of h c low (suc high) ≡ units_of h c low high + cond (is_unit_of c e) 1 0
units_more h c low high e is before =
    let inside = entry_inside h high e is in
    let long = length-take-le high h (omega arith) in
    ap (λ (es : List Entry). count_by (is_unit_of c) (drop low es)) (entry_more h high e is)
    ∙ (ap (count_by (is_unit_of c)) (drop-append-le low (take high h) (e ∷ []) (omega arith))
    ∙ sum_by_push (λ (x : Entry). cond (is_unit_of c x) 1 0) (drop low (take high h)) e)

pub units_at_most : (h : List Entry) (c low high : ℕ) (e : Entry) → get_elem? h high ≡ some e → low ≤ high → units_of h c low (suc high) ≤ units_of h c low high + 1
units_at_most h c low high e is before = let counted = units_more h c low high e is before in let few = at_most (is_unit_of c e) in omega arith
  where
    at_most : (b : Bool) → cond b 1 0 ≤ 1
    at_most true = omega arith
    at_most false = omega arith

pub units_past : (h : List Entry) (c low high : ℕ) → take (suc high) h ≡ take high h → units_of h c low (suc high) ≡ units_of h c low high
units_past h c low high same = ap (λ (es : List Entry). count_by (is_unit_of c) (drop low es)) same

module _ (h : List Entry) (c low : ℕ) where
  units_rise : (k : ℕ) → low ≤ k → units_of h c low k ≤ units_of h c low (suc k)
  units_rise k behind = by_entry (which_entry h k)
    where
      by_entry : EntryAt h k → units_of h c low k ≤ units_of h c low (suc k)
      by_entry (entry_at e is) = let more = units_more h c low k e is behind in omega arith
      by_entry (past_end same) = let no_more = units_past h c low k same in omega arith

  units_on : (k high : ℕ) → low ≤ k → k ≤ high → units_of h c low k ≤ units_of h c low high
  units_on k zero behind before = let first : k ≡ 0 = omega arith in let same : units_of h c low k ≡ units_of h c low 0 = ap (units_of h c low) first in omega arith
  units_on k (suc high) behind before = by_order (units_on k high behind) (eq-or-lt_of_le before)
    where
      by_order : (k ≤ high → units_of h c low k ≤ units_of h c low high) → (k ≡ suc high) ⊎ (k < suc high) → units_of h c low k ≤ units_of h c low (suc high)
      by_order rest (inl is) = let same : units_of h c low k ≡ units_of h c low (suc high) = ap (units_of h c low) is in omega arith
      by_order rest (inr less) = let so_far = rest (omega arith) in let one = units_rise high (omega arith) in omega arith

  -- a unit between two positions
  unit_between : (from k high : ℕ) (e : Entry) → get_elem? h k ≡ some e → is_unit_of c e ≡ true → low ≤ from → from ≤ k → k < high → suc (units_of h c low from) ≤ units_of h c low high
  unit_between from k high e is unit first behind before =
      let until = units_on from k first behind in
      let more : units_of h c low (suc k) ≡ units_of h c low k + 1 = units_more h c low k e is (omega arith) ∙ ap (λ b. units_of h c low k + cond b 1 0) unit in
      let rest = units_on (suc k) high (omega arith) (omega arith) in
      omega arith

-- a core works in its units alone
work_is_unit : (c : ℕ) (e : Entry) → acts c e ≡ true → is_work e ≡ true → is_unit_of c e ≡ true
unfolding acts
work_is_unit c (entry.Round number) by_core is = absurd (cc)
work_is_unit c (entry.Enter thread by at reads) by_core is = absurd (cc)
work_is_unit c (entry.Wake thread by at reads) by_core is = absurd (cc)
work_is_unit c (entry.Work by what) by_core is = by_core
work_is_unit c (entry.Steal by from threads reads) by_core is = absurd (cc)
work_is_unit c (entry.Fail by from reads) by_core is = absurd (cc)
work_is_unit c (entry.Pass by reads) by_core is = absurd (cc)

-- a unit of the core behind one position and before another
pub record UnitIn (h : List Entry) (c low high : ℕ) : Type 0 where
  pub position : ℕ
  pub unit : Entry
  pub stands : get_elem? h position ≡ some unit
  pub is : is_unit_of c unit ≡ true
  pub behind : low < position
  pub before : position < high

module _ (p : Meaning) (plan : Plan) (h : List Entry) (legal : Legal p plan h) (c : ℕ) where
  -- before its attempt a core has worked
  worked_before : (k : ℕ) (e : Entry) → get_elem? h k ≡ some e → acts c e ≡ true → is_attempt e ≡ true → has_worked (own_entries (take k h) c) ≡ true
  unfolding LegalNext Row scene_of acts
  worked_before k (entry.Round number) is by_core attempt = absurd (cc)
  worked_before k (entry.Enter thread by at reads) is by_core attempt = absurd (cc)
  worked_before k (entry.Wake thread by at reads) is by_core attempt = absurd (cc)
  worked_before k (entry.Work by what) is by_core attempt = absurd (cc)
  worked_before k (entry.Steal by from threads reads) is by_core attempt =
      let here : by ≡ c = grind (arith, nat_tests) in
      subst (λ (a : ℕ). has_worked (own_entries (take k h) a) ≡ true) here (legal k (entry.Steal by from threads reads) is).row.worked
  worked_before k (entry.Fail by from reads) is by_core attempt =
      let here : by ≡ c = grind (arith, nat_tests) in
      subst (λ (a : ℕ). has_worked (own_entries (take k h) a) ≡ true) here (legal k (entry.Fail by from reads) is).row.worked
  worked_before k (entry.Pass by reads) is by_core attempt =
      let here : by ≡ c = grind (arith, nat_tests) in
      subst (λ (a : ℕ). has_worked (own_entries (take k h) a) ≡ true) here (legal k (entry.Pass by reads) is).row.worked

  -- each round behind which another begins has a unit of the core
  unit_of_round : c < plan.cores → (n opening next : ℕ) → BeginsAt h n opening → BeginsAt h (suc n) next → UnitIn h c opening next
  unit_of_round there n opening next begins ends = by_attempt (complete_before p plan h legal n opening next begins ends c there)
    where
      by_attempt : Attempts h n c → UnitIn h c opening next
      by_attempt attempt =
          let k = attempt.position in
          let in_round = attempt.in_round in
          let from = opens_next p plan h legal n opening begins in
          let closes = opened h (suc n) next ends in
          let behind : opening < k = behind_round p plan h legal opening k (omega arith) in
          let before : k < suc next = behind_round p plan h legal k (suc next) (omega arith) in
          let start = starts_behind p plan h legal n opening k begins behind in_round in
          let found = found_one (acts c) is_work (take k h) (round_start (take k h)) (worked_before k attempt.attempt attempt.stands attempt.by_core attempt.is) in
          let front = in_front h found.item k found.position found.stands in
          let early = front.0 in
          let late = found.behind in
          record {
            position = found.position;
            unit = found.item;
            stands = front.1;
            is = work_is_unit c found.item found.passes found.also;
            behind = omega arith;
            before = omega arith;
          }

  -- so there are as many units as rounds at least
  pub rounds_have_units : c < plan.cores → (first opening : ℕ) → BeginsAt h first opening → (rounds ending : ℕ) → BeginsAt h (first + rounds) ending → rounds ≤ units_of h c opening ending
  rounds_have_units there first opening begins zero ending ends = omega arith
  rounds_have_units there first opening begins (suc rounds) ending ends =
      let from = opens_next p plan h legal first opening begins in
      let next : BeginsAt h (suc (first + rounds)) ending = subst (λ (n : ℕ). BeginsAt h n ending) (omega arith) ends in
      let closes = opens_next p plan h legal (suc (first + rounds)) ending next in
      by_last next (rounds_have_units there first opening begins rounds) (begun_before p plan h legal (first + rounds) ending (omega arith) (omega arith))
    where
      by_last : BeginsAt h (suc (first + rounds)) ending → ((mid : ℕ) → BeginsAt h (first + rounds) mid → rounds ≤ units_of h c opening mid)
          → (mid : ℕ) × (mid < ending) × BeginsAt h (first + rounds) mid → suc rounds ≤ units_of h c opening ending
      by_last next rest (mid, earlier, last) =
          let in_order = begins_in_order p plan h legal first (first + rounds) opening mid begins last (omega arith) in
          let unit = unit_of_round there (first + rounds) mid ending last next in
          let so_far = rest mid last in
          let behind = unit.behind in
          let one = unit_between h c opening mid unit.position ending unit.unit unit.stands unit.is in_order (omega arith) unit.before in
          omega arith

-- what holds at a position and goes on over each entry holds at each later position
pub goes_along : (h : List Entry) (P : ℕ → Type 0) (low : ℕ) → P low → ((k : ℕ) → take (suc k) h ≡ take k h → P k → P (suc k)) → (high : ℕ) → low ≤ high
    → ((k : ℕ) (e : Entry) → low ≤ k → k < high → get_elem? h k ≡ some e → P k → P (suc k)) → P high
goes_along h P low starts past zero before on = let same : low ≡ 0 = omega arith in subst P same starts
goes_along h P low starts past (suc high) before on = by_order (goes_along h P low starts past high) (eq-or-lt_of_le before)
  where
    by_entry : low ≤ high → P high → EntryAt h high → P (suc high)
    by_entry behind so_far (entry_at e is) = on high e behind (omega arith) is so_far
    by_entry behind so_far (past_end same) = past high same so_far

    by_order : (low ≤ high → ((k : ℕ) (e : Entry) → low ≤ k → k < high → get_elem? h k ≡ some e → P k → P (suc k)) → P high) → (low ≡ suc high) ⊎ (low < suc high) → P (suc high)
    by_order rest (inl same) = subst P same starts
    by_order rest (inr less) = by_entry (omega arith) (rest (omega arith) (λ k e first later is. on k e first (omega arith) is)) (which_entry h high)
