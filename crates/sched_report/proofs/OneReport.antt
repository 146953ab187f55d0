-- A legal history has no two reports: rounds and totals are computed, a Fail has one first cause, and two lists of the
-- same stretches in order are one list.
use Rattle.std.proofs.Common.{◌≡◌, ℕ, zero, suc, ◌<◌, ◌⊎◌, inl, inr, List, [], ◌∷◌, Option, All, length, get_or, map, refl, sym, ap, ap₂, subst, ◌∙◌, arith}
use Rattle.std.specs.Prelude.{AllPairs, Contains}
use Rattle.std.specs.List.Sorted.{IsStrictlyIncreasing}
use Rattle.std.proofs.lemmas.List.{get_or-map, length-map, same_lists}
use Rattle.std.proofs.lemmas.List.Elements.{All-contains}
use Rattle.std.proofs.lemmas.List.Kept.{AllPairs-from_increasing}
use Rattle.policy_tree.specs.Meaning.{Meaning}
use Rattle.round_model.specs.declared.entry.Entry.{Entry}
use Rattle.round_model.specs.declared.plan.Plan.{Plan}
use Rattle.round_model.specs.Explains.{Explains}
use Rattle.round_model.specs.Legal.{Legal}
use Rattle.round_model.specs.Rounds.{BeginsAt}
use Rattle.round_model.specs.StillRounds.{spread_at}
use Rattle.round_laws.proofs.RoundNumbers.{begins_once}
use Rattle.sched_report.specs.FailRows.{AreFailRows, IsFailRow}
use Rattle.sched_report.specs.Laws.{OneReportLaw}
use Rattle.sched_report.specs.Rests.{first_rest}
use Rattle.sched_report.specs.RoundRows.{bad_within, round_rows}
use Rattle.sched_report.specs.StillRows.{AreStillRows, IsStillRow}
use Rattle.sched_report.specs.declared.rows.FailRow.{FailRow}
use Rattle.sched_report.specs.declared.rows.FullReport.{FullReport}
use Rattle.sched_report.specs.declared.rows.RestRow.{RestRow}
use Rattle.sched_report.specs.declared.rows.RoundRow.{RoundRow}
use Rattle.sched_report.specs.declared.rows.StillRow.{StillRow}
use Rattle.sched_report.specs.declared.rows.Totals.{Totals}

-- the one row stands before the other
abbrev Earlier : StillRow → StillRow → Type 0
Earlier x y = x.first < y.first

in_order : (rows : List StillRow) → IsStrictlyIncreasing (map (λ (row : StillRow). row.first) rows) → AllPairs Earlier rows
in_order rows rises i j d less inside =
    let first : StillRow → ℕ = λ row. row.first in
    let pairs = AllPairs-from_increasing (map first rows) rises i j 0 less (omega (arith, length-map rows first)) in
    let low : get_or (map first rows) i 0 ≡ (get_or rows i d).first = get_or-map first rows i d 0 (omega arith) in
    let high : get_or (map first rows) j 0 ≡ (get_or rows j d).first = get_or-map first rows j d 0 inside in
    omega arith

behind_all : (x : StillRow) (xs : List StillRow) → AllPairs Earlier (x ∷ xs) → All (Earlier x) xs
behind_all x xs pairs k d inside = pairs 0 (suc k) d (omega arith) (omega arith)

rest_pairs : (x : StillRow) (xs : List StillRow) → AllPairs Earlier (x ∷ xs) → AllPairs Earlier xs
rest_pairs x xs pairs i j d less inside = pairs (suc i) (suc j) d (omega arith) (omega arith)

front_or_rest : (y z : StillRow) (ys : List StillRow) → Contains (y ∷ ys) z → (y ≡ z) ⊎ Contains ys z
front_or_rest y z ys (zero, inside, is) = inl is
front_or_rest y z ys (suc k, inside, is) = inr (k, omega arith, is)

at_front : (x : StillRow) (xs : List StillRow) → Contains (x ∷ xs) x
at_front x xs = (0, omega arith, refl)

in_rest : (x z : StillRow) (xs : List StillRow) → Contains xs z → Contains (x ∷ xs) z
in_rest x z xs (k, inside, is) = (suc k, omega arith, is)

never_both : (x : StillRow) → Earlier x x → ⊥
never_both x less = absurd (omega arith)

-- two lists in order that have the same rows
same_rows : (xs ys : List StillRow) → AllPairs Earlier xs → AllPairs Earlier ys → ((z : StillRow) → Contains xs z → Contains ys z) → ((z : StillRow) → Contains ys z → Contains xs z)
    → xs ≡ ys
same_rows [] [] one other there back = refl
same_rows [] (y ∷ ys) one other there back = absurd (let none = (back y (at_front y ys)).1 in omega arith)
same_rows (x ∷ xs) [] one other there back = absurd (let none = (there x (at_front x xs)).1 in omega arith)
same_rows (x ∷ xs) (y ∷ ys) one other there back =
    ap₂ (λ (z : StillRow) (zs : List StillRow). z ∷ zs) same (same_rows xs ys (rest_pairs x xs one) (rest_pairs y ys other) forth_rest back_rest)
  where
    by_fronts : (y ≡ x) ⊎ Contains ys x → (x ≡ y) ⊎ Contains xs y → x ≡ y
    by_fronts (inl is) found = sym is
    by_fronts (inr among) (inl is) = is
    by_fronts (inr among) (inr within) =
        let first = All-contains (Earlier y) ys x (behind_all y ys other) among in
        let second = All-contains (Earlier x) xs y (behind_all x xs one) within in
        absurd (omega arith)

    same : x ≡ y
    same = by_fronts (front_or_rest y x ys (there x (at_front x xs))) (front_or_rest x y xs (back y (at_front y ys)))

    forth_rest : (z : StillRow) → Contains xs z → Contains ys z
    forth_rest z among = by_front (front_or_rest y z ys (there z (in_rest x z xs among)))
      where
        by_front : (y ≡ z) ⊎ Contains ys z → Contains ys z
        by_front (inl is) = absurd (never_both z (subst (λ w. Earlier w z) (same ∙ is) (All-contains (Earlier x) xs z (behind_all x xs one) among)))
        by_front (inr found) = found

    back_rest : (z : StillRow) → Contains ys z → Contains xs z
    back_rest z among = by_front (front_or_rest x z xs (back z (in_rest y z ys among)))
      where
        by_front : (x ≡ z) ⊎ Contains xs z → Contains xs z
        by_front (inl is) = absurd (never_both z (subst (λ w. Earlier w z) (sym same ∙ is) (All-contains (Earlier y) ys z (behind_all y ys other) among)))
        by_front (inr found) = found

same_row : (x y : StillRow) → x.first ≡ y.first → x.last ≡ y.last → x.spread ≡ y.spread → x.bad ≡ y.bad → x.rest ≡ y.rest → x ≡ y
same_row x y first last spread bad rest =
    let ends : ℕ → ℕ → StillRow = λ f l. record { first = f; last = l; spread = x.spread; bad = x.bad; rest = x.rest } in
    let sums : ℕ → ℕ → StillRow = λ s b. record { first = y.first; last = y.last; spread = s; bad = b; rest = x.rest } in
    let rests : Option RestRow → StillRow = λ r. record { first = y.first; last = y.last; spread = y.spread; bad = y.bad; rest = r } in
    ap₂ ends first last ∙ (ap₂ sums spread bad ∙ ap rests rest)

same_fail : (x y : FailRow) → x.at ≡ y.at → x.by ≡ y.by → x ≡ y
same_fail x y at by = let row : ℕ → ℕ → FailRow = λ a b. record { at = a; by = b } in ap₂ row at by

module _ (p : Meaning) (plan : Plan) (history : List Entry) where
  -- a Fail has one first cause
  one_cause : (x y : FailRow) → x.at ≡ y.at → IsFailRow p plan history x → IsFailRow p plan history y → x.by ≡ y.by
  one_cause x y at one other =
      let low = one.first y.by (subst (λ k. Explains p plan history k y.by) (sym at) other.explains) in
      let high = other.first x.by (subst (λ k. Explains p plan history k x.by) at one.explains) in
      omega arith

  one_fails : (xs ys : List FailRow) → AreFailRows p plan history xs → AreFailRows p plan history ys → xs ≡ ys
  one_fails xs ys one other =
      let at_of : FailRow → ℕ = λ row. row.at in
      let positions : map at_of xs ≡ map at_of ys = one.positions ∙ sym other.positions in
      let long : length xs ≡ length ys = omega (arith, ap length positions, length-map xs at_of, length-map ys at_of) in
      same_lists xs ys long
      (λ k d inside.
      let x = get_or xs k d in let y = get_or ys k d in
      let at : x.at ≡ y.at =
      sym (get_or-map at_of xs k d 0 inside) ∙ (ap (λ positions. get_or positions k 0) positions ∙ get_or-map at_of ys k d 0 (omega (arith, long))) in
      same_fail x y at (one_cause x y at (one.each k d inside) (other.each k d (omega (arith, long)))))

  module _ (legal : Legal p plan history) where
    -- a stretch has one row
    one_row : (x y : StillRow) → x.first ≡ y.first → x.last ≡ y.last → IsStillRow p plan history x → IsStillRow p plan history y → x ≡ y
    one_row x y first last one other =
        let opening = begins_once p plan history legal x.first one.opening other.opening one.begins (subst (λ n. BeginsAt history n other.opening) (sym first) other.begins) in
        same_row x y first last (one.spread ∙ (ap (spread_at p plan history) opening ∙ sym other.spread))
        (one.bad ∙ (ap₂ (bad_within (round_rows p plan history)) first last ∙ sym other.bad))
        (one.rest ∙ (ap₂ (first_rest (round_rows p plan history)) first last ∙ sym other.rest))

    found_in : (xs ys : List StillRow) → AreStillRows p plan history xs → AreStillRows p plan history ys → (z : StillRow) → Contains xs z → Contains ys z
    found_in xs ys one other z among =
        let is = All-contains (IsStillRow p plan history) xs z one.each among in
        let has = other.all z.first z.last is.longest in
        let row = All-contains (IsStillRow p plan history) ys has.row other.each has.among in
        subst (Contains ys) (one_row has.row z has.first_is has.last_is row is) has.among

    pub one_stills : (xs ys : List StillRow) → AreStillRows p plan history xs → AreStillRows p plan history ys → xs ≡ ys
    one_stills xs ys one other = same_rows xs ys (in_order xs one.ordered) (in_order ys other.ordered) (found_in xs ys one other) (found_in ys xs other one)

pub one_report : OneReportLaw
one_report p plan history one other legal first second =
    let rows : List RoundRow → List StillRow → FullReport = λ rounds stills. record { rounds = rounds; stills = stills; fails = one.fails; totals = one.totals } in
    let rest : List FailRow → Totals → FullReport = λ fails totals. record { rounds = other.rounds; stills = other.stills; fails = fails; totals = totals } in
    ap₂ rows (first.rounds ∙ sym second.rounds) (one_stills p plan history legal one.stills other.stills first.stills second.stills)
    ∙ ap₂ rest (one_fails p plan history one.fails other.fails first.fails second.fails) (first.totals ∙ sym second.totals)
