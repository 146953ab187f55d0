-- A seat of a core split off, and joined back, keeps the rule.
use Rattle.std.proofs.Common.{◌≡◌, ◌≢◌, ℕ, ◌+◌, ◌<◌, Bool, true, false, List, [], ◌∷◌, ◌++◌, length, set, sym, refl, ap, ◌∙◌, subst, ⊎_elim, arith, length-set}
use Rattle.std.proofs.lemmas.Bool.{true≢false}
use mathlib.Core.Logic.{dite}
use mathlib.Core.Option.{Option, none, some, some-ne-none, some-injective}
use native.Mathlib.Decide.{ℕ_discrete}
use lib.ListN.{get_elem?}
use Rattle.atomic_table.specs.Table.{Joins, Splits}
use Rattle.atomic_table.proofs.Lists.{at_last, at_longer, at_set, set_else}
use Rattle.policy_tree.specs.Meaning.{Meaning}
use Rattle.round_model.specs.declared.entry.Entry.{Entry}
use Rattle.round_model.specs.declared.plan.Plan.{Plan}
use Rattle.round_model.proofs.Grows.{at_end}
use Rattle.round_model.proofs.Histories.{open_round}
use Rattle.core_table.specs.declared.views.HeldCore.{HeldCore}
use Rattle.core_table.specs.declared.views.Role.{Role}
use Rattle.core_table.specs.declared.views.Role.TheVariants as role
use Rattle.core_table.specs.declared.views.Turn.{Turn}
use Rattle.core_table.specs.declared.views.Turn.TheVariants as turn
use Rattle.core_table.specs.declared.views.View.{View}
use Rattle.core_table.specs.Logs.{own_log}
use Rattle.core_table.specs.Views.{is_live, joined_role, joining, leaving, meaning_in, seat_of_core, spent_view, with_turn}
use Rattle.core_table.specs.Told.{HasIdle, IsAmong, IsFreeSeat, IsOpening, IsSeatOf, IsTrueOpening, IsTrueRole, IsTrueTurn}
use Rattle.core_table.specs.Rule.{IsCounted, IsSeated, Keep, TableHolds}
use Rattle.core_table.proofs.Histories.{at_less, longer}
use Rattle.core_table.proofs.Parts.{AllHold, SeatHolds, parted, whole}
use Rattle.core_table.proofs.Frames.{KeepsRole, away_there, hands_stay, lead_there, put, put_else, put_here, recast, seat_there}

-- One core of which the opening seat counts something new.
pub turns_true : (plan : Plan) (h merged : List Entry) (turns : List Turn) (c : ℕ) (t : Turn) → IsTrueOpening plan h merged turns → IsTrueTurn h c t → IsTrueOpening plan h merged (set turns c t)
turns_true plan h merged turns c t old new = record {
  is_merged = old.is_merged;
  count = length-set turns c t ∙ old.count;
  are_true = λ d u is. ⊎_elim
      (λ (hit : (d ≡ c) × (t ≡ u)). subst (λ (z : ℕ × Turn). IsTrueTurn h z.0 z.1) (λ i. (sym hit.0 i, hit.1 i)) new)
      (λ (miss : (d ≢ c) × (get_elem? turns d ≡ some u)). old.are_true d u miss.1)
      (at_set turns c d t u is);
}

module _ (away : ℕ → Option ℕ) (c : ℕ) (o : Option ℕ) where
  turn_stays : (d : ℕ) (t : Turn) → d ≢ c → IsCounted away d t → IsCounted (put away c o) d t
  turn_stays d turn.Idle other seat = put_else away c o d other ∙ seat
  turn_stays d turn.Out other seat = (seat.0, put_else away c o d other ∙ seat.1)
  turn_stays d (turn.Done own) other seat = put_else away c o d other ∙ seat

  turns_seat : (lead j : ℕ) (merged : List Entry) (turns : List Turn) (t : Turn) → IsSeated away lead j (role.Opening merged turns) → IsCounted (put away c o) c t → IsSeated (put away c o) lead j (role.Opening merged (set turns c t))
  turns_seat lead j merged turns t old new = (
    old.0,
    λ d u is. ⊎_elim
        (λ (hit : (d ≡ c) × (t ≡ u)). subst (λ (z : ℕ × Turn). IsCounted (put away c o) z.0 z.1) (λ i. (sym hit.0 i, hit.1 i)) new)
        (λ (miss : (d ≢ c) × (get_elem? turns d ≡ some u)). turn_stays d u miss.0 (old.1 d u miss.1))
        (at_set turns c d t u is),
  )

  -- every other seat
  seat_stays : (lead j : ℕ) (role : Role) → j ≢ lead → away c ≢ some j → IsSeated away lead j role → IsSeated (put away c o) lead j role
  seat_stays lead j (role.Opening merged turns) other free seat = absurd (other seat.0)
  seat_stays lead j (role.Core d none_due) other free seat = put_else away c o d (λ e. free (ap away (sym e) ∙ seat)) ∙ seat
  seat_stays lead j role.Spent other free seat = tt

  others_stay : (p : Meaning) (plan : Plan) (h : List Entry) (kept : ℕ → Keep) (lead j : ℕ) (v : View) → j ≢ lead → away c ≢ some j → SeatHolds p plan h kept away lead j v → SeatHolds p plan h kept (put away c o) lead j v
  others_stay p plan h kept lead j v other free seat = record {
    dated = seat.dated;
    role = seat.role;
    seated = seat_stays lead j v.role other free seat.seated;
    spent = seat.spent;
    opening = seat.opening;
    notes = seat.notes;
    fresh = seat.fresh;
    held = seat.held;
  }

  -- the opening seat, with that turn of the core
  opening_turns : (p : Meaning) (plan : Plan) (h : List Entry) (kept : ℕ → Keep) (lead j : ℕ) (v : View) (merged : List Entry) (turns : List Turn) (t : Turn) (role' : Role) → v.role ≡ role.Opening merged turns → role' ≡ role.Opening merged (set turns c t)
      → IsTrueTurn h c t → IsCounted (put away c o) c t → SeatHolds p plan h kept away lead j v → SeatHolds p plan h kept (put away c o) lead j (record v { role = role' })
  unfolding is_live
  opening_turns p plan h kept lead j v merged turns t role' is is' holds counted seat = record {
    dated = λ _. let d = seat.dated (ap is_live is) in record { round = d.round; start = d.start };
    role = subst (IsTrueRole p plan h v.own) (sym is') (turns_true plan h merged turns c t (subst (IsTrueRole p plan h v.own) is seat.role) holds);
    seated = subst (IsSeated (put away c o) lead j) (sym is') (turns_seat lead j merged turns t (subst (IsSeated away lead j) is seat.seated) counted);
    spent = λ dead. absurd (true≢false (sym (ap is_live is') ∙ dead));
    opening = λ _. seat.opening (ap is_live is);
    notes = seat.notes;
    fresh = seat.fresh;
    held = seat.held;
  }

pub leaving_is : (v : View) (merged : List Entry) (turns : List Turn) (c : ℕ) → v.role ≡ role.Opening merged turns → (leaving c v).role ≡ role.Opening merged (set turns c turn.Out)
leaving_is v merged turns c is = ap (with_turn c turn.Out) is

pub leaving_live : (v : View) (c : ℕ) → IsOpening v → is_live (leaving c v).role ≡ true
unfolding is_live
leaving_live v c opening = ap is_live (leaving_is v opening.merged opening.turns c opening.role)

pub joining_is : (v w : View) (merged : List Entry) (turns : List Turn) (c : ℕ) → v.role ≡ role.Opening merged turns → IsSeatOf w c → (joining v w).role ≡ role.Opening merged (set turns c (turn.Done w.own))
joining_is v w merged turns c is of = ap (λ (x : Role). joined_role x w.own v.role) of.role ∙ ap (with_turn c (turn.Done w.own)) is

pub joining_live : (v w : View) (c : ℕ) → IsOpening v → IsSeatOf w c → is_live (joining v w).role ≡ true
unfolding is_live
joining_live v w c opening of = ap is_live (joining_is v w opening.merged opening.turns c opening.role of)

-- an opening seat is no core's, and a core's seat is that of one core
opening_core : (x : Role) (merged : List Entry) (turns : List Turn) (c : ℕ) (none_due : Bool) → x ≡ role.Opening merged turns → x ≡ role.Core c none_due → ⊥
opening_core x merged turns c none_due a b = absurd (cc)

pub splits_on : (id : ℕ) (v : View) (c : ℕ) → HasIdle v c → 0 < v.round → Splits (TableHolds (meaning_in v) v.plan) id v (leaving c v) (seat_of_core c v)
unfolding is_live
splits_on id v c idle begun s holds at =
    let p : Meaning = meaning_in v in let plan : Plan = v.plan in let r : AllHold p plan s = parted p plan s holds in let h : List Entry = r.history in
    let merged : List Entry = idle.opening.merged in let turns : List Turn = idle.opening.turns in let is = idle.opening.role in
    let left : View = leaving c v in let right : View = seat_of_core c v in let top : ℕ = length s.views in let away' : ℕ → Option ℕ = put r.away c (some top) in
    let it = r.each_seat id v at in let seat = subst (IsSeated r.away r.lead id) is it.seated in let role = subst (IsTrueRole p plan h v.own) is it.role in
    let free : r.away c ≡ none = seat.1 c turn.Idle idle.idle in let none_own : own_log c h ≡ [] = role.are_true c turn.Idle idle.idle in
    let date = it.dated (ap is_live is) in let round = date.round in let start = date.start in let counted = open_round p plan h r.legal in
    let inside : c < plan.cores = (let l = at_less turns c turn.Idle idle.idle in let w = role.count in omega arith) in
    let vs : List View = set s.views id left in let same : length vs ≡ top = length-set s.views id left in let long : length (vs ++ right ∷ []) ≡ top + 1 = longer vs right ∙ ap (λ k. k + 1) same in
    let part : KeepsRole v left = record {
      core = λ d t. absurd (opening_core v.role merged turns d t.none_due is t.role);
      opening = λ t. record { merged = merged; turns = set turns c turn.Out; role = leaving_is v merged turns c is };
    } in
    let hands = hands_stay p plan s r id v left at r.keeps (λ _. refl) (λ _ g. g) in let there = away_there p plan s r id v left at part in let leads = lead_there p plan s r id v left at part in
    whole p plan _ (recast p plan s r (vs ++ right ∷ []) away'
    (λ d j low o. let t = hands d j low o in (t.0, at_longer vs (right ∷ []) j t.0 t.1, t.2))
    (λ d j e. dite (ℕ_discrete d c)
    (λ hit. let q : top ≡ j = some-injective top j (sym (put_here r.away c (some top) d hit) ∙ e) in
    (right, at_last vs right j (same ∙ q), subst (IsSeatOf right) (sym hit) (record { none_due = false; role = refl })))
    (λ miss. let t = there d j (sym (put_else r.away c (some top) d miss) ∙ e) in (t.0, at_longer vs (right ∷ []) j t.0 t.1, t.2)))
    (leads.0, at_longer vs (right ∷ []) r.lead leads.0 leads.1, leads.2)
    (λ j u e. ⊎_elim
    (λ (old : (j < length vs) × (get_elem? vs j ≡ some u)). ⊎_elim
    (λ (hit : (j ≡ id) × (left ≡ u)). subst (λ (z : ℕ × View). SeatHolds p plan h r.keeps away' r.lead z.0 z.1) (λ i. (sym hit.0 i, hit.1 i))
    (opening_turns r.away c (some top) p plan h r.keeps r.lead id v merged turns turn.Out (with_turn c turn.Out v.role) is (leaving_is v merged turns c is) tt (top, put_here r.away c (some top) c refl) it))
    (λ (miss : (j ≢ id) × (get_elem? s.views j ≡ some u)). others_stay r.away c (some top) p plan h r.keeps r.lead j u (λ q. miss.0 (q ∙ sym seat.0)) (λ q. some-ne-none j (sym q ∙ free)) (r.each_seat j u miss.1))
    (at_set s.views id j left u old.1))
    (λ (new : (j ≡ length vs) × (right ≡ u)). subst (λ (z : ℕ × View). SeatHolds p plan h r.keeps away' r.lead z.0 z.1) (λ i. (sym (new.0 ∙ same) i, new.1 i)) record {
      dated = λ _. record { round = round; start = start };
      role = record { there = inside; begun = omega arith; is_own = sym none_own; due = λ marked. absurd (true≢false (sym marked)) };
      seated = put_here r.away c (some top) c refl;
      spent = λ dead. absurd (true≢false dead);
      opening = λ _. (refl, refl);
      notes = λ i x a. absurd (some-ne-none x (sym a));
      fresh = λ i x a. absurd (some-ne-none x (sym a));
      held = λ i x a. absurd (some-ne-none x (sym a));
    })
    (at_end vs right u j e)))

-- two seats of cores that are one seat
one_core_seat : (x : Role) (c d : ℕ) (a b : Bool) → x ≡ role.Core c a → x ≡ role.Core d b → c ≡ d
one_core_seat x c d a b p q = cc

pub joins_on : (id : ℕ) (v : View) (other : ℕ) (w : View) → IsOpening v → IsFreeSeat w → Joins (TableHolds (meaning_in v) v.plan) id v other w (joining v w) spent_view
unfolding is_live
joins_on id v other w opening seat_free s holds at apart at_w =
    let p : Meaning = meaning_in v in let plan : Plan = v.plan in let r : AllHold p plan s = parted p plan s holds in let h : List Entry = r.history in
    let merged : List Entry = opening.merged in let turns : List Turn = opening.turns in let is = opening.role in let c : ℕ = seat_free.core in let of = seat_free.of_core in
    let both : View = joining v w in let away' : ℕ → Option ℕ = put r.away c none in let vs : List View = set s.views id both in let it = r.each_seat id v at in
    let seat = subst (IsSeated r.away r.lead id) is it.seated in
    let at_other : get_elem? s.views other ≡ some w = sym (set_else s.views id other both apart) ∙ at_w in let its = r.each_seat other w at_other in
    let out : r.away c ≡ some other = subst (IsSeated r.away r.lead other) of.role its.seated in let own = (subst (IsTrueRole p plan h w.own) of.role its.role).is_own in
    let role_is : both.role ≡ role.Opening merged (set turns c (turn.Done w.own)) = joining_is v w merged turns c is of in
    let part : KeepsRole v both = record {
      core = λ d t. absurd (opening_core v.role merged turns d t.none_due is t.role);
      opening = λ t. record { merged = merged; turns = set turns c (turn.Done w.own); role = role_is };
    } in
    let hands = hands_stay p plan s r id v both at r.keeps (λ _. refl) (λ _ g. g) in let there = away_there p plan s r id v both at part in
    let lead_is : r.lead ≡ id = sym seat.0 in
    whole p plan _ (recast p plan s r (set vs other spent_view) away'
    (λ d j low o. let t = hands d j low o in dite (ℕ_discrete j other)
    (λ hit. let w_is : t.0 ≡ w = some-injective t.0 w (sym t.1 ∙ (ap (get_elem? vs) hit ∙ at_w)) in let g = subst (λ (u : View). IsAmong u.held d) w_is t.2 in absurd (some-ne-none g.of (sym g.there ∙ ap (λ (l : List HeldCore). get_elem? l g.place) seat_free.free)))
    (λ miss. (t.0, set_else vs other j spent_view miss ∙ t.1, t.2)))
    (λ d j e. dite (ℕ_discrete d c)
    (λ hit. absurd (some-ne-none j (sym e ∙ put_here r.away c none d hit)))
    (λ miss. let t = there d j (sym (put_else r.away c none d miss) ∙ e) in dite (ℕ_discrete j other)
    (λ same. let w_is : t.0 ≡ w = some-injective t.0 w (sym t.1 ∙ (ap (get_elem? vs) same ∙ at_w)) in let g = subst (λ (u : View). IsSeatOf u d) w_is t.2 in absurd (miss (one_core_seat w.role d c g.none_due of.none_due g.role of.role)))
    (λ differs. (t.0, set_else vs other j spent_view differs ∙ t.1, t.2))))
    (both, set_else vs other r.lead spent_view (λ e. apart (sym e ∙ lead_is)) ∙ seat_there p plan s r id v both at r.lead lead_is, record { merged = merged; turns = set turns c (turn.Done w.own); role = role_is })
    (λ j u e. ⊎_elim
    (λ (gone : (j ≡ other) × (spent_view ≡ u)). subst (λ (z : View). SeatHolds p plan h r.keeps away' r.lead j z) gone.1 record {
      dated = λ live. absurd (true≢false (sym live));
      role = tt;
      seated = tt;
      spent = λ _. refl;
      opening = λ live. absurd (true≢false (sym live));
      notes = λ i x a. absurd (some-ne-none x (sym a));
      fresh = λ i x a. absurd (some-ne-none x (sym a));
      held = λ i x a. absurd (some-ne-none x (sym a));
    })
    (λ (left : (j ≢ other) × (get_elem? vs j ≡ some u)). ⊎_elim
    (λ (hit : (j ≡ id) × (both ≡ u)). subst (λ (z : ℕ × View). SeatHolds p plan h r.keeps away' r.lead z.0 z.1) (λ i. (sym hit.0 i, hit.1 i))
    (opening_turns r.away c none p plan h r.keeps r.lead id v merged turns (turn.Done w.own) both.role is role_is (sym own) (put_here r.away c none c refl) it))
    (λ (miss : (j ≢ id) × (get_elem? s.views j ≡ some u)). others_stay r.away c none p plan h r.keeps r.lead j u (λ q. miss.0 (q ∙ sym seat.0)) (λ q. left.0 (some-injective j other (sym q ∙ out))) (r.each_seat j u miss.1))
    (at_set s.views id j both u left.1))
    (at_set vs other j spent_view u e)))
