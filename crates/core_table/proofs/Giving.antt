-- A release keeps the rule.
use Rattle.std.proofs.Common.{◌≡◌, ◌≢◌, ℕ, zero, suc, ◌+◌, ◌-◌, ◌*◌, ◌%◌, ◌^◌, ◌<◌, ◌≤◌, ◌&&◌, ◌||◌, eqb, Bool, true, false, List, [], ◌∷◌, length, get_or, set, sym, refl, ap, ◌∙◌, subst, ⊎_elim, arith, length-set, get_or-set_same}
use Rattle.std.specs.List.{list_any}
use Rattle.std.specs.Prelude.{Option as Maybe, Some, None, IsNone, is_none}
use Rattle.std.proofs.lemmas.Bool.{true≢false}
use Rattle.std.proofs.lemmas.Bool.Decides.{nat_tests}
use mathlib.Core.Option.{Option, none, some, some-ne-none, some-injective}
use lib.ListN.{get_elem?}
use Rattle.atomic_table.specs.Table.{Allows, gives, rest, step, stepped}
use Rattle.atomic_table.proofs.Lists.{set_else, set_here}
use Rattle.policy_tree.specs.Meaning.{Meaning}
use Rattle.round_model.specs.declared.entry.Entry.{Entry}
use Rattle.round_model.specs.declared.plan.Plan.{Plan}
use Rattle.round_model.specs.declared.state.CountAndLoad.{CountAndLoad}
use Rattle.round_model.specs.declared.state.ModelCore.{ModelCore}
use Rattle.round_model.specs.After.{after, round_of}
use Rattle.round_model.specs.Reads.{value_read}
use Rattle.round_model.specs.Scenes.{waking_next}
use Rattle.core_state.specs.declared.logged.Logged.{Logged}
use Rattle.core_state.specs.Views.{CoreView}
use Rattle.core_table.specs.declared.slots.Slot.{Slot}
use Rattle.core_table.specs.declared.views.HeldCore.{HeldCore}
use Rattle.core_table.specs.declared.views.Role.{Role}
use Rattle.core_table.specs.declared.views.Role.TheVariants as role
use Rattle.core_table.specs.declared.views.View.{View}
use Rattle.core_table.specs.Words.{word_of}
use Rattle.core_table.specs.Views.{but_newest, giving, is_live, is_without_due, meaning_in, remembering, slot_of, taken, version_of}
use Rattle.core_table.specs.Told.{Each, IsAmong, IsHeldNow, IsTrueRole}
use Rattle.core_table.specs.Rule.{IsSeated, Keep, TableHolds}
use Rattle.core_table.specs.Plays.{SeatNow, gives_back}
use Rattle.core_table.specs.Seats.{IsNewest}
use Rattle.core_table.proofs.Histories.{bool_cases}
use Rattle.core_table.proofs.Parts.{AllHold, AreKept, CoreHolds, agrees, parted, whole}
use Rattle.core_table.proofs.Frames.{KeepsRole, fresh_stays, one_core, put, put_else, seat_there}
use Rattle.core_table.proofs.Words.{history_low, seen_low, version_low}

-- The mark that nothing is due.
any_of : {X : Type 0} (test : X → Bool) (xs : List X) → list_any test xs ≡ true → (i : ℕ) × (x : X) × (get_elem? xs i ≡ some x) × (test x ≡ true)
any_of test [] is = absurd (true≢false (sym is))
any_of test (x ∷ xs) is = ⊎_elim
    (λ (yes : test x ≡ true). (0, x, refl, yes))
    (λ (no : test x ≡ false). let t = any_of test xs (sym (ap (λ b. b || list_any test xs) no) ∙ is) in (suc t.0, t.1, t.2, t.3))
    (bool_cases (test x))

none_of : {X : Type 0} (o : Maybe X) → is_none o ≡ true → IsNone o
none_of None is = refl
none_of (Some x) is = absurd (true≢false (sym is))

both_are : (a b : Bool) → (a && b) ≡ true → (a ≡ true) × (b ≡ true)
both_are true b is = (refl, is)
both_are false b is = absurd (true≢false (sym is))

one_is : (a b : Bool) → (a || b) ≡ true → a ≡ false → b ≡ true
one_is true b is not = absurd (true≢false not)
one_is false b is not = is

-- a held core with that mark is one of which nothing is due
none_due_of : (p : Meaning) (plan : Plan) (h : List Entry) (round c : ℕ) (held : List HeldCore) → round ≡ round_of h → Each (IsHeldNow p plan h) held → list_any (is_without_due round c) held ≡ true
    → IsNone (waking_next (round_of h) (after p plan h c))
none_due_of p plan h round c held date now is =
    let t = any_of (is_without_due round c) held is in let x : HeldCore = t.1 in let b = both_are (eqb x.core c) (is_none (waking_next round x.state.core)) t.3 in
    let test : eqb x.core c ≡ true = b.0 in let hit : x.core ≡ c = grind (arith, nat_tests) in
    subst (λ (z : ℕ × ModelCore). IsNone (waking_next z.0 z.1)) (λ i. (date i, ((now t.0 x t.2).now.core ∙ ap (after p plan h) hit) i)) (none_of (waking_next round x.state.core) b.1)

module _ (p : Meaning) (plan : Plan) (h : List Entry) (round : ℕ) (held : List HeldCore) (date : round ≡ round_of h) (now : Each (IsHeldNow p plan h) held) where
  remembers : (own : List Logged) (role : Role) → IsTrueRole p plan h own role → IsTrueRole p plan h own (remembering round held role)
  remembers own (role.Opening merged turns) t = t
  remembers own (role.Core c none_due) t = record {
    there = t.there;
    begun = t.begun;
    is_own = t.is_own;
    due = λ marked. ⊎_elim (λ (yes : none_due ≡ true). t.due yes)
        (λ (no : none_due ≡ false). none_due_of p plan h round c held date now (one_is none_due (list_any (is_without_due round c) held) marked no))
        (bool_cases none_due);
  }
  remembers own role.Spent t = tt

remembers_seat : (away : ℕ → Option ℕ) (lead j round : ℕ) (held : List HeldCore) (role : Role) → IsSeated away lead j role → IsSeated away lead j (remembering round held role)
remembers_seat away lead j round held (role.Opening merged turns) seat = seat
remembers_seat away lead j round held (role.Core c none_due) seat = seat
remembers_seat away lead j round held role.Spent seat = seat

remembers_live : (round : ℕ) (held : List HeldCore) (role : Role) → is_live (remembering round held role) ≡ is_live role
unfolding is_live
remembers_live round held (role.Opening merged turns) = refl
remembers_live round held (role.Core c none_due) = refl
remembers_live round held role.Spent = refl

pub giving_live : (v : View) → is_live v.role ≡ true → is_live (giving v).role ≡ true
giving_live v live = remembers_live v.round v.held v.role ∙ live

remembers_part : (v : View) → KeepsRole v (giving v)
remembers_part v = record {
  core = λ c t. record { none_due = t.none_due || list_any (is_without_due v.round c) v.held; role = ap (remembering v.round v.held) t.role };
  opening = λ t. record { merged = t.merged; turns = t.turns; role = ap (remembering v.round v.held) t.role };
}

-- a core comes home, and its word loses the mark
comes_home : (p : Meaning) (plan : Plan) (h : List Entry) (ws : List ℕ) (homes : List (Option Slot)) (c id x : ℕ) (y : CoreView) (q : ℕ) → c + 1 < length ws → c < length homes → q ≡ version_of plan.cores c y
    → x ≡ word_of q (value_read p plan h c q) → CoreHolds p plan h ws homes c (record { owner = some id; state = y; version = q })
    → CoreHolds p plan h (set ws (c + 1) x) (set homes c (some (slot_of plan.cores c y))) c (record { owner = none; state = y; version = q })
comes_home p plan h ws homes c id x y q near deep current is ok = record {
  now = ok.now;
  word = get_or-set_same ws (c + 1) x 0 near ∙ (is ∙ (let seen : CountAndLoad = value_read p plan h c q in let g : word_of q seen ≡ word_of q seen + 0 = omega arith in g));
  prefix = ok.prefix;
  current = λ _. current;
  settled = ok.settled;
  home = λ _. set_here homes c _ deep;
  out = λ j e. absurd (some-ne-none j (sym e));
}

-- what the seat holds but for what was taken last
earlier_among : (x : HeldCore) (xs : List HeldCore) (d : ℕ) → d ≢ x.core → IsAmong (x ∷ xs) d → IsAmong xs d
earlier_among x xs d other t = by_place t.place t.of t.there t.core
  where
    by_place : (i : ℕ) (y : HeldCore) → get_elem? (x ∷ xs) i ≡ some y → y.core ≡ d → IsAmong xs d
    by_place zero y at core = absurd (other (sym core ∙ ap (λ (z : HeldCore). z.core) (sym (some-injective x y at))))
    by_place (suc i) y at core = record { place = i; of = y; there = at; core = core }

earlier_kept : (plan : Plan) (keeps : ℕ → Keep) (id : ℕ) (k : Keep) (x : HeldCore) (xs : List HeldCore) → Each (λ (y : HeldCore). y.core ≢ x.core) xs → AreKept plan keeps id (x ∷ xs) → AreKept plan (put keeps x.core k) id xs
earlier_kept plan keeps id k x xs others are i y at = let t = are (suc i) y at in (t.0, put_else keeps x.core k y.core (others i y at) ∙ t.1)

-- the seat gives back what it took last
pub gives_on : (slots id : ℕ) (me : SeatNow) (c : ℕ) (y : CoreView) (earlier : List HeldCore) → is_live me.0.role ≡ true → IsNewest me.0 c y earlier → me.1 ≡ (c, slot_of me.0.plan.cores c y) ∷ rest me.1
    → Allows (TableHolds (meaning_in me.0) me.0.plan) slots id me (c + 1) (λ w. (w + (2 ^ 64 - 9223372036854775808)) % 2 ^ 64) (gives_back (step slots (c + 1) 9223372036854775808 0 none) me)
gives_on slots id me c y earlier live newest carried s holds deep at small =
    let p : Meaning = meaning_in me.0 in let plan : Plan = me.0.plan in let r : AllHold p plan s = parted p plan s holds in let h : List Entry = r.history in let seat = r.each_seat id me.0 at in
    let x : HeldCore = taken plan.cores c y in let are : AreKept plan r.keeps id (x ∷ earlier) = subst (AreKept plan r.keeps id) newest.held seat.held in
    let t = are 0 x refl in let within : c ≤ plan.cores = t.0 in let w : ℕ = get_or s.words (c + 1) 0 in let q : ℕ = version_of plan.cores c y in let k : Keep = record { owner = none; state = y; version = q } in
    let owner = ap (λ (z : Keep). z.owner) t.1 in let ver = ap (λ (z : Keep). z.version) t.1 in let ok = subst (CoreHolds p plan h s.words s.homes c) t.1 (r.each_core c within) in
    let seen : CountAndLoad = value_read p plan h c q in
    let few = subst (λ (z : ℕ). ((value_read p plan h c z).nr ≤ 1023) × ((value_read p plan h c z).load ≤ 1072692225)) ver (seen_low p plan s r c within) in let nr = few.0 in let load = few.1 in
    let low = version_low p plan s r c within in let size = history_low p plan s r in
    let word : w ≡ q * 1099511627776 + seen.nr * 1073741824 + seen.load + 9223372036854775808 = ok.word in
    let less : (w + 9223372036854775808) % 18446744073709551616 ≡ q * 1099511627776 + seen.nr * 1073741824 + seen.load = omega arith in let slot : Slot = slot_of plan.cores c y in
    let new : ℕ = (w + 9223372036854775808) % 18446744073709551616 in
    let v : View = giving me.0 in let rest_is : v.held ≡ earlier = ap but_newest newest.held in let date = (seat.dated live).round in
    let kept : AllHold p plan record { words = set s.words (c + 1) new; homes = set s.homes c (some slot); views = set s.views id v } = one_core p plan s r id me.0 v at c k new (set s.homes c (some slot))
    (length-set s.homes c _) (λ j other. set_else s.homes c j _ other) (λ j other e. other (sym (some-injective id j (sym owner ∙ e)))) (omega arith)
    (λ j e. absurd (some-ne-none j (sym e)))
    (λ d other g. subst (λ (l : List HeldCore). IsAmong l d) (sym rest_is) (earlier_among x earlier d other (subst (λ (l : List HeldCore). IsAmong l d) newest.held g)))
    (remembers_part me.0)
    (comes_home p plan h s.words s.homes c id new y q (omega (arith, r.wide)) (omega (arith, r.deep)) refl less ok) record {
      dated = λ _. record { round = (seat.dated live).round; start = (seat.dated live).start };
      role = remembers p plan h me.0.round me.0.held date (agrees s id me.0 r at live).held me.0.own me.0.role seat.role;
      seated = remembers_seat r.away r.lead id me.0.round me.0.held me.0.role seat.seated;
      spent = λ dead. absurd (true≢false (sym (giving_live me.0 live) ∙ dead));
      opening = λ _. (refl, refl);
      notes = seat.notes;
      fresh = fresh_stays r.keeps c k h me.0.notes (omega arith) seat.fresh;
      held = subst (AreKept plan (put r.keeps c k) id) (sym rest_is) (earlier_kept plan r.keeps id k x earlier newest.apart are);
    } in (
      v,
      gives,
      tt,
      subst (λ (cs : List (ℕ × Slot)). TableHolds p plan (stepped s (c + 1) new id cs v gives)) (sym carried) (whole p plan _ kept),
      record { now = refl; known = (kept.history, agrees _ id v kept (seat_there p plan s r id me.0 v at id refl) (giving_live me.0 live)) },
    )
