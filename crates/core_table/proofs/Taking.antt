-- A hold keeps the rule, whether it finds the core or not.
use Rattle.std.proofs.Common.{◌≡◌, ℕ, ◌+◌, ◌-◌, ◌*◌, ◌<◌, ◌≤◌, max, true, List, ◌∷◌, length, get_or, set, sym, refl, ap, ◌∙◌, subst, ⊎_elim, arith, length-set, get_or-set_same, bit_or}
use Rattle.std.proofs.lemmas.Bool.{true≢false}
use mathlib.Core.Option.{Option, none, some, some-ne-none, some-injective}
use lib.ListN.{get_elem?}
use lib.Seq.{set-get_or}
use Rattle.atomic_table.specs.Table.{Allows, keeps, step, stepped, takes}
use Rattle.atomic_table.proofs.Lists.{set_else, set_here}
use Rattle.policy_tree.specs.Meaning.{Meaning}
use Rattle.round_model.specs.declared.entry.Entry.{Entry}
use Rattle.round_model.specs.declared.plan.Plan.{Plan}
use Rattle.round_model.specs.declared.state.CountAndLoad.{CountAndLoad}
use Rattle.round_model.specs.Reads.{round_start, value_read}
use Rattle.core_state.specs.Views.{CoreView}
use Rattle.core_table.specs.declared.slots.Slot.{Slot}
use Rattle.core_table.specs.declared.views.HeldCore.{HeldCore}
use Rattle.core_table.specs.declared.views.Note.{Note}
use Rattle.core_table.specs.Words.{mark_of, out_mark, word_of}
use Rattle.core_table.specs.Views.{holding, is_live, meaning_in, note_of_core, slot_of, taken, version_of}
use Rattle.core_table.specs.Told.{IsCoreNow, IsTrueNote}
use Rattle.core_table.specs.Rule.{Keep, TableHolds, kept_by}
use Rattle.core_table.specs.Plays.{SeatNow, Tries, tries}
use Rattle.core_table.proofs.Histories.{version_core}
use Rattle.core_table.proofs.Parts.{AllHold, CoreHolds, Now, SeatHolds, agrees, parted, whole}
use Rattle.core_table.proofs.Frames.{among_later, at_front, fresh_stays, has_owner, held_stays, one_core, put, put_here, same_role, seat_there, still}
use Rattle.core_table.proofs.Words.{current_true, each_found, history_low, or_mark, or_mark_same, seen_low, version_low}

-- the slot is empty now, and the word is marked
goes_out : (p : Meaning) (plan : Plan) (h : List Entry) (ws : List ℕ) (homes : List (Option Slot)) (c id : ℕ) (y : CoreView) (q : ℕ) → c + 1 < length ws → c < length homes
    → CoreHolds p plan h ws homes c (record { owner = none; state = y; version = q })
    → CoreHolds p plan h (set ws (c + 1) (get_or ws (c + 1) 0 + out_mark)) (set homes c none) c (record { owner = some id; state = y; version = q })
goes_out p plan h ws homes c id y q near deep ok = record {
  now = ok.now;
  word = get_or-set_same ws (c + 1) _ 0 near ∙ (let w = ok.word in let seen : CountAndLoad = value_read p plan h c q in
      let is : get_or ws (c + 1) 0 ≡ word_of q seen + 0 = w in let g : get_or ws (c + 1) 0 + 9223372036854775808 ≡ word_of q seen + 9223372036854775808 = omega arith in g);
  prefix = ok.prefix;
  current = λ e. absurd (some-ne-none id e);
  settled = ok.settled;
  home = λ e. absurd (some-ne-none id e);
  out = λ _ _. set_here homes c none deep;
}

module _ (s : Now) (me : SeatNow) (r : AllHold (meaning_in me.0) me.0.plan s) (id c : ℕ) (y : CoreView) (inside : c ≤ me.0.plan.cores) (live : is_live me.0.role ≡ true) (at : get_elem? s.views id ≡ some me.0)
    (home : r.keeps c ≡ record { owner = none; state = y; version = version_of me.0.plan.cores c y }) where
  abbrev k : Keep
  k = kept_by id (taken me.0.plan.cores c y)

  now_is : IsCoreNow (meaning_in me.0) me.0.plan r.history c y
  now_is = subst (λ (z : Keep). IsCoreNow (meaning_in me.0) me.0.plan r.history c z.state) home (r.each_core c inside).now

  -- the seat with the core in its hands
  knows_held : SeatHolds (meaning_in me.0) me.0.plan r.history (put r.keeps c (kept_by id (taken me.0.plan.cores c y))) r.away r.lead id (holding c y me.0)
  knows_held =
      let seat = r.each_seat id me.0 at in let date = (seat.dated live).start in
      let free : (r.keeps c).owner ≡ none = ap (λ (z : Keep). z.owner) home in let ver = ap (λ (z : Keep). z.version) home in record {
        dated = λ l. record { round = (seat.dated l).round; start = (seat.dated l).start };
        role = seat.role;
        seated = seat.seated;
        spent = λ dead. absurd (true≢false (sym live ∙ dead));
        opening = λ l. seat.opening l;
        notes = each_found (IsTrueNote (meaning_in me.0) me.0.plan r.history) me.0.plan.cores me.0.start c y me.0.notes
            (λ miss. subst (λ (q : ℕ). IsTrueNote (meaning_in me.0) me.0.plan r.history (note_of_core q c y)) (sym date)
            (current_true (meaning_in me.0) me.0.plan r.history c y (omega arith) now_is))
            seat.notes;
        fresh = each_found (λ (x : Note). x.at ≤ max (round_start r.history) (put r.keeps c k x.core).version) me.0.plan.cores me.0.start c y me.0.notes
            (λ miss. let a = ap (λ (z : Keep). z.version) (put_here r.keeps c k c refl) in let b = version_core me.0.plan.cores c y.log miss in omega arith)
            (fresh_stays r.keeps c k r.history me.0.notes (omega arith) seat.fresh);
        held = λ i x e. ⊎_elim
            (λ (new : taken me.0.plan.cores c y ≡ x). subst (λ (z : HeldCore). (z.core ≤ me.0.plan.cores) × (put r.keeps c k z.core ≡ kept_by id z)) new (inside, put_here r.keeps c k c refl))
            (λ (old : (i : ℕ) × (get_elem? me.0.held i ≡ some x)). held_stays r.keeps c k me.0.plan id me.0.held (λ q. some-ne-none id (sym q ∙ free)) seat.held old.0 x old.1)
            (at_front (taken me.0.plan.cores c y) me.0.held i x e);
      }

  held_kept : AllHold (meaning_in me.0) me.0.plan record { words = set s.words (c + 1) (get_or s.words (c + 1) 0 + out_mark); homes = set s.homes c none; views = set s.views id (holding c y me.0) }
  held_kept =
      let ok = r.each_core c inside in let free = ap (λ (z : Keep). z.owner) home in let ver = ap (λ (z : Keep). z.version) home in
      one_core (meaning_in me.0) me.0.plan s r id me.0 (holding c y me.0) at c k (get_or s.words (c + 1) 0 + out_mark) (set s.homes c none)
      (length-set s.homes c none) (λ j other. set_else s.homes c j none other) (λ j _ e. some-ne-none j (sym e ∙ free)) (omega arith)
      (λ j e. (sym (some-injective id j e), record { place = 0; of = taken me.0.plan.cores c y; there = refl; core = refl })) (λ d _ t. among_later (taken me.0.plan.cores c y) me.0.held d t)
      (same_role me.0 (holding c y me.0) refl)
      (goes_out (meaning_in me.0) me.0.plan r.history s.words s.homes c id y (version_of me.0.plan.cores c y) (omega (arith, r.wide)) (omega (arith, r.deep)) (subst (CoreHolds (meaning_in me.0) me.0.plan r.history s.words s.homes c) home ok))
      knows_held

pub takes_or_not : (slots id : ℕ) (me : SeatNow) (c : ℕ) → c ≤ me.0.plan.cores → is_live me.0.role ≡ true
    → Allows (TableHolds (meaning_in me.0) me.0.plan) slots id me (c + 1) (λ w. bit_or w 9223372036854775808) (tries (step slots (c + 1) 9223372036854775808 0 none) me)
takes_or_not slots id me c inside live s holds deep at small =
    let p : Meaning = meaning_in me.0 in let plan : Plan = me.0.plan in let r : AllHold p plan s = parted p plan s holds in
    let w : ℕ = get_or s.words (c + 1) 0 in let k : Keep = r.keeps c in let ok = r.each_core c inside in let seen : CountAndLoad = value_read p plan r.history c k.version in
    let v = version_low p plan s r c inside in let b = history_low p plan s r in let few = seen_low p plan s r c inside in let nr = few.0 in let load = few.1 in let index : c + 1 - 1 ≡ c = omega arith in
    ⊎_elim
    (λ (free : k.owner ≡ none).
    let y : CoreView = k.state in
    let word : w ≡ k.version * 1099511627776 + seen.nr * 1073741824 + seen.load + 0 = ok.word ∙ ap (λ o. word_of k.version seen + mark_of o) free in
    let low : w < 9223372036854775808 = omega arith in
    let home : k ≡ record { owner = none; state = y; version = version_of plan.cores c y } = λ i. record { owner = free i; state = y; version = ok.current free i } in
    let kept = held_kept s me r id c y inside live at home in (
      holding c y me.0,
      takes c (slot_of plan.cores c y),
      ok.home free,
      subst (λ (x : ℕ). TableHolds p plan (stepped s (c + 1) x id me.1 (holding c y me.0) (takes c (slot_of plan.cores c y)))) (sym (or_mark w low)) (whole p plan _ kept),
      subst (λ (z : ℕ). Tries z me w (holding c y me.0, (c, slot_of plan.cores c y) ∷ me.1)) (sym index)
          (record { free = λ _. record { state = y; now = refl; known = (kept.history, agrees _ id (holding c y me.0) kept (seat_there p plan s r id me.0 (holding c y me.0) at id refl) live) }; taken = λ high. absurd (omega arith) }),
    ))
    (λ (t : (j : ℕ) × (k.owner ≡ some j)).
    let word : w ≡ k.version * 1099511627776 + seen.nr * 1073741824 + seen.load + 9223372036854775808 = ok.word ∙ ap (λ o. word_of k.version seen + mark_of o) t.1 in
    let high : 9223372036854775808 ≤ w = omega arith in (
      me.0,
      keeps,
      tt,
      subst (λ (ws : List ℕ). TableHolds p plan record { words = ws; homes = s.homes; views = set s.views id me.0 }) (sym (ap (set s.words (c + 1)) (or_mark_same w high small) ∙ set-get_or s.words (c + 1) 0))
          (whole p plan _ (still p plan s r id me.0 me.0 at (same_role me.0 me.0 refl) (λ _ g. g) (r.each_seat id me.0 at))),
      subst (λ (z : ℕ). Tries z me w me) (sym index) (record { free = λ low. absurd (omega arith); taken = λ _. refl }),
    ))
    (has_owner k.owner)
