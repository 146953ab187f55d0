-- A read keeps the rule, and so does a load that only tells.
use Rattle.std.proofs.Common.{◌≡◌, ℕ, ◌+◌, ◌-◌, ◌<◌, ◌≤◌, max, true, List, get_or, set, sym, refl, ap, ◌∙◌, subst, arith}
use Rattle.std.proofs.lemmas.Bool.{true≢false}
use mathlib.Core.Option.{none}
use lib.Seq.{set-get_or}
use Rattle.atomic_table.specs.Table.{Allows, keeps, step}
use Rattle.policy_tree.specs.Meaning.{Meaning}
use Rattle.round_model.specs.declared.entry.Entry.{Entry}
use Rattle.round_model.specs.declared.plan.Plan.{Plan}
use Rattle.round_model.specs.Reads.{round_start, value_read}
use Rattle.core_table.specs.declared.views.Note.{Note}
use Rattle.core_table.specs.declared.views.View.{View}
use Rattle.core_table.specs.Views.{is_live, meaning_in, note_of_word, noted, noting}
use Rattle.core_table.specs.Told.{IsTrueNote}
use Rattle.core_table.specs.Rule.{TableHolds}
use Rattle.core_table.specs.Plays.{Reads, SeatNow, reads, tells}
use Rattle.core_table.proofs.Parts.{AllHold, agrees, parted, whole}
use Rattle.core_table.proofs.Frames.{same_role, seat_there, still}
use Rattle.core_table.proofs.Words.{each_more, note_is, shown_true}

pub reads_on : (slots id : ℕ) (me : SeatNow) (c : ℕ) → c < me.0.plan.cores → is_live me.0.role ≡ true
    → Allows (TableHolds (meaning_in me.0) me.0.plan) slots id me (c + 1) (λ w. w) (reads (step slots (c + 1) 0 0 none) me)
reads_on slots id me c inside live s holds deep at small =
    let p : Meaning = meaning_in me.0 in let plan : Plan = me.0.plan in let r : AllHold p plan s = parted p plan s holds in let h : List Entry = r.history in
    let w : ℕ = get_or s.words (c + 1) 0 in let seat = r.each_seat id me.0 at in let within : c ≤ plan.cores = omega arith in let index : c + 1 - 1 ≡ c = omega arith in
    let date : me.0.start ≡ round_start h = (seat.dated live).start in let x : Note = note_of_word me.0.start c w in let v : View = noting x me.0 in
    let is : x ≡ noted c (max (round_start h) (r.keeps c).version) (value_read p plan h c (r.keeps c).version) = ap (λ q. note_of_word q c w) date ∙ note_is p plan s r c within in
    let at_is : x.at ≡ max (round_start h) (r.keeps c).version = ap (λ (z : Note). z.at) is in
    let kept : AllHold p plan record { words = s.words; homes = s.homes; views = set s.views id v } = still p plan s r id me.0 v at (same_role me.0 v refl) (λ _ g. g) record {
      dated = λ l. record { round = (seat.dated l).round; start = (seat.dated l).start };
      role = seat.role;
      seated = seat.seated;
      spent = λ dead. absurd (true≢false (sym live ∙ dead));
      opening = λ l. seat.opening l;
      notes = each_more (IsTrueNote p plan h) x me.0.notes (subst (IsTrueNote p plan h) (sym is) (shown_true p plan h s.words s.homes c (r.keeps c) inside (r.each_core c within))) seat.notes;
      fresh = each_more (λ (z : Note). z.at ≤ max (round_start h) (r.keeps z.core).version) x me.0.notes (omega arith) seat.fresh;
      held = seat.held;
    } in (
      v,
      keeps,
      tt,
      subst (λ (ws : List ℕ). TableHolds p plan record { words = ws; homes = s.homes; views = set s.views id v }) (sym (set-get_or s.words (c + 1) 0)) (whole p plan _ kept),
      subst (λ (z : ℕ). Reads z me w (v, me.1)) (sym index) record {
        seat = refl;
        known = (kept.history, agrees _ id v kept (seat_there p plan s r id me.0 v at id refl) live);
        latest = λ i y e same. let f = seat.fresh i y e in let g = ap (λ q. (r.keeps q).version) same in omega arith;
      },
    )

pub tells_on : (slots id : ℕ) (me : SeatNow) → is_live me.0.role ≡ true → Allows (TableHolds (meaning_in me.0) me.0.plan) slots id me 0 (λ w. w) (tells (step slots 0 0 0 none) me)
tells_on slots id me live s holds deep at small =
    let p : Meaning = meaning_in me.0 in let plan : Plan = me.0.plan in let r : AllHold p plan s = parted p plan s holds in (
      me.0,
      keeps,
      tt,
      subst (λ (ws : List ℕ). TableHolds p plan record { words = ws; homes = s.homes; views = set s.views id me.0 }) (sym (set-get_or s.words 0 0))
          (whole p plan _ (still p plan s r id me.0 me.0 at (same_role me.0 me.0 refl) (λ _ g. g) (r.each_seat id me.0 at))),
      record { same = refl; known = (r.history, agrees s id me.0 r at live) },
    )
