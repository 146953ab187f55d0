-- A publish keeps the rule.
use Rattle.std.proofs.Common.{◌≡◌, ℕ, ◌+◌, ◌-◌, ◌<◌, ◌≤◌, max, true, cond, List, map, length, take, set, sym, refl, ap, ◌∙◌, subst, arith, get_or-set_same, eq-eqb, ne_eqb}
use Rattle.std.proofs.lemmas.Bool.{true≢false}
use mathlib.Core.Option.{Option, none, some, some-ne-none, some-injective}
use mathlib.Core.Logic.{dite}
use native.Mathlib.Decide.{ℕ_discrete}
use Rattle.atomic_table.specs.Table.{Allows, keeps, step}
use Rattle.atomic_table.proofs.Lists.{at_map}
use Rattle.policy_tree.specs.Meaning.{Meaning}
use Rattle.round_model.specs.declared.entry.Entry.{Entry}
use Rattle.round_model.specs.declared.plan.Plan.{Plan}
use Rattle.round_model.specs.declared.state.CountAndLoad.{CountAndLoad}
use Rattle.round_model.specs.Cores.{seen_of}
use Rattle.round_model.specs.Entries.{touches}
use Rattle.round_model.specs.Reads.{round_start, value_read}
use Rattle.round_model.proofs.Longer.{start_within}
use Rattle.sched_base.specs.declared.limits.TheConstants.{MAX_LOAD, MAX_THREADS}
use Rattle.core_state.specs.Logs.{after_last}
use Rattle.core_state.specs.Views.{CoreView}
use Rattle.core_state.proofs.Quiet.{last_within}
use Rattle.core_table.specs.declared.slots.Slot.{Slot}
use Rattle.core_table.specs.declared.views.HeldCore.{HeldCore}
use Rattle.core_table.specs.declared.views.Note.{Note}
use Rattle.core_table.specs.declared.views.View.{View}
use Rattle.core_table.specs.Logs.{log_at}
use Rattle.core_table.specs.Words.{out_mark, word_of}
use Rattle.core_table.specs.Views.{is_live, meaning_in, note_of_core, note_of_word, published, publishing_word, version_of, version_of_log}
use Rattle.core_table.specs.Told.{IsAmong, IsCoreNow, IsTrueNote}
use Rattle.core_table.specs.Rule.{Keep, TableHolds, kept_by}
use Rattle.core_table.specs.Plays.{Publishes, SeatNow, publishes}
use Rattle.core_table.specs.Public.{HasCore}
use Rattle.core_table.proofs.Histories.{loads_fit, none_later, prefix_low, prefix_whole, settled, version_core, version_within}
use Rattle.core_table.proofs.Parts.{AllHold, AreKept, CoreHolds, agrees, parted, whole}
use Rattle.core_table.proofs.Frames.{fresh_stays, map_at, one_core, put, put_else, put_here, same_role, seat_there}
use Rattle.core_table.proofs.Words.{current_true, each_more, history_low, log_now, note_says, word_says}

pub published_core : (n c : ℕ) (x : HeldCore) → (published n c x).core ≡ x.core
published_core n c x = dite (ℕ_discrete x.core c)
    (λ hit. ap (λ (z : HeldCore). z.core) (ap (λ b. cond b (record x { version = version_of n x.core x.state }) x) (eq-eqb x.core c hit)))
    (λ miss. ap (λ (z : HeldCore). z.core) (ap (λ b. cond b (record x { version = version_of n x.core x.state }) x) (ne_eqb x.core c miss)))

pub published_state : (n c : ℕ) (x : HeldCore) → (published n c x).state ≡ x.state
published_state n c x = dite (ℕ_discrete x.core c)
    (λ hit. ap (λ (z : HeldCore). z.state) (ap (λ b. cond b (record x { version = version_of n x.core x.state }) x) (eq-eqb x.core c hit)))
    (λ miss. ap (λ (z : HeldCore). z.state) (ap (λ b. cond b (record x { version = version_of n x.core x.state }) x) (ne_eqb x.core c miss)))

published_among : (n c : ℕ) (held : List HeldCore) (d : ℕ) → IsAmong held d → IsAmong (map (published n c) held) d
published_among n c held d t = record {
  place = t.place;
  of = published n c t.of;
  there = at_map (published n c) held t.place t.of t.there;
  core = published_core n c t.of ∙ t.core;
}

-- the version of a core as it is, and what is read there
version_now : (p : Meaning) (plan : Plan) (h : List Entry) (c : ℕ) (y : CoreView) → IsCoreNow p plan h c y → version_of plan.cores c y ≡ version_of_log plan.cores c (log_at plan.cores c h)
version_now p plan h c y now = ap (version_of_log plan.cores c) now.log

seen_now : (p : Meaning) (plan : Plan) (h : List Entry) (c : ℕ) (y : CoreView) → c < plan.cores → IsCoreNow p plan h c y → value_read p plan h c (version_of plan.cores c y) ≡ seen_of y.core
seen_now p plan h c y low now =
    let is = version_core plan.cores c y.log (λ e. omega arith) in let last = log_now p plan h c y (λ e. omega arith) now in let within = last_within (touches c) h in
    ap seen_of (settled p plan c h (version_of plan.cores c y) (omega arith) (omega arith) ∙ sym now.core)

-- the word becomes that of the core as its holder has it
shows : (p : Meaning) (plan : Plan) (h : List Entry) (ws : List ℕ) (homes : List (Option Slot)) (c id : ℕ) (y : CoreView) (q : ℕ) → c < plan.cores → c + 1 < length ws
    → CoreHolds p plan h ws homes c (record { owner = some id; state = y; version = q })
    → CoreHolds p plan h (set ws (c + 1) (word_of (version_of plan.cores c y) (seen_of y.core) + out_mark)) homes c (record { owner = some id; state = y; version = version_of plan.cores c y })
shows p plan h ws homes c id y q inside near ok =
    let v : ℕ = version_of plan.cores c y in let is = version_core plan.cores c y.log (λ e. omega arith) in let last = log_now p plan h c y (λ e. omega arith) ok.now in let start = start_within h in record {
      now = ok.now;
      word = get_or-set_same ws (c + 1) _ 0 near ∙ ap (λ (seen : CountAndLoad). word_of v seen + out_mark) (sym (seen_now p plan h c y inside ok.now));
      prefix = version_now p plan h c y ok.now ∙ (prefix_whole plan.cores c h ∙ ap (λ k. version_of_log plan.cores c (log_at plan.cores c (take k h))) (sym (version_now p plan h c y ok.now)));
      current = λ e. absurd (some-ne-none id e);
      settled = λ low k e late before is_there. none_later (touches c) h k e (omega arith) (omega arith) is_there;
      home = λ e. absurd (some-ne-none id e);
      out = ok.out;
    }

module _ (plan : Plan) (keeps : ℕ → Keep) (id c : ℕ) (held : List HeldCore) (y : CoreView) (are : AreKept plan keeps id held) (state : (keeps c).state ≡ y) where
  abbrev shown : Keep
  shown = record { owner = some id; state = y; version = version_of plan.cores c y }

  published_kept : AreKept plan (put keeps c (record { owner = some id; state = y; version = version_of plan.cores c y })) id (map (published plan.cores c) held)
  published_kept i z e =
      let o = map_at (published plan.cores c) held i z e in let x : HeldCore = o.0 in let u = are i x o.1 in dite (ℕ_discrete x.core c)
      (λ hit.
      let is : record x { version = version_of plan.cores x.core x.state } ≡ z = sym (ap (λ b. cond b (record x { version = version_of plan.cores x.core x.state }) x) (eq-eqb x.core c hit)) ∙ o.2 in
      let same : y ≡ x.state = sym state ∙ (ap (λ d. (keeps d).state) (sym hit) ∙ ap (λ (q : Keep). q.state) u.1) in
      subst (λ (q : HeldCore). (q.core ≤ plan.cores) × (put keeps c shown q.core ≡ kept_by id q)) is
      (u.0, put_here keeps c shown x.core hit ∙ (λ i. record { owner = some id; state = same i; version = version_of plan.cores (sym hit i) (same i) })))
      (λ miss.
      let is : x ≡ z = sym (ap (λ b. cond b (record x { version = version_of plan.cores x.core x.state }) x) (ne_eqb x.core c miss)) ∙ o.2 in
      subst (λ (q : HeldCore). (q.core ≤ plan.cores) × (put keeps c shown q.core ≡ kept_by id q)) is (u.0, put_else keeps c shown x.core miss ∙ u.1))

-- the seat holds the core, and the word becomes that of the core as it is
pub publishes_on : (slots id : ℕ) (me : SeatNow) (c : ℕ) (y : CoreView) (new : ℕ) → c < me.0.plan.cores → is_live me.0.role ≡ true → HasCore me.0 c y
    → new ≡ word_of (version_of me.0.plan.cores c y) (seen_of y.core) + out_mark
    → Allows (TableHolds (meaning_in me.0) me.0.plan) slots id me (c + 1) (λ _. new) (λ _. publishes (step slots (c + 1) new 0 none) me new)
publishes_on slots id me c y new inside live has is s holds deep at small =
    let p : Meaning = meaning_in me.0 in let plan : Plan = me.0.plan in let r : AllHold p plan s = parted p plan s holds in let h : List Entry = r.history in
    let seat = r.each_seat id me.0 at in let x : HeldCore = has.of in let t = seat.held has.place x has.there in let within : c ≤ plan.cores = omega arith in let index : c + 1 - 1 ≡ c = omega arith in
    let mine : r.keeps c ≡ record { owner = some id; state = y; version = x.version } = ap r.keeps (sym has.core) ∙ (t.1 ∙ (λ i. record { owner = some id; state = has.state i; version = x.version })) in
    let owner = ap (λ (z : Keep). z.owner) mine in let ver = ap (λ (z : Keep). z.version) mine in
    let v : ℕ = version_of plan.cores c y in let k : Keep = record { owner = some id; state = y; version = v } in
    let ok = subst (CoreHolds p plan h s.words s.homes c) mine (r.each_core c within) in
    let low = prefix_low plan.cores c x.version h ok.prefix in let now_is = version_now p plan h c y ok.now in let size = version_within plan.cores c h in let few = history_low p plan s r in
    let loads = loads_fit p plan h c v r.fits r.handlers r.legal inside in let seen = seen_now p plan h c y inside ok.now in
    let fit = subst (λ (z : CountAndLoad). (z.nr ≤ MAX_THREADS) × (z.load ≤ MAX_LOAD)) seen loads in
    let says = word_says new v (seen_of y.core) (some id) (omega arith) fit.0 fit.1 is in
    let date : me.0.start ≡ round_start h = (seat.dated live).start in let last : v ≡ after_last 0 y.log = version_core plan.cores c y.log (λ e. omega arith) in
    let w : View = publishing_word c new me.0 in let note : Note = note_of_word me.0.start c new in
    let note_is : note ≡ note_of_core (round_start h) c y = note_says me.0.start c new v (seen_of y.core) says.0 says.1 ∙ (λ i. record { core = c; at = max (date i) (last i); seen = seen_of y.core }) in
    let at_is = ap (λ (z : Note). z.at) note_is in
    let kept : AllHold p plan record { words = set s.words (c + 1) new; homes = s.homes; views = set s.views id w } = one_core p plan s r id me.0 w at c k new s.homes refl (λ _ _. refl)
    (λ j other e. other (sym (some-injective id j (sym owner ∙ e)))) (omega arith)
    (λ j e. (sym (some-injective id j e), published_among plan.cores c me.0.held c (record { place = has.place; of = x; there = has.there; core = has.core })))
    (λ d _. published_among plan.cores c me.0.held d) (same_role me.0 w refl)
    (subst (λ (z : ℕ). CoreHolds p plan h (set s.words (c + 1) z) s.homes c k) (sym is) (shows p plan h s.words s.homes c id y x.version inside (omega (arith, r.wide)) ok)) record {
      dated = λ l. record { round = (seat.dated l).round; start = (seat.dated l).start };
      role = seat.role;
      seated = seat.seated;
      spent = λ dead. absurd (true≢false (sym live ∙ dead));
      opening = λ l. seat.opening l;
      notes = each_more (IsTrueNote p plan h) note me.0.notes (subst (IsTrueNote p plan h) (sym note_is) (current_true p plan h c y inside ok.now)) seat.notes;
      fresh = each_more (λ (z : Note). z.at ≤ max (round_start h) (put r.keeps c k z.core).version) note me.0.notes (let b = ap (λ (z : Keep). z.version) (put_here r.keeps c k c refl) in omega arith)
          (fresh_stays r.keeps c k h me.0.notes (omega arith) seat.fresh);
      held = published_kept plan r.keeps id c me.0.held y seat.held (ap (λ (z : Keep). z.state) mine);
    } in (
      w,
      keeps,
      tt,
      whole p plan _ kept,
      subst (λ (z : ℕ). Publishes z new me (w, me.1)) (sym index) record { now = refl; known = (kept.history, agrees _ id w kept (seat_there p plan s r id me.0 w at id refl) live) },
    )
