-- What the words of a table say, and the notes that they give.
use Rattle.std.proofs.Common.{◌≡◌, ◌≢◌, ℕ, ◌+◌, ◌-◌, ◌*◌, ◌/◌, ◌%◌, ◌<◌, ◌≤◌, eqb, max, cond, List, ◌∷◌, length, take, get_or, sym, ap, ◌∙◌, subst, ⊎_elim, arith, bit_or, eq-eqb, ne_eqb}
use Rattle.std.proofs.lemmas.Nat.{or_block}
use Rattle.std.specs.Int.Bits.{or_zero_r}
use mathlib.Core.Logic.{dite}
use mathlib.Core.Option.{Option, none, some}
use native.Mathlib.Decide.{ℕ_discrete}
use lib.ListN.{get_elem?}
use Rattle.sched_base.specs.declared.limits.TheConstants.{MAX_ENTRIES, MAX_LOAD, MAX_THREADS}
use Rattle.policy_tree.specs.Meaning.{Meaning}
use Rattle.round_model.specs.declared.entry.Entry.{Entry}
use Rattle.round_model.specs.declared.plan.Plan.{Plan}
use Rattle.round_model.specs.declared.state.CountAndLoad.{CountAndLoad}
use Rattle.round_model.specs.After.{after_from}
use Rattle.round_model.specs.Cores.{opening_state, seen_of}
use Rattle.round_model.specs.Reads.{round_start, value_read}
use Rattle.round_model.proofs.Between.{same_core}
use Rattle.round_model.proofs.Longer.{start_within}
use Rattle.core_state.specs.Logs.{after_last, log_of}
use Rattle.core_state.specs.Views.{CoreView}
use Rattle.core_state.proofs.Quiet.{last_within}
use Rattle.round_model.specs.Entries.{touches}
use Rattle.core_table.specs.declared.slots.Slot.{Slot}
use Rattle.core_table.specs.declared.views.Note.{Note}
use Rattle.core_table.specs.Logs.{log_at}
use Rattle.core_table.specs.Words.{mark_of, out_mark, seen_in, version_in, word_of}
use Rattle.core_table.specs.Views.{note_of_core, note_of_word, noted}
use Rattle.core_table.specs.Told.{Each, IsCoreNow, IsTrueNote}
use Rattle.core_table.specs.Rule.{Keep}
use Rattle.core_table.proofs.Histories.{loads_fit, log_core, prefix_within, settled, version_rounds}
use Rattle.core_table.proofs.Parts.{AllHold, CoreHolds, Now}
use Rattle.core_table.proofs.Frames.{at_front}

-- The mark.
pub or_mark : (w : ℕ) → w < 9223372036854775808 → bit_or w 9223372036854775808 ≡ w + 9223372036854775808
or_mark w low =
    let is : w ≡ 0 * 9223372036854775808 + w = omega arith in
    ap (λ k. bit_or k 9223372036854775808) is ∙ (or_block 63 0 1 w 0 low (omega arith) ∙ (ap (λ k. 9223372036854775808 + k) (or_zero_r w) ∙ omega arith))

pub or_mark_same : (w : ℕ) → 9223372036854775808 ≤ w → w < 18446744073709551616 → bit_or w 9223372036854775808 ≡ w
or_mark_same w high small =
    let x : ℕ = w - 9223372036854775808 in let is : 1 * 9223372036854775808 + x ≡ w = omega arith in
    ap (λ k. bit_or k 9223372036854775808) (sym is) ∙ (or_block 63 1 1 x 0 (omega arith) (omega arith) ∙ (ap (λ k. 9223372036854775808 + k) (or_zero_r x) ∙ omega arith))

-- What a word says.
pub word_free : (v : ℕ) (seen : CountAndLoad) → v ≤ MAX_ENTRIES → seen.nr ≤ MAX_THREADS → seen.load ≤ MAX_LOAD → word_of v seen < out_mark
word_free v seen few nr load = let g : v * 1099511627776 + seen.nr * 1073741824 + seen.load < 9223372036854775808 = omega arith in g

pub word_says : (word v : ℕ) (seen : CountAndLoad) (o : Option ℕ) → v ≤ MAX_ENTRIES → seen.nr ≤ MAX_THREADS → seen.load ≤ MAX_LOAD → word ≡ word_of v seen + mark_of o
    → (version_in word ≡ v) × (seen_in word ≡ seen)
word_says word v seen none few nr load is =
    let w : word ≡ v * 1099511627776 + seen.nr * 1073741824 + seen.load + 0 = is in
    let a : word % 9223372036854775808 / 1099511627776 ≡ v = omega arith in
    let b : word % 9223372036854775808 / 1073741824 % 1024 ≡ seen.nr = omega arith in
    let d : word % 9223372036854775808 % 1073741824 ≡ seen.load = omega arith in (a, λ i. record { nr = b i; load = d i })
word_says word v seen (some j) few nr load is =
    let w : word ≡ v * 1099511627776 + seen.nr * 1073741824 + seen.load + 9223372036854775808 = is in
    let a : word % 9223372036854775808 / 1099511627776 ≡ v = omega arith in
    let b : word % 9223372036854775808 / 1073741824 % 1024 ≡ seen.nr = omega arith in
    let d : word % 9223372036854775808 % 1073741824 ≡ seen.load = omega arith in (a, λ i. record { nr = b i; load = d i })

pub note_says : (start c word v : ℕ) (seen : CountAndLoad) → version_in word ≡ v → seen_in word ≡ seen → note_of_word start c word ≡ noted c (max start v) seen
note_says start c word v seen at is = λ i. noted c (max start (at i)) (is i)

-- Notes that come to a view.
pub each_more : {X : Type 0} (P : X → Type 0) (x : X) (xs : List X) → P x → Each P xs → Each P (x ∷ xs)
each_more {X} P x xs new old i y at = ⊎_elim (λ (is : x ≡ y). subst P is new) (λ (t : (k : ℕ) × (get_elem? xs k ≡ some y)). old t.0 y t.1) (at_front x xs i y at)

-- of the log of the rounds there is none
pub each_found : (P : Note → Type 0) (n start c : ℕ) (y : CoreView) (notes : List Note) → (c ≢ n → P (note_of_core start c y)) → Each P notes
    → Each P (cond (eqb c n) notes (note_of_core start c y ∷ notes))
each_found P n start c y notes new old = dite (ℕ_discrete c n)
    (λ hit. subst (λ b. Each P (cond b notes (note_of_core start c y ∷ notes))) (sym (eq-eqb c n hit)) old)
    (λ miss. subst (λ b. Each P (cond b notes (note_of_core start c y ∷ notes))) (sym (ne_eqb c n miss)) (each_more P (note_of_core start c y) notes (new miss) old))

-- the log of a core that is as the history leaves it
pub log_now : (p : Meaning) (plan : Plan) (h : List Entry) (c : ℕ) (y : CoreView) → c ≢ plan.cores → IsCoreNow p plan h c y → after_last 0 y.log ≡ after_last 0 (log_of c h)
log_now p plan h c y miss now = ap (after_last 0) (now.log ∙ log_core plan.cores c h miss)

-- the core as it is, as a note
pub current_true : (p : Meaning) (plan : Plan) (h : List Entry) (c : ℕ) (y : CoreView) → c < plan.cores → IsCoreNow p plan h c y → IsTrueNote p plan h (note_of_core (round_start h) c y)
current_true p plan h c y low now =
    let last = log_now p plan h c y (λ e. omega arith) now in let within = last_within (touches c) h in let start = start_within h in record {
      core = low;
      in_round = omega arith;
      within = omega arith;
      seen = ap seen_of (now.core ∙ sym (settled p plan c h (max (round_start h) (after_last 0 y.log)) (omega arith) (omega arith)));
    }

-- what a word says, as a note
pub shown_true : (p : Meaning) (plan : Plan) (h : List Entry) (ws : List ℕ) (hs : List (Option Slot)) (c : ℕ) (k : Keep) → c < plan.cores → CoreHolds p plan h ws hs c k
    → IsTrueNote p plan h (noted c (max (round_start h) k.version) (value_read p plan h c k.version))
shown_true p plan h ws hs c k low ok =
    let start = start_within h in let within = prefix_within plan.cores c k.version h ok.prefix in record {
      core = low;
      in_round = omega arith;
      within = omega arith;
      seen = ap seen_of (sym (same_core p plan h c k.version (max (round_start h) k.version) (omega arith) (omega arith) (λ i e l high is. ok.settled low i e l (omega arith) is)));
    }

-- nothing is seen of a core before the first entry
none_seen : (p : Meaning) (plan : Plan) (h : List Entry) (c : ℕ) → ((value_read p plan h c 0).nr ≤ MAX_THREADS) × ((value_read p plan h c 0).load ≤ MAX_LOAD)
unfolding after_from opening_state
none_seen p plan h c = (omega arith, omega arith)

-- The rule keeps each word small.
module _ (p : Meaning) (plan : Plan) (s : Now) (r : AllHold p plan s) where
  pub history_low : length r.history ≤ MAX_ENTRIES
  history_low = let a = r.room in let b = r.limits.few_entries in omega arith

  module _ (c : ℕ) (inside : c ≤ plan.cores) where
    pub version_low : (r.keeps c).version ≤ length r.history
    version_low = prefix_within plan.cores c (r.keeps c).version r.history (r.each_core c inside).prefix

    pub seen_low : ((value_read p plan r.history c (r.keeps c).version).nr ≤ MAX_THREADS) × ((value_read p plan r.history c (r.keeps c).version).load ≤ MAX_LOAD)
    seen_low = dite (ℕ_discrete c plan.cores)
        (λ hit. let none_yet = (r.each_core c inside).prefix ∙ version_rounds plan.cores c (log_at plan.cores c (take (r.keeps c).version r.history)) hit in
        subst (λ (q : ℕ). ((value_read p plan r.history c q).nr ≤ MAX_THREADS) × ((value_read p plan r.history c q).load ≤ MAX_LOAD)) (sym none_yet) (none_seen p plan r.history c))
        (λ miss. loads_fit p plan r.history c (r.keeps c).version r.fits r.handlers r.legal (omega arith))

    -- what the word says, marked or not
    pub says : (version_in (get_or s.words (c + 1) 0) ≡ (r.keeps c).version) × (seen_in (get_or s.words (c + 1) 0) ≡ value_read p plan r.history c (r.keeps c).version)
    says = let a = version_low in let b = history_low in
        word_says (get_or s.words (c + 1) 0) (r.keeps c).version (value_read p plan r.history c (r.keeps c).version) (r.keeps c).owner (omega arith) seen_low.0 seen_low.1 (r.each_core c inside).word

    -- the note that a read of it gives
    pub note_is : note_of_word (round_start r.history) c (get_or s.words (c + 1) 0)
        ≡ noted c (max (round_start r.history) (r.keeps c).version) (value_read p plan r.history c (r.keeps c).version)
    note_is = note_says (round_start r.history) c (get_or s.words (c + 1) 0) (r.keeps c).version (value_read p plan r.history c (r.keeps c).version) says.0 says.1
