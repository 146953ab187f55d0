-- What reads and places break, as reasons of an entry.
use Rattle.std.proofs.Common.{◌≡◌, ℕ, ◌<◌, ◌⊎◌, inl, inr, List, [], ◌∷◌, Option, None, Some, length, get_or, refl, sym, ap, ◌∙◌, arith}
use Rattle.std.specs.Prelude.{IsNone, option_map}
use Rattle.std.specs.Option.{option_or}
use Rattle.std.proofs.lemmas.List.Elements.{All-cons, All-nil}
use Rattle.std.proofs.lemmas.Option.{get_or_from_slice_get, slice_get_within}
use Rattle.policy_tree.specs.Meaning.{Meaning}
use Rattle.round_model.specs.declared.entry.Entry.{Entry}
use Rattle.round_model.specs.declared.entry.Entry.TheVariants as entry
use Rattle.round_model.specs.declared.plan.Plan.{Plan}
use Rattle.round_model.specs.declared.plan.Planned.{Planned}
use Rattle.round_model.specs.Choices.{target_of}
use Rattle.round_model.specs.Entries.{reads_of}
use Rattle.round_model.specs.Outcomes.{values_at}
use Rattle.round_model.specs.Reads.{ReadsFit, round_start}
use Rattle.round_judge.specs.declared.past.Past.{Past}
use Rattle.round_judge.specs.Past.{StandsFor}
use Rattle.round_judge.specs.Readable.{ReadIn}
use Rattle.history_reasons.specs.declared.reason.Reason.{Reason}
use Rattle.history_reasons.specs.declared.reason.Reason.TheVariants as reason
use Rattle.history_reasons.specs.Judging.{Judges, StartsAt}
use Rattle.history_reasons.specs.Readings.{IsPlaceReason, IsReadReason}
use Rattle.history_reasons.specs.Reasons.{IsTold}
use Rattle.history_reasons.specs.Rules.{AreMade, IsKept, Rule, place, placement_rules, read_count, read_count_of, read_window}
use Rattle.history_reasons.proofs.Judging.{goes_on, stops}

-- where no number is found there is no thread
pub none_named : (found : Option Planned) (named : Option ℕ) → ((id : ℕ) → named ≡ Some id → ⊥) → named ≡ option_map (λ (t : Planned). t.id) found → IsNone found
none_named None named never same = refl
none_named (Some t) named never same = absurd (never t.id same)

-- the start of the past's open round is that of its histories
pub starts : (p : Meaning) (plan : Plan) (past : Past) (h : List Entry) (start : ℕ) → StartsAt past start → StandsFor p plan past h → start ≡ round_start h
starts p plan past h start at stands = let window = stands.rows.window in let entries = stands.entries in omega arith

-- reads in the window lie in the rows of the past
pub read_in : (plan : Plan) (past : Past) (start : ℕ) (reads : List ℕ) → StartsAt past start → ReadsFit plan.cores start past.entries reads → ReadIn plan past reads
read_in plan past start reads at fit = record {
  one_each = fit.one_each;
  from_start = λ c there. let read = fit.each c 0 (omega (arith, fit.one_each)) in let low = read.in_round in omega arith;
  to_now = λ c there. let read = fit.each c 0 (omega (arith, fit.one_each)) in read.before_entry;
}

module _ (p : Meaning) (plan : Plan) (h : List Entry) (e : Entry) (rules : List Rule) (count first last : ℕ) (asks : count ≡ read_count_of p plan h e) (from : first ≡ round_start h)
    (to : last ≡ length h) where
  -- a reason of the reads is one of the entry
  pub reads_break : (why : Reason) → IsReadReason (reads_of e) count first last (Some why) → Judges p plan h e (read_count ∷ read_window ∷ rules) (Some why)
  reads_break (reason.ReadCount asked) (is, differs) = stops p plan h e read_count (read_window ∷ rules) (reason.ReadCount asked) refl (λ kept. differs (kept ∙ sym asks)) (is ∙ asks)
  reads_break (reason.Read core saw low high) (first_is, last_is, out) =
      goes_on p plan h e read_count (read_window ∷ rules) (Some (reason.Read core saw low high)) (out.one_each ∙ asks)
      (stops p plan h e read_window rules (reason.Read core saw low high) refl
      (λ made. outside made out.outside)
      (record { read = out.read; first_is = first_is ∙ from; last_is = last_is ∙ to; outside = out_of out.outside }))
    where
      outside : AreMade p plan h (reads_of e) → (saw < first) ⊎ (last < saw) → ⊥
      outside made side = by_side side
        where
          inside : core < length (reads_of e)
          inside = slice_get_within (reads_of e) core saw out.read

          here : get_or (reads_of e) core 0 ≡ saw
          here = get_or_from_slice_get (reads_of e) core saw 0 out.read

          by_side : (saw < first) ⊎ (last < saw) → ⊥
          by_side (inl early) = absurd (let read = made core 0 inside in let low_end = read.in_round in omega (arith, here))
          by_side (inr late) = absurd (let read = made core 0 inside in let high_end = read.before_entry in omega (arith, here))

      out_of : (saw < first) ⊎ (last < saw) → (saw < low) ⊎ (high < saw)
      out_of (inl early) = inl (omega arith)
      out_of (inr late) = inr (omega arith)
  reads_break reason.Waits is = absurd is
  reads_break reason.NoneDue is = absurd is
  reads_break (reason.Number next) is = absurd is
  reads_break reason.NoneOpen is = absurd is
  reads_break reason.NoCore is = absurd is
  reads_break (reason.Enters next) is = absurd is
  reads_break (reason.Wakes next) is = absurd is
  reads_break reason.HasWorked is = absurd is
  reads_break reason.IsToWork is = absurd is
  reads_break reason.HasAttempted is = absurd is
  reads_break (reason.Place at) is = absurd is
  reads_break (reason.Unit did) is = absurd is
  reads_break (reason.Choice chosen) is = absurd is
  reads_break (reason.Filter holds) is = absurd is
  reads_break (reason.Threads ids) is = absurd is

  -- reads that fit keep their rules
  pub reads_keep : (o : Option Reason) → ReadsFit count first last (reads_of e) → Judges p plan h e rules o → Judges p plan h e (read_count ∷ read_window ∷ rules) o
  reads_keep o fit rest =
      goes_on p plan h e read_count (read_window ∷ rules) o (fit.one_each ∙ asks)
      (goes_on p plan h e read_window rules o
      (λ k d inside. let read = fit.each k d inside in let low = read.in_round in let high = read.before_entry in record { in_round = omega arith; before_entry = omega arith }) rest)

module _ (p : Meaning) (plan : Plan) (h : List Entry) (thread by at : ℕ) (reads : List ℕ) where
  abbrev e : Entry
  e = entry.Enter thread by at reads

  -- a thread that comes to another core than where it is placed
  pub place_judged : (target : ℕ) (o : Option Reason) → target_of p plan.cores (values_at p plan h reads) by ≡ Some target → IsPlaceReason at target o → Judges p plan h e (place ∷ []) o
  place_judged target None is same = All-cons (IsKept p plan h e) place [] (is ∙ ap Some (sym same)) (All-nil (IsKept p plan h e))
  place_judged target (Some (reason.Place told)) is (same, differs) =
      stops p plan h e place [] (reason.Place told) refl (λ kept. differs (let equal : Some at ≡ Some target = sym kept ∙ is in cc)) (is ∙ ap Some (sym same))
  place_judged target (Some reason.Waits) is never = absurd never
  place_judged target (Some reason.NoneDue) is never = absurd never
  place_judged target (Some (reason.Number next)) is never = absurd never
  place_judged target (Some reason.NoneOpen) is never = absurd never
  place_judged target (Some reason.NoCore) is never = absurd never
  place_judged target (Some (reason.Enters next)) is never = absurd never
  place_judged target (Some (reason.Wakes next)) is never = absurd never
  place_judged target (Some reason.HasWorked) is never = absurd never
  place_judged target (Some reason.IsToWork) is never = absurd never
  place_judged target (Some reason.HasAttempted) is never = absurd never
  place_judged target (Some (reason.ReadCount count)) is never = absurd never
  place_judged target (Some (reason.Read core saw low high)) is never = absurd never
  place_judged target (Some (reason.Unit did)) is never = absurd never
  place_judged target (Some (reason.Choice chosen)) is never = absurd never
  place_judged target (Some (reason.Filter holds)) is never = absurd never
  place_judged target (Some (reason.Threads ids)) is never = absurd never

  -- the reason of the reads comes before that of the place
  pub reads_then_place : (count first last : ℕ) → count ≡ read_count_of p plan h e → first ≡ round_start h → last ≡ length h → (o other : Option Reason) → IsReadReason reads count first last o
      → Judges p plan h e (place ∷ []) other → Judges p plan h e placement_rules (option_or o other)
  reads_then_place count first last asks from to None other fit rest = reads_keep p plan h e (place ∷ []) count first last asks from to other fit rest
  reads_then_place count first last asks from to (Some why) other is rest = reads_break p plan h e (place ∷ []) count first last asks from to why is

  -- reads and place of a thread that wakes are judged as those of one that enters
  abbrev w : Entry
  w = entry.Wake thread by at reads

  told_of_wake : (why : Reason) → IsTold p plan h e why → IsTold p plan h w why
  told_of_wake reason.Waits told = told
  told_of_wake reason.NoneDue told = told
  told_of_wake (reason.Number next) told = told
  told_of_wake reason.NoneOpen told = told
  told_of_wake reason.NoCore told = told
  told_of_wake (reason.Enters next) told = told
  told_of_wake (reason.Wakes next) told = told
  told_of_wake reason.HasWorked told = told
  told_of_wake reason.IsToWork told = told
  told_of_wake reason.HasAttempted told = told
  told_of_wake (reason.ReadCount count) told = told
  told_of_wake (reason.Read core saw low high) told = record { read = told.read; first_is = told.first_is; last_is = told.last_is; outside = told.outside }
  told_of_wake (reason.Place to) told = told
  told_of_wake (reason.Unit did) told = told
  told_of_wake (reason.Choice chosen) told = told
  told_of_wake (reason.Filter holds) told = told
  told_of_wake (reason.Threads ids) told = told

  pub wake_judged : (o : Option Reason) → Judges p plan h e placement_rules o → Judges p plan h w placement_rules o
  wake_judged None kept =
      All-cons (IsKept p plan h w) read_count (read_window ∷ place ∷ []) (kept 0 place (omega arith))
      (All-cons (IsKept p plan h w) read_window (place ∷ []) (kept 1 place (omega arith))
      (All-cons (IsKept p plan h w) place [] (kept 2 place (omega arith)) (All-nil (IsKept p plan h w))))
  wake_judged (Some why) is = record { broken = is.broken; told = told_of_wake why is.told }
