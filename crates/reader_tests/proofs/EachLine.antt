-- Whether each entry of a history has a line of the second format, one by one.
use Rattle.std.proofs.Common.{◌≡◌, ◌⊎◌, inl, inr, ℕ, ◌+◌, ◌<◌, ◌≤◌, List, All, take, length, get_or, sym, subst, arith}
use Rattle.std.proofs.lemmas.Bool.{cases_lt}
use Rattle.std.proofs.lemmas.List.{get_or_default}
use Rattle.round_model.specs.declared.entry.Entry.{Entry}
use Rattle.round_model.specs.Reads.{round_start}
use Rattle.sched_history.specs.declared.forms.LineForm.TheVariants as form
use Rattle.sched_history.specs.Lines.{EntryLine, entry_lines}
use Rattle.sched_history.specs.Ranges.{IsPrintable, IsPrintableLine}
use Rattle.sched_history.specs.Spelling.{second_form}
use Rattle.sched_history.proofs.EntryLines.{length-lines, line_at}

module _ (cores : ℕ) (h : List Entry) where
  -- the entries before that place have one
  abbrev pub EachBefore : ℕ → Type 0
  EachBefore at = (k : ℕ) (d : Entry) → k < at → IsPrintable (form.Second cores (round_start (take k h))) (get_or h k d)

  pub each_more : (at : ℕ) (e : Entry) → at < length h → EachBefore at → IsPrintable (form.Second cores (round_start (take at h))) (get_or h at e) → EachBefore (at + 1)
  each_more at e inside before is k d within = by (cases_lt k at)
    where
      by : (k < at) ⊎ (at ≤ k) → IsPrintable (form.Second cores (round_start (take k h))) (get_or h k d)
      by (inl less) = before k d less
      by (inr great) =
          let here : at ≡ k = omega (arith, great, within) in
          subst (λ (n : ℕ). IsPrintable (form.Second cores (round_start (take n h))) (get_or h n d)) here
          (subst (λ (x : Entry). IsPrintable (form.Second cores (round_start (take at h))) x) (get_or_default h at e d inside) is)

  pub all_lines : EachBefore (length h) → All IsPrintableLine (entry_lines 0 (second_form cores) h)
  all_lines each k x inside =
      let within : k < length h = omega (arith, inside, length-lines 0 (second_form cores) h) in
      subst IsPrintableLine (sym (line_at 0 (second_form cores) h k x.entry x within)) (each k x.entry within)
