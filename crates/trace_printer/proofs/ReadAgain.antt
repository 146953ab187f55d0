-- A printed trace is read again.
use Rattle.std.proofs.Common.{◌≡◌, ◌∙◌, ◌+◌, ℕ, suc, List, [], ◌∷◌, ◌++◌, length, refl, ap, sym, subst, arith, append_assoc, append-nil}
use Rattle.std.specs.List.{AllByRecursion, join_with_byte}
use Rattle.text_forms.specs.Lines.{lines_of}
use Rattle.text_forms.specs.Scans.{Scans, scans_line, scans_nothing}
use Rattle.job_trace.specs.declared.trace.TraceLine.{TraceLine}
use Rattle.job_trace.specs.declared.trace.TraceLine.TheVariants.{Cores, Rounds, Entries, Core, Thread, Order}
use Rattle.job_trace.specs.declared.trace.Numbered.{Numbered}
use Rattle.job_trace.specs.Words.{is_skipped, words}
use Rattle.job_trace.specs.Forms.{SpellsLine}
use Rattle.job_trace.specs.Rules.{MayAllFollow, MayFollow}
use Rattle.job_trace.specs.TraceText.{Takes, numbered, takes_line}
use Rattle.trace_printer.specs.Printed.{IsReadAgain, renumbered, trace_text, words_of_line}
use Rattle.trace_printer.proofs.WordLemmas.{IsWord}
use Rattle.trace_printer.proofs.SplitLemmas.{lines-joined, words-joined}
use Rattle.trace_printer.proofs.SpelledLines.{IsSpelled, line-spelled, not-skipped}
use Rattle.trace_printer.proofs.FrontLemmas.{follows, plain, plain-push}

-- a line without its line feed
abbrev bare : TraceLine → List ℕ
bare line = join_with_byte 32 (words_of_line line)

bare-words : (line : TraceLine) → AllByRecursion IsWord (words_of_line line) → words (bare line) ≡ words_of_line line
bare-words (Cores number) all = words-joined _ _ all
bare-words (Rounds number) all = words-joined _ _ all
bare-words (Entries number) all = words-joined _ _ all
bare-words (Core given) all = words-joined _ _ all
bare-words (Thread thread) all = words-joined _ _ all
bare-words (Order order) all = words-joined _ _ all

-- the printed line is taken
taken : (front : List Numbered) (number : ℕ) (line : TraceLine) → IsSpelled line → MayFollow front line →
    Takes front number (bare line) (front ++ numbered number line ∷ [])
taken front number line spelled may =
    let ws = bare-words line spelled.words in
    takes_line line (ap is_skipped ws ∙ not-skipped line)
    (subst (λ (w : List (List ℕ)). SpellsLine w line) (sym ws) spelled.is) may

-- lines behind a front, which may have other numbers there
scanned : (front other : List Numbered) → plain front ≡ plain other → (number : ℕ) (rest : List Numbered) →
    MayAllFollow front rest → Scans Takes other number (lines_of (trace_text rest)) (other ++ renumbered number rest)
unfolding lines_of
scanned front other same number [] all =
    subst (λ (trace : List Numbered). Scans Takes other number [] trace) (sym (append-nil other)) scans_nothing
scanned front other same number (n ∷ rest) (spelling, may, all) =
    let spelled = line-spelled spelling.0 n.line spelling.1 in
    let next : List Numbered = other ++ numbered number n.line ∷ [] in
    let later : Scans Takes next (number + 1) (lines_of (trace_text rest)) (next ++ renumbered (number + 1) rest) =
    scanned (front ++ n ∷ []) next (plain-push front other n (numbered number n.line) same refl) (number + 1)
    rest all in
    subst (λ (lines : List (List ℕ)). Scans Takes other number lines (other ++ renumbered number (n ∷ rest)))
    (sym (lines-joined (words_of_line n.line) (trace_text rest) spelled.words))
    (scans_line (bare n.line) next (taken other number n.line spelled (follows front other n.line same may))
    (subst (λ (trace : List Numbered). Scans Takes next (number + 1) (lines_of (trace_text rest)) trace)
    (append_assoc other (numbered number n.line ∷ []) (renumbered (number + 1) rest)) later))

as-many : (number : ℕ) (trace : List Numbered) → length (renumbered number trace) ≡ length trace
as-many number [] = refl
as-many number (n ∷ rest) = ap suc (as-many (number + 1) rest)

pub read-again : IsReadAgain
read-again trace rules = record {
  reads = scanned [] [] refl 1 trace rules.each;
  whole = omega (arith, rules.whole, as-many 1 trace);
}
