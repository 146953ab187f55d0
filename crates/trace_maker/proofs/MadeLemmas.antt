-- The made trace keeps the rules of traces.
use Rattle.std.proofs.Common.{◌≡◌, ◌∙◌, ℕ, zero, suc, ◌+◌, ◌≤◌, ◌<◌, Bool, false, ◌||◌, List, [], ◌∷◌, ◌++◌, codes, refl, ap, ap₂, sym, subst, arith, eqb}
use Rattle.std.specs.List.{list_any}
use Rattle.std.proofs.lemmas.Bool.{ne_eqb}
use Rattle.std.proofs.lemmas.List.{append-nil, append_assoc}
use Rattle.std.proofs.lemmas.List.Folds.{list_any-append}
use Rattle.sched_base.specs.declared.limits.TheConstants.{MAX_THREADS}
use Rattle.job_trace.specs.declared.trace.Numbered.{Numbered}
use Rattle.job_trace.specs.Rules.{HasSpelling, KeepsRules, MayAllFollow, MayFollow, all_gifts, gift, gifts_of, same_gift}
use Rattle.job_trace.proofs.GiftLemmas.{all_gifts-push}
use Rattle.trace_maker.specs.Generator.{drawn, state_after}
use Rattle.trace_maker.specs.Made.{header, made_trace, thread_line, thread_lines}
use Rattle.trace_maker.proofs.RangeFacts.{thread-within}
use Rattle.trace_maker.proofs.SpellingFacts.{cores-spelt, entries-spelt, rounds-spelt, thread-spelt}

all-push : (front rest : List Numbered) (n : Numbered) → MayAllFollow front rest → HasSpelling n.line → MayFollow (front ++ rest) n.line →
    MayAllFollow front (rest ++ n ∷ [])
all-push front [] n all spelling may = (spelling, subst (λ (ns : List Numbered). MayFollow ns n.line) (append-nil front) may, tt)
all-push front (m ∷ rest) n (spelt, first, all) spelling may =
    (spelt, first, all-push (front ++ m ∷ []) rest n all spelling (subst (λ (ns : List Numbered). MayFollow ns n.line) (sym (append_assoc front (m ∷ []) rest)) may))

-- a greater number isn't given
fresh : (seed done id : ℕ) → done < id → list_any (same_gift (gift (codes "thread") id [])) (all_gifts (header ++ thread_lines seed done)) ≡ false
fresh seed zero id less = refl
fresh seed (suc done) id less =
    let line : Numbered = thread_line (suc done) (drawn (state_after seed (suc done))) in
    let other : eqb id (suc done) ≡ false = ne_eqb id (suc done) (λ e. omega (arith, e, less)) in
    let last : list_any (same_gift (gift (codes "thread") id [])) (gifts_of line.line) ≡ false = rw other refl in
    ap (list_any (same_gift (gift (codes "thread") id []))) (all_gifts-push (header ++ thread_lines seed done) line)
    ∙ list_any-append (same_gift (gift (codes "thread") id [])) (all_gifts (header ++ thread_lines seed done)) (gifts_of line.line)
    ∙ ap₂ (λ (a b : Bool). a || b) (fresh seed done id (omega (arith, less))) last

thread-follows : (seed done draw : ℕ) → done + 1 ≤ MAX_THREADS → MayFollow (header ++ thread_lines seed done) (thread_line (suc done) draw).line
thread-follows seed done draw few = record {
  kind = refl;
  within = thread-within (suc done) draw (omega arith) (omega (arith, few));
  once = rw (fresh seed done (suc done) (omega arith)) refl;
}

threads-follow : (seed size : ℕ) → size ≤ MAX_THREADS → MayAllFollow header (thread_lines seed size)
threads-follow seed zero few = tt
threads-follow seed (suc done) few =
    let draw : ℕ = drawn (state_after seed (suc done)) in
    all-push header (thread_lines seed done) (thread_line (suc done) draw) (threads-follow seed done (omega (arith, few)))
    (thread-spelt (suc done) draw (omega (arith, few))) (thread-follows seed done draw (omega (arith, few)))

pub made-keeps : (seed size : ℕ) → size ≤ MAX_THREADS → KeepsRules (made_trace seed size)
made-keeps seed size few = record {
  whole = omega arith;
  each = (
    cores-spelt,
    record { kind = refl; within = refl; once = refl },
    (
      rounds-spelt,
      record { kind = refl; within = refl; once = refl },
      (entries-spelt, record { kind = refl; within = refl; once = refl }, threads-follow seed size few),
    ),
  );
}
