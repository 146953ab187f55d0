-- What is answered to lines is what they are.
use Rattle.std.proofs.Common.{◌≡◌, ◌<◌, ◌≤◌, ◌+◌, ℕ, Bool, true, false, cond, List, [], ◌∷◌, ◌++◌, length, Result, Ok, Err, refl, ap, sym, subst, arith, ltb}
use Rattle.std.proofs.lemmas.Bool.Decides.{nat_tests}
use Rattle.std.proofs.lemmas.List.{append-nil, append_assoc}
use Rattle.text_forms.specs.Scans.{FailsFirst, Scans, fails_behind, fails_here, fails_later, scans_line, scans_nothing}
use Rattle.job_trace.specs.declared.fault.TraceFault.{TraceFault}
use Rattle.job_trace.specs.declared.fault.TraceFault.TheVariants.{BadLine, Limit, Twice, Memory}
use Rattle.job_trace.specs.declared.trace.TraceLine.{TraceLine}
use Rattle.job_trace.specs.declared.trace.TraceLine.TheVariants.{Cores, Rounds, Entries, Core, Thread, Order}
use Rattle.job_trace.specs.declared.trace.Numbered.{Numbered}
use Rattle.job_trace.specs.Words.{words, is_skipped}
use Rattle.job_trace.specs.Rules.{HasSpelling, MayFollow, MayAllFollow, cores_in, cores_of, ranged}
use Rattle.job_trace.specs.Faults.{BreaksThere, FailsAs, IsShort}
use Rattle.job_trace.specs.TraceText.{Takes, numbered, takes_line, takes_nothing}
use Rattle.job_trace.specs.Code.Steps.{added, judged, on_ok, scan}
use Rattle.sched_base.specs.declared.limits.TheConstants.{MAX_CORES}
use Rattle.job_trace.proofs.RangeLemmas.{first-none, in-range}
use Rattle.job_trace.proofs.JudgeLemmas.{IsVerdict, judged-verdict, judged-ok, judged-err}

ok-same : {X : Type 0} {x y : X} → ◌≡◌ {A = Result X TraceFault} (Ok x) (Ok y) → x ≡ y
ok-same e = cc

-- the line is taken, or breaks that rule
abbrev IsAdded : List Numbered → ℕ → List ℕ → Result (List Numbered) TraceFault → Type 0
IsAdded front number line (Ok next) = Takes front number line next
IsAdded front number line (Err fault) = BreaksThere front number line fault

added-is : (front : List Numbered) → cores_of front ≤ MAX_CORES → (number : ℕ) (line : List ℕ) → IsAdded front number line (added front number (words line))
unfolding added
added-is front few number line = by (is_skipped (words line)) refl
  where
    says : (r : Result TraceLine TraceFault) → is_skipped (words line) ≡ false → IsVerdict front number (words line) r →
        IsAdded front number line (on_ok r (λ form. Ok (front ++ numbered number form ∷ [])))
    says (Ok form) e (spells, may) = takes_line form e spells may
    says (Err fault) e breaks = record { says = e; breaks = breaks }

    by : (b : Bool) → is_skipped (words line) ≡ b →
        IsAdded front number line (cond b (Ok front) (on_ok (judged front number (words line)) (λ form. Ok (front ++ numbered number form ∷ []))))
    by true e = takes_nothing e
    by false e = says (judged front number (words line)) e (judged-verdict front few number (words line))

takes-added : (front : List Numbered) → cores_of front ≤ MAX_CORES → (number : ℕ) (line : List ℕ) (next : List Numbered) → Takes front number line next →
    added front number (words line) ≡ Ok next
unfolding added
takes-added front few number line next (takes_nothing skipped) = rw skipped refl
takes-added front few number line next (takes_line form says spells may) =
    rw (says, judged-ok front few number (words line) form spells may) refl

breaks-added : (front : List Numbered) → cores_of front ≤ MAX_CORES → (number : ℕ) (line : List ℕ) (fault : TraceFault) → BreaksThere front number line fault →
    added front number (words line) ≡ Err fault
unfolding added
breaks-added front few number line fault there = rw (there.says, judged-err front few number (words line) fault there.breaks) refl

-- a trace of few cores stays one
first-few : (line : TraceLine) → MayFollow [] line → cores_in line ≤ MAX_CORES
first-few (Cores n) may = (in-range n 1 MAX_CORES (first-none (ranged n 1 MAX_CORES) [] may.within).0).below
first-few (Rounds n) may = omega arith
first-few (Entries n) may = omega arith
first-few (Core given) may = omega arith
first-few (Thread t) may = omega arith
first-few (Order order) may = omega arith

pub follow-few : (front : List Numbered) (n : Numbered) → cores_of front ≤ MAX_CORES → MayFollow front n.line → cores_of (front ++ n ∷ []) ≤ MAX_CORES
follow-few [] n few may = first-few n.line may
follow-few (f ∷ front) n few may = few

takes-few : (front : List Numbered) (number : ℕ) (line : List ℕ) (next : List Numbered) → cores_of front ≤ MAX_CORES → Takes front number line next →
    cores_of next ≤ MAX_CORES
takes-few front number line next few (takes_nothing skipped) = few
takes-few front number line next few (takes_line form says spells may) = follow-few front (numbered number form) few may

-- the lines, behind that front, are what the answer says
abbrev pub IsScanned : List Numbered → ℕ → List (List ℕ) → Result (List Numbered) TraceFault → Type 0
IsScanned front number lines (Ok trace) = Scans Takes front number lines trace × (2 ≤ length trace)
IsScanned front number lines (Err fault) = FailsFirst Takes BreaksThere IsShort front number lines fault

scanned-later : (front next : List Numbered) (number : ℕ) (line : List ℕ) (rest : List (List ℕ)) (r : Result (List Numbered) TraceFault) →
    Takes front number line next → IsScanned next (number + 1) rest r → IsScanned front number (line ∷ rest) r
scanned-later front next number line rest (Ok trace) takes (scans, whole) = (scans_line line next takes scans, whole)
scanned-later front next number line rest (Err fault) takes fails = fails_later line next takes fails

pub scan-is : (front : List Numbered) → cores_of front ≤ MAX_CORES → (number : ℕ) (lines : List (List ℕ)) → IsScanned front number lines (scan front number lines)
unfolding scan
scan-is front few number [] = by (ltb (length front) 2) refl
  where
    by : (b : Bool) → ltb (length front) 2 ≡ b → IsScanned front number [] (cond b (Err (BadLine number)) (Ok front))
    by true e = fails_behind (record { few = grind (arith, nat_tests); is = refl })
    by false e = (scans_nothing, grind (arith, nat_tests))
scan-is front few number (line ∷ rest) =
    by (added front number (words line)) (added-is front few number line) (λ next small. scan-is next small (number + 1) rest)
  where
    by : (r : Result (List Numbered) TraceFault) → IsAdded front number line r →
        ((next : List Numbered) → cores_of next ≤ MAX_CORES → IsScanned next (number + 1) rest (scan next (number + 1) rest)) →
        IsScanned front number (line ∷ rest) (on_ok r (λ next. scan next (number + 1) rest))
    by (Ok next) takes later = scanned-later front next number line rest (scan next (number + 1) rest) takes (later next (takes-few front number line next few takes))
    by (Err fault) breaks later = fails_here line breaks

short-test : (trace : List Numbered) → length trace < 2 → ltb (length trace) 2 ≡ true
short-test trace few = grind (arith, nat_tests)

long-test : (trace : List Numbered) → 2 ≤ length trace → ltb (length trace) 2 ≡ false
long-test trace whole = grind (arith, nat_tests)

pub scan-reads : (front : List Numbered) → cores_of front ≤ MAX_CORES → (number : ℕ) (lines : List (List ℕ)) (trace : List Numbered) →
    Scans Takes front number lines trace → 2 ≤ length trace → scan front number lines ≡ Ok trace
unfolding scan
scan-reads front few number lines trace scans_nothing whole = rw (long-test trace whole) refl
scan-reads front few number lines trace (scans_line line {rest = rest} between takes scans) whole =
    rw (takes-added front few number line between takes)
    (scan-reads between (takes-few front number line between few takes) (number + 1) rest trace scans whole)

pub scan-fails : (front : List Numbered) → cores_of front ≤ MAX_CORES → (number : ℕ) (lines : List (List ℕ)) (fault : TraceFault) →
    FailsFirst Takes BreaksThere IsShort front number lines fault → scan front number lines ≡ Err fault
unfolding scan
scan-fails front few number lines fault (fails_here line breaks) = rw (breaks-added front few number line fault breaks) refl
scan-fails front few number lines fault (fails_later line {rest = rest} between takes fails) =
    rw (takes-added front few number line between takes)
    (scan-fails between (takes-few front number line between few takes) (number + 1) rest fault fails)
scan-fails front few number lines fault (fails_behind short) =
    rw (short-test front short.few) (ap (λ f. Err f) (sym short.is))

-- one line more keeps the rules
all-push : (front rest : List Numbered) (n : Numbered) → MayAllFollow front rest → HasSpelling n.line → MayFollow (front ++ rest) n.line →
    MayAllFollow front (rest ++ n ∷ [])
all-push front [] n all spelling may = (spelling, subst (λ (ns : List Numbered). MayFollow ns n.line) (append-nil front) may, tt)
all-push front (m ∷ rest) n (spelt, first, all) spelling may =
    (spelt, first, all-push (front ++ m ∷ []) rest n all spelling (subst (λ (ns : List Numbered). MayFollow ns n.line) (sym (append_assoc front (m ∷ []) rest)) may))

pub added-rules : (front : List Numbered) (number : ℕ) (line : List (List ℕ)) (next : List Numbered) → cores_of front ≤ MAX_CORES →
    added front number line ≡ Ok next → MayAllFollow [] front → MayAllFollow [] next × (cores_of next ≤ MAX_CORES)
unfolding added
added-rules front number line next few e all = by (is_skipped line) e
  where
    says : (r : Result TraceLine TraceFault) → IsVerdict front number line r →
        on_ok r (λ form. Ok (front ++ numbered number form ∷ [])) ≡ Ok next → MayAllFollow [] next × (cores_of next ≤ MAX_CORES)
    says (Ok form) (spells, may) e = subst (λ (ns : List Numbered). MayAllFollow [] ns × (cores_of ns ≤ MAX_CORES)) (ok-same e)
        (all-push [] front (numbered number form) all (line, spells) may, follow-few front (numbered number form) few may)
    says (Err fault) breaks e = cc

    by : (b : Bool) → cond b (Ok front) (on_ok (judged front number line) (λ form. Ok (front ++ numbered number form ∷ []))) ≡ Ok next →
        MayAllFollow [] next × (cores_of next ≤ MAX_CORES)
    by true e = subst (λ (ns : List Numbered). MayAllFollow [] ns × (cores_of ns ≤ MAX_CORES)) (ok-same e) (all, few)
    by false e = says (judged front number line) (judged-verdict front few number line) e

-- a line that is taken, and one that isn't
pub scan-more : (front next : List Numbered) (number : ℕ) (line : List ℕ) (rest : List (List ℕ)) →
    added front number (words line) ≡ Ok next → scan front number (line ∷ rest) ≡ scan next (number + 1) rest
unfolding scan
scan-more front next number line rest e = rw e refl

pub scan-stops : (front : List Numbered) (number : ℕ) (line : List ℕ) (rest : List (List ℕ)) (fault : TraceFault) →
    FailsAs (added front number (words line)) fault → FailsAs (scan front number (line ∷ rest)) fault
unfolding scan
scan-stops front number line rest (BadLine n) e = rw e refl
scan-stops front number line rest (Limit n end) e = rw e refl
scan-stops front number line rest (Twice n) e = rw e refl
scan-stops front number line rest Memory e = tt

-- the end of the lines
pub scan-short : (front : List Numbered) (number : ℕ) → length front < 2 → scan front number [] ≡ Err (BadLine number)
unfolding scan
scan-short front number few = rw (short-test front few) refl

pub scan-whole : (front : List Numbered) (number : ℕ) → 2 ≤ length front → scan front number [] ≡ Ok front
unfolding scan
scan-whole front number whole = rw (long-test front whole) refl
