-- From how `make` ends to the truth of what it writes.
use Rattle.std.proofs.Common.{◌≡◌, ◌∙◌, ℕ, zero, suc, ◌+◌, ◌≤◌, ◌++◌, ◌==◌, ◌||◌, Bool, true, false, cond, List, [], ◌∷◌, Ok, Err, Option, Some, refl, ap, ap₂, subst, arith, length, length-append}
use Rattle.std.specs.Prelude.{nat_lt}
use Rattle.std.proofs.lemmas.Bool.Decides.{nat_tests}
use Rattle.sched_base.specs.declared.limits.TheConstants.{MAX_THREADS}
use Rattle.sched_io.specs.Written.{Adds}
use Rattle.job_trace.specs.declared.trace.Numbered.{Numbered}
use Rattle.job_trace.specs.TraceText.{SpellsTrace, numbered}
use Rattle.trace_maker.specs.Generator.{drawn, state_after}
use Rattle.trace_maker.specs.Made.{header, made, made_trace, thread_line, thread_lines}
use Rattle.trace_maker.specs.declared.fault.MakeFault.TheVariants.{Size}
use Rattle.trace_maker.proofs.MadeLemmas.{made-keeps}
use Rattle.trace_printer.specs.Printed.{renumbered, trace_text}
use Rattle.trace_printer.proofs.ReadAgain.{read-again}
use Rattle.ipanema_cli.specs.MakeTruths.{MakesTruly}
use Rattle.ipanema_cli.specs.declared.answers.Answer.TheVariants as answer
use Rattle.ipanema_cli.proofs.Stopped.{Stopped, at_4, at_5, at_6}
use Rattle.command_words.specs.Command.{Asked, make}
use Rattle.ipanema_cli.specs.Truths.{IsTruthful}
use Rattle.ipanema_cli.proofs.CommandLaw.{CommandLaw, Crowds, Known, Shows, given}
use Rattle.ipanema_cli.proofs.WritesLemmas.{one_line}

renumbered-push : (number : ℕ) (front : List Numbered) (n : Numbered) →
    renumbered number (front ++ n ∷ []) ≡ renumbered number front ++ numbered (number + length front) n.line ∷ []
renumbered-push number [] n =
    let same : number ≡ number + 0 = omega arith in
    ap (λ (place : ℕ). numbered place n.line ∷ []) same
renumbered-push number (m ∷ front) n =
    let same : number + 1 + length front ≡ number + length (m ∷ front) = omega arith in
    ap (λ (rest : List Numbered). numbered number m.line ∷ rest)
    (renumbered-push (number + 1) front n ∙ ap (λ (place : ℕ). renumbered (number + 1) front ++ numbered place n.line ∷ []) same)

length-threads : (seed size : ℕ) → length (thread_lines seed size) ≡ size
length-threads seed zero = refl
length-threads seed (suc size) =
    let line : Numbered = thread_line (suc size) (drawn (state_after seed (suc size))) in
    omega (arith, length-append (thread_lines seed size) (line ∷ []), length-threads seed size)

-- the lines of a made trace are numbered from 1
thread-numbers : (seed size : ℕ) → renumbered 4 (thread_lines seed size) ≡ thread_lines seed size
thread-numbers seed zero = refl
thread-numbers seed (suc size) =
    let line : Numbered = thread_line (suc size) (drawn (state_after seed (suc size))) in
    let place : 4 + length (thread_lines seed size) ≡ suc size + 3 = omega (arith, length-threads seed size) in
    renumbered-push 4 (thread_lines seed size) line
    ∙ ap₂ (λ (front : List Numbered) (number : ℕ). front ++ numbered number line.line ∷ []) (thread-numbers seed size) place

made-numbers : (seed size : ℕ) → renumbered 1 (made_trace seed size) ≡ made_trace seed size
made-numbers seed size = ap (λ (threads : List Numbered). header ++ threads) (thread-numbers seed size)

-- what is made is a trace of so many threads as there may be, and its text spells it
made-spells : (seed size : ℕ) (trace : List Numbered) → made seed size ≡ Ok trace → SpellsTrace (trace_text trace) trace
made-spells seed size trace is = by (size == 0) (nat_lt MAX_THREADS size) refl is
  where
    by : (none many : Bool) → nat_lt MAX_THREADS size ≡ many → cond (none || many) (Err Size) (Ok (made_trace seed size)) ≡ Ok trace → SpellsTrace (trace_text trace) trace
    by true many over e = absurd (let bad = e in cc)
    by false true over e = absurd (let bad = e in cc)
    by false false over e =
        let few : size ≤ MAX_THREADS = grind (arith, nat_tests) in
        let same : made_trace seed size ≡ trace = cc in
        let reads : SpellsTrace (trace_text (made_trace seed size)) (made_trace seed size) =
        subst (λ (lines : List Numbered). SpellsTrace (trace_text (made_trace seed size)) lines) (made-numbers seed size)
        (read-again (made_trace seed size) (made-keeps seed size few)) in
        subst (λ (lines : List Numbered). SpellsTrace (trace_text lines) lines) same reads

pub stopped_make : (seed size : ℕ) (before after : Option (List ℕ)) (code : ℕ) → Stopped code → (code ≡ 4 → ⊥) → MakesTruly seed size before after code
stopped_make seed size before after code stop read = elim stop [
  | at_4 e ↦ absurd (read e)
  | at_5 e ↦ record { ends = rw e refl; makes = λ h. absurd (omega (arith, e, h)) }
  | at_6 e ↦ record { ends = rw e refl; makes = λ h. absurd (omega (arith, e, h)) }
]

pub make_law : (Passed : ℕ → ℕ → Type 0) (seed size : ℕ) → CommandLaw Passed (Some (make seed size))
make_law Passed seed size =
    let asked : Option Asked = Some (make seed size) in
    record {
      known = λ text a is. given answer.Made _ (Known asked) (λ made is. refl) a is;
      crowds = λ told text before after a files is. given answer.Made _ (Crowds asked told before after) (λ made is e added. absurd (omega arith)) a is;
      shows = λ told text before after code a files is.
          given answer.Made _ (Shows (IsTruthful Passed asked told before after code) before after code) (λ made is own added. record {
            ends = rw own refl;
            makes = λ h. record {
              trace = is.0;
              made = is.1;
              spells = made-spells seed size is.0 is.1;
              written = subst (λ (bytes : List ℕ). Adds bytes before after) is.2 (one_line made.items before after added);
            };
          }) a is;
      long = λ told before after code which long own. absurd long;
      stopped = λ told before after code stop file. stopped_make seed size before after code stop file;
    }
