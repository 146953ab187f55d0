-- A step goes on to more tokens, or finds the fault.
use Rattle.std.proofs.Common.{◌≢◌, ◌+◌, ◌<◌, ◌≤◌, ℕ, List, [], length, length-drop, drop, arith, subst}
use Rattle.policy_lexer.specs.declared.fault.LexFault.{LexFault}
use Rattle.policy_lexer.specs.declared.fault.LexFault.TheVariants.{NotAscii, BadByte, LongName, WideNumber, Memory}
use Rattle.policy_lexer.specs.declared.piece.Step.{Step}
use Rattle.policy_lexer.specs.declared.piece.Step.TheVariants.{Gap, Token}
use Rattle.policy_lexer.specs.declared.token.Token as token
use Rattle.policy_lexer.specs.First.{IsFirstFault, IsStep, size_of_step}
use Rattle.policy_lexer.specs.Tokens.{Reads, reads_nothing}
use Rattle.policy_lexer.proofs.Answered.{fault_at, first-some}
use Rattle.policy_lexer.proofs.Places.{Reads-gap, Reads-token}
use Rattle.policy_lexer.proofs.scanning.fault_of.Goals as goal

-- what a step finds is no want of memory
real : (text : List ℕ) (at : ℕ) (fault : LexFault) → IsFirstFault text at fault → fault ≢ Memory
real text at (NotAscii place) found = λ e. cc
real text at (BadByte place) found = λ e. cc
real text at (LongName place) found = λ e. cc
real text at (WideNumber place) found = λ e. cc
real text at Memory found = absurd found

-- a step goes on by some bytes, and no further than the text
pub record GoesOn (text : List ℕ) (at size : ℕ) : Type 0 where
  pub some : 0 < size
  pub within : size ≤ length (drop at text)
  pub reads : (tokens : List token.Token) × Reads text 0 tokens (at + size)

goes_on : (text : List ℕ) (at : ℕ) (tokens : List token.Token) → Reads text 0 tokens at → (step : Step) → IsStep (drop at text) step → GoesOn text at (size_of_step step)
goes_on text at tokens reads (Gap size) is = record { some = first-some _ _ _ is; within = is.within; reads = (_, Reads-gap _ reads is) }
goes_on text at tokens reads (Token kind size) is = record { some = first-some _ _ _ is.0; within = is.0.within; reads = (_, Reads-token _ _ reads is.0 is.1) }

pub loop-at-init : goal.loop-at-init
loop-at-init c = record { within = omega arith; reads = ([], reads_nothing) }

pub returns-in-Err : goal.returns-in-Err
returns-in-Err c =
    let before = c.loop-at.invariant.reads in
    let found = subst (λ s. IsFirstFault s c.loop-at.at c.in-Err.fault) c.split_at.ensures.back c.in-Err.ensures.fault in
    (fault_at c.args.text.now c.loop-at.at before.0 c.loop-at-test.true before.1 c.in-Err.fault found, real (drop c.loop-at.at c.args.text.now) c.loop-at.at c.in-Err.fault found)

pub loop-at-preserved : goal.loop-at-preserved
loop-at-preserved c =
    let text : List ℕ = c.args.text.now in
    let before = c.loop-at.invariant.reads in
    let step = subst (λ s. IsStep s c.in-Ok.step) c.split_at.ensures.back c.in-Ok.ensures.step in
    let on = rw (← c.size_of_step-at.ensures) at (goes_on text c.loop-at.at before.0 before.1 c.in-Ok.step step) in
    record { within = omega (arith, on.within, length-drop c.loop-at.at text, c.loop-at.invariant.within); reads = on.reads }
