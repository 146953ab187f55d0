-- Which parts of a policy stand behind which.
use Rattle.std.proofs.Common.{◌≡◌, ◌<◌, ◌≤◌, ℕ, ◌==◌, List, [], ◌∷◌, length, refl, arith, false, Option}
use Rattle.std.proofs.lemmas.Bool.{ne_eqb}
use Rattle.policy_syntax.specs.declared.syntax.PlaceSyntax.{PlaceSyntax}
use Rattle.policy_syntax.specs.SyntaxTrees.{ElectSyntaxTree, HandlerSyntaxTree}
use Rattle.policy_grammar.specs.declared.terminal.Lexeme.{Lexeme}
use Rattle.policy_grammar.specs.declared.terminal.Terminal.TheVariants.{Filter, Comma}
use Rattle.policy_grammar.specs.declared.terminal.Terminal.TheVariants as terminal
use Rattle.policy_grammar.specs.Terminals.{code, kind_at}
use Rattle.policy_grammar.specs.Policies.{IsPlace, place_none, place_here, place_least, IsElect, elect_none, elect_some, handler_of, IsHandlers, handlers_none, handlers_more}
use Rattle.policy_grammar.proofs.CompleteExpressions.{NoOperator}
use Rattle.policy_grammar.proofs.CompleteConditions.{no_or-by}
use Rattle.policy_grammar.proofs.CompleteOrders.{NoKey}

-- a part of a policy stands there, as late as the one with that word, and at the latest the filter
pub record From (first : ℕ) (ts : List Lexeme) (at : ℕ) : Type 0 where
  pub least : first ≤ kind_at ts at
  pub most : kind_at ts at ≤ code terminal.Filter

pub from-no_operator : {first : ℕ} {ts : List Lexeme} {at : ℕ} → From first ts at → NoOperator ts at
from-no_operator {ts = ts} {at = at} f =
    let most = f.most in
    record {
      star = ne_eqb (kind_at ts at) (code terminal.Star) (λ e. omega (arith, e, most));
      plus = ne_eqb (kind_at ts at) (code terminal.Plus) (λ e. omega (arith, e, most));
      minus = ne_eqb (kind_at ts at) (code terminal.Minus) (λ e. omega (arith, e, most));
    }

pub from-no_key : {first : ℕ} {ts : List Lexeme} {at : ℕ} → From first ts at → NoKey ts at
from-no_key {ts = ts} {at = at} f =
    let most = f.most in
    record {
      or = record {
        before = record { operator = from-no_operator f; and = ne_eqb (kind_at ts at) (code terminal.And) (λ e. omega (arith, e, most)) };
        or = ne_eqb (kind_at ts at) (code terminal.Or) (λ e. omega (arith, e, most));
      };
      comma = ne_eqb (kind_at ts at) (code terminal.Comma) (λ e. omega (arith, e, most));
    }

-- an order ends before a token of that kind
pub no_key-by : (ts : List Lexeme) (at k : ℕ) → kind_at ts at ≡ k → (k == code terminal.Star) ≡ false → (k == code terminal.Plus) ≡ false →
    (k == code terminal.Minus) ≡ false → (k == code terminal.And) ≡ false → (k == code terminal.Or) ≡ false →
    (k == code terminal.Comma) ≡ false → NoKey ts at
no_key-by ts at k e star plus minus and or comma = record { or = no_or-by ts at k e star plus minus and or; comma = rw e comma }

pub from-past : {first : ℕ} {ts : List Lexeme} {at : ℕ} (k : ℕ) → k < first → From first ts at → (kind_at ts at == k) ≡ false
from-past {ts = ts} {at = at} k less f = let least = f.least in ne_eqb (kind_at ts at) k (λ e. omega (arith, e, least, less))

from-at : {ts : List Lexeme} {at : ℕ} (first k : ℕ) → kind_at ts at ≡ k → first ≤ k → k ≤ code terminal.Filter →
    From first ts at
from-at first k e low high = record { least = omega (arith, e, low); most = omega (arith, e, high) }

from-less : {m n : ℕ} {ts : List Lexeme} {at : ℕ} → m ≤ n → From n ts at → From m ts at
from-less le f = let least = f.least in record { least = omega (arith, least, le); most = f.most }

pub filter-from : {ts : List Lexeme} {at : ℕ} → kind_at ts at ≡ code Filter → From (code terminal.Level) ts at
filter-from k = from-at (code terminal.Level) (code Filter) k (omega arith) (omega arith)

pub level-from : {ts : List Lexeme} {at : ℕ} → kind_at ts at ≡ code terminal.Level → From (code terminal.Level) ts at
level-from k = from-at (code terminal.Level) (code terminal.Level) k (omega arith) (omega arith)

pub handlers-from : {text : List ℕ} {ts : List Lexeme} {at to : ℕ} {hs : List HandlerSyntaxTree} → IsHandlers text ts at hs to →
    From (code terminal.Level) ts to → From (code terminal.On) ts at
handlers-from handlers_none f = from-less (omega arith) f
handlers-from (handlers_more (handler_of e k1 k2 k3 c cs k4) more) f =
    from-at (code terminal.On) (code terminal.On) k1 (omega arith) (omega arith)

pub elect-from : {text : List ℕ} {ts : List Lexeme} {at to : ℕ} {e : Option ElectSyntaxTree} → IsElect text ts at e to → From (code terminal.On) ts to → From (code terminal.Elect) ts at
elect-from elect_none f = from-less (omega arith) f
elect-from (elect_some k d) f = from-at (code terminal.Elect) (code terminal.Elect) k (omega arith) (omega arith)

pub place-from : {text : List ℕ} {ts : List Lexeme} {at to : ℕ} {p : Option PlaceSyntax} → IsPlace text ts at p to → From (code terminal.Elect) ts to → From (code terminal.Place) ts at
place-from place_none f = from-less (omega arith) f
place-from (place_here k h) f = from-at (code terminal.Place) (code terminal.Place) k (omega arith) (omega arith)
place-from (place_least k h d) f = from-at (code terminal.Place) (code terminal.Place) k (omega arith) (omega arith)

pub kind-end : (ts : List Lexeme) → kind_at ts (length ts) ≡ 0
kind-end [] = refl
kind-end (t ∷ ts) = kind-end ts
