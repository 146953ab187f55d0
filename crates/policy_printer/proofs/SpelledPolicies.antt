-- The tokens of a part are its printed tokens: policies.
use Rattle.std.proofs.Common.{◌≡◌, ◌+◌, ℕ, List, [], ◌∷◌, length, Option, Bool, true, false, lit<, refl, arith}
use Rattle.std.specs.List.{flat_map}
use Rattle.policy_tree.specs.declared.typed.Event.{Event}
use Rattle.policy_tree.specs.declared.typed.Event.TheVariants as event
use Rattle.policy_tree.specs.declared.typed.Put.{Put}
use Rattle.policy_tree.specs.declared.typed.Put.TheVariants as put
use Rattle.policy_syntax.specs.declared.syntax.LoadSyntax.{LoadSyntax}
use Rattle.policy_syntax.specs.declared.syntax.AttrSyntax.{AttrSyntax}
use Rattle.policy_syntax.specs.declared.syntax.PlaceSyntax.{PlaceSyntax}
use Rattle.policy_syntax.specs.declared.syntax.SetSyntax.{SetSyntax}
use Rattle.policy_syntax.specs.SyntaxTrees.{ElectSyntaxTree, BatchSyntaxTree, CaseSyntaxTree, HandlerSyntaxTree, SyntaxTree}
use Rattle.policy_lexer.specs.declared.token.Symbol.TheVariants as sign
use Rattle.policy_lexer.specs.declared.token.Token.{Token}
use Rattle.policy_grammar.specs.Lexemes.{reserved_words, policy_lexemes}
use Rattle.policy_grammar.specs.declared.terminal.Terminal.TheVariants as terminal
use Rattle.policy_grammar.specs.Terminals.{code, kind_at, word_at}
use Rattle.policy_grammar.specs.Words.{attr_word, event_word, put_word}
use Rattle.policy_grammar.specs.Policies.{IsLoad, load_count, load_weight, IsAttr, attr_of, IsAttrs, attrs_none, attrs_more, IsPlace, place_none, place_here, place_least, IsElect, elect_none, elect_some, IsBatch, batch_none, batch_some, IsSets, sets_none, sets_more, IsCase, case_of, IsCases, cases_none, cases_more, IsHandler, handler_of, IsHandlers, handlers_none, handlers_more, IsPolicy, policy_of}
use Rattle.policy_printer.specs.WordTexts.{kind_text, event_text, put_text}
use Rattle.policy_printer.specs.PolicyTexts.{load_texts, attr_texts, place_texts, elect_texts, batch_texts, set_texts, case_texts, handler_texts, policy_texts}
use Rattle.policy_printer.proofs.SpelledExpressions.{Are, int-spells, range-spells, expr-spells}
use Rattle.policy_printer.proofs.SpelledConditions.{condition-spells}
use Rattle.policy_printer.proofs.SpelledOrders.{order-spells}
use Rattle.policy_printer.proofs.Spells.{◌▹◌, nothing, reserved, symbol, word, number}

module _ (text : List ℕ) (tokens : List Token) where
  two : (at : ℕ) → at + 1 + 1 ≡ at + 2
  two at = omega arith

  three : (at : ℕ) → at + 2 + 1 ≡ at + 3
  three at = omega arith

  four : (at : ℕ) → at + 3 + 1 ≡ at + 4
  four at = omega arith

  -- a name is a word
  name : {at to : ℕ} → at + 1 ≡ to → kind_at (policy_lexemes text tokens) at ≡ code terminal.Name → Are text tokens at (word_at text (policy_lexemes text tokens) at ∷ []) to
  name next k = word text tokens next (rw k refl)

  load-spells : {at to : ℕ} {v : LoadSyntax} → IsLoad (policy_lexemes text tokens) at v to → Are text tokens at (load_texts v) to
  unfolding reserved_words
  load-spells {at = at} (load_count k c) = reserved text tokens (code terminal.Load) refl k (lit< tt) (lit< tt) ▹ reserved text tokens (code terminal.Count) (two at) c (lit< tt) (lit< tt)
  load-spells {at = at} (load_weight k w d) =
      reserved text tokens (code terminal.Load) refl k (lit< tt) (lit< tt) ▹ reserved text tokens (code terminal.Weight) (two at) w (lit< tt) (lit< tt) ▹ range-spells text tokens d

  kind-spells : {at : ℕ} (of_cores : Bool) → kind_at (policy_lexemes text tokens) at ≡ attr_word of_cores → Are text tokens at (kind_text of_cores ∷ []) (at + 1)
  unfolding reserved_words
  kind-spells true k = reserved text tokens (code terminal.Core) refl k (lit< tt) (lit< tt)
  kind-spells false k = reserved text tokens (code terminal.Thread) refl k (lit< tt) (lit< tt)

  attr-spells : {at to : ℕ} {v : AttrSyntax} → IsAttr text (policy_lexemes text tokens) at v to → Are text tokens at (attr_texts v) to
  unfolding reserved_words
  attr-spells {at = at} (attr_of of_cores k n i r s d) =
      kind-spells of_cores k ▹ name (two at) n ▹ reserved text tokens (code terminal.In) (three at) i (lit< tt) (lit< tt) ▹ range-spells text tokens r
      ▹ reserved text tokens (code terminal.Start) refl s (lit< tt) (lit< tt) ▹ int-spells text tokens d

  attrs-spells : {at to : ℕ} {v : List AttrSyntax} → IsAttrs text (policy_lexemes text tokens) at v to → Are text tokens at (flat_map attr_texts v) to
  attrs-spells attrs_none = nothing
  attrs-spells (attrs_more d rest) = attr-spells d ▹ attrs-spells rest

  place-spells : {at to : ℕ} {v : Option PlaceSyntax} → IsPlace text (policy_lexemes text tokens) at v to → Are text tokens at (place_texts v) to
  unfolding reserved_words
  place-spells place_none = nothing
  place-spells {at = at} (place_here k h) = reserved text tokens (code terminal.Place) refl k (lit< tt) (lit< tt) ▹ reserved text tokens (code terminal.Here) (two at) h (lit< tt) (lit< tt)
  place-spells {at = at} (place_least k m d) =
      reserved text tokens (code terminal.Place) refl k (lit< tt) (lit< tt) ▹ reserved text tokens (code terminal.Min) (two at) m (lit< tt) (lit< tt) ▹ expr-spells text tokens d

  elect-spells : {at to : ℕ} {v : Option ElectSyntaxTree} → IsElect text (policy_lexemes text tokens) at v to → Are text tokens at (elect_texts v) to
  unfolding reserved_words
  elect-spells elect_none = nothing
  elect-spells (elect_some k d) =
      reserved text tokens (code terminal.Elect) refl k (lit< tt) (lit< tt) ▹ order-spells text tokens d

  sets-spells : {at to : ℕ} {v : List SetSyntax} → IsSets text (policy_lexemes text tokens) at v to → Are text tokens at (flat_map set_texts v) to
  unfolding reserved_words
  sets-spells sets_none = nothing
  sets-spells {at = at} (sets_more k d w g e c rest) =
      (reserved text tokens (code terminal.Task) refl k (lit< tt) (lit< tt) ▹ symbol text tokens sign.Dot (two at) d (lit< tt) ▹ word text tokens (three at) w
      ▹ symbol text tokens sign.Gets (four at) g (lit< tt) ▹ expr-spells text tokens e ▹ symbol text tokens sign.Comma refl c (lit< tt))
      ▹ sets-spells rest

  put-spells : {at : ℕ} (p : Put) → kind_at (policy_lexemes text tokens) at ≡ put_word p → Are text tokens at (put_text p ∷ []) (at + 1)
  unfolding reserved_words
  put-spells put.Queue k = reserved text tokens (code terminal.Queue) refl k (lit< tt) (lit< tt)
  put-spells put.Keep k = reserved text tokens (code terminal.Keep) refl k (lit< tt) (lit< tt)
  put-spells put.Block k = reserved text tokens (code terminal.Block) refl k (lit< tt) (lit< tt)

  case-spells : {at to : ℕ} {v : CaseSyntaxTree} → IsCase text (policy_lexemes text tokens) at v to → Are text tokens at (case_texts v) to
  unfolding reserved_words
  case-spells (case_of p k g c s q) =
      reserved text tokens (code terminal.When) refl k (lit< tt) (lit< tt) ▹ condition-spells text tokens g ▹ symbol text tokens sign.Colon refl c (lit< tt) ▹ sets-spells s ▹ put-spells p q

  cases-spells : {at to : ℕ} {v : List CaseSyntaxTree} → IsCases text (policy_lexemes text tokens) at v to → Are text tokens at (flat_map case_texts v) to
  cases-spells cases_none = nothing
  cases-spells (cases_more d rest) = case-spells d ▹ cases-spells rest

  event-spells : {at to : ℕ} (e : Event) → at + 1 ≡ to → kind_at (policy_lexemes text tokens) at ≡ event_word e → Are text tokens at (event_text e ∷ []) to
  unfolding reserved_words
  event-spells event.Enqueue next k = reserved text tokens (code terminal.Enqueue) next k (lit< tt) (lit< tt)
  event-spells event.Tick next k = reserved text tokens (code terminal.Tick) next k (lit< tt) (lit< tt)
  event-spells event.Yield next k = reserved text tokens (code terminal.Yield) next k (lit< tt) (lit< tt)
  event-spells event.Block next k = reserved text tokens (code terminal.Block) next k (lit< tt) (lit< tt)

  handler-spells : {at to : ℕ} {v : HandlerSyntaxTree} → IsHandler text (policy_lexemes text tokens) at v to → Are text tokens at (handler_texts v) to
  unfolding reserved_words
  handler-spells {at = at} (handler_of e k v b d rest f) =
      reserved text tokens (code terminal.On) refl k (lit< tt) (lit< tt) ▹ event-spells e (two at) v ▹ symbol text tokens sign.Begin (three at) b (lit< tt)
      ▹ (case-spells d ▹ cases-spells rest) ▹ symbol text tokens sign.Finish refl f (lit< tt)

  handlers-spells : {at to : ℕ} {v : List HandlerSyntaxTree} → IsHandlers text (policy_lexemes text tokens) at v to → Are text tokens at (flat_map handler_texts v) to
  handlers-spells handlers_none = nothing
  handlers-spells (handlers_more d rest) = handler-spells d ▹ handlers-spells rest

  batch-spells : {at to : ℕ} {v : Option BatchSyntaxTree} → IsBatch text (policy_lexemes text tokens) at v to → Are text tokens at (batch_texts v) to
  unfolding reserved_words
  batch-spells batch_none = nothing
  batch-spells (batch_some {mid = mid} w d l n) =
      reserved text tokens (code terminal.While) refl w (lit< tt) (lit< tt) ▹ condition-spells text tokens d
      ▹ reserved text tokens (code terminal.Limit) refl l (lit< tt) (lit< tt) ▹ number text tokens (two mid) n

  pub policy-spells : {s : SyntaxTree} → IsPolicy text (policy_lexemes text tokens) s → Are text tokens 0 (policy_texts s) (length (policy_lexemes text tokens))
  unfolding reserved_words
  policy-spells (policy_of k0 k1 dl da dp de dh kf df kc dc ks ds db) =
      reserved text tokens (code terminal.Policy) refl k0 (lit< tt) (lit< tt) ▹ name refl k1
      ▹ (load-spells dl ▹ attrs-spells da ▹ place-spells dp ▹ elect-spells de ▹ handlers-spells dh)
      ▹ reserved text tokens (code terminal.Filter) refl kf (lit< tt) (lit< tt) ▹ condition-spells text tokens df ▹ reserved text tokens (code terminal.Choose) refl kc (lit< tt) (lit< tt)
      ▹ order-spells text tokens dc ▹ reserved text tokens (code terminal.Steal) refl ks (lit< tt) (lit< tt)
      ▹ order-spells text tokens ds ▹ batch-spells db
