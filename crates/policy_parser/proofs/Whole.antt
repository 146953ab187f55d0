-- Policies from their sections.
use Rattle.std.proofs.Common.{◌≡◌, ℕ, ◌+◌, List, Option, Some, sym, ap, subst, arith, ◌∙◌}
use Rattle.policy_syntax.specs.declared.syntax.LoadSyntax.{LoadSyntax}
use Rattle.policy_syntax.specs.declared.syntax.AttrSyntax.{AttrSyntax}
use Rattle.policy_syntax.specs.declared.syntax.PlaceSyntax.{PlaceSyntax}
use Rattle.policy_syntax.specs.SyntaxTrees.{ConditionTree, OrderSyntaxTree, ElectSyntaxTree, BatchSyntaxTree, HandlerSyntaxTree}
use Rattle.policy_grammar.specs.declared.terminal.Lexeme.{Lexeme}
use Rattle.policy_grammar.specs.declared.terminal.Terminal.{Terminal}
use Rattle.policy_grammar.specs.declared.terminal.Terminal.TheVariants.{Policy, Name, While, Limit, Number}
use Rattle.policy_grammar.specs.Terminals.{code, kind_at, value_at, word_at}
use Rattle.policy_grammar.specs.Conditions.{IsCondition}
use Rattle.policy_grammar.specs.Policies.{IsLoad, IsBatch, batch_some, IsPolicy, policy_of}
use Rattle.policy_parser.specs.Sections.{IsHeader, IsFront, IsBack}

-- the name and the load, from the places that the parser has
pub header-parts : {text : List ℕ} {ts : List Lexeme} {name_at load_at to : ℕ} {word : Terminal} {name : List ℕ} {load : LoadSyntax} → kind_at ts 0 ≡ code word → name_at ≡ 0 + 1 →
    kind_at ts name_at ≡ code Name → name ≡ word_at text ts name_at → load_at ≡ name_at + 1 → IsLoad ts load_at load to → IsHeader text ts word name load to
header-parts {text = text} {ts = ts} {to = to} {load = load} k e1 n w e2 d =
    let two : _ ≡ 2 = omega (arith, e1, e2) in
    record {
      begins = k;
      named = subst (λ m. kind_at ts m ≡ code Name) e1 n;
      called = w ∙ ap (word_at text ts) e1;
      loads = subst (λ m. IsLoad ts m load to) two d;
    }

-- a batch, from the places that the parser has
pub batch-parts : {text : List ℕ} {ts : List Lexeme} {at mid to limit : ℕ} {condition : ConditionTree} → kind_at ts at ≡ code While →
    IsCondition text ts (at + 1) condition mid → kind_at ts mid ≡ code Limit → kind_at ts (mid + 1) ≡ code Number → limit ≡ value_at ts (mid + 1) →
    to ≡ mid + 2 → IsBatch text ts at (Some (record { at = at; condition = condition; limit_at = mid + 1; limit = limit })) to
batch-parts {text = text} {ts = ts} {at = at} {mid = mid} {limit = limit} {condition = condition} w d l n v e =
    subst (λ m. IsBatch text ts at (Some (record { at = at; condition = condition; limit_at = mid + 1; limit = limit })) m) (sym e)
    (subst (λ x. IsBatch text ts at (Some (record { at = at; condition = condition; limit_at = mid + 1; limit = x })) (mid + 2)) (sym v)
    (batch_some w d l n))

-- a whole policy
pub policy-parts : {text : List ℕ} {ts : List Lexeme} {at filter_at choose_at steal_at : ℕ} {name : List ℕ} {load : LoadSyntax} {attrs : List AttrSyntax}
    {place : Option PlaceSyntax} {elect : Option ElectSyntaxTree} {handlers : List HandlerSyntaxTree} {filter : ConditionTree} {choose steal : OrderSyntaxTree} {batch : Option BatchSyntaxTree} →
    IsFront text ts Policy name load attrs place elect at → IsBack text ts at handlers filter_at filter choose_at choose steal_at steal batch →
    IsPolicy text ts (record {
      name = name;
      load = load;
      attrs = attrs;
      place = place;
      elect = elect;
      handlers = handlers;
      filter_at = filter_at;
      filter = filter;
      choose_at = choose_at;
      choose = choose;
      steal_at = steal_at;
      steal = steal;
      batch = batch;
    })
policy-parts {text = text} {ts = ts} {filter_at = filter_at} {choose_at = choose_at} {steal_at = steal_at} {load = load} {attrs = attrs} {place = place}
    {elect = elect} {handlers = handlers} {filter = filter} {choose = choose} {steal = steal} {batch = batch} f b =
    subst (λ x. IsPolicy text ts (record {
      name = x;
      load = load;
      attrs = attrs;
      place = place;
      elect = elect;
      handlers = handlers;
      filter_at = filter_at;
      filter = filter;
      choose_at = choose_at;
      choose = choose;
      steal_at = steal_at;
      steal = steal;
      batch = batch;
    }))
    (sym f.header.called)
    (policy_of f.header.begins f.header.named f.header.loads f.are f.rules.places f.rules.elects b.are b.begins b.filters b.choices.begins b.choices.chooses
    b.choices.follows.begins b.choices.follows.steals b.choices.follows.goes_on)
