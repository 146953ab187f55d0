-- Levels, and level texts from their sections.
use Rattle.std.proofs.Common.{◌≡◌, ℕ, ◌+◌, List, [], ◌∷◌, ◌++◌, map, Option, sym, ap, ap₂, subst, arith, ◌∙◌}
use Rattle.policy_syntax.specs.declared.syntax.LoadSyntax.{LoadSyntax}
use Rattle.policy_syntax.specs.declared.syntax.AttrSyntax.{AttrSyntax}
use Rattle.policy_syntax.specs.declared.syntax.PlaceSyntax.{PlaceSyntax}
use Rattle.policy_syntax.specs.declared.levels.OneLevelSyntax.{OneLevelSyntax}
use Rattle.policy_syntax.specs.LevelTrees.{OneLevelSyntaxTree, one_level_syntax_tree}
use Rattle.policy_syntax.specs.SyntaxTrees.{ConditionTree, OrderSyntaxTree, ElectSyntaxTree, BatchSyntaxTree, HandlerSyntaxTree}
use Rattle.policy_grammar.specs.declared.terminal.Lexeme.{Lexeme}
use Rattle.policy_grammar.specs.declared.terminal.Terminal.TheVariants.{Levels, Level, Within, Filter}
use Rattle.policy_grammar.specs.Terminals.{code, kind_at}
use Rattle.policy_grammar.specs.Conditions.{IsCondition}
use Rattle.policy_grammar.specs.Levels.{IsLevelWithin, IsLevel, level_of, IsLevelList, levels_none, levels_more, IsLevels, levels_of}
use Rattle.policy_parser.specs.Sections.{IsFront}
use Rattle.policy_parser.specs.LevelSections.{Leveled, IsLevelBack}
use Rattle.policy_parser.proofs.Parts.{map-snoc}

-- a level, from the places that the parser has
pub level-parts : {text : List ℕ} {ts : List Lexeme} {at within_at filter_at to : ℕ} {within filter : ConditionTree} →
    kind_at ts at ≡ code Level → kind_at ts (at + 1) ≡ code Within → within_at ≡ at + 1 + 1 → IsLevelWithin text ts within_at within filter_at →
    kind_at ts filter_at ≡ code Filter → IsCondition text ts (filter_at + 1) filter to →
    IsLevel text ts at (record { at = at; within = within; filter_at = filter_at; filter = filter }) to
level-parts {text = text} {ts = ts} {at = at} {filter_at = filter_at} {within = within} l w e d f c =
    let there : _ ≡ at + 2 = omega (arith, e) in
    level_of l w (subst (λ n. IsLevelWithin text ts n within filter_at) there d) f c

levels-snoc : {text : List ℕ} {ts : List Lexeme} {at mid to : ℕ} {items : List OneLevelSyntaxTree} {l : OneLevelSyntaxTree} → IsLevelList text ts at items mid →
    IsLevel text ts mid l to → IsLevelList text ts at (items ++ l ∷ []) to
levels-snoc levels_none d = levels_more d levels_none
levels-snoc (levels_more j more) d = levels_more j (levels-snoc more d)

-- the first level
pub leveled-one : {text : List ℕ} {ts : List Lexeme} {at to : ℕ} {items : List OneLevelSyntax} (first : OneLevelSyntax) → items ≡ first ∷ [] →
    IsLevel text ts at (one_level_syntax_tree first) to → Leveled text ts items at to
leveled-one first e d = record { first = one_level_syntax_tree first; rest = []; mid = _; same = ap (map one_level_syntax_tree) e; is = d; are = levels_none }

-- a level more
pub leveled-snoc : {text : List ℕ} {ts : List Lexeme} {at mid to : ℕ} {items new : List OneLevelSyntax} (last : OneLevelSyntax) → Leveled text ts items at mid →
    IsLevel text ts mid (one_level_syntax_tree last) to → new ≡ items ++ last ∷ [] → Leveled text ts new at to
leveled-snoc {items = items} last k d e =
    record {
      first = k.first;
      rest = k.rest ++ one_level_syntax_tree last ∷ [];
      mid = k.mid;
      same = ap (map one_level_syntax_tree) e ∙ map-snoc one_level_syntax_tree items last ∙ ap (λ x. x ++ one_level_syntax_tree last ∷ []) k.same;
      is = k.is;
      are = levels-snoc k.are d;
    }

-- a whole level text
pub level_text-parts : {text : List ℕ} {ts : List Lexeme} {at choose_at steal_at : ℕ} {name : List ℕ} {load : LoadSyntax} {attrs : List AttrSyntax}
    {place : Option PlaceSyntax} {elect : Option ElectSyntaxTree} {handlers : List HandlerSyntaxTree} {levels : List OneLevelSyntaxTree} {choose steal : OrderSyntaxTree} {batch : Option BatchSyntaxTree} →
    IsFront text ts Levels name load attrs place elect at → IsLevelBack text ts at handlers levels choose_at choose steal_at steal batch →
    IsLevels text ts (record {
      name = name;
      load = load;
      attrs = attrs;
      place = place;
      elect = elect;
      handlers = handlers;
      levels = levels;
      choose_at = choose_at;
      choose = choose;
      steal_at = steal_at;
      steal = steal;
      batch = batch;
    })
level_text-parts {text = text} {ts = ts} {choose_at = choose_at} {steal_at = steal_at} {load = load} {attrs = attrs} {place = place}
    {elect = elect} {handlers = handlers} {choose = choose} {steal = steal} {batch = batch} f b =
    subst (λ (x : List ℕ × List OneLevelSyntaxTree). IsLevels text ts (record {
      name = x.0;
      load = load;
      attrs = attrs;
      place = place;
      elect = elect;
      handlers = handlers;
      levels = x.1;
      choose_at = choose_at;
      choose = choose;
      steal_at = steal_at;
      steal = steal;
      batch = batch;
    }))
    (ap₂ (λ n l. (n, l)) (sym f.header.called) (sym b.listed))
    (levels_of f.header.begins f.header.named f.header.loads f.are f.rules.places f.rules.elects b.are b.is b.follow b.choices.begins b.choices.chooses
    b.choices.follows.begins b.choices.follows.steals b.choices.follows.goes_on)
