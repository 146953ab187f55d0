-- The policy by levels that a level text is, and the rules that it breaks, in the order of the text.
use Rattle.std.specs.Prelude.{ℕ, List, [], ◌∷◌, ◌++◌, map}
use Rattle.policy_tree.specs.declared.typed.Load.{Load}
use Rattle.policy_syntax.specs.LevelTrees.{OneLevelSyntaxTree, LevelSyntaxTree}
use Rattle.policy_syntax.specs.SyntaxTrees.{SyntaxTree, always}
use Rattle.level_policy.specs.Levels.{LevelTree, LevelsMeaning}
use Rattle.policy_types.specs.declared.fault.TypeFault.{TypeFault}
use Rattle.policy_types.specs.declared.scope.Scope.{Scope}
use Rattle.policy_types.specs.declared.sites.Site.TheVariants.{Filter, Within}
use Rattle.policy_types.specs.Conditions.{condition_faults, condition_meaning}
use Rattle.policy_types.specs.Declarations.{attrs_faults, load_faults, nothing_declared, scope_after}
use Rattle.policy_types.specs.Policies.{choices_faults, meaning_in, running_faults}

-- a level
abbrev pub level_meaning : Scope → OneLevelSyntaxTree → LevelTree
level_meaning scope l =
    record { within = condition_meaning scope l.within; filter = condition_meaning scope l.filter }

abbrev pub level_faults : Scope → OneLevelSyntaxTree → List TypeFault
level_faults scope l = condition_faults scope Within l.within ++ condition_faults scope Filter l.filter

abbrev pub level_list_faults : Scope → List OneLevelSyntaxTree → List TypeFault
level_list_faults scope [] = []
level_list_faults scope (l ∷ rest) = level_faults scope l ++ level_list_faults scope rest

-- the policy that stands beside the levels: its filter is `always`
abbrev pub beside_levels : LevelSyntaxTree → SyntaxTree
beside_levels s = record {
  name = s.name;
  load = s.load;
  attrs = s.attrs;
  place = s.place;
  elect = s.elect;
  handlers = s.handlers;
  filter_at = s.choose_at;
  filter = always s.choose_at;
  choose_at = s.choose_at;
  choose = s.choose;
  steal_at = s.steal_at;
  steal = s.steal;
  batch = s.batch;
}

-- the policy by levels, where what it declares is this
abbrev pub level_text_meaning_in : Scope → LevelSyntaxTree → LevelsMeaning
level_text_meaning_in scope s =
    record { plain = meaning_in scope (beside_levels s); levels = map (level_meaning scope) s.levels }

-- with that name and that load
abbrev pub headed : List ℕ → Load → LevelsMeaning → LevelsMeaning
headed name load l = record { plain = record l.plain { name = name; load = load }; levels = l.levels }

-- what the text declares
abbrev pub level_scope : LevelSyntaxTree → Scope
level_scope s = scope_after nothing_declared s.attrs

abbrev pub level_text_meaning : LevelSyntaxTree → LevelsMeaning
level_text_meaning s = level_text_meaning_in (level_scope s) s

-- the rules that are broken behind the declarations
abbrev pub level_text_faults_in : Scope → LevelSyntaxTree → List TypeFault
level_text_faults_in scope s =
    running_faults scope s.place s.elect s.handlers
    ++ (level_list_faults scope s.levels ++ choices_faults scope s.choose s.steal s.batch)

abbrev pub level_text_faults : LevelSyntaxTree → List TypeFault
level_text_faults s =
    load_faults s.load ++ (attrs_faults nothing_declared s.attrs ++ level_text_faults_in (level_scope s) s)
