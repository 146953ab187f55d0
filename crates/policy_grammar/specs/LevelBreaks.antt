-- The limits of level texts: which one a syntax passes first, in the order of its tokens.
use Rattle.std.specs.Prelude.{ℕ, ◌+◌, List, [], ◌∷◌, Option, None}
use Rattle.policy_syntax.specs.LevelTrees.{OneLevelSyntaxTree, LevelSyntaxTree}
use Rattle.policy_grammar.specs.declared.limits.Limits.{Limits}
use Rattle.policy_grammar.specs.declared.fault.ParseFault.{ParseFault}
use Rattle.policy_grammar.specs.Breaks.{many, first_of, breaks_condition, breaks_around, breaks_choices}

-- the comparison of its `within` is one, and doesn't count among those of its filter
abbrev pub breaks_level : Limits → OneLevelSyntaxTree → Option ParseFault
breaks_level limits l =
    first_of (breaks_condition limits 1 0 0 l.within) (breaks_condition limits limits.level_comparisons 0 0 l.filter)

-- levels behind so many
abbrev pub breaks_level_list : Limits → ℕ → List OneLevelSyntaxTree → Option ParseFault
breaks_level_list limits count [] = None
breaks_level_list limits count (l ∷ rest) =
    first_of (many limits.levels l.at count)
    (first_of (breaks_level limits l) (breaks_level_list limits (count + 1) rest))

-- the first limit that a level text passes
abbrev pub breaks_level_text : Limits → LevelSyntaxTree → Option ParseFault
breaks_level_text limits s =
    breaks_around limits s.attrs s.place s.elect s.handlers (breaks_level_list limits 0 s.levels)
    (breaks_choices limits limits.level_keys s.choose s.steal s.batch)
