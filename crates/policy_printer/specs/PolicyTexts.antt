-- The tokens of policies, each as it is spelled.
use Rattle.std.specs.Prelude.{ℕ, List, [], ◌∷◌, ◌++◌, Option, Some, None, codes, decimal}
use Rattle.std.specs.List.{flat_map}
use Rattle.policy_syntax.specs.declared.syntax.LoadSyntax.{LoadSyntax}
use Rattle.policy_syntax.specs.declared.syntax.LoadSyntax.TheVariants as load
use Rattle.policy_syntax.specs.declared.syntax.AttrSyntax.{AttrSyntax}
use Rattle.policy_syntax.specs.declared.syntax.PlaceSyntax.{PlaceSyntax}
use Rattle.policy_syntax.specs.declared.syntax.PlaceSyntax.TheVariants as place
use Rattle.policy_syntax.specs.declared.syntax.SetSyntax.{SetSyntax}
use Rattle.policy_syntax.specs.SyntaxTrees.{ElectSyntaxTree, BatchSyntaxTree, CaseSyntaxTree, HandlerSyntaxTree}
use Rattle.policy_syntax.specs.SyntaxTrees.{SyntaxTree}
use Rattle.policy_printer.specs.WordTexts.{kind_text, event_text, put_text}
use Rattle.policy_printer.specs.ExpressionTexts.{int_texts, range_texts, expr_texts}
use Rattle.policy_printer.specs.ConditionTexts.{condition_texts}
use Rattle.policy_printer.specs.OrderTexts.{order_texts}

abbrev pub load_texts : LoadSyntax → List (List ℕ)
load_texts (load.Count at) = codes "load" ∷ codes "count" ∷ []
load_texts (load.Weight at range) = codes "load" ∷ codes "weight" ∷ range_texts range

abbrev pub attr_texts : AttrSyntax → List (List ℕ)
attr_texts v =
    kind_text v.of_cores ∷ v.name ∷ codes "in" ∷
    (range_texts v.range ++ (codes "start" ∷ int_texts v.start))

abbrev pub place_texts : Option PlaceSyntax → List (List ℕ)
place_texts None = []
place_texts (Some (place.Here at)) = codes "place" ∷ codes "here" ∷ []
place_texts (Some (place.Least at value)) = codes "place" ∷ codes "min" ∷ expr_texts value

abbrev pub elect_texts : Option ElectSyntaxTree → List (List ℕ)
elect_texts None = []
elect_texts (Some v) = codes "elect" ∷ order_texts v.order

abbrev pub set_texts : SetSyntax → List (List ℕ)
set_texts v = codes "t" ∷ codes "." ∷ v.word ∷ codes "=" ∷ (expr_texts v.value ++ (codes "," ∷ []))

abbrev pub case_texts : CaseSyntaxTree → List (List ℕ)
case_texts v =
    codes "when" ∷ (condition_texts v.guard
    ++ (codes ":" ∷ (flat_map set_texts v.sets ++ (put_text v.put ∷ []))))

abbrev pub handler_texts : HandlerSyntaxTree → List (List ℕ)
handler_texts v =
    codes "on" ∷ event_text v.event ∷ codes "{" ∷ (flat_map case_texts v.cases ++ (codes "}" ∷ []))

-- the parts of a policy before its filter
abbrev pub head_texts : SyntaxTree → List (List ℕ)
head_texts v =
    load_texts v.load
    ++ (flat_map attr_texts v.attrs
    ++ (place_texts v.place
    ++ (elect_texts v.elect ++ flat_map handler_texts v.handlers)))

abbrev pub batch_texts : Option BatchSyntaxTree → List (List ℕ)
batch_texts None = []
batch_texts (Some v) = codes "while" ∷ (condition_texts v.condition ++ (codes "limit" ∷ decimal v.limit ∷ []))

-- its filter, choice and steal
abbrev pub phase_texts : SyntaxTree → List (List ℕ)
phase_texts v =
    codes "filter" ∷ (condition_texts v.filter
    ++ (codes "choose" ∷ (order_texts v.choose
    ++ (codes "steal" ∷ (order_texts v.steal ++ batch_texts v.batch)))))

abbrev pub policy_texts : SyntaxTree → List (List ℕ)
policy_texts v = codes "policy" ∷ v.name ∷ (head_texts v ++ phase_texts v)
