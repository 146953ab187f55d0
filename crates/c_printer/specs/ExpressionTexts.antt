-- Expressions in C.
use Rattle.std.specs.Prelude.{ℕ, ℤ, pos, ◌-◌, ◌==◌, nat_lt, int_lt, unsigned_abs, if◌then◌else◌, Bool, true, false}
use Rattle.std.specs.Prelude.{List, [], ◌∷◌, ◌++◌, codes, decimal, Option, Some, None, slice_get}
use Rattle.policy_tree.specs.declared.typed.Attr.{Attr}
use Rattle.policy_tree.specs.declared.variables.TheConstants.{FRESH, OTHER_ATTRIBUTES, OTHER_LOAD, OTHER_NR, SELF_LOAD}
use Rattle.policy_tree.specs.declared.variables.TheConstants.{SELF_ATTRIBUTES, SELF_NR, THREAD_ATTRIBUTES, WEIGHT}
use Rattle.policy_tree.specs.Meaning.{Meaning}
use Rattle.policy_tree.specs.Trees.{ExprTree, number, variable, negation, plus, minus, times}
use Rattle.c_printer.specs.declared.words.Standing.{Standing}
use Rattle.c_printer.specs.declared.words.Standing.TheVariants as standing
use Rattle.c_printer.specs.declared.words.View.{View}
use Rattle.c_printer.specs.declared.words.Width.{Width}
use Rattle.c_printer.specs.declared.words.Width.TheVariants as width
use Rattle.c_printer.specs.Widths.{width_of}
use Rattle.c_printer.specs.WordTexts.{begin_text, cast_text, closing_text, end_text, minus_text, opening_text}
use Rattle.c_printer.specs.WordTexts.{other_word, suffix_text, thread_word}

-- a number in a type; one below zero stands in parentheses
abbrev pub literal_texts : Width → ℤ → List (List ℕ)
literal_texts w n =
    cast_text w ∷ opening_text (int_lt n (pos 0)) ∷ minus_text (int_lt n (pos 0)) ∷ decimal (unsigned_abs n)
    ∷ suffix_text w ∷ closing_text (int_lt n (pos 0)) ∷ []

abbrev pub plain_texts : ℤ → List (List ℕ)
plain_texts n = literal_texts width.Small n

-- a number in a comment
abbrev pub signed_texts : ℤ → List (List ℕ)
signed_texts n = minus_text (int_lt n (pos 0)) ∷ decimal (unsigned_abs n) ∷ []

-- the name of an attribute, and none where it isn't declared
abbrev pub attribute_name : Option Attr → List ℕ
attribute_name None = []
attribute_name (Some a) = a.name

-- an attribute of that owner
abbrev pub named_texts : List ℕ → Option Attr → List (List ℕ)
named_texts owner attr = owner ∷ codes "->attr_" ∷ attribute_name attr ∷ []

-- an attribute of either core or of the thread
abbrev pub attribute_texts : Meaning → View → ℕ → List (List ℕ)
attribute_texts p v at =
    if nat_lt at OTHER_ATTRIBUTES then named_texts (codes "self") (slice_get p.core_attrs (at - SELF_ATTRIBUTES))
    else if nat_lt at THREAD_ATTRIBUTES
    then named_texts (other_word v) (slice_get p.core_attrs (at - OTHER_ATTRIBUTES))
    else named_texts (thread_word v) (slice_get p.thread_attrs (at - THREAD_ATTRIBUTES))

-- A variable by its number. Compilers warn where a `bool` is compared with another number than 0 and 1.
abbrev pub variable_texts : Meaning → View → ℕ → List (List ℕ)
variable_texts p v at =
    if at == SELF_NR then codes "self" ∷ codes "->nr" ∷ []
    else if at == SELF_LOAD then codes "self" ∷ codes "->load" ∷ []
    else if at == OTHER_NR then other_word v ∷ codes "->nr" ∷ []
    else if at == OTHER_LOAD then other_word v ∷ codes "->load" ∷ []
    else if at == WEIGHT then thread_word v ∷ codes "->weight" ∷ []
    else if at == FRESH then codes "(int64_t)fresh" ∷ []
    else attribute_texts p v at

-- whether parentheses stand round a sum, a difference or a negation there
abbrev pub opens_sum : Standing → Bool
opens_sum standing.Alone = false
opens_sum standing.Term = true
opens_sum standing.Tight = true

-- whether they stand round a product
abbrev pub opens_product : Standing → Bool
opens_product standing.Alone = false
opens_product standing.Term = false
opens_product standing.Tight = true

abbrev pub opens_expr : Standing → ExprTree → Bool
opens_expr s (number n) = false
opens_expr s (variable at) = false
opens_expr s (negation e) = opens_sum s
opens_expr s (plus l r) = opens_sum s
opens_expr s (minus l r) = opens_sum s
opens_expr s (times l r) = opens_product s

-- the expression in parentheses, where those are needed
abbrev pub enclosed : Bool → List (List ℕ) → List (List ℕ)
enclosed opens texts = opening_text opens ∷ (texts ++ (closing_text opens ∷ []))

-- the expression, each operand turned into the type of the whole
abbrev pub expr_texts : Meaning → View → Width → ExprTree → List (List ℕ)
expr_texts p v w (number n) = literal_texts w n
expr_texts p v w (variable at) = cast_text w ∷ variable_texts p v at
expr_texts p v w (negation e) = codes "-" ∷ enclosed (opens_expr standing.Tight e) (expr_texts p v w e)
expr_texts p v w (plus l r) =
    enclosed (opens_expr standing.Alone l) (expr_texts p v w l)
    ++ (codes " + " ∷ enclosed (opens_expr standing.Term r) (expr_texts p v w r))
expr_texts p v w (minus l r) =
    enclosed (opens_expr standing.Alone l) (expr_texts p v w l)
    ++ (codes " - " ∷ enclosed (opens_expr standing.Term r) (expr_texts p v w r))
expr_texts p v w (times l r) =
    enclosed (opens_expr standing.Term l) (expr_texts p v w l)
    ++ (codes " * " ∷ enclosed (opens_expr standing.Tight r) (expr_texts p v w r))

-- a sum or a difference, by its sign
abbrev pub sum_texts : Meaning → View → Width → (left : ExprTree) → List ℕ → (right : ExprTree) → List (List ℕ)
sum_texts p v w l sign r =
    enclosed (opens_expr standing.Alone l) (expr_texts p v w l)
    ++ (sign ∷ enclosed (opens_expr standing.Term r) (expr_texts p v w r))

-- the whole expression, in the type that its ranges show to be wide enough
abbrev pub value_texts : Meaning → View → ExprTree → List (List ℕ)
value_texts p v e = begin_text (width_of p e) ∷ (expr_texts p v (width_of p e) e ++ (end_text (width_of p e) ∷ []))
