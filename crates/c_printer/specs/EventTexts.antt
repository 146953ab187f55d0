-- Events: each a function of C that changes the thread and answers where it goes.
use Rattle.std.specs.Prelude.{ℕ, Bool, true, false, if◌then◌else◌, List, [], ◌∷◌, ◌++◌, codes, slice_get}
use Rattle.std.specs.List.{flat_map}
use Rattle.policy_tree.specs.declared.typed.Event.{Event}
use Rattle.policy_tree.specs.Meaning.{CaseTree, Meaning, SetTree, cases_on}
use Rattle.policy_tree.specs.Trees.{CondTree, ExprTree, always, negated, both, either, test}
use Rattle.c_printer.specs.declared.words.View.TheVariants as view
use Rattle.c_printer.specs.declared.words.Width.{Width}
use Rattle.c_printer.specs.declared.words.Width.TheVariants as width
use Rattle.c_printer.specs.ConditionTexts.{cond_texts}
use Rattle.c_printer.specs.ExpressionTexts.{attribute_name, value_texts}
use Rattle.c_printer.specs.OrderTexts.{core_texts}
use Rattle.c_printer.specs.Widths.{width_of}
use Rattle.c_printer.specs.WordTexts.{event_comment, event_text, fresh_text, put_text}

-- an end of the range of an attribute of threads
abbrev pub end_texts : Meaning → (word name : List ℕ) → List (List ℕ)
end_texts p word name = p.name ∷ word ∷ name ∷ []

-- an assignment of a value that fits: it is cut to the range of the attribute
abbrev pub narrow_texts : Meaning → (indent name : List ℕ) → ExprTree → List (List ℕ)
narrow_texts p indent name e =
    indent ∷ codes "thread->attr_" ∷ name ∷ codes " = " ∷ p.name ∷ codes "_cut(" ∷ (value_texts p view.Named e
    ++ (codes ", " ∷ (end_texts p (codes "_THREAD_MIN_") name
    ++ (codes ", " ∷ (end_texts p (codes "_THREAD_MAX_") name ++ (codes ");\n" ∷ []))))))

-- the value, cut before it is made narrow
abbrev pub wide_cut_texts : Meaning → (indent name : List ℕ) → List (List ℕ)
wide_cut_texts p indent name =
    indent ∷ codes "\tthread->attr_" ∷ name ∷ codes " = value < " ∷ (end_texts p (codes "_THREAD_MIN_") name
    ++ (codes " ? " ∷ (end_texts p (codes "_THREAD_MIN_") name
    ++ (codes " : value > " ∷ (end_texts p (codes "_THREAD_MAX_") name
    ++ (codes " ? " ∷ (end_texts p (codes "_THREAD_MAX_") name ++ (codes " : (int64_t)value;\n" ∷ []))))))))

-- an assignment of a wider value
abbrev pub wide_texts : Meaning → (indent name : List ℕ) → ExprTree → List (List ℕ)
wide_texts p indent name e =
    indent ∷ codes "{\n" ∷ indent ∷ codes "\t__extension__ const __int128 value = " ∷ (value_texts p view.Named e
    ++ (codes ";\n" ∷ (wide_cut_texts p indent name ++ (indent ∷ codes "}\n" ∷ []))))

abbrev pub set_texts_in : Width → Meaning → (indent name : List ℕ) → ExprTree → List (List ℕ)
set_texts_in width.Small p indent name e = narrow_texts p indent name e
set_texts_in width.Long p indent name e = narrow_texts p indent name e
set_texts_in width.Wide p indent name e = wide_texts p indent name e

-- An assignment. It changes the thread at once, so the ones behind it see the new value, as in the model.
abbrev pub set_texts : Meaning → List ℕ → SetTree → List (List ℕ)
set_texts p indent s =
    set_texts_in (width_of p s.expr) p indent (attribute_name (slice_get p.thread_attrs s.attr)) s.expr

-- what a case does: its assignments in their order, and where the thread goes
abbrev pub outcome_texts : Meaning → List ℕ → CaseTree → List (List ℕ)
outcome_texts p indent c =
    flat_map (set_texts p indent) c.sets ++ (indent ∷ codes "return " ∷ p.name ∷ put_text c.put ∷ codes ";\n" ∷ [])

abbrev pub is_always : CondTree → Bool
is_always always = true
is_always (negated c) = false
is_always (both l r) = false
is_always (either l r) = false
is_always (test how l r) = false

abbrev pub guarded_texts : Meaning → CaseTree → List (List ℕ)
guarded_texts p c =
    codes "\tif (" ∷ (cond_texts p view.Named c.guard
    ++ (codes ") {\n" ∷ (outcome_texts p (codes "\t\t") c ++ (codes "\t}\n" ∷ []))))

-- The cases, the first of them first. Behind one that always holds no other is asked.
abbrev pub cases_texts : Meaning → List CaseTree → List (List ℕ)
cases_texts p [] =
    codes "\t/* Not reached: of a policy that can be played one case holds. */\n\treturn " ∷ p.name
    ∷ codes "_put_queue;\n" ∷ []
cases_texts p (c ∷ cases) =
    if is_always c.guard then outcome_texts p (codes "\t") c else (guarded_texts p c ++ cases_texts p cases)

abbrev pub event_head_texts : Meaning → Event → List (List ℕ)
event_head_texts p e =
    event_comment e ∷ codes "static inline enum " ∷ p.name ∷ codes "_put\n" ∷ p.name ∷ codes "_on_"
    ∷ event_text e ∷ codes "(" ∷ (core_texts p (codes "self")
    ++ (codes ", struct " ∷ p.name ∷ codes "_thread *thread" ∷ fresh_text e ∷ codes ")\n{\n" ∷ []))

-- the function of one event
abbrev pub handler_texts : Meaning → Event → List (List ℕ)
handler_texts p e = event_head_texts p e ++ (cases_texts p (cases_on p.handlers e) ++ (codes "}\n" ∷ []))
