-- Cores and threads as structs, with their ranges.
use Rattle.std.specs.Prelude.{ℕ, Bool, true, false, List, [], ◌∷◌, ◌++◌, ◌*◌, codes, decimal}
use Rattle.std.specs.List.{flat_map}
use Rattle.sched_base.specs.declared.limits.TheConstants.{MAX_THREADS}
use Rattle.policy_tree.specs.declared.typed.Attr.{Attr}
use Rattle.policy_tree.specs.Meaning.{Meaning}
use Rattle.policy_eval.specs.Ranges.{greatest_weight, least_weight}
use Rattle.c_printer.specs.ExpressionTexts.{plain_texts, signed_texts}
use Rattle.c_printer.specs.WideRules.{is_wide_policy}

-- a constant of an attribute of that kind, of cores or of threads, but for its number
abbrev pub constant_texts : Meaning → (kind end : List ℕ) → Attr → List (List ℕ)
constant_texts p kind end a = codes "#define " ∷ p.name ∷ kind ∷ end ∷ a.name ∷ codes " " ∷ []

-- the range of such an attribute, and the number that it begins as
abbrev pub range_texts : Meaning → (kind : List ℕ) → Attr → List (List ℕ)
range_texts p kind a =
    constant_texts p kind (codes "MIN_") a ++ (plain_texts a.lo
    ++ (codes "\n" ∷ (constant_texts p kind (codes "MAX_") a ++ (plain_texts a.hi
    ++ (codes "\n" ∷ (constant_texts p kind (codes "START_") a ++ (plain_texts a.start ++ (codes "\n" ∷ []))))))))

-- a number that is never negative
abbrev pub limit_constant_texts : Meaning → (word : List ℕ) → ℕ → List (List ℕ)
limit_constant_texts p word n = codes "#define " ∷ p.name ∷ word ∷ decimal n ∷ codes "\n" ∷ []

-- all ranges
abbrev pub constants_texts : Meaning → List (List ℕ)
constants_texts p =
    codes "\n" ∷ (limit_constant_texts p (codes "_NR_MAX ") MAX_THREADS
    ++ (limit_constant_texts p (codes "_LOAD_MAX ") (MAX_THREADS * greatest_weight p.load)
    ++ (limit_constant_texts p (codes "_WEIGHT_MIN ") (least_weight p.load)
    ++ (limit_constant_texts p (codes "_WEIGHT_MAX ") (greatest_weight p.load)
    ++ (flat_map (range_texts p (codes "_CORE_")) p.core_attrs
    ++ flat_map (range_texts p (codes "_THREAD_")) p.thread_attrs)))))

-- the macro X, applied to the attribute's name
abbrev pub applied_texts : Attr → List (List ℕ)
applied_texts a = codes " X(" ∷ a.name ∷ codes ")" ∷ []

-- attributes as a list that a macro can walk
abbrev pub list_texts : Meaning → (word : List ℕ) → List Attr → List (List ℕ)
list_texts p word attrs =
    codes "#define " ∷ p.name ∷ word ∷ (flat_map applied_texts attrs ++ (codes "\n" ∷ []))

abbrev pub lists_texts : Meaning → List (List ℕ)
lists_texts p =
    codes "\n/* The attributes of cores and of threads: each is given to a macro X of one parameter. */\n"
    ∷ (list_texts p (codes "_CORE_ATTRS(X)") p.core_attrs ++ list_texts p (codes "_THREAD_ATTRS(X)") p.thread_attrs)

abbrev pub digit_text : Bool → List ℕ
digit_text true = codes "1\n"
digit_text false = codes "0\n"

-- whether a compiler without `__int128` can take the header
abbrev pub wide_texts : Meaning → List (List ℕ)
wide_texts p =
    codes "\n/* 1 where a rule is computed in __int128, which compilers for 32 bits and for BPF lack, else 0. */\n"
    ∷ codes "#define " ∷ p.name ∷ codes "_WIDE " ∷ digit_text (is_wide_policy p) ∷ []

-- a field with its range
abbrev pub field_texts : Attr → List (List ℕ)
field_texts a =
    codes "\tint64_t attr_" ∷ a.name ∷ codes "; /* from " ∷ (signed_texts a.lo
    ++ (codes " to " ∷ (signed_texts a.hi ++ (codes ", begins as " ∷ (signed_texts a.start ++ (codes " */\n" ∷ []))))))

abbrev pub core_struct_texts : Meaning → List (List ℕ)
core_struct_texts p =
    codes "\n/* A core, as another core may see it. */\nstruct " ∷ p.name ∷ codes "_core {\n"
    ∷ codes "\tint64_t nr; /* its threads, the running one counted: from 0 to " ∷ decimal MAX_THREADS
    ∷ codes " */\n\tint64_t load; /* the sum of their weights: from 0 to "
    ∷ decimal (MAX_THREADS * greatest_weight p.load) ∷ codes " */\n"
    ∷ (flat_map field_texts p.core_attrs ++ (codes "};\n" ∷ []))

abbrev pub thread_struct_texts : Meaning → List (List ℕ)
thread_struct_texts p =
    codes "\n/* A thread. */\nstruct " ∷ p.name ∷ codes "_thread {\n\tint64_t weight; /* from "
    ∷ decimal (least_weight p.load) ∷ codes " to " ∷ decimal (greatest_weight p.load) ∷ codes " */\n"
    ∷ (flat_map field_texts p.thread_attrs ++ (codes "};\n" ∷ []))

-- where an event puts a thread
abbrev pub put_enum_texts : Meaning → List (List ℕ)
put_enum_texts p =
    codes "\n/* Where an event puts a thread: at the queue's end, still running, or among the blocked. */\n"
    ∷ codes "enum " ∷ p.name
    ∷ codes "_put { " ∷ p.name ∷ codes "_put_queue, " ∷ p.name ∷ codes "_put_keep, " ∷ p.name
    ∷ codes "_put_block };\n" ∷ []

-- what brings a value to the nearest end of a range
abbrev pub cut_texts : Meaning → List (List ℕ)
cut_texts p =
    codes "\nstatic inline int64_t\n" ∷ p.name ∷ codes "_cut(int64_t value, int64_t least, int64_t greatest)\n{\n"
    ∷ codes "\treturn value < least ? least : value > greatest ? greatest : value;\n}\n" ∷ []

abbrev pub structs_texts : Meaning → List (List ℕ)
structs_texts p =
    constants_texts p ++ (lists_texts p ++ (wide_texts p ++ (core_struct_texts p
    ++ (thread_struct_texts p ++ (put_enum_texts p ++ cut_texts p)))))
