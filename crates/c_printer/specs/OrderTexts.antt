-- Filter, orders, placement and batch: each a function of C that answers whether.
use Rattle.std.specs.Prelude.{ℕ, List, [], ◌∷◌, ◌++◌, codes, decimal, Option, Some, None}
use Rattle.std.specs.List.{flat_map}
use Rattle.policy_tree.specs.Meaning.{BatchTree, KeyTree, Meaning, PlaceTree, greatest_first, here, least, least_first}
use Rattle.policy_tree.specs.Meaning.{preferring}
use Rattle.policy_tree.specs.Trees.{CondTree, ExprTree}
use Rattle.c_printer.specs.declared.words.View.TheVariants as view
use Rattle.c_printer.specs.ConditionTexts.{cond_texts}
use Rattle.c_printer.specs.ExpressionTexts.{value_texts}

-- a parameter that is a core
abbrev pub core_texts : Meaning → List ℕ → List (List ℕ)
core_texts p word = codes "const struct " ∷ p.name ∷ codes "_core *" ∷ word ∷ []

-- a parameter that is a thread
abbrev pub thread_texts : Meaning → List ℕ → List (List ℕ)
thread_texts p word = codes "const struct " ∷ p.name ∷ codes "_thread *" ∷ word ∷ []

-- the head of such a function, up to its parameters, with a comment before it
abbrev pub asked_texts : Meaning → (comment word : List ℕ) → List (List ℕ)
asked_texts p comment word = comment ∷ codes "static inline bool\n" ∷ p.name ∷ word ∷ codes "(" ∷ []

-- two cores behind one another
abbrev pub two_cores_texts : Meaning → (one other : List ℕ) → List (List ℕ)
two_cores_texts p one other = core_texts p one ++ (codes ", " ∷ core_texts p other)

abbrev pub two_threads_texts : Meaning → List (List ℕ)
two_threads_texts p = thread_texts p (codes "a") ++ (codes ", " ∷ thread_texts p (codes "b"))

-- how a stands to b: the sign between their values of the expression
abbrev pub pair_texts : Meaning → List ℕ → ExprTree → List (List ℕ)
pair_texts p sign e = value_texts p view.First e ++ (sign ∷ value_texts p view.Second e)

-- a key by values: where the two differ, it decides
abbrev pub ranked_texts : Meaning → List ℕ → ExprTree → List (List ℕ)
ranked_texts p sign e =
    codes "\tif (" ∷ (pair_texts p (codes " != ") e
    ++ (codes ")\n\t\treturn " ∷ (pair_texts p sign e ++ (codes ";\n" ∷ []))))

-- a key by a condition: where it holds of one of the two alone, it decides
abbrev pub preferred_texts : Meaning → CondTree → List (List ℕ)
preferred_texts p c =
    codes "\tif ((" ∷ (cond_texts p view.First c
    ++ (codes ") != (" ∷ (cond_texts p view.Second c
    ++ (codes "))\n\t\treturn " ∷ (cond_texts p view.First c ++ (codes ";\n" ∷ []))))))

abbrev pub key_texts : Meaning → KeyTree → List (List ℕ)
key_texts p (least_first e) = ranked_texts p (codes " < ") e
key_texts p (greatest_first e) = ranked_texts p (codes " > ") e
key_texts p (preferring c) = preferred_texts p c

-- the body of an order: the first key that tells a and b apart decides, and of equals neither comes first
abbrev pub order_texts : Meaning → List KeyTree → List (List ℕ)
order_texts p keys = codes ")\n{\n" ∷ (flat_map (key_texts p) keys ++ (codes "\treturn false;\n}\n" ∷ []))

abbrev pub filter_texts : Meaning → List (List ℕ)
filter_texts p =
    asked_texts p
    (codes "\n/* Whether self may take a thread from victim. Ask it in a choice, and again with both cores held. */\n")
    (codes "_may_steal")
    ++ (two_cores_texts p (codes "self") (codes "victim")
    ++ (codes ")\n{\n\treturn " ∷ (cond_texts p view.Named p.filter ++ (codes ";\n}\n" ∷ []))))

abbrev pub choose_texts : Meaning → List (List ℕ)
choose_texts p =
    asked_texts p
    (codes "\n/* Whether self chooses a rather than b. Of equals it chooses the core with the lowest number. */\n")
    (codes "_choose_before")
    ++ (core_texts p (codes "self")
    ++ (codes ", " ∷ (two_cores_texts p (codes "a") (codes "b") ++ order_texts p p.choose)))

abbrev pub elect_texts : Meaning → List (List ℕ)
elect_texts p =
    asked_texts p
    (codes "\n/* Whether a runs rather than b. Of equals the one that stands first in the queue runs. */\n")
    (codes "_elect_before")
    ++ (two_threads_texts p ++ order_texts p p.elect)

abbrev pub steal_texts : Meaning → List (List ℕ)
steal_texts p =
    asked_texts p
    (codes "\n/* Whether a is stolen rather than b. Of equals the one that stands first in the queue is stolen. */\n")
    (codes "_steal_before")
    ++ (two_threads_texts p ++ order_texts p p.steal)

-- which of two cores a thread is placed on
abbrev pub placed_texts : Meaning → ExprTree → List (List ℕ)
placed_texts p e =
    asked_texts p
    (codes "\n/* Whether a thread is placed on a rather than on b. Of equals it is the lowest number. */\n")
    (codes "_place_before")
    ++ (two_cores_texts p (codes "a") (codes "b")
    ++ (codes ")\n{\n\treturn " ∷ (pair_texts p (codes " < ") e ++ (codes ";\n}\n" ∷ []))))

-- the same where a thread stays on the core that lets it in, so that nobody need ask
abbrev pub never_placed_texts : Meaning → List (List ℕ)
never_placed_texts p =
    asked_texts p
    (codes "\n/* Not asked: a thread stays on the core that lets it in. */\n")
    (codes "_place_before")
    ++ (two_cores_texts p (codes "a") (codes "b") ++ (codes ")\n{\n\treturn false;\n}\n" ∷ []))

abbrev pub rule_texts : Meaning → PlaceTree → List (List ℕ)
rule_texts p here = codes "_PLACE_HERE 1\n" ∷ never_placed_texts p
rule_texts p (least e) = codes "_PLACE_HERE 0\n" ∷ placed_texts p e

-- where a thread is placed
abbrev pub place_texts : Meaning → List (List ℕ)
place_texts p =
    codes "\n/* 1 where a thread stays on the core that lets it in, else 0. */\n#define " ∷ p.name
    ∷ rule_texts p p.place

-- the most threads of one steal
abbrev pub limit_texts : Meaning → ℕ → List (List ℕ)
limit_texts p limit =
    codes "\n/* The most threads that one steal moves. */\n#define " ∷ p.name ∷ codes "_STEAL_LIMIT " ∷ decimal limit
    ∷ codes "\n" ∷ []

-- whether a steal goes on
abbrev pub going_on_texts : Meaning → CondTree → List (List ℕ)
going_on_texts p c =
    asked_texts p
    (codes "\n/* Whether a steal goes on to this thread, with both cores as the moves so far left them. */\n")
    (codes "_steal_on")
    ++ (two_cores_texts p (codes "self") (codes "victim")
    ++ (codes ",\n\t" ∷ (thread_texts p (codes "thread")
    ++ (codes ")\n{\n\treturn " ∷ (cond_texts p view.Named c ++ (codes ";\n}\n" ∷ []))))))

-- the same where a steal moves one thread
abbrev pub not_going_on_texts : Meaning → List (List ℕ)
not_going_on_texts p =
    asked_texts p
    (codes "\n/* Not asked: a steal moves one thread. */\n")
    (codes "_steal_on")
    ++ (two_cores_texts p (codes "self") (codes "victim")
    ++ (codes ",\n\t" ∷ (thread_texts p (codes "thread") ++ (codes ")\n{\n\treturn false;\n}\n" ∷ []))))

-- a batch, or that a steal moves one thread
abbrev pub batch_texts : Meaning → Option BatchTree → List (List ℕ)
batch_texts p None = limit_texts p 1 ++ not_going_on_texts p
batch_texts p (Some b) = limit_texts p b.limit ++ going_on_texts p b.condition
