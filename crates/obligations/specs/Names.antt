-- The names of the obligations, and the statement that each of them stands for.
use Rattle.std.specs.Prelude.{ℕ, List, [], ◌∷◌, codes}
use Rattle.policy_tree.specs.declared.typed.Event.TheVariants as event
use Rattle.policy_eval.specs.Obligations.{Statement, idle_sees_overloaded, victim_is_overloaded, move_narrows_gap}
use Rattle.policy_eval.specs.Obligations.{further_move_narrows_gap, no_overlap, no_gap}
use Rattle.obligations.specs.declared.names.ObName.{ObName}
use Rattle.obligations.specs.declared.names.ObName.TheVariants as name

-- the name of an obligation as it is printed
abbrev pub ob_text : ObName → List ℕ
ob_text name.B1 = codes "B1"
ob_text name.B2 = codes "B2"
ob_text name.B3 = codes "B3"
ob_text name.B4 = codes "B4"
ob_text name.H1Enqueue = codes "H1.enqueue"
ob_text name.H2Enqueue = codes "H2.enqueue"
ob_text name.H1Tick = codes "H1.tick"
ob_text name.H2Tick = codes "H2.tick"
ob_text name.H1Yield = codes "H1.yield"
ob_text name.H2Yield = codes "H2.yield"
ob_text name.H1Block = codes "H1.block"
ob_text name.H2Block = codes "H2.block"

-- the obligations in the order of the output
unfoldable pub ob_names : List ObName
ob_names =
    name.B1 ∷ name.B2 ∷ name.B3 ∷ name.B4 ∷ name.H1Enqueue ∷ name.H2Enqueue ∷ name.H1Tick ∷ name.H2Tick
    ∷ name.H1Yield ∷ name.H2Yield ∷ name.H1Block ∷ name.H2Block ∷ []

-- the statement of a policy that goes by that name
abbrev pub statement_of : ObName → Statement
statement_of name.B1 = idle_sees_overloaded
statement_of name.B2 = victim_is_overloaded
statement_of name.B3 = move_narrows_gap
statement_of name.B4 = further_move_narrows_gap
statement_of name.H1Enqueue = no_overlap event.Enqueue
statement_of name.H2Enqueue = no_gap event.Enqueue
statement_of name.H1Tick = no_overlap event.Tick
statement_of name.H2Tick = no_gap event.Tick
statement_of name.H1Yield = no_overlap event.Yield
statement_of name.H2Yield = no_gap event.Yield
statement_of name.H1Block = no_overlap event.Block
statement_of name.H2Block = no_gap event.Block
