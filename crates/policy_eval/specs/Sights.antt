-- What each part of a policy sees: the assignment under which it is evaluated.
use Rattle.std.specs.Prelude.{ℕ, ℤ, pos, Bool, cond, List, ◌∷◌, ◌++◌, replicate}
use Rattle.sched_base.specs.declared.limits.TheConstants.{MAX_ATTRIBUTES}
use Rattle.policy_eval.specs.Values.{Assignment}
use Rattle.policy_eval.specs.declared.env.CoreValues.{CoreValues}

-- as many zeros as there is room for attributes of one kind
abbrev pub no_attributes : List ℤ
no_attributes = replicate MAX_ATTRIBUTES (pos 0)

-- all variables in the order of their numbers. A weight is at least 1 also where nobody asks for it
abbrev pub assigned : (nr load victim_nr victim_load weight fresh : ℕ) → (own victims attrs : List ℤ) →
    Assignment
assigned nr load victim_nr victim_load weight fresh own victims attrs =
    pos nr ∷ pos load ∷ pos victim_nr ∷ pos victim_load ∷ pos weight ∷ pos fresh ∷ (own ++ victims ++ attrs)

-- what filter and choice see of the acting core and of the core that they are asked about
unfoldable pub pair_values : CoreValues → CoreValues → Assignment
pair_values own victim =
    assigned own.nr own.load victim.nr victim.load 1 0 own.consts victim.consts no_attributes

-- what filter and choice see of the acting core, before they are asked about another
unfoldable pub own_values : CoreValues → Assignment
own_values own = assigned own.nr own.load 0 0 1 0 own.consts no_attributes no_attributes

-- what a batch sees before each further move: the thief, the victim, and the thread that is next
unfoldable pub move_values : CoreValues → CoreValues → ℕ → List ℤ → Assignment
move_values own victim weight attrs =
    assigned own.nr own.load victim.nr victim.load weight 0 own.consts victim.consts attrs

-- what placement sees of a core
unfoldable pub core_values : CoreValues → Assignment
core_values core = assigned 0 0 core.nr core.load 1 0 no_attributes core.consts no_attributes

-- what the orders of threads see of a thread
unfoldable pub thread_values : ℕ → List ℤ → Assignment
thread_values weight attrs = assigned 0 0 0 0 weight 0 no_attributes no_attributes attrs

-- what a handler sees of the core that holds the thread, of the thread, and of whether it enters just now
unfoldable pub event_values : Bool → List ℤ → ℕ → List ℤ → Assignment
event_values fresh consts weight attrs = assigned 0 0 0 0 weight (cond fresh 1 0) consts no_attributes attrs
