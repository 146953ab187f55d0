-- The handlers that were read so far.
use Rattle.std.specs.Prelude.{List, Option, Some, None, map, option_map}
use Rattle.policy_tree.specs.declared.typed.Event.{Event}
use Rattle.policy_tree.specs.declared.typed.Event.TheVariants as event
use Rattle.policy_tree.specs.Meaning.{CaseTree, HandlerTrees, case_tree}
use Rattle.policy_types.specs.declared.handlers.Given.{Given}
use Rattle.policy_types.specs.Handlers.{default_cases}

-- the cases of the event, where its handler was read
abbrev pub given_cases : Given → Event → Option (List CaseTree)
given_cases g event.Enqueue = option_map (map case_tree) g.on_enqueue
given_cases g event.Tick = option_map (map case_tree) g.on_tick
given_cases g event.Yield = option_map (map case_tree) g.on_yield
given_cases g event.Block = option_map (map case_tree) g.on_block

abbrev pub cases_or : List CaseTree → Option (List CaseTree) → List CaseTree
cases_or other None = other
cases_or other (Some cases) = cases

-- with those that are meant where nothing is said
abbrev pub given_or_default : Given → HandlerTrees
given_or_default g = record {
  on_enqueue = cases_or (default_cases event.Enqueue) (given_cases g event.Enqueue);
  on_tick = cases_or (default_cases event.Tick) (given_cases g event.Tick);
  on_yield = cases_or (default_cases event.Yield) (given_cases g event.Yield);
  on_block = cases_or (default_cases event.Block) (given_cases g event.Block);
}
