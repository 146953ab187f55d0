-- Short policies: a handler of one case, and the handlers that a policy has of itself.
use Rattle.std.specs.Prelude.{List, [], ◌∷◌}
use Rattle.policy_tree.specs.declared.typed.Put.{Put}
use Rattle.policy_tree.specs.declared.typed.Put.TheVariants as put
use Rattle.policy_tree.specs.Meaning.{CaseTree, HandlerTrees, SetTree}
use Rattle.policy_tree.specs.Trees.{always}

-- a case that always holds, and assigns these
abbrev pub whenever : List SetTree → Put → List CaseTree
whenever sets place = record { guard = always; sets = sets; put = place } ∷ []

-- the handlers of a policy that names none, but for this one of tick
abbrev pub handlers_with : List CaseTree → HandlerTrees
handlers_with on_tick = record {
  on_enqueue = whenever [] put.Queue;
  on_tick = on_tick;
  on_yield = whenever [] put.Queue;
  on_block = whenever [] put.Block;
}
