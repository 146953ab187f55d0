-- What is asked of the cases of tick and of yield, class by class.
use Rattle.std.specs.Prelude.{Bool, true, false, not, ◌&&◌, ◌||◌}
use Rattle.std.specs.List.{list_all}
use Rattle.policy_tree.specs.declared.typed.Event.{Event}
use Rattle.policy_tree.specs.declared.typed.Event.TheVariants as event
use Rattle.policy_tree.specs.declared.typed.Put.{Put}
use Rattle.policy_tree.specs.declared.typed.Put.TheVariants as put
use Rattle.policy_tree.specs.Meaning.{CaseTree, Meaning, cases_on}
use Rattle.wait_classes.specs.declared.attributes.Aim.TheVariants as aim
use Rattle.wait_classes.specs.declared.rules.Rule.{Rule}
use Rattle.wait_classes.specs.declared.rules.Rule.TheVariants as rule
use Rattle.wait_classes.specs.Attributes.{is_moved, never}

abbrev pub is_queue : Put → Bool
is_queue put.Queue = true
is_queue put.Keep = false
is_queue put.Block = false

abbrev pub is_keep : Put → Bool
is_keep put.Queue = false
is_keep put.Keep = true
is_keep put.Block = false

-- the case puts the thread to the queue's end; or where it keeps the thread, its guard can't hold at the attribute's
-- lower end, and its assignments lower the attribute; or it puts the thread to the queue's end, and its assignments
-- raise the attribute or leave it at its upper end
abbrev pub obeys : Rule → CaseTree → Bool
obeys rule.Queues c = is_queue c.put
obeys (rule.Falls a low) c = not (is_keep c.put) || (never a low true c.guard && is_moved a (aim.Down low) c.sets)
obeys (rule.Rises a high) c = is_queue c.put && is_moved a (aim.Up high) c.sets

-- each case of that event does
abbrev pub obeys_on : Rule → Meaning → Event → Bool
obeys_on asked p e = list_all (obeys asked) (cases_on p.handlers e)

-- each case of tick and of yield does
abbrev pub obeys_after_units : Rule → Meaning → Bool
obeys_after_units asked p = obeys_on asked p event.Tick && obeys_on asked p event.Yield
