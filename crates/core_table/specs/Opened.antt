-- A table that was opened with a policy and a plan, and the seats that sit at it.
use Rattle.std.specs.Prelude.{◌≡◌, ℕ, ◌+◌, true, List, map}
use Rattle.atomic_table.specs.Seated.{TableId}
use Rattle.atomic_table.specs.Table.{State}
use Rattle.policy_tree.specs.Meaning.{meaning_of}
use Rattle.round_model.specs.declared.plan.Plan.{Plan}
use Rattle.core_table.specs.declared.plays.Opening.{Opening}
use Rattle.core_table.specs.declared.slots.Slot.{Slot}
use Rattle.core_table.specs.declared.slots.Slot.TheVariants as slot
use Rattle.core_table.specs.declared.views.HeldCore.{HeldCore}
use Rattle.core_table.specs.declared.views.View.{View}
use Rattle.core_table.specs.Views.{first_view, is_live}
use Rattle.core_table.specs.Rule.{TableHolds}

-- the rule of a table that was opened with these
abbrev pub holds_of : Opening → State Slot View → Type 0
holds_of opening = TableHolds (meaning_of opening.policy.value) opening.plan.value

-- and the view of its first seat
abbrev pub first_view_of : Opening → View
first_view_of opening = first_view opening.policy.value opening.plan.value

-- there are as many words and slots as the plan's cores ask
pub record IsOpened (z : TableId) (plan : Plan) : Type 0 where
  pub words : z.words ≡ plan.cores + 2
  pub slots : z.slots ≡ plan.cores + 1

-- the view has the policy and the plan of the opening
pub record IsOfOpening (opening : Opening) (v : View) : Type 0 where
  pub policy : v.policy ≡ opening.policy.value
  pub plan : v.plan ≡ opening.plan.value

-- a seat of the table y, with that view, is one of the table z
pub record Sits (z : TableId) (opening : Opening) (y : TableId) (v : View) : Type 0 where
  pub table_is : y ≡ z
  pub of_opening : IsOfOpening opening v
  pub live : is_live v.role ≡ true
  pub opened : IsOpened z opening.plan.value

-- the slots of what is held, with nothing in them, and what was taken last in front
abbrev pub emptied : List HeldCore → List (ℕ × Slot)
emptied held = map (λ x. (x.core, slot.Out)) held
