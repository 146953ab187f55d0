use Rattle.std.proofs.Common.{List, [], ◌∷◌, ◌++◌, subst, sym}
use Rattle.policy_tree.specs.Meaning.{Meaning, meaning_of}
use Rattle.round_model.specs.declared.plan.Plan.{Plan}
use Rattle.core_table.specs.declared.slots.Slot.{Slot}
use Rattle.core_table.specs.declared.slots.Slot.TheVariants as slot
use Rattle.core_table.specs.Logs.{RoundLogView}
use Rattle.core_table.specs.Ends.{AllLaid}
use Rattle.core_table.proofs.Closing.{all_laid}
use Rattle.core_table.proofs.ends.lay_slots.Goals as goal

pub returns : goal.returns
returns c =
    let p : Meaning = meaning_of c.args.policy.now in let plan : Plan = c.args.plan.now in let cores : List Slot = c.in_ok-slots.slots.items in
    subst (λ (slots : List Slot). AllLaid p plan slots) (sym {A = List Slot} c.push_reserved.ensures.items)
    (subst (λ (log : RoundLogView). AllLaid p plan (cores ++ slot.Rounds log ∷ [])) (sym c.in_ok-with_room.ensures) (all_laid p plan cores c.in_ok-slots.ensures.cores))
