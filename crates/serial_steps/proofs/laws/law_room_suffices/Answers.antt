use Rattle.serial_steps.proofs.EntryBounds.{room_suffices}
use Rattle.serial_steps.proofs.laws.law_room_suffices.Goals as goal

pub returns : goal.returns
returns c = room_suffices
