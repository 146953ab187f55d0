use Rattle.serial_steps.proofs.EntryBounds.{entry_bound}
use Rattle.serial_steps.proofs.laws.law_entry_bound.Goals as goal

pub returns : goal.returns
returns c = entry_bound
