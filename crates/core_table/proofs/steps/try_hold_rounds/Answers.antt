use Rattle.std.proofs.Common.{◌∙◌, ap}
use Rattle.core_table.proofs.Calls.{headed}
use Rattle.core_table.proofs.steps.try_hold_rounds.Goals as goal

pub exchange-requires : goal.exchange-requires
exchange-requires c = let got = c.mark.ensures.free c.if-not-mark.false in (c.mark.ensures.table.0 ∙ c.requires.table.table_is, (_, headed _ _ _ (ap (λ m. m.1) got.now)))
