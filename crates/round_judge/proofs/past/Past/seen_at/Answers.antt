use Rattle.std.proofs.Common.{ap}
use Rattle.std.specs.Prelude.{slice_index_or}
use Rattle.round_judge.proofs.Sightings.{seen_kept}
use Rattle.round_judge.proofs.past.Past.seen_at.Goals as goal

pub returns : goal.returns
returns c =
    seen_kept c.args.self.now c.args.core c.args.position _ c.requires.position
    (λ k row. ap (λ xs. slice_index_or xs c.args.core (record { nr = 0; load = 0 })) (c.row_at.ensures k row))
