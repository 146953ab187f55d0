use Rattle.std.proofs.Common.{ℕ, ap, ◌∙◌, find, option_map}
use Rattle.round_model.specs.After.{round_of}
use Rattle.round_model.specs.Scenes.{entering_next, own_entries}
use Rattle.round_judge.specs.declared.past.Arrival.{Arrival}
use Rattle.round_judge.specs.Past.{arrives_at}
use Rattle.round_judge.proofs.Pasts.{arriving_next, id_of_arrival}
use Rattle.round_judge.proofs.progress.arriving.Goals as goal

pub returns : goal.returns
returns c p plan history stands =
    let a = c.args.core in let id : Arrival → ℕ = λ x. x.id in
    c.first_arrival.ensures ∙ (ap (λ arrivals. option_map id (find (arrives_at a) arrivals)) c.as_slice.ensures.items
    ∙ (ap (option_map id) (arriving_next plan history c.args.past.now.arrivals a (stands.arrivals c.requires))
    ∙ id_of_arrival (entering_next plan (round_of history) a (own_entries history a))))
