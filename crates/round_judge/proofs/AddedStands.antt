-- A past with a legal entry of one core more stands for the history with it.
use Rattle.std.proofs.Common.{◌≡◌, ℕ, ◌<◌, List, [], ◌∷◌, ◌++◌, Some, sym, subst}
use Rattle.policy_tree.specs.Meaning.{Meaning}
use Rattle.round_model.specs.declared.entry.Entry.{Entry}
use Rattle.round_model.specs.declared.plan.Plan.{Plan}
use Rattle.round_model.specs.Entries.{acting_core}
use Rattle.round_model.specs.Fits.{Fits}
use Rattle.round_model.specs.Legal.{LegalNext}
use Rattle.round_model.proofs.Acting.{no_round}
use Rattle.round_model.proofs.Grows.{legal_grows}
use Rattle.round_judge.specs.declared.past.Past.{Past}
use Rattle.round_judge.specs.Past.{Awaits, IsPastOf, StandsFor}
use Rattle.round_judge.specs.Additions.{IsAdded}
use Rattle.round_judge.proofs.Added.{counts_added, ended_added, state_added, turns_added}
use Rattle.round_judge.proofs.AddedArrivals.{arrivals_added}
use Rattle.round_judge.proofs.AddedRows.{rows_added}

pub stands_added : (p : Meaning) (plan : Plan) (old new : Past) (h : List Entry) (e : Entry) (by : ℕ) → Fits p plan → IsPastOf p plan old → acting_core e ≡ Some by → by < plan.cores
    → StandsFor p plan old h → LegalNext p plan h e → IsAdded p plan by e old new → StandsFor p plan new (h ++ e ∷ [])
stands_added p plan old new h e by fits belongs acting there stands legal added =
    let state = state_added p plan old new h e by acting stands legal added in
    let counts = counts_added p plan old new h e by acting stands added in
    record {
      legal = legal_grows.grows p plan h e stands.legal legal;
      state = state;
      entries = counts.0;
      rounds = counts.1;
      round = counts.2;
      turns = turns_added p plan old new h e by acting there stands added;
      arrivals = λ begun. subst (Awaits plan (h ++ e ∷ [])) (sym added.arrivals)
          (arrivals_added p plan h old.arrivals e by fits acting legal (stands.arrivals (subst (λ (n : ℕ). 0 < n) added.rounds begun)));
      rows = rows_added p plan old new h e by (no_round e by acting) belongs.window.some stands added state;
      ended = ended_added p plan old new h e by fits belongs stands added;
    }
