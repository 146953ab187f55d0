-- How an entry moves the cores.
use Rattle.std.specs.Prelude.{◌≡◌, ℕ, ◌<◌, List, [], ◌∷◌, ◌++◌, length}
use Rattle.policy_tree.specs.Meaning.{Meaning}
use Rattle.policy_eval.specs.Obligations.{MeetsHandlerObligations}
use Rattle.round_model.specs.declared.entry.Did.{Did}
use Rattle.round_model.specs.declared.entry.Entry.{Entry}
use Rattle.round_model.specs.declared.entry.Entry.TheVariants as entry
use Rattle.round_model.specs.declared.plan.Plan.{Plan}
use Rattle.round_model.specs.After.{after, round_of}
use Rattle.round_model.specs.Fits.{Fits}
use Rattle.round_model.specs.Legal.{Legal, LegalNext}
use Rattle.round_model.specs.Work.{IsOutcomeOfWork}
use Rattle.core_moves.specs.Cores.{AreCoresOf, CoresView}

-- the entry is legal next after the history, which left the cores and isn't full
pub record MayMove (p : Meaning) (plan : Plan) (history : List Entry) (e : Entry) (v : CoresView) : Type 0 where
  pub are : AreCoresOf p plan history v
  pub legal : Legal p plan history
  pub next : LegalNext p plan history e
  pub room : length history < plan.limit

-- it is so after some history
abbrev pub AdmitsNext : Meaning → Plan → Entry → CoresView → Type 0
AdmitsNext p plan e v = (history : List Entry) × MayMove p plan history e v

-- the same of some policy and some plan that fits it
pub record Admits (e : Entry) (v : CoresView) : Type 0 where
  pub policy : Meaning
  pub plan : Plan
  pub fits : Fits policy plan
  pub handlers : MeetsHandlerObligations policy
  pub next : AdmitsNext policy plan e v

-- the cores are those of the history with the entry more, after each history after which the entry was legal next
abbrev pub Moved : Meaning → Plan → Entry → (old new : CoresView) → Type 0
Moved p plan e old new =
    (history : List Entry) → MayMove p plan history e old → AreCoresOf p plan (history ++ e ∷ []) new

-- the core may run its unit of the open round after the history, which left the cores and isn't full
pub record MayWork (p : Meaning) (plan : Plan) (history : List Entry) (core round : ℕ) (v : CoresView) : Type 0 where
  pub are : AreCoresOf p plan history v
  pub legal : Legal p plan history
  pub there : core < plan.cores
  pub now : round ≡ round_of history
  pub room : length history < plan.limit

abbrev pub AdmitsWork : Meaning → Plan → (core round : ℕ) → CoresView → Type 0
AdmitsWork p plan core round v = (history : List Entry) × MayWork p plan history core round v

-- what is said is an outcome of the unit, and the cores are those of the history with that entry more
pub record Works (p : Meaning) (plan : Plan) (history : List Entry) (core round : ℕ) (did : Did)
    (new : CoresView) : Type 0 where
  pub outcome : IsOutcomeOfWork p plan round (after p plan history core) did
  pub are : AreCoresOf p plan (history ++ entry.Work core did ∷ []) new

-- it is so after each history after which the core might run its unit
abbrev pub Worked : Meaning → Plan → (core round : ℕ) → Did → (old new : CoresView) → Type 0
Worked p plan core round did old new =
    (history : List Entry) → MayWork p plan history core round old → Works p plan history core round did new
