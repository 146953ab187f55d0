-- What the functions of this crate tell one another.
use Rattle.std.specs.Prelude.{◌≡◌, ℕ, ◌<◌, ◌≤◌, ◌==◌, Bool, false, List, Option, Some, None, take, slice_get}
use Rattle.policy_tree.specs.Meaning.{Meaning}
use Rattle.round_model.specs.declared.entry.Entry.{Entry}
use Rattle.round_model.specs.declared.entry.Entry.TheVariants as entry
use Rattle.round_model.specs.declared.plan.Plan.{Plan}
use Rattle.round_model.specs.declared.state.ModelCore.{ModelCore}
use Rattle.round_model.specs.After.{after}
use Rattle.round_model.specs.Rounds.{BeginsAt}
use Rattle.starving_plays.specs.declared.coming_back.Return.{Return}
use Rattle.starving_plays.specs.declared.coming_back.TheConstants.{WATCHED_FROM}
use Rattle.starving_plays.specs.declared.starving.Starved.{Starved}
use Rattle.starving_plays.specs.Starving.{IsThatCore, Starves}

-- whether the watched round begins
abbrev pub opens_first : Entry → Bool
opens_first (entry.Round number) = number == WATCHED_FROM
opens_first (entry.Enter thread by at reads) = false
opens_first (entry.Wake thread by at reads) = false
opens_first (entry.Work by what) = false
opens_first (entry.Steal by from threads reads) = false
opens_first (entry.Fail by from reads) = false
opens_first (entry.Pass by reads) = false

-- the entry begins that later round, and the core is as it was
pub record IsBackBy (core that : ModelCore) (e : Entry) (number : ℕ) : Type 0 where
  pub begins : e ≡ entry.Round number
  pub later : WATCHED_FROM < number
  pub back : IsThatCore core that

-- the first of these cores came back by the entry, or it didn't
abbrev pub IsRoundBack : List ModelCore → Entry → ModelCore → Option ℕ → Type 0
IsRoundBack state e that None =
    (core : ModelCore) (number : ℕ) → slice_get state 0 ≡ Some core → ¬ IsBackBy core that e number
IsRoundBack state e that (Some number) =
    (core : ModelCore) × (slice_get state 0 ≡ Some core) × IsBackBy core that e number

module _ (p : Meaning) (plan : Plan) (history : List Entry) (that : ModelCore) where
  -- a later round begins there with the core as it was
  pub record IsReturn (number at : ℕ) : Type 0 where
    pub begins : BeginsAt history number at
    pub later : WATCHED_FROM < number
    pub back : IsThatCore (after p plan (take at history) 0) that

  -- the first such place, or there is none
  abbrev pub IsFirstReturn : Option Return → Type 0
  IsFirstReturn None = (number at : ℕ) → ¬ IsReturn number at
  IsFirstReturn (Some r) = IsReturn r.round r.at × ((number at : ℕ) → IsReturn number at → r.at ≤ at)

-- the history starves that thread, or none
abbrev pub IsStarvedIn : Meaning → Plan → List Entry → Option Starved → Type 0
IsStarvedIn p plan history None = (thread round : ℕ) → ¬ Starves p plan history thread round
IsStarvedIn p plan history (Some starved) = Starves p plan history starved.thread starved.round
