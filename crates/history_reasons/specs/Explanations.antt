-- What a history is explained to be: whole, short of what may come, or illegal from an entry on, and why.
use Rattle.std.specs.Prelude.{◌≡◌, ℕ, ◌<◌, ◌≤◌, List, [], Some, length, slice_get, take}
use Rattle.sched_base.specs.declared.limits.TheConstants.{MAX_ENTRIES}
use Rattle.policy_tree.specs.Meaning.{Meaning}
use Rattle.round_model.specs.declared.entry.Entry.{Entry}
use Rattle.round_model.specs.declared.plan.Plan.{Plan}
use Rattle.round_model.specs.Legal.{Whole}
use Rattle.round_model.specs.Reads.{round_start}
use Rattle.history_judge.specs.Judgement.{IsFirstIllegal, IsTooShort}
use Rattle.history_reasons.specs.declared.coming.Coming.{Coming}
use Rattle.history_reasons.specs.declared.explaining.Explanation.{Explanation}
use Rattle.history_reasons.specs.declared.explaining.Explanation.TheVariants as explained
use Rattle.history_reasons.specs.declared.reason.Reason.{Reason}
use Rattle.history_reasons.specs.Next.{AreNext}
use Rattle.history_reasons.specs.Reasons.{IsReason}

-- these may come behind the history. It has no room for more than so many entries
pub record MayCome (p : Meaning) (plan : Plan) (history : List Entry) (coming : Coming) : Type 0 where
  pub start : coming.start ≡ round_start history
  pub next_are : length history < MAX_ENTRIES → AreNext p plan history coming.entries
  pub full : MAX_ENTRIES ≤ length history → coming.entries ≡ []

-- the history isn't legal from that entry on, for that reason, and these might have come in its place
pub record IsIllegalBy (p : Meaning) (plan : Plan) (history : List Entry) (at : ℕ) (why : Reason)
    (coming : Coming) : Type 0 where
  pub first : IsFirstIllegal p plan history at
  pub entry : Entry
  pub stands : slice_get history at ≡ Some entry
  pub reason : IsReason p plan (take at history) entry why
  pub comes : MayCome p plan (take at history) coming

-- it is legal and not whole, and these may come
pub record IsShortOf (p : Meaning) (plan : Plan) (history : List Entry) (count : ℕ) (coming : Coming) : Type 0 where
  pub short : IsTooShort p plan history count
  pub comes : MayCome p plan history coming

-- it is whole, and has so many entries
pub record IsWholeOf (p : Meaning) (plan : Plan) (history : List Entry) (count : ℕ) : Type 0 where
  pub whole : Whole p plan history
  pub count_is : count ≡ length history

-- the explanation is that of the history
abbrev pub IsExplanation : Meaning → Plan → List Entry → Explanation → Type 0
IsExplanation p plan history (explained.Whole count) = IsWholeOf p plan history count
IsExplanation p plan history (explained.Short count coming) = IsShortOf p plan history count coming
IsExplanation p plan history (explained.Illegal at why coming) = IsIllegalBy p plan history at why coming
