-- From a history to a plan, from a plan to a text: what was found.
use Rattle.std.proofs.Common.{◌≡◌, ℕ, List, ◌++◌, Option, Some, None, sym, ap, subst, ◌∙◌}
use Rattle.std.proofs.lemmas.List.{append_assoc}
use Rattle.policy_tree.specs.Meaning.{Meaning}
use Rattle.policy_eval.specs.Obligations.{MeetsHandlerObligations}
use Rattle.round_model.specs.declared.entry.Entry.{Entry}
use Rattle.round_model.specs.declared.plan.Plan.{Plan}
use Rattle.round_model.specs.Fits.{Fits}
use Rattle.job_trace.specs.declared.trace.Numbered.{Numbered}
use Rattle.job_trace.specs.Plans.{SpellsPlan}
use Rattle.serial_steps.specs.Room.{HasRoomForRounds}
use Rattle.serial_steps.specs.SerialEnds.{StopsFull}
use Rattle.serial_steps.specs.SerialRounds.{serial_history}
use Rattle.serial_steps.proofs.EntryBounds.{room_suffices}
use Rattle.trace_play.specs.declared.fault.LineFault.{LineFault}
use Rattle.trace_play.specs.Plays.{HasFault, MeansPlan}
use Rattle.trace_play.proofs.OnePlay.{never_faulty, one_plan, one_trace}
use Rattle.starving_plays.specs.declared.searching.Starving.{Starving}
use Rattle.starving_plays.specs.declared.starving.Starved.{Starved}
use Rattle.starving_plays.specs.Code.{IsStarvedIn}
use Rattle.starving_plays.specs.Searches.{IsFound, IsFoundBy, IsFoundOf, IsFoundUnder, StarvesNone}
use Rattle.starving_plays.specs.Starving.{IsLoneCrowd, Starves}
use Rattle.starving_plays.specs.Traces.{three_alike, trace_text, two_alike, two_unlike}

-- three pieces behind a front
pub glued : (front a b c : List ℕ) → ((front ++ a) ++ b) ++ c ≡ front ++ (a ++ (b ++ c))
glued front a b c = append_assoc (front ++ a) b c ∙ append_assoc front a (b ++ c)

pub found_by : (p : Meaning) (plan : Plan) (history : List Entry) (o : Option Starved) → IsLoneCrowd plan → history ≡ serial_history p plan → IsStarvedIn p plan history o → IsFoundBy p plan o
found_by p plan history None crowd same none = λ lone room x round. subst (λ (h : List Entry). ¬ Starves p plan h x round) same (none x round)
found_by p plan history (Some s) crowd same is = (crowd, subst (λ (h : List Entry). Starves p plan h s.thread s.round) same is)

-- a play with room doesn't stop
pub never_full : (p : Meaning) (plan : Plan) (history : List Entry) → Fits p plan → MeetsHandlerObligations p → HasRoomForRounds plan → ¬ StopsFull p plan history
never_full p plan history fits handlers room stops = room_suffices p plan history fits handlers room stops.legal stops.full

same_plan : (p : Meaning) (text : List ℕ) (plan other : Plan) → MeansPlan p text plan → MeansPlan p text other → plan ≡ other
same_plan p text plan other means also =
    let same = one_trace text means.trace also.trace means.spells also.spells in
    one_plan p also.trace plan other (subst (λ (lines : List Numbered). SpellsPlan p lines plan) same means.means) also.means

pub found_under : (p : Meaning) (text : List ℕ) (plan : Plan) (o : Option Starved) → MeansPlan p text plan → IsFoundBy p plan o → IsFoundUnder p text o
found_under p text plan None means none = λ other x round also crowd room.
    let same = same_plan p text plan other means also in
    subst (λ (q : Plan). IsLoneCrowd q → HasRoomForRounds q → ¬ Starves p q (serial_history p q) x round) same (λ lone enough. none lone enough x round) crowd room
found_under p text plan (Some s) means is = record { plan = plan; means = means; crowd = is.0; starves = is.1 }

-- a text with a fault means no plan
pub none_broken : (p : Meaning) (text : List ℕ) (fault : LineFault) → HasFault p text fault → StarvesNone p text
none_broken p text fault has plan x round means crowd room s = never_faulty p text means.trace plan fault means.spells means.means has

-- behind the first two traces the third decides
pub found : (p : Meaning) → StarvesNone p (trace_text (two_alike p.load)) → StarvesNone p (trace_text (two_unlike p.load)) → (o : Option Starving) → IsFoundOf p (three_alike p.load) o → IsFound p o
found p first second None third = record { two_alike = first; two_unlike = second; three_alike = third }
found p first second (Some starving) shows = shows
