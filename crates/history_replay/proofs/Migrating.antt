-- A history that was judged can be written in the second format.
use Rattle.std.proofs.Common.{ℕ, ◌≤◌, List, length}
use Rattle.sched_base.specs.declared.limits.TheConstants.{MAX_ENTRIES}
use Rattle.policy_tree.specs.Meaning.{Meaning}
use Rattle.round_model.specs.declared.entry.Entry.{Entry}
use Rattle.sched_history.specs.Ranges.{CanBePrinted}
use Rattle.sched_history.proofs.Printable.{legal_is_printable}
use Rattle.history_reader.specs.Reading.{SpellsHistory, in_first, in_second}
use Rattle.history_replay.specs.declared.judging.Judged.{Judged}
use Rattle.history_replay.specs.Judges.{IsJudged}

few_spelled : (cores : ℕ) (text : List ℕ) (history : List Entry) → SpellsHistory cores text history → length history ≤ MAX_ENTRIES
few_spelled cores text history (in_first none is) = is.printable.few
few_spelled cores text history (in_second lines has is) = is.printable.few

pub can_be_printed : (p : Meaning) (trace text : List ℕ) (judged : Judged) → IsJudged p trace text judged → CanBePrinted judged.plan.cores judged.history
can_be_printed p trace text judged is =
    legal_is_printable p judged.plan judged.history is.gives.means.fits is.gives.means.limits is.whole.legal
    (few_spelled judged.plan.cores text judged.history is.gives.spells)
