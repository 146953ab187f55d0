-- What is told of the answers so far.
use Rattle.std.proofs.Common.{take}
use Rattle.std.specs.List.{flat_map}
use Rattle.c_printer.specs.Adds.{Adds}
use Rattle.c_drafts.specs.Drafts.{flaw_texts}
use Rattle.c_drafts.proofs.comment.add_flaws.Given as goal

abbrev pub invariant-loop-answered : goal.invariant-loop-answered
invariant-loop-answered l =
    Adds (flat_map flaw_texts (take l.answered-index l.answers)) l.initial.text.items l.text.items
