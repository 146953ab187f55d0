use Rattle.std.proofs.Common.{refl}
use Rattle.c_printer.proofs.AddsLemmas.{all_items, one_more}
use Rattle.c_drafts.specs.Drafts.{flaw_texts}
use Rattle.c_drafts.proofs.comment.add_flaws.Goals as goal

pub loop-answered-preserved : goal.loop-answered-preserved
loop-answered-preserved c =
    one_more flaw_texts c.args.answers.now c.loop-answered.answered-index c.answered-item.result c.answered-item.is
    c.loop-answered-test.true c.loop-answered.invariant c.in_ok-add_flaw.ensures

pub returns : goal.returns
returns c =
    all_items flaw_texts c.loop-answered.answered-index refl c.loop-answered-test.false c.loop-answered.invariant
