-- Behind its line feed the first line ends, or it is all there is.
use Rattle.policy_answers.proofs.FirstLines.{cut_len, whole_len}
use Rattle.policy_answers.proofs.text_lines.line_len.Goals as goal

pub returns-in-Some : goal.returns-in-Some
returns-in-Some c = cut_len c.args.text.now c.in-Some.line.now c.in-Some._behind.now c.in-Some.ensures

pub returns-in-None : goal.returns-in-None
returns-in-None c = whole_len c.args.text.now c.requires c.in-None.ensures
