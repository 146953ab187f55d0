use Rattle.std.proofs.Common.{◌≢◌, codes, rules}
use Rattle.history_reader.proofs.Behind.{no_fate}
use Rattle.history_reader.proofs.work.fate_in.Goals as goal

pub returns-else-eq-4 : goal.returns-else-eq-4
returns-else-eq-4 c =
    let keep : c.args.text.now ≢ codes " keep" = search rules in
    let queue : c.args.text.now ≢ codes " queue" = search rules in
    let block : c.args.text.now ≢ codes " block" = search rules in
    let end : c.args.text.now ≢ codes " end" = search rules in
    no_fate c.args.thread c.args.text.now c.requires.thread c.requires.space keep queue block end
