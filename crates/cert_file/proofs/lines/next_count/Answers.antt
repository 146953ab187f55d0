-- A line that isn't the obligation's may not stand there.
use Rattle.std.proofs.Common.{ℕ, List, [], ◌∷◌, subst}
use Rattle.cert_file.specs.BadLines.{parts}
use Rattle.cert_file.specs.Reading.{IsNextLine}
use Rattle.cert_file.proofs.Within.{at_obligation, bad_end, bad_line, some_names}
use Rattle.cert_file.proofs.lines.next_count.Goals as goal

pub returns-in-None-clause-fault : goal.returns-in-None-clause-fault
returns-in-None-clause-fault c = λ names.
    bad_end (parts [] 0 0 (c.args.name ∷ names)) c.args.rest.now.number c.args.rest.now.bytes.now c.in-None.ensures (some_names c.args.name names)

pub returns-in-Some-count_in-clause-line : goal.returns-in-Some-count_in-clause-line
returns-in-Some-count_in-clause-line c =
    subst (λ (line : List ℕ). IsNextLine line c.args.rest.now.number c.args.rest.now.bytes.now c.next_line.new.rest.number c.next_line.new.rest.bytes.now) c.in-Some-count_in.ensures c.in-Some.ensures

pub returns-in-None-count_in-clause-fault : goal.returns-in-None-count_in-clause-fault
returns-in-None-count_in-clause-fault c = λ names.
    let next = c.in-Some.ensures in
    bad_line (parts [] 0 0 (c.args.name ∷ names)) c.args.rest.now.number c.args.rest.now.bytes.now c.in-Some.line.now _ next.text_is next.plain
    (λ after takes. let (systems, lt, is) = at_obligation c.args.name names c.in-Some.line.now after takes in c.in-None-count_in.ensures systems lt is)
