-- A read more, and all of them.
use Rattle.std.proofs.Common.{ap, length, replicate, ◌∙◌, arith}
use Rattle.std.proofs.lemmas.List.{length-replicate}
use Rattle.history_reasons.proofs.next.look_now.Goals as goal

pub push-requires : goal.push-requires
push-requires c =
    let few = c.requires in
    omega (arith, ap length c.loop-at.invariant, length-replicate c.loop-at._at c.args.past.now.entries)

pub returns : goal.returns
returns c =
    c.loop-at.invariant
    ∙ ap (λ n. replicate n c.args.past.now.entries) (omega arith)
