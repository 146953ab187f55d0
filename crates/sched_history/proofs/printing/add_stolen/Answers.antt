-- The two cores, and then the threads.
use Rattle.std.proofs.Common.{List, [], ◌∷◌, ◌++◌, codes, length, length-append, sym, ap, ◌∙◌, arith}
use Rattle.std.proofs.lemmas.List.{append_assoc}
use Rattle.sched_history.specs.Spelling.{spaced}
use Rattle.sched_history.proofs.SpacedLemmas.{spaced-behind-two}
use Rattle.sched_history.proofs.printing.add_stolen.Goals as goal

pub add_numbered-requires : goal.add_numbered-requires
add_numbered-requires c =
    let two = c.args.by ∷ c.args.from ∷ [] in let threads = c.args.threads.now in
    let all = ap length (spaced-behind-two c.args.by c.args.from threads) in let parts = length-append (spaced two) (spaced threads) in
    omega (arith, all, parts, length-append (codes "steal") (spaced two), length-append (codes "steal") (spaced (c.args.by ∷ c.args.from ∷ threads)), c.requires)

pub add_threads-requires : goal.add_threads-requires
add_threads-requires c =
    let two = c.args.by ∷ c.args.from ∷ [] in let threads = c.args.threads.now in
    let all = ap length (spaced-behind-two c.args.by c.args.from threads) in let parts = length-append (spaced two) (spaced threads) in
    let line = ap length c.add_numbered.ensures in let front = length-append (c.args.line.now ++ codes "steal") (spaced two) in
    omega (arith, all, parts, line, front, length-append c.args.line.now (codes "steal"), length-append (codes "steal") (spaced (c.args.by ∷ c.args.from ∷ threads)), c.requires)

pub returns : goal.returns
returns c =
    let two = c.args.by ∷ c.args.from ∷ [] in let threads = c.args.threads.now in let front = c.args.line.now ++ codes "steal" in
    c.add_threads.ensures
    ∙ (ap (λ (bytes : List _). bytes ++ spaced threads) c.add_numbered.ensures
    ∙ (append_assoc front (spaced two) (spaced threads) ∙ ap (λ (bytes : List _). front ++ bytes) (sym (spaced-behind-two c.args.by c.args.from threads))))
