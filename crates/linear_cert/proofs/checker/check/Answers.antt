use Rattle.std.proofs.Common.{sym, ◌≡◌}
use Rattle.linear_cert.specs.Right.{cert_tree}
use Rattle.linear_cert.proofs.Sound.{no_solution}
use Rattle.linear_cert.proofs.checker.check.Goals as goal

pub returns-clause-sound : goal.returns-clause-sound
returns-clause-sound c accepted =
    let h : c.copy_from_slice.new.self ≡ c.bounds-bounds.result.now = c.copy_from_slice.ensures.after in
    let none = no_solution _ _ (cert_tree c.args.cert.now) (c.check_under.ensures.right.0 accepted) in
    rw (sym c.bounds-bounds.ensures, sym c.rows-rows.ensures.rows, sym h) none
