use Rattle.std.proofs.Common.{◌≡◌, ◌&&◌, not, true, false, nat_lt, length, Bool, refl, ap, ◌∙◌, sym, arith}
use Rattle.std.specs.List.{list_any}
use Rattle.round_model.specs.declared.plan.Planned.{Planned}
use Rattle.parallel_play.specs.Tallies.{flag_of}
use Rattle.parallel_play.proofs.Counting.{none_passes}
use Rattle.serial_tests.specs.Counts.{tally_of}
use Rattle.serial_tests.proofs.count.Count.is_due.Goals as goal

pub returns : goal.returns
returns c =
    let t = tally_of c.args.self.now in let threads = c.args.plan.now.threads in
    let none : list_any (λ (p : Planned). not (flag_of t p.id)) threads ≡ false =
    none_passes (λ (p : Planned). not (flag_of t p.id)) threads (λ j d low. ap not (c.loop-thread.invariant j d (let high = c.loop-thread-test.false in let count = ap length c.as_slice-thread-items.ensures.items in omega arith))) in
    sym (ap (λ b. nat_lt c.args.begun c.args.plan.now.rounds && b) none ∙ never (nat_lt c.args.begun c.args.plan.now.rounds))
  where
    never : (b : Bool) → (b && false) ≡ false
    never true = refl
    never false = refl
