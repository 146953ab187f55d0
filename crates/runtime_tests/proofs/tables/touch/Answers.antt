use Rattle.std.proofs.Common.{ℕ, sym, subst}
use Rattle.core_table.specs.declared.views.View.{View}
use Rattle.core_table.specs.Public.{HasCore, view_of}
use Rattle.core_table.specs.Views.{holding}
use Rattle.core_table.proofs.FirstRound.{has_taken}
use Rattle.runtime_tests.proofs.tables.touch.Goals as goal

pub publish-requires-clause-held : goal.publish-requires-clause-held
publish-requires-clause-held g c =
    let v = view_of c.args.seat.now in
    let held = c.hold-held.result in
    subst (λ (now : View). HasCore now held.core held.state) (sym c.hold-held.ensures.held.view)
    (subst (λ (core : ℕ). HasCore (holding c.args.core held.state v) core held.state) (sym c.hold-held.ensures.core) (has_taken c.args.core held.state v))
