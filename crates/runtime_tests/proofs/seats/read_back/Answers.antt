use Rattle.std.proofs.Common.{sym, subst}
use Rattle.core_table.specs.declared.views.View.{View}
use Rattle.core_table.specs.Public.{HasCore, view_of}
use Rattle.core_table.specs.Views.{holding}
use Rattle.core_table.proofs.FirstRound.{has_taken}
use Rattle.runtime_tests.proofs.seats.read_back.Goals as goal

pub publish-requires-clause-held : goal.publish-requires-clause-held
publish-requires-clause-held g c =
    let v = view_of c.read-before.new.seat in let core = c.args.player.core in let held = c.hold-held.result in
    subst (λ (now : View). HasCore now held.core held.state) (sym c.hold-held.ensures.held.view)
    (subst (λ n. HasCore (holding core held.state v) n held.state) (sym c.hold-held.ensures.core) (has_taken core held.state v))
