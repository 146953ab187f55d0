use Rattle.core_table.specs.Public.{view_of}
use Rattle.core_table.proofs.TwoHeld.{both_published, first_has, second_still}
use Rattle.core_table.proofs.seat.Table.publish_two.Goals as goal

pub publish-requires-clause-held : goal.publish-requires-clause-held
publish-requires-clause-held c = let h = c.args.held.now in first_has (view_of c.args.seat.now) h.first.core h.first.state h.second.core h.second.state c.requires.held

pub publish-requires-2-clause-held : goal.publish-requires-2-clause-held
publish-requires-2-clause-held c =
    let h = c.args.held.now in
    second_still (view_of c.args.seat.now) (view_of c.publish.new.seat) h.first.core h.first.state h.second.core h.second.state c.requires.held c.publish.ensures.seen.view

pub returns-clause-ready : goal.returns-clause-ready
returns-clause-ready c =
    let h = c.args.held.now in
    both_published (view_of c.args.seat.now) (view_of c.publish.new.seat) (view_of c.publish-2.new.seat) h.first.core h.first.state h.second.core h.second.state
    c.requires.held c.requires.different c.publish.ensures.seen.view c.publish-2.ensures.seen.view
