use Rattle.std.proofs.Common.{◌==◌, arith, ap, ◌∙◌, Bool, false, ◌≡◌}
use Rattle.std.specs.List.{list_all}
use Rattle.std.proofs.lemmas.Bool.Decides.{nat_tests}
use Rattle.round_judge.specs.declared.past.Turn.{Turn}
use Rattle.round_judge.proofs.Pasts.{complete_by_turns, or-false, or-true}
use Rattle.round_judge.proofs.past.Past.is_complete.Goals as goal

pub returns-then-self-eq0 : goal.returns-then-self-eq0
returns-then-self-eq0 c p plan history stands =
    or-true _ _ (grind (arith, nat_tests)) ∙ complete_by_turns p plan c.args.self.now history stands

pub returns-else-self-eq0 : goal.returns-else-self-eq0
returns-else-self-eq0 c p plan history stands =
    let past = c.args.self.now in
    let begun : (past.rounds == 0) ≡ false = grind (arith, nat_tests) in
    let all : Bool = list_all (λ (turn : Turn). turn.attempted) past.turns in
    c.have_attempted.ensures ∙ (ap (list_all (λ (turn : Turn). turn.attempted)) c.as_slice.ensures.items
    ∙ (or-false (past.rounds == 0) all begun ∙ complete_by_turns p plan past history stands))
