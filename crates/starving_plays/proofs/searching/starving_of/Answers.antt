use Rattle.std.proofs.Common.{◌≡◌, List, ℕ, Option, None, ap, subst, ◌∙◌, arith, length}
use Rattle.policy_tree.specs.Meaning.{meaning_of}
use Rattle.starving_plays.specs.declared.starving.Starved.{Starved}
use Rattle.starving_plays.specs.Searches.{IsFoundUnder}
use Rattle.starving_plays.proofs.searching.starving_of.Goals as goal

pub starved_under-requires-clause-small : goal.starved_under-requires-clause-small
starved_under-requires-clause-small c = let same = ap length c.as_slice.ensures.value in omega (arith, same, c.in-Ok.ensures.short)

pub returns-in-None : goal.returns-in-None
returns-in-None c =
    let p = meaning_of c.args.policy.now in
    let text = c.as_slice.ensures.value ∙ c.in-Ok.ensures.text in
    subst (λ (t : List ℕ). IsFoundUnder p t None) text (subst (λ (o : Option Starved). IsFoundUnder p c.as_slice.result.now o) c.in-None.is c.in_ok-starved_under.ensures)
