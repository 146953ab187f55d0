-- One variable after another.
use Rattle.std.proofs.Common.{◌≡◌, ◌∙◌, ◌++◌, ℕ, ℤ, List, FitsSigned, ap, length, pos, sym, take, get_or, to_z-of_z, subst, arith, rules}
use Rattle.std.specs.Int.{w64}
use Rattle.std.specs.List.{flat_map, zip}
use Rattle.policy_tree.specs.Meaning.{meaning_of}
use Rattle.policy_answers.specs.Points.{value_text}
use Rattle.policy_answers.proofs.Texts.{glued_two, values_more, values_whole}
use Rattle.policy_answers.proofs.points.add_values.Goals as goal

pub loop-at-preserved : goal.loop-at-preserved
loop-at-preserved c =
    let p = meaning_of c.args.policy.now in
    let vars = c.args.vars.now in
    let vals = c.args.vals.now in
    let at = c.loop-at.at in
    let more = values_more p vars vals at c.loop-at-test.true c.requires in
    let front = flat_map (value_text p) (take at (zip vars vals)) in
    let value : ℤ = get_or vals at (pos 0) in
    let fits : FitsSigned w64 value = search rules in
    let added = subst (λ (x : ℤ). c.add_value.new.line.items ≡ c.loop-at.line.items ++ value_text p (get_or vars at 0, x)) (to_z-of_z fits) c.in_ok-add_value.ensures in
    added ∙ (ap (λ (line : List ℕ). line ++ value_text p (get_or vars at 0, value)) c.loop-at.invariant
    ∙ (glued_two c.args.line.now.items front (value_text p (get_or vars at 0, value)) ∙ ap (λ xs. c.args.line.now.items ++ xs) (sym more)))

pub returns : goal.returns
returns c =
    let p = meaning_of c.args.policy.now in
    let vars = c.args.vars.now in
    let vals = c.args.vals.now in
    let at : c.loop-at.at ≡ length vars = (let stop = c.loop-at-test.false in let most = c.loop-at.auto.at-end in omega arith) in
    c.loop-at.invariant ∙ ap (λ xs. c.args.line.now.items ++ xs) (ap (λ k. flat_map (value_text p) (take k (zip vars vals))) at ∙ values_whole p vars vals)
