-- The place among the keys is the number.
use Rattle.std.proofs.Common.{◌≡◌, ◌∙◌, List, ap, arith, length}
use Rattle.std.proofs.lemmas.List.{length-map}
use Rattle.policy_tree.specs.declared.typed.Attr.{Attr}
use Rattle.policy_types.specs.References.{attribute_named}
use Rattle.policy_types.proofs.NumberedNames.{names_of, texts, told}
use Rattle.policy_types.proofs.attributes.Attributes.number_of.Goals as goal

pub returns-in-Some : goal.returns-in-Some
returns-in-Some c =
    let held = c.self.invariant in
    told c.args.name.now c.self.inside.names.keys c.self.inside.list held.same _ c.in-Some.ensures.index ∙ ap (λ (attrs : List Attr). attribute_named 0 attrs c.args.name.now) c.self.view_is

pub returns-in-None : goal.returns-in-None
returns-in-None c =
    let held = c.self.invariant in
    told c.args.name.now c.self.inside.names.keys c.self.inside.list held.same _ c.in-None.ensures.index ∙ ap (λ (attrs : List Attr). attribute_named 0 attrs c.args.name.now) c.self.view_is

pub overflow_cast-result : goal.overflow_cast-result
overflow_cast-result c =
    let held = c.self.invariant in
    let sizes : length (texts c.self.inside.names.keys) ≡ length (names_of c.self.inside.list) = ap length held.same in
    record { fits = omega (arith, sizes, held.few, c.in-Some.ensures.within, length-map c.self.inside.names.keys (λ key. key.now), length-map c.self.inside.list (λ attr. attr.name)) }
