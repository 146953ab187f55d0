-- The keys and the list are one longer.
use Rattle.std.proofs.Common.{◌≡◌, ◌++◌, ◌+◌, ◌<◌, ◌^◌, ◌∷◌, [], ◌∙◌, List, None, arith, length, length-append, refl, subst, sym}
use Rattle.policy_tree.specs.declared.typed.Attr.{Attr}
use Rattle.policy_types.specs.References.{attribute_named}
use Rattle.policy_types.proofs.NumberedNames.{absent, one_more}
use Rattle.policy_types.proofs.attributes.Attributes.with.Goals as goal

pub invariant_of-result : goal.invariant_of-result
invariant_of-result c =
    let keys = c.self.inside.names.keys in
    let list = c.self.inside.list in
    let held = c.self.invariant in
    let new = subst (λ (attrs : List Attr). attribute_named 0 attrs c.args.name.now ≡ None) (sym c.self.view_is) c.requires.new in
    let none = absent c.args.name.now keys list held.same new in
    let keys_are : c.insert.new.self.keys ≡ keys ++ c.args.name ∷ [] = c.in-Ok.ensures.keys ∙ rw none refl in
    let few = subst (λ (attrs : List Attr). length attrs + 1 < 2 ^ 32) (sym c.self.view_is) c.requires.few in
    rw (keys_are, c.in_ok-push.ensures.ok)
    (record { same = one_more keys c.args.name list c.args.attr held.same c.requires.name; few = omega (arith, few, length-append list (c.args.attr ∷ [])) })
