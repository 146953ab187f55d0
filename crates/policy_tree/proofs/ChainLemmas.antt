-- A chain with one more link at its left end.
use Rattle.std.proofs.Common.{◌≡◌, ℕ, List, [], ◌∷◌, ◌++◌, All, refl, sym, ◌∙◌, ap}
use Rattle.std.proofs.lemmas.List.Elements.{All-push}
use Rattle.policy_tree.specs.Chains.{IsBelow, chained, linked}
use Rattle.policy_tree.specs.Trees.{CondTree}
use Rattle.policy_tree.specs.declared.copies.Link.{Link}

pub chained-push : (links : List Link) (l : Link) (left : CondTree) → chained (links ++ l ∷ []) left ≡ chained links (linked l left)
chained-push [] l left = refl
chained-push (first ∷ links) l left = ap (linked first) (chained-push links l left)

-- pushing what the left end is a link of leaves the chain as it was
pub link_pushed : (whole : CondTree) (links items : List Link) (l : Link) (end next : CondTree) → items ≡ links ++ l ∷ [] → end ≡ linked l next → chained links end ≡ whole → chained items next ≡ whole
link_pushed whole links items l end next pushed split chain =
    rw pushed (chained-push links l next ∙ ap (chained links) (sym split) ∙ chain)

-- each link adds fewer nodes than so many, the new one too
pub links_pushed : (nodes : ℕ) (links items : List Link) (l : Link) → items ≡ links ++ l ∷ [] → All (IsBelow nodes) links → IsBelow nodes l → All (IsBelow nodes) items
links_pushed nodes links items l pushed below this = rw pushed (All-push (IsBelow nodes) links l below this)
