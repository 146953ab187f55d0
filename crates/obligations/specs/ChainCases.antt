-- The cases of a chain of conditions: what stands at its left end, and what each link adds. This serves the code alone.
use Rattle.std.specs.Prelude.{◌≡◌, ℕ, ◌+◌, ◌<◌, Bool, false, cond, List, [], ◌∷◌, ◌++◌, Option, Some, None}
use Rattle.std.specs.Borrow.{Bor}
use Rattle.policy_tree.specs.declared.trees.Cond.{Cond}
use Rattle.policy_tree.specs.declared.typed.Load.{Load}
use Rattle.policy_tree.specs.Chains.{is_link, nodes_of}
use Rattle.policy_tree.specs.Trees.{cond_tree}
use Rattle.policy_eval.specs.Forms.{EachSide, IsLinear}
use Rattle.linear_form.specs.declared.form.Row.{Row}
use Rattle.obligations.specs.declared.building.Link.{Link}
use Rattle.obligations.specs.Cases.{cases_of, crossed}

-- the cases to the left of a link with the link's own: crossed, or joined
abbrev pub link_cases : Load → Bool → Link → List (List Row) → List (List Row)
link_cases load outcome link left =
    cond link.crosses (crossed left (cases_of load outcome (cond_tree link.right.now)))
    (left ++ cases_of load outcome (cond_tree link.right.now))

-- the cases of a chain whose left end has these, the outermost link first
abbrev pub along : Load → Bool → List Link → List (List Row) → List (List Row)
along load outcome [] left = left
along load outcome (link ∷ links) left = link_cases load outcome link (along load outcome links left)

-- the cases of a left end, none where there is no end
abbrev pub end_cases : Load → Bool → Option (Bor Cond) → List (List Row)
end_cases load outcome None = []
end_cases load outcome (Some end) = cases_of load outcome (cond_tree end.now)

-- what stands to the right of a link is linear
abbrev pub IsLinearLink : Link → Type 0
IsLinearLink link = EachSide IsLinear (cond_tree link.right.now)

-- and has fewer nodes than so many
abbrev pub IsBelow : ℕ → Link → Type 0
IsBelow nodes link = nodes_of (cond_tree link.right.now) < nodes

-- the end is no link of a chain, and is linear
abbrev pub IsEnd : Option (Bor Cond) → Type 0
IsEnd None = Unit {0}
IsEnd (Some end) = (is_link end.now ≡ false) × EachSide IsLinear (cond_tree end.now)

-- how many nodes the end has
abbrev pub end_nodes : Option (Bor Cond) → ℕ
end_nodes None = 0
end_nodes (Some end) = nodes_of (cond_tree end.now)

-- the condition is a link of a chain, with that condition to its left
pub record SplitsOff (outcome : Bool) (whole : Cond) (left : Cond) (link : Link) : Type 0 where
  pub cases : (load : Load) → link_cases load outcome link (cases_of load outcome (cond_tree left))
      ≡ cases_of load outcome (cond_tree whole)
  pub nodes : nodes_of (cond_tree left) + nodes_of (cond_tree link.right.now) < nodes_of (cond_tree whole)
  pub left_linear : EachSide IsLinear (cond_tree whole) → EachSide IsLinear (cond_tree left)
  pub right_linear : EachSide IsLinear (cond_tree whole) → IsLinearLink link
