-- One more link of a chain, and links that no case comes of.
use Rattle.std.proofs.Common.{◌≡◌, ℕ, Bool, true, cond, List, [], ◌∷◌, ◌++◌, All, map, refl, sym, ap, ap₂, ◌∙◌, subst, arith, ⊎_elim}
use Rattle.std.proofs.lemmas.List.{append-nil, append_assoc, map-append, nil_from_length}
use Rattle.std.proofs.lemmas.List.Elements.{All-push}
use Rattle.policy_tree.specs.declared.trees.Cond.{Cond}
use Rattle.policy_tree.specs.declared.typed.Load.{Load}
use Rattle.policy_tree.specs.Trees.{CondTree, cond_tree}
use Rattle.linear_form.specs.declared.form.Row.{Row}
use Rattle.obligations.specs.declared.building.Link.{Link}
use Rattle.obligations.specs.Cases.{cases_of, crossed}
use Rattle.obligations.specs.ChainCases.{SplitsOff, along, link_cases}
use Rattle.obligations.specs.Counts.{count_of, reported}
use Rattle.obligations.specs.Refutations.{any_of, both_of, pairs_of}
use Rattle.obligations.proofs.Law.{count_cases}
use Rattle.obligations.proofs.Reported.{as_is_or_greatest}

pub along_push : (load : Load) (outcome : Bool) (links : List Link) (link : Link) (left : List (List Row))
    → along load outcome (links ++ link ∷ []) left ≡ along load outcome links (link_cases load outcome link left)
along_push load outcome [] link left = refl
along_push load outcome (first ∷ links) link left = ap (link_cases load outcome first) (along_push load outcome links link left)

-- a link that is pushed stands for the condition that it was split off
pub chain_pushed : (load : Load) (outcome : Bool) (whole : List (List Row)) (links items : List Link) (link : Link) (end left : Cond)
    → items ≡ links ++ link ∷ [] → SplitsOff outcome end left link
    → along load outcome links (cases_of load outcome (cond_tree end)) ≡ whole → along load outcome items (cases_of load outcome (cond_tree left)) ≡ whole
chain_pushed load outcome whole links items link end left pushed splits chain =
    ap (λ ls. along load outcome ls (cases_of load outcome (cond_tree left))) pushed
    ∙ (along_push load outcome links link (cases_of load outcome (cond_tree left)) ∙ (ap (along load outcome links) (splits.cases load) ∙ chain))

pub all_pushed : (P : Link → Type 0) (links items : List Link) (link : Link) → items ≡ links ++ link ∷ [] → All P links → P link → All P items
all_pushed P links items link pushed all this = subst (All P) (sym pushed) (All-push P links link all this)

-- a link that is popped
pub chain_popped : (load : Load) (outcome : Bool) (whole : List (List Row)) (links items : List Link) (link : Link) (left more : List (List Row))
    → items ≡ links ++ link ∷ [] → more ≡ link_cases load outcome link left → along load outcome items left ≡ whole → along load outcome links more ≡ whole
chain_popped load outcome whole links items link left more popped is chain =
    ap (along load outcome links) is
    ∙ (sym (along_push load outcome links link left) ∙ (ap (λ ls. along load outcome ls left) (sym popped) ∙ chain))

crossed_none : (left : List (List Row)) → crossed left [] ≡ []
crossed_none [] = refl
crossed_none (rows ∷ left) = crossed_none left

reported_none : (n : ℕ) → reported n ≡ 0 → n ≡ 0
reported_none n e = ⊎_elim (λ small. sym small.1 ∙ e) (λ great. absurd (omega arith)) (as_is_or_greatest n)

-- a condition that counts none has no case
pub no_cases : (load : Load) (outcome : Bool) (c : CondTree) → reported (count_of outcome c) ≡ 0 → cases_of load outcome c ≡ []
no_cases load outcome c none = nil_from_length (cases_of load outcome c) (count_cases load outcome c ∙ reported_none (count_of outcome c) none)

-- to cross with no case gives none
pub barren_link : (load : Load) (outcome : Bool) (link : Link) (left : List (List Row)) → link.crosses ≡ true → reported (count_of outcome (cond_tree link.right.now)) ≡ 0
    → link_cases load outcome link left ≡ []
barren_link load outcome link left crosses none =
    let right : List (List Row) = cases_of load outcome (cond_tree link.right.now) in
    ap (λ b. cond b (crossed left right) (left ++ right)) crosses ∙ (ap (crossed left) (no_cases load outcome (cond_tree link.right.now) none) ∙ crossed_none left)

-- two conditions of which one has no case
pub none_left : (load : Load) (l r : CondTree) → reported (count_of true l) ≡ 0 → [] ≡ crossed (cases_of load true l) (cases_of load true r)
none_left load l r none = sym (ap (λ cases. crossed cases (cases_of load true r)) (no_cases load true l none))

pub none_right : (load : Load) (l r : CondTree) → reported (count_of true r) ≡ 0 → [] ≡ crossed (cases_of load true l) (cases_of load true r)
none_right load l r none = sym (ap (crossed (cases_of load true l)) (no_cases load true r none) ∙ crossed_none (cases_of load true l))

map_same : (cases : List (List Row)) → map (λ (more : List Row). [] ++ more) cases ≡ cases
map_same [] = refl
map_same (rows ∷ cases) = ap (λ rest. rows ∷ rest) (map_same cases)

-- crossing with the one case without rows
pub crossed_unit : (right : List (List Row)) → crossed ([] ∷ []) right ≡ right
crossed_unit right = append-nil (map (λ more. [] ++ more) right) ∙ map_same right

pub crossed_with_unit : (left : List (List Row)) → crossed left ([] ∷ []) ≡ left
crossed_with_unit [] = refl
crossed_with_unit (rows ∷ left) = ap₂ (λ first rest. first ∷ rest) (append-nil rows) (crossed_with_unit left)

crossed_append : (one other right : List (List Row)) → crossed (one ++ other) right ≡ crossed one right ++ crossed other right
crossed_append [] other right = refl
crossed_append (rows ∷ one) other right =
    ap (λ rest. map (λ more. rows ++ more) right ++ rest) (crossed_append one other right)
    ∙ sym (append_assoc (map (λ more. rows ++ more) right) (crossed one right) (crossed other right))

prefixed_twice : (rows first : List Row) (right : List (List Row)) → map (λ more. (rows ++ first) ++ more) right ≡ map (λ more. rows ++ more) (map (λ more. first ++ more) right)
prefixed_twice rows first [] = refl
prefixed_twice rows first (more ∷ right) = ap₂ (λ x xs. x ∷ xs) (append_assoc rows first more) (prefixed_twice rows first right)

prefixed_crossed : (rows : List Row) (middle right : List (List Row)) → crossed (map (λ more. rows ++ more) middle) right ≡ map (λ more. rows ++ more) (crossed middle right)
prefixed_crossed rows [] right = refl
prefixed_crossed rows (first ∷ middle) right =
    ap₂ (λ x xs. x ++ xs) (prefixed_twice rows first right) (prefixed_crossed rows middle right)
    ∙ sym (map-append (λ more. rows ++ more) (map (λ more. first ++ more) right) (crossed middle right))

-- whichever is crossed first
pub crossed_assoc : (left middle right : List (List Row)) → crossed (crossed left middle) right ≡ crossed left (crossed middle right)
crossed_assoc [] middle right = refl
crossed_assoc (rows ∷ left) middle right =
    crossed_append (map (λ more. rows ++ more) middle) (crossed left middle) right
    ∙ ap₂ (λ x xs. x ++ xs) (prefixed_crossed rows middle right) (crossed_assoc left middle right)

-- the cases of pairs, one guard after another
pub any_cases : (load : Load) (cs ds : List CondTree) → cases_of load true (any_of (cs ++ ds)) ≡ cases_of load true (any_of cs) ++ cases_of load true (any_of ds)
any_cases load [] ds = refl
any_cases load (c ∷ cs) ds =
    ap (λ rest. cases_of load true c ++ rest) (any_cases load cs ds)
    ∙ sym (append_assoc (cases_of load true c) (cases_of load true (any_of cs)) (cases_of load true (any_of ds)))

pub pairs_cases : (load : Load) (g : CondTree) (gs : List CondTree)
    → cases_of load true (any_of (map both_of (pairs_of (g ∷ gs))))
    ≡ cases_of load true (any_of (map both_of (map (λ h. (g, h)) gs))) ++ cases_of load true (any_of (map both_of (pairs_of gs)))
pairs_cases load g gs =
    ap (λ cs. cases_of load true (any_of cs)) (map-append both_of (map (λ h. (g, h)) gs) (pairs_of gs))
    ∙ any_cases load (map both_of (map (λ h. (g, h)) gs)) (map both_of (pairs_of gs))
