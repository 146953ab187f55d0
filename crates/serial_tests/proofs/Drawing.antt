-- One more thread of a plan that is drawn.
use Rattle.std.proofs.Common.{◌≡◌, ◌<◌, ◌≤◌, ◌+◌, ℕ, List, [], ◌∷◌, ◌++◌, length, sym, subst, ⊎_elim, arith}
use Rattle.std.proofs.lemmas.Bool.{cases_lt}
use Rattle.std.proofs.lemmas.List.{get_or_append_left, get_or_push, length-append}
use Rattle.round_model.specs.declared.plan.Planned.{Planned}
use Rattle.serial_tests.specs.Drawn.{AreMembers, IsMember}

-- the thread of the next number comes to the threads so far
pub one_more : (cores : ℕ) (xs : List Planned) (t : Planned) → AreMembers cores xs → IsMember cores (length xs + 1) t → AreMembers cores (xs ++ t ∷ [])
one_more cores xs t each next k d inside =
    ⊎_elim
    (λ (early : k < length xs). subst (IsMember cores (k + 1)) (sym (get_or_append_left xs (t ∷ []) d k early)) (each k d early))
    (λ (late : length xs ≤ k). let long = length-append xs (t ∷ []) in let last : length xs ≡ k = omega arith in
    subst (IsMember cores (k + 1)) (sym (get_or_push xs t d k last)) (subst (λ n. IsMember cores (n + 1) t) last next))
    (cases_lt k (length xs))
