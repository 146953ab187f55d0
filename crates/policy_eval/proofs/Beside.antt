-- What filter and choice see of the acting core, and then of another core beside it.
use Rattle.std.proofs.Common.{◌≡◌, ◌∷◌, ◌+◌, ◌++◌, List, length, drop, pos, set, take, ap, sym, ◌∙◌, arith, ℤ}
use Rattle.std.proofs.lemmas.List.{append_assoc, length-append}
use lib.Seq.{take-append_seam, drop-append-add}
use Rattle.sched_base.specs.declared.limits.TheConstants.{MAX_ATTRIBUTES, MAX_VARIABLES}
use Rattle.policy_eval.specs.declared.env.CoreValues.{CoreValues}
use Rattle.policy_eval.specs.Sights.{no_attributes, own_values, pair_values}

-- the attributes of the other core and of a thread, where neither is there
abbrev nobody : List ℤ
nobody = no_attributes ++ no_attributes

-- values of all variables have room for no more and no fewer attributes of a core
own_long : (own : CoreValues) → length (own_values own) ≡ MAX_VARIABLES → length own.consts ≡ MAX_ATTRIBUTES
unfolding own_values
own_long own long = omega (arith, long, length-append (own.consts ++ no_attributes) no_attributes, length-append own.consts no_attributes)

-- the acting core's part, and the other core's part in its places
pub beside : (own victim : CoreValues) (nr load : ℤ) → length (own_values own) ≡ MAX_VARIABLES → nr ≡ pos victim.nr → load ≡ pos victim.load →
    let seen : List ℤ = set (set (own_values own) 2 nr) 3 load in
    take 14 seen ++ (victim.consts ++ drop (14 + 8) seen) ≡ pair_values own victim
unfolding own_values pair_values
beside own victim nr load long nr_is load_is =
    let attributes : List ℤ = own.consts ++ no_attributes ++ no_attributes in let count = sym (own_long own long) in
    let together : attributes ≡ own.consts ++ nobody = append_assoc own.consts no_attributes no_attributes in
    let front : take 8 attributes ≡ own.consts = ap (take 8) together ∙ (ap (λ n. take n (own.consts ++ nobody)) count ∙ take-append_seam own.consts nobody) in
    let back : drop (8 + 8) attributes ≡ no_attributes = ap (drop (8 + 8)) together ∙ (ap (λ n. drop (n + 8) (own.consts ++ nobody)) count ∙ drop-append-add own.consts nobody 8) in
    (λ i. pos own.nr ∷ pos own.load ∷ nr_is i ∷ load_is i ∷ pos 1 ∷ pos 0 ∷ (front i ++ (victim.consts ++ back i)))
    ∙ ap (λ xs. pos own.nr ∷ pos own.load ∷ pos victim.nr ∷ pos victim.load ∷ pos 1 ∷ pos 0 ∷ xs) (sym (append_assoc own.consts victim.consts no_attributes))
