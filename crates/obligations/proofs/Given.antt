-- Values in the ranges are those of a pair of cores, a weight, and a thread's attributes; and the other way round.
use Rattle.std.proofs.Common.{◌≡◌, ℕ, ◌*◌, ◌≤◌, ℤ, pos, negsuc, List, [], ◌∷◌, ◌++◌, map, refl, sym, ap, ap₂, ◌∙◌, subst, arith}
use Rattle.std.specs.List.{AllByRecursion}
use Rattle.std.proofs.lemmas.Int.{ints}
use Rattle.sched_base.specs.declared.limits.TheConstants.{MAX_THREADS}
use Rattle.policy_tree.specs.Meaning.{Meaning}
use Rattle.policy_eval.specs.Ranges.{AreIn, IsIn, Range, attribute_ranges, greatest_weight, least_weight, range}
use Rattle.policy_eval.specs.Sights.{assigned}
use Rattle.policy_eval.specs.Values.{Assignment}
use Rattle.obligations.specs.Systems.{variable_ranges}
use Rattle.obligations.proofs.Ranges.{IsNotEmpty}

-- the numbers that values stand for, each in its range
pub record Numbers (p : Meaning) (nr load victim_nr victim_load weight fresh : ℕ) (own victims attrs : List ℤ) : Type 0 where
  pub nr_small : nr ≤ MAX_THREADS
  pub load_small : load ≤ MAX_THREADS * greatest_weight p.load
  pub victim_nr_small : victim_nr ≤ MAX_THREADS
  pub victim_load_small : victim_load ≤ MAX_THREADS * greatest_weight p.load
  pub weight_least : least_weight p.load ≤ weight
  pub weight_greatest : weight ≤ greatest_weight p.load
  pub fresh_small : fresh ≤ 1
  pub own_in : AreIn (attribute_ranges p.core_attrs) own
  pub victims_in : AreIn (attribute_ranges p.core_attrs) victims
  pub attrs_in : AreIn (attribute_ranges p.thread_attrs) attrs

-- a number in a range of natural numbers is one
pub record IsNatural (x : ℤ) (low high : ℕ) : Type 0 where
  pub n : ℕ
  pub is : x ≡ pos n
  pub above : low ≤ n
  pub below : n ≤ high

natural : (x : ℤ) (low high : ℕ) → IsIn (range (pos low) (pos high)) x → IsNatural x low high
natural (pos n) low high inside = let above = inside.above in let below = inside.below in record { n = n; is = refl; above = omega (arith, ints); below = omega (arith, ints) }
natural (negsuc n) low high inside = let above = inside.above in absurd (omega (arith, ints))

in_natural : (n low high : ℕ) → low ≤ n → n ≤ high → IsIn (range (pos low) (pos high)) (pos n)
in_natural n low high above below = record { above = omega (arith, ints); below = omega (arith, ints) }

-- values in two lists of ranges
pub record Split (rs ss : List Range) (xs : List ℤ) : Type 0 where
  pub first : List ℤ
  pub second : List ℤ
  pub is : xs ≡ first ++ second
  pub first_in : AreIn rs first
  pub second_in : AreIn ss second

split : (rs ss : List Range) (xs : List ℤ) → AreIn (rs ++ ss) xs → Split rs ss xs
split [] ss xs are = record { first = []; second = xs; is = refl; first_in = tt; second_in = are }
split (r ∷ rs) ss [] are = absurd are
split (r ∷ rs) ss (x ∷ xs) are =
    let rest = split rs ss xs are.1 in
    record { first = x ∷ rest.first; second = rest.second; is = ap (λ ys. x ∷ ys) rest.is; first_in = (are.0, rest.first_in); second_in = rest.second_in }

AreIn-append : (rs ss : List Range) (xs ys : List ℤ) → AreIn rs xs → AreIn ss ys → AreIn (rs ++ ss) (xs ++ ys)
AreIn-append [] ss [] ys first second = second
AreIn-append [] ss (x ∷ xs) ys first second = absurd first
AreIn-append (r ∷ rs) ss [] ys first second = absurd first
AreIn-append (r ∷ rs) ss (x ∷ xs) ys first second = (first.0, AreIn-append rs ss xs ys first.1 second)

-- the least value of each range
pub lows_in : (rs : List Range) → AllByRecursion IsNotEmpty rs → AreIn rs (map (λ (r : Range). r.low) rs)
lows_in [] full = tt
lows_in (r ∷ rs) full = (record { above = omega (arith, ints); below = full.0 }, lows_in rs full.1)

module _ (p : Meaning) where
  -- numbers in their ranges are values in the ranges
  pub assigned_in : (nr load victim_nr victim_load weight fresh : ℕ) (own victims attrs : List ℤ) → Numbers p nr load victim_nr victim_load weight fresh own victims attrs
      → AreIn (variable_ranges p) (assigned nr load victim_nr victim_load weight fresh own victims attrs)
  assigned_in nr load victim_nr victim_load weight fresh own victims attrs is = (
    in_natural nr 0 MAX_THREADS (omega arith) is.nr_small,
    (
      in_natural load 0 (MAX_THREADS * greatest_weight p.load) (omega arith) is.load_small,
      (
        in_natural victim_nr 0 MAX_THREADS (omega arith) is.victim_nr_small,
        (
          in_natural victim_load 0 (MAX_THREADS * greatest_weight p.load) (omega arith) is.victim_load_small,
          (
            in_natural weight (least_weight p.load) (greatest_weight p.load) is.weight_least is.weight_greatest,
            (
              in_natural fresh 0 1 (omega arith) is.fresh_small,
              AreIn-append (attribute_ranges p.core_attrs ++ attribute_ranges p.core_attrs) (attribute_ranges p.thread_attrs) (own ++ victims) attrs
                  (AreIn-append (attribute_ranges p.core_attrs) (attribute_ranges p.core_attrs) own victims is.own_in is.victims_in) is.attrs_in,
            ),
          ),
        ),
      ),
    ),
  )

  -- what holds of the numbers in their ranges holds of the values in the ranges
  pub for_all_values : (P : Assignment → Type 0)
      → ((nr load victim_nr victim_load weight fresh : ℕ) (own victims attrs : List ℤ) → Numbers p nr load victim_nr victim_load weight fresh own victims attrs
      → P (assigned nr load victim_nr victim_load weight fresh own victims attrs))
      → (values : Assignment) → AreIn (variable_ranges p) values → P values
  for_all_values P each [] are = absurd are
  for_all_values P each (a ∷ []) are = absurd are.1
  for_all_values P each (a ∷ b ∷ []) are = absurd are.1.1
  for_all_values P each (a ∷ b ∷ c ∷ []) are = absurd are.1.1.1
  for_all_values P each (a ∷ b ∷ c ∷ d ∷ []) are = absurd are.1.1.1.1
  for_all_values P each (a ∷ b ∷ c ∷ d ∷ e ∷ []) are = absurd are.1.1.1.1.1
  for_all_values P each (a ∷ b ∷ c ∷ d ∷ e ∷ f ∷ rest) are =
      let nr = natural a 0 MAX_THREADS are.0 in
      let load = natural b 0 (MAX_THREADS * greatest_weight p.load) are.1.0 in
      let victim_nr = natural c 0 MAX_THREADS are.1.1.0 in
      let victim_load = natural d 0 (MAX_THREADS * greatest_weight p.load) are.1.1.1.0 in
      let weight = natural e (least_weight p.load) (greatest_weight p.load) are.1.1.1.1.0 in
      let fresh = natural f 0 1 are.1.1.1.1.1.0 in
      let all = split (attribute_ranges p.core_attrs ++ attribute_ranges p.core_attrs) (attribute_ranges p.thread_attrs) rest are.1.1.1.1.1.1 in
      let cores = split (attribute_ranges p.core_attrs) (attribute_ranges p.core_attrs) all.first all.first_in in
      let is : a ∷ b ∷ c ∷ d ∷ e ∷ f ∷ rest ≡ assigned nr.n load.n victim_nr.n victim_load.n weight.n fresh.n cores.first cores.second all.second =
      ap₂ (λ x xs. x ∷ xs) nr.is (ap₂ (λ x xs. x ∷ xs) load.is (ap₂ (λ x xs. x ∷ xs) victim_nr.is (ap₂ (λ x xs. x ∷ xs) victim_load.is
      (ap₂ (λ x xs. x ∷ xs) weight.is (ap₂ (λ x xs. x ∷ xs) fresh.is (all.is ∙ ap (λ xs. xs ++ all.second) cores.is)))))) in
      subst P (sym is) (each nr.n load.n victim_nr.n victim_load.n weight.n fresh.n cores.first cores.second all.second (record {
        nr_small = nr.below;
        load_small = load.below;
        victim_nr_small = victim_nr.below;
        victim_load_small = victim_load.below;
        weight_least = weight.above;
        weight_greatest = weight.below;
        fresh_small = fresh.below;
        own_in = cores.first_in;
        victims_in = cores.second_in;
        attrs_in = all.second_in;
      }))
