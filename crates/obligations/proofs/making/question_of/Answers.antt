-- What the calls give is what the lemmas on the definitions speak of.
use Rattle.std.proofs.Common.{◌≡◌, ℕ, ◌<◌, List, length, map, get_or, refl, sym, ap, ap₂, subst, ◌∙◌, arith}
use Rattle.std.specs.List.{AllByRecursion}
use Rattle.policy_tree.specs.Meaning.{meaning_of}
use Rattle.linear_form.specs.declared.form.Row.{Row}
use Rattle.linear_form.specs.System.{LinearSystem}
use Rattle.obligations.specs.declared.obligation.Question.{Question}
use Rattle.obligations.specs.Demands.{statement_seen}
use Rattle.obligations.specs.Marks.{AreCases, HasSmallTerms, placed_systems, stays}
use Rattle.obligations.specs.Systems.{bound_of, has_variable, kept_below, place_of, refuting_cases, systems_of, variables_of}
use Rattle.obligations.proofs.Law.{counts_are_cases}
use Rattle.obligations.proofs.Made.{all_cases, all_systems, kept_few, small_terms, vars_known}
use Rattle.obligations.proofs.making.question_of.Goals as goal

pub places_in-requires : goal.places_in-requires
places_in-requires c =
    let p = meaning_of c.args.policy.now in let s = statement_seen c.args.statement in
    let cases : c.as_slice.result.now ≡ refuting_cases p s = c.as_slice.ensures.value ∙ c.in_ok-cases.ensures in
    record { small = subst (λ (all : List (List Row)). AllByRecursion (AllByRecursion HasSmallTerms) all) (sym cases) (small_terms p c.requires.policy s) }

pub systems_in-requires-clause-few : goal.systems_in-requires-clause-few
systems_in-requires-clause-few c =
    let vars = ap length c.in_ok-kept.ensures.vars in
    let few = kept_few (stays (statement_seen c.args.statement) c.as_slice.result.now) 30 in
    omega (arith, vars, few)

pub systems_in-requires-clause-known : goal.systems_in-requires-clause-known
systems_in-requires-clause-known c =
    let p = meaning_of c.args.policy.now in let s = statement_seen c.args.statement in
    let cases : c.as_slice.result.now ≡ refuting_cases p s = c.as_slice.ensures.value ∙ c.in_ok-cases.ensures in
    let vars : c.in_ok-kept.kept.vars.items ≡ variables_of p s =
    c.in_ok-kept.ensures.vars ∙ ap (λ all. kept_below (stays s all) 30) cases in
    subst (AllByRecursion (λ v. v < 30)) (sym vars) (vars_known p c.requires.policy s)

pub systems_in-requires-clause-cases : goal.systems_in-requires-clause-cases
systems_in-requires-clause-cases c =
    let p = meaning_of c.args.policy.now in let s = statement_seen c.args.statement in let places = c.in_ok-kept.kept.places in
    let made = c.in_ok-cases.ensures in
    let cases : c.as_slice.result.now ≡ refuting_cases p s = c.as_slice.ensures.value ∙ made in
    let again : c.as_slice-2.result.now ≡ refuting_cases p s = c.as_slice-2.ensures.value ∙ made in
    let vars : c.in_ok-kept.kept.vars.items ≡ variables_of p s =
    c.in_ok-kept.ensures.vars ∙ ap (λ all. kept_below (stays s all) 30) cases in
    let each : (v : ℕ) → v < 30 → get_or places v 0 ≡ place_of (has_variable p s) v =
    λ v lt. c.in_ok-kept.ensures.places v lt ∙ ap (λ all. place_of (stays s all) v) cases in
    subst (λ (n : ℕ). AreCases n places c.as_slice-2.result.now) (sym (ap length vars))
    (subst (AreCases (length (variables_of p s)) places) (sym again)
    (all_cases p c.requires.policy s places (has_variable p s) (λ v lt. refl) each))

pub from_vec-requires : goal.from_vec-requires
from_vec-requires c = let few = c.in_ok-kept.ensures.few in omega (arith, few)

pub from_vec-requires-2 : goal.from_vec-requires-2
from_vec-requires-2 c =
    let p = meaning_of c.args.policy.now in let s = statement_seen c.args.statement in
    let again : c.as_slice-2.result.now ≡ refuting_cases p s = c.as_slice-2.ensures.value ∙ c.in_ok-cases.ensures in
    let long = ap length again in let count = counts_are_cases p s in let few = c.requires.few in let systems = c.in_ok-systems.ensures.count in
    omega (arith, long, count, few, systems)

pub returns : goal.returns
returns c =
    let p = meaning_of c.args.policy.now in let s = statement_seen c.args.statement in let places = c.in_ok-kept.kept.places in
    let made = c.in_ok-cases.ensures in
    let cases : c.as_slice.result.now ≡ refuting_cases p s = c.as_slice.ensures.value ∙ made in
    let again : c.as_slice-2.result.now ≡ refuting_cases p s = c.as_slice-2.ensures.value ∙ made in
    let vars : c.in_ok-kept.kept.vars.items ≡ variables_of p s =
    c.in_ok-kept.ensures.vars ∙ ap (λ all. kept_below (stays s all) 30) cases in
    let each : (v : ℕ) → v < 30 → get_or places v 0 ≡ place_of (has_variable p s) v =
    λ v lt. c.in_ok-kept.ensures.places v lt ∙ ap (λ all. place_of (stays s all) v) cases in
    let systems : c.in_ok-systems.systems.items ≡ systems_of p s =
    c.in_ok-systems.ensures.systems
    ∙ (ap₂ (λ (vs : List ℕ) (all : List (List Row)). placed_systems (map (bound_of p) vs) places all) vars again
    ∙ all_systems p c.requires.policy s places (has_variable p s) (λ v lt. refl) each) in
    ap₂ asked (c.from_vec.ensures ∙ vars) (c.from_vec-2.ensures ∙ systems)
  where
    asked : List ℕ → List LinearSystem → Question
    asked vs all = record { vars = vs; systems = all }
