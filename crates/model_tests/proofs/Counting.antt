-- How far a list of entries is a legal history, as it is counted.
use Rattle.std.proofs.Common.{◌≡◌, ℕ, ◌+◌, List, [], ◌∷◌, ◌++◌, length, take, slice_get, Some, sym, ap, subst, ◌∙◌, arith}
use Rattle.std.proofs.lemmas.List.{take_more}
use Rattle.std.proofs.lemmas.Option.{get_or_from_slice_get, slice_get_within}
use Rattle.policy_tree.specs.Meaning.{Meaning}
use Rattle.round_model.specs.declared.entry.Entry.{Entry}
use Rattle.round_model.specs.declared.plan.Plan.{Plan}
use Rattle.round_model.specs.Legal.{Legal, LegalNext}
use Rattle.model_tests.specs.Steps.{IsLegalLength}

pub take_next : (entries : List Entry) (at : ℕ) (e : Entry) → slice_get entries at ≡ Some e → take (at + 1) entries ≡ take at entries ++ e ∷ []
take_next entries at e is =
    let inside = slice_get_within entries at e is in
    take_more entries at e inside ∙ ap (λ (x : Entry). take at entries ++ x ∷ []) (get_or_from_slice_get entries at e e is)

-- the count stops at an entry that isn't legal next
pub stops_at : (p : Meaning) (plan : Plan) (entries : List Entry) (at : ℕ) (x : Entry) → slice_get entries at ≡ Some x → Legal p plan (take at entries)
    → ¬ LegalNext p plan (take at entries) x → IsLegalLength p plan entries at
stops_at p plan entries at x is legal not_next =
    let inside = slice_get_within entries at x is in
    record {
      within = omega arith;
      legal = legal;
      stops = λ e other next. let same : e ≡ x = let both = sym other ∙ is in cc in not_next (subst (LegalNext p plan (take at entries)) same next);
    }

-- or behind the last
pub stops_behind : (p : Meaning) (plan : Plan) (entries : List Entry) (at : ℕ) → at ≡ length entries → Legal p plan (take at entries) → IsLegalLength p plan entries at
stops_behind p plan entries at is legal = record {
  within = omega arith;
  legal = legal;
  stops = λ e other. absurd (let inside = slice_get_within entries at e other in omega arith);
}
