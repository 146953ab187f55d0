-- The texts of cases, one case after the other: what is printed and what is still to come are always the whole.
use Rattle.std.proofs.Common.{◌≡◌, ◌∙◌, ◌<◌, ◌≤◌, ◌+◌, ℕ, true, false, List, [], ◌∷◌, ◌++◌, length, drop, get_or, map, refl, sym, ap, append_assoc}
use Rattle.std.proofs.lemmas.List.{drop_all, drop_more}
use Rattle.policy_tree.specs.declared.typed.Case.{Case}
use Rattle.policy_tree.specs.Meaning.{Meaning, case_tree}
use Rattle.policy_tree.specs.Trees.{cond_tree}
use Rattle.c_printer.specs.Adds.{Adds, glued}
use Rattle.c_printer.specs.EventTexts.{cases_texts, guarded_texts, is_always, outcome_texts}
use Rattle.std.proofs.Common.{codes}
use Rattle.c_printer.proofs.AddsLemmas.{glued_append}

pub record Leads (whole rest : List (List ℕ)) (before now : List ℕ) : Type 0 where
  pub is : now ++ glued rest ≡ before ++ glued whole

pub leads_more : {w r xs more : List (List ℕ)} {a b c : List ℕ} → Leads w r a b → r ≡ xs ++ more → Adds xs b c → Leads w more a c
leads_more {w = w} {r = r} {xs = xs} {more = more} {a = a} {b = b} {c = c} so_far split these = record {
  is = ap (λ (front : List ℕ). front ++ glued more) these.is ∙ append_assoc b (glued xs) (glued more)
      ∙ ap (λ (end : List ℕ). b ++ end) (sym (glued_append xs more)) ∙ ap (λ (texts : List (List ℕ)). b ++ glued texts) (sym split)
      ∙ so_far.is;
}

pub leads_end : {w r xs : List (List ℕ)} {a b c : List ℕ} → Leads w r a b → r ≡ xs → Adds xs b c → Adds w a c
leads_end {b = b} so_far split these = record {
  is = these.is ∙ ap (λ (texts : List (List ℕ)). b ++ glued texts) (sym split) ∙ so_far.is;
}

module _ (p : Meaning) where
  abbrev pub texts_from : ℕ → List Case → List (List ℕ)
  texts_from i cases = cases_texts p (map case_tree (drop i cases))

  pub first_case : (i : ℕ) (cases : List Case) (c : Case) → c ≡ get_or cases i c → i < length cases →
      texts_from i cases ≡ cases_texts p (map case_tree (c ∷ drop (i + 1) cases))
  first_case i cases c is less =
      ap (λ (cs : List Case). cases_texts p (map case_tree cs)) (drop_more cases i c less)
      ∙ ap (λ (d : Case). cases_texts p (map case_tree (d ∷ drop (i + 1) cases))) (sym is)

  pub guarded_first : (c : Case) (rest : List Case) → is_always (cond_tree c.guard) ≡ false →
      cases_texts p (map case_tree (c ∷ rest)) ≡ guarded_texts p (case_tree c) ++ cases_texts p (map case_tree rest)
  guarded_first c rest other = rw other refl

  pub always_first : (c : Case) (rest : List Case) → is_always (cond_tree c.guard) ≡ true →
      cases_texts p (map case_tree (c ∷ rest)) ≡ outcome_texts p (codes "\t") (case_tree c)
  always_first c rest holds = rw holds refl

  pub no_case : (i : ℕ) (cases : List Case) → length cases ≤ i → texts_from i cases ≡ cases_texts p []
  no_case i cases past = ap (λ (cs : List Case). cases_texts p (map case_tree cs)) (drop_all i cases past)
