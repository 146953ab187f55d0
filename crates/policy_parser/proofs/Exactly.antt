-- What is read is what the grammar and the limits say, in either language.
use Rattle.std.proofs.Common.{◌≡◌, ◌∙◌, List, ℕ, sym, subst, Option, None, Result, Ok, Err, IfOk, IfErr}
use Rattle.policy_grammar.specs.declared.terminal.Lexeme.{Lexeme}
use Rattle.policy_grammar.specs.declared.limits.Limits.{Limits}
use Rattle.policy_grammar.specs.declared.fault.ParseFault.{ParseFault}
use Rattle.policy_grammar.specs.declared.fault.ParseFault.TheVariants.{Unexpected, Deep, Many, Memory}
use Rattle.policy_grammar.specs.Symbols.{Symbol}
use Rattle.policy_grammar.specs.Machine.{go}
use Rattle.policy_grammar.specs.Correct.{IsWithinIn, IsFaultIn}
use Rattle.policy_grammar.proofs.Exact.{fault-exact}
use Rattle.policy_grammar.proofs.Languages.{IsLanguage}
use Rattle.policy_parser.specs.Answers.{Answers, IsReadUnlessMemory}

module _ (limits : Limits) (text : List ℕ) (Tree : Type 0) (Is : List Lexeme → Tree → Type 0) (breaks : Tree → Option ParseFault) (begin : List Symbol)
    (language : IsLanguage limits text Tree Is breaks begin) (X : Type 0) (tree : X → Tree) where
  within-one : (ts : List Lexeme) (r : Result X ParseFault) → IfOk r (λ s. Is ts (tree s)) → Answers (go limits ts 0 0 begin) (λ s. None) r →
      IfOk r (λ s. IsWithinIn Tree Is breaks ts (tree s))
  within-one ts (Ok s) is e = record { is = is; keeps = sym (language.read ts (tree s) is) ∙ e }
  within-one ts (Err f) is e = tt

  only-one : (one : (us : List Lexeme) (s t : Tree) → Is us s → Is us t → s ≡ t) (ts : List Lexeme) (r : Result X ParseFault) → IfOk r (λ s. Is ts (tree s)) →
      IfOk r (λ s. (other : Tree) → Is ts other → other ≡ tree s)
  only-one one ts (Ok s) is = λ other too. one ts other (tree s) too is
  only-one one ts (Err f) is = tt

  fault-one : (ts : List Lexeme) (r : Result X ParseFault) → Answers (go limits ts 0 0 begin) (λ s. None) r → IfErr r (IsFaultIn Tree Is breaks ts)
  fault-one ts (Ok s) e = tt
  fault-one ts (Err (Unexpected at)) e = fault-exact limits text Tree Is breaks begin language ts (Unexpected at) e
  fault-one ts (Err (Deep at)) e = fault-exact limits text Tree Is breaks begin language ts (Deep at) e
  fault-one ts (Err (Many at limit)) e = fault-exact limits text Tree Is breaks begin language ts (Many at limit) e
  fault-one ts (Err Memory) e = tt

  read-one : (ts : List Lexeme) (r : Result X ParseFault) → Answers (go limits ts 0 0 begin) (λ s. None) r → (s : Tree) → IsWithinIn Tree Is breaks ts s → IsReadUnlessMemory r
  read-one ts (Ok s) e syntax within = tt
  read-one ts (Err (Unexpected at)) e syntax within = let clash = sym e ∙ language.read ts syntax within.is ∙ within.keeps in cc
  read-one ts (Err (Deep at)) e syntax within = let clash = sym e ∙ language.read ts syntax within.is ∙ within.keeps in cc
  read-one ts (Err (Many at limit)) e syntax within = let clash = sym e ∙ language.read ts syntax within.is ∙ within.keeps in cc
  read-one ts (Err Memory) e syntax within = tt

  -- the tokens that are read are those of the text
  module _ (us ts : List Lexeme) (same : us ≡ ts) (r : Result X ParseFault) where
    pub within-exact : IfOk r (λ s. Is us (tree s)) → Answers (go limits us 0 0 begin) (λ s. None) r → IfOk r (λ s. IsWithinIn Tree Is breaks ts (tree s))
    within-exact is e = subst (λ xs. IfOk r (λ s. IsWithinIn Tree Is breaks xs (tree s))) same (within-one us r is e)

    pub only-exact : (one : (us : List Lexeme) (s t : Tree) → Is us s → Is us t → s ≡ t) → IfOk r (λ s. Is us (tree s)) →
        IfOk r (λ s. (other : Tree) → Is ts other → other ≡ tree s)
    only-exact one is = subst (λ xs. IfOk r (λ s. (other : Tree) → Is xs other → other ≡ tree s)) same (only-one one us r is)

    pub faults-exact : Answers (go limits us 0 0 begin) (λ s. None) r → IfErr r (IsFaultIn Tree Is breaks ts)
    faults-exact e = subst (λ xs. IfErr r (IsFaultIn Tree Is breaks xs)) same (fault-one us r e)

    pub reads-exact : Answers (go limits us 0 0 begin) (λ s. None) r → (s : Tree) → IsWithinIn Tree Is breaks ts s → IsReadUnlessMemory r
    reads-exact e s within = read-one us r e s (subst (λ xs. IsWithinIn Tree Is breaks xs s) (sym same) within)
