-- A text has one answer: layer by layer.
use Rattle.std.proofs.Common.{◌≡◌, ◌∙◌, ℕ, List, Some, Result, Ok, Err, refl, ap, sym, subst}
use Rattle.policy_lexer.specs.declared.token.Token.{Token}
use Rattle.policy_lexer.specs.declared.fault.LexFault.{LexFault}
use Rattle.policy_lexer.specs.declared.fault.LexFault.TheVariants as lex
use Rattle.policy_lexer.specs.Faults.{IsBroken, IsFault, IsUnlessMemory}
use Rattle.policy_lexer.specs.Tokens.{SpellsTokens}
use Rattle.policy_lexer.proofs.Answered.{reads_it, refuses_it, tokens-same}
use Rattle.policy_grammar.specs.declared.fault.ParseFault.{ParseFault}
use Rattle.policy_grammar.specs.declared.fault.ParseFault.TheVariants as parse
use Rattle.policy_grammar.specs.declared.limits.TheConstants.{POLICY_LIMITS}
use Rattle.policy_grammar.specs.declared.language.Language.{Language}
use Rattle.policy_grammar.specs.declared.language.Language.TheVariants.{Policies, LevelTexts}
use Rattle.policy_grammar.specs.Breaks.{breaks_policy}
use Rattle.policy_grammar.specs.LevelBreaks.{breaks_level_text}
use Rattle.policy_grammar.specs.Levels.{IsLevels}
use Rattle.policy_grammar.specs.Lexemes.{language_of, lexemes_in, policy_lexemes}
use Rattle.policy_grammar.specs.Policies.{IsPolicy}
use Rattle.policy_grammar.proofs.OneLevels.{level_text-one}
use Rattle.policy_grammar.proofs.OnePolicies.{policy-one}
use Rattle.policy_tree.specs.Meaning.{Meaning}
use Rattle.policy_syntax.specs.LevelTrees.{LevelSyntaxTree}
use Rattle.policy_syntax.specs.SyntaxTrees.{SyntaxTree}
use Rattle.policy_types.specs.declared.fault.TypeFault.{TypeFault}
use Rattle.policy_types.specs.declared.fault.TypeFault.TheVariants as type
use Rattle.policy_types.specs.Faults.{IsFirst, first_of}
use Rattle.policy_reader.specs.declared.fault.TextFault.{TextFault}
use Rattle.policy_reader.specs.Faults.{HasFault, no_tokens, no_syntax, no_policy}
use Rattle.policy_reader.specs.Languages.{TextSyntax, of_policy, of_levels, IsTextSyntax, IsFaultOf, rule_faults, meant}
use Rattle.policy_reader.specs.Spelled.{SpellsPolicy, SpellsSyntax}
use Rattle.policy_reader.specs.Told.{lex_fault, offset_of, parse_fault, type_fault}
use Rattle.policy_reader.proofs.OneGrammarFault.{one-fault, no-fault}

some-same : {X : Type 0} {x y : X} → Some x ≡ Some y → x ≡ y
some-same e = cc

-- what is told is no want of memory
lex-real : (f : LexFault) {x : TextFault} → lex_fault f ≡ Some x → f ≡ lex.Memory → ⊥
lex-real f told memory = let clash = sym told ∙ ap lex_fault memory in cc

parse-real : (offset : ℕ → ℕ) (f : ParseFault) {x : TextFault} → parse_fault offset f ≡ Some x → f ≡ parse.Memory → ⊥
parse-real offset f told memory = let clash = sym told ∙ ap (parse_fault offset) memory in cc

type-real : (offset : ℕ → ℕ) (f : TypeFault) {x : TextFault} → type_fault offset f ≡ Some x → f ≡ type.Memory → ⊥
type-real offset f told memory = let clash = sym told ∙ ap (type_fault offset) memory in cc

broken : (text : List ℕ) (f : LexFault) → IsFault text f → (f ≡ lex.Memory → ⊥) → IsBroken text f
broken text (lex.NotAscii at) is real = is.0
broken text (lex.BadByte at) is real = is.0
broken text (lex.LongName at) is real = is.0
broken text (lex.WideNumber at) is real = is.0
broken text lex.Memory is real = absurd (real refl)

lex-answer : (f : LexFault) (answer : Result (List Token) LexFault) → (f ≡ lex.Memory → ⊥) → IsUnlessMemory answer (Err f) → Err f ≡ answer
lex-answer (lex.NotAscii at) answer real e = e
lex-answer (lex.BadByte at) answer real e = e
lex-answer (lex.LongName at) answer real e = e
lex-answer (lex.WideNumber at) answer real e = e
lex-answer lex.Memory answer real e = absurd (real refl)

err-same : {f g : LexFault} → ◌≡◌ {A = Result (List Token) LexFault} (Err f) (Err g) → f ≡ g
err-same e = cc

-- one fault of tokens, and none where there are tokens
lex-same : (text : List ℕ) (f g : LexFault) → IsFault text f → IsFault text g → (f ≡ lex.Memory → ⊥) → (g ≡ lex.Memory → ⊥) → f ≡ g
lex-same text f g x y real also =
    err-same (lex-answer f (Err g) real (refuses_it text (Err f) g tt x (broken text g y also)))

lex-none : (text : List ℕ) (f : LexFault) (tokens : List Token) → IsFault text f → SpellsTokens text tokens → (f ≡ lex.Memory → ⊥) → ⊥
lex-none text f tokens x spells real = let clash = lex-answer f (Ok tokens) real (reads_it text (Err f) tokens tt x spells) in cc

first-is : (faults : List TypeFault) (f : TypeFault) → IsFirst faults f → (f ≡ type.Memory → ⊥) → first_of faults ≡ Some f
first-is faults (type.Unknown at) e real = e
first-is faults (type.Twice at) e real = e
first-is faults (type.NotLinear at) e real = e
first-is faults (type.NotHere at) e real = e
first-is faults (type.BadRange at) e real = e
first-is faults (type.Big at) e real = e
first-is faults type.Memory e real = absurd (real refl)

module _ (text : List ℕ) where
  -- a syntax is that of the tokens which the text has
  is-of : (ts us : List Token) (s : TextSyntax) → SpellsTokens text ts → SpellsSyntax text us s → IsTextSyntax text ts s
  is-of ts us s spells has = subst (λ xs. IsTextSyntax text xs s) (tokens-same text us ts has.spells spells) has.is

  clash : {language : Language} → language ≡ Policies → language ≡ LevelTexts → ⊥
  clash one other = let e = sym one ∙ other in cc

  syntax-one : (ts : List Token) (s r : TextSyntax) → IsTextSyntax text ts s → IsTextSyntax text ts r → s ≡ r
  syntax-one ts (of_policy s) (of_policy r) x y = ap of_policy (policy-one text (policy_lexemes text ts) x.1.is y.1.is)
  syntax-one ts (of_policy s) (of_levels r) x y = absurd (clash x.0 y.0)
  syntax-one ts (of_levels s) (of_policy r) x y = absurd (clash y.0 x.0)
  syntax-one ts (of_levels s) (of_levels r) x y = ap of_levels (level_text-one text (lexemes_in LevelTexts text ts) x.1.is y.1.is)

  syntax-same : (ts us : List Token) (s r : TextSyntax) → SpellsSyntax text ts s → SpellsSyntax text us r → s ≡ r
  syntax-same ts us s r x y = syntax-one ts s r x.is (is-of ts us r x.spells y)

  none-of : (ts : List Token) (s : TextSyntax) (f : ParseFault) → IsTextSyntax text ts s → IsFaultOf (language_of text ts) text ts f → (f ≡ parse.Memory → ⊥) → ⊥
  none-of ts (of_policy s) f has is real =
      no-fault SyntaxTree (IsPolicy text) (breaks_policy POLICY_LIMITS) (policy_lexemes text ts) f s has.1 (subst (λ l. IsFaultOf l text ts f) has.0 is) real
  none-of ts (of_levels s) f has is real =
      no-fault LevelSyntaxTree (IsLevels text) (breaks_level_text POLICY_LIMITS) (lexemes_in LevelTexts text ts) f s has.1 (subst (λ l. IsFaultOf l text ts f) has.0 is) real

  syntax-fault : (ts us : List Token) (s : TextSyntax) (f : ParseFault) → SpellsTokens text ts → IsFaultOf (language_of text ts) text ts f →
      SpellsSyntax text us s → (f ≡ parse.Memory → ⊥) → ⊥
  syntax-fault ts us s f spells is has real = none-of ts s f (is-of ts us s spells has) is real

  fault-one : (language : Language) (ts : List Token) (f g : ParseFault) → IsFaultOf language text ts f → IsFaultOf language text ts g →
      (f ≡ parse.Memory → ⊥) → (g ≡ parse.Memory → ⊥) → f ≡ g
  fault-one Policies ts f g is other = one-fault SyntaxTree (IsPolicy text) (breaks_policy POLICY_LIMITS) (policy_lexemes text ts) f g is other
  fault-one LevelTexts ts f g is other = one-fault LevelSyntaxTree (IsLevels text) (breaks_level_text POLICY_LIMITS) (lexemes_in LevelTexts text ts) f g is other

  parse-same : (ts us : List Token) (f g : ParseFault) (x y : TextFault) → ts ≡ us →
      IsFaultOf (language_of text ts) text ts f → IsFaultOf (language_of text us) text us g →
      parse_fault (offset_of text ts) f ≡ Some x → parse_fault (offset_of text us) g ≡ Some y → x ≡ y
  parse-same ts us f g x y same is other told also =
      let here = subst (λ xs. IsFaultOf (language_of text xs) text xs g) (sym same) other in
      let said : parse_fault (offset_of text ts) g ≡ Some y = subst (λ xs. parse_fault (offset_of text xs) g ≡ Some y) (sym same) also in
      let one = fault-one (language_of text ts) ts f g is here (parse-real _ f told) (parse-real _ g said) in
      some-same (sym told ∙ ap (parse_fault (offset_of text ts)) one ∙ said)

  type-same : (ts us : List Token) (s r : TextSyntax) (f g : TypeFault) (x y : TextFault) → ts ≡ us → s ≡ r →
      IsFirst (rule_faults s) f → IsFirst (rule_faults r) g →
      type_fault (offset_of text ts) f ≡ Some x → type_fault (offset_of text us) g ≡ Some y → x ≡ y
  type-same ts us s r f g x y same tree first other told also =
      let said : type_fault (offset_of text ts) g ≡ Some y = subst (λ xs. type_fault (offset_of text xs) g ≡ Some y) (sym same) also in
      let here : IsFirst (rule_faults s) g = subst (λ t. IsFirst (rule_faults t) g) (sym tree) other in
      let one = some-same (sym (first-is (rule_faults s) f first (type-real _ f told)) ∙ first-is (rule_faults s) g here (type-real _ g said)) in
      some-same (sym told ∙ ap (type_fault (offset_of text ts)) one ∙ said)

  pub one_fault : (x y : TextFault) → HasFault text x → HasFault text y → x ≡ y
  one_fault x y (no_tokens f is told) (no_tokens g other also) =
      some-same (sym told ∙ ap lex_fault (lex-same text f g is other (lex-real f told) (lex-real g also)) ∙ also)
  one_fault x y (no_tokens f is told) (no_syntax us g spells other also) = absurd (lex-none text f us is spells (lex-real f told))
  one_fault x y (no_tokens f is told) (no_policy us r g has first least also) = absurd (lex-none text f us is has.spells (lex-real f told))
  one_fault x y (no_syntax ts f spells is told) (no_tokens g other also) = absurd (lex-none text g ts other spells (lex-real g also))
  one_fault x y (no_syntax ts f spells is told) (no_syntax us g spelled other also) =
      parse-same ts us f g x y (tokens-same text ts us spells spelled) is other told also
  one_fault x y (no_syntax ts f spells is told) (no_policy us r g has first least also) =
      absurd (syntax-fault ts us r f spells is has (parse-real _ f told))
  one_fault x y (no_policy ts s f has first least told) (no_tokens g other also) = absurd (lex-none text g ts other has.spells (lex-real g also))
  one_fault x y (no_policy ts s f has first least told) (no_syntax us g spells other also) =
      absurd (syntax-fault us ts s g spells other has (parse-real _ g also))
  one_fault x y (no_policy ts s f has first least told) (no_policy us r g have other low also) =
      type-same ts us s r f g x y (tokens-same text ts us has.spells have.spells) (syntax-same ts us s r has have) first other told also

  pub one_policy : (p q : Meaning) → SpellsPolicy text p → SpellsPolicy text q → p ≡ q
  one_policy p q x y = sym x.means ∙ ap meant (syntax-same x.tokens y.tokens x.syntax y.syntax x.has y.has) ∙ y.means

  pub never_both : (p : Meaning) (x : TextFault) → SpellsPolicy text p → HasFault text x → ⊥
  never_both p x spelled (no_tokens f is told) = lex-none text f spelled.tokens is spelled.has.spells (lex-real f told)
  never_both p x spelled (no_syntax ts f spells is told) = syntax-fault ts spelled.tokens spelled.syntax f spells is spelled.has (parse-real _ f told)
  never_both p x spelled (no_policy ts s f has first least told) =
      let same = syntax-same ts spelled.tokens s spelled.syntax has spelled.has in
      let clash = sym (first-is (rule_faults s) f first (type-real _ f told)) ∙ ap (λ t. first_of (rule_faults t)) same ∙ ap first_of spelled.keeps in cc
