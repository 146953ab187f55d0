-- A text is read to a policy, or one of the three readers finds its fault.
use Rattle.std.proofs.Common.{◌≡◌, ◌≢◌, ◌⊎◌, ℕ, ◌≤◌, inl, inr, List, [], length, Option, Some, None, refl, sym, subst}
use Rattle.std.specs.Prelude.{MatchOption}
use Rattle.sched_base.specs.declared.limits.TheConstants.{MAX_POLICY_BYTES}
use Rattle.policy_lexer.specs.declared.token.Token.{Token}
use Rattle.policy_lexer.specs.declared.fault.LexFault.{LexFault}
use Rattle.policy_lexer.specs.declared.fault.LexFault.TheVariants as lex
use Rattle.policy_lexer.specs.Faults.{HasTokens, IsRealFault}
use Rattle.policy_lexer.specs.Tokens.{SpellsTokens}
use Rattle.policy_grammar.specs.declared.fault.ParseFault.{ParseFault}
use Rattle.policy_grammar.specs.declared.fault.ParseFault.TheVariants as parse
use Rattle.policy_grammar.specs.declared.limits.TheConstants.{POLICY_LIMITS}
use Rattle.policy_grammar.specs.declared.language.Language.{Language}
use Rattle.policy_grammar.specs.declared.language.Language.TheVariants.{Policies, LevelTexts}
use Rattle.policy_grammar.specs.Lexemes.{language_of, lexemes_in, policy_lexemes}
use Rattle.policy_grammar.proofs.Total.{each_has_answer, each_has_level_answer}
use Rattle.policy_types.specs.declared.fault.TypeFault.{TypeFault}
use Rattle.policy_types.specs.declared.fault.TypeFault.TheVariants as type
use Rattle.policy_types.specs.Correct.{IsLeast}
use Rattle.policy_types.specs.Faults.{IsFirst}
use Rattle.policy_types.proofs.WalkLevels.{levels_answer}
use Rattle.policy_types.proofs.WalkPolicies.{policy_answer}
use Rattle.policy_reader.specs.declared.fault.TextFault.{TextFault}
use Rattle.policy_reader.specs.EachAnswered.{HasAnswer}
use Rattle.policy_reader.specs.Faults.{no_tokens, no_syntax, no_policy}
use Rattle.policy_reader.specs.Languages.{TextSyntax, of_policy, of_levels, IsFaultOf, rule_faults, meant}
use Rattle.policy_reader.specs.Spelled.{SpellsSyntax}
use Rattle.policy_reader.specs.Told.{lex_fault, offset_of, parse_fault, type_fault}
use Rattle.policy_reader.proofs.Answered.{of_grammar, of_level_grammar}

-- each fault but want of memory is told
lex_told : (f : LexFault) → f ≢ lex.Memory → (fault : TextFault) × (lex_fault f ≡ Some fault)
lex_told (lex.NotAscii at) real = (_, refl)
lex_told (lex.BadByte at) real = (_, refl)
lex_told (lex.LongName at) real = (_, refl)
lex_told (lex.WideNumber at) real = (_, refl)
lex_told lex.Memory real = absurd (real refl)

parse_told : (offset : ℕ → ℕ) (f : ParseFault) → f ≢ parse.Memory → (fault : TextFault) × (parse_fault offset f ≡ Some fault)
parse_told offset (parse.Unexpected at) real = (_, refl)
parse_told offset (parse.Deep at) real = (_, refl)
parse_told offset (parse.Many at limit) real = (_, refl)
parse_told offset parse.Memory real = absurd (real refl)

type_told : (offset : ℕ → ℕ) (f : TypeFault) → f ≢ type.Memory → (fault : TextFault) × (type_fault offset f ≡ Some fault)
type_told offset (type.Unknown at) real = (_, refl)
type_told offset (type.Twice at) real = (_, refl)
type_told offset (type.NotLinear at) real = (_, refl)
type_told offset (type.NotHere at) real = (_, refl)
type_told offset (type.BadRange at) real = (_, refl)
type_told offset (type.Big at) real = (_, refl)
type_told offset type.Memory real = absurd (real refl)

module _ (text : List ℕ) (small : length text ≤ MAX_POLICY_BYTES) where
  of_syntax : (tokens : List Token) (s : TextSyntax) → SpellsSyntax text tokens s →
      (rule_faults s ≡ []) ⊎ ((f : TypeFault) × IsFirst (rule_faults s) f × IsLeast (rule_faults s) f × (f ≢ type.Memory)) → HasAnswer text
  of_syntax tokens s has answer = elim answer [
    | inl keeps ↦ inl (meant s, record { tokens = tokens; syntax = s; has = has; keeps = keeps; means = refl })
    | inr (f, first, least, real) ↦
        let told = type_told (offset_of text tokens) f real in
        inr (told.0, no_policy tokens s f has first least told.1)
  ]

  of_fault : (tokens : List Token) (f : ParseFault) → SpellsTokens text tokens → IsFaultOf (language_of text tokens) text tokens f → f ≢ parse.Memory → HasAnswer text
  of_fault tokens f spells is real = let told = parse_told (offset_of text tokens) f real in inr (told.0, no_syntax tokens f spells is told.1)

  by_language : (tokens : List Token) (language : Language) → SpellsTokens text tokens → language_of text tokens ≡ language → HasAnswer text
  by_language tokens Policies spells e = elim (each_has_answer POLICY_LIMITS text (policy_lexemes text tokens)) [
    | inl (s, is) ↦ of_syntax tokens (of_policy s) (record { spells = spells; is = (e, is) }) (policy_answer s (of_grammar text tokens s small spells is))
    | inr (f, is, real) ↦ of_fault tokens f spells (subst (λ l. IsFaultOf l text tokens f) (sym e) is) real
  ]
  by_language tokens LevelTexts spells e = elim (each_has_level_answer POLICY_LIMITS text (lexemes_in LevelTexts text tokens)) [
    | inl (s, is) ↦ of_syntax tokens (of_levels s) (record { spells = spells; is = (e, is) }) (levels_answer s (of_level_grammar text tokens s small spells is))
    | inr (f, is, real) ↦ of_fault tokens f spells (subst (λ l. IsFaultOf l text tokens f) (sym e) is) real
  ]

  of_tokens : (tokens : List Token) → SpellsTokens text tokens → HasAnswer text
  of_tokens tokens spells = by_language tokens (language_of text tokens) spells refl

  pub each_answered : (found : Option LexFault) → MatchOption found (HasTokens text) (IsRealFault text) → HasAnswer text
  each_answered None (tokens, spells) = of_tokens tokens spells
  each_answered (Some f) (is, real) = let told = lex_told f real in inr (told.0, no_tokens f is told.1)
