-- A text within the limit spells a resolved policy, if it spells one.
use Rattle.std.proofs.Common.{◌≡◌, ℕ, ◌≤◌, List, [], length, subst}
use Rattle.sched_base.specs.declared.limits.TheConstants.{MAX_POLICY_BYTES}
use Rattle.level_policy.proofs.CompiledResolved.{compiled_resolved}
use Rattle.policy_eval.specs.Resolved.{IsResolved}
use Rattle.policy_lexer.specs.declared.token.Token.{Token}
use Rattle.policy_types.specs.Levels.{level_text_meaning}
use Rattle.policy_types.proofs.SoundLevels.{level_text_resolved}
use Rattle.policy_types.proofs.SoundPolicies.{policy_resolved}
use Rattle.policy_reader.specs.Languages.{TextSyntax, of_policy, of_levels, rule_faults, meant}
use Rattle.policy_reader.specs.Resolved.{SpellsResolved}
use Rattle.policy_reader.specs.Spelled.{SpellsSyntax}
use Rattle.policy_reader.proofs.Answered.{of_grammar, of_level_grammar}

meant_resolved : (text : List ℕ) (tokens : List Token) (s : TextSyntax) → length text ≤ MAX_POLICY_BYTES → SpellsSyntax text tokens s → rule_faults s ≡ [] → IsResolved (meant s)
meant_resolved text tokens (of_policy s) small has keeps = policy_resolved s (of_grammar text tokens s small has.spells has.is.1) keeps
meant_resolved text tokens (of_levels s) small has keeps = compiled_resolved (level_text_meaning s) (level_text_resolved s (of_level_grammar text tokens s small has.spells has.is.1) keeps)

pub spells_resolved : SpellsResolved
spells_resolved text p small spelled =
    subst IsResolved spelled.means (meant_resolved text spelled.tokens spelled.syntax small spelled.has spelled.keeps)
