-- Each handler obligation is answered to hold.
use Rattle.std.proofs.Common.{◌≡◌, ℕ, true, ap, subst, sym, ◌∙◌}
use Rattle.policy_tree.specs.Meaning.{meaning_of}
use Rattle.policy_checker.specs.Playable.{all_let_play, is_playable}
use Rattle.policy_checker.specs.Verdicts.{IsVerdict, policy_of}
use Rattle.policy_checker.specs.declared.verdict.Verdict.{Verdict}
use Rattle.policy_checker.proofs.KeptHandlers.{handlers_kept}
use Rattle.policy_checker.proofs.playing.playable.Goals as goal

pub new-requires-clause-kept : goal.new-requires-clause-kept
new-requires-clause-kept c =
    let told = subst (λ (v : Verdict). (budget : ℕ) × IsVerdict (meaning_of (policy_of v)) budget v) c.in-Refused.is c.requires.verdict in
    let plays : all_let_play c.in-Refused.answers ≡ true = ap is_playable (sym c.in-Refused.is) ∙ (sym c.is_playable.ensures ∙ c.if-not-is_playable.false) in
    handlers_kept (meaning_of c.in-Refused.policy) told.0 c.in-Refused.answers told.1.answers_are plays

pub new-requires-in-Undecided-clause-kept : goal.new-requires-in-Undecided-clause-kept
new-requires-in-Undecided-clause-kept c =
    let told = subst (λ (v : Verdict). (budget : ℕ) × IsVerdict (meaning_of (policy_of v)) budget v) c.in-Undecided.is c.requires.verdict in
    let plays : all_let_play c.in-Undecided.answers ≡ true = ap is_playable (sym c.in-Undecided.is) ∙ (sym c.is_playable.ensures ∙ c.if-not-is_playable.false) in
    handlers_kept (meaning_of c.in-Undecided.policy) told.0 c.in-Undecided.answers told.1.answers_are plays
