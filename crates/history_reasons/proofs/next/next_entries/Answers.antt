-- The next round comes behind the cores' entries, where it is due.
use Rattle.std.proofs.Common.{ap, sym, subst, ◌∙◌, ◌+◌}
use Rattle.std.proofs.lemmas.Bool.{false≢true}
use Rattle.policy_tree.specs.Meaning.{meaning_of}
use Rattle.round_model.specs.Legal.{LegalNext}
use Rattle.history_reasons.specs.Next.{AreNext}
use Rattle.history_reasons.proofs.NextEntries.{round_more, round_none}
use Rattle.history_reasons.proofs.next.next_entries.Goals as goal
use Rattle.history_reasons.proofs.next.next_entries.Goals.{then-is_complete+then-round_due+in_ok-push, else-is_complete, else-is_complete-via-then-is_complete+else-round_due, else-is_complete-via-else-is_complete}

pub returns : goal.returns
unfolding LegalNext
returns c history stands =
    let p = meaning_of c.args.policy.now in let plan = c.args.plan.now in let list = c.add_turns.new.next in
    let turns = c.in_ok-add_turns.ensures.turns history stands in
    let complete = c.is_complete.ensures p plan history stands in
    elim c.if-is_complete.branch [
      | then-is_complete+then-round_due+in_ok-push w ↦
          let next = ap (λ n. n + 1) (w.rounds.ensures p plan history stands) in
          subst (AreNext p plan history) (sym (w.next-is ∙ w.in_ok-push.ensures.ok))
          (round_more p plan history list turns (w.rounds.result + 1) next
          (record { complete = sym complete ∙ w.if-is_complete.true; due = sym (w.round_due.ensures p history stands) ∙ w.if-round_due.true; next = next }))
      | else-is_complete w ↦
          subst (AreNext p plan history) (sym w.next-is)
          (round_none p plan history list turns
          (λ whole due. elim w.else-is_complete.branch [
            | else-is_complete-via-then-is_complete+else-round_due x ↦ absurd (false≢true (sym (sym (x.round_due.ensures p history stands) ∙ x.if-round_due.false) ∙ due))
            | else-is_complete-via-else-is_complete x ↦ absurd (false≢true (sym (sym complete ∙ x.if-is_complete.false) ∙ whole))
          ]))
    ]
