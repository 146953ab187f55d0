-- What plays no cores side by side is asked elsewhere, a size is one that a made trace may have, and workers are as many
-- as a crew may have.
use Rattle.std.proofs.Common.{◌≡◌, ◌∙◌, ℕ, ◌≤◌, Bool, true, false, ◌&&◌, IfOk, Option, ap, arith, refl, subst, sym}
use Rattle.std.specs.Prelude.{nat_le}
use Rattle.std.proofs.lemmas.Bool.Decides.{nat_tests}
use Rattle.sched_base.specs.declared.limits.TheConstants.{MAX_CORES}
use Rattle.command_words.specs.Asks.{asked}
use Rattle.command_words.specs.Command.{Asked, asked_by, words_of}
use Rattle.command_words.specs.Numbers.{is_crew}
use Rattle.command_words.proofs.Sizes.{asked-sized}
use Rattle.trace_run.specs.Runs.{IsGatedRunOf}
use Rattle.ipanema_cli.specs.Commands.{asked_files}
use Rattle.ipanema_cli.specs.Files.{AreRead}
use Rattle.ipanema_cli.specs.Replies.{IsGatedAnswer, Replies}
use Rattle.ipanema_cli.specs.Texts.{text_of}
use Rattle.ipanema_cli.proofs.GatedAnswers.{gated_by, ran_by}
use Rattle.ipanema_cli.proofs.LoadLemmas.{none_loaded}
use Rattle.ipanema_cli.proofs.SerialWords.{serial_request}
use Rattle.ipanema_cli.proofs.top.answer.Goals as goal

pub returns-in_err-request-clause-loads : goal.returns-in_err-request-clause-loads
returns-in_err-request-clause-loads g c = none_loaded _ _ _

pub reply-requires-clause-serial : goal.reply-requires-clause-serial
reply-requires-clause-serial g c = serial_request c.in_ok-request.request c.in_default.not-Run c.in_default.not-Crew c.in_ok-request.request refl

pub reply-requires-clause-made : goal.reply-requires-clause-made
reply-requires-clause-made g c seed size is = (asked-sized (words_of c.args.words.now)).made seed size (sym c.in_ok-request.ensures.asks ∙ is)

pub reply-requires-clause-benched : goal.reply-requires-clause-benched
reply-requires-clause-benched g c seed size is = (asked-sized (words_of c.args.words.now)).benched seed size (sym c.in_ok-request.ensures.asks ∙ is)

-- as many workers as a crew may have are as many as players may be
workers_of : (n : ℕ) → is_crew n ≡ true → (1 ≤ n) × (n ≤ MAX_CORES)
workers_of n is = by (nat_le 1 n) (nat_le n MAX_CORES) refl refl is
  where
    by : (a b : Bool) → nat_le 1 n ≡ a → nat_le n MAX_CORES ≡ b → (a && b) ≡ true → (1 ≤ n) × (n ≤ MAX_CORES)
    by true true some few both = (grind (arith, nat_tests), grind (arith, nat_tests))
    by true false some few both = absurd (let bad = both in cc)
    by false b some few both = absurd (let bad = both in cc)

pub run_texts-requires-in-Crew-clause-players : goal.run_texts-requires-in-Crew-clause-players
run_texts-requires-in-Crew-clause-players g c _ _ =
    workers_of c.in-Crew.workers ((asked-sized (words_of c.args.words.now)).crewed _ _ c.in-Crew.workers (sym c.in_ok-request.ensures.asks ∙ ap asked c.in-Crew.is))

pub returns-in-Run-clause-answer : goal.returns-in-Run-clause-answer
returns-in-Run-clause-answer g c =
    let Passed = g.G.Gate.passed c.args.gate.now in
    let text = text_of c.in_ok-texts.texts in
    let told = g.F.Files.told c.args.files.now in
    let asks = c.in_ok-request.ensures.asks in
    ran_by Passed (asked_by (words_of c.args.words.now)) told text _ _ c.run_texts.result (subst (λ (it : Option Asked). AreRead told text (asked_files it)) asks c.in_ok-texts.ensures.texts)
    (λ a is. subst (λ (it : Option Asked). Replies (IsGatedRunOf Passed) it text a) (sym (ap asked c.in-Run.is) ∙ asks) is)
    c.as_slice-policy.ensures.value c.as_slice-trace.ensures.value c.run_texts.ensures.answer

pub returns-in-Crew-clause-answer : goal.returns-in-Crew-clause-answer
returns-in-Crew-clause-answer g c =
    let Passed = g.G.Gate.passed c.args.gate.now in
    let text = text_of c.in_ok-texts.texts in
    let told = g.F.Files.told c.args.files.now in
    let asks = c.in_ok-request.ensures.asks in
    ran_by Passed (asked_by (words_of c.args.words.now)) told text _ _ c.run_texts-in-Crew.result (subst (λ (it : Option Asked). AreRead told text (asked_files it)) asks c.in_ok-texts.ensures.texts)
    (λ a is. subst (λ (it : Option Asked). Replies (IsGatedRunOf Passed) it text a) (sym (ap asked c.in-Crew.is) ∙ asks) is)
    c.as_slice-policy.ensures.value c.as_slice-trace.ensures.value c.run_texts-in-Crew.ensures.answer

pub returns-clause-answer : goal.returns-clause-answer
returns-clause-answer g c =
    subst (λ (it : Option Asked). IfOk c.reply.result (IsGatedAnswer (g.G.Gate.passed c.args.gate.now) it (g.F.Files.told c.args.files.now))) c.in_ok-request.ensures.asks
    (gated_by (g.G.Gate.passed c.args.gate.now) _ _ (text_of c.in_ok-texts.texts) c.reply.result
    (serial_request c.in_ok-request.request c.in_default.not-Run c.in_default.not-Crew c.in_ok-request.request refl) c.in_ok-texts.ensures.texts c.reply.ensures.answer)
