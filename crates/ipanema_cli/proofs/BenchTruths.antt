-- From how `bench` ends to the truth of what it writes.
use Rattle.std.proofs.Common.{◌≡◌, ◌&&◌, ℕ, Bool, true, false, List, None, Option, Some, refl, arith}
use Rattle.std.specs.Prelude.{nat_le, IsTrue}
use Rattle.std.proofs.lemmas.Bool.Decides.{nat_tests}
use Rattle.sched_base.specs.declared.limits.TheConstants.{MAX_THREADS}
use Rattle.obligations.specs.Counts.{first_crowded}
use Rattle.obligations.specs.Names.{ob_names}
use Rattle.policy_checker.specs.declared.verdict.Verdict.TheVariants as verdict
use Rattle.policy_checker.proofs.Worth.{open_one, unmet}
use Rattle.policy_answers.specs.declared.answer.CheckAnswer.TheVariants as checked
use Rattle.round_laws.proofs.MainTheorem.{main_theorem}
use Rattle.fair_policy.specs.Fair.{fair_meaning}
use Rattle.fair_policy.proofs.FairMeets.{fair_meets}
use Rattle.fair_policy.proofs.FairResolved.{fair_resolved}
use Rattle.bench_play.specs.Bench.{IsSize}
use Rattle.command_words.specs.Numbers.{is_size}
use Rattle.ipanema_cli.specs.BenchTruths.{BenchesTruly}
use Rattle.ipanema_cli.specs.declared.answers.Answer.TheVariants as answer
use Rattle.ipanema_cli.proofs.Stopped.{Stopped, at_4, at_5, at_6}
use Rattle.ipanema_cli.proofs.PolicyFacts.{told_truly}
use Rattle.sched_io.specs.Puts.{joined}
use Rattle.sched_io.specs.Written.{Adds}
use Rattle.policy_tree.specs.declared.typed.Policy.{Policy}
use Rattle.policy_checker.specs.declared.answer.Answered.{Answered}
use Rattle.policy_answers.specs.Lines.{check_lines}
use Rattle.policy_answers.specs.declared.answer.CheckAnswer.{CheckAnswer}
use Rattle.bench_play.specs.Bench.{IsBench}
use Rattle.bench_play.specs.Lines.{bench_lines}
use Rattle.bench_play.specs.declared.playing.BenchTotals.{BenchTotals}
use Rattle.command_words.specs.Command.{Asked, bench}
use Rattle.ipanema_cli.specs.Causes.{OneOf}
use Rattle.ipanema_cli.specs.Commands.{statuses_of}
use Rattle.ipanema_cli.specs.Replies.{IsFairVerdict}
use Rattle.ipanema_cli.specs.Status.{check_status, code_of}
use Rattle.ipanema_cli.specs.Truths.{IsTruthful}
use Rattle.ipanema_cli.proofs.CommandLaw.{CommandLaw, Crowds, Known, Shows, given_either}

-- no obligation of the policy has too many cases
pub few_cases : first_crowded fair_meaning ob_names ≡ None
unfolding ob_names
few_cases = refl

-- a size that words may have is one of a made trace
pub sized : (size : ℕ) → IsTrue (is_size size) → IsSize size
sized size is = by (nat_le 1 size) (nat_le size MAX_THREADS) refl refl is
  where
    by : (a b : Bool) → nat_le 1 size ≡ a → nat_le size MAX_THREADS ≡ b → (a && b) ≡ true → IsSize size
    by true true some few both = record { some = grind (arith, nat_tests); few = grind (arith, nat_tests) }
    by true false some few both = absurd (let bad = both in cc)
    by false b some few both = absurd (let bad = both in cc)

pub stopped_bench : (seed size : ℕ) (before after : Option (List ℕ)) (code : ℕ) → Stopped code → (code ≡ 4 → ⊥) → BenchesTruly seed size before after code
stopped_bench seed size before after code stop read = elim stop [
  | at_4 e ↦ absurd (read e)
  | at_5 e ↦ record {
    ends = rw e refl;
    benches = λ h. absurd (omega (arith, e, h));
    lines = λ h. absurd (omega (arith, e, h));
    decides = λ none. rw e refl;
  }
  | at_6 e ↦ record {
    ends = rw e refl;
    benches = λ h. absurd (omega (arith, e, h));
    lines = λ h. absurd (omega (arith, e, h));
    decides = λ none. rw e refl;
  }
]

-- the policy isn't refused, since it meets its obligations
fair_verdict : (P : CheckAnswer → Type 0) → ((answers : List Answered) (kept : Policy) → IsFairVerdict (checked.Judged (verdict.Undecided answers kept)) → P (checked.Judged (verdict.Undecided answers kept)))
    → (c : CheckAnswer) → IsFairVerdict c → P c
fair_verdict P each (checked.Judged (verdict.Accepted kept)) is = absurd (let bad = is.1 in cc)
fair_verdict P each (checked.Judged (verdict.Refused answers kept)) is = absurd (unmet fair_meaning fair_resolved answers is.0 fair_meets)
fair_verdict P each (checked.Judged (verdict.Undecided answers kept)) is = each answers kept is
fair_verdict P each (checked.Unjudged why) is = absurd is

module _ (seed size : ℕ) (before after : Option (List ℕ)) (code : ℕ) where
  verdict_shows : (c : CheckAnswer) → IsFairVerdict c → code ≡ code_of (check_status c) → Adds (joined (check_lines c)) before after → BenchesTruly seed size before after code
  verdict_shows = fair_verdict (λ c. code ≡ code_of (check_status c) → Adds (joined (check_lines c)) before after → BenchesTruly seed size before after code) (λ answers kept is own added. record {
    ends = rw own refl;
    benches = λ h. absurd (omega (arith, own, h));
    lines = λ h. record {
      verdict = verdict.Undecided answers kept;
      of = is.2;
      reasons = is.0;
      words = told_truly fair_meaning (verdict.Undecided answers kept) fair_resolved is.0;
      written = added;
      status = own;
    };
    decides = λ none. absurd (none (open_one fair_meaning fair_resolved answers is.0));
  })

  bench_shows : (told : BenchTotals) → IsBench seed size told → code ≡ 0 → Adds (joined (bench_lines told)) before after → BenchesTruly seed size before after code
  bench_shows told is own added = record {
    ends = rw own refl;
    benches = λ h. record {
      told = told;
      is = is;
      laws = main_theorem fair_meaning fair_meets is.plan _ is.planned.fits is.whole.legal;
      written = added;
    };
    lines = λ h. absurd (omega (arith, own, h));
    decides = λ none. rw own refl;
  }

pub bench_law : (Passed : ℕ → ℕ → Type 0) (seed size : ℕ) → CommandLaw Passed (Some (bench seed size))
bench_law Passed seed size =
    let asked : Option Asked = Some (bench seed size) in
    record {
      known = λ text a is.
          given_either answer.Checked answer.Benched _ _ (Known asked)
          (fair_verdict (λ c. OneOf (statuses_of asked) (code_of (check_status c))) (λ answers kept is. refl)) (λ told is. refl) a is;
      crowds = λ told text before after a files is.
          given_either answer.Checked answer.Benched _ _ (Crowds asked told before after)
          (fair_verdict (λ c. Crowds asked told before after (answer.Checked c)) (λ answers kept is e added. absurd (omega arith)))
          (λ given is e added. absurd (omega arith)) a is;
      shows = λ told text before after code a files is.
          given_either answer.Checked answer.Benched _ _ (Shows (IsTruthful Passed asked told before after code) before after code)
          (verdict_shows seed size before after code) (bench_shows seed size before after code) a is;
      long = λ told before after code which long own. absurd long;
      stopped = λ told before after code stop file. stopped_bench seed size before after code stop file;
    }
