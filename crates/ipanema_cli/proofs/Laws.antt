-- The law of each command.
use Rattle.std.proofs.Common.{ℕ, Option, Some, None, arith, refl, subst, sym}
use Rattle.command_words.specs.Command.{Asked, bench, bound, check, crew, draft, emit, explain, make, migrate, play, prove, replay, report, rest, run, simulate, tell_why, verify, waits, waste}
use Rattle.ipanema_cli.proofs.BenchTruths.{bench_law}
use Rattle.ipanema_cli.proofs.BoundTruths.{bound_law}
use Rattle.ipanema_cli.proofs.CheckTruths.{check_law}
use Rattle.ipanema_cli.proofs.CommandLaw.{CommandLaw, Crowds, Known}
use Rattle.ipanema_cli.proofs.DraftTruths.{draft_law}
use Rattle.ipanema_cli.proofs.ExplainTruths.{explain_law}
use Rattle.ipanema_cli.proofs.ExportTruths.{emit_law, prove_law}
use Rattle.ipanema_cli.proofs.JudgeTruths.{migrate_law, replay_law, report_law, why_law}
use Rattle.ipanema_cli.proofs.MakeTruths.{make_law}
use Rattle.ipanema_cli.proofs.PlayTruths.{play_law}
use Rattle.ipanema_cli.proofs.RestTruths.{rest_law}
use Rattle.ipanema_cli.proofs.RunTruths.{crew_law, run_law}
use Rattle.ipanema_cli.proofs.SimulationTruths.{simulate_law, waste_law}
use Rattle.ipanema_cli.proofs.VerifyTruths.{verify_law}
use Rattle.ipanema_cli.proofs.WaitTruths.{waits_law}

module _ (Passed : ℕ → ℕ → Type 0) where
  -- words that are no command have one answer
  words_law : CommandLaw Passed None
  words_law = record {
    known = λ text a is. subst (Known None) (sym is) refl;
    crowds = λ told text before after a files is. subst (Crowds None told before after) (sym is) (λ e added. absurd (omega arith));
    shows = λ told text before after code a files is own added. tt;
    long = λ told before after code which long own. absurd long;
    stopped = λ told before after code stop file. tt;
  }

  pub law_of : (asked : Option Asked) → CommandLaw Passed asked
  law_of None = words_law
  law_of (Some (check policy)) = check_law Passed policy
  law_of (Some (explain policy name)) = explain_law Passed policy name
  law_of (Some (prove policy)) = prove_law Passed policy
  law_of (Some (emit policy)) = emit_law Passed policy
  law_of (Some (draft policy)) = draft_law Passed policy
  law_of (Some (bound policy)) = bound_law Passed policy
  law_of (Some (rest policy)) = rest_law Passed policy
  law_of (Some (waits policy)) = waits_law Passed policy
  law_of (Some (verify policy certs)) = verify_law Passed policy certs
  law_of (Some (play policy trace)) = play_law Passed policy trace
  law_of (Some (run policy trace)) = run_law Passed policy trace
  law_of (Some (crew policy trace workers)) = crew_law Passed policy trace workers
  law_of (Some (simulate policy trace)) = simulate_law Passed policy trace
  law_of (Some (waste policy trace)) = waste_law Passed policy trace
  law_of (Some (replay policy trace history)) = replay_law Passed policy trace history
  law_of (Some (report policy trace history)) = report_law Passed policy trace history
  law_of (Some (migrate policy trace history)) = migrate_law Passed policy trace history
  law_of (Some (tell_why policy trace history)) = why_law Passed policy trace history
  law_of (Some (make seed size)) = make_law Passed seed size
  law_of (Some (bench seed size)) = bench_law Passed seed size
