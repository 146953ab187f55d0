-- What each command says is true.
use Rattle.std.specs.Prelude.{ℕ, List, Option, Some, None}
use Rattle.sched_io.specs.Told.{Told}
use Rattle.command_words.specs.Command.{Asked, bench, bound, check, crew, draft, emit, explain, make, migrate, play}
use Rattle.command_words.specs.Command.{prove, replay, report, rest, run, simulate, tell_why, verify, waits, waste}
use Rattle.ipanema_cli.specs.BoundTruths.{BoundsTruly}
use Rattle.ipanema_cli.specs.CheckTruths.{ChecksTruly}
use Rattle.ipanema_cli.specs.DraftTruths.{DraftsTruly}
use Rattle.ipanema_cli.specs.ExplainTruths.{ExplainsTruly}
use Rattle.ipanema_cli.specs.ExportTruths.{EmitsTruly, ProvesTruly}
use Rattle.ipanema_cli.specs.RestTruths.{RestsTruly}
use Rattle.ipanema_cli.specs.SimulationTruths.{SaysHistory, SaysWaste, SimulatesTruly}
use Rattle.ipanema_cli.specs.TraceTruths.{PlaysTruly, RunsTruly}
use Rattle.ipanema_cli.specs.VerifyTruths.{VerifiesTruly}
use Rattle.ipanema_cli.specs.WaitTruths.{WaitsTruly}
use Rattle.ipanema_cli.specs.JudgeTruths.{JudgesTruly, SaysMigrated, SaysReport, SaysWhole, SaysWhy}
use Rattle.ipanema_cli.specs.MakeTruths.{MakesTruly}
use Rattle.ipanema_cli.specs.BenchTruths.{BenchesTruly}

-- nobody passed the gate
abbrev pub NonePassed : ℕ → ℕ → Type 0
NonePassed core round = ⊥

-- What is said is true.
abbrev pub IsTruthful : (Passed : ℕ → ℕ → Type 0) → Option Asked → (List ℕ → Told) → Option (List ℕ) →
    Option (List ℕ) → ℕ → Type 0
IsTruthful Passed None told before after code = Unit {0}
IsTruthful Passed (Some (check policy)) told before after code = ChecksTruly (told policy) before after code
IsTruthful Passed (Some (explain policy name)) told before after code =
    ExplainsTruly (told policy) name before after code
IsTruthful Passed (Some (prove policy)) told before after code = ProvesTruly (told policy) before after code
IsTruthful Passed (Some (emit policy)) told before after code = EmitsTruly (told policy) before after code
IsTruthful Passed (Some (draft policy)) told before after code = DraftsTruly (told policy) before after code
IsTruthful Passed (Some (bound policy)) told before after code = BoundsTruly (told policy) before after code
IsTruthful Passed (Some (rest policy)) told before after code = RestsTruly (told policy) before after code
IsTruthful Passed (Some (waits policy)) told before after code = WaitsTruly (told policy) before after code
IsTruthful Passed (Some (verify policy certs)) told before after code =
    VerifiesTruly (told policy) (told certs) before after code
IsTruthful Passed (Some (play policy trace)) told before after code =
    PlaysTruly (told policy) (told trace) before after code
IsTruthful Passed (Some (run policy trace)) told before after code =
    RunsTruly Passed (told policy) (told trace) before after code
IsTruthful Passed (Some (crew policy trace workers)) told before after code =
    RunsTruly Passed (told policy) (told trace) before after code
IsTruthful Passed (Some (simulate policy trace)) told before after code =
    SimulatesTruly SaysHistory (told policy) (told trace) before after code
IsTruthful Passed (Some (waste policy trace)) told before after code =
    SimulatesTruly SaysWaste (told policy) (told trace) before after code
IsTruthful Passed (Some (replay policy trace history)) told before after code =
    JudgesTruly SaysWhole (told policy) (told trace) (told history) before after code
IsTruthful Passed (Some (report policy trace history)) told before after code =
    JudgesTruly SaysReport (told policy) (told trace) (told history) before after code
IsTruthful Passed (Some (migrate policy trace history)) told before after code =
    JudgesTruly SaysMigrated (told policy) (told trace) (told history) before after code
IsTruthful Passed (Some (tell_why policy trace history)) told before after code =
    JudgesTruly SaysWhy (told policy) (told trace) (told history) before after code
IsTruthful Passed (Some (make seed size)) told before after code = MakesTruly seed size before after code
IsTruthful Passed (Some (bench seed size)) told before after code = BenchesTruly seed size before after code
