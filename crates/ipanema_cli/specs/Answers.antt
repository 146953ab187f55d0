-- What a command may answer: its lines, its status, and whether it can be written.
use Rattle.std.specs.Prelude.{ℕ, List, [], ◌∷◌, codes}
use Rattle.policy_answers.specs.Bounds.{bound_lines}
use Rattle.policy_answers.specs.Rests.{rest_lines}
use Rattle.policy_answers.specs.Lines.{check_lines, explain_lines}
use Rattle.policy_answers.specs.TextLines.{lines_in}
use Rattle.policy_answers.specs.Verifying.{verify_line}
use Rattle.wait_answers.specs.Waits.{wait_lines}
use Rattle.sched_io.specs.Puts.{joined}
use Rattle.trace_play.specs.declared.answer.PlayAnswer.{PlayAnswer}
use Rattle.trace_play.specs.declared.answer.PlayAnswer.TheVariants as play_answer
use Rattle.trace_play.specs.declared.cores.PlayedCores.TheVariants as cores
use Rattle.trace_play.specs.Plays as plays
use Rattle.trace_simulation.specs.Lines as simulations
use Rattle.trace_simulation.specs.Simulations.{IsShown}
use Rattle.history_replay.specs.Lines as histories
use Rattle.bench_play.specs.Lines.{bench_lines}
use Rattle.ipanema_cli.specs.Status.{bound_status, check_status, explain_status, history_status, rest_status, simulation_status}
use Rattle.ipanema_cli.specs.Status.{verify_status, wait_status}
use Rattle.ipanema_cli.specs.Texts.{too_long_line}
use Rattle.ipanema_cli.specs.declared.answers.Answer.{Answer}
use Rattle.ipanema_cli.specs.declared.answers.Answer.TheVariants as answer
use Rattle.ipanema_cli.specs.declared.status.Status.{Status}
use Rattle.ipanema_cli.specs.declared.status.Status.TheVariants as status

-- the lines of an answer
abbrev pub lines_of : Answer → List (List ℕ)
lines_of (answer.Checked c) = check_lines c
lines_of (answer.Explained e) = explain_lines e
lines_of (answer.Bounded b) = bound_lines b
lines_of (answer.Rested b) = rest_lines b
lines_of (answer.Waited w) = wait_lines w
lines_of (answer.Exported text) = lines_in text.items
lines_of (answer.Verified v) = verify_line v ∷ []
lines_of (answer.Played outcome) = plays.lines_of outcome
lines_of (answer.Simulated outcome) = simulations.lines_of outcome
lines_of (answer.Judged outcome) = histories.lines_of outcome
lines_of (answer.Made text) = text.items ∷ []
lines_of (answer.Benched told) = bench_lines told
lines_of (answer.TooLong which) = too_long_line which ∷ []
lines_of answer.BadWords = codes "bad words\n" ∷ []

-- the bytes of an answer
abbrev pub output_of : Answer → List ℕ
output_of a = joined (lines_of a)

-- the status of a trace that was read, and played if it could be
abbrev pub play_status : PlayAnswer → Status
play_status (play_answer.Broken fault) = status.BadText
play_status (play_answer.Played (cores.Whole closed)) = status.Done
play_status (play_answer.Played (cores.Full closed)) = status.HistoryFull

-- the status of an answer
abbrev pub status_of : Answer → Status
status_of (answer.Checked c) = check_status c
status_of (answer.Explained e) = explain_status e
status_of (answer.Bounded b) = bound_status b
status_of (answer.Rested b) = rest_status b
status_of (answer.Waited w) = wait_status w
status_of (answer.Exported text) = status.Done
status_of (answer.Verified v) = verify_status v
status_of (answer.Played outcome) = play_status outcome
status_of (answer.Simulated outcome) = simulation_status outcome
status_of (answer.Judged outcome) = history_status outcome
status_of (answer.Made text) = status.Done
status_of (answer.Benched told) = status.Done
status_of (answer.TooLong which) = status.TooMuch
status_of answer.BadWords = status.BadWords

-- the answer can be written: the numbers of a history are in the ranges of its text
abbrev pub CanBePut : Answer → Type 0
CanBePut (answer.Checked c) = Unit {0}
CanBePut (answer.Explained e) = Unit {0}
CanBePut (answer.Bounded b) = Unit {0}
CanBePut (answer.Rested b) = Unit {0}
CanBePut (answer.Waited w) = Unit {0}
CanBePut (answer.Exported text) = Unit {0}
CanBePut (answer.Verified v) = Unit {0}
CanBePut (answer.Played outcome) = plays.IsShown outcome
CanBePut (answer.Simulated outcome) = IsShown outcome
CanBePut (answer.Judged outcome) = histories.IsShown outcome
CanBePut (answer.Made text) = Unit {0}
CanBePut (answer.Benched told) = Unit {0}
CanBePut (answer.TooLong which) = Unit {0}
CanBePut answer.BadWords = Unit {0}
