-- The commands: the files that each loads, and the statuses that it may end with.
use Rattle.std.specs.Prelude.{ℕ, List, [], ◌∷◌, ◌++◌, Option, Some, None}
use Rattle.command_words.specs.Command.{Asked, bench, bound, check, crew, draft, emit, explain, make, migrate, play}
use Rattle.command_words.specs.Command.{prove, replay, report, rest, run, simulate, tell_why, verify, waits, waste}
use Rattle.ipanema_cli.specs.declared.texts.TextKind.{TextKind}
use Rattle.ipanema_cli.specs.declared.texts.TextKind.TheVariants as kind

-- a file that a command loads: what its text is, and its name
pub record AskedFile : Type 0 where
  pub which : TextKind
  pub name : List ℕ

abbrev pub file_of : TextKind → List ℕ → AskedFile
file_of which name = record { which = which; name = name }

-- the file of a policy alone
abbrev pub policy_file : List ℕ → List AskedFile
policy_file policy = file_of kind.Policy policy ∷ []

-- those of a policy and its certificates
abbrev pub certified_files : (policy certs : List ℕ) → List AskedFile
certified_files policy certs = file_of kind.Policy policy ∷ file_of kind.Certificates certs ∷ []

-- those of a policy and a trace
abbrev pub trace_files : (policy trace : List ℕ) → List AskedFile
trace_files policy trace = file_of kind.Policy policy ∷ file_of kind.Trace trace ∷ []

-- and those of a policy, a trace and a history
abbrev pub history_files : (policy trace history : List ℕ) → List AskedFile
history_files policy trace history =
    file_of kind.Policy policy ∷ file_of kind.Trace trace ∷ file_of kind.History history ∷ []

-- The files of a command, in the order in which they are loaded.
abbrev pub asked_files : Option Asked → List AskedFile
asked_files None = []
asked_files (Some (check policy)) = policy_file policy
asked_files (Some (explain policy name)) = policy_file policy
asked_files (Some (prove policy)) = policy_file policy
asked_files (Some (emit policy)) = policy_file policy
asked_files (Some (draft policy)) = policy_file policy
asked_files (Some (bound policy)) = policy_file policy
asked_files (Some (rest policy)) = policy_file policy
asked_files (Some (waits policy)) = policy_file policy
asked_files (Some (verify policy certs)) = certified_files policy certs
asked_files (Some (play policy trace)) = trace_files policy trace
asked_files (Some (run policy trace)) = trace_files policy trace
asked_files (Some (crew policy trace workers)) = trace_files policy trace
asked_files (Some (simulate policy trace)) = trace_files policy trace
asked_files (Some (waste policy trace)) = trace_files policy trace
asked_files (Some (replay policy trace history)) = history_files policy trace history
asked_files (Some (report policy trace history)) = history_files policy trace history
asked_files (Some (migrate policy trace history)) = history_files policy trace history
asked_files (Some (tell_why policy trace history)) = history_files policy trace history
asked_files (Some (make seed size)) = []
asked_files (Some (bench seed size)) = []

-- those of answers to a policy alone
abbrev pub policy_statuses : List ℕ
policy_statuses = 0 ∷ 1 ∷ 2 ∷ 3 ∷ []

-- to a policy and a trace
abbrev pub trace_statuses : List ℕ
trace_statuses = 0 ∷ 1 ∷ 2 ∷ 3 ∷ 8 ∷ []

-- and to a policy, a trace and a history
abbrev pub history_statuses : List ℕ
history_statuses = 0 ∷ 1 ∷ 2 ∷ 3 ∷ 9 ∷ []

-- The statuses of a command's own answers.
abbrev pub answer_statuses : Option Asked → List ℕ
answer_statuses None = 7 ∷ []
answer_statuses (Some (check policy)) = policy_statuses
answer_statuses (Some (explain policy name)) = policy_statuses
answer_statuses (Some (prove policy)) = policy_statuses
answer_statuses (Some (emit policy)) = policy_statuses
answer_statuses (Some (draft policy)) = policy_statuses
answer_statuses (Some (bound policy)) = policy_statuses
answer_statuses (Some (rest policy)) = policy_statuses
answer_statuses (Some (waits policy)) = policy_statuses
answer_statuses (Some (verify policy certs)) = 0 ∷ 2 ∷ 11 ∷ []
answer_statuses (Some (play policy trace)) = trace_statuses
answer_statuses (Some (run policy trace)) = trace_statuses
answer_statuses (Some (crew policy trace workers)) = trace_statuses
answer_statuses (Some (simulate policy trace)) = trace_statuses
answer_statuses (Some (waste policy trace)) = trace_statuses
answer_statuses (Some (replay policy trace history)) = history_statuses
answer_statuses (Some (report policy trace history)) = history_statuses
answer_statuses (Some (migrate policy trace history)) = history_statuses
answer_statuses (Some (tell_why policy trace history)) = history_statuses
answer_statuses (Some (make seed size)) = 0 ∷ []
answer_statuses (Some (bench seed size)) = 0 ∷ 3 ∷ []

-- Those with which a command may stop that has these files: where it has none, none is unread and none is too much.
abbrev pub stop_statuses : List AskedFile → List ℕ
stop_statuses [] = 5 ∷ 6 ∷ []
stop_statuses (file ∷ files) = 4 ∷ 5 ∷ 6 ∷ 10 ∷ []

-- The statuses that a command may end with.
abbrev pub statuses_of : Option Asked → List ℕ
statuses_of asked = stop_statuses (asked_files asked) ++ answer_statuses asked
