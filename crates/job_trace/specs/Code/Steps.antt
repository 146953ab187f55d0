-- What reading does, one line after the other. The public contracts speak of it nowhere.
use Rattle.std.specs.Prelude.{ℕ, ℤ, pos, ◌+◌, ◌-◌, ◌^◌, ◌==◌, Bool, true, false, List, [], ◌∷◌, ◌++◌, length, Option}
use Rattle.std.specs.Prelude.{Some, None, option_and_then, option_map, Result, Ok, Err, codes, nat_lt, if◌then◌else◌}
use Rattle.std.specs.Str.{bytes_eq}
use Rattle.round_model.specs.declared.plan.Burst.{Burst}
use Rattle.round_model.specs.declared.plan.Ending.TheVariants as ending
use Rattle.text_forms.specs.Numbers.{number_in}
use Rattle.job_trace.specs.declared.fault.TraceFault.{TraceFault}
use Rattle.job_trace.specs.declared.fault.TraceFault.TheVariants.{BadLine, Limit, Twice}
use Rattle.job_trace.specs.declared.form.LineKind.{LineKind}
use Rattle.job_trace.specs.declared.form.LineKind.TheVariants as kind
use Rattle.job_trace.specs.declared.trace.NamedConst.{NamedConst}
use Rattle.job_trace.specs.declared.trace.TraceLine.{TraceLine}
use Rattle.job_trace.specs.declared.trace.TraceLine.TheVariants.{Cores, Rounds, Entries, Core, Thread, Order}
use Rattle.job_trace.specs.declared.trace.Numbered.{Numbered}
use Rattle.job_trace.specs.Words.{words, is_name, is_skipped}
use Rattle.job_trace.specs.Forms.{burst, negative}
use Rattle.job_trace.specs.Rules.{cores_of, first_passed, is_given, may_stand, measures}
use Rattle.job_trace.specs.TraceText.{numbered}

-- the greatest number that is kept while a line is read. It passes every range, so that what is more may count as it.
abbrev pub greatest_kept : ℕ
greatest_kept = 2 ^ 31 - 1

abbrev pub kept : ℕ → ℕ
kept number = if nat_lt greatest_kept number then greatest_kept else number

-- the number that the word spells, as it is kept
unfoldable pub kept_in : List ℕ → Option ℕ
kept_in word = option_map kept (number_in word)

-- the same, where a sign may stand
unfoldable pub kept_signed_in : List ℕ → Option ℤ
kept_signed_in [] = None
kept_signed_in (first ∷ rest) =
    if first == 45 then option_map negative (kept_in rest) else option_map pos (kept_in (first ∷ rest))

-- the words behind the first one, where that is this word
unfoldable pub behind : List ℕ → List (List ℕ) → Option (List (List ℕ))
behind word [] = None
behind word (first ∷ rest) = if bytes_eq first word then Some rest else None

-- a number, and the words behind it
abbrev pub Found : Type 0
Found = ℕ × List (List ℕ)

abbrev pub with_rest : List (List ℕ) → Option ℕ → Option Found
with_rest rest None = None
with_rest rest (Some number) = Some (number, rest)

unfoldable pub number_first : List (List ℕ) → Option Found
number_first [] = None
number_first (first ∷ rest) = with_rest rest (kept_in first)

-- the number that stands behind this word, and the words behind it
unfoldable pub number_behind : List ℕ → List (List ℕ) → Option Found
number_behind word line = option_and_then number_first (behind word line)

-- the number that the words are, where they are one
unfoldable pub number_alone : List (List ℕ) → Option ℕ
number_alone [] = None
number_alone (first ∷ []) = kept_in first
number_alone (first ∷ second ∷ rest) = None

abbrev pub has_word : List (List ℕ) → Bool
has_word [] = false
has_word (first ∷ rest) = true

-- an item in front of a list, where there are both
abbrev pub joined : {X : Type 0} → Option X → Option (List X) → Option (List X)
joined None rest = None
joined (Some x) None = None
joined (Some x) (Some rest) = Some (x ∷ rest)

-- items in front of a list, where there is one
abbrev pub extended : {X : Type 0} → List X → Option (List X) → Option (List X)
extended items None = None
extended items (Some rest) = Some (items ++ rest)

-- the numbers that the words are
unfoldable pub numbers_in : List (List ℕ) → Option (List ℕ)
numbers_in [] = Some []
numbers_in (first ∷ rest) = joined (kept_in first) (numbers_in rest)

abbrev pub named : List ℕ → ℤ → NamedConst
named name value = record { name = name; value = value }

-- the constant of that name, where the one word may be a name and the other spells a number
abbrev pub const_of : List ℕ → List ℕ → Option NamedConst
const_of name value = if is_name name then option_map (named name) (kept_signed_in value) else None

-- a constant, and the words behind it
abbrev pub FoundConst : Type 0
FoundConst = NamedConst × List (List ℕ)

abbrev pub const_with_rest : List (List ℕ) → Option NamedConst → Option FoundConst
const_with_rest rest None = None
const_with_rest rest (Some given) = Some (given, rest)

unfoldable pub const_first : List (List ℕ) → Option FoundConst
const_first [] = None
const_first (name ∷ []) = None
const_first (name ∷ value ∷ rest) = const_with_rest rest (const_of name value)

-- the constants that the words are
unfoldable pub consts_in : List (List ℕ) → Option (List NamedConst)
consts_in [] = Some []
consts_in (name ∷ []) = None
consts_in (name ∷ value ∷ rest) = joined (const_of name value) (consts_in rest)

-- a burst, and the words behind it
abbrev pub FoundBurst : Type 0
FoundBurst = Burst × List (List ℕ)

abbrev pub burst_with_rest : List (List ℕ) → Option Burst → Option FoundBurst
burst_with_rest rest None = None
burst_with_rest rest (Some b) = Some (b, rest)

abbrev pub yields : ℕ → Burst
yields units = burst units ending.Yield

abbrev pub blocks : ℕ → ℕ → Burst
blocks units rounds = burst units (ending.Block rounds)

abbrev pub ends : ℕ → Burst
ends units = burst units ending.End

abbrev pub endless : Burst
endless = burst 1 ending.Forever

abbrev pub blocked : ℕ → Option Found → Option FoundBurst
blocked units None = None
blocked units (Some (rounds, rest)) = Some (blocks units rounds, rest)

-- the burst of so many units that the words behind them end, if another burst must follow
unfoldable pub middle_of : ℕ → List (List ℕ) → Option FoundBurst
middle_of units [] = None
middle_of units (word ∷ rest) =
    if bytes_eq word (codes "yield") then Some (yields units, rest)
    else if bytes_eq word (codes "block") then blocked units (number_first rest)
    else None

-- the burst with which the words begin, if another must follow, and the words behind it
unfoldable pub middle_first : List (List ℕ) → Option FoundBurst
middle_first line = option_and_then (λ (n : Found). middle_of n.0 n.1) (number_behind (codes "run") line)

abbrev pub over : List (List ℕ) → Option Burst
over [] = Some endless
over (first ∷ rest) = None

abbrev pub unless_over : Option (List (List ℕ)) → Option Burst → Option Burst
unless_over None b = b
unless_over (Some rest) b = over rest

-- the burst that the words are, if none may follow it
unfoldable pub last_in : List (List ℕ) → Option Burst
last_in line =
    unless_over (behind (codes "forever") line)
    (option_map ends (option_and_then number_alone (behind (codes "run") line)))

-- the burst of that many units which blocks for so many rounds
abbrev pub block_of : Option ℕ → Option ℕ → Option Burst
block_of None rounds = None
block_of (Some units) rounds = option_map (blocks units) rounds

-- the program that the words are
unfoldable pub program_in : List (List ℕ) → Option (List Burst)
program_in [] = None
program_in (first ∷ []) = joined (last_in (first ∷ [])) (Some [])
program_in (first ∷ n ∷ []) = joined (last_in (first ∷ n ∷ [])) (Some [])
program_in (run ∷ n ∷ end ∷ []) = None
program_in (run ∷ n ∷ end ∷ k ∷ rest) =
    if bytes_eq run (codes "run") then
    (if bytes_eq end (codes "yield") then joined (option_map yields (kept_in n)) (program_in (k ∷ rest))
    else if bytes_eq end (codes "block") then joined (block_of (kept_in n) (kept_in k)) (program_in rest)
    else None)
    else None

-- the weight with which the words begin, 1 where they don't, and the words behind it
unfoldable pub weight_first : List (List ℕ) → Option Found
weight_first [] = Some (1, [])
weight_first (first ∷ rest) =
    if bytes_eq first (codes "weight") then number_first rest else Some (1, first ∷ rest)

abbrev pub thread_with : ℕ → ℕ → ℕ → ℕ → List Burst → TraceLine
thread_with id core round weight bursts =
    Thread (record { id = id; core = core; round = round; weight = weight; bursts = bursts })

abbrev pub with_weight : ℕ → ℕ → ℕ → Found → Option TraceLine
with_weight id core round w = option_map (thread_with id core round w.0) (program_in w.1)

-- the thread with the weight and the program that the words are
unfoldable pub weighed_in : ℕ → ℕ → ℕ → List (List ℕ) → Option TraceLine
weighed_in id core round line = option_and_then (with_weight id core round) (weight_first line)

abbrev pub with_round : ℕ → ℕ → Found → Option TraceLine
with_round id core r = weighed_in id core r.0 r.1

abbrev pub with_core : ℕ → Found → Option TraceLine
with_core id c = option_and_then (with_round id c.0) (number_behind (codes "round") c.1)

abbrev pub with_id : Found → Option TraceLine
with_id t = option_and_then (with_core t.0) (number_behind (codes "core") t.1)

-- the thread that the words are, but for its first word
unfoldable pub thread_in : List (List ℕ) → Option TraceLine
thread_in line = option_and_then with_id (number_first line)

-- the items, where there is one at least
abbrev pub some_of : {X : Type 0} → List (List ℕ) → Option (List X) → Option (List X)
some_of [] items = None
some_of (first ∷ rest) items = items

abbrev pub order_with : ℕ → List ℕ → TraceLine
order_with round cores = Order (record { round = round; cores = cores })

abbrev pub with_order : Found → Option TraceLine
with_order r = option_map (order_with r.0) (some_of r.1 (numbers_in r.1))

unfoldable pub order_in : List (List ℕ) → Option TraceLine
order_in line = option_and_then with_order (number_first line)

abbrev pub core_with : ℕ → List NamedConst → TraceLine
core_with core consts = Core (record { core = core; consts = consts })

abbrev pub with_consts : Found → Option TraceLine
with_consts c = option_map (core_with c.0) (some_of c.1 (consts_in c.1))

unfoldable pub core_in : List (List ℕ) → Option TraceLine
core_in line = option_and_then with_consts (number_first line)

-- the kind of line that begins with the word
unfoldable pub kind_of : List ℕ → Option LineKind
kind_of word =
    if bytes_eq word (codes "cores") then Some kind.Cores
    else if bytes_eq word (codes "rounds") then Some kind.Rounds
    else if bytes_eq word (codes "entries") then Some kind.Entries
    else if bytes_eq word (codes "core") then Some kind.Core
    else if bytes_eq word (codes "thread") then Some kind.Thread
    else if bytes_eq word (codes "order") then Some kind.Order
    else None

-- the line of that kind that the words behind the first one are
unfoldable pub line_in : LineKind → List (List ℕ) → Option TraceLine
line_in kind.Cores rest = option_map Cores (number_alone rest)
line_in kind.Rounds rest = option_map Rounds (number_alone rest)
line_in kind.Entries rest = option_map Entries (number_alone rest)
line_in kind.Core rest = core_in rest
line_in kind.Thread rest = thread_in rest
line_in kind.Order rest = order_in rest

abbrev pub by_kind : List (List ℕ) → Option LineKind → Option TraceLine
by_kind rest None = None
by_kind rest (Some k) = line_in k rest

-- the line that the words are, each number as it is kept
unfoldable pub form_of : List (List ℕ) → Option TraceLine
form_of [] = None
form_of (first ∷ rest) = by_kind rest (kind_of first)

-- the line, where no number passes its range
abbrev pub ranged_line : ℕ → TraceLine → Option ℤ → Result TraceLine TraceFault
ranged_line number line None = Ok line
ranged_line number line (Some end) = Err (Limit number end)

abbrev pub measured : ℕ → ℕ → TraceLine → Result TraceLine TraceFault
measured number cores line = ranged_line number line (first_passed (measures cores line))

-- the line, where it gives nothing that was given before
abbrev pub once : List Numbered → ℕ → Result TraceLine TraceFault → Result TraceLine TraceFault
once front number (Err fault) = Err fault
once front number (Ok line) = if is_given front line then Err (Twice number) else Ok line

abbrev pub formed : List Numbered → ℕ → Option TraceLine → Result TraceLine TraceFault
formed front number None = Err (BadLine number)
formed front number (Some line) =
    if may_stand front line then once front number (measured number (cores_of front) line) else Err (BadLine number)

-- what the words of a line are behind that front of a trace
unfoldable pub judged : List Numbered → ℕ → List (List ℕ) → Result TraceLine TraceFault
judged front number line = formed front number (form_of line)

abbrev pub on_ok : {X Y : Type 0} → Result X TraceFault → (X → Result Y TraceFault) → Result Y TraceFault
on_ok (Ok x) then_ = then_ x
on_ok (Err fault) then_ = Err fault

-- the front of a trace with what the words of a line add to it
unfoldable pub added : List Numbered → ℕ → List (List ℕ) → Result (List Numbered) TraceFault
added front number line =
    if is_skipped line then Ok front
    else on_ok (judged front number line) (λ form. Ok (front ++ numbered number form ∷ []))

-- the trace of lines that follow that front of a trace, the first of which has that number
unfoldable pub scan : List Numbered → ℕ → List (List ℕ) → Result (List Numbered) TraceFault
scan front number [] = if nat_lt (length front) 2 then Err (BadLine number) else Ok front
scan front number (line ∷ rest) = on_ok (added front number (words line)) (λ next. scan next (number + 1) rest)
