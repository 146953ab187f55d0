-- What the words of a call ask for.
use Rattle.std.specs.Prelude.{ℕ, List, [], ◌∷◌, Bool, false, not, Option, Some, None, codes, eqb, if◌then◌else◌, String}
use Rattle.std.specs.Prelude.{map, option_and_then, option_map, string_bytes}
use Rattle.std.specs.List.{find, list_all}
use Rattle.std.specs.Str.{bytes_eq}
use Rattle.obligations.specs.declared.names.ObName.{ObName}
use Rattle.obligations.specs.Names.{ob_names, ob_text}
use Rattle.command_words.specs.Numbers.{seed_in, size_in, workers_in}

-- a command with its words
pub data Asked : Type 0 where
  -- to check the policy in this file
  check : (policy : List ℕ) → Asked
  -- to explain the obligation of that name of the policy in this file
  explain : (policy : List ℕ) (name : ObName) → Asked
  -- to write the certificates of the policy in this file
  prove : (policy : List ℕ) → Asked
  -- to tell what bounds the bad rounds of a still stretch under the policy in this file
  bound : (policy : List ℕ) → Asked
  -- to tell how far the loads of cores may differ of which none can steal from another, under the policy in this file
  rest : (policy : List ℕ) → Asked
  -- to tell how long threads wait under the policy in this file
  waits : (policy : List ℕ) → Asked
  -- to write the rules of the policy in this file as a header in C
  emit : (policy : List ℕ) → Asked
  -- to write them too where only its handlers need be right, as a draft where it isn't accepted
  draft : (policy : List ℕ) → Asked
  -- to verify by the certificates in the second file that the policy in the first meets its obligations
  verify : (policy certs : List ℕ) → Asked
  -- to play the trace in one file under the policy in the other
  play : (policy trace : List ℕ) → Asked
  -- to play it by all cores side by side
  run : (policy trace : List ℕ) → Asked
  -- to play it by a crew of so many workers
  crew : (policy trace : List ℕ) (workers : ℕ) → Asked
  -- to play it serially under a policy of which only the handlers need be right
  simulate : (policy trace : List ℕ) → Asked
  -- to report what that history wasted
  waste : (policy trace : List ℕ) → Asked
  -- to judge the history in the third file by the policy and the trace in the others
  replay : (policy trace history : List ℕ) → Asked
  -- to report of the history in the third file under the policy and the trace in the others
  report : (policy trace history : List ℕ) → Asked
  -- to write the history in the third file in the second format, under the policy and the trace in the others
  migrate : (policy trace history : List ℕ) → Asked
  -- to say why the history in the third file isn't whole, under the policy and the trace in the others
  tell_why : (policy trace history : List ℕ) → Asked
  -- to make the trace of so many threads that the seed determines
  make : (seed size : ℕ) → Asked
  -- to play that trace under the policy `fair`, and to tell what its history comes to
  bench : (seed size : ℕ) → Asked

-- a word of a command: not empty, and no option
abbrev pub is_plain : List ℕ → Bool
is_plain [] = false
is_plain (byte ∷ bytes) = not (eqb byte 45)

-- the obligation that a word names
abbrev pub name_of : List ℕ → Option ObName
name_of word = find (λ name. bytes_eq (ob_text name) word) ob_names

-- the command on the trace of a seed and a size that these two words are
abbrev pub sized_by : (ℕ → ℕ → Asked) → List ℕ → List ℕ → Option Asked
sized_by asks seed size = option_and_then (λ s. option_map (asks s) (size_in size)) (seed_in seed)

-- the trace that they ask to make
abbrev pub made_by : List ℕ → List ℕ → Option Asked
made_by seed size = sized_by make seed size

-- and the one that they ask to play
abbrev pub benched_by : List ℕ → List ℕ → Option Asked
benched_by seed size = sized_by bench seed size

-- the crew that plays this trace under this policy, of so many workers as the third word is
abbrev pub crewed_by : List ℕ → List ℕ → List ℕ → Option Asked
crewed_by policy trace workers = option_map (crew policy trace) (workers_in workers)

-- the commands of a verb and one word behind it
abbrev pub asked_by_one : List ℕ → List ℕ → Option Asked
asked_by_one verb policy =
    if bytes_eq (codes "check") verb then Some (check policy)
    else if bytes_eq (codes "prove") verb then Some (prove policy)
    else if bytes_eq (codes "bound") verb then Some (bound policy)
    else if bytes_eq (codes "rest") verb then Some (rest policy)
    else if bytes_eq (codes "waits") verb then Some (waits policy)
    else if bytes_eq (codes "emit") verb then Some (emit policy)
    else if bytes_eq (codes "draft") verb then Some (draft policy)
    else None

-- those of a verb and two words
abbrev pub asked_by_two : List ℕ → List ℕ → List ℕ → Option Asked
asked_by_two verb first second =
    if bytes_eq (codes "explain") verb then option_map (explain first) (name_of second)
    else if bytes_eq (codes "verify") verb then Some (verify first second)
    else if bytes_eq (codes "play") verb then Some (play first second)
    else if bytes_eq (codes "run") verb then Some (run first second)
    else if bytes_eq (codes "simulate") verb then Some (simulate first second)
    else if bytes_eq (codes "waste") verb then Some (waste first second)
    else if bytes_eq (codes "make") verb then made_by first second
    else if bytes_eq (codes "bench") verb then benched_by first second
    else None

-- and those of a verb and three
abbrev pub asked_by_three : List ℕ → List ℕ → List ℕ → List ℕ → Option Asked
asked_by_three verb policy trace third =
    if bytes_eq (codes "crew") verb then crewed_by policy trace third
    else if bytes_eq (codes "replay") verb then Some (replay policy trace third)
    else if bytes_eq (codes "report") verb then Some (report policy trace third)
    else if bytes_eq (codes "migrate") verb then Some (migrate policy trace third)
    else if bytes_eq (codes "why") verb then Some (tell_why policy trace third)
    else None

-- the command that plain words are
abbrev pub asked_plainly : List (List ℕ) → Option Asked
asked_plainly [] = None
asked_plainly (verb ∷ []) = None
asked_plainly (verb ∷ first ∷ []) = asked_by_one verb first
asked_plainly (verb ∷ first ∷ second ∷ []) = asked_by_two verb first second
asked_plainly (verb ∷ first ∷ second ∷ third ∷ []) = asked_by_three verb first second third
asked_plainly (verb ∷ first ∷ second ∷ third ∷ more ∷ words) = None

-- the command that the words are, each of which has to be plain
abbrev pub asked_by : List (List ℕ) → Option Asked
asked_by words = if list_all is_plain words then asked_plainly words else None

-- the bytes of each word
abbrev pub words_of : {A : Type 0} → List (String A) → List (List ℕ)
words_of words = map string_bytes words

-- what is asked plays no cores side by side
abbrev pub IsSerial : Option Asked → Type 0
IsSerial None = Unit {0}
IsSerial (Some (check policy)) = Unit {0}
IsSerial (Some (explain policy name)) = Unit {0}
IsSerial (Some (prove policy)) = Unit {0}
IsSerial (Some (bound policy)) = Unit {0}
IsSerial (Some (rest policy)) = Unit {0}
IsSerial (Some (waits policy)) = Unit {0}
IsSerial (Some (emit policy)) = Unit {0}
IsSerial (Some (draft policy)) = Unit {0}
IsSerial (Some (verify policy certs)) = Unit {0}
IsSerial (Some (play policy trace)) = Unit {0}
IsSerial (Some (run policy trace)) = ⊥
IsSerial (Some (crew policy trace workers)) = ⊥
IsSerial (Some (simulate policy trace)) = Unit {0}
IsSerial (Some (waste policy trace)) = Unit {0}
IsSerial (Some (replay policy trace history)) = Unit {0}
IsSerial (Some (report policy trace history)) = Unit {0}
IsSerial (Some (migrate policy trace history)) = Unit {0}
IsSerial (Some (tell_why policy trace history)) = Unit {0}
IsSerial (Some (make seed size)) = Unit {0}
IsSerial (Some (bench seed size)) = Unit {0}
