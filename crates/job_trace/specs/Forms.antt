-- What the lines of a trace look like, whatever the ranges of their numbers.
use Rattle.std.specs.Prelude.{◌≡◌, ℕ, ℤ, pos, neg_ℤ, ◌==◌, true, List, [], ◌∷◌, ◌++◌, Option, Some, None, option_map}
use Rattle.std.specs.Prelude.{codes, if◌then◌else◌}
use Rattle.round_model.specs.declared.plan.Burst.{Burst}
use Rattle.round_model.specs.declared.plan.Ending.{Ending}
use Rattle.round_model.specs.declared.plan.Ending.TheVariants as ending
use Rattle.text_forms.specs.Numbers.{number_in}
use Rattle.job_trace.specs.declared.trace.NamedConst.{NamedConst}
use Rattle.job_trace.specs.declared.trace.TraceLine.{TraceLine}
use Rattle.job_trace.specs.declared.trace.TraceLine.TheVariants.{Cores, Rounds, Entries, Core, Thread, Order}
use Rattle.job_trace.specs.Words.{is_name}

-- the word is this number in decimal
abbrev pub SpellsNumber : List ℕ → ℕ → Type 0
SpellsNumber word number = number_in word ≡ Some number

abbrev pub negative : ℕ → ℤ
negative number = neg_ℤ (pos number)

-- the number that the word spells, before which one `-` may stand
abbrev pub signed_in : List ℕ → Option ℤ
signed_in [] = None
signed_in (first ∷ rest) =
    if first == 45 then option_map negative (number_in rest) else option_map pos (number_in (first ∷ rest))

-- the word is this number in decimal, and may have a sign
abbrev pub SpellsSigned : List ℕ → ℤ → Type 0
SpellsSigned word value = signed_in word ≡ Some value

abbrev pub burst : ℕ → Ending → Burst
burst units end = record { units = units; ending = end }

-- the words are this program
pub data SpellsProgram : List (List ℕ) → List Burst → Type 0 where
  run_end : (n : List ℕ) {units : ℕ} → SpellsNumber n units →
      SpellsProgram (codes "run" ∷ n ∷ []) (burst units ending.End ∷ [])
  run_forever : SpellsProgram (codes "forever" ∷ []) (burst 1 ending.Forever ∷ [])
  run_yield : (n : List ℕ) {units : ℕ} (rest : List (List ℕ)) {bursts : List Burst} →
      SpellsNumber n units → SpellsProgram rest bursts →
      SpellsProgram (codes "run" ∷ n ∷ codes "yield" ∷ rest) (burst units ending.Yield ∷ bursts)
  run_block : (n k : List ℕ) {units rounds : ℕ} (rest : List (List ℕ)) {bursts : List Burst} →
      SpellsNumber n units → SpellsNumber k rounds → SpellsProgram rest bursts →
      SpellsProgram (codes "run" ∷ n ∷ codes "block" ∷ k ∷ rest) (burst units (ending.Block rounds) ∷ bursts)

-- the words say this weight, which is 1 where they are left out
pub data SpellsWeight : List (List ℕ) → ℕ → Type 0 where
  no_weight : SpellsWeight [] 1
  some_weight : (w : List ℕ) {weight : ℕ} → SpellsNumber w weight → SpellsWeight (codes "weight" ∷ w ∷ []) weight

-- the words are these constants, each with its name
pub data SpellsConsts : List (List ℕ) → List NamedConst → Type 0 where
  no_const : SpellsConsts [] []
  next_const : (name v : List ℕ) (rest : List (List ℕ)) {value : ℤ} {consts : List NamedConst} →
      is_name name ≡ true → SpellsSigned v value → SpellsConsts rest consts →
      SpellsConsts (name ∷ v ∷ rest) (record { name = name; value = value } ∷ consts)

-- the words are these numbers
pub data SpellsNumbers : List (List ℕ) → List ℕ → Type 0 where
  no_number : SpellsNumbers [] []
  next_number : (n : List ℕ) (rest : List (List ℕ)) {number : ℕ} {numbers : List ℕ} →
      SpellsNumber n number → SpellsNumbers rest numbers → SpellsNumbers (n ∷ rest) (number ∷ numbers)

-- the words are this line. A core's line has one constant at least, an order one core.
pub data SpellsLine : List (List ℕ) → TraceLine → Type 0 where
  cores_line : (n : List ℕ) {number : ℕ} → SpellsNumber n number →
      SpellsLine (codes "cores" ∷ n ∷ []) (Cores number)
  rounds_line : (r : List ℕ) {number : ℕ} → SpellsNumber r number →
      SpellsLine (codes "rounds" ∷ r ∷ []) (Rounds number)
  entries_line : (e : List ℕ) {number : ℕ} → SpellsNumber e number →
      SpellsLine (codes "entries" ∷ e ∷ []) (Entries number)
  core_line : (c first : List ℕ) (rest : List (List ℕ)) {core : ℕ} {consts : List NamedConst} →
      SpellsNumber c core → SpellsConsts (first ∷ rest) consts →
      SpellsLine (codes "core" ∷ c ∷ first ∷ rest) (Core (record { core = core; consts = consts }))
  thread_line : (t c r : List ℕ) (weighing program : List (List ℕ)) {id core round weight : ℕ} {bursts : List Burst} →
      SpellsNumber t id → SpellsNumber c core → SpellsNumber r round → SpellsWeight weighing weight →
      SpellsProgram program bursts →
      SpellsLine (codes "thread" ∷ t ∷ codes "core" ∷ c ∷ codes "round" ∷ r ∷ (weighing ++ program))
      (Thread (record { id = id; core = core; round = round; weight = weight; bursts = bursts }))
  order_line : (r first : List ℕ) (rest : List (List ℕ)) {round : ℕ} {cores : List ℕ} →
      SpellsNumber r round → SpellsNumbers (first ∷ rest) cores →
      SpellsLine (codes "order" ∷ r ∷ first ∷ rest) (Order (record { round = round; cores = cores }))
