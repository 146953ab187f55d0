-- Lists that are read item by item.
use Rattle.std.proofs.Common.{◌≡◌, ◌∙◌, ℕ, Bool, true, false, List, [], ◌∷◌, ◌++◌, Option, Some, None, codes, refl, ap, sym}
use Rattle.std.specs.Str.{bytes_eq}
use Rattle.std.proofs.lemmas.List.{append-nil, append_assoc}
use Rattle.round_model.specs.declared.plan.Burst.{Burst}
use Rattle.job_trace.specs.declared.trace.NamedConst.{NamedConst}
use Rattle.job_trace.specs.Code.Steps.{FoundBurst, behind, const_first, const_of, consts_in, extended, has_word, joined, kept_in, last_in, middle_first, middle_of, number_alone, number_behind, number_first, numbers_in, program_in}

-- an item more that was read
pub extended-more : {X : Type 0} (items : List X) (x : X) (rest : Option (List X)) →
    extended items (joined (Some x) rest) ≡ extended (items ++ x ∷ []) rest
extended-more items x None = refl
extended-more items x (Some rest) = ap (λ xs. Some xs) (sym (append_assoc items (x ∷ []) rest))

-- a step: the item stands in front of what is left
module _ {X : Type 0} (whole : Option (List X)) (items more : List X) (x : X) (here rest : Option (List X)) where
  pub step-more : whole ≡ extended items here → here ≡ joined (Some x) rest → more ≡ items ++ x ∷ [] → whole ≡ extended more rest
  step-more e f g = e ∙ ap (extended items) f ∙ extended-more items x rest ∙ ap (λ xs. extended xs rest) (sym g)

-- nothing is left
pub step-over : {X : Type 0} (whole : Option (List X)) (items : List X) → whole ≡ extended items (Some []) → Some items ≡ whole
step-over whole items e = ap (λ xs. Some xs) (sym (append-nil items)) ∙ sym e

pub numbers-first : (word : List ℕ) (rest : List (List ℕ)) → numbers_in (word ∷ rest) ≡ joined (kept_in word) (numbers_in rest)
unfolding numbers_in
numbers-first word rest = refl

pub numbers-over : numbers_in [] ≡ Some []
unfolding numbers_in
numbers-over = refl

-- the constants of words are those of the first step
abbrev consts_stepped : List (List ℕ) → Option (NamedConst × List (List ℕ)) → Option (List NamedConst)
consts_stepped line None = None
consts_stepped line (Some (given, rest)) = joined (Some given) (consts_in rest)

pub consts-step : (first : List ℕ) (line : List (List ℕ)) → consts_in (first ∷ line) ≡ consts_stepped (first ∷ line) (const_first (first ∷ line))
unfolding consts_in const_first
consts-step first [] = refl
consts-step name (value ∷ rest) = by (const_of name value) refl
  where
    by : (o : Option NamedConst) → const_of name value ≡ o →
        joined (const_of name value) (consts_in rest) ≡ consts_stepped (name ∷ value ∷ rest) (const_first (name ∷ value ∷ rest))
    by None e = rw e refl
    by (Some given) e = rw e refl

pub consts-over : consts_in [] ≡ Some []
unfolding consts_in
consts-over = refl

-- the numbers so far, and those of a line that are left
module _ (whole : Option (List ℕ)) (numbers : List ℕ) (line : List (List ℕ)) (so_far : whole ≡ extended numbers (numbers_in line)) where
  numbers-next : (word : List ℕ) (rest : List (List ℕ)) → line ≡ word ∷ rest → numbers_in line ≡ joined (kept_in word) (numbers_in rest)
  numbers-next word rest e = ap numbers_in e ∙ numbers-first word rest

  pub more-numbers : (more : List ℕ) (word : List ℕ) (rest : List (List ℕ)) (n : ℕ) → line ≡ word ∷ rest → Some n ≡ kept_in word →
      more ≡ numbers ++ n ∷ [] → whole ≡ extended more (numbers_in rest)
  more-numbers more word rest n e f g =
      step-more whole numbers more n (numbers_in line) (numbers_in rest) so_far
      (numbers-next word rest e ∙ ap (λ o. joined o (numbers_in rest)) (sym f)) g

  pub no-number_left : (word : List ℕ) (rest : List (List ℕ)) → line ≡ word ∷ rest → None ≡ kept_in word → None ≡ whole
  no-number_left word rest e f =
      sym (so_far ∙ ap (extended numbers) (numbers-next word rest e ∙ ap (λ o. joined o (numbers_in rest)) (sym f)))

  pub all-numbers : line ≡ [] → Some numbers ≡ whole
  all-numbers e = step-over whole numbers (so_far ∙ ap (λ l. extended numbers (numbers_in l)) e ∙ ap (extended numbers) numbers-over)

-- the constants so far, and those of a line that are left
module _ (whole : Option (List NamedConst)) (consts : List NamedConst) where
  pub more-consts : (line : List (List ℕ)) (so_far : whole ≡ extended consts (consts_in line)) (more : List NamedConst) (given : NamedConst) (rest : List (List ℕ)) →
      const_first line ≡ Some (given, rest) → more ≡ consts ++ given ∷ [] → whole ≡ extended more (consts_in rest)
  unfolding const_first
  more-consts [] so_far more given rest e g = cc
  more-consts (first ∷ line) so_far more given rest e g =
      step-more whole consts more given (consts_in (first ∷ line)) (consts_in rest) so_far
      (consts-step first line ∙ ap (consts_stepped (first ∷ line)) e) g

  pub no-const_left : (line : List (List ℕ)) (so_far : whole ≡ extended consts (consts_in line)) → const_first line ≡ None → has_word line ≡ true → None ≡ whole
  no-const_left [] so_far e has = cc
  no-const_left (first ∷ line) so_far e has =
      sym (so_far ∙ ap (extended consts) (consts-step first line ∙ ap (consts_stepped (first ∷ line)) e))

  pub all-consts : (line : List (List ℕ)) (so_far : whole ≡ extended consts (consts_in line)) → has_word line ≡ false → Some consts ≡ whole
  all-consts [] so_far has = step-over whole consts (so_far ∙ ap (extended consts) consts-over)
  all-consts (first ∷ line) so_far has = cc

-- three words or more are no last burst
last-long : (first n end : List ℕ) (rest : List (List ℕ)) → last_in (first ∷ n ∷ end ∷ rest) ≡ None
unfolding last_in behind number_alone
last-long first n end rest = by (bytes_eq first (codes "forever")) refl (bytes_eq first (codes "run")) refl
  where
    by : (b : Bool) → bytes_eq first (codes "forever") ≡ b → (r : Bool) → bytes_eq first (codes "run") ≡ r → last_in (first ∷ n ∷ end ∷ rest) ≡ None
    by true e r f = rw e refl
    by false e true f = rw (e, f) refl
    by false e false f = rw (e, f) refl

-- the program of words is that of the first step
abbrev stepped : List (List ℕ) → Option FoundBurst → Option (List Burst)
stepped line None = joined (last_in line) (Some [])
stepped line (Some (b, rest)) = joined (Some b) (program_in rest)

middle-none : (line : List (List ℕ)) → middle_first line ≡ None → program_in line ≡ joined (last_in line) (Some []) →
    program_in line ≡ stepped line (middle_first line)
middle-none line e f = f ∙ ap (stepped line) (sym e)

middle-short : (first : List ℕ) → middle_first (first ∷ []) ≡ None
unfolding middle_first number_behind behind number_first
middle-short first = by (bytes_eq first (codes "run")) refl
  where
    by : (b : Bool) → bytes_eq first (codes "run") ≡ b → middle_first (first ∷ []) ≡ None
    by true e = rw e refl
    by false e = rw e refl

middle-pair : (first n : List ℕ) → middle_first (first ∷ n ∷ []) ≡ None
unfolding middle_first number_behind behind number_first middle_of
middle-pair first n = by (bytes_eq first (codes "run")) refl (kept_in n) refl
  where
    by : (b : Bool) → bytes_eq first (codes "run") ≡ b → (o : Option ℕ) → kept_in n ≡ o → middle_first (first ∷ n ∷ []) ≡ None
    by true e None f = rw (e, f) refl
    by true e (Some units) f = rw (e, f) refl
    by false e o f = rw e refl

program-short : (first : List ℕ) → program_in (first ∷ []) ≡ joined (last_in (first ∷ [])) (Some [])
unfolding program_in
program-short first = refl

program-pair : (first n : List ℕ) → program_in (first ∷ n ∷ []) ≡ joined (last_in (first ∷ n ∷ [])) (Some [])
unfolding program_in
program-pair first n = refl

program-none : program_in [] ≡ stepped [] (middle_first [])
unfolding program_in middle_first number_behind behind last_in
program-none = refl

program-three : (first n end : List ℕ) → program_in (first ∷ n ∷ end ∷ []) ≡ stepped (first ∷ n ∷ end ∷ []) (middle_first (first ∷ n ∷ end ∷ []))
unfolding program_in middle_first number_behind behind number_first middle_of
program-three first n end =
    by (bytes_eq first (codes "run")) refl (kept_in n) refl (bytes_eq end (codes "yield")) refl (bytes_eq end (codes "block")) refl (last-long first n end [])
  where
    by : (b : Bool) → bytes_eq first (codes "run") ≡ b → (o : Option ℕ) → kept_in n ≡ o →
        (y : Bool) → bytes_eq end (codes "yield") ≡ y → (k : Bool) → bytes_eq end (codes "block") ≡ k → last_in (first ∷ n ∷ end ∷ []) ≡ None →
        program_in (first ∷ n ∷ end ∷ []) ≡ stepped (first ∷ n ∷ end ∷ []) (middle_first (first ∷ n ∷ end ∷ []))
    by false e o f y g k h none = rw (e, none) refl
    by true e None f y g k h none = rw (e, f, none) refl
    by true e (Some units) f true g k h none = rw (e, f, g) refl
    by true e (Some units) f false g true h none = rw (e, f, g, h, none) refl
    by true e (Some units) f false g false h none = rw (e, f, g, h, none) refl

program-four : (first n end k : List ℕ) (rest : List (List ℕ)) →
    program_in (first ∷ n ∷ end ∷ k ∷ rest) ≡ stepped (first ∷ n ∷ end ∷ k ∷ rest) (middle_first (first ∷ n ∷ end ∷ k ∷ rest))
unfolding program_in middle_first number_behind behind number_first middle_of
program-four first n end k rest =
    by (bytes_eq first (codes "run")) refl (kept_in n) refl (bytes_eq end (codes "yield")) refl (bytes_eq end (codes "block")) refl (kept_in k) refl
    (last-long first n end (k ∷ rest))
  where
    by : (b : Bool) → bytes_eq first (codes "run") ≡ b → (o : Option ℕ) → kept_in n ≡ o →
        (y : Bool) → bytes_eq end (codes "yield") ≡ y → (z : Bool) → bytes_eq end (codes "block") ≡ z → (r : Option ℕ) → kept_in k ≡ r →
        last_in (first ∷ n ∷ end ∷ k ∷ rest) ≡ None →
        program_in (first ∷ n ∷ end ∷ k ∷ rest) ≡ stepped (first ∷ n ∷ end ∷ k ∷ rest) (middle_first (first ∷ n ∷ end ∷ k ∷ rest))
    by false e o f y g z h r i none = rw (e, none) refl
    by true e None f true g z h r i none = rw (e, f, g, none) refl
    by true e None f false g true h r i none = rw (e, f, g, h, none) refl
    by true e None f false g false h r i none = rw (e, f, g, h, none) refl
    by true e (Some units) f true g z h r i none = rw (e, f, g) refl
    by true e (Some units) f false g true h None i none = rw (e, f, g, h, i, none) refl
    by true e (Some units) f false g true h (Some rounds) i none = rw (e, f, g, h, i) refl
    by true e (Some units) f false g false h r i none = rw (e, f, g, h, none) refl

pub program-step : (line : List (List ℕ)) → program_in line ≡ stepped line (middle_first line)
program-step [] = program-none
program-step (first ∷ []) = middle-none (first ∷ []) (middle-short first) (program-short first)
program-step (first ∷ n ∷ []) = middle-none (first ∷ n ∷ []) (middle-pair first n) (program-pair first n)
program-step (first ∷ n ∷ end ∷ []) = program-three first n end
program-step (first ∷ n ∷ end ∷ k ∷ rest) = program-four first n end k rest

module _ (whole : Option (List Burst)) (bursts : List Burst) (line : List (List ℕ)) (so_far : whole ≡ extended bursts (program_in line)) where
  pub more-bursts : (more : List Burst) (b : Burst) (rest : List (List ℕ)) → middle_first line ≡ Some (b, rest) → more ≡ bursts ++ b ∷ [] →
      whole ≡ extended more (program_in rest)
  more-bursts more b rest found e = step-more whole bursts more b (program_in line) (program_in rest) so_far (program-step line ∙ ap (stepped line) found) e

  pub last-burst : (more : List Burst) (b : Burst) → middle_first line ≡ None → Some b ≡ last_in line → more ≡ bursts ++ b ∷ [] → Some more ≡ whole
  last-burst more b none last e =
      step-over whole more (step-more whole bursts more b (program_in line) (Some []) so_far
      (program-step line ∙ ap (stepped line) none ∙ ap (λ o. joined o (Some [])) (sym last)) e)

  pub no-burst : middle_first line ≡ None → None ≡ last_in line → None ≡ whole
  no-burst none last = sym (so_far ∙ ap (extended bursts) (program-step line ∙ ap (stepped line) none ∙ ap (λ o. joined o (Some [])) (sym last)))
