-- Two parts that begin at one place, and what it takes for them to be one.
use Rattle.std.proofs.Common.{◌≡◌, ◌∙◌, ◌<◌, ◌==◌, ℕ, Bool, true, false, refl, sym, ap, subst, arith, lit<, if◌then◌else◌}
use Rattle.std.proofs.lemmas.Bool.Decides.{nat_tests}
use Rattle.policy_tree.specs.declared.trees.Cmp.{Cmp}
use Rattle.policy_tree.specs.declared.trees.Cmp.TheVariants as cmp
use Rattle.policy_tree.specs.declared.typed.Event.{Event}
use Rattle.policy_tree.specs.declared.typed.Event.TheVariants as event
use Rattle.policy_tree.specs.declared.typed.Put.{Put}
use Rattle.policy_tree.specs.declared.typed.Put.TheVariants as put
use Rattle.policy_syntax.specs.declared.syntax.Owner.{Owner}
use Rattle.policy_syntax.specs.declared.syntax.Owner.TheVariants as owner
use Rattle.policy_grammar.specs.declared.terminal.Terminal.TheVariants as terminal
use Rattle.policy_grammar.specs.Terminals.{code}
use Rattle.policy_grammar.specs.Words.{attr_word, key_word, sign_word, owner_word, event_word, put_word, compare_word}

-- the two are one, and end at one place
pub data Same {X : Type 0} : X → ℕ → X → ℕ → Type 0 where
  same : {x : X} {n : ℕ} → Same x n x n

pub same-is : {X : Type 0} {x y : X} {m n : ℕ} → Same x m y n → x ≡ y
same-is same = refl

pub same-ap : {X Y : Type 0} (f : X → Y) {x y : X} {m n : ℕ} → Same x m y n → Same (f x) m (f y) n
same-ap f same = same

-- the place that they end at beside them
pub same-place : {X : Type 0} {x y : X} {m n : ℕ} → Same x m y n → Same {X = X × ℕ} (x, m) m (y, n) n
same-place same = same

-- a second part behind them
pub and-then : {X Y : Type 0} (P : ℕ → Y → ℕ → Type 0) {x y : X} {v w : Y} {m n to so : ℕ} → Same x m y n → P n w so →
    (P m w so → Same v to w so) → Same {X = X × Y} (x, v) to (y, w) so
and-then P {x = x} same e one = same-ap (λ v. (x, v)) (one e)

pub is-not : (m k : ℕ) → (m == k) ≡ false → m ≡ k → ⊥
is-not m k differs e = absurd (grind (arith, nat_tests))

-- what a word says of several is one, where there is a way back
by-back : {X : Type 0} (word : X → ℕ) (back : ℕ → X) → ((x : X) → back (word x) ≡ x) → {k : ℕ} (at : ℕ) (x y : X) → k ≡ word x → k ≡ word y → Same x at y at
by-back word back is at x y e f = subst (λ z. Same x at z at) (sym (is x) ∙ ap back (sym e ∙ f) ∙ is y) same

attr-back : (x : Bool) → (attr_word x == code terminal.Core) ≡ x
attr-back true = refl
attr-back false = refl

pub attr-same : {k : ℕ} (at : ℕ) (x y : Bool) → k ≡ attr_word x → k ≡ attr_word y → Same x at y at
attr-same = by-back attr_word (λ k. k == code terminal.Core) attr-back

key-back : (x : Bool) → (key_word x == code terminal.Max) ≡ x
key-back true = refl
key-back false = refl

pub key-same : {k : ℕ} (at : ℕ) (x y : Bool) → k ≡ key_word x → k ≡ key_word y → Same x at y at
key-same = by-back key_word (λ k. k == code terminal.Max) key-back

sign-back : (x : Bool) → (sign_word x == code terminal.Minus) ≡ x
sign-back true = refl
sign-back false = refl

pub sign-same : {k : ℕ} (at : ℕ) (x y : Bool) → k ≡ sign_word x → k ≡ sign_word y → Same x at y at
sign-same = by-back sign_word (λ k. k == code terminal.Minus) sign-back

abbrev owner_from : ℕ → Owner
owner_from k =
    if k == code terminal.Itself then owner.Itself else if k == code terminal.Victim then owner.Victim else
    if k == code terminal.Core then owner.Core else owner.Thread

owner-back : (o : Owner) → owner_from (owner_word o) ≡ o
owner-back owner.Itself = refl
owner-back owner.Victim = refl
owner-back owner.Core = refl
owner-back owner.Thread = refl

pub owner-same : {k : ℕ} (at : ℕ) (x y : Owner) → k ≡ owner_word x → k ≡ owner_word y → Same x at y at
owner-same = by-back owner_word owner_from owner-back

pub owner-small : (o : Owner) → owner_word o < code terminal.Number
owner-small owner.Itself = lit< tt
owner-small owner.Victim = lit< tt
owner-small owner.Core = lit< tt
owner-small owner.Thread = lit< tt

abbrev event_from : ℕ → Event
event_from k =
    if k == code terminal.Enqueue then event.Enqueue else if k == code terminal.Tick then event.Tick else
    if k == code terminal.Yield then event.Yield else event.Block

event-back : (e : Event) → event_from (event_word e) ≡ e
event-back event.Enqueue = refl
event-back event.Tick = refl
event-back event.Yield = refl
event-back event.Block = refl

pub event-same : {k : ℕ} (at : ℕ) (x y : Event) → k ≡ event_word x → k ≡ event_word y → Same x at y at
event-same = by-back event_word event_from event-back

abbrev put_from : ℕ → Put
put_from k = if k == code terminal.Queue then put.Queue else if k == code terminal.Keep then put.Keep else put.Block

put-back : (p : Put) → put_from (put_word p) ≡ p
put-back put.Queue = refl
put-back put.Keep = refl
put-back put.Block = refl

pub put-same : {k : ℕ} (at : ℕ) (x y : Put) → k ≡ put_word x → k ≡ put_word y → Same x at y at
put-same = by-back put_word put_from put-back

pub put-no_task : (p : Put) → put_word p < code terminal.Task
put-no_task put.Queue = lit< tt
put-no_task put.Keep = lit< tt
put-no_task put.Block = lit< tt

abbrev compare_from : ℕ → Cmp
compare_from k =
    if k == code terminal.Equal then cmp.Eq else if k == code terminal.Unequal then cmp.Ne else
    if k == code terminal.Less then cmp.Lt else if k == code terminal.AtMost then cmp.Le else
    if k == code terminal.More then cmp.Gt else cmp.Ge

compare-back : (c : Cmp) → compare_from (compare_word c) ≡ c
compare-back cmp.Eq = refl
compare-back cmp.Ne = refl
compare-back cmp.Lt = refl
compare-back cmp.Le = refl
compare-back cmp.Gt = refl
compare-back cmp.Ge = refl

pub compare-same : {k : ℕ} (at : ℕ) (x y : Cmp) → k ≡ compare_word x → k ≡ compare_word y → Same x at y at
compare-same = by-back compare_word compare_from compare-back
