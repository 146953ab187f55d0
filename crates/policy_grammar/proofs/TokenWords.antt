-- Which word or symbol a token is, from what the machine asks of it.
use Rattle.std.proofs.Common.{◌≡◌, ◌≢◌, ℕ, ◌==◌, ◌||◌, ◌⊎◌, inl, inr, refl, sym, Bool, true, false, ◌∙◌}
use Rattle.std.proofs.lemmas.Bool.Decides.{eqb_tells}
use Rattle.policy_tree.specs.declared.trees.Cmp.{Cmp}
use Rattle.policy_tree.specs.declared.trees.Cmp.TheVariants as cmp
use Rattle.policy_tree.specs.declared.typed.Event.{Event}
use Rattle.policy_tree.specs.declared.typed.Event.TheVariants as event_is
use Rattle.policy_tree.specs.declared.typed.Put.{Put}
use Rattle.policy_tree.specs.declared.typed.Put.TheVariants as put_is
use Rattle.policy_syntax.specs.declared.syntax.Owner.{Owner}
use Rattle.policy_syntax.specs.declared.syntax.Owner.TheVariants as owner
use Rattle.policy_grammar.specs.declared.terminal.Terminal.TheVariants.{Core, Min, Max, Enqueue, Tick, Yield, Block, Queue, Keep, Itself, Victim, Task, Plus, Minus, Star, Equal, Unequal, Less, AtMost, More, AtLeast}
use Rattle.policy_grammar.specs.Terminals.{code}
use Rattle.policy_grammar.specs.Words.{key_word, sign_word, owner_word, event_word, put_word, compare_word}
use Rattle.policy_grammar.specs.Symbols.{is_compare}

or-cases : (a b : Bool) → (a || b) ≡ true → (a ≡ true) ⊎ (b ≡ true)
or-cases true b e = inl refl
or-cases false b e = inr e

eqb-same : (k c : ℕ) → (k == c) ≡ true → k ≡ c
eqb-same k c e = by (eqb_tells k c)
  where
    by : (((k == c) ≡ true) × (k ≡ c)) ⊎ (((k == c) ≡ false) × (k ≢ c)) → k ≡ c
    by (inl p) = p.1
    by (inr p) = let clash = sym p.0 ∙ e in cc

pub owner-by : (k : ℕ) → (((k == code Itself) || (k == code Victim)) || ((k == code Core) || (k == code Task))) ≡ true → (o : Owner) × (k ≡ owner_word o)
owner-by k e = by (or-cases _ _ e)
  where
    one : ((k == code Itself) ≡ true) ⊎ ((k == code Victim) ≡ true) → (o : Owner) × (k ≡ owner_word o)
    one (inl p) = (owner.Itself, eqb-same k _ p)
    one (inr p) = (owner.Victim, eqb-same k _ p)

    other : ((k == code Core) ≡ true) ⊎ ((k == code Task) ≡ true) → (o : Owner) × (k ≡ owner_word o)
    other (inl p) = (owner.Core, eqb-same k _ p)
    other (inr p) = (owner.Thread, eqb-same k _ p)

    by : (((k == code Itself) || (k == code Victim)) ≡ true) ⊎ (((k == code Core) || (k == code Task)) ≡ true) → (o : Owner) × (k ≡ owner_word o)
    by (inl p) = one (or-cases _ _ p)
    by (inr p) = other (or-cases _ _ p)

pub event-by : (k : ℕ) → (((k == code Enqueue) || (k == code Tick)) || ((k == code Yield) || (k == code Block))) ≡ true → (e : Event) × (k ≡ event_word e)
event-by k e = by (or-cases _ _ e)
  where
    one : ((k == code Enqueue) ≡ true) ⊎ ((k == code Tick) ≡ true) → (e : Event) × (k ≡ event_word e)
    one (inl p) = (event_is.Enqueue, eqb-same k _ p)
    one (inr p) = (event_is.Tick, eqb-same k _ p)

    other : ((k == code Yield) ≡ true) ⊎ ((k == code Block) ≡ true) → (e : Event) × (k ≡ event_word e)
    other (inl p) = (event_is.Yield, eqb-same k _ p)
    other (inr p) = (event_is.Block, eqb-same k _ p)

    by : (((k == code Enqueue) || (k == code Tick)) ≡ true) ⊎ (((k == code Yield) || (k == code Block)) ≡ true) → (e : Event) × (k ≡ event_word e)
    by (inl p) = one (or-cases _ _ p)
    by (inr p) = other (or-cases _ _ p)

pub put-by : (k : ℕ) → (((k == code Queue) || (k == code Keep)) || (k == code Block)) ≡ true → (p : Put) × (k ≡ put_word p)
put-by k e = by (or-cases _ _ e)
  where
    one : ((k == code Queue) ≡ true) ⊎ ((k == code Keep) ≡ true) → (p : Put) × (k ≡ put_word p)
    one (inl p) = (put_is.Queue, eqb-same k _ p)
    one (inr p) = (put_is.Keep, eqb-same k _ p)

    by : (((k == code Queue) || (k == code Keep)) ≡ true) ⊎ ((k == code Block) ≡ true) → (p : Put) × (k ≡ put_word p)
    by (inl p) = one (or-cases _ _ p)
    by (inr p) = (put_is.Block, eqb-same k _ p)

pub compare-by : (k : ℕ) → is_compare k ≡ true → (c : Cmp) × (k ≡ compare_word c)
compare-by k e = by (or-cases _ _ e)
  where
    low : ((k == code Equal) ≡ true) ⊎ ((k == code Unequal) ≡ true) → (c : Cmp) × (k ≡ compare_word c)
    low (inl p) = (cmp.Eq, eqb-same k _ p)
    low (inr p) = (cmp.Ne, eqb-same k _ p)

    one : (((k == code Equal) || (k == code Unequal)) ≡ true) ⊎ ((k == code Less) ≡ true) → (c : Cmp) × (k ≡ compare_word c)
    one (inl p) = low (or-cases _ _ p)
    one (inr p) = (cmp.Lt, eqb-same k _ p)

    high : ((k == code AtMost) ≡ true) ⊎ ((k == code More) ≡ true) → (c : Cmp) × (k ≡ compare_word c)
    high (inl p) = (cmp.Le, eqb-same k _ p)
    high (inr p) = (cmp.Gt, eqb-same k _ p)

    other : (((k == code AtMost) || (k == code More)) ≡ true) ⊎ ((k == code AtLeast) ≡ true) → (c : Cmp) × (k ≡ compare_word c)
    other (inl p) = high (or-cases _ _ p)
    other (inr p) = (cmp.Ge, eqb-same k _ p)

    by : ((((k == code Equal) || (k == code Unequal)) || (k == code Less)) ≡ true) ⊎ ((((k == code AtMost) || (k == code More)) || (k == code AtLeast)) ≡ true) → (c : Cmp) × (k ≡ compare_word c)
    by (inl p) = one (or-cases _ _ p)
    by (inr p) = other (or-cases _ _ p)

pub operator-by : (k : ℕ) → (((k == code Star) || (k == code Plus)) || (k == code Minus)) ≡ true → (k ≡ code Star) ⊎ ((m : Bool) × (k ≡ sign_word m))
operator-by k e = by (or-cases _ _ e)
  where
    one : ((k == code Star) ≡ true) ⊎ ((k == code Plus) ≡ true) → (k ≡ code Star) ⊎ ((m : Bool) × (k ≡ sign_word m))
    one (inl p) = inl (eqb-same k _ p)
    one (inr p) = inr (false, eqb-same k _ p)

    by : (((k == code Star) || (k == code Plus)) ≡ true) ⊎ ((k == code Minus) ≡ true) → (k ≡ code Star) ⊎ ((m : Bool) × (k ≡ sign_word m))
    by (inl p) = one (or-cases _ _ p)
    by (inr p) = inr (true, eqb-same k _ p)

pub key-by : (k : ℕ) → ((k == code Min) || (k == code Max)) ≡ true → (g : Bool) × (k ≡ key_word g)
key-by k e = by (or-cases _ _ e)
  where
    by : ((k == code Min) ≡ true) ⊎ ((k == code Max) ≡ true) → (g : Bool) × (k ≡ key_word g)
    by (inl p) = (false, eqb-same k _ p)
    by (inr p) = (true, eqb-same k _ p)
