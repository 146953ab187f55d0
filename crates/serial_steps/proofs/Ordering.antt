-- What is left of a turn, by what comes next in it.
use Rattle.std.proofs.Common.{◌≡◌, ℕ, Bool, true, false, Option, Some, None, refl, ap}
use Rattle.serial_steps.specs.declared.order.NextInTurn.{NextInTurn}
use Rattle.serial_steps.specs.declared.order.NextInTurn.TheVariants as next
use Rattle.serial_steps.specs.Orders.{in_order, late_in_order}

-- no thread is left to enter or to wake
pub record IsBehindThreads {W : Type 0} (entering : Option ℕ) (waking : Option W) : Type 0 where
  pub entered : entering ≡ None
  pub woken : waking ≡ None

module _ {W L : Type 0} where
  pub enters_first : (entering : Option ℕ) (waking : Option W) (worked attempted : Bool) (look : Option L) (thread : ℕ) → in_order entering waking worked attempted look ≡ next.Enter thread → entering ≡ Some thread
  enters_first (Some t) waking worked attempted look thread is = let same : t ≡ thread = cc in ap Some same
  enters_first None (Some w) worked attempted look thread is = absurd (cc)
  enters_first None None worked true look thread is = absurd (cc)
  enters_first None None false false look thread is = absurd (cc)
  enters_first None None true false None thread is = absurd (cc)
  enters_first None None true false (Some l) thread is = absurd (cc)

  pub wakes_next : (entering : Option ℕ) (waking : Option W) (worked attempted : Bool) (look : Option L) (woken : W) → in_order entering waking worked attempted look ≡ next.Wake woken → (entering ≡ None) × (waking ≡ Some woken)
  wakes_next (Some t) waking worked attempted look woken is = absurd (cc)
  wakes_next None (Some w) worked attempted look woken is = let same : w ≡ woken = cc in (refl, ap Some same)
  wakes_next None None worked true look woken is = absurd (cc)
  wakes_next None None false false look woken is = absurd (cc)
  wakes_next None None true false None woken is = absurd (cc)
  wakes_next None None true false (Some l) woken is = absurd (cc)

  pub works_next : (entering : Option ℕ) (waking : Option W) (worked attempted : Bool) (look : Option L) → in_order entering waking worked attempted look ≡ next.Work → IsBehindThreads entering waking × (attempted ≡ false) × (worked ≡ false)
  works_next (Some t) waking worked attempted look is = absurd (cc)
  works_next None (Some w) worked attempted look is = absurd (cc)
  works_next None None worked true look is = absurd (cc)
  works_next None None false false look is = (record { entered = refl; woken = refl }, refl, refl)
  works_next None None true false None is = absurd (cc)
  works_next None None true false (Some l) is = absurd (cc)

  pub looks_next : (entering : Option ℕ) (waking : Option W) (worked attempted : Bool) (look : Option L) → in_order entering waking worked attempted look ≡ next.Look
      → IsBehindThreads entering waking × (attempted ≡ false) × (worked ≡ true) × (look ≡ None)
  looks_next (Some t) waking worked attempted look is = absurd (cc)
  looks_next None (Some w) worked attempted look is = absurd (cc)
  looks_next None None worked true look is = absurd (cc)
  looks_next None None false false look is = absurd (cc)
  looks_next None None true false None is = (record { entered = refl; woken = refl }, refl, refl, refl)
  looks_next None None true false (Some l) is = absurd (cc)

  pub tries_next : (entering : Option ℕ) (waking : Option W) (worked attempted : Bool) (look : Option L) (kept : L) → in_order entering waking worked attempted look ≡ next.Attempt kept
      → IsBehindThreads entering waking × (attempted ≡ false) × (worked ≡ true) × (look ≡ Some kept)
  tries_next (Some t) waking worked attempted look kept is = absurd (cc)
  tries_next None (Some w) worked attempted look kept is = absurd (cc)
  tries_next None None worked true look kept is = absurd (cc)
  tries_next None None false false look kept is = absurd (cc)
  tries_next None None true false None kept is = absurd (cc)
  tries_next None None true false (Some l) kept is = let same : l ≡ kept = cc in (record { entered = refl; woken = refl }, refl, refl, ap Some same)

  pub over_next : (entering : Option ℕ) (waking : Option W) (worked attempted : Bool) (look : Option L) → in_order entering waking worked attempted look ≡ next.Over → IsBehindThreads entering waking × (attempted ≡ true)
  over_next (Some t) waking worked attempted look is = absurd (cc)
  over_next None (Some w) worked attempted look is = absurd (cc)
  over_next None None worked true look is = (record { entered = refl; woken = refl }, refl)
  over_next None None false false look is = absurd (cc)
  over_next None None true false None is = absurd (cc)
  over_next None None true false (Some l) is = absurd (cc)
