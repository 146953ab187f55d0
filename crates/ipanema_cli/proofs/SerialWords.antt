-- What requests and words ask for that play no cores side by side.
use Rattle.std.proofs.Common.{◌≡◌, ◌≢◌, ℕ, Bool, true, false, List, [], ◌∷◌, Option, Some, None, ap, codes, if◌then◌else◌, refl, slice_get, sym}
use Rattle.std.specs.List.{list_all}
use Rattle.std.specs.Str.{bytes_eq}
use Rattle.std.proofs.lemmas.Slice.Eq.{bytes_eq-Decides}
use Rattle.std.specs.Borrow.{Bor}
use Rattle.std.specs.Prelude.{option_and_then, option_map}
use Rattle.command_words.specs.Asks.{asked}
use Rattle.command_words.specs.Command.{Asked, IsSerial, asked_by, asked_by_one, asked_by_three, asked_by_two, asked_plainly, bench, explain, is_plain, make, name_of, sized_by}
use Rattle.command_words.specs.Numbers.{seed_in, size_in}
use Rattle.obligations.specs.declared.names.ObName.{ObName}
use Rattle.command_words.specs.declared.request.Request.{Request}
use Rattle.command_words.specs.declared.request.Request.TheVariants.{Crew, Run}

module _ (request : Request) (no_run : (policy trace : Bor (List ℕ)) → request ≡ Run policy trace → ⊥)
    (no_crew : (policy trace : Bor (List ℕ)) (workers : ℕ) → request ≡ Crew policy trace workers → ⊥) where
  -- a request that is neither a run nor a crew
  pub serial_request : (r : Request) → request ≡ r → IsSerial (asked r)
  serial_request (Run p t) same = absurd (no_run p t same)
  serial_request (Crew p t w) same = absurd (no_crew p t w same)
  serial_request other same = tt

sized : (asks : ℕ → ℕ → Asked) → ((s n : ℕ) → IsSerial (Some (asks s n))) → (seed size : List ℕ) → IsSerial (sized_by asks seed size)
sized asks serial seed size = first (seed_in seed)
  where
    second : (s : ℕ) (n : Option ℕ) → IsSerial (option_map (asks s) n)
    second s None = tt
    second s (Some n) = serial s n

    first : (s : Option ℕ) → IsSerial (option_and_then (λ k. option_map (asks k) (size_in size)) s)
    first None = tt
    first (Some s) = second s (size_in size)

explained : (file : List ℕ) (name : Option ObName) → IsSerial (option_map (explain file) name)
explained file None = tt
explained file (Some name) = tt

-- under a verb or another
either : (b : Bool) (x y : Option Asked) → IsSerial x → IsSerial y → IsSerial (if b then x else y)
either true x y here there = here
either false x y here there = there

-- the verb isn't this one
past : (word verb : List ℕ) (x y : Option Asked) → verb ≢ word → IsSerial y → IsSerial (if bytes_eq word verb then x else y)
past word verb x y other there = by (bytes_eq word verb) refl
  where
    by : (b : Bool) → bytes_eq word verb ≡ b → IsSerial (if b then x else y)
    by true test = absurd (other (sym ((bytes_eq-Decides word verb).0 test)))
    by false test = there

one : (verb file : List ℕ) → IsSerial (asked_by_one verb file)
one verb file =
    either (bytes_eq (codes "check") verb) _ _ tt
    (either (bytes_eq (codes "prove") verb) _ _ tt
    (either (bytes_eq (codes "bound") verb) _ _ tt
    (either (bytes_eq (codes "rest") verb) _ _ tt
    (either (bytes_eq (codes "waits") verb) _ _ tt
    (either (bytes_eq (codes "emit") verb) _ _ tt
    (either (bytes_eq (codes "draft") verb) _ _ tt tt))))))

two : (verb first second : List ℕ) → verb ≢ codes "run" → IsSerial (asked_by_two verb first second)
two verb first second no_run =
    either (bytes_eq (codes "explain") verb) _ _ (explained first (name_of second))
    (either (bytes_eq (codes "verify") verb) _ _ tt
    (either (bytes_eq (codes "play") verb) _ _ tt
    (past (codes "run") verb _ _ no_run
    (either (bytes_eq (codes "simulate") verb) _ _ tt
    (either (bytes_eq (codes "waste") verb) _ _ tt
    (either (bytes_eq (codes "make") verb) _ _ (sized make (λ s n. tt) first second)
    (either (bytes_eq (codes "bench") verb) _ _ (sized bench (λ s n. tt) first second) tt)))))))

three : (verb first second third : List ℕ) → verb ≢ codes "crew" → IsSerial (asked_by_three verb first second third)
three verb first second third no_crew =
    past (codes "crew") verb _ _ no_crew
    (either (bytes_eq (codes "replay") verb) _ _ tt
    (either (bytes_eq (codes "report") verb) _ _ tt
    (either (bytes_eq (codes "migrate") verb) _ _ tt
    (either (bytes_eq (codes "why") verb) _ _ tt tt))))

plainly : (words : List (List ℕ)) → slice_get words 0 ≢ Some (codes "run") → slice_get words 0 ≢ Some (codes "crew") → IsSerial (asked_plainly words)
plainly [] no_run no_crew = tt
plainly (verb ∷ []) no_run no_crew = tt
plainly (verb ∷ first ∷ []) no_run no_crew = one verb first
plainly (verb ∷ first ∷ second ∷ []) no_run no_crew = two verb first second (λ same. no_run (ap Some same))
plainly (verb ∷ first ∷ second ∷ third ∷ []) no_run no_crew = three verb first second third (λ same. no_crew (ap Some same))
plainly (verb ∷ first ∷ second ∷ third ∷ more ∷ words) no_run no_crew = tt

-- words that begin with neither `run` nor `crew`
pub serial_words : (words : List (List ℕ)) → slice_get words 0 ≢ Some (codes "run") → slice_get words 0 ≢ Some (codes "crew") → IsSerial (asked_by words)
serial_words words no_run no_crew = by (list_all is_plain words)
  where
    by : (b : Bool) → IsSerial (if b then asked_plainly words else None)
    by true = plainly words no_run no_crew
    by false = tt
