-- The size of a trace that words ask to make or to play is one that a made trace may have, and a crew is one that may play.
use Rattle.std.proofs.Common.{◌≡◌, ℕ, Bool, true, false, cond, List, [], ◌∷◌, Option, Some, None, codes, refl, subst}
use Rattle.std.proofs.Common.{option_and_then, option_map}
use Rattle.std.specs.List.{list_all}
use Rattle.std.specs.Str.{bytes_eq}
use Rattle.obligations.specs.declared.names.ObName.{ObName}
use Rattle.command_words.specs.Command.{Asked, asked_by, asked_plainly, bench, bound, check, crew, draft, emit, explain}
use Rattle.command_words.specs.Command.{is_plain, make, migrate, name_of, play, prove, replay, report, rest, run, tell_why}
use Rattle.command_words.specs.Command.{simulate, verify, waits, waste}
use Rattle.command_words.specs.Numbers.{is_crew, is_size, seed_in, size_in, workers_in}

-- if a trace is to be made, its size is one, and if one is to be played too, and the workers of a crew are so many
pub record IsSized (asked : Option Asked) : Type 0 where
  pub made : (s n : ℕ) → asked ≡ Some (make s n) → is_size n ≡ true
  pub benched : (s n : ℕ) → asked ≡ Some (bench s n) → is_size n ≡ true
  pub crewed : (policy trace : List ℕ) (n : ℕ) → asked ≡ Some (crew policy trace n) → is_crew n ≡ true

sized : (found : Option ℕ) (n : ℕ)
    → option_and_then (λ size. cond (is_size size) (Some size) None) found ≡ Some n → is_size n ≡ true
sized None n e = absurd (let bad = e in cc)
sized (Some m) n e = by (is_size m) refl e
  where
    by : (b : Bool) → is_size m ≡ b → cond b (Some m) None ≡ Some n → is_size n ≡ true
    by true is is_n = let same : m ≡ n = cc in subst (λ (k : ℕ). is_size k ≡ true) same is
    by false is is_n = absurd (let bad = is_n in cc)

module _ (asks : ℕ → ℕ → Asked) where
  -- the words of a command of a seed and a size have a size
  by_words : (same : (s n t m : ℕ) → asks t m ≡ asks s n → m ≡ n) (seed : Option ℕ) (word : List ℕ) (s n : ℕ)
      → option_and_then (λ t. option_map (asks t) (size_in word)) seed ≡ Some (asks s n) → is_size n ≡ true
  by_words same None word s n e = absurd (let bad = e in cc)
  by_words same (Some t) word s n e = by (size_in word) refl e
    where
      by : (found : Option ℕ) → size_in word ≡ found → option_map (asks t) found ≡ Some (asks s n) → is_size n ≡ true
      by None is e = absurd (let bad = e in cc)
      by (Some m) is e =
          let both : asks t m ≡ asks s n = cc in
          subst (λ (k : ℕ). is_size k ≡ true) (same s n t m both) (sized (seed_in word) m is)

-- and they aren't those of a crew
no_crew : (asks : ℕ → ℕ → Asked) → ((s n : ℕ) (p t : List ℕ) (m : ℕ) → asks s n ≡ crew p t m → ⊥) → (seed found : Option ℕ)
    (p t : List ℕ) (m : ℕ) → option_and_then (λ s. option_map (asks s) found) seed ≡ Some (crew p t m) → is_crew m ≡ true
no_crew asks never None found p t m e = absurd (let bad = e in cc)
no_crew asks never (Some s) None p t m e = absurd (let bad = e in cc)
no_crew asks never (Some s) (Some n) p t m e = absurd (never s n p t m (let same = e in cc))

made : (seed : Option ℕ) (word : List ℕ) → IsSized (option_and_then (λ t. option_map (make t) (size_in word)) seed)
made seed word = record {
  made = by_words make (λ s n t m e. cc) seed word;
  benched = λ s n e. absurd (never seed (size_in word) s n e);
  crewed = no_crew make (λ s n p t m e. cc) seed (size_in word);
}
  where
    never : (seed found : Option ℕ) (s n : ℕ) → option_and_then (λ t. option_map (make t) found) seed ≡ Some (bench s n) → ⊥
    never None found s n e = let bad = e in cc
    never (Some t) None s n e = let bad = e in cc
    never (Some t) (Some m) s n e = let bad = e in cc

benched : (seed : Option ℕ) (word : List ℕ) → IsSized (option_and_then (λ t. option_map (bench t) (size_in word)) seed)
benched seed word = record {
  made = λ s n e. absurd (never seed (size_in word) s n e);
  benched = by_words bench (λ s n t m e. cc) seed word;
  crewed = no_crew bench (λ s n p t m e. cc) seed (size_in word);
}
  where
    never : (seed found : Option ℕ) (s n : ℕ) → option_and_then (λ t. option_map (bench t) found) seed ≡ Some (make s n) → ⊥
    never None found s n e = let bad = e in cc
    never (Some t) None s n e = let bad = e in cc
    never (Some t) (Some m) s n e = let bad = e in cc

-- no other command has a size
nothing : IsSized None
nothing = record { made = λ s n e. absurd (let bad = e in cc); benched = λ s n e. absurd (let bad = e in cc); crewed = λ p t n e. absurd (let bad = e in cc) }

checked : (policy : List ℕ) → IsSized (Some (check policy))
checked policy = record { made = λ s n e. absurd (let bad = e in cc); benched = λ s n e. absurd (let bad = e in cc); crewed = λ p t n e. absurd (let bad = e in cc) }

explained : (policy : List ℕ) (name : Option ObName) → IsSized (option_map (explain policy) name)
explained policy None = nothing
explained policy (Some name) =
    record { made = λ s n e. absurd (let bad = e in cc); benched = λ s n e. absurd (let bad = e in cc); crewed = λ p t n e. absurd (let bad = e in cc) }

proved : (policy : List ℕ) → IsSized (Some (prove policy))
proved policy = record { made = λ s n e. absurd (let bad = e in cc); benched = λ s n e. absurd (let bad = e in cc); crewed = λ p t n e. absurd (let bad = e in cc) }

bounded : (policy : List ℕ) → IsSized (Some (bound policy))
bounded policy = record { made = λ s n e. absurd (let bad = e in cc); benched = λ s n e. absurd (let bad = e in cc); crewed = λ p t n e. absurd (let bad = e in cc) }

rested : (policy : List ℕ) → IsSized (Some (rest policy))
rested policy = record { made = λ s n e. absurd (let bad = e in cc); benched = λ s n e. absurd (let bad = e in cc); crewed = λ p t n e. absurd (let bad = e in cc) }

waited : (policy : List ℕ) → IsSized (Some (waits policy))
waited policy = record { made = λ s n e. absurd (let bad = e in cc); benched = λ s n e. absurd (let bad = e in cc); crewed = λ p t n e. absurd (let bad = e in cc) }

emitted : (policy : List ℕ) → IsSized (Some (emit policy))
emitted policy = record { made = λ s n e. absurd (let bad = e in cc); benched = λ s n e. absurd (let bad = e in cc); crewed = λ p t n e. absurd (let bad = e in cc) }

drafted : (policy : List ℕ) → IsSized (Some (draft policy))
drafted policy = record {
  made = λ s n e. absurd (let bad = e in cc);
  benched = λ s n e. absurd (let bad = e in cc);
  crewed = λ p t n e. absurd (let bad = e in cc);
}

crewed : (policy trace : List ℕ) (word : List ℕ) → IsSized (option_map (crew policy trace) (workers_in word))
crewed policy trace word = by (seed_in word)
  where
    of : (found : Option ℕ) → ((n : ℕ) → found ≡ Some n → is_crew n ≡ true) → IsSized (option_map (crew policy trace) found)
    of None is = nothing
    of (Some m) is = record {
      made = λ s n e. absurd (let bad = e in cc);
      benched = λ s n e. absurd (let bad = e in cc);
      crewed = λ p t n e. let same : m ≡ n = cc in subst (λ (k : ℕ). is_crew k ≡ true) same (is m refl);
    }

    kept : (m : ℕ) (b : Bool) → is_crew m ≡ b → (n : ℕ) → cond b (Some m) None ≡ Some n → is_crew n ≡ true
    kept m true is n e = let same : m ≡ n = cc in subst (λ (k : ℕ). is_crew k ≡ true) same is
    kept m false is n e = absurd (let bad = e in cc)

    by : (found : Option ℕ) → IsSized (option_map (crew policy trace) (option_and_then (λ n. cond (is_crew n) (Some n) None) found))
    by None = nothing
    by (Some m) = of (cond (is_crew m) (Some m) None) (kept m (is_crew m) refl)

verified : (policy certs : List ℕ) → IsSized (Some (verify policy certs))
verified policy certs =
    record { made = λ s n e. absurd (let bad = e in cc); benched = λ s n e. absurd (let bad = e in cc); crewed = λ p t n e. absurd (let bad = e in cc) }

played : (policy trace : List ℕ) → IsSized (Some (play policy trace))
played policy trace =
    record { made = λ s n e. absurd (let bad = e in cc); benched = λ s n e. absurd (let bad = e in cc); crewed = λ p t n e. absurd (let bad = e in cc) }

ran : (policy trace : List ℕ) → IsSized (Some (run policy trace))
ran policy trace =
    record { made = λ s n e. absurd (let bad = e in cc); benched = λ s n e. absurd (let bad = e in cc); crewed = λ p t n e. absurd (let bad = e in cc) }

simulated : (policy trace : List ℕ) → IsSized (Some (simulate policy trace))
simulated policy trace =
    record { made = λ s n e. absurd (let bad = e in cc); benched = λ s n e. absurd (let bad = e in cc); crewed = λ p t n e. absurd (let bad = e in cc) }

wasted : (policy trace : List ℕ) → IsSized (Some (waste policy trace))
wasted policy trace =
    record { made = λ s n e. absurd (let bad = e in cc); benched = λ s n e. absurd (let bad = e in cc); crewed = λ p t n e. absurd (let bad = e in cc) }

replayed : (policy trace history : List ℕ) → IsSized (Some (replay policy trace history))
replayed policy trace history =
    record { made = λ s n e. absurd (let bad = e in cc); benched = λ s n e. absurd (let bad = e in cc); crewed = λ p t n e. absurd (let bad = e in cc) }

reported : (policy trace history : List ℕ) → IsSized (Some (report policy trace history))
reported policy trace history =
    record { made = λ s n e. absurd (let bad = e in cc); benched = λ s n e. absurd (let bad = e in cc); crewed = λ p t n e. absurd (let bad = e in cc) }

migrated : (policy trace history : List ℕ) → IsSized (Some (migrate policy trace history))
migrated policy trace history =
    record { made = λ s n e. absurd (let bad = e in cc); benched = λ s n e. absurd (let bad = e in cc); crewed = λ p t n e. absurd (let bad = e in cc) }

told_why : (policy trace history : List ℕ) → IsSized (Some (tell_why policy trace history))
told_why policy trace history =
    record { made = λ s n e. absurd (let bad = e in cc); benched = λ s n e. absurd (let bad = e in cc); crewed = λ p t n e. absurd (let bad = e in cc) }

either : (b : Bool) (x y : Option Asked) → IsSized x → IsSized y → IsSized (cond b x y)
either true x y here else_here = here
either false x y here else_here = else_here

plainly : (words : List (List ℕ)) → IsSized (asked_plainly words)
plainly [] = nothing
plainly (verb ∷ []) = nothing
plainly (verb ∷ a ∷ []) =
    either (bytes_eq (codes "check") verb) _ _ (checked a)
    (either (bytes_eq (codes "prove") verb) _ _ (proved a)
    (either (bytes_eq (codes "bound") verb) _ _ (bounded a)
    (either (bytes_eq (codes "rest") verb) _ _ (rested a)
    (either (bytes_eq (codes "waits") verb) _ _ (waited a)
    (either (bytes_eq (codes "emit") verb) _ _ (emitted a)
    (either (bytes_eq (codes "draft") verb) _ _ (drafted a) nothing))))))
plainly (verb ∷ a ∷ b ∷ []) =
    either (bytes_eq (codes "explain") verb) _ _ (explained a (name_of b))
    (either (bytes_eq (codes "verify") verb) _ _ (verified a b)
    (either (bytes_eq (codes "play") verb) _ _ (played a b)
    (either (bytes_eq (codes "run") verb) _ _ (ran a b)
    (either (bytes_eq (codes "simulate") verb) _ _ (simulated a b)
    (either (bytes_eq (codes "waste") verb) _ _ (wasted a b)
    (either (bytes_eq (codes "make") verb) _ _ (made (seed_in a) b)
    (either (bytes_eq (codes "bench") verb) _ _ (benched (seed_in a) b) nothing)))))))
plainly (verb ∷ a ∷ b ∷ c ∷ []) =
    either (bytes_eq (codes "crew") verb) _ _ (crewed a b c)
    (either (bytes_eq (codes "replay") verb) _ _ (replayed a b c)
    (either (bytes_eq (codes "report") verb) _ _ (reported a b c)
    (either (bytes_eq (codes "migrate") verb) _ _ (migrated a b c)
    (either (bytes_eq (codes "why") verb) _ _ (told_why a b c) nothing))))
plainly (verb ∷ a ∷ b ∷ c ∷ d ∷ words) = nothing

pub asked-sized : (words : List (List ℕ)) → IsSized (asked_by words)
asked-sized words = either (list_all is_plain words) (asked_plainly words) None (plainly words) nothing
