-- What is known of files of which some were loaded.
use Rattle.std.proofs.Common.{◌≡◌, ◌⊎◌, inl, inr, ℕ, zero, suc, List, [], ◌∷◌, ◌++◌, Option, Some, None, Result, Ok, Err, OnOk, map, subst, sym, arith, take}
use Rattle.std.specs.Borrow.{Bor}
use Rattle.sched_io.specs.Loads.{AreRequested, LoadRequest}
use Rattle.sched_io.specs.Told.{Told, missing}
use Rattle.sched_io.proofs.WrittenLemmas.{Grows-append, Grows-nil}
use Rattle.command_words.specs.Command.{Asked}
use Rattle.ipanema_cli.specs.Commands.{AskedFile, asked_files}
use Rattle.ipanema_cli.specs.Files.{AreRead, IsReadable, StopsAt, file_named}
use Rattle.ipanema_cli.specs.Loads.{FirstAreLoaded, FirstOfThem, GoesOn, files_of, load_of}
use Rattle.ipanema_cli.specs.Stops.{IsStopOf}
use Rattle.ipanema_cli.specs.Texts.{MayBeLong, MayRead}
use Rattle.ipanema_cli.specs.declared.stop.Stop.{Stop}
use Rattle.ipanema_cli.specs.declared.stop.Stop.TheVariants as stop
use Rattle.ipanema_cli.specs.declared.texts.TextKind.{TextKind}

-- that is why a file wasn't read, or is too long
abbrev Unread : Type 0 → TextKind → Told → Type 0
Unread fault which file = fault ⊎ (file ≡ missing)

abbrev TooLong : TextKind → TextKind → Told → Type 0
TooLong long which file = (long ≡ which) × MayBeLong which file

-- none of no loads is behind one that isn't read
goes_nowhere : (told : List ℕ → Told) (files : List AskedFile) → GoesOn told files 0
goes_nowhere told [] = tt
goes_nowhere told (file ∷ files) = tt

take_none : {X : Type 0} → (xs : List X) → take 0 xs ≡ []
take_none xs = search

pub none_loaded : (asked : Option Asked) (told : List ℕ → Told) (loads : Option (List LoadRequest)) → FirstAreLoaded asked told loads loads
none_loaded asked told loads = record {
  count = 0;
  loaded = rw (take_none (files_of asked)) (Grows-nil loads);
  goes_on = goes_nowhere told (asked_files asked);
}

-- and where there is no command, these are all
pub all_loaded : (asked : Option Asked) (loads : Option (List LoadRequest)) → asked ≡ None → AreRequested (files_of asked) loads loads
all_loaded asked loads none = subst (λ (x : Option Asked). AreRequested (files_of x) loads loads) (sym none) (Grows-nil loads)

module _ (told later : List ℕ → Told) (same : (name : List ℕ) → later name ≡ told name) where
  -- what is told of files doesn't change
  readable_before : (file : AskedFile) → IsReadable later file → IsReadable told file
  readable_before file (text, read) = (text, subst (λ (t : Told). MayRead file.which t text) (same file.name) read)

  pub read_before : (text : TextKind → List ℕ) (files : List AskedFile) → AreRead later text files → AreRead told text files
  read_before text [] read = tt
  read_before text (file ∷ files) (here, rest) =
      (subst (λ (t : Told). MayRead file.which t (text file.which)) (same file.name) here, read_before text files rest)

  stops_before : (Stops : TextKind → Told → Type 0) (files : List AskedFile) → StopsAt Stops later files → StopsAt Stops told files
  stops_before Stops [] stops = stops
  stops_before Stops (file ∷ files) (inl here) = inl (subst (Stops file.which) (same file.name) here)
  stops_before Stops (file ∷ files) (inr (read, stops)) = inr (readable_before file read, stops_before Stops files stops)

  pub stop_before : (fault : Type 0) (files : List AskedFile) (why : Stop) → IsStopOf files later fault why → IsStopOf files told fault why
  stop_before fault files stop.Unread is = stops_before (Unread fault) files is
  stop_before fault files (stop.TooLong which) is = stops_before (TooLong which) files is
  stop_before fault files stop.Memory is = tt

-- One file, if it is named, and then others.
module _ (told : List ℕ → Told) (which : TextKind) where
  stops_here : (Stops : TextKind → Told → Type 0) (name : Option (Bor (List ℕ))) (rest : List AskedFile) → StopsAt Stops told (file_named which name) → StopsAt Stops told (file_named which name ++ rest)
  stops_here Stops None rest stops = absurd stops
  stops_here Stops (Some name) rest (inl here) = inl here
  stops_here Stops (Some name) rest (inr (read, none)) = absurd none

  stops_behind : (Stops : TextKind → Told → Type 0) (name : Option (Bor (List ℕ))) (text : TextKind → List ℕ) (rest : List AskedFile) → AreRead told text (file_named which name) → StopsAt Stops told rest → StopsAt Stops told (file_named which name ++ rest)
  stops_behind Stops None text rest read stops = stops
  stops_behind Stops (Some name) text rest (read, done) stops = inr ((text which, read), stops)

  module _ (fault : Type 0) where
    pub stop_here : (name : Option (Bor (List ℕ))) (rest : List AskedFile) (why : Stop) → IsStopOf (file_named which name) told fault why → IsStopOf (file_named which name ++ rest) told fault why
    stop_here name rest stop.Unread is = stops_here (Unread fault) name rest is
    stop_here name rest (stop.TooLong long) is = stops_here (TooLong long) name rest is
    stop_here name rest stop.Memory is = tt

    pub stop_behind : (name : Option (Bor (List ℕ))) (text : TextKind → List ℕ) (rest : List AskedFile) (why : Stop) → AreRead told text (file_named which name) → IsStopOf rest told fault why → IsStopOf (file_named which name ++ rest) told fault why
    stop_behind name text rest stop.Unread read is = stops_behind (Unread fault) name text rest read is
    stop_behind name text rest (stop.TooLong long) read is = stops_behind (TooLong long) name text rest read is
    stop_behind name text rest stop.Memory read is = tt

  -- it was loaded, and no more
  pub loads_here : (name : Option (Bor (List ℕ))) (rest : List AskedFile) (x y : Option (List LoadRequest)) → AreRequested (map load_of (file_named which name)) x y → FirstOfThem (file_named which name ++ rest) told x y
  loads_here None rest x y loaded = record { count = 0; loaded = rw (take_none (map load_of rest)) loaded; goes_on = goes_nowhere told rest }
  loads_here (Some name) rest x y loaded = record {
    count = 1;
    loaded = rw (take_none (map load_of rest)) loaded;
    goes_on = (λ more. absurd (omega arith), goes_nowhere told rest);
  }

  pub loads_last : (name : Option (Bor (List ℕ))) (x y : Option (List LoadRequest)) → AreRequested (map load_of (file_named which name)) x y → FirstOfThem (file_named which name) told x y
  loads_last None x y loaded = record { count = 0; loaded = loaded; goes_on = tt }
  loads_last (Some name) x y loaded = record { count = 1; loaded = loaded; goes_on = (λ more. absurd (omega arith), tt) }

  -- it was loaded and read, and then others were loaded
  pub loads_behind : (name : Option (Bor (List ℕ))) (text : TextKind → List ℕ) (rest : List AskedFile) (x y z : Option (List LoadRequest)) → AreRead told text (file_named which name)
      → AreRequested (map load_of (file_named which name)) x y → FirstOfThem rest told y z → FirstOfThem (file_named which name ++ rest) told x z
  loads_behind None text rest x y z read loaded more =
      record { count = more.count; loaded = Grows-append [] (take more.count (map load_of rest)) x y z loaded more.loaded; goes_on = more.goes_on }
  loads_behind (Some name) text rest x y z (read, done) loaded more = record {
    count = suc more.count;
    loaded = Grows-append _ (take more.count (map load_of rest)) x y z loaded more.loaded;
    goes_on = (λ others. (text which, read), more.goes_on);
  }

  pub all_behind : (name : Option (Bor (List ℕ))) (rest : List AskedFile) (x y z : Option (List LoadRequest)) → AreRequested (map load_of (file_named which name)) x y
      → AreRequested (map load_of rest) y z → AreRequested (map load_of (file_named which name ++ rest)) x z
  all_behind None rest x y z loaded more = Grows-append [] (map load_of rest) x y z loaded more
  all_behind (Some name) rest x y z loaded more = Grows-append _ (map load_of rest) x y z loaded more

-- what holds however a call ends
pub whatever_comes : {T E P : Type 0} (r : Result T E) → P → OnOk r P
whatever_comes (Ok x) holds = holds
whatever_comes (Err e) holds = tt
