-- What comes before a run: the files that are read, and the client that is loaded. Source: own.
use Rattle.std.specs.Prelude.{ℕ, List, [], ◌∷◌, ◌≡◌, ◌≤◌, ◌<◌, ◌⊎◌, take, None, Some, Ok, Err, Contains, IsSomeAnd, ⊤, option_map}
use Rattle.std.specs.{declared.option.Option.{Option}, declared.result.Result.{Result}}
use Rattle.client_world.specs.declared.limits.TheConstants.{GREATEST_TIMER, MAX_KEYS, MAX_PAGES, MAX_SLICE, MAX_STEPS, MAX_TRACE}
use Rattle.client_world.specs.{World.{HostWorld}, Soundness.{IsSound}}
use Rattle.host_run.specs.Keys.{HasKeys}
use Rattle.dpmi_words.specs.Meaning.{Keys, PairMeaning, RunMeaning}
use Rattle.dpmi_io.specs.{Causes.{Rose}, Content.{Files, Lacks}}
use Rattle.dpmi_cli.specs.{declared.prepare.Prepared.{Prepared}, declared.prepare.Stop.{Stop}, declared.prepare.Stop.TheVariants.{Memory}}
use Rattle.dpmi_cli.specs.{declared.prepare.Stop.TheVariants.{Shelf}, Answer.{Verdict, Refuses, Starts, StartsMade, StartsPair}}
use Rattle.dpmi_cli.specs.{Answer.{file_verdict, first_verdict, keys_from, bytes_within, pair_verdict, run_verdict}, Causes.{OfFiles}}
use Rattle.dpmi_cli.specs.Words.{key_file_names}
use Rattle.dpmi_cli.specs.declared.prepare.Prepared.TheVariants as prepared

-- these bytes are the first of the file of that name, so many at most
abbrev pub HasFront : ℕ → Option Files → List ℕ → List ℕ → Type 0
HasFront size files name bytes = OfFiles files (λ fs. IsSomeAnd (fs name) (λ file. bytes ≡ take size file))

-- the file of that name has these bytes, or is longer than the limit
abbrev pub HasFile : ℕ → Option Files → List ℕ → Option (List ℕ) → Type 0
HasFile most files name read = OfFiles files (λ fs. option_map (bytes_within most) (fs name) ≡ Some read)

-- the keystrokes are these, or more than there may be
abbrev pub HasPressed : Option Files → Keys → Option (List ℕ) → Type 0
HasPressed files keys read = OfFiles files (λ fs. option_map (bytes_within MAX_KEYS) (keys_from keys fs) ≡ Some read)

-- the file of that name failed in this call and is blamed, or the files are known and have none of that name
abbrev pub FailsAt : Option Files → List ℕ → ℕ → ℕ → Option (List ℕ) → Type 0
FailsAt files name before now blamed = (Rose before now × (blamed ≡ Some name)) ⊎ Lacks files name

-- the file with the keystrokes failed in this call and is blamed, or the files are known and it isn't there
abbrev pub LacksKeys : Option Files → Keys → Type 0
LacksKeys None keys = ⊥
LacksKeys (Some files) keys = keys_from keys files ≡ None

abbrev pub KeysFail : Option Files → Keys → ℕ → ℕ → Option (List ℕ) → Type 0
KeysFail files keys before now blamed =
    (Rose before now × IsSomeAnd blamed (λ name. Contains (key_file_names keys) name)) ⊎ LacksKeys files keys

-- a file of the run failed in this call and is blamed, or the files are known and one that is read isn't there
abbrev pub LacksFile : Option Files → RunMeaning → Type 0
LacksFile None r = ⊥
LacksFile (Some files) r = run_verdict r files files ≡ None

abbrev pub RunFails : Option Files → RunMeaning → ℕ → ℕ → Option (List ℕ) → Type 0
RunFails files r before now blamed =
    (Rose before now × IsSomeAnd blamed (λ name. Contains (r.file ∷ key_file_names r.keys) name)) ⊎ LacksFile files r

-- the count of faults stays, unless a file failed or isn't there
abbrev pub StaysUnlessFailed : {A : Type 0} → Result A Stop → ℕ → ℕ → Type 0
StaysUnlessFailed (Ok a) before now = now ≡ before
StaysUnlessFailed (Err Memory) before now = now ≡ before
StaysUnlessFailed (Err Shelf) before now = ⊤

-- the verdict on a run of this file, whose keystrokes are read next
abbrev pub HasKeysVerdict : Option Files → RunMeaning → List ℕ → Verdict → Type 0
HasKeysVerdict files r file v = OfFiles files (λ fs. file_verdict r fs (Some file) ≡ Some v)

-- the verdict on a run, whose files are read next
abbrev pub HasRunVerdict : Option Files → RunMeaning → Verdict → Type 0
HasRunVerdict files r v = OfFiles files (λ first. OfFiles files (λ second. run_verdict r first second ≡ Some v))

-- a file of the pair failed in this call and is blamed, or the files are known and one that is read isn't there
abbrev pub LacksEither : Option Files → PairMeaning → Type 0
LacksEither None p = ⊥
LacksEither (Some files) p = pair_verdict p files files ≡ None

abbrev pub PairFails : Option Files → PairMeaning → ℕ → ℕ → Option (List ℕ) → Type 0
PairFails files p before now blamed =
    (Rose before now × IsSomeAnd blamed (λ name. Contains (p.first ∷ p.second ∷ []) name)) ⊎ LacksEither files p

-- the verdict on a pair of which this is the first file, and the second one is read next
abbrev pub HasSecondVerdict : Option Files → PairMeaning → List ℕ → Verdict → Type 0
HasSecondVerdict files p a v = OfFiles files (λ fs. first_verdict p fs (Some a) ≡ Some v)

-- the verdict on a pair, whose files are read next
abbrev pub HasPairVerdict : Option Files → PairMeaning → Verdict → Type 0
HasPairVerdict files p v = OfFiles files (λ first. OfFiles files (λ second. pair_verdict p first second ≡ Some v))

-- the turns of a slice and the bound are in their ranges
pub record CanTakeTurns (slice bound : ℕ) : Type 0 where
  pub some_turns : 0 < slice
  pub few_turns : slice ≤ MAX_SLICE
  pub some_bound : 0 < bound
  pub few_steps : bound ≤ MAX_STEPS

-- the numbers of a pair are such as two hosts and their turns take
pub record HasPairRanges (p : PairMeaning) : Type 0 where
  pub turns : CanTakeTurns p.slice p.bound
  pub some_pages_a : 0 < p.pages_a
  pub pages_a : p.pages_a ≤ MAX_PAGES
  pub some_pages_b : 0 < p.pages_b
  pub pages_b : p.pages_b ≤ MAX_PAGES

-- the number of a timer's rounds is in its range; there may be no timer
abbrev pub CanTick : Option ℕ → Type 0
CanTick None = ⊤
CanTick (Some every) = (0 < every) × (every ≤ GREATEST_TIMER)

-- the numbers of a run are such as a host takes
pub record HasRanges (r : RunMeaning) : Type 0 where
  pub some_pages : 0 < r.pages
  pub pages : r.pages ≤ MAX_PAGES
  pub trace : r.trace ≤ MAX_TRACE
  pub bound : r.bound ≤ MAX_STEPS
  pub timer : CanTick r.timer

-- the verdict that was prepared
abbrev pub verdict_in : Prepared → Verdict
verdict_in (prepared.Refused reason) = Refuses reason
verdict_in (prepared.Run host timer bound) = Starts host.world timer bound
verdict_in (prepared.Soak host number) = StartsMade number host.world
verdict_in (prepared.Pair a b slice bound) = StartsPair slice bound a.world b.world

-- no turn was made and nothing written, the machine is sound, and the keystrokes are bytes
pub record IsReady (w : HostWorld) : Type 0 where
  pub no_exit : w.exit ≡ None
  pub no_turn : w.steps ≡ 0
  pub no_bytes : w.console ≡ []
  pub sound : IsSound w.machine
  pub keys : HasKeys w

-- a run that starts is ready, and may go up to its bound
abbrev pub IsNew : Verdict → Type 0
IsNew (Refuses reason) = ⊤
IsNew (Starts w timer bound) = IsReady w × (bound ≤ MAX_STEPS) × CanTick timer
IsNew (StartsMade number w) = IsReady w
IsNew (StartsPair slice bound a b) = IsReady a × IsReady b × CanTakeTurns slice bound
