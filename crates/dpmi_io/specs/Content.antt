-- What a shelf and a sink show of bytes, and how a call changes it. Source: own.
use Rattle.std.specs.Prelude.{◌≡◌, ◌≤◌, ◌+◌, ℕ, List, [], ◌++◌, length, take, min, max, ⊤, None, Some, IsSome}
use Rattle.std.specs.declared.option.Option.{Option}
use Rattle.dpmi_io.specs.Causes.{greatest}

-- the files of a shelf: for each name its bytes, or none
abbrev pub Files : Type 0
Files = List ℕ → Option (List ℕ)

-- where the files are known, the one of this name is there, and these are its bytes left
abbrev pub Starts : Option Files → List ℕ → Option (List ℕ) → Type 0
Starts None name left = ⊤
Starts (Some files) name left = (left ≡ files name) × IsSome left

-- the files are known and have none of this name
abbrev pub Lacks : Option Files → List ℕ → Type 0
Lacks None name = ⊥
Lacks (Some files) name = files name ≡ None

-- where the bytes left are known, they began with these, and none are given only at the end
abbrev pub Gives : Option (List ℕ) → Option (List ℕ) → List ℕ → Type 0
Gives None now given = ⊤
Gives (Some left) None given = ⊥
Gives (Some left) (Some now) given = (left ≡ given ++ now) × (given ≡ [] → left ≡ [])

-- what a sink shows of what it took: the bytes, their number up to the greatest u64, or nothing
pub data Shown : Type 0 where
  Bytes : List ℕ → Shown
  Number : ℕ → Shown
  Nothing : Shown

-- what it shows once it took these as well
abbrev pub gained : Shown → List ℕ → Shown
gained (Bytes taken) more = Bytes (taken ++ more)
gained (Number taken) more = Number (max taken (min (taken + length more) greatest))
gained Nothing more = Nothing

-- these bytes were taken between the two
abbrev pub Gains : Shown → Shown → List ℕ → Type 0
Gains before now more = now ≡ gained before more

-- some first bytes of these were taken between the two, perhaps none or all
abbrev pub GainsPart : Shown → Shown → List ℕ → Type 0
GainsPart before now more = (n : ℕ) × (n ≤ length more) × Gains before now (take n more)
