-- What a call of the command wrote and returned, and why. Source: own.
use Rattle.std.specs.{Prelude.{ℕ, List, ◌≡◌, ◌⊎◌, ◌<◌, None, Some, Contains, IsSomeAnd}, declared.option.Option.{Option}}
use Rattle.dpmi_words.specs.Meaning.{meaning}
use Rattle.dpmi_io.specs.{Causes.{Rose}, Content.{Files, Shown, Gains, GainsPart}}
use Rattle.dpmi_cli.specs.{declared.status.TheConstants.{REFUSED, OUTPUT_FAILED}, Words.{file_names}, Answer.{Verdict, verdict_of, answer}}
use Rattle.dpmi_cli.specs.{Answer.{answer_to}, Laws.{OfItsRun, RunKeepsTheLaws}}

-- a file that the words name failed: the count of faults rose, and the file that is blamed is one of theirs
abbrev pub NamedFailed : List (List ℕ) → ℕ → ℕ → Option (List ℕ) → Type 0
NamedFailed words before now blamed =
    Rose before now × IsSomeAnd blamed (λ name. Contains (file_names words) name)

-- the files are known, and one that the words need isn't there
abbrev pub IsAbsent : List (List ℕ) → Option Files → Type 0
IsAbsent words None = ⊥
IsAbsent words (Some files) = answer words files ≡ None

-- it holds of the files, or where they aren't known, of some
abbrev pub OfFiles : Option Files → (Files → Type 0) → Type 0
OfFiles None P = (files : Files) × P files
OfFiles (Some files) P = P files

-- the words and the files have such a verdict. Where the files aren't known, the words and some files have: one for the file that is read
-- first, and one for the file that is read second, since a file may change between two readings
abbrev pub HasVerdict : List (List ℕ) → Option Files → (Verdict → Type 0) → Type 0
HasVerdict words files P = OfFiles files (λ first. OfFiles files (λ second. IsSomeAnd (verdict_of (meaning words) first second) P))

-- the call wrote and returned the answer to the verdict, but for what a failure of the output cut off; and each run that was answered keeps
-- its client to its memory, and nests and hands over as it should
pub record Answers (v : Verdict) (before now : Shown) (faults_before faults_now result : ℕ) : Type 0 where
  pub writes_the_answer : GainsPart before now (answer_to v).text
  pub status_of_the_answer :
      (result ≡ (answer_to v).status) ⊎ ((result ≡ OUTPUT_FAILED) × ((answer_to v).status < REFUSED))
  pub whole_text : result < REFUSED → Gains before now (answer_to v).text
  pub whole_line : result ≡ REFUSED → Gains before now (answer_to v).text ⊎ Rose faults_before faults_now
  pub output_failure_has_cause : result ≡ OUTPUT_FAILED → Rose faults_before faults_now
  pub run_keeps_the_laws : OfItsRun RunKeepsTheLaws v
