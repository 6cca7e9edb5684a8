-- What the command answers, by its words and the files. Source: own.
use Rattle.std.specs.Prelude.{ℕ, List, [], length, max, nat_lt, if◌then◌else◌, None, Some, option_map, option_and_then}
use Rattle.std.specs.declared.option.Option.{Option}
use Rattle.client_world.specs.declared.limits.TheConstants.{DEFAULT_BOUND, DEFAULT_PAGES, DEFAULT_TRACE, MAX_FILE, MAX_KEYS, MAX_TRACE}
use Rattle.client_world.specs.{declared.outcome.LoadFault.{LoadFault}, World.{HostWorld}}
use Rattle.client_maker.specs.Made.{made}
use Rattle.dpmi_words.specs.Meaning.{Keys, Pressed, Stored, RunMeaning, PairMeaning, Meaning, Runs, Soaks, Pairs, meaning}
use Rattle.host_run.specs.Start.{host_at_start}
use Rattle.mz_loader.specs.Refusal.{refusal}
use Rattle.watch_run.specs.Turn.{watched_run}
use Rattle.dpmi_io.specs.Content.{Files}
use Rattle.dpmi_report.specs.{declared.exits.TheConstants.{ENDED_OTHERWISE}, Exits.{exit_status}, Summary.{summary}, Text.{text}}
use Rattle.dpmi_cli.specs.{declared.prepare.Reason.{Reason}, declared.prepare.Reason.TheVariants.{Words, FileTooLong, KeysTooLong, Load}}
use Rattle.dpmi_cli.specs.{declared.prepare.Reason.TheVariants.{FileTooLongOf, LoadOf}, declared.status.TheConstants.{REFUSED}}
use Rattle.dpmi_cli.specs.{Pairs.{pair_text}, Runs.{host_at_end}, Text.{line_of_refusal}}
use Rattle.pair_run.specs.declared.lines.Letter.TheVariants.{A, B}

-- what comes of the words and the files: a refusal; the world in which a run starts, its timer, if it has one, and its bound; the number of
-- a made client and the world in which its run starts; or the turns of a slice, the bound and the worlds in which the runs of two clients
-- start
pub data Verdict : Type 0 where
  Refuses : Reason → Verdict
  Starts : HostWorld → Option ℕ → ℕ → Verdict
  StartsMade : ℕ → HostWorld → Verdict
  StartsPair : ℕ → ℕ → HostWorld → HostWorld → Verdict

-- the bytes of a file, if they are no more than the limit
abbrev pub bytes_within : ℕ → List ℕ → Option (List ℕ)
bytes_within most bytes = if nat_lt most (length bytes) then None else Some bytes

-- the keystrokes, which may be the bytes of a file
abbrev pub keys_from : Keys → Files → Option (List ℕ)
keys_from (Pressed bytes) files = Some bytes
keys_from (Stored name) files = files name

-- the verdict on a client's file with these keystrokes
abbrev pub load_verdict : RunMeaning → List ℕ → List ℕ → Verdict
load_verdict r file keys = elim (refusal file) [
  | None ↦ Starts (host_at_start r.pages keys r.trace file) r.timer r.bound
  | Some fault ↦ Refuses (Load fault)
]

-- the verdict on the keystrokes, and then on the client's file
abbrev pub keys_verdict : RunMeaning → List ℕ → Option (List ℕ) → Verdict
keys_verdict r file None = Refuses KeysTooLong
keys_verdict r file (Some keys) = load_verdict r file keys

-- the verdict on the client's file, and then on the keystrokes; none where the file with the keystrokes isn't there
abbrev pub file_verdict : RunMeaning → Files → Option (List ℕ) → Option Verdict
file_verdict r files None = Some (Refuses FileTooLong)
file_verdict r files (Some file) = option_map (λ keys. keys_verdict r file (bytes_within MAX_KEYS keys)) (keys_from r.keys files)

-- the verdict on a run: its file is read first, and its keystrokes then
abbrev pub run_verdict : RunMeaning → Files → Files → Option Verdict
run_verdict r files files_then = option_and_then (λ file. file_verdict r files_then (bytes_within MAX_FILE file)) (files r.file)

-- the verdict on the client that is made from a number. It has no keystrokes, the usual page budget, and the longest trace
abbrev pub made_verdict : ℕ → Verdict
made_verdict number = elim (refusal (made number)) [
  | None ↦ StartsMade number (host_at_start DEFAULT_PAGES [] MAX_TRACE (made number))
  | Some fault ↦ Refuses (Load fault)
]

-- the load of the second client's file, once the first client is in this world. They have no keystrokes, and the usual number of trace
-- lines
abbrev pub second_load : PairMeaning → HostWorld → List ℕ → Option LoadFault → Verdict
second_load p a b None = StartsPair p.slice p.bound a (host_at_start p.pages_b [] DEFAULT_TRACE b)
second_load p a b (Some fault) = Refuses (LoadOf B fault)

-- the load of the first one's file, and then of the second one's
abbrev pub first_load : PairMeaning → List ℕ → List ℕ → Option LoadFault → Verdict
first_load p a b None = second_load p (host_at_start p.pages_a [] DEFAULT_TRACE a) b (refusal b)
first_load p a b (Some fault) = Refuses (LoadOf A fault)

-- the verdict on the second client's file, and then on the loads
abbrev pub second_verdict : PairMeaning → List ℕ → Option (List ℕ) → Verdict
second_verdict p a None = Refuses (FileTooLongOf B)
second_verdict p a (Some b) = first_load p a b (refusal a)

-- the verdict on the first client's file, and then on the second one's; none where that isn't there
abbrev pub first_verdict : PairMeaning → Files → Option (List ℕ) → Option Verdict
first_verdict p files None = Some (Refuses (FileTooLongOf A))
first_verdict p files (Some a) = option_map (λ b. second_verdict p a (bytes_within MAX_FILE b)) (files p.second)

-- the verdict on a pair: both files are read first, and loaded then
abbrev pub pair_verdict : PairMeaning → Files → Files → Option Verdict
pair_verdict p files files_then = option_and_then (λ a. first_verdict p files_then (bytes_within MAX_FILE a)) (files p.first)

-- the verdict on a meaning, by the files at the first reading and at the second; none where a file that is read isn't there
abbrev pub verdict_of : Option Meaning → Files → Files → Option Verdict
verdict_of None files files_then = Some (Refuses Words)
verdict_of (Some (Runs r)) files files_then = run_verdict r files files_then
verdict_of (Some (Soaks number)) files files_then = Some (made_verdict number)
verdict_of (Some (Pairs p)) files files_then = pair_verdict p files files_then

-- the verdict on the words
abbrev pub verdict : List (List ℕ) → Files → Option Verdict
verdict words files = verdict_of (meaning words) files files

-- the status of a run that has ended
abbrev pub run_status : HostWorld → ℕ
run_status w = elim w.exit [ None ↦ ENDED_OTHERWISE | Some exit ↦ exit_status exit ]

-- the status of two runs: 0 where each client ended itself
abbrev pub pair_status : HostWorld → HostWorld → ℕ
pair_status a b = max (run_status a) (run_status b)

-- what is written, and the status
pub record Answer : Type 0 where
  pub text : List ℕ
  pub status : ℕ

-- the answer to a verdict: the line of a refusal, the text of a run, the summary of the run of a made client, or the text of a pair
abbrev pub answer_to : Verdict → Answer
answer_to (Refuses reason) = record { text = line_of_refusal reason; status = REFUSED }
answer_to (Starts w timer bound) = let end = host_at_end w timer bound in record { text = text end; status = run_status end }
answer_to (StartsMade number w) =
    let end = watched_run w DEFAULT_BOUND in record { text = summary number end; status = run_status end }
answer_to (StartsPair slice bound a b) =
    record { text = pair_text slice bound a b; status = pair_status (watched_run a bound) (watched_run b bound) }

-- the answer to the words, by the files
abbrev pub answer : List (List ℕ) → Files → Option Answer
answer words files = option_map answer_to (verdict words files)
