-- The client of a call: why it is refused, and the text that `dpmi run` writes of it. Source: own.
use Rattle.std.specs.Prelude.{◌≡◌, ℕ, List, length, Bool, true, ◌&&◌, not, nat_eq, nat_le, nat_lt, if◌then◌else◌, None, Some, option_map}
use Rattle.std.specs.declared.option.Option.{Option}
use Rattle.client_world.specs.declared.limits.TheConstants.{GREATEST_TIMER, MAX_FILE, MAX_KEYS, MAX_PAGES, MAX_STEPS, MAX_TRACE}
use Rattle.client_world.specs.World.{HostWorld}
use Rattle.dpmi_cli.specs.{Answer.{Answer, Refuses, Starts, Verdict, answer_to, run_verdict}, declared.prepare.Reason.{Reason}}
use Rattle.dpmi_cli.specs.declared.prepare.Reason.TheVariants.{Words, FileTooLong, KeysTooLong, Load}
use Rattle.dpmi_calls.specs.declared.start.Client.{Client}
use Rattle.dpmi_words.specs.Meaning.{Pressed, RunMeaning}
use Rattle.host_run.specs.Start.{host_at_start}
use Rattle.mz_loader.specs.Refusal.{refusal}

-- a client: its file, its keystrokes, the pages of memory for its blocks, and after how many rounds its timer's interrupt becomes due, or 0
pub record ClientGiven : Type 0 where
  pub file : List ℕ
  pub keys : List ℕ
  pub pages : ℕ
  pub timer : ℕ

-- the one of these parts
abbrev pub client_of : List ℕ → List ℕ → ℕ → ℕ → ClientGiven
client_of file keys pages timer = record { file = file; keys = keys; pages = pages; timer = timer }

-- the one that a call is given
abbrev pub given : Client → ClientGiven
given c = client_of c.file.now c.keys.now c.pages c.timer

-- a timer of 0 rounds is none
abbrev pub timer_given : ℕ → Option ℕ
timer_given every = if nat_eq every 0 then None else Some every

-- the numbers are in the ranges of the command's options, for a run of that many turns whose trace keeps that many lines; the bound may
-- also be 0, which the command refuses
abbrev pub numbers_fit : ClientGiven → ℕ → ℕ → Bool
numbers_fit c bound trace =
    nat_lt 0 c.pages && nat_le c.pages MAX_PAGES && nat_le c.timer GREATEST_TIMER && nat_le bound MAX_STEPS && nat_le trace MAX_TRACE

-- the first reason for which the client is refused
abbrev pub refusal_of : ClientGiven → ℕ → ℕ → Option Reason
refusal_of c bound trace =
    if not (numbers_fit c bound trace) then Some Words else
    if nat_lt MAX_FILE (length c.file) then Some FileTooLong else
    if nat_lt MAX_KEYS (length c.keys) then Some KeysTooLong else
    option_map Load (refusal c.file)

-- the host in which it starts
abbrev pub client_at_start : ClientGiven → ℕ → HostWorld
client_at_start c trace = host_at_start c.pages c.keys trace c.file

-- it is refused, or its run starts, up to that many turns
abbrev pub verdict_on : ClientGiven → ℕ → ℕ → Verdict
verdict_on c bound trace = elim (refusal_of c bound trace) [
  | None ↦ Starts (client_at_start c trace) (timer_given c.timer) bound
  | Some reason ↦ Refuses reason
]

-- the text and the status of its run
abbrev pub answer_of : ClientGiven → ℕ → ℕ → Answer
answer_of c bound trace = answer_to (verdict_on c bound trace)

-- what the words of the command mean that give the same, with a file of that name; no words mean a bound of 0
abbrev pub run_of : ClientGiven → List ℕ → ℕ → ℕ → RunMeaning
run_of c name bound trace = record {
  file = name;
  keys = Pressed c.keys;
  bound = bound;
  pages = c.pages;
  trace = trace;
  timer = timer_given c.timer;
}

-- where the numbers fit, it is the verdict of the command on a file of these bytes, whatever its name
abbrev pub IsVerdictOfCommand : ClientGiven → ℕ → ℕ → Type 0
IsVerdictOfCommand c bound trace =
    (name : List ℕ) → numbers_fit c bound trace ≡ true →
    run_verdict (run_of c name bound trace) (λ path. Some c.file) (λ path. Some c.file) ≡ Some (verdict_on c bound trace)
