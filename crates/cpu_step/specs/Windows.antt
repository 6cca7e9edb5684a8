-- A window of code that a step is given, and hands on. Source: own.
use Rattle.std.specs.{Prelude.{◌≡◌, ◌<◌, Err, Ok}, declared.result.Result.{Result}}
use Rattle.client_world.specs.declared.faults.Event.{Event}
use Rattle.cpu_step.specs.{declared.steps.Learned.{Learned}, declared.steps.Learned.TheVariants.{Event as event, Done}}
use Rattle.guest_space.specs.declared.windows.CodeWindow.{CodeWindow}
use Rattle.host_memory.specs.View.{MachineView}

-- if the window has starts, CS holds what it held when the window was made
abbrev pub IsInSegment : MachineView → CodeWindow → Type 0
IsInSegment v w = 0 < w.starts → w.cs ≡ v.world.regs.cs

-- the window after is the window before, or has no starts
abbrev pub IsHandedOn : CodeWindow → CodeWindow → Type 0
IsHandedOn old new = 0 < new.starts → new ≡ old

-- what comes of an instruction that the memo lacks, as the answer of a step
abbrev pub learned_answer : Learned → Result (Unit {0}) Event
learned_answer (event raised) = Err raised
learned_answer Done = Ok tt
