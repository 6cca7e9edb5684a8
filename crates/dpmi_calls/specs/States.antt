-- The numbers of a state. Source: own.
use Rattle.std.specs.Prelude.{◌≡◌, ◌≢◌, ◌≤◌, ◌<◌, ◌+◌, ◌*◌, ◌⊎◌, ℕ, List, Bool, if◌then◌else◌, length, slice_index, slice_index_or, None}
use Rattle.std.specs.{Prelude.{Some, IsSome}, declared.option.Option.{Option}}
use Rattle.client_world.specs.{declared.limits.TheConstants.{MAX_STEPS}, declared.outcome.Exit.{Exit}}
use Rattle.client_world.specs.declared.outcome.Exit.TheVariants.{Exited, Fault, Bound, NoKeys, ConsoleFull, Deep, Stray, LostStructure}
use Rattle.client_world.specs.{declared.outcome.Exit.TheVariants.{BadFrame, BadSwitch}, declared.registers.Mode.{Mode}}
use Rattle.client_world.specs.{declared.registers.Mode.TheVariants.{Real, Protected}, declared.segments.SegReg.{SegReg}}
use Rattle.client_world.specs.{declared.segments.SegReg.TheVariants.{Es, Cs, Ss, Ds, Fs, Gs}, Registers.{flags_image}, Segments.{selector}}
use Rattle.client_world.specs.World.{HostWorld, World, depth}
use Rattle.dpmi_calls.specs.{Clients.{ClientGiven, refusal_of}, Memory.{seen}, declared.state.State.{State}}
use Rattle.guest_space.specs.SegmentRows.{first_byte, is_big}
use Rattle.host_run.specs.Traps.{current_trap, is_trap}

-- where the segment in a register begins, whether it may be used or not
abbrev pub base_of : World → SegReg → ℕ
base_of w seg = first_byte w.mode w.descriptors (selector w.regs seg)

-- the bits of an address in the segment in a register
abbrev pub bits_of : World → SegReg → ℕ
bits_of w seg = if is_big w.mode w.descriptors (selector w.regs seg) then 32 else 16

abbrev pub mode_number : Mode → ℕ
mode_number Real = 0
mode_number Protected = 1

-- 1 for what holds
abbrev pub truth : Bool → ℕ
truth b = if b then 1 else 0

-- how a run ended, as a number; 0 while it goes on
abbrev pub exit_kind : Option Exit → ℕ
exit_kind None = 0
exit_kind (Some (Exited code)) = 1
exit_kind (Some (Fault number code)) = 2
exit_kind (Some Bound) = 3
exit_kind (Some NoKeys) = 4
exit_kind (Some ConsoleFull) = 5
exit_kind (Some Deep) = 6
exit_kind (Some Stray) = 7
exit_kind (Some LostStructure) = 8
exit_kind (Some BadFrame) = 9
exit_kind (Some BadSwitch) = 10

-- the client's code, or the number of the exception
abbrev pub exit_number : Option Exit → ℕ
exit_number (Some (Exited code)) = code
exit_number (Some (Fault number code)) = number
exit_number other = 0

-- the error code of the exception
abbrev pub exit_code : Option Exit → ℕ
exit_code (Some (Fault number code)) = code
exit_code other = 0

-- the numbers are those of the host
pub record IsState (s : State) (h : HostWorld) : Type 0 where
  pub eax : s.eax ≡ h.machine.regs.eax
  pub ecx : s.ecx ≡ h.machine.regs.ecx
  pub edx : s.edx ≡ h.machine.regs.edx
  pub ebx : s.ebx ≡ h.machine.regs.ebx
  pub esp : s.esp ≡ h.machine.regs.esp
  pub ebp : s.ebp ≡ h.machine.regs.ebp
  pub esi : s.esi ≡ h.machine.regs.esi
  pub edi : s.edi ≡ h.machine.regs.edi
  pub eip : s.eip ≡ h.machine.regs.eip
  pub flags : s.flags ≡ flags_image h.machine.regs.flags h.machine.vif
  pub es : s.es ≡ h.machine.regs.es
  pub cs : s.cs ≡ h.machine.regs.cs
  pub ss : s.ss ≡ h.machine.regs.ss
  pub ds : s.ds ≡ h.machine.regs.ds
  pub fs : s.fs ≡ h.machine.regs.fs
  pub gs : s.gs ≡ h.machine.regs.gs
  pub es_base : s.es_base ≡ base_of h.machine Es
  pub cs_base : s.cs_base ≡ base_of h.machine Cs
  pub ss_base : s.ss_base ≡ base_of h.machine Ss
  pub ds_base : s.ds_base ≡ base_of h.machine Ds
  pub fs_base : s.fs_base ≡ base_of h.machine Fs
  pub gs_base : s.gs_base ≡ base_of h.machine Gs
  pub code_bits : s.code_bits ≡ bits_of h.machine Cs
  pub stack_bits : s.stack_bits ≡ bits_of h.machine Ss
  pub mode : s.mode ≡ mode_number h.machine.mode
  pub virtual_interrupts : s.virtual_interrupts ≡ truth h.machine.vif
  pub depth : s.depth ≡ depth h.machine
  pub trap : s.trap ≡ truth (is_trap (current_trap h.machine))
  pub steps : s.steps ≡ h.steps
  pub console : s.console ≡ length h.console
  pub exit : s.exit ≡ exit_kind h.exit
  pub exit_number : s.exit_number ≡ exit_number h.exit
  pub exit_code : s.exit_code ≡ exit_code h.exit

-- ---- the rows of a call, for these numbers of turns; the hosts are given by theirs

-- each row is the state after its number of turns
abbrev pub AreStates : (ℕ → HostWorld) → List ℕ → List State → Type 0
AreStates host turns rows =
    (i : ℕ) (other : State) → i < length turns → IsState (slice_index_or rows i other) (host (slice_index turns i))

-- the memory has row after row what the client sees at each of these linear addresses
abbrev pub AreSeen : (ℕ → HostWorld) → List ℕ → List ℕ → List ℕ → Type 0
AreSeen host turns places memory = (i k : ℕ) → i < length turns → k < length places →
    slice_index memory (i * length places + k) ≡ seen (host (slice_index turns i)).machine (slice_index places k)

-- ---- refusals

-- a number of turns is below the one before it
abbrev pub Descends : List ℕ → Type 0
Descends turns = (i : ℕ) × (i + 1 < length turns) × (slice_index turns (i + 1) < slice_index turns i)

-- a number of turns is above the greatest
abbrev pub PassesMost : List ℕ → Type 0
PassesMost turns = (i : ℕ) × (i < length turns) × (MAX_STEPS < slice_index turns i)

-- no number of turns is below the one before it or above the greatest
abbrev pub AreInOrder : List ℕ → Type 0
AreInOrder turns = ((i : ℕ) → i + 1 < length turns → slice_index turns i ≤ slice_index turns (i + 1))
    × ((i : ℕ) → i < length turns → slice_index turns i ≤ MAX_STEPS)

-- states are given: the lengths are as they should be, the turns are in order, and the client is taken
pub record IsStatesCall (c : ClientGiven) (turns : List ℕ) (places rows_length memory_length : ℕ) : Type 0 where
  pub rows : rows_length ≡ length turns
  pub memory : memory_length ≡ length turns * places
  pub order : AreInOrder turns
  pub client : refusal_of c 0 0 ≡ None

-- why no states are given: a length isn't as it should be, the turns aren't in order, or the client is refused
abbrev pub IsRefusedStates : ClientGiven → List ℕ → ℕ → ℕ → ℕ → Type 0
IsRefusedStates c turns places rows memory =
    (rows ≢ length turns) ⊎ (memory ≢ length turns * places) ⊎ Descends turns ⊎ PassesMost turns ⊎ IsSome (refusal_of c 0 0)
