-- An instruction as data: what it reads, one after another, and then one outcome of the values that it read. A row of the instruction
-- table is written in `do` notation: `v ← input` reads, and the last line says how the instruction ends. Source: own.
use Rattle.std.specs.{Prelude.{◌≡◌, ◌⊎◌, ℕ, Bool, List, [], Ok, Err, Option, None, Some}, declared.result.Result.{Result}}
use Rattle.client_world.specs.{declared.registers.Flags.{Flags}, declared.registers.Regs.{Regs}, declared.segments.SegReg.{SegReg}}
use Rattle.client_world.specs.{declared.faults.Fault.{Fault}, declared.faults.Event.{Event}}
use Rattle.client_world.specs.{declared.faults.Event.TheVariants.{Fault as fault}, World.{World}}
use Rattle.guest_space.specs.{declared.pending.Write.{Write}, Transfer.{read_result}}
use Rattle.insn_forms.specs.Grammar.{little_endian}

-- what an instruction reads: a number that is known, or the number of n bytes at an offset of a segment register
pub data Input : Type 0 where
  Given : ℕ → Input
  From : SegReg → ℕ → ℕ → Input

-- what an instruction leaves: the registers, the virtual interrupt flag, and its writes in their order
pub record Pending : Type 0 where
  pub regs : Regs
  pub vif : Bool
  pub writes : List Write

-- how an instruction ends: it is done, or it raises an exception, or it is the software interrupt of a number, with its own length in bytes
pub data Ending : Type 0 where
  Done : Pending → Ending
  Raise : Fault → Ending
  Interrupt : ℕ → ℕ → Ending

-- an instruction: its reads, and then its outcome
pub data Act : Type 0 where
  End : Ending → Act
  Read : Input → (ℕ → Act) → Act

infixl 10 ◌>>=◌
abbrev pub ◌>>=◌ : Input → (ℕ → Act) → Act
input >>= rest = Read input rest

abbrev pub done : Pending → Act
done p = End (Done p)

abbrev pub raise : Fault → Act
raise f = End (Raise f)

-- the exception where there is one, else what follows
abbrev pub unless_fault : Option Fault → Act → Act
unless_fault None rest = rest
unless_fault (Some f) rest = raise f

-- nothing is changed yet
abbrev pub unchanged : World → Pending
unchanged w = record { regs = w.regs; vif = w.vif; writes = [] }

-- that with other registers
abbrev pub with_regs : Regs → Pending → Pending
with_regs r p = record p { regs = r }

-- other flags, and nothing else
abbrev pub with_flags : Flags → World → Pending
with_flags f w = record (unchanged w) { regs = record w.regs { flags = f } }

-- the counts of bytes of which numbers are read
abbrev pub IsCount : ℕ → Type 0
IsCount n = (n ≡ 1) ⊎ (n ≡ 2) ⊎ (n ≡ 4) ⊎ (n ≡ 6) ⊎ (n ≡ 8)

-- the number that a read of bytes gives, or its fault
abbrev pub number_read : Result (List ℕ) Fault → Result ℕ Event
number_read (Ok bytes) = Ok (little_endian bytes)
number_read (Err f) = Err (fault f)

-- the number that an input denotes, or the fault of its read
unfoldable pub value_of : World → Input → Result ℕ Event
value_of w (Given v) = Ok v
value_of w (From seg off n) = number_read (read_result w seg off n)
