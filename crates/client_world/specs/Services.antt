-- Words that the services of INT 31h share. Source: DPMI 0.9.
use Rattle.std.specs.{Prelude.{ℕ, ◌+◌, ◌*◌, Bool, true, false, None, Some}, declared.option.Option.{Option}}
use Rattle.client_world.specs.{declared.registers.Width.{Width}, declared.registers.Width.TheVariants.{Sixteen, ThirtyTwo}}
use Rattle.client_world.specs.{declared.descriptors.Origin.{Origin}, declared.descriptors.Origin.TheVariants.{Own, Low, Entry, Psp}}
use Rattle.client_world.specs.{declared.descriptors.Origin.TheVariants.{Segment, Dos, Host}, declared.segments.FarPtr.{FarPtr}}
use Rattle.client_world.specs.{declared.services.Carry.{Carry}, declared.services.Carry.TheVariants.{Clear, Set}, Registers.{low_half}}
use Rattle.client_world.specs.{Selector.{Row, row_of_selector}, World.{World}}

-- the carry flag is set
abbrev pub is_set : Carry → Bool
is_set Clear = false
is_set Set = true

-- the carry that a service returns, and the world after it
pub record Served : Type 0 where
  pub carry : Carry
  pub world : World

-- the descriptor that a selector names; whatever privilege level it asks for
abbrev pub desc_of : World → ℕ → Row
desc_of w sel = row_of_selector w.descriptors sel

-- the selector is held
abbrev pub is_held : World → ℕ → Bool
is_held w sel = elim (desc_of w sel) [ None ↦ false | Some d ↦ true ]

-- a client may change descriptors of these origins
abbrev pub is_changeable_origin : Origin → Bool
is_changeable_origin Own = true
is_changeable_origin Low = true
is_changeable_origin Entry = true
is_changeable_origin Psp = true
is_changeable_origin (Segment segment) = false
is_changeable_origin (Dos segment) = false
is_changeable_origin Host = false

-- the selector is held, and its descriptor may be changed
abbrev pub is_changeable : World → ℕ → Bool
is_changeable w sel = elim (desc_of w sel) [ None ↦ false | Some d ↦ is_changeable_origin d.1 ]

-- a register named (E)X: the low half for a 16-bit client, all of it for a 32-bit one
abbrev pub by_width : Option Width → ℕ → ℕ
by_width None register = low_half register
by_width (Some Sixteen) register = low_half register
by_width (Some ThirtyTwo) register = register

-- registers of 16 bits
abbrev pub ax : World → ℕ
ax w = low_half w.regs.eax

abbrev pub bx : World → ℕ
bx w = low_half w.regs.ebx

abbrev pub cx : World → ℕ
cx w = low_half w.regs.ecx

abbrev pub dx : World → ℕ
dx w = low_half w.regs.edx

-- the number of two words, the high one first
abbrev pub two_words : ℕ → ℕ → ℕ
two_words high low = high * 0x10000 + low

-- the pointer ES:(E)DI
abbrev pub es_di : World → FarPtr
es_di w = record { sel = w.regs.es; off = by_width w.width w.regs.edi }
