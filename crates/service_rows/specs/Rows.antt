-- Words that the services share. Source: own.
use Rattle.std.specs.{Prelude.{ℕ, Bool, true, false, ◌&&◌, nat_eq, slice_set, None, Some}, declared.option.Option.{Option}}
use Rattle.client_world.specs.{declared.descriptors.Desc.{Desc}, declared.descriptors.Kind.TheVariants.{Data}}
use Rattle.client_world.specs.{declared.registers.Regs.{Regs}, declared.registers.Width.{Width}}
use Rattle.client_world.specs.declared.registers.Width.TheVariants.{Sixteen, ThirtyTwo}
use Rattle.client_world.specs.{declared.selectors.TheConstants.{CLIENT_PRIVILEGE}, Descriptor.{is_code, plain}, Registers.{low_half}}
use Rattle.client_world.specs.{Registers.{with_low_half}, Selector.{Row, privilege_of}, Services.{desc_of}, World.{World}}

-- the world with another AX
abbrev pub with_ax : ℕ → World → World
with_ax v w = record w { regs = record w.regs { eax = with_low_half w.regs.eax v } }

-- the world with another BX
abbrev pub with_bx : ℕ → World → World
with_bx v w = record w { regs = record w.regs { ebx = with_low_half w.regs.ebx v } }

-- the world with another descriptor row at an index
abbrev pub with_row : ℕ → Row → World → World
with_row index row w = record w { descriptors = slice_set w.descriptors index row }

-- the registers with carry
abbrev pub with_carry : Bool → Regs → Regs
with_carry on r = record r { flags = record r.flags { cf = on } }

-- a register named (E)X with a new value: in its low half for a 16-bit client, in all of it for a 32-bit one
abbrev pub with_by_width : Option Width → ℕ → ℕ → ℕ
with_by_width None register v = with_low_half register (low_half v)
with_by_width (Some Sixteen) register v = with_low_half register (low_half v)
with_by_width (Some ThirtyTwo) register v = v

-- present, writable data at an address, with a limit in bytes below 100000h
abbrev pub data_at : ℕ → ℕ → Desc
data_at base limit = plain (Data true false) base limit false

-- a descriptor row holds present code
abbrev pub is_present_code : Row → Bool
is_present_code None = false
is_present_code (Some row) = is_code row.0.kind && row.0.present

-- a code selector: its requested privilege level is 3, and its descriptor is present code
abbrev pub is_code_selector : World → ℕ → Bool
is_code_selector w sel = nat_eq (privilege_of sel) CLIENT_PRIVILEGE && is_present_code (desc_of w sel)
