-- The functions of INT 31h: which numbers have a service, and in which family. Source: DPMI 0.9; that all others are refused with a number
-- is own.
use Rattle.std.specs.{Prelude.{ℕ, Bool, ◌&&◌, ◌||◌, nat_eq, nat_le, if◌then◌else◌, None, Some}, declared.option.Option.{Option}}
use Rattle.client_world.specs.{Services.{Served}, World.{World}}
use Rattle.block_services.specs.Rows.{block_service}
use Rattle.callbacks.specs.Services.{callback_service}
use Rattle.desc_services.specs.Rows.{descriptor_service}
use Rattle.dos_blocks.specs.Services.{dos_service}
use Rattle.mode_gates.specs.Switches.{gate_service}
use Rattle.service_rows.specs.{declared.refusal.Refusal.TheVariants.{Unsupported}, Reasons.{refusal_answer}}
use Rattle.vector_services.specs.Rows.{vector_service}
use Rattle.host_run.specs.{declared.families.Family.{Family}, declared.families.Family.TheVariants.{Descriptors, DosMemory, Vectors}}
use Rattle.host_run.specs.declared.families.Family.TheVariants.{Callbacks, Gates, Blocks}

-- the number is one of those from first to last
abbrev pub is_between : ℕ → ℕ → ℕ → Bool
is_between first last ax = nat_le first ax && nat_le ax last

-- the family of a function number, where one has it; functions 0300h to 0302h have none: the host begins those calls itself
unfoldable pub family_of : ℕ → Option Family
family_of ax =
    if is_between 0x0000 0x0003 ax || is_between 0x0006 0x000D ax then Some Descriptors else
    if is_between 0x0100 0x0102 ax then Some DosMemory else
    if is_between 0x0200 0x0205 ax || nat_eq ax 0x0400 || is_between 0x0900 0x0902 ax then Some Vectors else
    if is_between 0x0303 0x0304 ax then Some Callbacks else
    if is_between 0x0305 0x0306 ax then Some Gates else
    if is_between 0x0500 0x0503 ax || is_between 0x0600 0x0604 ax || is_between 0x0702 0x0703 ax then Some Blocks else
    None

-- a function in its family; a function number that no family has is refused
abbrev pub service_of : Option Family → ℕ → World → Served
service_of (Some Descriptors) ax w = descriptor_service ax w
service_of (Some DosMemory) ax w = dos_service ax w
service_of (Some Vectors) ax w = vector_service ax w
service_of (Some Callbacks) ax w = callback_service ax w
service_of (Some Gates) ax w = gate_service ax w
service_of (Some Blocks) ax w = block_service ax w
service_of None ax w = refusal_answer Unsupported w

-- the carry that INT 31h returns, and the world after it
unfoldable pub service : ℕ → World → Served
service ax w = service_of (family_of ax) ax w
