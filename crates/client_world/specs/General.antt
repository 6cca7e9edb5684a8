-- The general registers by their numbers. Source: 80386 Programmer's Reference Manual, ch. 2, "General Registers", and ch. 17, "reg".
use Rattle.std.specs.Prelude.{ℕ, nat_eq, if◌then◌else◌}
use Rattle.client_world.specs.{declared.general.TheConstants.{EAX, ECX, EDX, EBX, ESP, EBP, ESI}, declared.registers.Regs.{Regs}}

-- what the general register of a number 0 to 7 holds; greater numbers are EDI
unfoldable pub general : Regs → ℕ → ℕ
general r n =
    if nat_eq n EAX then r.eax else
    if nat_eq n ECX then r.ecx else
    if nat_eq n EDX then r.edx else
    if nat_eq n EBX then r.ebx else
    if nat_eq n ESP then r.esp else
    if nat_eq n EBP then r.ebp else
    if nat_eq n ESI then r.esi else
    r.edi

-- the registers with another number there
unfoldable pub with_general : Regs → ℕ → ℕ → Regs
with_general r n v =
    if nat_eq n EAX then record r { eax = v } else
    if nat_eq n ECX then record r { ecx = v } else
    if nat_eq n EDX then record r { edx = v } else
    if nat_eq n EBX then record r { ebx = v } else
    if nat_eq n ESP then record r { esp = v } else
    if nat_eq n EBP then record r { ebp = v } else
    if nat_eq n ESI then record r { esi = v } else
    record r { edi = v }
