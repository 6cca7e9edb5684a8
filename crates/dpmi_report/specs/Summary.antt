-- The text of the run of a made client. Source: own.
use Rattle.std.specs.{Prelude.{ℕ, ◌++◌, List, [], Bool, true, false, length, codes, Some, None, count_by}, Fmt.{decimal}}
use Rattle.hex.specs.Hex.{encode_lower}
use Rattle.sha2.specs.Sha256.{sha256}
use Rattle.client_world.specs.{declared.outcome.Exit.{Exit}, Services.{is_set}, declared.trace.TraceLine.{TraceLine}}
use Rattle.client_world.specs.declared.trace.TraceLine.TheVariants.{Int31, Int21, Int2f, Int20, Entry, EntryRefused, ToProtected, ToReal}
use Rattle.client_world.specs.{declared.trace.TraceLine.TheVariants.{Enter, Leave}, World.{HostWorld}}
use Rattle.dpmi_io.specs.LineEnd.{line_end}
use Rattle.dpmi_report.specs.Lines.{exit_part, dos_line}

-- the number of the client
abbrev pub soak_head : ℕ → List ℕ
soak_head number = codes "soak " ++ decimal number ++ line_end

-- the line is that of a service of INT 31h
abbrev pub is_service : TraceLine → Bool
is_service (Int31 ax carry) = true
is_service (Int21 ah) = false
is_service (Int2f ax) = false
is_service Int20 = false
is_service (Entry width) = false
is_service EntryRefused = false
is_service ToProtected = false
is_service ToReal = false
is_service (Enter depth what regs vif) = false
is_service (Leave depth what regs vif) = false

-- the line is that of a service that refused
abbrev pub is_refusal : TraceLine → Bool
is_refusal (Int31 ax carry) = is_set carry
is_refusal (Int21 ah) = false
is_refusal (Int2f ax) = false
is_refusal Int20 = false
is_refusal (Entry width) = false
is_refusal EntryRefused = false
is_refusal ToProtected = false
is_refusal ToReal = false
is_refusal (Enter depth what regs vif) = false
is_refusal (Leave depth what regs vif) = false

-- the number of services, and of those that refused
abbrev pub services_text : ℕ → ℕ → List ℕ
services_text services carries = codes "services " ++ decimal services ++ codes " carries " ++ decimal carries ++ line_end

abbrev pub services_line : List TraceLine → List ℕ
services_line kept = services_text (count_by is_service kept) (count_by is_refusal kept)

-- the number of the console's bytes, and their digest
abbrev pub console_digest_text : ℕ → List ℕ → List ℕ
console_digest_text count digest = codes "console " ++ decimal count ++ codes " sha256=" ++ encode_lower digest ++ line_end

abbrev pub console_line : List ℕ → List ℕ
console_line console = console_digest_text (length console) (sha256 console)

-- the text of the run of a made client that ended so
abbrev pub summary_at : ℕ → HostWorld → Exit → List ℕ
summary_at number w exit =
    ((soak_head number ++ exit_part exit w.steps) ++ services_line w.kept) ++ (console_line w.console ++ dos_line w.machine.dos)

-- the text of the run of a made client
abbrev pub summary : ℕ → HostWorld → List ℕ
summary number w = elim w.exit [ None ↦ [] | Some exit ↦ summary_at number w exit ]
