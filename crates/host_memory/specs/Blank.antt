-- The world of a new machine. Source: own.
use Rattle.std.specs.Prelude.{ℕ, ◌+◌, ◌-◌, ◌/◌, ◌%◌, true, false, nat_eq, nat_lt, if◌then◌else◌, List, [], ◌∷◌, None}
use Rattle.client_world.specs.{declared.registers.Mode.TheVariants.{Real}, declared.registers.Regs.{Regs}, declared.registers.Flags.{Flags}}
use Rattle.client_world.specs.{declared.segments.FarPtr.{FarPtr}, declared.dos_memory.DosEntry.{DosEntry}}
use Rattle.client_world.specs.{declared.dos_memory.DosState.TheVariants.{Free}, declared.host_frames.TheConstants.{DESCRIPTORS}}
use Rattle.client_world.specs.declared.limits.TheConstants.{MAX_BLOCKS, CALLBACKS, INTERRUPT_VECTORS, EXCEPTION_VECTORS}
use Rattle.client_world.specs.declared.memory_map.TheConstants.{DOS_SIZE, DOS_VIEW_PAGES, VECTOR_TABLE_SIZE, ROM_START, ROM_SEGMENT}
use Rattle.client_world.specs.declared.memory_map.TheConstants.{ROM_BYTE, ARENA_START, ARENA_END}
use Rattle.client_world.specs.{declared.selectors.TheConstants.{HOST_CODE}, declared.traps.TheConstants.{PROTECTED_VECTOR_TRAPS}}
use Rattle.client_world.specs.{declared.traps.TheConstants.{EXCEPTION_TRAPS}, Selector.{selector_of}, World.{World}}
use Rattle.guest_ram.specs.Listed.{listed}
use Rattle.host_memory.specs.Headers.{with_headers}

abbrev pub no_flags : Flags
no_flags = record { cf = false; pf = false; af = false; zf = false; sf = false; df = false; of = false }

abbrev pub no_regs : Regs
no_regs = record {
  eax = 0;
  ecx = 0;
  edx = 0;
  ebx = 0;
  esp = 0;
  ebp = 0;
  esi = 0;
  edi = 0;
  eip = 0;
  flags = no_flags;
  es = 0;
  cs = 0;
  ss = 0;
  ds = 0;
  fs = 0;
  gs = 0;
}

-- the byte of the real vector table at an address: vector n is the far pointer F000h:n, its offset's word first
abbrev pub vector_byte : ℕ → ℕ
vector_byte at =
    if nat_eq (at % 4) 0 then at / 4 else
    if nat_eq (at % 4) 3 then ROM_SEGMENT / 0x100 else
    0

-- the byte of the megabyte at an address: the real vectors, zeros, and read-only memory from F0000h on
abbrev pub plain_byte : ℕ → ℕ
plain_byte at =
    if nat_lt at VECTOR_TABLE_SIZE then vector_byte at else
    if nat_lt at ROM_START then 0 else
    ROM_BYTE

-- the one entry of DOS memory: all of the arena is free
abbrev pub blank_arena : List DosEntry
blank_arena = record { at = ARENA_START; paras = ARENA_END - ARENA_START - 1; state = Free } ∷ []

-- the megabyte with that entry's header
unfoldable pub blank_megabyte : List ℕ
blank_megabyte = with_headers (listed DOS_SIZE plain_byte) blank_arena

-- a protected vector that the host serves: a trap byte in the segment of its code
abbrev pub host_pointer : ℕ → FarPtr
host_pointer trap = record { sel = selector_of HOST_CODE; off = trap - ROM_START }

-- real mode, registers 0, virtual interrupts enabled, the vectors that lead to the host, and nothing else
unfoldable pub blank_world : ℕ → World
blank_world budget = record {
  mode = Real;
  regs = no_regs;
  vif = true;
  width = None;
  dos = blank_megabyte;
  arena = blank_arena;
  blocks = listed MAX_BLOCKS (λ place. None);
  budget = budget;
  pageable = listed DOS_VIEW_PAGES (λ page. false);
  descriptors = listed DESCRIPTORS (λ index. None);
  interrupt_vectors = listed INTERRUPT_VECTORS (λ n. host_pointer (PROTECTED_VECTOR_TRAPS + n));
  exception_vectors = listed EXCEPTION_VECTORS (λ n. host_pointer (EXCEPTION_TRAPS + n));
  callbacks = listed CALLBACKS (λ slot. None);
  calls = [];
}
