-- A client that follows a script, for tests: each of its turns takes a byte of the script, and writes it unless it is a dot; at the end of
-- the script it exits. Source: own.
use Rattle.std.specs.Prelude.{◌≡◌, ℕ, ◌+◌, ◌++◌, List, [], ◌∷◌, false, nat_eq, if◌then◌else◌, None, Some, IsSome}
use Rattle.std.specs.declared.option.Option.{Option}
use Rattle.std.proofs.Common.{ap, refl, sym, append-nil}
use Rattle.client_world.specs.{declared.outcome.Exit.{Exit}, declared.outcome.Exit.TheVariants.{Bound, Exited}}
use Rattle.client_world.specs.{declared.registers.Mode.TheVariants.{Real}, declared.registers.Flags.{Flags}, declared.registers.Regs.{Regs}}
use Rattle.client_world.specs.{World.{HostWorld, World}, Console.{Extends}, WatchWorld.{WatchWorld}}

-- the byte of a turn that writes nothing
abbrev pub dot : ℕ
dot = 0x2E

-- the host after a turn that has this script left
abbrev pub after_byte : HostWorld → List ℕ → HostWorld
after_byte h [] = record h { exit = Some (Exited 0) }
after_byte h (byte ∷ rest) = record h { keys = rest; console = h.console ++ (if nat_eq byte dot then [] else byte ∷ []) }

abbrev pub scripted_by : Option Exit → HostWorld → HostWorld
scripted_by None h = after_byte (record h { steps = h.steps + 1 }) h.keys
scripted_by (Some exit) h = h

abbrev pub scripted_host : HostWorld → HostWorld
scripted_host h = scripted_by h.exit h

abbrev pub scripted_turn : WatchWorld → WatchWorld
scripted_turn w = record w { host = scripted_host w.host }

abbrev pub scripted_close : WatchWorld → WatchWorld
scripted_close w = record w { host = record w.host { exit = Some Bound } }

abbrev pub no_flags : Flags
no_flags = record { cf = false; pf = false; af = false; zf = false; sf = false; df = false; of = false }

abbrev pub no_regs : Regs
no_regs = record {
  eax = 0;
  ecx = 0;
  edx = 0;
  ebx = 0;
  esp = 0;
  ebp = 0;
  esi = 0;
  edi = 0;
  eip = 0;
  flags = no_flags;
  es = 0;
  cs = 0;
  ss = 0;
  ds = 0;
  fs = 0;
  gs = 0;
}

-- a machine that is never looked at
abbrev pub no_machine : World
no_machine = record {
  mode = Real;
  regs = no_regs;
  vif = false;
  width = None;
  dos = [];
  arena = [];
  blocks = [];
  budget = 0;
  pageable = [];
  descriptors = [];
  interrupt_vectors = [];
  exception_vectors = [];
  callbacks = [];
  calls = [];
}

-- the client with this script left, that wrote these bytes in this many turns
abbrev pub scripted_world : List ℕ → List ℕ → ℕ → Option Exit → WatchWorld
scripted_world script console steps exit = record {
  host = record {
    machine = no_machine;
    keys = script;
    console = console;
    keep = 0;
    kept = [];
    lines = 0;
    steps = steps;
    exit = exit;
  };
  watching = record { watches = []; due = false };
}

-- ---- its laws

stays_by : (h : HostWorld) (o : Option Exit) → IsSome o → scripted_by o h ≡ h
stays_by h None some = cc
stays_by h (Some exit) some = refl

pub scripted_stays : (w : WatchWorld) → IsSome w.host.exit → scripted_turn w ≡ w
scripted_stays w some = ap (λ (h : HostWorld). let v : WatchWorld = record w { host = h } in v) (stays_by w.host w.host.exit some)

byte_counted : (h : HostWorld) (script : List ℕ) → (after_byte h script).steps ≡ h.steps
byte_counted h [] = refl
byte_counted h (byte ∷ rest) = refl

counts_by : (h : HostWorld) (o : Option Exit) → o ≡ None → (scripted_by o h).steps ≡ h.steps + 1
counts_by h None none = byte_counted (record h { steps = h.steps + 1 }) h.keys
counts_by h (Some exit) none = cc

pub scripted_counts : (w : WatchWorld) → w.host.exit ≡ None → (scripted_turn w).host.steps ≡ w.host.steps + 1
scripted_counts w none = counts_by w.host w.host.exit none

byte_extends : (h : HostWorld) (script : List ℕ) → Extends h.console (after_byte h script).console
byte_extends h [] = ([], sym (append-nil h.console))
byte_extends h (byte ∷ rest) = (if nat_eq byte dot then [] else byte ∷ [], refl)

extends_by : (h : HostWorld) (o : Option Exit) → Extends h.console (scripted_by o h).console
extends_by h None = byte_extends (record h { steps = h.steps + 1 }) h.keys
extends_by h (Some exit) = ([], sym (append-nil h.console))

pub scripted_extends : (w : WatchWorld) → Extends w.host.console (scripted_turn w).host.console
scripted_extends w = extends_by w.host w.host.exit
