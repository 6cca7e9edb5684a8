-- Which watchpoints the next instruction hits. Addresses are compared as linear numbers, before the instruction runs. Source: own.
use Rattle.std.specs.Prelude.{ℕ, ◌+◌, ◌*◌, Bool, false, cond, not, ◌&&◌, ◌||◌, List, [], ◌∷◌, nat_le, nat_lt, None, Some}
use Rattle.std.specs.declared.option.Option.{Option}
use Rattle.client_world.specs.{Access.{linear}, WatchWorld.{Watching}, World.{World}, declared.watchpoints.Touch.{Touch}}
use Rattle.client_world.specs.{declared.watchpoints.Watch.{Watch}, declared.watchpoints.WatchKind.TheVariants.{Execute, Write, ReadOrWrite}}
use Rattle.guest_space.specs.SegmentRows.{first_byte}
use Rattle.insn_decode.specs.{declared.decoding.Decoded.{Decoded}, declared.decoding.Decoded.TheVariants.{Whole, More, Invalid}}
use Rattle.insn_decode.specs.Decode.{decoded}
use Rattle.insn_plan.specs.Accesses.{with_next_eip, touches}
use Rattle.cpu_step.specs.Step.{has_big_code, code, client_row}

-- the touches of what the code bytes are; none where they are no instruction, or it is an event
abbrev pub touches_of_code : World → Decoded → Option (List Touch)
touches_of_code w (Whole insn len) = touches (with_next_eip len w) (client_row (with_next_eip len w) insn len)
touches_of_code w More = None
touches_of_code w Invalid = None

-- those of the instruction at CS:EIP
unfoldable pub next_touches : World → Option (List Touch)
next_touches w = touches_of_code w (decoded (has_big_code w) (code w))

-- the linear address of CS:EIP
abbrev pub instruction_address : World → ℕ
instruction_address w = linear (first_byte w.mode w.descriptors w.regs.cs + w.regs.eip)

-- a watchpoint's bytes and those of a touch have one in common
abbrev pub overlaps : Watch → Touch → Bool
overlaps x t = nat_lt x.at (t.lin + t.len) && nat_lt t.lin (x.at + x.size)

-- it watches for the touch: for reads and writes, or for writes alone
abbrev pub watches_for : Watch → Touch → Bool
watches_for x t = elim x.kind [ Execute ↦ false | Write ↦ t.write && overlaps x t | ReadOrWrite ↦ overlaps x t ]

-- it watches for one of them
unfoldable pub watches_one : Watch → List Touch → Bool
watches_one x [] = false
watches_one x (t ∷ rest) = watches_for x t || watches_one x rest

-- its bytes have that address
abbrev pub covers : Watch → ℕ → Bool
covers x at = nat_le x.at at && nat_lt at (x.at + x.size)

-- an instruction at an address, with those touches, hits it
abbrev pub is_hit : ℕ → List Touch → Watch → Bool
is_hit at touched x = elim x.kind [
  | Execute ↦ covers x at
  | Write ↦ watches_one x touched
  | ReadOrWrite ↦ watches_one x touched
]

-- the same of a handle, whether it is held or not, where the instruction is no event
abbrev pub slot_hit : ℕ → Option (List Touch) → Option Watch → Bool
slot_hit at None slot = false
slot_hit at (Some touched) None = false
slot_hit at (Some touched) (Some x) = is_hit at touched x

-- the number whose bit k says whether the k-th handle is hit
unfoldable pub hit_bits : ℕ → Option (List Touch) → List (Option Watch) → ℕ
hit_bits at touched [] = 0
hit_bits at touched (slot ∷ slots) = cond (slot_hit at touched slot) 1 0 + 2 * hit_bits at touched slots

-- the handles that the instruction at CS:EIP hits, from bit 0 on
abbrev pub hits : World → List (Option Watch) → ℕ
hits w slots = hit_bits (instruction_address w) (next_touches w) slots

-- ---- what a hit leaves

-- a hit sets the status
abbrev pub watch_after_touches : ℕ → Option (List Touch) → Option Watch → Option Watch
watch_after_touches at touched None = None
watch_after_touches at touched (Some x) = Some (record x { hit = x.hit || slot_hit at touched (Some x) })

abbrev pub watches_after_touches : ℕ → Option (List Touch) → List (Option Watch) → List (Option Watch)
watches_after_touches at touched [] = []
watches_after_touches at touched (slot ∷ slots) = watch_after_touches at touched slot ∷ watches_after_touches at touched slots

-- a hit where the status was clear
abbrev pub is_first_hit : ℕ → Option (List Touch) → Option Watch → Bool
is_first_hit at touched None = false
is_first_hit at touched (Some x) = not x.hit && slot_hit at touched (Some x)

abbrev pub has_first_hit : ℕ → Option (List Touch) → List (Option Watch) → Bool
has_first_hit at touched [] = false
has_first_hit at touched (slot ∷ slots) = is_first_hit at touched slot || has_first_hit at touched slots

-- the watchpoints after an instruction at an address with those touches
unfoldable pub with_hits : ℕ → Option (List Touch) → Watching → Watching
with_hits at touched s = record {
  watches = watches_after_touches at touched s.watches;
  due = s.due || has_first_hit at touched s.watches;
}
