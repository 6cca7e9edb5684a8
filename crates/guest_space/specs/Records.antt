-- The records of calls in the memory: where each is, and the machine with one more or one less. Source: own.
use Rattle.std.specs.Prelude.{◌≡◌, ◌≢◌, ℕ, ◌+◌, ◌-◌, ◌*◌, ◌<◌, ◌≤◌, List, [], ◌∷◌, ◌++◌, length, take, slice_index, slice_index_or}
use Rattle.client_world.specs.{declared.calls.Record.{Record}, declared.host_frames.TheConstants.{PAGE_SIZE, BUDGET_FRAMES, RECORDS}}
use Rattle.client_world.specs.{declared.memory_map.TheConstants.{DOS_SIZE}, declared.place.Place.{Place}}
use Rattle.client_world.specs.declared.place.Place.TheVariants.{Nothing}
use Rattle.guest_ram.specs.{Bytes.{put}, Listed.{zeros}}
use Rattle.host_memory.specs.{Layout.{address_of}, Records.{record_size}, View.{MachineView}}

-- where a record lies in the memory, the outermost one at place 0
abbrev pub record_place : ℕ → ℕ
record_place place = PAGE_SIZE * RECORDS + record_size * place

-- the machine with one more record, the innermost, whose bytes these are
abbrev pub with_record : MachineView → Record → List ℕ → MachineView
with_record v r bytes = record {
  world = record v.world { calls = v.world.calls ++ r ∷ [] };
  bytes = put v.bytes (record_place (length v.world.calls)) bytes;
}

-- the machine without its innermost record, whose bytes become 0
abbrev pub without_record : MachineView → MachineView
without_record v = record {
  world = record v.world { calls = take (length v.world.calls - 1) v.world.calls };
  bytes = put v.bytes (record_place (length v.world.calls - 1)) (zeros record_size);
}

-- the address lies in the row of a record
abbrev pub IsInRow : ℕ → ℕ → Type 0
IsInRow place at = (record_place place ≤ at) × (at < record_place place + record_size)

-- each byte of the memory that changes is the byte of one of these places, or lies in the row of that record; places keep their addresses,
-- and the host's frames keep all their bytes but those of the row
pub record OnlyAtAndRow (places : List Place) (row : ℕ) (old new : List ℕ) : Type 0 where
  pub size : length new ≡ length old
  pub addresses : (place : Place) → address_of new place ≡ address_of old place
  pub others : (at : ℕ) → ((i : ℕ) → i < length places → address_of old (slice_index_or places i Nothing) ≢ at) → ¬ IsInRow row at →
      slice_index new at ≡ slice_index old at
  pub host : (at : ℕ) → DOS_SIZE ≤ at → at < PAGE_SIZE * BUDGET_FRAMES → ¬ IsInRow row at → slice_index new at ≡ slice_index old at
