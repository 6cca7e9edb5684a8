-- What contracts see of a machine. Source: own.
use Rattle.std.specs.Prelude.{◌≡◌, ◌≢◌, ℕ, ◌*◌, ◌<◌, ◌≤◌, List, length, slice_index, slice_index_or}
use Rattle.client_world.specs.{declared.place.Place.{Place}, declared.place.Place.TheVariants.{Nothing}}
use Rattle.client_world.specs.{declared.host_frames.TheConstants.{PAGE_SIZE, BUDGET_FRAMES}, declared.memory_map.TheConstants.{DOS_SIZE}}
use Rattle.client_world.specs.World.{World}
use Rattle.host_memory.specs.Layout.{address_of}

-- the model's world, and the bytes of the memory that holds it
pub record MachineView : Type 0 where
  pub world : World
  pub bytes : List ℕ

-- each byte of the memory that changes is the byte of one of these places, and places keep their addresses; so do the host's frames all
-- their bytes
pub record OnlyAt (places : List Place) (old new : List ℕ) : Type 0 where
  pub size : length new ≡ length old
  pub addresses : (place : Place) → address_of new place ≡ address_of old place
  pub others : (at : ℕ) → ((i : ℕ) → i < length places → address_of old (slice_index_or places i Nothing) ≢ at) →
      slice_index new at ≡ slice_index old at
  pub host : (at : ℕ) → DOS_SIZE ≤ at → at < PAGE_SIZE * BUDGET_FRAMES → slice_index new at ≡ slice_index old at
