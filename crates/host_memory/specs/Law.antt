-- What the walk of the page tables must agree with. Source: own.
use Rattle.std.specs.Prelude.{◌≡◌, ℕ, ◌*◌, ◌<◌, ◌≤◌, ◌⊎◌, Bool, if◌then◌else◌, Ok, List, length, slice_index}
use Rattle.std.specs.declared.result.Result.{Result}
use Rattle.client_world.specs.{declared.faults.PageFault.{PageFault}, declared.place.Place.{Place}}
use Rattle.client_world.specs.{declared.host_frames.TheConstants.{PAGE_SIZE, BUDGET_FRAMES}, declared.memory_map.TheConstants.{DOS_SIZE}}
use Rattle.client_world.specs.{Access.{may_touch, is_present, byte_of}, World.{World}}
use Rattle.page_tables.specs.Walk.{fault}
use Rattle.host_memory.specs.Layout.{address_of}

-- where an access to a place ends, or how it fails
unfoldable pub walk_result : List ℕ → Place → Bool → Result ℕ PageFault
walk_result b place write = if may_touch place write then Ok (address_of b place) else fault (is_present place)

-- the world's byte at a place is at the place's address, which lies inside the memory and in none of the host's frames
pub record StandsAt (b : List ℕ) (w : World) (place : Place) : Type 0 where
  pub byte : slice_index b (address_of b place) ≡ byte_of w place
  pub inside : address_of b place < length b
  pub away : (address_of b place < DOS_SIZE) ⊎ (PAGE_SIZE * BUDGET_FRAMES ≤ address_of b place)
