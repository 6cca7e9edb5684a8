-- When a row may be put at an index: what `set_desc` of the machine asks. Source: own.
use Rattle.std.specs.Prelude.{◌≢◌, ℕ, ◌<◌, None, slice_set}
use Rattle.client_world.specs.{declared.host_frames.TheConstants.{DESCRIPTORS}, Selector.{Row, row_at_index}, Soundness.{IsSound}}
use Rattle.client_world.specs.{Soundness.{IsOfDosBlock}, World.{World}}

pub record MayPut (w : World) (index : ℕ) (row : Row) : Type 0 where
  pub within : index < DESCRIPTORS
  pub width : w.width ≢ None
  pub old_origin : ¬ IsOfDosBlock (row_at_index w.descriptors index)
  pub new_origin : ¬ IsOfDosBlock row
  pub sound : IsSound (record w { descriptors = slice_set w.descriptors index row })
