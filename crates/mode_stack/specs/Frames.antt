-- Where a frame lies on the host's stacks of protected mode: that of an exception, and that of a callback. Source: own.
use Rattle.std.specs.Prelude.{ℕ, ◌+◌, ◌-◌, ◌*◌}
use Rattle.client_world.specs.{declared.memory_map.TheConstants.{PROTECTED_STACK_SIZE}, declared.segments.FarPtr.{FarPtr}}
use Rattle.client_world.specs.{declared.selectors.TheConstants.{HOST_STACKS}, Selector.{selector_of}, World.{World, depth}}

-- the address of a frame of `size` bytes: it ends where the stack of the depth does
abbrev pub frame_address : World → ℕ → FarPtr
frame_address w size = record { sel = selector_of HOST_STACKS; off = (depth w + 1) * PROTECTED_STACK_SIZE - size }
