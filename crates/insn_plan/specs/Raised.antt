-- An event in one word. Source: own.
use Rattle.std.specs.Prelude.{ℕ, nat_eq, if◌then◌else◌, ◌%◌, ◌/◌}
use Rattle.client_world.specs.{declared.faults.Event.{Event}, declared.faults.Event.TheVariants.{Fault as fault, Soft}}

-- bit 0 tells a software interrupt from an exception; the number lies from bit 1 on, the length of the interrupt's instruction from bit 9
-- on, and the exception's error code from bit 17 on
abbrev pub event_in : ℕ → Event
event_in word =
    if nat_eq (word % 2) 0 then fault (record { number = word / 2 % 0x100; code = word / 0x2_0000 % 0x1_0000_0000 })
    else Soft (word / 2 % 0x100) (word / 0x200 % 0x100)
