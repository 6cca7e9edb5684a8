use Rattle.host_memory.specs.Vectors.{callback_bytes}
use Rattle.guest_space.proofs.vectors.set_callback.Goals as goal

pub returns-in-Some : goal.returns-in-Some
unfolding callback_bytes
returns-in-Some c = rw (c.in-Some.is) c.set_slot.ensures

pub returns-in-None : goal.returns-in-None
unfolding callback_bytes
returns-in-None c = rw (c.in-None.is) c.set_slot-in-None.ensures
