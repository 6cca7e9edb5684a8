use Rattle.{std.proofs.Common.{rules}, callbacks.specs.Services.{allocate_callback}}
use Rattle.callbacks.proofs.services.allocate_callback.Goals.{returns as goal}

pub returns : goal
unfolding allocate_callback
returns c = search rules
