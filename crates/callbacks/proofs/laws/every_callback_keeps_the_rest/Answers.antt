use Rattle.callbacks.proofs.{Started.{enter_left, leave_left}, Served.{refused_world, serve_left}}
use Rattle.callbacks.proofs.laws.every_callback_keeps_the_rest.Goals.{returns as goal}

pub returns : goal
returns c = record { serve = serve_left; refused = refused_world; enter = enter_left; leave = leave_left }
