use Rattle.callbacks.proofs.{Started.{enter_pushes, leave_pops}, laws.every_callback_is_stacked.Goals.{returns as goal}}

pub returns : goal
returns c = record { enter = enter_pushes; leave = leave_pops }
