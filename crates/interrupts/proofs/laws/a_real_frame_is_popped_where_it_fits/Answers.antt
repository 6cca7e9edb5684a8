use Rattle.interrupts.proofs.{ReturnPlans.{popped_where_it_fits}, laws.a_real_frame_is_popped_where_it_fits.Goals.{returns as goal}}

pub returns : goal
returns c = popped_where_it_fits
