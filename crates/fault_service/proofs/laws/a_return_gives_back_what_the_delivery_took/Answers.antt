use Rattle.fault_service.proofs.RoundTrip.{trip_law, records_back}
use Rattle.fault_service.proofs.laws.a_return_gives_back_what_the_delivery_took.Goals as goal

pub returns-clause-back : goal.returns-clause-back
returns-clause-back c = trip_law c.a_flags_image_gives_its_flags_back.ensures.flags c.a_flags_image_gives_its_flags_back.ensures.interrupt

pub returns-clause-records : goal.returns-clause-records
returns-clause-records c = records_back
