use Rattle.host_run.proofs.{Touches.{client_changes}, laws.every_client_turn_changes_only_its_footprint.Goals.{returns as goal}}

pub returns : goal
returns c = λ v u machine.
    client_changes v u (record {
      step = c.every_step_changes_only_what_it_writes.ensures.step v machine;
      interrupt = c.every_step_changes_only_what_it_writes.ensures.interrupt v machine;
      exception = c.every_step_changes_only_what_it_writes.ensures.exception v machine;
      delivery = c.every_delivery_and_return_changes_only_its_bytes.ensures.delivery v machine;
    })
