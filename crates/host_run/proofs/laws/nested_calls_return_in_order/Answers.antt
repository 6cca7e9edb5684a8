use Rattle.host_run.proofs.{Nested.{changes_by_one, handed_over, matched}, laws.nested_calls_return_in_order.Goals.{returns as goal}}

pub returns : goal
returns c = record {
  depth = λ source w n k turns less. changes_by_one source w n k turns less;
  partner = λ source w n i j turns less last. matched source w n i j turns less last;
  record_stays = λ source w n i j turns less here. handed_over source w n i j turns less here;
}
