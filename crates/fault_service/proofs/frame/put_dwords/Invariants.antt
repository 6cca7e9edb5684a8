use Rattle.std.proofs.Common.{◌≡◌, ◌*◌, length, drop}
use Rattle.guest_ram.specs.Bytes.{put}
use Rattle.fault_service.specs.Delivery.{items_bytes}
use Rattle.fault_service.proofs.frame.put_dwords.Given as goal

abbrev pub invariant-loop-item : goal.invariant-loop-item
invariant-loop-item l = record {
  at : l.at ≡ 4 * l.item-index;
  size : length l.into ≡ length l.fn.into;
  written : put l.into l.at (items_bytes 32 (drop l.item-index l.items)) ≡ put l.fn.into 0 (items_bytes 32 l.items);
}
