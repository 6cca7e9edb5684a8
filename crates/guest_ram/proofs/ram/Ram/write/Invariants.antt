use Rattle.std.proofs.Common.{◌≡◌, ◌*◌, length}
use Rattle.guest_ram.specs.Bytes.{put, region}
use Rattle.guest_ram.proofs.ram.Ram.write.Given as goal

abbrev pub invariant-loop-k : goal.invariant-loop-k
invariant-loop-k l = (length l.self ≡ length l.fn.self) × (l.self ≡ put l.fn.self l.at (region l.bytes 0 (4 * l.k)))

abbrev pub invariant-loop-k-2 : goal.invariant-loop-k-2
invariant-loop-k-2 l = (length l.self ≡ length l.fn.self) × (l.self ≡ put l.fn.self l.at (region l.bytes 0 (2 * l.k)))

abbrev pub invariant-loop-i : goal.invariant-loop-i
invariant-loop-i l = (length l.self ≡ length l.fn.self) × (l.self ≡ put l.fn.self l.at (region l.bytes 0 l.i))
