use Rattle.std.proofs.Common.{◌≡◌, length, take}
use Rattle.guest_ram.specs.Bytes.{region}
use Rattle.guest_ram.proofs.ram.Ram.get.Given as goal

abbrev pub invariant-loop-i : goal.invariant-loop-i
invariant-loop-i g l = (length l.run ≡ g.row.N) × (take l.i l.run ≡ region l.self l.at l.i)
