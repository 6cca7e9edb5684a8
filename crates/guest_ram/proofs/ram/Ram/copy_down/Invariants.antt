use Rattle.std.proofs.Common.{◌≡◌, ◌+◌, ◌-◌, length}
use Rattle.guest_ram.specs.Bytes.{put, region}
use Rattle.guest_ram.proofs.ram.Ram.copy_down.Given as goal

abbrev pub invariant-loop-i : goal.invariant-loop-i
invariant-loop-i l = (length l.self ≡ length l.initial.self)
    × (l.self ≡ put l.initial.self (l.to + (l.n - l.i)) (region l.initial.self (l.from + (l.n - l.i)) l.i))
