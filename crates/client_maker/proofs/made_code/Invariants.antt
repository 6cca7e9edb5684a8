use Rattle.std.proofs.Common.{◌≡◌, ◌≤◌, ◌+◌, ◌*◌, ◌++◌, length}
use Rattle.client_maker.specs.{Pieces.{number, pieces}, Made.{entry_code}}
use Rattle.client_maker.proofs.made_code.Given as goal

abbrev pub invariant-loop : goal.invariant-loop
invariant-loop l =
    (l.x ≡ number l.seed l.counter) × (l.code.items ≡ entry_code ++ pieces l.seed l.counter)
    × (length l.code.items ≤ 14 + 16 * l.counter)
