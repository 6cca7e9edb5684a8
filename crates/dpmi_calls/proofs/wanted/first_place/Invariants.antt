use Rattle.std.proofs.Common.{◌≡◌, nat_eq, drop}
use Rattle.std.specs.List.{position_from}
use Rattle.dpmi_calls.proofs.wanted.first_place.Given as goal

abbrev pub invariant-loop-i : goal.invariant-loop-i
invariant-loop-i l =
    position_from (λ lin. nat_eq lin l.at) 0 l.places ≡ position_from (λ lin. nat_eq lin l.at) l.i (drop l.i l.places)
