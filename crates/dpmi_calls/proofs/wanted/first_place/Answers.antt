use Rattle.{std.proofs.Common.{arith, nat_eq}, dpmi_calls.proofs.Places.{found, not_found}}
use Rattle.dpmi_calls.proofs.wanted.first_place.Goals as goal

pub returns-then-places-i : goal.returns-then-places-i
returns-then-places-i c =
    found (λ lin. nat_eq lin c.args.at) c.args.places.now c.loop-i.i c.loop-i.invariant (omega (arith, c.loop-i-test.true))
    (grind (arith, c.if-places-i.true))

pub returns : goal.returns
returns c = not_found (λ lin. nat_eq lin c.args.at) c.args.places.now c.loop-i.i c.loop-i.invariant (omega (arith, c.loop-i-test.false))
