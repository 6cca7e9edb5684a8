use Rattle.std.proofs.Common.{◌∙◌, sym, arith, true, refl, [], ◌∷◌}
use Rattle.guest_space.proofs.{Machines.{stands_there}, Runs.{translated_ends, translated_fails}, Puts.{put_is}, CacheLaws.{byte_alone}}
use Rattle.guest_space.proofs.Insides.{machine_inside, stored_whole}
use Rattle.guest_space.proofs.machine.Machine.put8.Goals as goal

pub set8-requires : goal.set8-requires
set8-requires c =
    let machine = machine_inside c.self.inside c.self.invariant in
    let touches = translated_ends _ c.args.lin true c.in-Ok.at (rw (← c.self.view_is) at (sym c.translate.ensures ∙ c.in-Ok.is)) in
    rw touches.address ((stands_there _ _ c.args.lin true machine touches.may).inside)

pub invariant_of-self : goal.invariant_of-self
invariant_of-self c =
    rw c.set8.ensures.bytes (stored_whole c.self.inside c.self.invariant c.args.lin 1 c.in-Ok.at (c.args.v ∷ []) (omega arith) (omega arith)
    (rw (← c.self.view_is) at (sym c.translate.ensures ∙ c.in-Ok.is)) refl (byte_alone c.args.v (omega arith)))

pub returns-in-Ok : goal.returns-in-Ok
returns-in-Ok c =
    let machine = machine_inside c.self.inside c.self.invariant in
    let touches = translated_ends _ c.args.lin true c.in-Ok.at (rw (← c.self.view_is) at (sym c.translate.ensures ∙ c.in-Ok.is)) in
    rw (← c.self.view_is) (rw c.set8.ensures.bytes (put_is _ _ c.args.lin c.in-Ok.at c.args.v machine touches (omega arith)))

pub returns-in_default : goal.returns-in_default
returns-in_default c = grind (arith, translated_fails)
