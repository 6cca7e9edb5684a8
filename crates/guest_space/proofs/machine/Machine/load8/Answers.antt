use Rattle.std.proofs.Common.{ℕ, ◌∙◌, sym, ap, false, slice_index}
use Rattle.guest_space.proofs.{Machines.{stands_there}, Runs.{translated_ends}, Insides.{machine_inside}}
use Rattle.guest_space.proofs.machine.Machine.load8.Goals as goal

pub get8-requires : goal.get8-requires
get8-requires c =
    let machine = machine_inside c.self.inside c.self.invariant in
    let touches = translated_ends _ c.args.lin false c.in_ok-at.at (rw (← c.self.view_is) at (sym c.translate.ensures ∙ c.in_ok-at.was)) in
    rw touches.address ((stands_there _ _ c.args.lin false machine touches.may).inside)

pub returns : goal.returns
returns c =
    let machine = machine_inside c.self.inside c.self.invariant in
    let touches = translated_ends _ c.args.lin false c.in_ok-at.at (rw (← c.self.view_is) at (sym c.translate.ensures ∙ c.in_ok-at.was)) in
    rw (← c.self.view_is) (
      touches.may,
      c.get8.ensures ∙ ap (λ (a : ℕ). slice_index c.self.inside.ram a) touches.address
          ∙ (stands_there _ _ c.args.lin false machine touches.may).byte,
    )
