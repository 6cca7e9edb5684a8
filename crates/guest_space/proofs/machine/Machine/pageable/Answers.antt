use Rattle.std.proofs.Common.{◌∙◌, ap, ℕ, nat_eq}
use Rattle.guest_space.proofs.{VectorCalls.{pageable_read}, Insides.{processor_of}, machine.Machine.pageable.Goals.{returns as goal}}

pub returns : goal
returns c =
    ap (λ (x : ℕ). nat_eq x 1) c.get8.ensures
    ∙ pageable_read (processor_of c.self.inside) c.self.inside.ram c.args.self.now c.self.view_is c.args.page c.requires
