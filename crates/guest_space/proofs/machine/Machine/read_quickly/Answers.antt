use Rattle.guest_space.proofs.{Accesses.{loaded_is_read}, machine.Machine.read_quickly.Goals.{returns as goal}}

pub returns : goal
returns g c =
    loaded_is_read c.args.self.now.world c.args.seg c.args.off g.row.N c.in_ok-base.base c.load_quickly.result c.in_ok-base.ensures
    c.load_quickly.ensures
