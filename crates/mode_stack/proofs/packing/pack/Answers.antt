use Rattle.mode_stack.proofs.Trips.{sim_packed, back_packed, exc_packed}
use Rattle.mode_stack.proofs.packing.pack.Goals as goal

pub returns-in-Sim : goal.returns-in-Sim
returns-in-Sim c =
    sim_packed c.args.r.now c.in-Sim.call c.in-Sim.saved c.in-Sim.vif c.in-Sim.at c.call_kind.result c.call_number.result c.put_at.new.into
    c.put_at-in-Sim.new.into
    c.head.result c.regs_bytes.result c.in-Sim.is c.call_kind.ensures c.call_number.ensures c.head.ensures c.regs_bytes.ensures
    c.put_at.ensures c.put_at-in-Sim.ensures

pub returns-in-Back : goal.returns-in-Back
returns-in-Back c =
    back_packed c.args.r.now c.in-Back.slot c.in-Back.at c.put_at-in-Back.new.into c.head-in-Back.result c.in-Back.is c.head-in-Back.ensures
    c.put_at-in-Back.ensures

pub returns-in-Exc : goal.returns-in-Exc
returns-in-Exc c =
    exc_packed c.args.r.now c.in-Exc.number c.in-Exc.code c.put_at-in-Exc.new.into c.head-in-Exc.result c.in-Exc.is c.head-in-Exc.ensures
    c.put_at-in-Exc.ensures
