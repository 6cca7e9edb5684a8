use Rattle.{std.proofs.Common.{◌≡◌, ap, subst}, interrupts.specs.Worlds.{world_interrupt}}
use Rattle.host_run.specs.{Turn.{after_interrupt}, View.{machine_view}}
use Rattle.host_run.proofs.{Touches.{HasLaws, interrupt_or_ends}, host.Host.interrupt_in_real_mode.Goals.{returns-clause-bytes as goal}}

pub returns-clause-bytes : goal
returns-clause-bytes c =
    let laws = c.a_machine_changes_only_what_is_written.ensures in
    let machine : c.self.inside.machine ≡ machine_view c.args.self.now = ap machine_view c.self.view_is in
    let before = c.args.self.now in
    interrupt_or_ends before c.raise_interrupt.new.self c.args.n 0 c.raise_interrupt.result
    (after_interrupt before.world (world_interrupt before.world.machine c.args.n 0))
    (subst HasLaws machine (record { step = laws.step; interrupt = laws.interrupt; exception = laws.exception; delivery = laws.delivery }))
    c.raise_interrupt.ensures.host c.raise_interrupt.ensures.machine
