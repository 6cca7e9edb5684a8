use Rattle.{std.proofs.Common.{◌≡◌, ℕ, List, Ok, ap, subst, sym}, std.specs.Prelude.{OnOk}, host_memory.specs.View.{MachineView}}
use Rattle.{interrupts.specs.Worlds.{world_interrupt}, fault_service.specs.ByMode.{delivery}}
use Rattle.host_run.specs.{Footprint.{ChangesOnly, after_client_interrupt, interrupt_footprint}, View.{machine_view}}
use Rattle.host_run.proofs.Touches.{interrupted_changes, raised_or_ends}
use Rattle.host_run.proofs.host.Host.interrupt_to_own_handler.Goals as goal

-- of a machine with these bytes after the interrupt
abbrev Changes : MachineView → ℕ → List ℕ → Type 0
Changes v n after = ChangesOnly (interrupt_footprint v.world 0 (world_interrupt v.world n 0)) v.bytes after

pub returns-in-Ok-clause-bytes : goal.returns-in-Ok-clause-bytes
returns-in-Ok-clause-bytes c =
    let laws = c.a_machine_changes_only_what_is_written.ensures in
    let before = c.self.inside.machine in
    let made : Changes before c.args.n c.soft_int.new.m.bytes =
    interrupted_changes before c.soft_int.new.m c.args.n 0
    (record { step = laws.step; interrupt = laws.interrupt; exception = laws.exception; delivery = laws.delivery })
    (ap (after_client_interrupt before) c.in-Ok.ensures.machine) in
    subst (λ (v : MachineView). Changes v c.args.n c.set_vif.new.self.bytes) (ap machine_view c.self.view_is)
    (subst (λ (bytes : List ℕ). Changes before c.args.n bytes) (sym c.set_vif.ensures.bytes) made)

pub returns-in-Err-clause-bytes : goal.returns-in-Err-clause-bytes
returns-in-Err-clause-bytes c =
    let laws = c.a_machine_changes_only_what_is_written.ensures in
    let before = c.self.inside.machine in
    let same : c.soft_int.new.m ≡ before = c.in-Err.ensures.machine.1 in
    let delivers : OnOk c.deliver.result (delivery before c.in-Err.f ≡ Ok (machine_view c.deliver.new.self)) =
    subst (λ (v : MachineView). OnOk c.deliver.result (delivery v c.in-Err.f ≡ Ok (machine_view c.deliver.new.self))) same
    c.deliver.ensures.machine in
    let made : Changes before c.args.n c.deliver.new.self.bytes =
    raised_or_ends before c.soft_int.new.m.bytes c.deliver.new.self c.args.n 0 c.in-Err.f c.deliver.result _ _
    (record { step = laws.step; interrupt = laws.interrupt; exception = laws.exception; delivery = laws.delivery })
    c.in-Err.ensures.machine.0 delivers c.deliver.ensures.host.2 (ap (λ (v : MachineView). v.bytes) same) in
    subst (λ (v : MachineView). Changes v c.args.n c.deliver.new.self.bytes) (ap machine_view c.self.view_is) made
