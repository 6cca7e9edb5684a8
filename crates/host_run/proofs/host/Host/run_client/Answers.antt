use Rattle.{std.proofs.Common.{◌≡◌, ap, subst}, host_run.specs.{Turn.{after_next_instruction}, View.{machine_view}}}
use Rattle.host_run.proofs.{Touches.{HasLaws, changes_or_ends}, host.Host.run_client.Goals.{returns-clause-bytes as goal}}

pub returns-clause-bytes : goal
returns-clause-bytes c =
    let laws = c.a_machine_changes_only_what_is_written.ensures in
    let machine : c.self.inside.machine ≡ machine_view c.args.self.now = ap machine_view c.self.view_is in
    changes_or_ends c.args.self.now c.step_client.new.self c.step_client.result (after_next_instruction c.args.self.now.world)
    (subst HasLaws machine (record { step = laws.step; interrupt = laws.interrupt; exception = laws.exception; delivery = laws.delivery }))
    c.step_client.ensures.host c.step_client.ensures.machine
