use Rattle.dpmi_cli.proofs.Files.{is_blank, is_ready, is_started}
use Rattle.dpmi_cli.proofs.prepare.start_host.Goals as goal

pub load-requires : goal.load-requires
load-requires c = is_blank c.args.pages c.args.keys.now c.args.trace c.in_ok-host.host.world c.in_ok-host.ensures

pub returns-in-Ok-clause-started : goal.returns-in-Ok-clause-started
returns-in-Ok-clause-started c =
    is_started c.args.pages c.args.keys.now c.args.trace c.args.file.now c.in_ok-host.host.world c.load.new.self.world c.in_ok-host.ensures
    c.in-Ok.ensures.started

pub returns-in-Ok-clause-ready : goal.returns-in-Ok-clause-ready
returns-in-Ok-clause-ready c =
    is_ready c.args.pages c.args.keys.now c.args.trace c.args.file.now c.load.new.self.world
    (is_started c.args.pages c.args.keys.now c.args.trace c.args.file.now c.in_ok-host.host.world c.load.new.self.world c.in_ok-host.ensures
    c.in-Ok.ensures.started)
    c.in-Ok.ensures.sound c.are_bytes.ensures
