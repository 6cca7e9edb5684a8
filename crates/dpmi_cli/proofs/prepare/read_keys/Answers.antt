use Rattle.dpmi_cli.proofs.{Files.{pressed_is}, prepare.read_keys.Goals.{returns-in_ok-take_pressed-in-Pressed-clause-keys as goal}}

pub returns-in_ok-take_pressed-in-Pressed-clause-keys : goal
returns-in_ok-take_pressed-in-Pressed-clause-keys g c =
    rw c.in-Pressed.is (pressed_is (g.F.Shelf.files c.args.shelf.now) c.in-Pressed.bytes.items _
    (rw c.as_slice.ensures.value at c.in_ok-take_pressed-in-Pressed.ensures))
