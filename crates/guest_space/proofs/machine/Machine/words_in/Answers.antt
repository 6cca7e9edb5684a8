use Rattle.{std.proofs.Common.{◌∙◌, ℕ, ◌+◌, ◌≤◌, List, length, ap, subst, sym, arith}, guest_ram.specs.Bytes.{region}}
use Rattle.{host_memory.specs.View.{MachineView}, guest_space.proofs.WindowLaws.{window_inside, window_words}}
use Rattle.guest_space.proofs.machine.Machine.words_in.Goals as goal

pub overflow_add-window : goal.overflow_add-window
overflow_add-window c =
    let w = c.args.window.now in
    let there = window_inside c.args.self.now c.holds_world.ensures w.first (w.starts + 14) w.address c.args.from c.requires.window.run
    (omega arith) in
    let small = there.1 in
    omega arith

pub words_of-requires : goal.words_of-requires
words_of-requires c =
    let w = c.args.window.now in
    let there = window_inside c.args.self.now c.holds_world.ensures w.first (w.starts + 14) w.address c.args.from c.requires.window.run
    (omega arith) in
    subst (λ (b : List ℕ). w.address + c.args.from + 15 ≤ length b) (sym (ap (λ (v : MachineView). v.bytes) c.self.view_is)) there.0

pub returns : goal.returns
returns c =
    let w = c.args.window.now in
    window_words c.args.self.now c.holds_world.ensures w.first (w.starts + 14) w.address c.args.from c.words_of.result c.requires.window.run
    (omega arith) c.requires.here
    (ap (λ (v : MachineView). region v.bytes (w.address + c.args.from) 15) (sym c.self.view_is) ∙ c.words_of.ensures)
