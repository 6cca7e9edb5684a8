use Rattle.std.proofs.Common.{◌∙◌, ℕ, sym, ap, arith}
use Rattle.client_world.specs.{declared.registers.Regs.{Regs}, Segments.{selector}, Selector.{row_of_selector}}
use Rattle.{guest_space.specs.SegmentRows.{base_of_row}, guest_space.proofs.HiddenLaws.{said_by_part, said_by_row}}
use Rattle.guest_space.proofs.machine.Machine.first_byte.Goals as goal

pub returns-in-Some : goal.returns-in-Some
returns-in-Some c = grind (arith, said_by_part)

pub returns-in-None : goal.returns-in-None
returns-in-None c =
    let w = c.args.self.now.world in
    c.base_of_row.ensures
    ∙ ap (λ (sel : ℕ). base_of_row (row_of_selector w.descriptors sel))
    (c.selector.ensures ∙ ap (λ (r : Regs). selector r c.args.seg) c.registers.ensures)
    ∙ (said_by_row w.mode w.regs w.descriptors c.args.seg (sym c.part.ensures ∙ c.in-None.is)).1
