use Rattle.{std.proofs.Common.{refl, sym, ◌∙◌}, page_tables.proofs.FreeFrames.{all_are_taken, head_in_budget, head_taken}}
use Rattle.page_tables.proofs.budget.take_frame.Goals as goal

pub returns-then-frame-eq0-clause-none : goal.returns-then-frame-eq0-clause-none
returns-then-frame-eq0-clause-none c =
    (λ is. all_are_taken c.args.ram.now c.requires.list (sym c.get32-frame.ensures ∙ c.if-frame-eq0.true), λ all. refl)

pub taken_place-place-requires-clause-frame : goal.taken_place-place-requires-clause-frame
taken_place-place-requires-clause-frame c =
    head_in_budget c.args.ram.now c.get32-frame.result c.requires.list c.get32-frame.ensures c.if-frame-eq0.false

pub returns-clause-budget : goal.returns-clause-budget
returns-clause-budget c = head_in_budget c.args.ram.now c.get32-frame.result c.requires.list c.get32-frame.ensures c.if-frame-eq0.false

pub returns-clause-list : goal.returns-clause-list
returns-clause-list c =
    head_taken c.args.ram.now c.set32.new.self c.set8.new.self c.get32-frame.result c.get32-next.result c.taken_place-place.result
    c.requires.frames
    c.requires.list c.get32-frame.ensures c.if-frame-eq0.false c.get32-next.ensures c.taken_place-place.ensures.place c.set32.ensures.bytes
    c.set8.ensures.bytes
