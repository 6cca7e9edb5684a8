use Rattle.{std.proofs.Common.{ℕ, Bool, [], ◌∙◌, ap, refl, arith}, client_world.specs.declared.registers.Regs.{Regs}}
use Rattle.{insn_plan.specs.{Registers.{cut_address}, Stack.{has_big_stack}}, insn_plan.proofs.TopItem.{eight_numbers}}
use Rattle.insn_plan.proofs.stack.eight_items.Goals as goal

pub returns-in_ok-items : goal.returns-in_ok-items
returns-in_ok-items c =
    eight_numbers c.args.m.now.world c.args.width 2 c.cut_address-sp.result c.in_ok-items.items [] c.word.result
    c.word-then-width-eq16.result c.word-then-width-eq16-2.result c.word-then-width-eq16-3.result c.word-then-width-eq16-4.result
    c.word-then-width-eq16-5.result c.word-then-width-eq16-6.result c.word-then-width-eq16-7.result
    (rw (c.if-width-eq16.true) refl) (omega arith)
    (c.cut_address-sp.ensures
    ∙ ap (λ (big : Bool). cut_address big c.from.result) c.has_big_stack.ensures
    ∙ ap (λ (esp : ℕ). cut_address (has_big_stack c.args.m.now.world) esp) c.from.ensures
    ∙ ap (λ (r : Regs). cut_address (has_big_stack c.args.m.now.world) r.esp) c.registers.ensures) c.in_ok-items.ensures.inside
    c.in_ok-items.ensures.items
    c.word.ensures c.word-then-width-eq16.ensures c.word-then-width-eq16-2.ensures c.word-then-width-eq16-3.ensures
    c.word-then-width-eq16-4.ensures c.word-then-width-eq16-5.ensures c.word-then-width-eq16-6.ensures c.word-then-width-eq16-7.ensures

pub returns-in_ok-items-2 : goal.returns-in_ok-items-2
returns-in_ok-items-2 c =
    eight_numbers c.args.m.now.world c.args.width 4 c.cut_address-sp.result c.in_ok-items-2.items [] c.doubleword.result
    c.doubleword-then-width-eq32.result c.doubleword-then-width-eq32-2.result c.doubleword-then-width-eq32-3.result
    c.doubleword-then-width-eq32-4.result c.doubleword-then-width-eq32-5.result c.doubleword-then-width-eq32-6.result
    c.doubleword-then-width-eq32-7.result
    (rw (c.if-width-eq32.true) refl) (omega arith)
    (c.cut_address-sp.ensures
    ∙ ap (λ (big : Bool). cut_address big c.from.result) c.has_big_stack.ensures
    ∙ ap (λ (esp : ℕ). cut_address (has_big_stack c.args.m.now.world) esp) c.from.ensures
    ∙ ap (λ (r : Regs). cut_address (has_big_stack c.args.m.now.world) r.esp) c.registers.ensures) c.in_ok-items-2.ensures.inside
    c.in_ok-items-2.ensures.items
    c.doubleword.ensures c.doubleword-then-width-eq32.ensures c.doubleword-then-width-eq32-2.ensures c.doubleword-then-width-eq32-3.ensures
    c.doubleword-then-width-eq32-4.ensures c.doubleword-then-width-eq32-5.ensures c.doubleword-then-width-eq32-6.ensures
    c.doubleword-then-width-eq32-7.ensures
