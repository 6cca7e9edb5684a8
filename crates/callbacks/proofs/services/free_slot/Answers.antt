use Rattle.{std.proofs.Common.{◌≡◌, ◌∙◌, sym, ap, rules, true, false}, std.specs.Option.{is_none}}
use Rattle.{client_world.specs.declared.limits.TheConstants.{CALLBACKS}, callbacks.specs.Services.{free_slot}}
use Rattle.{service_rows.proofs.RunLaws.{index_found, index_missed, index_passed}, callbacks.proofs.Served.{is_free}}
use Rattle.callbacks.proofs.services.free_slot.Goals as goal

pub returns-then-is_none-clause-lowest : goal.returns-then-is_none-clause-lowest
unfolding free_slot
returns-then-is_none-clause-lowest c =
    let free : is_free c.args.m.now.world.callbacks c.loop-slot.slot ≡ true = ap is_none (sym c.back.ensures) ∙ search rules in
    sym (sym c.loop-slot.invariant
    ∙ index_found (is_free c.args.m.now.world.callbacks) c.loop-slot.slot CALLBACKS c.loop-slot-test.true free)

pub loop-slot-preserved : goal.loop-slot-preserved
loop-slot-preserved c =
    let held : is_free c.args.m.now.world.callbacks c.loop-slot.slot ≡ false = ap is_none (sym c.back.ensures) ∙ search rules in
    sym (index_passed (is_free c.args.m.now.world.callbacks) c.loop-slot.slot CALLBACKS c.loop-slot-test.true held)
    ∙ c.loop-slot.invariant

pub returns-clause-lowest : goal.returns-clause-lowest
unfolding free_slot
returns-clause-lowest c =
    sym (sym c.loop-slot.invariant ∙ index_missed (is_free c.args.m.now.world.callbacks) c.loop-slot.slot CALLBACKS c.loop-slot-test.false)
