use Rattle.{std.proofs.Common.{arith, ◌∙◌, sym, ap, false, slice_index, ℕ, List}, dpmi_calls.proofs.Bytes.{not_there, there}}
use Rattle.guest_space.proofs.Runs.{translated_by_walk, translated_by_failure, translated_ends, translated_fails}
use Rattle.host_memory.proofs.HostTables.{tables_inside}
use Rattle.dpmi_calls.proofs.memory.seen.Goals as goal

pub walk-requires-clause-tables : goal.walk-requires-clause-tables
walk-requires-clause-tables c = rw c.ram-ram.ensures.bytes (tables_inside _ _ c.holds_world.ensures.machine.holds)

pub walk-requires-clause-root : goal.walk-requires-clause-root
walk-requires-clause-root c = let size = c.holds_world.ensures.machine.holds.size in rw c.ram-ram.ensures.bytes (omega (arith, size))

pub get8-requires : goal.get8-requires
get8-requires c =
    let touches = translated_ends _ c.args.linear false c.in-Ok.at (translated_by_walk _ _ c.args.linear false c.in-Ok.at
    c.holds_world.ensures.machine (omega arith) (rw (← c.ram-ram.ensures.bytes) (sym c.walk.ensures ∙ c.in-Ok.is))) in
    rw (c.ram-ram.ensures.bytes, touches.address) (c.ram-ram.ensures.places c.args.linear false touches.may).inside

pub returns-in-Ok : goal.returns-in-Ok
returns-in-Ok c =
    let touches = translated_ends _ c.args.linear false c.in-Ok.at (translated_by_walk _ _ c.args.linear false c.in-Ok.at
    c.holds_world.ensures.machine (omega arith) (rw (← c.ram-ram.ensures.bytes) (sym c.walk.ensures ∙ c.in-Ok.is))) in
    there c.args.m.now.world c.args.linear _ touches.may (
    c.from.ensures ∙ c.get8.ensures ∙ ap (λ (b : List ℕ). slice_index b c.in-Ok.at) c.ram-ram.ensures.bytes
    ∙ ap (λ (a : ℕ). slice_index c.args.m.now.bytes a) touches.address
    ∙ (c.ram-ram.ensures.places c.args.linear false touches.may).byte
    )

pub returns-in-Err : goal.returns-in-Err
returns-in-Err c =
    not_there c.args.m.now.world c.args.linear (translated_fails _ c.args.linear false _ (translated_by_failure _ _ c.args.linear false
    c.in-Err.field-0 c.holds_world.ensures.machine (omega arith)
    (rw (← c.ram-ram.ensures.bytes) (sym c.walk.ensures ∙ c.in-Err.is)))).barred
