use Rattle.{std.proofs.Common.{ap, arith}, client_world.specs.declared.dos_memory.DosEntry.{DosEntry}}
use Rattle.{dos_blocks.specs.Blocks.{missing_entry}, dos_blocks.proofs.RunPuts.{has_room}}
use Rattle.dos_blocks.proofs.freeing.joined_entry.Goals as goal

pub overflow_sub-result : goal.overflow_sub-result
overflow_sub-result c =
    let room = has_room c.args.m.now.world.arena c.args.place c.soundness.ensures.arena c.requires in
    let at = ap (λ (e : DosEntry). e.at) (c.arena-entry.ensures missing_entry) in
    omega (arith, room.before, at, c.room_before-room.ensures)

pub overflow_add-result : goal.overflow_add-result
overflow_add-result c =
    let room = has_room c.args.m.now.world.arena c.args.place c.soundness.ensures.arena c.requires in
    let paras = ap (λ (e : DosEntry). e.paras) (c.arena-entry.ensures missing_entry) in
    omega (arith, room.behind, paras, c.room_after.ensures)

pub overflow_add-result-2 : goal.overflow_add-result-2
overflow_add-result-2 c =
    let room = has_room c.args.m.now.world.arena c.args.place c.soundness.ensures.arena c.requires in
    let paras = ap (λ (e : DosEntry). e.paras) (c.arena-entry.ensures missing_entry) in
    omega (arith, room.before, room.behind, paras, c.room_before-room.ensures, c.room_after.ensures)
