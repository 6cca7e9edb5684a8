use Rattle.{std.proofs.Common.{ap, arith}, client_world.specs.declared.dos_memory.DosEntry.{DosEntry}}
use Rattle.dos_blocks.specs.Blocks.{missing_entry}
use Rattle.dos_blocks.proofs.{Splicing.{entry_within}, neighbours.entry_of_place.Goals.{returns-then-place-arena_len-clause-small as goal}}

pub returns-then-place-arena_len-clause-small : goal
returns-then-place-arena_len-clause-small c =
    let paras = ap (λ (e : DosEntry). e.paras) (c.arena.ensures missing_entry) in
    let within = entry_within c.args.m.now.world.arena c.args.place c.arena_len.ensures.sound
    (omega (arith, c.if-place-arena_len.true, c.arena_len.ensures.count)) in
    omega (arith, paras, within.ends)
