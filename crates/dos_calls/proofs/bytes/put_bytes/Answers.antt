use Rattle.{std.proofs.Common.{◌+◌, ◌∙◌, ℕ, List, drop, sym, ap, arith}, client_world.specs.World.{World}}
use Rattle.{dos_calls.specs.DosBytes.{with_dos_bytes_at}, dos_calls.proofs.ByteLaws.{put_next, put_none, only_bytes}}
use Rattle.dos_calls.proofs.bytes.put_bytes.Goals as goal

pub loop-byte-preserved : goal.loop-byte-preserved
loop-byte-preserved c = record {
  place = omega (arith, c.loop-byte.invariant.place);
  kept = only_bytes c.args.m.now.world c.loop-byte.m.world c.set_byte_at.new.m.world _ c.loop-byte.invariant.kept c.set_byte_at.ensures;
  written =
      ap (λ (w : World). with_dos_bytes_at w.dos c.args.segment (c.loop-byte.at + 1) (drop (c.loop-byte.byte-index + 1) c.args.bytes.now))
      c.set_byte_at.ensures
      ∙ sym (put_next c.loop-byte.m.world.dos c.args.segment c.loop-byte.at c.args.bytes.now c.loop-byte.byte-index c.loop-byte-test.true)
      ∙ c.loop-byte.invariant.written;
}

pub returns : goal.returns
returns c =
    c.loop-byte.invariant.kept
    ∙ ap (λ (dos : List ℕ). record c.args.m.now.world { dos = dos })
    (sym (put_none c.loop-byte.m.world.dos c.args.segment c.loop-byte.at c.args.bytes.now c.loop-byte.byte-index c.loop-byte-test.false)
    ∙ c.loop-byte.invariant.written)
