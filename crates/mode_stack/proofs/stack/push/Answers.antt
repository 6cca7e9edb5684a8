use Rattle.{std.proofs.Common.{◌∙◌, ap, arith, ℕ, List}, client_world.specs.declared.calls.Record.{Record}}
use Rattle.{guest_space.specs.Records.{with_record}, mode_stack.proofs.Trips.{exact_bytes, read_bytes}}
use Rattle.mode_stack.proofs.stack.push.Goals as goal

pub put_record-requires-clause-exact : goal.put_record-requires-clause-exact
put_record-requires-clause-exact c =
    exact_bytes c.a_flags_image_gives_its_flags_back.ensures.flags c.args.r.now c.pack.result c.pack.ensures

pub returns : goal.returns
returns c = (
  omega arith,
  c.put_record.ensures
      ∙ ap (λ (r : Record). with_record c.args.m.now r c.pack.result)
      (read_bytes c.a_flags_image_gives_its_flags_back.ensures.flags c.args.r.now c.pack.result c.pack.ensures)
      ∙ ap (λ (b : List ℕ). with_record c.args.m.now c.args.r.now b) c.pack.ensures,
)
