use Rattle.{std.proofs.Common.{Some, ap, sym, ◌∙◌}, dpmi_io.proofs.Stored.{get-files_of, bytes_of}}
use Rattle.dpmi_io.proofs.memory_shelf.stored.Goals as goal

pub returns-in-Some : goal.returns-in-Some
returns-in-Some c =
    ap Some c.as_slice.ensures.value ∙ ap bytes_of c.in-Some.ensures.value ∙ sym (get-files_of c.args.files.now c.args.name.now)

pub returns-in-None : goal.returns-in-None
returns-in-None c = ap bytes_of c.in-None.ensures.value ∙ sym (get-files_of c.args.files.now c.args.name.now)
