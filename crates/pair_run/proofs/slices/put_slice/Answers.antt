use Rattle.{std.proofs.Common.{sym, ◌∙◌}, dpmi_io.proofs.Output.{puts_cut, puts_cut_early, puts_text, puts_then}}
use Rattle.pair_run.proofs.PairTexts.{line_if_any-text}
use Rattle.pair_run.proofs.slices.put_slice.Goals as goal

pub returns-in_err-put_slice_head : goal.returns-in_err-put_slice_head
returns-in_err-put_slice_head g c =
    puts_text (sym (line_if_any-text c.args.number c.args.client c.args.bytes.now (sym c.is_empty.ensures ∙ c.if-is_empty.false)))
    (puts_cut_early _ _ _ c.from_residual.ensures.0 c.in_err-put_slice_head.ensures)

pub returns-in_err-put_all : goal.returns-in_err-put_all
returns-in_err-put_all g c =
    puts_text (sym (line_if_any-text c.args.number c.args.client c.args.bytes.now (sym c.is_empty.ensures ∙ c.if-is_empty.false)))
    (puts_cut _ _ c.from_residual-in_err-put_all.ensures.0 (puts_then _ c.in_ok-put_slice_head.ensures c.in_err-put_all.ensures.puts))

pub returns : goal.returns
returns g c =
    puts_text (sym (line_if_any-text c.args.number c.args.client c.args.bytes.now (sym c.is_empty.ensures ∙ c.if-is_empty.false)))
    (puts_then _ (puts_then _ c.in_ok-put_slice_head.ensures c.in_ok-put_all.ensures.puts) c.put_all-2.ensures.puts)
