use Rattle.{std.proofs.Common.{◌≡◌, sym, ap, subst, ◌∙◌}, insn_forms.specs.Grammar.{AllBytes}, insn_decode.specs.Decode.{decoded}}
use Rattle.insn_decode.proofs.Answering.{decoded_whole, decoded_only, decoded_more, more_decoded, decoded_invalid, invalid_decoded}
use Rattle.insn_decode.proofs.decoding.decode.Goals as goal

are_bytes : (c : goal.After-answer) → AllBytes c.args.bytes.now.items
are_bytes c = subst AllBytes c.as_slice.ensures.value c.answer.ensures.bytes

result_is : (c : goal.After-answer) → c.answer.result ≡ decoded c.args.big c.args.bytes.now.items
result_is c = c.answer.ensures.exact ∙ ap (decoded c.args.big) c.as_slice.ensures.value

pub returns-clause-whole : goal.returns-clause-whole
returns-clause-whole c = λ insn len e. decoded_whole c.args.big insn len c.args.bytes.now.items (are_bytes c) (sym (result_is c) ∙ e)

pub returns-clause-only : goal.returns-clause-only
returns-clause-only c = λ insn front rest e s. result_is c ∙ decoded_only c.args.big insn front rest c.args.bytes.now.items e s

pub returns-clause-more : goal.returns-clause-more
returns-clause-more c = (
  (λ e. decoded_more c.args.big c.args.bytes.now.items (are_bytes c) (sym (result_is c) ∙ e)),
  (λ s. result_is c ∙ more_decoded c.args.big c.args.bytes.now.items (are_bytes c) s),
)

pub returns-clause-invalid : goal.returns-clause-invalid
returns-clause-invalid c = (
  (λ e. decoded_invalid c.args.big c.args.bytes.now.items (are_bytes c) (sym (result_is c) ∙ e)),
  (λ s. result_is c ∙ invalid_decoded c.args.big c.args.bytes.now.items (are_bytes c) s),
)

pub returns-clause-read : goal.returns-clause-read
returns-clause-read c = result_is c
