use Rattle.{std.proofs.Common.{◌≡◌, ◌∙◌, sym, ap, refl}, client_world.specs.CodeWords.{code_bytes}}
use Rattle.insn_decode.specs.{declared.decoding.Decoded.TheVariants.{Whole}, Decode.{decoded}}
use Rattle.insn_decode.proofs.Answering.{has_a_byte, are_code_bytes, decoded_start}
use Rattle.insn_decode.proofs.memo.Entry.new.Goals as goal

pub new-requires : goal.new-requires
new-requires c =
    let encoded = (c.decode.ensures.whole c.in-Whole.insn c.in-Whole.len c.in-Whole.is).0 in
    has_a_byte c.args.big c.in-Whole.insn c.in-Whole.len _ encoded

pub returns-in-Whole-clause-decoded : goal.returns-in-Whole-clause-decoded
returns-in-Whole-clause-decoded c =
    let big = c.args.big in
    let insn = c.in-Whole.insn in
    let len = c.in-Whole.len in
    let words = c.args.words in
    let read : decoded big (code_bytes words) ≡ Whole insn len =
    ap (decoded big) (sym (c.from-code.ensures.0 ∙ c.bytes.ensures)) ∙ sym c.decode.ensures.read ∙ c.in-Whole.is in
    record {
      short = λ w same. decoded_start big insn len (code_bytes words) (code_bytes w) (are_code_bytes words)
          (c.new.ensures words w refl same) read;
      long = λ _. read;
    }

pub invariant_of-result : goal.invariant_of-result
invariant_of-result c =
    let encoded = (c.decode.ensures.whole c.in-Whole.insn c.in-Whole.len c.in-Whole.is).0 in
    record { well_formed = c.every_instruction_is_well_formed.ensures c.in-Whole.insn (c.args.big, _, encoded); shaped = c.shape.ensures }
