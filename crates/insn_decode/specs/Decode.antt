-- What `decode` returns: what reading from left to right gives (own).
use Rattle.std.specs.Prelude.{ℕ, ◌-◌, Bool, List, length, Ok, Err}
use Rattle.insn_decode.specs.{declared.decoding.Decoded.{Decoded}, declared.decoding.Decoded.TheVariants.{Whole, More, Invalid}}
use Rattle.insn_decode.specs.Reading.{Read, insn_at}
use Rattle.insn_forms.specs.declared.insn.Insn.{Insn}
use Rattle.insn_decode.specs.declared.stop.Stop.TheVariants as stops

-- what was read, as `decode` returns it: the length is that of the bytes without the rest
abbrev pub answer_of : List ℕ → Read Insn → Decoded
answer_of bytes (Ok x) = Whole x.0 (length bytes - length x.1)
answer_of bytes (Err stops.More) = More
answer_of bytes (Err stops.Invalid) = Invalid

-- what the bytes are decoded to
unfoldable pub decoded : Bool → List ℕ → Decoded
decoded big bytes = answer_of bytes (insn_at big bytes)
