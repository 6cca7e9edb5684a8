-- What a memo of decoded instructions keeps. Source: own.
use Rattle.std.specs.Prelude.{◌≡◌, ◌<◌, ◌*◌, ◌^◌, ◌%◌, ℕ, Bool, nat_le}
use Rattle.client_world.specs.{CodeWords.{code_bytes}, declared.code.CodeWords.{CodeWords}, declared.host_frames.TheConstants.{PAGE_SIZE}}
use Rattle.insn_decode.specs.{declared.decoding.Decoded.TheVariants.{Whole}, declared.memo.Start.{Start}, Decode.{decoded}}
use Rattle.insn_decode.specs.declared.memo.TheConstants.{WORD_BYTES}
use Rattle.insn_forms.specs.declared.insn.Insn.{Insn}

-- whether code at that place of a memo has 32 bits by default
abbrev pub is_big_place : ℕ → Bool
is_big_place place = nat_le PAGE_SIZE place

-- code of that default size whose low word passes the test begins with the instruction; so do the bytes themselves where it is longer
pub record IsDecoded (big : Bool) (start : Start) (words : CodeWords) (insn : Insn) (len : ℕ) : Type 0 where
  pub short : (w : CodeWords) → w.low * start.scale % 2 ^ 64 ≡ start.scaled → decoded big (code_bytes w) ≡ Whole insn len
  pub long : WORD_BYTES < len → decoded big (code_bytes words) ≡ Whole insn len
