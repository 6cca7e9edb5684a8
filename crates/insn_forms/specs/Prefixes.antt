-- Prefixes: which bytes they are, and what a list of them says.
-- Source: 80386 Programmer's Reference Manual, ch. 17, "Instruction Prefixes".
use Rattle.std.specs.Prelude.{ℕ, Bool, false, Option, Some, None, List, [], ◌∷◌, ◌==◌, ◌||◌, not, if◌then◌else◌}
use Rattle.client_world.specs.declared.segments.SegReg.{SegReg}
use Rattle.insn_forms.specs.{declared.insn.Rep.{Rep}, declared.pieces.Prefixes.{Prefixes}}
use Rattle.client_world.specs.declared.segments.SegReg.TheVariants as segs
use Rattle.insn_forms.specs.declared.insn.Rep.TheVariants as reps

-- the segment register of a segment prefix
abbrev pub segment_of : ℕ → Option SegReg
segment_of b =
    if b == 0x26 then Some segs.Es else
    if b == 0x2e then Some segs.Cs else
    if b == 0x36 then Some segs.Ss else
    if b == 0x3e then Some segs.Ds else
    if b == 0x64 then Some segs.Fs else
    if b == 0x65 then Some segs.Gs else
    None

-- the repetition of a repeat prefix
abbrev pub repeat_of : ℕ → Option Rep
repeat_of b =
    if b == 0xf2 then Some reps.Repne else
    if b == 0xf3 then Some reps.Rep else
    None

-- the byte is in the list
abbrev pub is_one_of : List ℕ → ℕ → Bool
is_one_of [] b = false
is_one_of (x ∷ xs) b = b == x || is_one_of xs b

-- the byte is a prefix
unfoldable pub is_prefix : ℕ → Bool
is_prefix b = is_one_of (0x26 ∷ 0x2e ∷ 0x36 ∷ 0x3e ∷ 0x64 ∷ 0x65 ∷ 0x66 ∷ 0x67 ∷ 0xf0 ∷ 0xf2 ∷ 0xf3 ∷ []) b

-- the one, or else the other
abbrev pub or_else : {A : Type 0} → Option A → Option A → Option A
or_else (Some x) other = Some x
or_else None other = other

-- what the last byte says that says something
abbrev pub last_of : {A : Type 0} → (ℕ → Option A) → List ℕ → Option A
last_of f [] = None
last_of f (b ∷ bs) = or_else (last_of f bs) (f b)

-- the byte occurs
abbrev pub has : ℕ → List ℕ → Bool
has x [] = false
has x (b ∷ bs) = b == x || has x bs

-- the repetition, or none
abbrev pub rep_or_plain : Option Rep → Rep
rep_or_plain (Some r) = r
rep_or_plain None = reps.Plain

-- what the prefixes say: of segments and of repetitions the last one counts
unfoldable pub prefixes_of : List ℕ → Prefixes
prefixes_of bytes = record {
  seg = last_of segment_of bytes;
  operand_size = has 0x66 bytes;
  address_size = has 0x67 bytes;
  lock = has 0xf0 bytes;
  rep = rep_or_plain (last_of repeat_of bytes);
}

-- 66 and 67 turn the default size, which is 32 bits where it is true, into the other
abbrev pub toggled : Bool → Bool → Bool
toggled prefix big = if prefix then not big else big
