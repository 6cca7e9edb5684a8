-- The text of a run in a room: bytes at the beginning of one, and what a sink took.
use Rattle.std.proofs.Common.{arith, ◌≡◌, ◌≤◌, ◌<◌, ℕ, List, [], take, length, ◌++◌, ap, inl, inr, length-take}
use Rattle.std.proofs.Math.Seq.{take-append_seam}
use Rattle.std.specs.Prelude.{◌⊎◌}
use Rattle.dpmi_calls.specs.declared.outcome.TheConstants.{NO_MEMORY, NO_ROOM, REFUSED}
use Rattle.dpmi_io.specs.Content.{Shown, Bytes, Gains, GainsPart, Number, Nothing}

pub front_is : (xs ys : List ℕ) → take (length xs) (xs ++ ys) ≡ xs
front_is xs ys = take-append_seam xs ys

bytes_of : Shown → List ℕ
bytes_of (Bytes xs) = xs
bytes_of (Number n) = []
bytes_of Nothing = []

pub same_bytes : (xs ys : List ℕ) → Bytes xs ≡ Bytes ys → xs ≡ ys
unfolding bytes_of
same_bytes xs ys is = ap bytes_of is

-- where more bytes of a text were taken than there is room for, it is longer
longer_part : (now text : List ℕ) (room : ℕ) → GainsPart (Bytes []) (Bytes now) text → room < length now → room < length text
longer_part now text room part more =
    let is : now ≡ take part.0 text = same_bytes now (take part.0 text) part.2 in
    omega (arith, more, part.1, ap length is, length-take part.0 text)

-- whether it was taken whole or not
pub longer : (now text : List ℕ) (room status : ℕ) → (status ≤ REFUSED) ⊎ (status ≡ NO_ROOM) ⊎ (status ≡ NO_MEMORY) →
    (status ≡ NO_MEMORY → ⊥) →
    (status ≤ REFUSED → Gains (Bytes []) (Bytes now) text) → (status ≡ NO_ROOM → GainsPart (Bytes []) (Bytes now) text) →
    room < length now → room < length text
longer now text room status (inl done) memory whole part more =
    let is : now ≡ text = same_bytes now text (whole done) in omega (arith, more, ap length is)
longer now text room status (inr (inl short)) memory whole part more = longer_part now text room (part short) more
longer now text room status (inr (inr out)) memory whole part more = absurd (memory out)
