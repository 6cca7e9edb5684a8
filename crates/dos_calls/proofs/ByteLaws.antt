-- Lists of bytes: their parts, and those that are read from the megabyte; bytes at a segment and an offset, one after the other.
use Rattle.std.proofs.Common.{ℕ, zero, suc, ◌+◌, ◌<◌, ◌≤◌, List, [], ◌∷◌, length, take, drop, arith, if◌then◌else◌, Bool, true, false}
use Rattle.std.proofs.{Common.{Option, None, Some, ◌≡◌, ◌≢◌, ◌-◌, ◌++◌, get_or, refl, ap, ◌∙◌, sym}, lemmas.Bool.Decides.{nat_tests}}
use Rattle.std.proofs.lemmas.List.{drop_all}
use Rattle.client_world.specs.{Access.{real_address}, Soundness.{SoundMegabyte}, World.{World}}
use Rattle.dos_calls.specs.{Calls.{line_of}, DosBytes.{byte_at, bytes_from, text_from, with_dos_bytes_at}}
use Rattle.guest_ram.specs.Bytes.{AreBytes}
use Rattle.guest_ram.proofs.ByteLists.{more_bytes, no_bytes}
use Rattle.std.specs.Prelude.{nat_eq}
use Rattle.guest_space.specs.Dos.{with_dos_byte}
use Rattle.dos_calls.proofs.LineLaws.{rest_is}

-- ---- parts

pub bytes_behind : (x : ℕ) (xs : List ℕ) → AreBytes (x ∷ xs) → AreBytes xs
bytes_behind x xs bytes = λ at. bytes (suc at)

pub bytes_take : (n : ℕ) (xs : List ℕ) → AreBytes xs → AreBytes (take n xs)
bytes_take zero xs bytes = no_bytes
bytes_take (suc n) [] bytes = no_bytes
bytes_take (suc n) (x ∷ xs) bytes = more_bytes x (take n xs) (bytes 0) (bytes_take n xs (bytes_behind x xs bytes))

pub bytes_drop : (n : ℕ) (xs : List ℕ) → AreBytes xs → AreBytes (drop n xs)
bytes_drop zero xs bytes = bytes
bytes_drop (suc n) [] bytes = no_bytes
bytes_drop (suc n) (x ∷ xs) bytes = bytes_drop n xs (bytes_behind x xs bytes)

pub length-taken : (n : ℕ) (xs : List ℕ) → length (take n xs) ≤ n
length-taken zero xs = omega arith
length-taken (suc n) [] = omega arith
length-taken (suc n) (x ∷ xs) = omega (arith, length-taken n xs)

pub bytes_if : (c : Bool) (xs ys : List ℕ) → AreBytes xs → AreBytes ys → AreBytes (if c then xs else ys)
bytes_if true xs ys one other = one
bytes_if false xs ys one other = other

-- ---- those that are read

pub bytes_read : (dos : List ℕ) (segment offset n : ℕ) → SoundMegabyte dos → AreBytes (bytes_from dos segment offset n)
unfolding bytes_from
bytes_read dos segment offset zero s = no_bytes
bytes_read dos segment offset (suc n) s =
    more_bytes (byte_at dos segment offset) (bytes_from dos segment (offset + 1) n) (s.bytes (real_address segment offset))
    (bytes_read dos segment (offset + 1) n s)

pub bytes_text : (dos : List ℕ) (segment offset n : ℕ) → SoundMegabyte dos → AreBytes (text_from dos segment offset n)
unfolding text_from
bytes_text dos segment offset zero s = no_bytes
bytes_text dos segment offset (suc n) s =
    bytes_if (nat_eq (byte_at dos segment offset) 0x24) [] (byte_at dos segment offset ∷ text_from dos segment (offset + 1) n) no_bytes
    (more_bytes (byte_at dos segment offset) (text_from dos segment (offset + 1) n) (s.bytes (real_address segment offset))
    (bytes_text dos segment (offset + 1) n s))

-- ---- a line and the keys after it

abbrev pub LineOfBytes : Option (List ℕ × List ℕ) → Type 0
LineOfBytes None = Unit {0}
LineOfBytes (Some line) = AreBytes line.0 × AreBytes line.1

line_if : (c : Bool) (a b : Option (List ℕ × List ℕ)) → LineOfBytes a → LineOfBytes b → LineOfBytes (if c then a else b)
line_if true a b one other = one
line_if false a b one other = other

line_behind : (key : ℕ) (o : Option (List ℕ × List ℕ)) → key < 0x100 → LineOfBytes o →
    LineOfBytes (elim o [ None ↦ None | Some line ↦ Some (key ∷ line.0, line.1) ])
line_behind key None small line = tt
line_behind key (Some whole) small line = (more_bytes key whole.0 small line.0, line.1)

pub bytes_line : (keys : List ℕ) → AreBytes keys → LineOfBytes (line_of keys)
unfolding line_of
bytes_line [] bytes = tt
bytes_line (key ∷ keys) bytes =
    line_if (nat_eq key 0x0D) (Some ([], keys)) _ (no_bytes, bytes_behind key keys bytes)
    (line_behind key (line_of keys) (bytes 0) (bytes_line keys (bytes_behind key keys bytes)))

-- ---- at a segment and an offset

-- ---- bytes written

pub put_next : (dos : List ℕ) (segment at : ℕ) (bytes : List ℕ) (n : ℕ) → n < length bytes → with_dos_bytes_at dos segment at (drop n bytes)
    ≡ with_dos_bytes_at (with_dos_byte dos (real_address segment at) (get_or bytes n 0)) segment (at + 1) (drop (n + 1) bytes)
unfolding with_dos_bytes_at
put_next dos segment at bytes n small = ap (λ (xs : List ℕ). with_dos_bytes_at dos segment at xs) (rest_is bytes n small)

-- the world while they are written: its other parts stay
pub only_bytes : (old now new : World) (dos : List ℕ) → now ≡ record old { dos = now.dos } → new ≡ record now { dos = dos } →
    new ≡ record old { dos = new.dos }
only_bytes old now new dos kept written =
    written ∙ ap (λ (w : World). record w { dos = dos }) kept
    ∙ ap (λ (d : List ℕ). record old { dos = d }) (sym (ap (λ (w : World). w.dos) written))

pub put_none : (dos : List ℕ) (segment at : ℕ) (bytes : List ℕ) (n : ℕ) → length bytes ≤ n →
    with_dos_bytes_at dos segment at (drop n bytes) ≡ dos
unfolding with_dos_bytes_at
put_none dos segment at bytes n past = ap (λ (xs : List ℕ). with_dos_bytes_at dos segment at xs) (drop_all n bytes past)

-- those after others
pub put_append : (dos : List ℕ) (segment at : ℕ) (xs ys : List ℕ) →
    with_dos_bytes_at dos segment at (xs ++ ys) ≡ with_dos_bytes_at (with_dos_bytes_at dos segment at xs) segment (at + length xs) ys
unfolding with_dos_bytes_at
put_append dos segment at [] ys = ap (λ (k : ℕ). with_dos_bytes_at dos segment k ys) (let same : at ≡ at + 0 = omega arith in same)
put_append dos segment at (x ∷ xs) ys =
    put_append (with_dos_byte dos (real_address segment at) x) segment (at + 1) xs ys
    ∙ ap (λ (k : ℕ). with_dos_bytes_at (with_dos_bytes_at (with_dos_byte dos (real_address segment at) x) segment (at + 1) xs) segment k ys)
    (let same : at + 1 + length xs ≡ at + suc (length xs) = omega arith in same)

-- a line, its return, and its length
pub put_line : (dos : List ℕ) (segment at : ℕ) (line : List ℕ) →
    with_dos_bytes_at (with_dos_bytes_at (with_dos_bytes_at dos segment (at + 2) line) segment (at + 2 + length line) (0x0D ∷ [])) segment
    (at + 1) (length line ∷ [])
    ≡ with_dos_bytes_at (with_dos_bytes_at dos segment (at + 2) (line ++ 0x0D ∷ [])) segment (at + 1) (length line ∷ [])
put_line dos segment at line =
    ap (λ (d : List ℕ). with_dos_bytes_at d segment (at + 1) (length line ∷ [])) (sym (put_append dos segment (at + 2) line (0x0D ∷ [])))

-- ---- bytes read

pub bytes_all : (dos : List ℕ) (segment offset count : ℕ) →
    bytes_from dos segment (offset + 0) (count - 0) ≡ bytes_from dos segment offset count
bytes_all dos segment offset count =
    let at : offset + 0 ≡ offset = omega arith in
    let all : count - 0 ≡ count = omega arith in
    cc

pub bytes_next : (dos : List ℕ) (segment offset count n : ℕ) → n < count →
    bytes_from dos segment (offset + n) (count - n) ≡ byte_at dos segment (offset + n) ∷
    bytes_from dos segment (offset + (n + 1)) (count - (n + 1))
unfolding bytes_from
bytes_next dos segment offset count n small =
    ap (λ (k : ℕ). bytes_from dos segment (offset + n) k) (let one : count - n ≡ suc (count - (n + 1)) = omega arith in one)
    ∙ ap (λ (k : ℕ). byte_at dos segment (offset + n) ∷ bytes_from dos segment k (count - (n + 1)))
    (let same : offset + n + 1 ≡ offset + (n + 1) = omega arith in same)

pub bytes_none : (dos : List ℕ) (segment offset count n : ℕ) → count ≤ n → bytes_from dos segment (offset + n) (count - n) ≡ []
unfolding bytes_from
bytes_none dos segment offset count n past =
    ap (λ (k : ℕ). bytes_from dos segment (offset + n) k) (let none : count - n ≡ zero = omega arith in none)

-- ---- a text

pub text_all : (dos : List ℕ) (segment offset count : ℕ) → text_from dos segment (offset + 0) count ≡ text_from dos segment offset count
text_all dos segment offset count = ap (λ (k : ℕ). text_from dos segment k count) (let at : offset + 0 ≡ offset = omega arith in at)

other_byte : (byte : ℕ) → byte ≢ 0x24 → nat_eq byte 0x24 ≡ false
other_byte byte ne = grind (arith, nat_tests)

one_more : (dos : List ℕ) (segment offset n : ℕ) → byte_at dos segment offset ≢ 0x24 →
    text_from dos segment offset (suc n) ≡ byte_at dos segment offset ∷ text_from dos segment (offset + 1) n
unfolding text_from
one_more dos segment offset n ne = rw (other_byte (byte_at dos segment offset) ne) refl

dollar : (dos : List ℕ) (segment offset n : ℕ) → byte_at dos segment offset ≡ 0x24 → text_from dos segment offset (suc n) ≡ []
unfolding text_from
dollar dos segment offset n is = rw is refl

pub text_next : (dos : List ℕ) (segment offset count n byte : ℕ) → n < count → byte ≡ byte_at dos segment (offset + n) → byte ≢ 0x24 →
    text_from dos segment (offset + n) (count - n) ≡ byte ∷ text_from dos segment (offset + (n + 1)) (count - (n + 1))
text_next dos segment offset count n byte small is ne =
    ap (λ (k : ℕ). text_from dos segment (offset + n) k) (let one : count - n ≡ suc (count - (n + 1)) = omega arith in one)
    ∙ one_more dos segment (offset + n) (count - (n + 1)) (λ same. ne (is ∙ same))
    ∙ ap (λ (x : ℕ). x ∷ text_from dos segment (offset + n + 1) (count - (n + 1))) (sym is)
    ∙ ap (λ (k : ℕ). byte ∷ text_from dos segment k (count - (n + 1))) (let same : offset + n + 1 ≡ offset + (n + 1) = omega arith in same)

pub text_end : (dos : List ℕ) (segment offset count n byte : ℕ) → n < count → byte ≡ byte_at dos segment (offset + n) → byte ≡ 0x24 →
    text_from dos segment (offset + n) (count - n) ≡ []
text_end dos segment offset count n byte small is end =
    ap (λ (k : ℕ). text_from dos segment (offset + n) k) (let one : count - n ≡ suc (count - (n + 1)) = omega arith in one)
    ∙ dollar dos segment (offset + n) (count - (n + 1)) (sym is ∙ end)

pub text_none : (dos : List ℕ) (segment offset count n : ℕ) → count ≤ n → text_from dos segment (offset + n) (count - n) ≡ []
unfolding text_from
text_none dos segment offset count n past =
    ap (λ (k : ℕ). text_from dos segment (offset + n) k) (let none : count - n ≡ zero = omega arith in none)
