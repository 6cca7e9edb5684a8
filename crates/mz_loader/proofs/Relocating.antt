-- A word of the file; relocations one after the other: the next of those that are left, and none; and bytes of the megabyte, written one
-- after the other.
use Rattle.std.proofs.Common.{◌≡◌, ℕ, List, drop, add-zero, arith, suc, ◌+◌, ◌-◌, ◌*◌, ◌<◌, ◌≤◌, true, false, nat_lt, refl, ap, ◌∙◌, sym}
use Rattle.std.proofs.{Common.{[], ◌∷◌, length, get_or, set}, lemmas.List.{get_or-drop}, lemmas.Bool.{lt-ltb, le-ltb, ltb-false, or_parts}}
use Rattle.std.proofs.Math.ListN.{get_or-eq_default}
use Rattle.byteorder.specs.Endian.{little_number}
use Rattle.guest_ram.specs.{Bytes.{word_of, put}, Listed.{listed}}
use Rattle.mz_loader.specs.{Refusal.{relocation_target, some_beyond}, Start.{after_relocation, after_relocations}}
use Rattle.client_world.specs.{declared.memory_map.TheConstants.{ROM_START}, World.{World}}
use Rattle.guest_ram.proofs.{ListedLaws.{length-listed, listed_next}, PutLaws.{put-append_one}}
use Rattle.guest_space.specs.Dos.{with_dos_byte}

-- the number in the two bytes from an address on is the word there
pub little_word : (file : List ℕ) (at : ℕ) → little_number 2 (drop at file) ≡ word_of file at
little_word file at = omega (arith, rw add-zero at (get_or-drop at file 0 0), get_or-drop at file 1 0)

more_left : (n i : ℕ) → i < n → n - i ≡ suc (n - (i + 1))
more_left n i h = omega arith

next_address : (at i : ℕ) → at + 4 * i + 4 ≡ at + 4 * (i + 1)
next_address at i = omega arith

none_left : (n i : ℕ) → n ≤ i → n - i ≡ 0
none_left n i h = omega arith

-- where the next one names a word beyond the limit
pub some_beyond_here : (file : List ℕ) (limit at n i : ℕ) → i < n → limit < relocation_target file (at + 4 * i) + 2 →
    some_beyond file limit (at + 4 * i) (n - i) ≡ true
unfolding some_beyond
some_beyond_here file limit at n i h beyond =
    ap (λ (k : ℕ). some_beyond file limit (at + 4 * i) k) (more_left n i h)
    ∙ rw (lt-ltb limit (relocation_target file (at + 4 * i) + 2) beyond) refl

-- where it doesn't
pub some_beyond_next : (file : List ℕ) (limit at n i : ℕ) → i < n → relocation_target file (at + 4 * i) + 2 ≤ limit →
    some_beyond file limit (at + 4 * i) (n - i) ≡ some_beyond file limit (at + 4 * (i + 1)) (n - (i + 1))
unfolding some_beyond
some_beyond_next file limit at n i h within =
    ap (λ (k : ℕ). some_beyond file limit (at + 4 * i) k) (more_left n i h)
    ∙ rw (le-ltb limit (relocation_target file (at + 4 * i) + 2) within)
    (ap (λ (k : ℕ). some_beyond file limit k (n - (i + 1))) (next_address at i))

pub some_beyond_end : (file : List ℕ) (limit at n i : ℕ) → n ≤ i → some_beyond file limit (at + 4 * i) (n - i) ≡ false
unfolding some_beyond
some_beyond_end file limit at n i h = ap (λ (k : ℕ). some_beyond file limit (at + 4 * i) k) (none_left n i h)

pub none_beyond : (file : List ℕ) (limit at n : ℕ) → n ≡ 0 → some_beyond file limit at n ≡ false
unfolding some_beyond
none_beyond file limit at n h = ap (λ (k : ℕ). some_beyond file limit at k) h

-- where none of those left names a word beyond the limit, the next one doesn't
pub within_limit : (file : List ℕ) (limit at n i : ℕ) → i < n → some_beyond file limit (at + 4 * i) (n - i) ≡ false →
    relocation_target file (at + 4 * i) + 2 ≤ limit
unfolding some_beyond
within_limit file limit at n i h none =
    let here : some_beyond file limit (at + 4 * i) (suc (n - (i + 1))) ≡ false
    = ap (λ (k : ℕ). some_beyond file limit (at + 4 * i) k) (sym (more_left n i h)) ∙ none in
    ltb-false limit (relocation_target file (at + 4 * i) + 2)
    (or_parts (nat_lt limit (relocation_target file (at + 4 * i) + 2)) (some_beyond file limit (at + 4 * i + 4) (n - (i + 1))) here).0

-- the next one made
pub all_relocated_next : (file : List ℕ) (at n i : ℕ) (dos : List ℕ) → i < n → after_relocations file (at + 4 * i) (n - i) dos
    ≡ after_relocations file (at + 4 * (i + 1)) (n - (i + 1)) (after_relocation dos (relocation_target file (at + 4 * i)))
unfolding after_relocations
all_relocated_next file at n i dos h =
    ap (λ (k : ℕ). after_relocations file (at + 4 * i) k dos) (more_left n i h)
    ∙ ap (λ (k : ℕ). after_relocations file k (n - (i + 1)) (after_relocation dos (relocation_target file (at + 4 * i))))
    (next_address at i)

pub all_relocated_end : (file : List ℕ) (at n i : ℕ) (dos : List ℕ) → n ≤ i → after_relocations file (at + 4 * i) (n - i) dos ≡ dos
unfolding after_relocations
all_relocated_end file at n i dos h = ap (λ (k : ℕ). after_relocations file (at + 4 * i) k dos) (none_left n i h)

pub all_relocated_none : (file : List ℕ) (at n : ℕ) (dos : List ℕ) → n ≡ 0 → after_relocations file at n dos ≡ dos
unfolding after_relocations
all_relocated_none file at n dos h = ap (λ (k : ℕ). after_relocations file at k dos) h

-- what was changed in the megabyte alone, and is changed there again
pub dos_only : (a b c : World) (dos : List ℕ) → b ≡ record a { dos = b.dos } → c ≡ record b { dos = dos } → c ≡ record a { dos = c.dos }
dos_only a b c dos before change =
    change ∙ ap (λ (w : World). record w { dos = dos }) before
    ∙ ap (λ (d : List ℕ). record a { dos = d }) (sym (ap (λ (w : World). w.dos) change))

-- past a file's end there are zeros
pub past_end : (file : List ℕ) (at : ℕ) → length file ≤ at → get_or file at 0 ≡ 0
past_end file at h = get_or-eq_default file 0 h

-- one byte more
pub put_more : (bytes : List ℕ) (at n : ℕ) (f : ℕ → ℕ) → put bytes at (listed (n + 1) f) ≡ set (put bytes at (listed n f)) (at + n) (f n)
put_more bytes at n f =
    ap (put bytes at) (listed_next n f) ∙ put-append_one bytes at (listed n f) (f n)
    ∙ ap (λ (k : ℕ). set (put bytes at (listed n f)) (at + k) (f n)) (length-listed n f)

-- none
pub put_none : (bytes : List ℕ) (at : ℕ) (f : ℕ → ℕ) → put bytes at (listed 0 f) ≡ bytes
put_none bytes at f = ap (put bytes at) (none (listed 0 f) (length-listed 0 f))
  where
    none : (xs : List ℕ) → length xs ≡ 0 → xs ≡ []
    none [] l = refl
    none (x ∷ xs) l = absurd (omega arith)

-- below read-only memory a byte is put
pub below_rom : (dos : List ℕ) (at v : ℕ) → at < ROM_START → with_dos_byte dos at v ≡ set dos at v
below_rom dos at v h = rw (lt-ltb at ROM_START h) refl
