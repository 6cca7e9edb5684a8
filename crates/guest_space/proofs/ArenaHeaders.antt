-- The headers of all entries written into the memory: they change the megabyte alone, below its read-only part, and leave it sound.
use Rattle.std.proofs.Common.{◌≡◌, ℕ, zero, suc, ◌+◌, ◌*◌, ◌<◌, ◌≤◌, nat_eq, if◌then◌else◌, List, [], ◌∷◌, length, get_or, set, slice_index}
use Rattle.std.proofs.{Common.{drop, refl, ap, ◌∙◌, sym, arith, length-drop, drop-cons}, lemmas.Bool.{cases_eq, eq-eqb, ne_eqb}}
use Rattle.client_world.specs.{declared.dos_memory.DosEntry.{DosEntry}, declared.dos_memory.DosState.{DosState}}
use Rattle.client_world.specs.{declared.dos_memory.DosState.TheVariants.{Free, Used, Dpmi}, declared.host_frames.TheConstants.{PAGE_SIZE}}
use Rattle.client_world.specs.{declared.host_frames.TheConstants.{DOS_LIST}, declared.memory_map.TheConstants.{ARENA_START, ARENA_END}}
use Rattle.client_world.specs.{declared.memory_map.TheConstants.{PARAGRAPH_SIZE, ROM_START}, DosMemory.{Fills, IsArena}}
use Rattle.client_world.specs.Soundness.{SoundMegabyte}
use Rattle.client_world.proofs.SoundWrites.{SoundMegabyte-set}
use Rattle.guest_ram.specs.Bytes.{put}
use Rattle.guest_ram.proofs.PutLaws.{region-put_below}
use Rattle.host_memory.specs.{DosList.{entry_at, entry_count, entry_size, arena_in}, Headers.{header_letter, dos_header, owner_of}}
use Rattle.host_memory.specs.{Headers.{with_headers}, Layout.{arena_part}}
use Rattle.host_memory.proofs.{Parts.{HasParts, MemoryParts}, PutParts.{Dos, put_part}, ListsClaim.{length-arena_in}}
use Rattle.guest_space.proofs.{ArenaLists.{HasFrames, entry_there}, ArenaRuns.{fills_at}}

pub length-header : (letter : ℕ) (entry : DosEntry) → length (dos_header letter entry) ≡ 16
unfolding dos_header
length-header letter entry = refl

-- the bytes of a header are bytes
abbrev AllBytes : List ℕ → Type 0
AllBytes [] = Unit {0}
AllBytes (x ∷ xs) = (x < 0x100) × AllBytes xs

each_byte : (xs : List ℕ) → AllBytes xs → (k : ℕ) → slice_index xs k < 0x100
each_byte [] h k = omega arith
each_byte (x ∷ xs) h zero = h.0
each_byte (x ∷ xs) h (suc k) = each_byte xs h.1 k

owner_small : (state : DosState) → owner_of state < 0x10000
owner_small Free = omega arith
owner_small Used = omega arith
owner_small Dpmi = omega arith

zero_fits : 0 < 0x100
zero_fits = omega arith

header_fits : (letter : ℕ) (entry : DosEntry) → letter < 0x100 → entry.paras < 0x10000 → (k : ℕ) →
    slice_index (dos_header letter entry) k < 0x100
unfolding dos_header
header_fits letter entry small paras =
    let owner = owner_small entry.state in
    each_byte (dos_header letter entry) (
      small,
      (
        omega arith,
        (
          omega arith,
          (
            omega arith,
            (
              omega arith,
              (
                zero_fits,
                (
                  zero_fits,
                  (
                    zero_fits,
                    (
                      zero_fits,
                      (
                        zero_fits,
                        (
                          zero_fits,
                          (zero_fits, (zero_fits, (zero_fits, (zero_fits, (zero_fits, tt))))),
                        ),
                      ),
                    ),
                  ),
                ),
              ),
            ),
          ),
        ),
      ),
    )

letter_fits : (es : List DosEntry) → header_letter es < 0x100
letter_fits [] = omega arith
letter_fits (e ∷ es) = omega arith

-- bytes below read-only memory leave the megabyte sound
SoundMegabyte-put : (dos : List ℕ) (at : ℕ) (xs : List ℕ) → SoundMegabyte dos → at + length xs ≤ ROM_START →
    ((k : ℕ) → slice_index xs k < 0x100) → SoundMegabyte (put dos at xs)
SoundMegabyte-put dos at [] sound low fits = sound
SoundMegabyte-put dos at (x ∷ xs) sound low fits =
    SoundMegabyte-put (set dos at x) (at + 1) xs (SoundMegabyte-set dos at x sound (omega arith) (fits 0)) (omega arith) (λ k. fits (suc k))

pub SoundMegabyte-headers : (dos : List ℕ) (es : List DosEntry) (from : ℕ) → SoundMegabyte dos → Fills from es ARENA_END →
    SoundMegabyte (with_headers dos es)
SoundMegabyte-headers dos [] from sound fills = sound
SoundMegabyte-headers dos (e ∷ es) from sound fills =
    let room = fills_at (e ∷ es) from ARENA_END 0 e fills (omega arith) in
    let ends = room.ends in
    let long = length-header (header_letter es) e in
    SoundMegabyte-headers (put dos (PARAGRAPH_SIZE * e.at) (dos_header (header_letter es) e)) es (from + 1 + e.paras)
    (SoundMegabyte-put dos (PARAGRAPH_SIZE * e.at) (dos_header (header_letter es) e) sound (omega arith)
    (header_fits (header_letter es) e (letter_fits es) (omega arith)))
    fills.1

-- in the whole memory they are written into the megabyte, and nothing else changes
pub headers_has : (b : List ℕ) (budget : ℕ) (p : MemoryParts) (es : List DosEntry) (from : ℕ) → HasParts b budget p →
    Fills from es ARENA_END → HasParts (with_headers b es) budget (record p { dos = with_headers p.dos es })
headers_has b budget p [] from has fills = has
headers_has b budget p (e ∷ es) from has fills =
    let room = fills_at (e ∷ es) from ARENA_END 0 e fills (omega arith) in
    let ends = room.ends in
    let long = length-header (header_letter es) e in
    let at = PARAGRAPH_SIZE * e.at in
    let xs = dos_header (header_letter es) e in
    headers_has (put b at xs) budget (record p { dos = put p.dos at xs }) es (from + 1 + e.paras)
    (put_part Dos b budget p at at xs has (omega arith) (omega arith)) fills.1

-- where the header of the entry that is read is
pub header_room : (b c : List ℕ) (place : ℕ) (entry : DosEntry) → IsArena (arena_in (arena_part b)) → arena_part c ≡ arena_part b →
    place < entry_count (arena_part b) → entry ≡ entry_at c (PAGE_SIZE * DOS_LIST + entry_size * place) →
    PARAGRAPH_SIZE * entry.at + 16 ≤ PARAGRAPH_SIZE * ARENA_END
header_room b c place entry arena same small is =
    let long = length-arena_in (arena_part b) in
    let room = fills_at (arena_in (arena_part b)) ARENA_START ARENA_END place entry arena.fills (omega arith) in
    let ends = room.ends in
    let at = ap (λ (e : DosEntry). e.at) (is ∙ entry_there b c place entry same small) in
    omega arith

-- the letter by the entries after
letter_is : (es : List DosEntry) (place n : ℕ) → length es ≡ n → place < n →
    (if nat_eq (place + 1) n then 0x5A else 0x4D) ≡ header_letter (drop (place + 1) es)
letter_is es place n e small = grind (arith, cases_eq, eq-eqb, length-drop, ne_eqb, none, some)
  where
    none : (xs : List DosEntry) → length xs ≡ 0 → 0x5A ≡ header_letter xs
    none [] long = refl
    none (x ∷ xs) long = absurd (omega arith)

    some : (xs : List DosEntry) → 0 < length xs → 0x4D ≡ header_letter xs
    some [] long = absurd (omega arith)
    some (x ∷ xs) long = refl

pub one_header : (b c last : List ℕ) (n place : ℕ) (entry : DosEntry) (letter : ℕ) → n ≡ entry_count (arena_part b) → place < n →
    arena_part c ≡ arena_part b → entry ≡ entry_at c (PAGE_SIZE * DOS_LIST + entry_size * place) →
    letter ≡ (if nat_eq (place + 1) n then 0x5A else 0x4D) → with_headers c (drop place (arena_in (arena_part b))) ≡ last →
    with_headers (put c (PARAGRAPH_SIZE * entry.at) (dos_header letter entry)) (drop (place + 1) (arena_in (arena_part b))) ≡ last
one_header b c last n place entry letter count small same is by so_far =
    let es = arena_in (arena_part b) in
    let long = length-arena_in (arena_part b) in
    let here : entry ≡ get_or es place entry = is ∙ entry_there b c place entry same (omega arith) in
    let letter_here : letter ≡ header_letter (drop (place + 1) es) = by ∙ letter_is es place n (long ∙ sym count) small in
    let rest : drop place es ≡ get_or es place entry ∷ drop (place + 1) es = drop-cons es place entry (omega arith)
    ∙ ap (λ (k : ℕ). get_or es place entry ∷ drop k es) (let next : suc place ≡ place + 1 = omega arith in next) in
    ap (λ (l : ℕ). with_headers (put c (PARAGRAPH_SIZE * entry.at) (dos_header l entry)) (drop (place + 1) es)) letter_here
    ∙ ap (λ (e : DosEntry).
    with_headers (put c (PARAGRAPH_SIZE * e.at) (dos_header (header_letter (drop (place + 1) es)) e)) (drop (place + 1) es)) here
    ∙ ap (with_headers c) (sym rest)
    ∙ so_far

-- it leaves the list
pub header_away : (c : List ℕ) (at letter : ℕ) (entry : DosEntry) → HasFrames c → at + 16 ≤ PARAGRAPH_SIZE * ARENA_END →
    arena_part (put c at (dos_header letter entry)) ≡ arena_part c
header_away c at letter entry frames low = grind (arith, length-header, region-put_below)

-- and after the last entry nothing is left
pub no_header_left : (c : List ℕ) (es : List DosEntry) (place : ℕ) → length es ≤ place → with_headers c (drop place es) ≡ c
no_header_left c es place past = ap (with_headers c) (empty (drop place es) (omega (arith, length-drop place es)))
  where
    empty : (xs : List DosEntry) → length xs ≡ 0 → xs ≡ []
    empty [] long = refl
    empty (x ∷ xs) long = absurd (omega arith)
