-- Code bytes: one by one, all at once where they can be read together, and as words of the memory; where one may be fetched, a near
-- transfer may go.
use Rattle.std.proofs.Common.{◌≡◌, ℕ, zero, suc, ◌+◌, ◌-◌, ◌%◌, ◌<◌, ◌≤◌, ◌^◌, false, List, [], ◌∷◌, ◌++◌, length, slice_index, refl, ap}
use Rattle.std.proofs.Common.{◌∙◌, sym, arith, None, Some, Result, Ok, Err, add-zero, append_assoc, take, drop, get_or, ◌⊎◌, inl, inr, Bool}
use Rattle.std.proofs.{Common.{true, ◌&&◌, ◌||◌, if◌then◌else◌, subst}, lemmas.List.{append-nil, drop-take, drop-drop, get_or_past}}
use Rattle.std.proofs.{lemmas.Bool.{cases_lt}, lemmas.Nat.{le_bytes_8}, Math.Seq.{take-add}, lemmas.Bool.Decides.{nat_tests}}
use Rattle.std.specs.{declared.option.Option.{Option}, Int.{w64, from_le_bytes, to_le_bytes}, Prelude.{nat_le, nat_lt}}
use Rattle.client_world.specs.{declared.faults.Fault.{Fault}, declared.place.Place.{Place}, declared.place.Place.TheVariants.{Nothing}}
use Rattle.client_world.specs.{declared.segments.SegReg.{SegReg}, declared.segments.SegReg.TheVariants.{Cs}, Access.{access, segment_base}}
use Rattle.client_world.specs.Access.{places_at, places_from, place_in, first_forbidden, unless_forbidden, byte_of, bytes_of, linear}
use Rattle.client_world.specs.{Access.{base_in_row, fault_with}, World.{World}, CodeWords.{code_bytes}}
use Rattle.client_world.specs.{declared.faults.TheConstants.{GENERAL_PROTECTION}, declared.memory_map.TheConstants.{SEGMENT_SIZE}}
use Rattle.client_world.specs.{declared.registers.Mode.{Mode}, declared.registers.Mode.TheVariants.{Real, Protected}}
use Rattle.client_world.specs.{declared.registers.Regs.{Regs}, Loading.{code_row_fault, load_fault, transfer_fault}, Selector.{Row}}
use Rattle.client_world.specs.Selector.{is_null, row_of_selector}
use Rattle.client_world.proofs.{PlaceLaws.{length-places_from, places_from-at}, SoundWrites.{at_bytes_of}}
use Rattle.guest_space.specs.{Code.{one_byte, code_byte, code_from}, Transfer.{read_result, bytes_at, linear_access, fault_of}}
use Rattle.guest_space.specs.{declared.hidden_parts.Hidden.{Hidden}, HiddenParts.{found, is_data_with, part_in_row, part_of_selector}}
use Rattle.guest_space.proofs.{Accesses.{loaded_linear, access_refused, code_base, code_goes_up, segment_part}, Runs.{AllTouch, all_touch}}
use Rattle.guest_space.proofs.{Runs.{access_ends}, HiddenLaws.{down_bit, peel}}
use Rattle.guest_ram.specs.Bytes.{AreBytes, region}
use Rattle.guest_ram.proofs.PutLaws.{length-region, at_region}

-- one byte, through the linear address
pub fetched : (w : World) (at base : ℕ) → segment_base w.mode w.regs w.descriptors Cs w.regs.eip (at + 1) false ≡ Ok base →
    one_byte (bytes_at w (linear_access w ((((base + w.regs.eip) % 2 ^ 32) + at) % 2 ^ 32) 1 false)) ≡ code_byte w at
unfolding code_byte
fetched w at base e =
    let same : (((base + w.regs.eip) % 2 ^ 32) + at) % 2 ^ 32 ≡ (base + (w.regs.eip + at)) % 2 ^ 32 = omega arith in
    ap (λ (lin : ℕ). one_byte (bytes_at w (linear_access w lin 1 false))) same
    ∙ ap one_byte (loaded_linear w Cs (w.regs.eip + at) 1 base (sym (code_base w.mode w.regs w.descriptors w.regs.eip at) ∙ e))

loaded_refused : (w : World) (seg : SegReg) (offset n : ℕ) (f : Fault) →
    segment_base w.mode w.regs w.descriptors seg offset n false ≡ Err f → read_result w seg offset n ≡ Err f
unfolding read_result
loaded_refused w seg offset n f e = ap (bytes_at w) (access_refused w seg offset n false f e)

pub not_fetched : (w : World) (at : ℕ) (f : Fault) → segment_base w.mode w.regs w.descriptors Cs w.regs.eip (at + 1) false ≡ Err f →
    code_byte w at ≡ Err f
unfolding code_byte
not_fetched w at f e = grind (arith, code_base, loaded_refused)

-- the same, as the code counts
pub fetched_by : (w : World) (at eip m o base : ℕ) → eip ≡ w.regs.eip → m ≡ at → o ≡ at →
    segment_base w.mode w.regs w.descriptors Cs eip (m + 1) false ≡ Ok base →
    one_byte (bytes_at w (linear_access w ((((base + eip) % 2 ^ 32) + o) % 2 ^ 32) 1 false)) ≡ code_byte w at
fetched_by w at eip m o base same count more e = grind (arith, fetched)

pub not_fetched_by : (w : World) (at eip m : ℕ) (f : Fault) → eip ≡ w.regs.eip → m ≡ at →
    segment_base w.mode w.regs w.descriptors Cs eip (m + 1) false ≡ Err f → code_byte w at ≡ Err f
not_fetched_by w at eip m f same count e = grind (arith, not_fetched)

-- bytes that were read together
pub record WholeRun (w : World) (seg : SegReg) (offset n : ℕ) (bytes : List ℕ) : Type 0 where
  pub base : ℕ
  pub is : segment_base w.mode w.regs w.descriptors seg offset n false ≡ Ok base
  pub all : AllTouch w.blocks (base + offset) n false
  pub read : bytes_of w (places_from w.blocks (base + offset) n) ≡ bytes

record Allowed (o : Option Place) (w : World) (places : List Place) (bytes : List ℕ) : Type 0 where
  none : o ≡ None
  read : bytes_of w places ≡ bytes

allowed_by : (o : Option Place) (w : World) (places : List Place) (bytes : List ℕ) →
    bytes_at w (unless_forbidden o places false) ≡ Ok bytes → Allowed o w places bytes
allowed_by None w places bytes e = record { none = refl; read = cc }
allowed_by (Some p) w places bytes e = absurd cc

whole_by : (w : World) (seg : SegReg) (offset n : ℕ) (bytes : List ℕ) (r : Result ℕ Fault) →
    segment_base w.mode w.regs w.descriptors seg offset n false ≡ r → bytes_at w (places_at w.blocks r offset n false) ≡ Ok bytes →
    WholeRun w seg offset n bytes
whole_by w seg offset n bytes (Ok base) is e =
    let places = places_from w.blocks (base + offset) n in
    let found = allowed_by (first_forbidden places false) w places bytes e in
    record {
      base = base;
      is = is;
      all = all_touch w (base + offset) n false (ap (λ (o : Option Place). fault_of (unless_forbidden o places false)) found.none);
      read = found.read;
    }
whole_by w seg offset n bytes (Err fault) is e = absurd cc

pub whole_run : (w : World) (seg : SegReg) (offset n : ℕ) (bytes : List ℕ) → read_result w seg offset n ≡ Ok bytes →
    WholeRun w seg offset n bytes
unfolding read_result access
whole_run w seg offset n bytes e = whole_by w seg offset n bytes (segment_base w.mode w.regs w.descriptors seg offset n false) refl e

-- are what one reads one by one
whole_byte : (w : World) (n i : ℕ) (bytes : List ℕ) → WholeRun w Cs w.regs.eip n bytes → i < n → code_byte w i ≡ Ok (slice_index bytes i)
unfolding code_byte places_from
whole_byte w n i bytes run within =
    let eip = w.regs.eip in
    let lin = (run.base + (eip + i)) % 2 ^ 32 in
    let base = segment_part w.mode w.regs w.descriptors Cs eip n i 1 false run.base (omega arith) run.is in
    let size = length-places_from w.blocks (run.base + eip) n in
    let same : linear (run.base + eip + i) ≡ (run.base + (eip + i)) % 2 ^ 32 = omega arith in
    let twice : linear ((run.base + (eip + i)) % 2 ^ 32) ≡ (run.base + (eip + i)) % 2 ^ 32 = omega arith in
    let touch : AllTouch w.blocks lin 1 false = λ j less. (
    let first : linear ((run.base + (eip + i)) % 2 ^ 32 + j) ≡ linear (run.base + eip + i) = omega arith in
    ap (λ (a : ℕ). Rattle.client_world.specs.Access.may_touch (place_in w.blocks a) false) first ∙ run.all i within) in
    sym (ap one_byte (loaded_linear w Cs (eip + i) 1 run.base base))
    ∙ ap (λ (r : Result (List Place) Fault). one_byte (bytes_at w r)) (access_ends w lin 1 false touch)
    ∙ ap (λ (p : Place). Ok (byte_of w p)) (places_from-at w.blocks lin 1 0 Nothing (omega arith)
    ∙ ap (place_in w.blocks) (let first : linear ((run.base + (eip + i)) % 2 ^ 32 + 0) ≡ linear (run.base + eip + i) = omega arith in first)
    ∙ sym (places_from-at w.blocks (run.base + eip) n i Nothing within))
    ∙ ap (λ (x : ℕ). Ok x) (sym (at_bytes_of w (places_from w.blocks (run.base + eip) n) i (omega arith)))
    ∙ ap (λ (xs : List ℕ). Ok (slice_index xs i)) run.read

-- the code bytes, by the first of them
pub code_none : (w : World) (at : ℕ) → code_from w at 0 ≡ []
unfolding code_from
code_none w at = refl

pub code_next : (w : World) (at n byte : ℕ) → code_byte w at ≡ Ok byte → code_from w at (suc n) ≡ byte ∷ code_from w (at + 1) n
unfolding code_from
code_next w at n byte e = rw (e, code_from) refl

pub code_stops : (w : World) (at n : ℕ) (f : Fault) → code_byte w at ≡ Err f → code_from w at (suc n) ≡ []
unfolding code_from
code_stops w at n f e = rw (e, code_from) refl

all_code : (w : World) (at n : ℕ) (bytes : List ℕ) → length bytes ≡ n →
    ((i : ℕ) → i < n → code_byte w (at + i) ≡ Ok (slice_index bytes i)) → code_from w at n ≡ bytes
all_code w at zero [] size each = code_none w at
all_code w at zero (x ∷ bytes) size each = absurd cc
all_code w at (suc n) [] size each = absurd cc
all_code w at (suc n) (x ∷ bytes) size each =
    code_next w at n x (ap (code_byte w) (sym (add-zero at)) ∙ each 0 (omega arith))
    ∙ ap (λ (xs : List ℕ). x ∷ xs) (all_code w (at + 1) n bytes (omega arith)
    (λ i within. (let same : at + 1 + i ≡ at + suc i = omega arith in ap (code_byte w) same ∙ each (suc i) (omega arith))))

pub whole_code : (w : World) (n : ℕ) (bytes : List ℕ) → length bytes ≡ n → read_result w Cs w.regs.eip n ≡ Ok bytes →
    code_from w 0 n ≡ bytes
whole_code w n bytes size e =
    let run = whole_run w Cs w.regs.eip n bytes e in
    all_code w 0 n bytes size
    (λ i within. (let same : 0 + i ≡ i = omega arith in ap (code_byte w) same ∙ whole_byte w n i bytes run within))

-- code bytes that are fetched one by one: those before, and what is left
pub more_code : (w : World) (before all : List ℕ) (at byte : ℕ) → at < 15 → code_byte w at ≡ Ok byte →
    before ++ code_from w at (15 - at) ≡ all → (before ++ (byte ∷ [])) ++ code_from w (at + 1) (15 - (at + 1)) ≡ all
more_code w before all at byte within e left =
    let rest : 15 - at ≡ suc (15 - (at + 1)) = omega arith in
    append_assoc before (byte ∷ []) (code_from w (at + 1) (15 - (at + 1)))
    ∙ ap (λ (xs : List ℕ). before ++ xs) (sym (ap (code_from w at) rest ∙ code_next w at (15 - (at + 1)) byte e))
    ∙ left

pub code_ends : (w : World) (before all : List ℕ) (at : ℕ) (f : Fault) → at < 15 → code_byte w at ≡ Err f →
    before ++ code_from w at (15 - at) ≡ all → before ≡ all
code_ends w before all at f within e left =
    let rest : 15 - at ≡ suc (15 - (at + 1)) = omega arith in
    sym (append-nil before)
    ∙ ap (λ (xs : List ℕ). before ++ xs) (sym (ap (code_from w at) rest ∙ code_stops w at (15 - (at + 1)) f e))
    ∙ left

pub code_full : (w : World) (before all : List ℕ) (at : ℕ) → 15 ≤ at → before ++ code_from w at (15 - at) ≡ all → before ≡ all
code_full w before all at done left = grind (arith, append-nil, code_none)

-- a byte of a region, or 0 after it
byte_of_region : (b : List ℕ) (at n i : ℕ) → AreBytes b → at + n ≤ length b → (i < n) ⊎ (n ≤ i) → get_or (region b at n) i 0 < 256
byte_of_region b at n i bytes inside (inl within) = let same = at_region b at n i within in let small = bytes (at + i) in omega arith
byte_of_region b at n i bytes inside (inr past) = grind (arith, get_or_past, length-region)

-- eight bytes are those of their number
bytes_of_region : (b : List ℕ) (at : ℕ) → AreBytes b → at + 8 ≤ length b →
    to_le_bytes w64 (from_le_bytes w64 (region b at 8)) ≡ region b at 8
bytes_of_region b at bytes inside =
    le_bytes_8 (region b at 8) _ (length-region b at 8 inside) (λ i. byte_of_region b at 8 i bytes inside (cases_lt i 8)) refl

-- the bytes of a region after its first
tail_of_region : (b : List ℕ) (at : ℕ) → drop 1 (region b at 8) ≡ region b (at + 1) 7
unfolding region
tail_of_region b at = drop-take 1 7 (drop at b) ∙ ap (take 7) (drop-drop 1 at b)

-- a region in two parts
region_parts : (b : List ℕ) (at n k : ℕ) → region b at (n + k) ≡ region b at n ++ region b (at + n) k
unfolding region
region_parts b at n k = take-add n k (drop at b) ∙ ap (λ (xs : List ℕ). take n (drop at b) ++ take k xs) (drop-drop n at b)

-- the words at an address and seven bytes after it are the 15 bytes from there on
pub words_of_region : (b : List ℕ) (at low high : ℕ) → AreBytes b → at + 15 ≤ length b → low ≡ from_le_bytes w64 (region b at 8) →
    high ≡ from_le_bytes w64 (region b (at + 7) 8) → region b at 15 ≡ code_bytes (record { low = low; high = high })
unfolding code_bytes
words_of_region b at low high bytes inside first second =
    let same : at + 7 + 1 ≡ at + 8 = omega arith in
    region_parts b at 8 7
    ∙ ap (λ (xs : List ℕ). xs ++ region b (at + 8) 7) (sym (bytes_of_region b at bytes (omega arith)) ∙ ap (to_le_bytes w64) (sym first))
    ∙ ap (λ (xs : List ℕ). to_le_bytes w64 low ++ xs)
    (ap (λ (from : ℕ). region b from 7) (sym same) ∙ sym (tail_of_region b (at + 7))
    ∙ ap (drop 1) (sym (bytes_of_region b (at + 7) bytes (omega arith)) ∙ ap (to_le_bytes w64) (sym second)))

-- there are 15 of them

-- ---- near transfers

abbrev IsBase : Result ℕ Fault → Type 0
IsBase (Ok base) = Unit {0}
IsBase (Err fault) = ⊥

is_base : {r : Result ℕ Fault} {base : ℕ} → r ≡ Ok base → IsBase r
is_base e = subst IsBase (sym e) tt

tests : (bar absent out privileged : Bool) (base : ℕ) (f g h k : Fault) →
    IsBase (if bar then Err f else if absent then Err g else if out then Err h else Ok base) →
    (if bar || false && privileged then Some f else if absent then Some g else if out then Some k else None) ≡ None
tests true absent out privileged base f g h k is = absurd is
tests false true out privileged base f g h k is = absurd is
tests false false true privileged base f g h k is = absurd is
tests false false false privileged base f g h k is = refl

near_in_row : (sel offset base : ℕ) (row : Row) → base_in_row Cs sel row offset 1 false ≡ Ok base →
    code_row_fault row sel offset false ≡ None
near_in_row sel offset base None e = absurd (is_base e)
near_in_row sel offset base (Some row) e = grind (arith, is_base, tests)

unless_null : (rows : List Row) (sel offset base : ℕ) (null : Bool) →
    (if null then Err (fault_with GENERAL_PROTECTION 0) else base_in_row Cs sel (row_of_selector rows sel) offset 1 false) ≡ Ok base →
    (if null then Some (fault_with GENERAL_PROTECTION 0) else code_row_fault (row_of_selector rows sel) sel offset false) ≡ None
unless_null rows sel offset base true e = absurd (is_base e)
unless_null rows sel offset base false e = near_in_row sel offset base (row_of_selector rows sel) e

same_test : (offset : ℕ) → nat_lt offset SEGMENT_SIZE ≡ nat_le (offset + 1) SEGMENT_SIZE
same_test offset = grind (arith, nat_tests)

in_real : (inside : Bool) (base : ℕ) (f g : Fault) → IsBase (if inside then Ok base else Err f) → (if inside then None else Some g) ≡ None
in_real true base f g is = refl
in_real false base f g is = absurd is

abbrev IsNone : Option Fault → Type 0
IsNone fault = fault ≡ None

by_mode : (mode : Mode) (r : Regs) (rows : List Row) (offset base : ℕ) → segment_base mode r rows Cs offset 1 false ≡ Ok base →
    IsNone (elim mode [
      | Real ↦ if nat_lt offset SEGMENT_SIZE then None else Some (fault_with GENERAL_PROTECTION 0)
      | Protected ↦ load_fault rows Cs r.cs offset false
    ])
unfolding segment_base load_fault
by_mode Real r rows offset base e = grind (arith, in_real, is_base, same_test)
by_mode Protected r rows offset base e = unless_null rows r.cs offset base (is_null r.cs) e

-- what is in CS is code, or a segment of real mode: it doesn't expand down
row_goes_up : (row : Row) (part : Hidden) → part_in_row Cs row ≡ Some part → is_data_with part.access 4 ≡ false
row_goes_up None part e = absurd cc
row_goes_up (Some row) part e = grind (arith, peel, down_bit, code_goes_up)

code_part : (null : Bool) (row : Row) (part : Hidden) → (if null then None else part_in_row Cs row) ≡ Some part →
    is_data_with part.access 4 ≡ false
code_part true row part e = absurd cc
code_part false row part e = row_goes_up row part e

pub part_goes_up : (mode : Mode) (r : Regs) (rows : List Row) (part : Hidden) → found mode r rows Cs ≡ Some part →
    is_data_with part.access 4 ≡ false
unfolding part_of_selector
part_goes_up Real r rows part e = grind arith
part_goes_up Protected r rows part e = code_part (is_null r.cs) (row_of_selector rows r.cs) part e

pub near_target : (w : World) (offset base : ℕ) → segment_base w.mode w.regs w.descriptors Cs offset 1 false ≡ Ok base →
    transfer_fault w w.regs.cs offset false ≡ None
near_target w offset base e = by_mode w.mode w.regs w.descriptors offset base e
