-- Blocks of DOS memory: which is given, resized or freed, and what becomes of the arena. A block of INT 31h function 0100h has descriptors,
-- which are made, changed and freed with it.
-- Source: MS-DOS functions 48h, 49h and 4Ah, and DPMI 0.9, INT 31h functions 0100h to 0102h; the first fit, that neighbouring free entries
-- are always joined, and that a refusal changes nothing are own.
use Rattle.std.specs.Prelude.{ℕ, ◌≡◌, ◌≢◌, ◌≤◌, ◌+◌, ◌-◌, Bool, true, false, ◌&&◌, nat_eq, nat_le, max, if◌then◌else◌, List, [], ◌∷◌, Some}
use Rattle.std.specs.{Prelude.{None, Ok, Err, slice_index_or}, declared.option.Option.{Option}, declared.result.Result.{Result}}
use Rattle.client_world.specs.{declared.descriptors.Origin.{Origin}, declared.descriptors.Origin.TheVariants.{Own, Low, Entry, Psp}}
use Rattle.client_world.specs.{declared.descriptors.Origin.TheVariants.{Segment, Dos, Host}, declared.dos_memory.DosEntry.{DosEntry}}
use Rattle.client_world.specs.{declared.dos_memory.DosRefusal.{DosRefusal}, declared.dos_memory.DosRefusal.TheVariants.{NoMemory}}
use Rattle.client_world.specs.{declared.dos_memory.DosRefusal.TheVariants.{WrongBlock}, declared.dos_memory.DosRun.{DosRun}}
use Rattle.client_world.specs.{declared.dos_memory.DosState.{DosState}, declared.dos_memory.DosState.TheVariants.{Free, Used, Dpmi}}
use Rattle.client_world.specs.{declared.host_frames.TheConstants.{DESCRIPTORS}, DosMemory.{is_free, is_dpmi, block_segment}, Selector.{Row}}
use Rattle.client_world.specs.{Selector.{row_at_index}, Soundness.{descriptors_for}, World.{World}}
use Rattle.guest_space.specs.{Arena.{with_entries}, DosRuns.{with_entries_and_run}}
use Rattle.service_rows.specs.{FirstIndex.{first_index}, FreeRun.{first_free_run, is_free_run}}

-- what a call returns, and the world after it
pub record Done (A : Type 0) : Type 0 where
  pub answer : Result A DosRefusal
  pub world : World

-- the entry at a place; where there is none it counts as one that isn't free
abbrev pub missing_entry : DosEntry
missing_entry = record { at = 0; paras = 0; state = Used }

abbrev pub entry_of_place : List DosEntry → ℕ → DosEntry
entry_of_place entries place = slice_index_or entries place missing_entry

-- the state of a block that a DOS call makes, or INT 31h function 0100h
abbrev pub block_state : Bool → DosState
block_state for_dpmi = if for_dpmi then Dpmi else Used

-- ---- the descriptors of a block of function 0100h

-- the run of the block in an entry: the index of its first descriptor, and the block's paragraphs before and after the call
abbrev pub run_of_block : DosEntry → ℕ → ℕ → ℕ → DosRun
run_of_block entry first before after = record { seg = block_segment entry; first = first; before = before; after = after }

-- the world with entries replaced, and for a block of function 0100h its descriptors with them
abbrev pub with_block : Bool → World → ℕ → ℕ → List DosEntry → DosRun → World
with_block false w place old new run = with_entries w place old new
with_block true w place old new run = with_entries_and_run w place old new run

abbrev pub index_or_zero : Option ℕ → ℕ
index_or_zero None = 0
index_or_zero (Some index) = index

-- the index of the first descriptor of a new block of n paragraphs; 0 for a block of a DOS call, which has none
abbrev pub new_descriptor : Bool → List Row → ℕ → ℕ
new_descriptor false rows n = 0
new_descriptor true rows n = index_or_zero (first_free_run rows (descriptors_for n))

-- the segment of the block to which a descriptor belongs
abbrev pub segment_of_origin : Origin → Option ℕ
segment_of_origin Own = None
segment_of_origin Low = None
segment_of_origin Entry = None
segment_of_origin Psp = None
segment_of_origin (Segment segment) = None
segment_of_origin (Dos segment) = Some segment
segment_of_origin Host = None

abbrev pub segment_of_row : Row → Option ℕ
segment_of_row None = None
segment_of_row (Some row) = segment_of_origin row.1

-- it is that segment
abbrev pub is_of_segment : Option ℕ → ℕ → Bool
is_of_segment None segment = false
is_of_segment (Some own) segment = nat_eq own segment

-- the index of the first descriptor of the block at a segment, where it has one
unfoldable pub descriptor_of_block : List Row → ℕ → Option ℕ
descriptor_of_block rows segment = first_index (λ index. is_of_segment (segment_of_row (row_at_index rows index)) segment) 0 DESCRIPTORS

-- the same, and 0 for a block of a DOS call
abbrev pub first_descriptor : Bool → List Row → ℕ → ℕ
first_descriptor false rows segment = 0
first_descriptor true rows segment = index_or_zero (descriptor_of_block rows segment)

-- ---- giving

-- the entry is free, and has n paragraphs at least
abbrev pub fits : DosEntry → ℕ → Bool
fits entry n = is_free entry.state && nat_le n entry.paras

-- the place of the first entry that fits, where the first of the list is at a place
unfoldable pub first_fit : List DosEntry → ℕ → ℕ → Option ℕ
first_fit [] n place = None
first_fit (entry ∷ entries) n place = if fits entry n then Some place else first_fit entries n (place + 1)

-- the paragraphs of a free entry
abbrev pub free_paras : DosEntry → ℕ
free_paras entry = if is_free entry.state then entry.paras else 0

-- the paragraphs of the largest free entry, 0 where there is none
unfoldable pub largest : List DosEntry → ℕ
largest [] = 0
largest (entry ∷ entries) = max (free_paras entry) (largest entries)

-- a block of n paragraphs at the start of a free entry, and the rest, less a header, as a free entry, where there is a rest
abbrev pub split : DosState → ℕ → ℕ → ℕ → List DosEntry
split state at n paras =
    if nat_eq n paras then record { at = at; paras = n; state = state } ∷ [] else
    record { at = at; paras = n; state = state } ∷ record { at = at + n + 1; paras = paras - n - 1; state = Free } ∷ []

abbrev pub allocation_result_at : World → Bool → ℕ → Option ℕ → Done ℕ
allocation_result_at w for_dpmi n None = record { answer = Err (NoMemory (largest w.arena)); world = w }
allocation_result_at w for_dpmi n (Some place) = record {
  answer = Ok (block_segment (entry_of_place w.arena place));
  world = with_block for_dpmi w place 1
      (split (block_state for_dpmi) (entry_of_place w.arena place).at n (entry_of_place w.arena place).paras)
      (run_of_block (entry_of_place w.arena place) (new_descriptor for_dpmi w.descriptors n) 0 n);
}

-- n paragraphs are given: the first entry that fits, and the segment of its block is returned
unfoldable pub allocation_result : World → Bool → ℕ → Done ℕ
allocation_result w for_dpmi n = allocation_result_at w for_dpmi n (first_fit w.arena n 0)

-- ---- blocks

-- the entry's block is one of a DOS call, or one of INT 31h function 0100h
abbrev pub is_used : DosState → Bool
is_used Free = false
is_used Used = true
is_used Dpmi = false

abbrev pub is_of_kind : Bool → DosState → Bool
is_of_kind for_dpmi state = if for_dpmi then is_dpmi state else is_used state

-- the block of that kind starts at the segment
abbrev pub starts_at : Bool → DosEntry → ℕ → Bool
starts_at for_dpmi entry segment = is_of_kind for_dpmi entry.state && nat_eq (block_segment entry) segment

-- the place of the block of that kind which starts at a segment
unfoldable pub place_of_block : Bool → List DosEntry → ℕ → ℕ → Option ℕ
place_of_block for_dpmi [] segment place = None
place_of_block for_dpmi (entry ∷ entries) segment place =
    if starts_at for_dpmi entry segment then Some place else place_of_block for_dpmi entries segment (place + 1)

-- how many free entries follow a place, one at most, and their paragraphs with the header's
abbrev pub free_entries_after : List DosEntry → ℕ → ℕ
free_entries_after entries place = if is_free (entry_of_place entries (place + 1)).state then 1 else 0

abbrev pub room_after : List DosEntry → ℕ → ℕ
room_after entries place =
    if is_free (entry_of_place entries (place + 1)).state then 1 + (entry_of_place entries (place + 1)).paras else 0

-- the most paragraphs that the block at a place can have
abbrev pub greatest_size : List DosEntry → ℕ → ℕ
greatest_size entries place = (entry_of_place entries place).paras + room_after entries place

-- ---- resizing

-- the descriptors that a run adds are free
abbrev pub has_room_to_grow : List Row → DosRun → Bool
has_room_to_grow rows run =
    is_free_run rows (run.first + descriptors_for run.before) (descriptors_for run.after - descriptors_for run.before)

abbrev pub resize_result_at : World → Bool → ℕ → ℕ → Option ℕ → Done (Unit {0})
resize_result_at w for_dpmi segment n None = record { answer = Err WrongBlock; world = w }
resize_result_at w for_dpmi segment n (Some place) =
    if nat_le n (greatest_size w.arena place) then record {
      answer = Ok tt;
      world = with_block for_dpmi w place (1 + free_entries_after w.arena place)
          (split (block_state for_dpmi) (entry_of_place w.arena place).at n (greatest_size w.arena place))
          (run_of_block (entry_of_place w.arena place) (first_descriptor for_dpmi w.descriptors segment)
          (entry_of_place w.arena place).paras n);
    }
    else record { answer = Err (NoMemory (greatest_size w.arena place)); world = w }

-- the block gets n paragraphs where it is. This writes the headers also where it has as many already
unfoldable pub resize_result : World → Bool → ℕ → ℕ → Done (Unit {0})
resize_result w for_dpmi segment n = resize_result_at w for_dpmi segment n (place_of_block for_dpmi w.arena segment 0)

-- ---- freeing

-- how many free entries come before a place, one at most, and their paragraphs with the header's
abbrev pub free_before : List DosEntry → ℕ → ℕ
free_before entries place = if nat_le 1 place && is_free (entry_of_place entries (place - 1)).state then 1 else 0

abbrev pub room_before : List DosEntry → ℕ → ℕ
room_before entries place =
    if nat_le 1 place && is_free (entry_of_place entries (place - 1)).state then 1 + (entry_of_place entries (place - 1)).paras else 0

-- the block at a place and the free entries beside it as one free entry
abbrev pub joined_entry : List DosEntry → ℕ → DosEntry
joined_entry entries place = record {
  at = (entry_of_place entries place).at - room_before entries place;
  paras = room_before entries place + greatest_size entries place;
  state = Free;
}

abbrev pub free_result_at : World → Bool → ℕ → Option ℕ → Done (Unit {0})
free_result_at w for_dpmi segment None = record { answer = Err WrongBlock; world = w }
free_result_at w for_dpmi segment (Some place) = record {
  answer = Ok tt;
  world = with_block for_dpmi w (place - free_before w.arena place)
      (free_before w.arena place + (1 + free_entries_after w.arena place)) (joined_entry w.arena place ∷ [])
      (run_of_block (entry_of_place w.arena place) (first_descriptor for_dpmi w.descriptors segment)
      (entry_of_place w.arena place).paras 0);
}

-- the block becomes free
unfoldable pub free_result : World → Bool → ℕ → Done (Unit {0})
free_result w for_dpmi segment = free_result_at w for_dpmi segment (place_of_block for_dpmi w.arena segment 0)

-- ---- what the calls ask of a block of function 0100h

-- there is a width, the size isn't 0, and where an entry has room there is a run of descriptors
pub record CanAllocate (w : World) (n : ℕ) : Type 0 where
  pub width : w.width ≢ None
  pub some : n ≢ 0
  pub free : first_fit w.arena n 0 ≢ None → first_free_run w.descriptors (descriptors_for n) ≢ None

-- there is a width, the size isn't 0, and where the block can have it the descriptors that are added are free
pub record CanResize (w : World) (segment n : ℕ) : Type 0 where
  pub width : w.width ≢ None
  pub some : n ≢ 0
  pub free : (place : ℕ) → place_of_block true w.arena segment 0 ≡ Some place → n ≤ greatest_size w.arena place →
      has_room_to_grow w.descriptors
      (run_of_block (entry_of_place w.arena place) (first_descriptor true w.descriptors segment) (entry_of_place w.arena place).paras n)
      ≡ true
