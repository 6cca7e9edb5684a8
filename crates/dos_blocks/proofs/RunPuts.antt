-- What each call puts into the arena leaves one, and neither takes out nor puts in a block of INT 31h function 0100h; what each service
-- puts into the arena and among the descriptors may be put.
use Rattle.std.proofs.Common.{◌≡◌, ℕ, ◌+◌, ◌-◌, ◌<◌, ◌≤◌, Bool, true, false, List, [], ◌∷◌, length, refl, arith, ◌≢◌, zero, suc, inl, inr}
use Rattle.std.proofs.{Common.{get_or, Some, None}, lemmas.Bool.{false≢true, cases_order, eq-eqb, ne_eqb}, lemmas.List.{get_or_past}}
use Rattle.std.proofs.lemmas.Option.{get_or_from_slice_get}
use Rattle.client_world.specs.{declared.dos_memory.DosEntry.{DosEntry}, declared.memory_map.TheConstants.{ARENA_END}, DosMemory.{is_free}}
use Rattle.client_world.specs.{DosMemory.{is_dpmi, Fills, IsArena, block_segment}, declared.descriptors.Origin.{Origin}}
use Rattle.client_world.specs.{declared.descriptors.Origin.TheVariants.{Dos}, declared.host_frames.TheConstants.{DESCRIPTORS}}
use Rattle.client_world.specs.{declared.host_frames.TheConstants.{FIRST_FREE_DESCRIPTOR}, declared.dos_memory.DosState.TheVariants.{Dpmi}}
use Rattle.client_world.specs.{FreeRuns.{IsFreeRunOf}, Selector.{Row, row_at_index}, Soundness.{IsSound, HasOrigin, descriptors_for}}
use Rattle.client_world.specs.World.{World}
use Rattle.guest_space.specs.{Arena.{with_replaced_entries}, DosRuns.{CanPutRun, block_alone, made_blocks}}
use Rattle.dos_blocks.specs.Blocks.{missing_entry, entry_of_place, block_state, split, is_of_kind, free_entries_after, greatest_size}
use Rattle.dos_blocks.specs.{Blocks.{free_before, room_before, joined_entry, run_of_block}, Puts.{CanPut}}
use Rattle.dos_blocks.proofs.{Searches.{HasFit, HasBlock}, Splicing.{free_plain, used_plain, take_one, behind_within, behind_fills}}
use Rattle.dos_blocks.proofs.Splicing.{behind_plain, behind_right, possible_ends, is_before, behind_made, joined_next, arena-spliced}
use Rattle.dos_blocks.proofs.{Splicing.{fills-split, joined-split, some-split, starts-split, plain-split}, SelectorLaws.{HasBlockRun}}
use Rattle.std.specs.List.{slice_get}
use Rattle.guest_space.proofs.ArenaRuns.{fills_at}

-- they leave an arena, whatever they are
pub record CanSplice (es : List DosEntry) (place old : ℕ) (new : List DosEntry) : Type 0 where
  pub within : place + old ≤ length es
  pub sound : IsArena (with_replaced_entries es place old new)

-- a block isn't free
pub held_state : (for_dpmi : Bool) → is_free (block_state for_dpmi) ≡ false
held_state true = refl
held_state false = refl

plain_state : (for_dpmi : Bool) → for_dpmi ≡ false → is_dpmi (block_state for_dpmi) ≡ false
plain_state true h = cc
plain_state false h = refl

plain_kind : (for_dpmi : Bool) (entry : DosEntry) → for_dpmi ≡ false → is_of_kind for_dpmi entry.state ≡ true → is_dpmi entry.state ≡ false
plain_kind true entry h kind = cc
plain_kind false entry h kind = used_plain entry.state kind

-- a block is given

pub splice_give : (es : List DosEntry) (for_dpmi : Bool) (n place : ℕ) → IsArena es → HasFit es n place →
    CanSplice es place 1 (split (block_state for_dpmi) (entry_of_place es place).at n (entry_of_place es place).paras)
splice_give es for_dpmi n place arena fit =
    let small = fit.small in
    let state = block_state for_dpmi in
    let at = (entry_of_place es place).at in
    let paras = (entry_of_place es place).paras in
    record {
      within = omega arith;
      sound = arena-spliced es place 1 (split state at n paras) missing_entry arena (omega arith)
          (λ from to f. (let one : Fills from (entry_of_place es place ∷ []) to = rw (take_one es place small) at f in
          fills-split state at n paras from to fit.room one.0 one.1))
          (joined-split state at n paras (held_state for_dpmi))
          (grind (arith, held_state, joined_next, some-split, starts-split));
    }

pub can_give : (es : List DosEntry) (for_dpmi : Bool) (n place : ℕ) → for_dpmi ≡ false → IsArena es → HasFit es n place →
    CanPut es place 1 (split (block_state for_dpmi) (entry_of_place es place).at n (entry_of_place es place).paras)
can_give es for_dpmi n place dos arena fit =
    let can = splice_give es for_dpmi n place arena fit in
    grind (arith, free_plain, plain-split, plain_state, take_one)

-- a block is resized

pub splice_resize : (es : List DosEntry) (for_dpmi : Bool) (n place : ℕ) → IsArena es → place < length es → n ≤ greatest_size es place →
    CanSplice es place (1 + free_entries_after es place)
    (split (block_state for_dpmi) (entry_of_place es place).at n (greatest_size es place))
splice_resize es for_dpmi n place arena small room =
    let state = block_state for_dpmi in
    let at = (entry_of_place es place).at in
    let paras = greatest_size es place in
    record {
      within = behind_within es place small;
      sound = arena-spliced es place (1 + free_entries_after es place) (split state at n paras) missing_entry arena
          (behind_within es place small)
          (λ from to f. (let filled = behind_fills es place from to small f in
          fills-split state at n paras from to room filled.starts filled.ends))
          (joined-split state at n paras (held_state for_dpmi))
          (grind (arith, behind_right, held_state, some-split, starts-split));
    }

pub can_resize : (es : List DosEntry) (for_dpmi : Bool) (n segment place : ℕ) → for_dpmi ≡ false → IsArena es →
    HasBlock for_dpmi es segment place → n ≤ greatest_size es place →
    CanPut es place (1 + free_entries_after es place) (split (block_state for_dpmi) (entry_of_place es place).at n (greatest_size es place))
can_resize es for_dpmi n segment place dos arena block room =
    let can = splice_resize es for_dpmi n place arena block.small room in
    grind (arith, behind_plain, plain-split, plain_kind, plain_state)

-- a block is freed

pub splice_free : (es : List DosEntry) (place : ℕ) → IsArena es → place < length es →
    CanSplice es (place - free_before es place) (free_before es place + (1 + free_entries_after es place)) (joined_entry es place ∷ [])
splice_free es place arena small =
    let front = is_before es place arena small in
    let behind = behind_within es place small in
    let in_front = front.within in
    let end : place - free_before es place + (free_before es place + (1 + free_entries_after es place))
    ≡ place + (1 + free_entries_after es place) = omega arith in
    record {
      within = omega arith;
      sound = arena-spliced es (place - free_before es place) (free_before es place + (1 + free_entries_after es place))
          (joined_entry es place ∷ []) missing_entry arena
          (omega arith)
          (λ from to f. (grind (arith, behind_fills)))
          ((λ free. refl), tt)
          (grind (arith, behind_right, false≢true));
    }

pub can_free : (es : List DosEntry) (for_dpmi : Bool) (segment place : ℕ) → for_dpmi ≡ false → IsArena es →
    HasBlock for_dpmi es segment place →
    CanPut es (place - free_before es place) (free_before es place + (1 + free_entries_after es place)) (joined_entry es place ∷ [])
can_free es for_dpmi segment place dos arena block = grind (arith, behind_plain, is_before, plain_kind, splice_free)

-- the numbers of what is free around a block
pub record HasRoom (es : List DosEntry) (place : ℕ) : Type 0 where
  pub before : room_before es place ≤ (entry_of_place es place).at
  pub behind : (entry_of_place es place).at + 1 + greatest_size es place ≤ ARENA_END

pub has_room : (es : List DosEntry) (place : ℕ) → IsArena es → place < length es → HasRoom es place
has_room es place arena small = record { before = (is_before es place arena small).fits; behind = possible_ends es place arena small }

-- ---- together with descriptors

-- ---- where entries are

pub later_after : (es : List DosEntry) (from to i j : ℕ) (d : DosEntry) → Fills from es to → i < j → j < length es →
    (get_or es i d).at < (get_or es j d).at
later_after [] from to i j d f less small = absurd (omega arith)
later_after (e ∷ es) from to i zero d f less small = absurd (omega arith)
later_after (e ∷ es) from to zero (suc j) d f less small = grind (arith, fills_at)
later_after (e ∷ es) from to (suc i) (suc j) d f less small = later_after es (from + 1 + e.paras) to i j d f.1 (omega arith) (omega arith)

one_place : (es : List DosEntry) (from to i j : ℕ) (d : DosEntry) → Fills from es to → i < length es → j < length es →
    (get_or es i d).at ≡ (get_or es j d).at → i ≡ j
one_place es from to i j d f one other same = elim (cases_order i j) [
  | inl equal ↦ equal
  | inr o ↦ elim o [
    | inl below ↦ omega (arith, later_after es from to i j d f below other)
    | inr above ↦ omega (arith, later_after es from to j i d f above one)
  ]
]

-- no descriptor belongs to a block that would begin where a free entry's does
pub no_descriptor : (w : World) (place index : ℕ) → IsSound w → place < length w.arena →
    is_free (entry_of_place w.arena place).state ≡ true →
    ¬ HasOrigin (row_at_index w.descriptors index) (Dos (block_segment (entry_of_place w.arena place)))
no_descriptor w place index s small free has = grind (arith, false≢true, free_plain, get_or_from_slice_get, inside_of, one_place)
  where
    inside_of : (es : List DosEntry) (place : ℕ) (entry : DosEntry) → slice_get es place ≡ Some entry → place < length es
    inside_of [] place entry e = cc
    inside_of (x ∷ xs) zero entry e = omega arith
    inside_of (x ∷ xs) (suc place) entry e = let rest = inside_of xs place entry e in omega arith

-- a row that has an origin is in the table
pub has_within : (rows : List Row) (index : ℕ) (origin : Origin) → HasOrigin (row_at_index rows index) origin → index < length rows
has_within rows index origin has = grind (arith, get_or_past)

-- ---- the blocks that are put

made_split : (at n paras : ℕ) → n ≢ 0 → made_blocks (split Dpmi at n paras) ≡ block_alone (at + 1) n
made_split at n paras some = grind (arith, eq-eqb, ne_eqb)

made_one : (entry : DosEntry) → is_dpmi entry.state ≡ true → 0 < entry.paras →
    made_blocks (entry ∷ []) ≡ block_alone (block_segment entry) entry.paras
made_one entry made some = rw (made, ne_eqb entry.paras 0 (λ e. omega arith)) refl

-- ---- 0100h

pub can_give_run : (w : World) (n place first : ℕ) → IsSound w → w.width ≢ None → n ≢ 0 → HasFit w.arena n place →
    FIRST_FREE_DESCRIPTOR ≤ first → IsFreeRunOf w.descriptors first (descriptors_for n) →
    CanPutRun w place 1 (split Dpmi (entry_of_place w.arena place).at n (entry_of_place w.arena place).paras)
    (run_of_block (entry_of_place w.arena place) first 0 n)
can_give_run w n place first s width some fit from run =
    let can = splice_give w.arena true n place s.arena fit in
    let within = run.within in
    grind (arith, free_plain, made_split, no_descriptor, take_one)

-- ---- 0101h

-- a block's descriptors are in the table
run_within : (w : World) (first place : ℕ) → IsSound w → HasBlockRun w first place →
    first + descriptors_for (entry_of_place w.arena place).paras
    + (descriptors_for 0 - descriptors_for (entry_of_place w.arena place).paras) ≤ DESCRIPTORS
run_within w first place s block = grind (arith, has_within)

pub can_free_run : (w : World) (first place : ℕ) → IsSound w → w.width ≢ None → HasBlockRun w first place →
    CanPutRun w (place - free_before w.arena place) (free_before w.arena place + (1 + free_entries_after w.arena place))
    (joined_entry w.arena place ∷ []) (run_of_block (entry_of_place w.arena place) first (entry_of_place w.arena place).paras 0)
can_free_run w first place s width block = grind (arith, behind_made, is_before, made_one, run_within, splice_free)

-- ---- 0102h

pub can_resize_run : (w : World) (n first place : ℕ) → IsSound w → w.width ≢ None → HasBlockRun w first place → n ≢ 0 →
    n ≤ greatest_size w.arena place → IsFreeRunOf w.descriptors (first + descriptors_for (entry_of_place w.arena place).paras)
    (descriptors_for n - descriptors_for (entry_of_place w.arena place).paras) →
    CanPutRun w place (1 + free_entries_after w.arena place) (split Dpmi (entry_of_place w.arena place).at n (greatest_size w.arena place))
    (run_of_block (entry_of_place w.arena place) first (entry_of_place w.arena place).paras n)
can_resize_run w n first place s width block some room added =
    let can = splice_resize w.arena true n place s.arena block.small room in
    grind (arith, behind_made, made_one, made_split)
