-- The world that has the descriptor of the real caller's stack is sound; and what is asked in it, by what is asked in the world before the
-- descriptor was set.
use Rattle.std.proofs.Common.{◌≡◌, ◌≢◌, ℕ, ◌*◌, ◌<◌, slice_set, refl, ap, sym, arith, Option, None, Some, ◌+◌, ◌/◌, ◌%◌, ◌^◌, Bool, true}
use Rattle.std.proofs.Common.{false, ◌&&◌, not, List, length, ◌∙◌, Result, Ok, Err, get_or-set_same, get_or-set_other}
use Rattle.std.proofs.{lemmas.Option.{same_Some}, lemmas.Bool.Decides.{nat_tests}, lemmas.Bool.{and_parts}}
use Rattle.client_world.specs.{declared.descriptors.Desc.{Desc}, declared.descriptors.Origin.{Origin}}
use Rattle.client_world.specs.{declared.descriptors.Origin.TheVariants.{Host}, declared.limits.TheConstants.{GREATEST_DEPTH}}
use Rattle.client_world.specs.{declared.memory_map.TheConstants.{PARAGRAPH_SIZE}, declared.registers.Width.{Width}}
use Rattle.client_world.specs.{Descriptor.{FitsDescriptor}, Selector.{Row, row_at_index, index_of, is_local, is_null, row_of_selector}}
use Rattle.client_world.specs.{Soundness.{IsSound, IsCallbackStack, IsOfDosBlock, SoundWidth}, World.{Callback, World, depth, MemoryBlock}}
use Rattle.client_world.specs.{declared.faults.Fault.{Fault}, declared.faults.TheConstants.{GENERAL_PROTECTION, STACK_EXCEPTION}}
use Rattle.client_world.specs.{declared.place.Place.{Place}, declared.registers.Mode.{Mode}, declared.registers.Mode.TheVariants.{Real}}
use Rattle.client_world.specs.{declared.registers.Mode.TheVariants.{Protected}, declared.segments.FarPtr.{FarPtr}}
use Rattle.client_world.specs.{declared.segments.SegReg.TheVariants.{Cs, Es, Ss}, Access.{access, base_in_row, far_access, fault_with}}
use Rattle.client_world.specs.{Access.{is_reachable, places_at, real_base, segment_base}, Loading.{code_row_fault, is_loadable, load_fault}}
use Rattle.client_world.proofs.SoundRows.{host_stands, row_keeps_sound}
use Rattle.guest_space.specs.{VectorLists.{callback_of_slot}, Transfer.{access_fault, fault_of}}
use Rattle.service_rows.specs.Rows.{data_at}
use Rattle.callbacks.specs.Callbacks.{stack_index, stack_row, with_stack_row}
use Rattle.std.specs.Prelude.{is_none, is_ok, nat_eq, nat_le, if◌then◌else◌}

-- where a callback is held there is a width
none_before : (width : Option Width) (w : World) (slot : ℕ) (callback : Callback) → SoundWidth width w →
    callback_of_slot w.callbacks slot ≡ Some callback → width ≢ None
none_before None w slot callback s held = λ e. (let none = s.callbacks slot in cc)
none_before (Some width) w slot callback s held = λ e. cc

pub held_width : (w : World) (slot : ℕ) (callback : Callback) → IsSound w → callback_of_slot w.callbacks slot ≡ Some callback →
    w.width ≢ None
held_width w slot callback s held = none_before w.width w slot callback s.width held

stack_fits : (segment : ℕ) → segment < 0x10000 → FitsDescriptor (data_at (segment * PARAGRAPH_SIZE) 0xFFFF)
stack_fits segment small = record { base = omega arith; limit = omega arith }

is_callbacks : (w : World) → depth w < GREATEST_DEPTH → IsCallbackStack (stack_index w)
is_callbacks w room = (omega arith, omega arith)

-- the row that was there is of no block of DOS memory
host_is_not_dos : (row : Row) → ((r : Desc × Origin) → row ≡ Some r → r.1 ≡ Host) → ¬ IsOfDosBlock row
host_is_not_dos None is e = e
host_is_not_dos (Some row) is e = rw (is row refl) at e

rows_not_dos : (width : Option Width) (w : World) (index : ℕ) → SoundWidth width w → width ≢ None → IsCallbackStack index →
    ¬ IsOfDosBlock (row_at_index w.descriptors index)
rows_not_dos None w index s some at = absurd (some refl)
rows_not_dos (Some width) w index s some at = host_is_not_dos (row_at_index w.descriptors index) (λ r e. s.callbacks index r at e)

pub not_dos : (w : World) → IsSound w → w.width ≢ None → depth w < GREATEST_DEPTH →
    ¬ IsOfDosBlock (row_at_index w.descriptors (stack_index w))
not_dos w s some room = rows_not_dos w.width w (stack_index w) s.width some (is_callbacks w room)

pub sound_row : (w : World) → IsSound w → w.width ≢ None → depth w < GREATEST_DEPTH →
    IsSound (record w { descriptors = slice_set w.descriptors (stack_index w) (stack_row w) })
sound_row w s some room =
    let at = is_callbacks w room in
    row_keeps_sound w (stack_index w) (stack_row w) s some
    (host_stands w.descriptors (stack_index w) (data_at (w.regs.ss * PARAGRAPH_SIZE) 0xFFFF) (omega (arith, at.1))
    (stack_fits w.regs.ss s.segments.ss)
    (not_dos w s some room))
    (record {
      code = λ e. omega (arith, at.0);
      stacks = λ e. omega (arith, at.0);
      host = λ e. at;
      callback = λ r _ e. sym (ap (λ (x : Desc × Origin). x.1) (same_Some _ r e));
    })

pub sound_with_stack_row : (w : World) → IsSound w → w.width ≢ None → depth w < GREATEST_DEPTH → IsSound (with_stack_row w)
unfolding with_stack_row
sound_with_stack_row w s some room = sound_row w s some room

-- a selector names the row at an index
abbrev pub names : ℕ → ℕ → Bool
names sel index = is_local sel && nat_eq (index_of sel) index

same_number : (a b : ℕ) → nat_eq a b ≡ true → a ≡ b
same_number a b e = grind (arith, nat_tests)

other_number : (a b : ℕ) → nat_eq a b ≡ false → a ≢ b
other_number a b e f = grind (arith, nat_tests)

row_here : (rows : List Row) (index sel : ℕ) (row : Row) → index < length rows → names sel index ≡ true →
    row_of_selector (slice_set rows index row) sel ≡ row
row_here rows index sel row within e =
    let parts = and_parts (is_local sel) (nat_eq (index_of sel) index) e in
    let same = same_number (index_of sel) index parts.1 in
    rw (parts.0, same) (get_or-set_same rows index row None within)

row_in_table : (rows : List Row) (index sel : ℕ) (row : Row) (local : Bool) → (local && nat_eq (index_of sel) index) ≡ false →
    (if local then row_at_index (slice_set rows index row) (index_of sel) else None)
    ≡ (if local then row_at_index rows (index_of sel) else None)
row_in_table rows index sel row true e = get_or-set_other rows index (index_of sel) row None (other_number (index_of sel) index e)
row_in_table rows index sel row false e = refl

row_elsewhere : (rows : List Row) (index sel : ℕ) (row : Row) → names sel index ≡ false →
    row_of_selector (slice_set rows index row) sel ≡ row_of_selector rows sel
row_elsewhere rows index sel row e = row_in_table rows index sel row (is_local sel) e

local_is_not_null : (sel : ℕ) → is_local sel ≡ true → is_null sel ≡ false
local_is_not_null sel e = local_number sel (same_number (sel / 4 % 2) 1 e)
  where
    local_number : (s : ℕ) → s / 4 % 2 ≡ 1 → is_null s ≡ false
    local_number s f = grind (arith, nat_tests)

indices : (w : World) → IsSound w → stack_index w < length w.descriptors
indices w s =
    let size = s.descriptors.indices in
    let few = s.depth in
    omega arith

-- ---- code

code_in_row : (w : World) (sel off : ℕ) (null : Bool) →
    is_none (if null then Some (fault_with GENERAL_PROTECTION 0) else code_row_fault (stack_row w) sel off false) ≡ false
code_in_row w sel off true = refl
code_in_row w sel off false = refl

pub code_here : (w : World) (sel off : ℕ) → IsSound w → names sel (stack_index w) ≡ true →
    is_loadable (with_stack_row w) Cs sel off false ≡ false
unfolding with_stack_row load_fault
code_here w sel off s e =
    ap (λ (row : Row). is_none (if is_null sel then Some (fault_with GENERAL_PROTECTION 0) else code_row_fault row sel off false))
    (row_here w.descriptors (stack_index w) sel (stack_row w) (indices w s) e)
    ∙ code_in_row w sel off (is_null sel)

pub code_elsewhere : (w : World) (sel off : ℕ) → names sel (stack_index w) ≡ false →
    is_loadable (with_stack_row w) Cs sel off false ≡ is_loadable w Cs sel off false
unfolding with_stack_row load_fault
code_elsewhere w sel off e =
    ap (λ (row : Row). is_none (if is_null sel then Some (fault_with GENERAL_PROTECTION 0) else code_row_fault row sel off false))
    (row_elsewhere w.descriptors (stack_index w) sel (stack_row w) e)

-- ---- the structure

pub reach_elsewhere : (w : World) (p : FarPtr) (n : ℕ) → names p.sel (stack_index w) ≡ false →
    is_reachable (with_stack_row w) p n true ≡ is_reachable w p n true
unfolding with_stack_row far_access
reach_elsewhere w p n e =
    ap (λ (row : Row). is_ok (places_at w.blocks (if is_null p.sel then Err (fault_with GENERAL_PROTECTION 0)
    else base_in_row Es p.sel row p.off n true) p.off n true))
    (row_elsewhere w.descriptors (stack_index w) p.sel (stack_row w) e)

-- an access has bytes exactly where it has no fault
told : (r : Result (List Place) Fault) → is_ok r ≡ is_none (fault_of r)
told (Ok places) = refl
told (Err f) = refl

-- inside 64 KB, by the rules of the descriptor and by those of real mode
inside_both : (blocks : List (Option MemoryBlock)) (base off n : ℕ) (f g : Fault) (inside small : Bool) → (inside ≡ true → small ≡ true) →
    is_ok (places_at blocks (if not (inside && small) then Err f else Ok base) off n true)
    ≡ is_none (fault_of (places_at blocks (if inside then Ok base else Err g) off n true))
inside_both blocks base off n f g true true e = told (places_at blocks (Ok base) off n true)
inside_both blocks base off n f g true false e = absurd (apart (e refl))
  where
    apart : ¬ (false ≡ true)
    apart h = cc
inside_both blocks base off n f g false small e = refl

segment_is_small : (end : ℕ) → nat_le end 0x10000 ≡ true → nat_le end (2 ^ 32) ≡ true
segment_is_small end e = grind (arith, nat_tests)

real_access : (mode : Mode) (w : World) (off n : ℕ) → mode ≡ Real →
    segment_base mode w.regs w.descriptors Ss off n true ≡ real_base Ss w.regs.ss off n
unfolding segment_base
real_access Real w off n e = refl
real_access Protected w off n e = absurd cc

pub reach_here : (w : World) (p : FarPtr) (n : ℕ) → IsSound w → w.mode ≡ Real → names p.sel (stack_index w) ≡ true →
    is_reachable (with_stack_row w) p n true ≡ is_none (access_fault w Ss p.off n true)
unfolding with_stack_row far_access access access_fault
reach_here w p n s mode e =
    ap (λ (row : Row). is_ok (places_at w.blocks (if is_null p.sel then Err (fault_with GENERAL_PROTECTION 0)
    else base_in_row Es p.sel row p.off n true) p.off n true))
    (row_here w.descriptors (stack_index w) p.sel (stack_row w) (indices w s) e)
    ∙ ap (λ (null : Bool). is_ok (places_at w.blocks (if null then Err (fault_with GENERAL_PROTECTION 0)
    else base_in_row Es p.sel (stack_row w) p.off n true) p.off n true))
    (local_is_not_null p.sel (and_parts (is_local p.sel) (nat_eq (index_of p.sel) (stack_index w)) e).0)
    ∙ inside_both w.blocks (w.regs.ss * PARAGRAPH_SIZE) p.off n (fault_with GENERAL_PROTECTION 0) (fault_with STACK_EXCEPTION 0)
    (nat_le (p.off + n) 0x10000) (nat_le (p.off + n) (2 ^ 32)) (segment_is_small (p.off + n))
    ∙ ap (λ (r : Result ℕ Fault). is_none (fault_of (places_at w.blocks r p.off n true))) (sym (real_access w.mode w p.off n mode))
