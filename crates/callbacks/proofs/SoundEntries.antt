-- A callback and its return lead from a sound world to a sound one, and what they hand over: the frame and the structure are bytes.
use Rattle.std.proofs.Common.{◌≡◌, ℕ, ◌-◌, length, refl, Option, None, Some, ◌≢◌, ◌<◌, ◌≤◌, Bool, true, false, List, [], ◌∷◌, ◌++◌, take}
use Rattle.std.proofs.{Common.{inl, inr, ap, ◌∙◌, sym, subst, arith, Ok, Err, get_or-set_same}, lemmas.Bool.{cases_lt}}
use Rattle.std.proofs.lemmas.List.{length-append, length-take-le}
use Rattle.client_world.specs.{declared.memory_map.TheConstants.{ROM_SEGMENT, ROM_START}, declared.registers.Regs.{Regs}}
use Rattle.client_world.specs.{declared.registers.Width.{Width}, declared.registers.Width.TheVariants.{Sixteen, ThirtyTwo}}
use Rattle.client_world.specs.{declared.selectors.TheConstants.{HOST_CODE}, declared.traps.TheConstants.{CALLBACK_RETURN_TRAP}}
use Rattle.client_world.specs.{Registers.{flags_image, has_bit}, Selector.{selector_of, Row, index_of, is_local, is_null, row_at_index}}
use Rattle.client_world.specs.{World.{World, depth}, declared.calls.Record.TheVariants.{Back}}
use Rattle.client_world.specs.{declared.faults.TheConstants.{GENERAL_PROTECTION}, declared.host_frames.TheConstants.{DESCRIPTORS}}
use Rattle.client_world.specs.{declared.host_frames.TheConstants.{PAGE_SIZE}, declared.limits.TheConstants.{GREATEST_DEPTH}}
use Rattle.client_world.specs.{declared.registers.TheConstants.{INTERRUPT_BIT}, declared.segments.FarPtr.{FarPtr}}
use Rattle.client_world.specs.{declared.segments.SegReg.TheVariants.{Es, Cs}, Access.{base_in_row, fault_with, is_reachable, far_access}}
use Rattle.client_world.specs.{Services.{es_di}, Soundness.{IsSound, HasSegments}, declared.calls.Record.{Record}}
use Rattle.client_world.specs.declared.registers.Mode.TheVariants.{Real, Protected}
use Rattle.exec_flow.specs.Interrupts.{item_bits}
use Rattle.guest_ram.specs.Bytes.{AreBytes}
use Rattle.guest_space.specs.{Pending.{number_bytes}, Far.{world_after_far_write, far_bytes}}
use Rattle.translation.specs.{declared.structure.TheConstants.{STRUCTURE_SIZE}, Structure.{index_results, other_results, structure_bytes}}
use Rattle.translation.specs.Structure.{structure_flags, structure_regs}
use Rattle.translation.proofs.SoundCalls.{HasBytes, dword_has_bytes, index_bytes, join, other_bytes, word_has_bytes, some_width}
use Rattle.translation.proofs.{SoundCalls.{structure_segments}, PutPart.{reachable_after}, HandedOver.{same_far}}
use Rattle.callbacks.specs.Callbacks.{caller_structure, callback_frame, after_entering, after_leaving, enter_callback, callback_frame_start}
use Rattle.callbacks.specs.Callbacks.{callback_frame_size, leave_callback, procedure_regs, with_frame_and_structure, with_stack_row}
use Rattle.callbacks.specs.{Callbacks.{stack_index, stack_row}, Services.{callback_offset}, HandOver.{HasEntered, HasLeft}}
use Rattle.std.specs.Prelude.{if◌then◌else◌}
use Rattle.client_world.proofs.{SoundWrites.{IsSound-real, IsSound-regs, IsSound-vif}, NamedWords.{loadable_is_word, past}}
use Rattle.guest_space.proofs.{FarLaws.{reached, sound_far_put, world_far_written, written_is_read}, RecordWrites.{has_width}}
use Rattle.guest_space.proofs.SoundLists.{IsSound-calls, far_are_bytes}
use Rattle.callbacks.proofs.{Started.{memory_alone, entering_calls, leaving_calls, is_back, is_start}, StackAsked.{held_width}}
use Rattle.callbacks.proofs.StackAsked.{sound_with_stack_row}
use Rattle.mode_stack.proofs.Trips.{but_last}

item_bytes : (width : Option Width) (v : ℕ) → HasBytes (number_bytes (item_bits width) v)
item_bytes None v = word_has_bytes v
item_bytes (Some Sixteen) v = word_has_bytes v
item_bytes (Some ThirtyTwo) v = dword_has_bytes v

pub frame_bytes : (w : World) → AreBytes (callback_frame w)
unfolding callback_frame
frame_bytes w =
    (join (join (item_bytes w.width (CALLBACK_RETURN_TRAP - ROM_START)) (item_bytes w.width (selector_of HOST_CODE)))
    (item_bytes w.width (flags_image w.regs.flags w.vif))).each

index_have : (r : Regs) → HasBytes (index_results r)
index_have r = record { each = index_bytes r }

other_have : (w : World) → HasBytes (other_results w.regs w.vif)
other_have w = record { each = other_bytes w.regs w.vif }

pub caller_bytes : (w : World) (slot : ℕ) → AreBytes (caller_structure w slot)
unfolding caller_structure
caller_bytes w slot =
    (join (join (join (join (join (join (index_have w.regs) (dword_has_bytes 0)) (other_have w)) (word_has_bytes (callback_offset slot)))
    (word_has_bytes ROM_SEGMENT)) (word_has_bytes w.regs.esp)) (word_has_bytes w.regs.ss)).each

pub caller_size : (w : World) (slot : ℕ) → length (caller_structure w slot) ≡ STRUCTURE_SIZE
unfolding caller_structure index_results other_results
caller_size w slot = refl

-- ---- a selector through which something is reached is a word

no_base_there : (null local : Bool) (row : Row) (sel offset n base : ℕ) (write : Bool) → row ≡ None →
    (if null then Err (fault_with GENERAL_PROTECTION 0) else base_in_row Es sel (if local then row else None) offset n write) ≡ Ok base → ⊥
no_base_there true local row sel offset n base write none e = absurd cc
no_base_there false true None sel offset n base write none e = absurd cc
no_base_there false true (Some row) sel offset n base write none e = absurd cc
no_base_there false false row sel offset n base write none e = absurd cc

reachable_is_word : (w : World) (p : FarPtr) (n : ℕ) (write : Bool) → length w.descriptors ≡ DESCRIPTORS → is_reachable w p n write ≡ true →
    p.sel < 0x10000
reachable_is_word w p n write size e =
    let run = reached w p n write e in
    elim (cases_lt p.sel 0x10000) [
      | inl small ↦ small
      | inr large ↦
          absurd (no_base_there (is_null p.sel) (is_local p.sel) (row_at_index w.descriptors (index_of p.sel)) p.sel p.off n run.base write
          (past w.descriptors p.sel size large) run.is)
    ]

-- ---- a callback

procedure_segments : (w : World) (procedure at : FarPtr) → depth w < GREATEST_DEPTH → procedure.sel < 0x10000 → at.sel < 0x10000 →
    HasSegments (procedure_regs w procedure at)
unfolding procedure_regs
procedure_segments w procedure at room code structure = record {
  es = structure;
  cs = omega arith;
  ss = omega arith;
  ds = omega arith;
  fs = omega arith;
  gs = omega arith;
}

pub sound_frame : (w : World) → IsSound w →
    IsSound (world_after_far_write w (callback_frame_start w) (callback_frame_size w) (callback_frame w))
sound_frame w s = sound_far_put w (callback_frame_start w) (callback_frame_size w) (callback_frame w) s (frame_bytes w)

sound_memory : (w : World) (slot : ℕ) (at : FarPtr) → IsSound w → IsSound (with_frame_and_structure w slot at)
unfolding with_frame_and_structure
sound_memory w slot at s =
    sound_far_put (world_after_far_write w (callback_frame_start w) (callback_frame_size w) (callback_frame w)) at STRUCTURE_SIZE
    (caller_structure w slot) (sound_frame w s)
    (caller_bytes w slot)

sound_entering : (w : World) (slot : ℕ) (procedure at : FarPtr) → IsSound w → w.width ≢ None → depth w < GREATEST_DEPTH →
    HasSegments (procedure_regs w procedure at) → IsSound (after_entering w slot procedure at)
unfolding after_entering
sound_entering w slot procedure at s some room segments =
    let x = with_frame_and_structure w slot at in
    let r = procedure_regs w procedure at in
    let calls = w.calls ++ Back slot at ∷ [] in
    let few : length calls ≤ GREATEST_DEPTH = omega (arith, length-append w.calls (Back slot at ∷ []), room) in
    let alone : x.width ≡ w.width = ap (λ (y : World). y.width) (memory_alone w slot at) in
    let wide : x.width ≢ None = λ e. some (sym alone ∙ e) in
    some_width x.width (record x { calls = calls; regs = r; vif = false }) wide refl
    (IsSound-vif (record x { calls = calls; regs = r }) false
    (IsSound-regs (record x { calls = calls }) r (IsSound-calls x calls (sound_memory w slot at s) wide few) segments))

with_row_width : (w : World) → w.width ≢ None → (with_stack_row w).width ≢ None
unfolding with_stack_row
with_row_width w some = some

with_row_depth : (w : World) → depth (with_stack_row w) ≡ depth w
unfolding with_stack_row
with_row_depth w = refl

pub sound_enter : (w u : World) (slot : ℕ) → IsSound w → enter_callback w slot ≡ Ok u → IsSound u
sound_enter w u slot s e =
    let start = is_start w u slot e in
    let x = with_stack_row w in
    let some = held_width w slot (start.procedure, start.at) s start.held in
    let sound = sound_with_stack_row w s some start.room in
    let room : depth x < GREATEST_DEPTH = subst (λ (n : ℕ). n < GREATEST_DEPTH) (sym (with_row_depth w)) start.room in
    subst IsSound (sym start.is)
    (sound_entering x slot start.procedure start.at sound (with_row_width w some) room
    (procedure_segments x start.procedure start.at room
    (loadable_is_word x Cs start.procedure.sel start.procedure.off false sound.descriptors.indices start.code)
    (reachable_is_word x start.at STRUCTURE_SIZE true sound.descriptors.indices start.there)))

-- ---- a return

sound_leaving : (w : World) (bytes : List ℕ) → IsSound w → 0 < depth w → AreBytes bytes → IsSound (after_leaving w bytes)
unfolding after_leaving
sound_leaving w bytes s some small =
    let calls = take (depth w - 1) w.calls in
    let r = structure_regs bytes in
    let on = has_bit (structure_flags bytes) INTERRUPT_BIT in
    let depths = s.depth in
    let few : length calls ≤ GREATEST_DEPTH = omega (arith, length-take-le (depth w - 1) w.calls (omega arith), depths) in
    IsSound-real (record w { calls = calls; regs = r; vif = on })
    (IsSound-vif (record w { calls = calls; regs = r }) on
    (IsSound-regs (record w { calls = calls }) r (IsSound-calls w calls s (has_width w s some) few) (structure_segments bytes small)))

pub sound_leave : (w u : World) → IsSound w → leave_callback w ≡ Ok u → IsSound u
sound_leave w u s e =
    let back = is_back w u e in
    subst IsSound (sym back.is) (sound_leaving w (structure_bytes w (es_di w)) s back.some (far_are_bytes w (es_di w) STRUCTURE_SIZE s))

-- ---- what they hand over

-- ---- the structure is read as it was written

-- what is written at a pointer is read there
put_back : (w : World) (p : FarPtr) (n : ℕ) (bytes : List ℕ) → IsSound w → n < PAGE_SIZE → length bytes ≡ n →
    is_reachable w p n true ≡ true → far_bytes (world_after_far_write w p n bytes) p n ≡ bytes
put_back w p n bytes s few size there =
    ap (λ (x : World). far_bytes x p n) (sym (world_far_written (record { world = w; bytes = [] }) p n bytes))
    ∙ written_is_read (record { world = w; bytes = [] }) p n bytes s (omega arith) size there

-- after the frame, the structure can still be written
memory_back : (w : World) (slot : ℕ) (at : FarPtr) → IsSound w → is_reachable w at STRUCTURE_SIZE true ≡ true →
    structure_bytes (with_frame_and_structure w slot at) at ≡ caller_structure w slot
unfolding with_frame_and_structure
memory_back w slot at s there =
    put_back (world_after_far_write w (callback_frame_start w) (callback_frame_size w) (callback_frame w)) at STRUCTURE_SIZE
    (caller_structure w slot) (sound_frame w s) (omega arith)
    (caller_size w slot)
    (reachable_after w (callback_frame_start w) (callback_frame_size w) (callback_frame w) at STRUCTURE_SIZE true ∙ there)

-- the mode, the registers and the records have no part in it
read_on : (w : World) (slot : ℕ) (procedure at p : FarPtr) (n : ℕ) →
    far_bytes (after_entering w slot procedure at) p n ≡ far_bytes (with_frame_and_structure w slot at) p n
unfolding after_entering far_access
read_on w slot procedure at p n = same_far (with_frame_and_structure w slot at) (after_entering w slot procedure at) p n refl refl refl

same_structure : (w : World) (slot : ℕ) → caller_structure (with_stack_row w) slot ≡ caller_structure w slot
unfolding caller_structure with_stack_row
same_structure w slot = refl

-- ---- a callback

same_regs : (w : World) (procedure at : FarPtr) → procedure_regs (with_stack_row w) procedure at ≡ procedure_regs w procedure at
unfolding procedure_regs with_stack_row
same_regs w procedure at = refl

row_there : (w : World) → IsSound w → depth w < GREATEST_DEPTH → row_at_index (with_stack_row w).descriptors (stack_index w) ≡ stack_row w
unfolding with_stack_row
row_there w s room = let indices = s.descriptors.indices in get_or-set_same w.descriptors (stack_index w) (stack_row w) None (omega arith)

record IsEntered (w v : World) (procedure at : FarPtr) : Type 0 where
  pub mode : v.mode ≡ Protected
  pub regs : v.regs ≡ procedure_regs w procedure at
  pub vif : v.vif ≡ false
  pub stack : row_at_index v.descriptors (stack_index w) ≡ stack_row w

is_entered : (w : World) (slot : ℕ) (procedure at : FarPtr) → IsSound w → depth w < GREATEST_DEPTH →
    IsEntered w (after_entering (with_stack_row w) slot procedure at) procedure at
unfolding after_entering
is_entered w slot procedure at s room = record {
  mode = refl;
  regs = same_regs w procedure at;
  vif = refl;
  stack = ap (λ (x : World). row_at_index x.descriptors (stack_index w)) (memory_alone (with_stack_row w) slot at) ∙ row_there w s room;
}

pub has_entered : (w u : World) (slot : ℕ) → IsSound w → enter_callback w slot ≡ Ok u → HasEntered w u slot
has_entered w u slot s e =
    let start = is_start w u slot e in
    let x = with_stack_row w in
    let sound = sound_with_stack_row w s (held_width w slot (start.procedure, start.at) s start.held) start.room in
    let entered = is_entered w slot start.procedure start.at s start.room in
    record {
      procedure = start.procedure;
      at = start.at;
      held = start.held;
      pushed = ap (λ (y : World). y.calls) start.is ∙ entering_calls w slot start.procedure start.at;
      mode = ap (λ (y : World). y.mode) start.is ∙ entered.mode;
      regs = ap (λ (y : World). y.regs) start.is ∙ entered.regs;
      vif = ap (λ (y : World). y.vif) start.is ∙ entered.vif;
      stack = ap (λ (y : World). row_at_index y.descriptors (stack_index w)) start.is ∙ entered.stack;
      structure = ap (λ (y : World). structure_bytes y start.at) start.is
          ∙ read_on x slot start.procedure start.at start.at STRUCTURE_SIZE
          ∙ memory_back x slot start.at sound start.there
          ∙ same_structure w slot;
    }

-- ---- a return

record IsLeft (v : World) (s : List ℕ) : Type 0 where
  pub mode : v.mode ≡ Real
  pub regs : v.regs ≡ structure_regs s
  pub vif : v.vif ≡ has_bit (structure_flags s) INTERRUPT_BIT

is_left : (w : World) (s : List ℕ) → IsLeft (after_leaving w s) s
unfolding after_leaving
is_left w s = record { mode = refl; regs = refl; vif = refl }

pub has_left : (w u : World) → leave_callback w ≡ Ok u → HasLeft w u
has_left w u e =
    let back = is_back w u e in
    let left = is_left w (structure_bytes w (es_di w)) in
    let rest : u.calls ≡ but_last w.calls = ap (λ (x : World). x.calls) back.is ∙ leaving_calls w _ in
    record {
      slot = back.slot;
      at = back.at;
      popped = back.popped ∙ ap (λ (xs : List Record). xs ++ Back back.slot back.at ∷ []) (sym rest);
      mode = ap (λ (x : World). x.mode) back.is ∙ left.mode;
      regs = ap (λ (x : World). x.regs) back.is ∙ left.regs;
      vif = ap (λ (x : World). x.vif) back.is ∙ left.vif;
    }
