-- The services of INT 31h on real-mode callbacks. Source: DPMI 0.9, INT 31h functions 0303h and 0304h; where the callbacks' addresses are,
-- and the reasons of refusal, are own.
use Rattle.std.specs.Prelude.{ℕ, ◌+◌, ◌-◌, Bool, ◌&&◌, [], ◌∷◌, None, Some, is_none, is_some, nat_eq, nat_le, not, if◌then◌else◌, slice_set}
use Rattle.std.specs.declared.option.Option.{Option}
use Rattle.client_world.specs.{declared.limits.TheConstants.{CALLBACKS}, declared.memory_map.TheConstants.{ROM_SEGMENT, ROM_START}}
use Rattle.client_world.specs.{declared.segments.FarPtr.{FarPtr}, declared.traps.TheConstants.{CALLBACK_TRAPS}, Registers.{with_low_half}}
use Rattle.client_world.specs.{Services.{Served, by_width, cx, dx, es_di, is_held}, World.{World}}
use Rattle.guest_space.specs.VectorLists.{callback_of_slot}
use Rattle.service_rows.specs.declared.refusal.Refusal.TheVariants.{CallbackUnavailable, InvalidCallback, InvalidSelector}
use Rattle.service_rows.specs.{FirstIndex.{first_index}, Reasons.{Service, family_outcome, unsupported}, Rows.{is_code_selector}}

-- the address in real mode of the callback of a slot: the segment of read-only memory, and there the trap byte of the slot
abbrev pub callback_offset : ℕ → ℕ
callback_offset slot = CALLBACK_TRAPS - ROM_START + slot

-- the lowest slot that is free
unfoldable pub free_slot : World → Option ℕ
free_slot w = first_index (λ slot. is_none (callback_of_slot w.callbacks slot)) 0 CALLBACKS

-- the pointer DS:(E)SI
abbrev pub ds_si : World → FarPtr
ds_si w = record { sel = w.regs.ds; off = by_width w.width w.regs.esi }

-- the world with a callback in that slot, and its address in CX:DX
abbrev pub with_new_callback : Option ℕ → World → World
with_new_callback None w = w
with_new_callback (Some slot) w = record w {
  callbacks = slice_set w.callbacks slot (Some (ds_si w, es_di w));
  regs = record w.regs {
    ecx = with_low_half w.regs.ecx ROM_SEGMENT;
    edx = with_low_half w.regs.edx (callback_offset slot);
  };
}

-- 0303h (allocate real mode callback address): CX:DX is the address of a callback whose procedure is DS:(E)SI, and whose call structure is
-- ES:(E)DI
unfoldable pub allocate_callback : World → Service
allocate_callback w = record {
  reasons =
      (InvalidSelector, not (is_code_selector w w.regs.ds)) ∷
      (InvalidSelector, not (is_held w w.regs.es)) ∷
      (CallbackUnavailable, is_none (free_slot w)) ∷ [];
  after = with_new_callback (free_slot w) w;
}

-- the slot that CX:DX is the address of, where it is one
abbrev pub addressed_slot : World → ℕ
addressed_slot w = dx w - callback_offset 0

-- CX:DX is the address of a callback that is held
abbrev pub is_callback_address : World → Bool
is_callback_address w =
    nat_eq (cx w) ROM_SEGMENT && nat_le (callback_offset 0) (dx w) && is_some (callback_of_slot w.callbacks (addressed_slot w))

-- 0304h (free real mode callback address): frees the callback at CX:DX
unfoldable pub free_callback : World → Service
free_callback w = record {
  reasons = (InvalidCallback, not (is_callback_address w)) ∷ [];
  after = record w { callbacks = slice_set w.callbacks (addressed_slot w) None };
}

unfoldable pub callback_function : ℕ → World → Service
callback_function ax w =
    if nat_eq ax 0x0303 then allocate_callback w else
    if nat_eq ax 0x0304 then free_callback w else unsupported w

-- the carry that INT 31h returns, and the world after it
unfoldable pub callback_service : ℕ → World → Served
callback_service ax w = family_outcome (callback_function ax w) w
