-- The services of INT 31h on vectors, on the version and on virtual interrupts. Source: DPMI 0.9, INT 31h functions 0200h to 0205h, 0400h
-- and 0900h to 0902h; the reasons of refusal are own.
use Rattle.std.specs.Prelude.{ℕ, ◌+◌, Bool, true, false, [], ◌∷◌, nat_eq, nat_lt, not, cond, if◌then◌else◌, slice_set}
use Rattle.client_world.specs.{declared.segments.FarPtr.{FarPtr}, Registers.{low_byte, with_low_byte, with_low_half}, Services.{Served}}
use Rattle.client_world.specs.{Services.{by_width, cx, dx}, World.{World}}
use Rattle.guest_ram.specs.Bytes.{with_word, word_of}
use Rattle.guest_space.specs.{Dos.{real_vector_address}, VectorLists.{vector_at}}
use Rattle.service_rows.specs.{declared.refusal.Refusal.TheVariants.{InvalidValue, InvalidSelector}, Reasons.{Service, family_outcome}}
use Rattle.service_rows.specs.{Reasons.{unsupported}, Rows.{is_code_selector, with_by_width}}

-- BL holds the number of a vector
abbrev pub bl : World → ℕ
bl w = low_byte w.regs.ebx

-- 0200h: CX:DX is real vector BL
unfoldable pub get_real_vector : World → Service
get_real_vector w = record {
  reasons = [];
  after = record w {
    regs = record w.regs {
      ecx = with_low_half w.regs.ecx (word_of w.dos (real_vector_address (bl w) + 2));
      edx = with_low_half w.regs.edx (word_of w.dos (real_vector_address (bl w)));
    };
  };
}

-- 0201h: real vector BL is CX:DX
unfoldable pub set_real_vector : World → Service
set_real_vector w = record {
  reasons = [];
  after = record w { dos = with_word (with_word w.dos (real_vector_address (bl w)) (dx w)) (real_vector_address (bl w) + 2) (cx w) };
}

-- the pointer in CX:(E)DX, and the world with a pointer there
abbrev pub cx_dx : World → FarPtr
cx_dx w = record { sel = cx w; off = by_width w.width w.regs.edx }

abbrev pub with_cx_dx : FarPtr → World → World
with_cx_dx p w = record w {
  regs = record w.regs {
    ecx = with_low_half w.regs.ecx p.sel;
    edx = with_by_width w.width w.regs.edx p.off;
  };
}

-- there is no exception of that number
abbrev pub is_no_exception : ℕ → Bool
is_no_exception n = nat_lt 0x1F n

-- 0202h: CX:(E)DX is exception vector BL
unfoldable pub get_exception_vector : World → Service
get_exception_vector w = record {
  reasons = (InvalidValue, is_no_exception (bl w)) ∷ [];
  after = with_cx_dx (vector_at w.exception_vectors (bl w)) w;
}

-- 0203h: exception vector BL is CX:(E)DX
unfoldable pub set_exception_vector : World → Service
set_exception_vector w = record {
  reasons =
      (InvalidValue, is_no_exception (bl w)) ∷
      (InvalidSelector, not (is_code_selector w (cx w))) ∷ [];
  after = record w { exception_vectors = slice_set w.exception_vectors (bl w) (cx_dx w) };
}

-- 0204h: CX:(E)DX is protected-mode vector BL
unfoldable pub get_protected_vector : World → Service
get_protected_vector w = record { reasons = []; after = with_cx_dx (vector_at w.interrupt_vectors (bl w)) w }

-- 0205h: protected-mode vector BL is CX:(E)DX
unfoldable pub set_protected_vector : World → Service
set_protected_vector w = record {
  reasons = (InvalidSelector, not (is_code_selector w (cx w))) ∷ [];
  after = record w { interrupt_vectors = slice_set w.interrupt_vectors (bl w) (cx_dx w) };
}

-- 0400h: AX is the version 0.90, BX says a 32-bit host without virtual memory, CL an 80386, and DH and DL are the base interrupts of the
-- two interrupt controllers
unfoldable pub dpmi_version : World → Service
dpmi_version w = record {
  reasons = [];
  after = record w {
    regs = record w.regs {
      eax = with_low_half w.regs.eax 0x005A;
      ebx = with_low_half w.regs.ebx 1;
      ecx = with_low_byte w.regs.ecx 3;
      edx = with_low_half w.regs.edx 0x0870;
    };
  };
}

-- the virtual interrupt flag with a new value, and in AL whether it was set before
abbrev pub with_vif : Bool → World → World
with_vif on w = record w { regs = record w.regs { eax = with_low_byte w.regs.eax (cond w.vif 1 0) }; vif = on }

-- 0900h, 0901h and 0902h: virtual interrupts are disabled, enabled, or stay
unfoldable pub disable_interrupts : World → Service
disable_interrupts w = record { reasons = []; after = with_vif false w }

unfoldable pub enable_interrupts : World → Service
enable_interrupts w = record { reasons = []; after = with_vif true w }

unfoldable pub interrupt_state : World → Service
interrupt_state w = record { reasons = []; after = with_vif w.vif w }

-- the service of a function number
unfoldable pub vector_function : ℕ → World → Service
vector_function ax w =
    if nat_eq ax 0x0200 then get_real_vector w else
    if nat_eq ax 0x0201 then set_real_vector w else
    if nat_eq ax 0x0202 then get_exception_vector w else
    if nat_eq ax 0x0203 then set_exception_vector w else
    if nat_eq ax 0x0204 then get_protected_vector w else
    if nat_eq ax 0x0205 then set_protected_vector w else
    if nat_eq ax 0x0400 then dpmi_version w else
    if nat_eq ax 0x0900 then disable_interrupts w else
    if nat_eq ax 0x0901 then enable_interrupts w else
    if nat_eq ax 0x0902 then interrupt_state w else unsupported w

-- the carry that INT 31h returns, and the world after it
unfoldable pub vector_service : ℕ → World → Served
vector_service ax w = family_outcome (vector_function ax w) w
