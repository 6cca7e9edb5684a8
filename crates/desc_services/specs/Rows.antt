-- The services of INT 31h on descriptors. Source: DPMI 0.9, INT 31h functions 0000h to 000Dh; what each refuses is own.
use Rattle.std.specs.Prelude.{ℕ, zero, suc, ◌+◌, ◌*◌, ◌/◌, ◌%◌, Bool, true, false, ◌&&◌, ◌||◌, List, [], ◌∷◌, None, Some, is_none, nat_eq}
use Rattle.std.specs.{Prelude.{nat_lt, not, if◌then◌else◌, slice_set}, declared.option.Option.{Option}}
use Rattle.client_world.specs.{declared.descriptors.Desc.{Desc}, declared.descriptors.Origin.{Origin}}
use Rattle.client_world.specs.declared.descriptors.Origin.TheVariants.{Own, Low, Entry, Psp, Segment, Dos, Host}
use Rattle.client_world.specs.{declared.host_frames.TheConstants.{DESCRIPTORS}, declared.memory_map.TheConstants.{PARAGRAPH_SIZE}}
use Rattle.client_world.specs.{Access.{is_reachable}, Descriptor.{is_code, packed}, Registers.{has_bit, high_byte, low_byte, with_low_half}}
use Rattle.client_world.specs.{Selector.{Row, index_of, is_local, row_at_index, selector_of}, Services.{Served, bx, cx, dx, desc_of, es_di}}
use Rattle.client_world.specs.{Services.{is_changeable, is_held, two_words}, World.{World}}
use Rattle.desc_table.specs.Unpacked.{is_access_byte, is_packed, kind_of, unpacked}
use Rattle.guest_space.specs.{Far.{far_bytes, world_after_far_write}, SegmentRows.{base_of_row}}
use Rattle.service_rows.specs.declared.refusal.Refusal.TheVariants.{InvalidSelector, InvalidValue, InvalidAddress, DescriptorUnavailable}
use Rattle.service_rows.specs.{FirstIndex.{first_index}, FreeRun.{first_free_run}, Reasons.{Service, family_outcome, unsupported}}
use Rattle.service_rows.specs.Rows.{data_at, with_ax, with_row}

abbrev pub fresh : Desc
fresh = data_at 0 0

-- the rows with the same row at n indices, from the first of them
unfoldable pub with_run : List Row → ℕ → ℕ → Row → List Row
with_run rows first zero row = rows
with_run rows first (suc n) row = with_run (slice_set rows first row) (first + 1) n row

-- CX fresh descriptors, and AX the selector of the first
abbrev pub with_new_run : Option ℕ → World → World
with_new_run None w = w
with_new_run (Some first) w =
    with_ax (selector_of first) (record w { descriptors = with_run w.descriptors first (cx w) (Some (fresh, Own)) })

-- 0000h (allocate LDT descriptors): makes CX fresh descriptors in a row
unfoldable pub allocate_descriptors : World → Service
allocate_descriptors w = record {
  reasons =
      (InvalidValue, nat_eq (cx w) 0) ∷
      (DescriptorUnavailable, is_none (first_free_run w.descriptors (cx w))) ∷ [];
  after = with_new_run (first_free_run w.descriptors (cx w)) w;
}

-- a client may free descriptors of these origins
abbrev pub is_freeable_origin : Origin → Bool
is_freeable_origin Own = true
is_freeable_origin Low = true
is_freeable_origin Entry = true
is_freeable_origin Psp = false
is_freeable_origin (Segment segment) = false
is_freeable_origin (Dos segment) = false
is_freeable_origin Host = false

abbrev pub is_freeable_row : Row → Bool
is_freeable_row None = false
is_freeable_row (Some row) = is_freeable_origin row.1

-- 0001h (free LDT descriptor): frees BX
unfoldable pub free_descriptor : World → Service
free_descriptor w = record {
  reasons = (InvalidSelector, not (is_freeable_row (desc_of w (bx w)))) ∷ [];
  after = with_row (index_of (bx w)) None w;
}

-- the row is a real segment's
abbrev pub is_segment_origin : Origin → ℕ → Bool
is_segment_origin Own segment = false
is_segment_origin Low segment = false
is_segment_origin Entry segment = false
is_segment_origin Psp segment = false
is_segment_origin (Segment own) segment = nat_eq own segment
is_segment_origin (Dos own) segment = false
is_segment_origin Host segment = false

abbrev pub is_segment_row : Row → ℕ → Bool
is_segment_row None segment = false
is_segment_row (Some row) segment = is_segment_origin row.1 segment

-- the index at which a real segment has its descriptor
unfoldable pub segment_index : List Row → ℕ → Option ℕ
segment_index rows segment = first_index (λ index. is_segment_row (row_at_index rows index) segment) 0 DESCRIPTORS

-- a new descriptor of a real segment, if an index is free, and its selector in AX
abbrev pub with_new_segment : Option ℕ → World → World
with_new_segment None w = w
with_new_segment (Some first) w =
    with_ax (selector_of first) (with_row first (Some (data_at (bx w * PARAGRAPH_SIZE) 0xFFFF, Segment (bx w))) w)

-- the descriptor that there is, or a new one
abbrev pub with_segment : Option ℕ → World → World
with_segment None w = with_new_segment (first_free_run w.descriptors 1) w
with_segment (Some index) w = with_ax (selector_of index) w

-- 0002h (segment to descriptor): AX is the selector of segment BX
unfoldable pub segment_to_descriptor : World → Service
segment_to_descriptor w = record {
  reasons =
      (DescriptorUnavailable, is_none (segment_index w.descriptors (bx w)) && is_none (first_free_run w.descriptors 1)) ∷ [];
  after = with_segment (segment_index w.descriptors (bx w)) w;
}

-- 0003h (get next selector increment value): AX is the difference between the selectors of a run
unfoldable pub selector_increment : World → Service
selector_increment w = record { reasons = []; after = with_ax 8 w }

-- the row with another descriptor
abbrev pub row_with_desc : Row → Option Desc → Row
row_with_desc None d = None
row_with_desc (Some row) None = Some row
row_with_desc (Some row) (Some d) = Some (d, row.1)

-- the world with another descriptor of a selector
abbrev pub with_desc : World → ℕ → Option Desc → World
with_desc w sel d = with_row (index_of sel) (row_with_desc (desc_of w sel) d) w

-- 0006h (get segment base address): CX:DX is the base of BX
unfoldable pub get_segment_base : World → Service
get_segment_base w = record {
  reasons = (InvalidSelector, not (is_held w (bx w))) ∷ [];
  after = record w {
    regs = record w.regs {
      ecx = with_low_half w.regs.ecx (base_of_row (desc_of w (bx w)) / 0x10000);
      edx = with_low_half w.regs.edx (base_of_row (desc_of w (bx w)) % 0x10000);
    };
  };
}

-- a row's descriptor with another base
abbrev pub with_base : Row → ℕ → Option Desc
with_base None base = None
with_base (Some row) base = Some (record row.0 { base = base })

-- 0007h (set segment base address): the base of BX is CX:DX
unfoldable pub set_segment_base : World → Service
set_segment_base w = record {
  reasons = (InvalidSelector, not (is_changeable w (bx w))) ∷ [];
  after = with_desc w (bx w) (with_base (desc_of w (bx w)) (two_words (cx w) (dx w)));
}

-- a descriptor with a limit in bytes: one above FFFFFh counts pages
abbrev pub desc_with_limit : Desc → ℕ → Desc
desc_with_limit d limit =
    if nat_lt 0xFFFFF limit then record d { limit = limit / 0x1000; gran = true }
    else record d { limit = limit; gran = false }

abbrev pub with_limit : Row → ℕ → Option Desc
with_limit None limit = None
with_limit (Some row) limit = Some (desc_with_limit row.0 limit)

-- the limit would need pages, and doesn't end one
abbrev pub is_no_limit : ℕ → Bool
is_no_limit limit = nat_lt 0xFFFFF limit && not (nat_eq (limit % 0x1000) 0xFFF)

-- 0008h (set segment limit): the limit of BX in bytes is CX:DX
unfoldable pub set_segment_limit : World → Service
set_segment_limit w = record {
  reasons =
      (InvalidSelector, not (is_changeable w (bx w))) ∷
      (InvalidValue, is_no_limit (two_words (cx w) (dx w))) ∷ [];
  after = with_desc w (bx w) (with_limit (desc_of w (bx w)) (two_words (cx w) (dx w)));
}

-- a descriptor with another access byte, and G, D/B and AVL of the byte after it
abbrev pub with_rights : Row → ℕ → ℕ → Option Desc
with_rights None access flags = None
with_rights (Some row) access flags = Some (record row.0 {
  gran = has_bit flags 0x80;
  size = has_bit flags 0x40;
  avl = has_bit flags 0x10;
  present = has_bit access 0x80;
  kind = kind_of access;
})

-- 0009h (set descriptor access rights): CL is the access byte of BX, and CH has the flags
unfoldable pub set_access_rights : World → Service
set_access_rights w = record {
  reasons =
      (InvalidSelector, not (is_changeable w (bx w))) ∷
      (InvalidValue, not (is_access_byte (low_byte w.regs.ecx)) || has_bit (high_byte w.regs.ecx) 0x20) ∷ [];
  after = with_desc w (bx w) (with_rights (desc_of w (bx w)) (low_byte w.regs.ecx) (high_byte w.regs.ecx));
}

-- the row holds code
abbrev pub holds_code : Row → Bool
holds_code None = false
holds_code (Some row) = is_code row.0.kind

-- writable data where that of a row is
abbrev pub alias_of : Desc → Desc
alias_of d = record fresh { base = d.base; limit = d.limit; gran = d.gran; size = d.size }

abbrev pub with_new_alias : Option ℕ → Row → World → World
with_new_alias None row w = w
with_new_alias (Some first) None w = w
with_new_alias (Some first) (Some row) w = with_ax (selector_of first) (with_row first (Some (alias_of row.0, Own)) w)

-- 000Ah (create code segment alias descriptor): AX is the selector of writable data over the code of BX
unfoldable pub create_alias : World → Service
create_alias w = record {
  reasons =
      (InvalidSelector, not (holds_code (desc_of w (bx w)))) ∷
      (DescriptorUnavailable, is_none (first_free_run w.descriptors 1)) ∷ [];
  after = with_new_alias (first_free_run w.descriptors 1) (desc_of w (bx w)) w;
}

-- the eight bytes of a row's descriptor
abbrev pub packed_of : Row → List ℕ
packed_of None = []
packed_of (Some row) = packed row.0

-- 000Bh (get descriptor): writes the packed descriptor of BX to ES:(E)DI
unfoldable pub get_descriptor : World → Service
get_descriptor w = record {
  reasons =
      (InvalidSelector, not (is_held w (bx w))) ∷
      (InvalidAddress, not (is_reachable w (es_di w) 8 true)) ∷ [];
  after = world_after_far_write w (es_di w) 8 (packed_of (desc_of w (bx w)));
}

-- 000Ch (set descriptor): reads the descriptor of BX from ES:(E)DI
unfoldable pub set_descriptor : World → Service
set_descriptor w = record {
  reasons =
      (InvalidSelector, not (is_changeable w (bx w))) ∷
      (InvalidAddress, not (is_reachable w (es_di w) 8 false)) ∷
      (InvalidValue, not (is_packed (far_bytes w (es_di w) 8) 0)) ∷ [];
  after = with_desc w (bx w) (unpacked (far_bytes w (es_di w) 8) 0);
}

-- 000Dh (allocate specific LDT descriptor): BX becomes a fresh descriptor, of an index below 16
unfoldable pub allocate_specific : World → Service
allocate_specific w = record {
  reasons =
      (InvalidSelector, not (is_local (bx w)) || nat_lt 15 (index_of (bx w))) ∷
      (DescriptorUnavailable, is_held w (bx w)) ∷ [];
  after = with_row (index_of (bx w)) (Some (fresh, Low)) w;
}

-- the service of a function number
unfoldable pub descriptor_function : ℕ → World → Service
descriptor_function ax w =
    if nat_eq ax 0x0000 then allocate_descriptors w else
    if nat_eq ax 0x0001 then free_descriptor w else
    if nat_eq ax 0x0002 then segment_to_descriptor w else
    if nat_eq ax 0x0003 then selector_increment w else
    if nat_eq ax 0x0006 then get_segment_base w else
    if nat_eq ax 0x0007 then set_segment_base w else
    if nat_eq ax 0x0008 then set_segment_limit w else
    if nat_eq ax 0x0009 then set_access_rights w else
    if nat_eq ax 0x000A then create_alias w else
    if nat_eq ax 0x000B then get_descriptor w else
    if nat_eq ax 0x000C then set_descriptor w else
    if nat_eq ax 0x000D then allocate_specific w else unsupported w

-- the carry that INT 31h returns, and the world after it
unfoldable pub descriptor_service : ℕ → World → Served
descriptor_service ax w = family_outcome (descriptor_function ax w) w
