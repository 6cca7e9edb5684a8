-- The services of INT 31h on memory blocks and their pages. Source: DPMI 0.9, INT 31h functions 0500h to 0503h, 0600h to 0604h, 0702h and
-- 0703h; the handles, the addresses and the reasons of refusal are own.
use Rattle.std.specs.Prelude.{ℕ, ◌-◌, ◌/◌, ◌%◌, Bool, true, false, [], ◌∷◌, List, None, Some, is_none, nat_eq, nat_lt, not, if◌then◌else◌}
use Rattle.std.specs.declared.option.Option.{Option}
use Rattle.client_world.specs.{declared.host_frames.TheConstants.{PAGE_SIZE}, Access.{is_reachable}, Registers.{low_half, with_low_half}}
use Rattle.client_world.specs.{Services.{Served, bx, cx, es_di, two_words}, Soundness.{pages_of_block, pages_of_blocks}, World.{World}}
use Rattle.client_world.specs.World.{MemoryBlock, block_at, with_block_at, base_of_block}
use Rattle.block_memory.specs.BlockSizes.{fresh_block, sized_block}
use Rattle.service_rows.specs.declared.refusal.Refusal.TheVariants.{InvalidAddress, InvalidValue, InvalidHandle, PhysicalMemoryUnavailable}
use Rattle.service_rows.specs.{declared.refusal.Refusal.TheVariants.{LinearMemoryUnavailable, HandleUnavailable}, Reasons.{Service}}
use Rattle.service_rows.specs.Reasons.{family_outcome, unsupported}
use Rattle.guest_space.specs.Far.{world_after_far_write}
use Rattle.block_services.specs.{declared.regions.Change.TheVariants.{Lock, Unlock, Discard}, declared.regions.Question.{Question}}
use Rattle.block_services.specs.declared.regions.Question.TheVariants.{IsOutside, IsNoBlock, IsLockedMost, IsUnlocked, IsAboveView}
use Rattle.block_services.specs.{declared.regions.Question.TheVariants.{IsPageable, IsRelocked}, Free.{free_table, largest_new_block}}
use Rattle.block_services.specs.{Gaps.{first_gap, is_gap, lowest_handle, page_address}, Pages.{changed, pages_rounded_up, some_page}}
use Rattle.block_services.specs.Pages.{touched_pages, whole_pages, with_pages}

-- 16-bit registers
abbrev pub si : World → ℕ
si w = low_half w.regs.esi

abbrev pub di : World → ℕ
di w = low_half w.regs.edi

-- SI:DI holds a handle or a number of bytes, BX:CX a number of bytes or a linear address
abbrev pub si_di : World → ℕ
si_di w = two_words (si w) (di w)

abbrev pub bx_cx : World → ℕ
bx_cx w = two_words (bx w) (cx w)

-- the number of pages that the client asks for, and the number that the budget has left
abbrev pub asked_pages : World → ℕ
asked_pages w = pages_rounded_up (bx_cx w)

abbrev pub free_pages : World → ℕ
free_pages w = w.budget - pages_of_blocks w.blocks

-- the world with these blocks
abbrev pub with_blocks : List (Option MemoryBlock) → World → World
with_blocks blocks w = record w { blocks = blocks }

-- the outputs: BX:CX is the block's linear address, and SI:DI its handle
abbrev pub with_block_outputs : ℕ → ℕ → World → World
with_block_outputs base handle w = record w {
  regs = record w.regs {
    ebx = with_low_half w.regs.ebx (base / 0x10000);
    ecx = with_low_half w.regs.ecx (base % 0x10000);
    esi = with_low_half w.regs.esi (handle / 0x10000);
    edi = with_low_half w.regs.edi (handle % 0x10000);
  };
}

-- 0500h (get free memory information): writes the table of what is free at ES:(E)DI
unfoldable pub free_memory_information : World → Service
free_memory_information w = record {
  reasons = (InvalidAddress, not (is_reachable w (es_di w) 0x30 true)) ∷ [];
  after = world_after_far_write w (es_di w) 0x30 (free_table w (largest_new_block w.blocks (free_pages w)));
}

-- a new block at a page of the block region, under a handle
abbrev pub with_new_block : Option ℕ → Option ℕ → World → World
with_new_block None handle w = w
with_new_block (Some page) None w = w
with_new_block (Some page) (Some handle) w =
    with_block_outputs (page_address page) handle
    (with_blocks (with_block_at w.blocks handle (Some (fresh_block (page_address page) (asked_pages w)))) w)

-- 0501h (allocate memory block): makes a block of BX:CX bytes
unfoldable pub allocate_block : World → Service
allocate_block w = record {
  reasons =
      (InvalidValue, nat_eq (bx_cx w) 0) ∷
      (PhysicalMemoryUnavailable, nat_lt (free_pages w) (asked_pages w)) ∷
      (LinearMemoryUnavailable, is_none (first_gap w.blocks (asked_pages w))) ∷
      (HandleUnavailable, is_none (lowest_handle w.blocks)) ∷ [];
  after = with_new_block (first_gap w.blocks (asked_pages w)) (lowest_handle w.blocks) w;
}

-- 0502h (free memory block): frees the block of handle SI:DI
unfoldable pub free_block : World → Service
free_block w = record {
  reasons = (InvalidHandle, is_none (block_at w.blocks (si_di w))) ∷ [];
  after = with_blocks (with_block_at w.blocks (si_di w) None) w;
}

-- the linear address of a page of the block region, if there is one
abbrev pub gap_address : Option ℕ → Option ℕ
gap_address None = None
gap_address (Some page) = Some (page_address page)

-- the address of the block of a handle once it has that many pages: its own where no other block is in the way, as none is where it
-- shrinks, else the address that a new block would get
unfoldable pub new_base : List (Option MemoryBlock) → ℕ → ℕ → Option ℕ
new_base blocks handle pages =
    if is_gap blocks handle (base_of_block (block_at blocks handle)) pages then Some (base_of_block (block_at blocks handle))
    else gap_address (first_gap blocks pages)

abbrev pub with_resized_block : Option ℕ → World → World
with_resized_block None w = w
with_resized_block (Some base) w =
    with_block_outputs base (si_di w)
    (with_blocks (with_block_at w.blocks (si_di w) (sized_block base (asked_pages w) (block_at w.blocks (si_di w)))) w)

-- 0503h (resize memory block): the block of handle SI:DI gets BX:CX bytes
unfoldable pub resize_block : World → Service
resize_block w = record {
  reasons =
      (InvalidHandle, is_none (block_at w.blocks (si_di w))) ∷
      (InvalidValue, nat_eq (bx_cx w) 0) ∷
      (PhysicalMemoryUnavailable, nat_lt (free_pages w) (asked_pages w - pages_of_block (block_at w.blocks (si_di w)))) ∷
      (LinearMemoryUnavailable, is_none (new_base w.blocks (si_di w) (asked_pages w))) ∷ [];
  after = with_resized_block (new_base w.blocks (si_di w) (asked_pages w)) w;
}

-- the pages that SI:DI bytes from linear address BX:CX touch: the first one and their number
abbrev pub first_page : World → ℕ
first_page w = bx_cx w / PAGE_SIZE

abbrev pub page_count : World → ℕ
page_count w = touched_pages (bx_cx w) (si_di w)

-- the answer is yes for one of these pages
abbrev pub of_some_page : Question → World → Bool
of_some_page question w = some_page question w (first_page w) (page_count w)

-- 0600h (lock linear region): the lock count of each touched page of a block rises by 1
unfoldable pub lock_pages : World → Service
lock_pages w = record {
  reasons =
      (InvalidAddress, of_some_page IsOutside w) ∷
      (InvalidValue, of_some_page IsLockedMost w) ∷ [];
  after = with_blocks (changed Lock w.blocks (first_page w) (page_count w)) w;
}

-- 0601h (unlock linear region): it falls by 1
unfoldable pub unlock_pages : World → Service
unlock_pages w = record {
  reasons =
      (InvalidAddress, of_some_page IsOutside w) ∷
      (InvalidValue, of_some_page IsUnlocked w) ∷ [];
  after = with_blocks (changed Unlock w.blocks (first_page w) (page_count w)) w;
}

abbrev pub with_pageable : Bool → World → World
with_pageable on w = record w { pageable = with_pages on w.pageable (first_page w) (page_count w) }

-- 0602h (mark real mode region as pageable): the touched pages of the DOS megabyte's view become pageable
unfoldable pub mark_pageable : World → Service
mark_pageable w = record {
  reasons =
      (InvalidAddress, of_some_page IsAboveView w) ∷
      (InvalidValue, of_some_page IsPageable w) ∷ [];
  after = with_pageable true w;
}

-- 0603h (relock real mode region): they are pageable no longer
unfoldable pub relock_pages : World → Service
relock_pages w = record {
  reasons =
      (InvalidAddress, of_some_page IsAboveView w) ∷
      (InvalidValue, of_some_page IsRelocked w) ∷ [];
  after = with_pageable false w;
}

-- 0604h (get page size): BX:CX is the number of bytes of a page
unfoldable pub page_size : World → Service
page_size w = record {
  reasons = [];
  after = record w {
    regs = record w.regs {
      ebx = with_low_half w.regs.ebx (PAGE_SIZE / 0x10000);
      ecx = with_low_half w.regs.ecx (PAGE_SIZE % 0x10000);
    };
  };
}

-- 0702h (mark page as demand paging candidate): changes nothing
unfoldable pub mark_paging_candidates : World → Service
mark_paging_candidates w = record { reasons = (InvalidAddress, of_some_page IsNoBlock w) ∷ []; after = w }

-- 0703h (discard page contents): the bytes of each unlocked page wholly inside become 0
unfoldable pub discard_pages : World → Service
discard_pages w = record {
  reasons = (InvalidAddress, of_some_page IsNoBlock w) ∷ [];
  after = with_blocks (changed Discard w.blocks (pages_rounded_up (bx_cx w)) (whole_pages (bx_cx w) (si_di w))) w;
}

-- the service of a function number
unfoldable pub block_function : ℕ → World → Service
block_function ax w =
    if nat_eq ax 0x0500 then free_memory_information w else
    if nat_eq ax 0x0501 then allocate_block w else
    if nat_eq ax 0x0502 then free_block w else
    if nat_eq ax 0x0503 then resize_block w else
    if nat_eq ax 0x0600 then lock_pages w else
    if nat_eq ax 0x0601 then unlock_pages w else
    if nat_eq ax 0x0602 then mark_pageable w else
    if nat_eq ax 0x0603 then relock_pages w else
    if nat_eq ax 0x0604 then page_size w else
    if nat_eq ax 0x0702 then mark_paging_candidates w else
    if nat_eq ax 0x0703 then discard_pages w else unsupported w

-- the carry that INT 31h returns, and the world after it
unfoldable pub block_service : ℕ → World → Served
block_service ax w = family_outcome (block_function ax w) w
