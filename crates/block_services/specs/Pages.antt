-- The pages that a run of bytes touches, the questions asked of them, and the changes made to them. Source: own.
use Rattle.std.specs.Prelude.{ℕ, zero, suc, ◌+◌, ◌-◌, ◌*◌, ◌/◌, Bool, true, false, ◌&&◌, not, nat_eq, nat_le, min, is_some, if◌then◌else◌}
use Rattle.std.specs.{Prelude.{List, slice_set}, declared.option.Option.{Option}}
use Rattle.client_world.specs.{declared.host_frames.TheConstants.{PAGE_SIZE}, declared.limits.TheConstants.{GREATEST_LOCK_COUNT}}
use Rattle.client_world.specs.{declared.memory_map.TheConstants.{DOS_VIEW_PAGES}, declared.place.Place.{Place}}
use Rattle.client_world.specs.{declared.place.Place.TheVariants.{Dos, Block, Host, Nothing}, Access.{place_in}, World.{World, MemoryBlock}}
use Rattle.guest_space.specs.VectorLists.{is_pageable}
use Rattle.block_memory.specs.BlockSizes.{lock_in, with_lock, blocks_with_zero_page}
use Rattle.service_rows.specs.FirstIndex.{first_index}
use Rattle.block_services.specs.{declared.regions.Question.{Question}, declared.regions.Question.TheVariants.{IsOutside, IsNoBlock}}
use Rattle.block_services.specs.declared.regions.Question.TheVariants.{IsLockedMost, IsUnlocked, IsAboveView, IsPageable, IsRelocked}
use Rattle.block_services.specs.{declared.regions.Change.{Change}, declared.regions.Change.TheVariants.{Lock, Unlock, Discard}}

-- the number of pages that a run of bytes touches, given its first byte and its size
abbrev pub touched_pages : ℕ → ℕ → ℕ
touched_pages start size = if nat_eq size 0 then 0 else (start + (size - 1)) / PAGE_SIZE - start / PAGE_SIZE + 1

-- a number of bytes in pages, rounded up; of an address, the first page that begins there or above
abbrev pub pages_rounded_up : ℕ → ℕ
pages_rounded_up bytes = (bytes + (PAGE_SIZE - 1)) / PAGE_SIZE

-- the number of pages wholly inside a run of bytes; the first of them is its start in pages, rounded up
abbrev pub whole_pages : ℕ → ℕ → ℕ
whole_pages start size = (start + size) / PAGE_SIZE - pages_rounded_up start

-- the place of a page's first byte; the view of the DOS megabyte and the blocks are whole pages, so all its bytes lie in the same one
abbrev pub page_place : List (Option MemoryBlock) → ℕ → Place
page_place blocks page = place_in blocks (PAGE_SIZE * page)

abbrev pub is_blocks : Place → Bool
is_blocks (Dos at) = false
is_blocks (Block number at) = true
is_blocks Host = false
is_blocks Nothing = false

-- a page belongs to the view of the DOS megabyte
abbrev pub is_in_view : ℕ → Bool
is_in_view page = not (nat_le DOS_VIEW_PAGES page)

abbrev pub lock_of_page : List (Option MemoryBlock) → ℕ → ℕ
lock_of_page blocks page = lock_in blocks (page_place blocks page)

-- the answer to a question about a page
abbrev pub page_answer : Question → World → ℕ → Bool
page_answer IsOutside w page = not (is_in_view page) && not (is_blocks (page_place w.blocks page))
page_answer IsNoBlock w page = not (is_blocks (page_place w.blocks page))
page_answer IsLockedMost w page = nat_eq (lock_of_page w.blocks page) GREATEST_LOCK_COUNT
page_answer IsUnlocked w page = not (is_in_view page) && nat_eq (lock_of_page w.blocks page) 0
page_answer IsAboveView w page = not (is_in_view page)
page_answer IsPageable w page = is_pageable w.pageable page
page_answer IsRelocked w page = not (is_pageable w.pageable page)

-- the answer is yes for one of n pages
unfoldable pub some_page : Question → World → ℕ → ℕ → Bool
some_page question w first n = is_some (first_index (page_answer question w) first n)

-- the blocks after a change of a page, if it is a block's. A lock count never passes the greatest; a service refuses before that
abbrev pub changed_page : Change → List (Option MemoryBlock) → Place → List (Option MemoryBlock)
changed_page Lock blocks place = with_lock blocks place (min (lock_in blocks place + 1) GREATEST_LOCK_COUNT)
changed_page Unlock blocks place = with_lock blocks place (lock_in blocks place - 1)
changed_page Discard blocks place = if nat_eq (lock_in blocks place) 0 then blocks_with_zero_page blocks place else blocks

-- the blocks after the change of n pages in their order
unfoldable pub changed : Change → List (Option MemoryBlock) → ℕ → ℕ → List (Option MemoryBlock)
changed change blocks page zero = blocks
changed change blocks page (suc n) = changed change (changed_page change blocks (page_place blocks page)) (page + 1) n

-- which pages are pageable, with n of them set
unfoldable pub with_pages : Bool → List Bool → ℕ → ℕ → List Bool
with_pages on pages page zero = pages
with_pages on pages page (suc n) = with_pages on (slice_set pages page on) (page + 1) n
