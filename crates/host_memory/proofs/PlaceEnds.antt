-- Where an access ends: by its place, by the two entries of the host's tables that it meets; and what its answer says of the world.
use Rattle.std.proofs.Common.{◌≡◌, ℕ, suc, ◌+◌, ◌*◌, ◌/◌, ◌%◌, ◌<◌, ◌≤◌, Bool, true, false, List, refl, Ok, nat_eq, ap, ◌∙◌, arith, Err}
use Rattle.std.proofs.lemmas.Bool.{lt-ltb, le-ltb, cases_Bool}
use Rattle.client_world.specs.{declared.place.Place.TheVariants.{Dos, Block, Host, Nothing}, declared.host_frames.TheConstants.{PAGE_SIZE}}
use Rattle.client_world.specs.{declared.memory_map.TheConstants.{ROM_START}, Registers.{has_bit}, declared.faults.PageFault.{PageFault}}
use Rattle.client_world.specs.{declared.place.Place.{Place}, Access.{may_touch, is_present}}
use Rattle.page_tables.specs.{Walk.{fault, walk_end}, Entry.{page_entry}, Mapping.{ended_in_frame}, declared.entry.TheConstants.{PRESENT}}
use Rattle.page_tables.specs.declared.entry.TheConstants.{USER, SUPERVISOR_WRITABLE}
use Rattle.host_memory.specs.{Law.{walk_result}, Layout.{address_of, tables_part, handles_part, entry_of, first_page_of}}
use Rattle.host_memory.specs.Tables.{supervisor_entry}
use Rattle.page_tables.proofs.MapLaws.{page_entry_present, page_entry_user, page_entry_writable, ended-page_entry, ended-absent}

-- where an access ends: below read-only memory, in it, in a block, in the host's window and where nothing is
pub told_dos : (b : List ℕ) (at : ℕ) (write : Bool) → at < ROM_START → walk_result b (Dos at) write ≡ Ok at
unfolding walk_result address_of
told_dos b at true below = rw (lt-ltb at ROM_START below) refl
told_dos b at false below = refl

pub told_read : (b : List ℕ) (at : ℕ) → walk_result b (Dos at) false ≡ Ok at
unfolding walk_result address_of
told_read b at = refl

pub told_rom_write : (b : List ℕ) (at : ℕ) → ROM_START ≤ at → walk_result b (Dos at) true ≡ fault true
unfolding walk_result
told_rom_write b at from = rw (le-ltb at ROM_START from) refl

-- where the byte of a block is, by the page that its offset lies in
pub block_address_is : (b : List ℕ) (place at : ℕ) → address_of b (Block (suc place) at)
    ≡ PAGE_SIZE * (entry_of (tables_part b) (first_page_of (handles_part b) place + at / PAGE_SIZE) / PAGE_SIZE) + at % PAGE_SIZE
unfolding address_of
block_address_is b place at = refl

pub told_block : (b : List ℕ) (place at : ℕ) (write : Bool) → walk_result b (Block (suc place) at) write
    ≡ Ok (PAGE_SIZE * (entry_of (tables_part b) (first_page_of (handles_part b) place + at / PAGE_SIZE) / PAGE_SIZE) + at % PAGE_SIZE)
unfolding walk_result address_of
told_block b place at write = refl

pub told_host : (b : List ℕ) (write : Bool) → walk_result b Host write ≡ fault true
unfolding walk_result
told_host b write = refl

pub told_nothing : (b : List ℕ) (write : Bool) → walk_result b Nothing write ≡ fault false
unfolding walk_result
told_nothing b write = refl

-- a page that the client may read and write
pub ends_in_page : (table frame lin : ℕ) (write : Bool) →
    walk_end (page_entry table true) (page_entry frame true) lin write ≡ Ok (PAGE_SIZE * frame + lin % PAGE_SIZE)
unfolding ended_in_frame
ends_in_page table frame lin true =
    ended-page_entry (page_entry table true) frame true lin true (page_entry_present table true)
    ∙ rw (page_entry_user table true, page_entry_writable table true) refl
ends_in_page table frame lin false =
    ended-page_entry (page_entry table true) frame true lin false (page_entry_present table true)
    ∙ rw (page_entry_user table true) refl

-- a page that it may read alone
pub reads_in_page : (table frame lin : ℕ) →
    walk_end (page_entry table true) (page_entry frame false) lin false ≡ Ok (PAGE_SIZE * frame + lin % PAGE_SIZE)
unfolding ended_in_frame
reads_in_page table frame lin =
    ended-page_entry (page_entry table true) frame false lin false (page_entry_present table true)
    ∙ rw (page_entry_user table true) refl

pub forbids_write : (table frame lin : ℕ) → walk_end (page_entry table true) (page_entry frame false) lin true ≡ fault true
unfolding ended_in_frame
forbids_write table frame lin =
    ended-page_entry (page_entry table true) frame false lin true (page_entry_present table true)
    ∙ rw (page_entry_user table true, page_entry_writable table true) refl

-- no page
pub finds_no_page : (table lin : ℕ) (write : Bool) → walk_end (page_entry table true) 0 lin write ≡ fault false
finds_no_page table lin write = ended-absent (page_entry table true) lin write (page_entry_present table true)

-- no table
pub finds_no_table : (entry lin : ℕ) (write : Bool) → walk_end 0 entry lin write ≡ fault false
unfolding walk_end
finds_no_table entry lin write = refl

supervisor_present : (frame : ℕ) → has_bit (supervisor_entry frame) PRESENT ≡ true
supervisor_present frame = let one : (PAGE_SIZE * frame + SUPERVISOR_WRITABLE) / 1 % 2 ≡ 1 = omega arith in ap (λ (n : ℕ). nat_eq n 1) one

supervisor_user : (frame : ℕ) → has_bit (supervisor_entry frame) USER ≡ false
supervisor_user frame = let none : (PAGE_SIZE * frame + SUPERVISOR_WRITABLE) / 4 % 2 ≡ 0 = omega arith in ap (λ (n : ℕ). nat_eq n 1) none

-- a page of the host's window, and none there
pub forbids_client : (table frame lin : ℕ) (write : Bool) →
    walk_end (supervisor_entry table) (supervisor_entry frame) lin write ≡ fault true
unfolding walk_end
forbids_client table frame lin write = rw (supervisor_present table, supervisor_present frame, supervisor_user table) refl

pub finds_no_host_page : (table lin : ℕ) (write : Bool) → walk_end (supervisor_entry table) 0 lin write ≡ fault false
finds_no_host_page table lin write = ended-absent (supervisor_entry table) lin write (supervisor_present table)

-- an access that ends: the client may touch the place, and it ends at the place's address
pub record TouchesAt (b : List ℕ) (place : Place) (write : Bool) (p : ℕ) : Type 0 where
  pub may : may_touch place write ≡ true
  pub address : p ≡ address_of b place

pub told_ends : (b : List ℕ) (place : Place) (write : Bool) (p : ℕ) → walk_result b place write ≡ Ok p → TouchesAt b place write p
unfolding walk_result
told_ends b place write p e = grind (arith, cases_Bool)

pub told_may : (b : List ℕ) (place : Place) (write : Bool) → may_touch place write ≡ true →
    walk_result b place write ≡ Ok (address_of b place)
unfolding walk_result
told_may b place write may = rw may refl

-- one that fails: the client may not, and the fault says whether a page is there
pub record BarredAt (place : Place) (write : Bool) (f : PageFault) : Type 0 where
  pub barred : may_touch place write ≡ false
  pub present : f.present ≡ is_present place

pub told_fails : (b : List ℕ) (place : Place) (write : Bool) (f : PageFault) → walk_result b place write ≡ Err f → BarredAt place write f
unfolding walk_result
told_fails b place write f e = grind (arith, cases_Bool)
