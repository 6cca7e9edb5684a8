-- The bits of a page's entry, and where a walk that meets it ends: within a page walks meet the same entries, and an entry that is put
-- changes the walk of its page alone.
use Rattle.std.proofs.Common.{◌≡◌, ℕ, Bool, true, false, nat_eq, refl, ap, arith, ◌+◌, ◌*◌, ◌/◌, ◌%◌, ◌<◌, ◌≤◌, ◌^◌, List, Ok, ◌∙◌, sym}
use Rattle.std.proofs.{Common.{◌≢◌, ◌⊎◌, length}, lemmas.Bool.{cases_Bool, cases_lt, cases_eq}}
use Rattle.client_world.specs.{Registers.{has_bit}, Access.{linear}, declared.host_frames.TheConstants.{PAGE_SIZE, TABLE_ENTRIES}}
use Rattle.client_world.specs.declared.host_frames.TheConstants.{PAGE_DIRECTORY}
use Rattle.page_tables.specs.{Entry.{page_entry}, Walk.{walk_end, fault, frame_of, walked, page_of, entry_place, directory_entry}}
use Rattle.page_tables.specs.{Walk.{table_entry, table_place}, Mapping.{ended_in_frame, HasTables, IsCovered, IsMapped, IsUnmapped}}
use Rattle.page_tables.specs.{Mapping.{directory_word, EndsInFrame, EndsNowhere, KeepsOtherPages}, declared.entry.TheConstants.{PRESENT}}
use Rattle.page_tables.specs.declared.entry.TheConstants.{USER, WRITABLE, TABLE_SPAN}
use Rattle.guest_ram.specs.Bytes.{dword, put, dword_bytes}
use Rattle.guest_ram.proofs.PutLaws.{length-put, dword_put, dword_put_other}

is_one : (n : ℕ) → n ≡ 1 → nat_eq n 1 ≡ true
is_one n e = ap (λ (k : ℕ). nat_eq k 1) e

is_zero : (n : ℕ) → n ≡ 0 → nat_eq n 1 ≡ false
is_zero n e = ap (λ (k : ℕ). nat_eq k 1) e

pub page_entry_present : (frame : ℕ) (writable : Bool) → has_bit (page_entry frame writable) PRESENT ≡ true
page_entry_present frame true = is_one _ (omega arith)
page_entry_present frame false = is_one _ (omega arith)

pub page_entry_user : (frame : ℕ) (writable : Bool) → has_bit (page_entry frame writable) USER ≡ true
page_entry_user frame true = is_one _ (omega arith)
page_entry_user frame false = is_one _ (omega arith)

pub page_entry_writable : (frame : ℕ) (writable : Bool) → has_bit (page_entry frame writable) WRITABLE ≡ writable
page_entry_writable frame true = is_one _ (omega arith)
page_entry_writable frame false = is_zero _ (omega arith)

pub page_entry_frame : (frame : ℕ) (writable : Bool) → frame_of (page_entry frame writable) ≡ frame
page_entry_frame frame true = omega arith
page_entry_frame frame false = omega arith

-- an access through a present directory entry and a page's entry
pub ended-page_entry : (directory frame : ℕ) (writable : Bool) (lin : ℕ) (write : Bool) → has_bit directory PRESENT ≡ true →
    walk_end directory (page_entry frame writable) lin write ≡ ended_in_frame directory frame writable lin write
unfolding walk_end ended_in_frame
ended-page_entry directory frame writable lin write h =
    grind (arith, page_entry_frame, page_entry_present, page_entry_user, page_entry_writable)

-- and through an entry that is absent
pub ended-absent : (directory lin : ℕ) (write : Bool) → has_bit directory PRESENT ≡ true → walk_end directory 0 lin write ≡ fault false
unfolding walk_end
ended-absent directory lin write h = rw h refl

-- two addresses of one page meet the same entries
pub same_entries : (b : List ℕ) (root lin other : ℕ) (write : Bool) → page_of other ≡ page_of lin →
    walked b root other write ≡ walk_end (directory_entry b root lin) (table_entry b root lin) other write
unfolding walked
same_entries b root lin other write e = grind arith

-- where a walk ends, and where one ends to another address of that page
pub record EndsBeside (b : List ℕ) (root lin other p : ℕ) (write : Bool) : Type 0 where
  pub frame : ℕ
  pub here : p ≡ PAGE_SIZE * frame + lin % PAGE_SIZE
  pub there : walked b root other write ≡ Ok (PAGE_SIZE * frame + other % PAGE_SIZE)

record EndedBeside (directory table lin other p : ℕ) (write : Bool) : Type 0 where
  here : p ≡ PAGE_SIZE * frame_of table + lin % PAGE_SIZE
  there : walk_end directory table other write ≡ Ok (PAGE_SIZE * frame_of table + other % PAGE_SIZE)

ended_beside : (directory table lin other p : ℕ) (write : Bool) → walk_end directory table lin write ≡ Ok p →
    EndedBeside directory table lin other p write
unfolding walk_end
ended_beside directory table lin other p write e = grind (arith, cases_Bool)

pub same_page : (b : List ℕ) (root lin other p : ℕ) (write : Bool) → page_of other ≡ page_of lin → walked b root lin write ≡ Ok p →
    EndsBeside b root lin other p write
same_page b root lin other p write e ends =
    let beside = ended_beside (directory_entry b root lin) (table_entry b root lin) lin other p write
    (sym (same_entries b root lin lin write refl) ∙ ends) in grind (arith, same_entries)

-- a run of bytes that does not leave its page
pub run_page : (lin i n : ℕ) → lin % PAGE_SIZE + n ≤ PAGE_SIZE → i < n → page_of (lin + i) ≡ page_of lin
run_page lin i n room within = omega arith

-- ends in a run of bytes
pub same_run : (b : List ℕ) (root lin i n p : ℕ) (write : Bool) → lin % PAGE_SIZE + n ≤ PAGE_SIZE → i < n → walked b root lin write ≡ Ok p →
    walked b root (lin + i) write ≡ Ok (p + i)
same_run b root lin i n p write room within ends =
    let beside = same_page b root lin (lin + i) p write (run_page lin i n room within) ends in
    let here = beside.here in
    beside.there ∙ ap (λ (q : ℕ). Ok q) (let e : PAGE_SIZE * beside.frame + (lin + i) % PAGE_SIZE ≡ p + i = omega arith in e)

-- a run of bytes in one page does not turn over at the end of the linear addresses
pub run_linear : (lin i n : ℕ) → lin < 2 ^ 32 → lin % PAGE_SIZE + n ≤ PAGE_SIZE → i < n → linear (lin + i) ≡ lin + i
run_linear lin i n small room within = omega arith

-- the bytes with another table entry of a linear address
abbrev pub with_entry : List ℕ → ℕ → ℕ → List ℕ
with_entry b lin v = put b (table_place b PAGE_DIRECTORY lin) (dword_bytes v)

-- entries of tables in two frames don't meet
apart_frames : (f g i j : ℕ) → i < TABLE_ENTRIES → j < TABLE_ENTRIES → f ≢ g →
    (entry_place f i + 4 ≤ entry_place g j) ⊎ (entry_place g j + 4 ≤ entry_place f i)
apart_frames f g i j hi hj ne = grind (arith, cases_lt)

-- nor do two entries of one table
apart_indices : (f g i j : ℕ) → f ≡ g → i ≢ j → (entry_place f i + 4 ≤ entry_place g j) ⊎ (entry_place g j + 4 ≤ entry_place f i)
apart_indices f g i j e ne = grind (arith, cases_lt)

directory-with_entry : (b : List ℕ) (lin v index : ℕ) → HasTables b → lin < 2 ^ 32 → IsCovered b lin → index < TABLE_ENTRIES →
    directory_word (with_entry b lin v) index ≡ directory_word b index
directory-with_entry b lin v index t small covered within = grind (arith, apart_frames, dword_put_other)

tables_kept : (b c : List ℕ) → HasTables b → length c ≡ length b →
    ((index : ℕ) → index < TABLE_ENTRIES → directory_word c index ≡ directory_word b index) → HasTables c
tables_kept b c t long same = grind arith

-- the directory and its tables stay
pub HasTables-with_entry : (b : List ℕ) (lin v : ℕ) → HasTables b → lin < 2 ^ 32 → IsCovered b lin → HasTables (with_entry b lin v)
HasTables-with_entry b lin v t small covered =
    tables_kept b (with_entry b lin v) t (length-put b (table_place b PAGE_DIRECTORY lin) (dword_bytes v))
    (λ i l. directory-with_entry b lin v i t small covered l)

same_walk : (b c : List ℕ) (root lin : ℕ) (write : Bool) → directory_entry c root lin ≡ directory_entry b root lin →
    dword c (table_place b root lin) ≡ table_entry b root lin → walked c root lin write ≡ walked b root lin write
unfolding walked
same_walk b c root lin write e f = rw (e, f) refl

absent_walk : (b : List ℕ) (root lin : ℕ) (write : Bool) → has_bit (directory_entry b root lin) PRESENT ≡ false →
    walked b root lin write ≡ fault false
unfolding walked walk_end
absent_walk b root lin write h = rw h refl

walk_of : (c : List ℕ) (root lin directory v : ℕ) (write : Bool) → directory_entry c root lin ≡ directory →
    dword c (entry_place (frame_of directory) (lin / PAGE_SIZE % TABLE_ENTRIES)) ≡ v →
    walked c root lin write ≡ walk_end directory v lin write
unfolding walked
walk_of c root lin directory v write e f = rw (e, f) refl

-- the table entries of two pages don't meet
entries_apart : (b : List ℕ) (lin other : ℕ) → HasTables b → lin < 2 ^ 32 → other < 2 ^ 32 → IsCovered b lin → IsCovered b other →
    page_of other ≢ page_of lin → (table_place b PAGE_DIRECTORY lin + 4 ≤ table_place b PAGE_DIRECTORY other)
    ⊎ (table_place b PAGE_DIRECTORY other + 4 ≤ table_place b PAGE_DIRECTORY lin)
entries_apart b lin other t small within covered named ne = grind (arith, apart_frames, apart_indices, cases_eq)

other_walk : (b : List ℕ) (lin v other : ℕ) (write covers : Bool) → HasTables b → lin < 2 ^ 32 → other < 2 ^ 32 → IsCovered b lin →
    page_of other ≢ page_of lin → has_bit (directory_entry b PAGE_DIRECTORY other) PRESENT ≡ covers →
    walked (with_entry b lin v) PAGE_DIRECTORY other write ≡ walked b PAGE_DIRECTORY other write
other_walk b lin v other write false t small within covered ne none = grind (arith, absent_walk, directory-with_entry)
other_walk b lin v other write true t small within covered ne named =
    grind (arith, directory-with_entry, dword_put_other, entries_apart, same_walk)

pub KeepsOtherPages-with_entry : (b : List ℕ) (lin v : ℕ) → HasTables b → lin < 2 ^ 32 → IsCovered b lin →
    KeepsOtherPages b (with_entry b lin v) lin
KeepsOtherPages-with_entry b lin v t small covered = grind (arith, other_walk)

-- what is at the page's place now
table_entry-with_entry : (b : List ℕ) (lin v : ℕ) → HasTables b → lin < 2 ^ 32 → IsCovered b lin →
    table_entry (with_entry b lin v) PAGE_DIRECTORY lin ≡ v
table_entry-with_entry b lin v t small covered = grind (arith, directory-with_entry, dword_put)

pub IsCovered-with_entry : (b : List ℕ) (lin v : ℕ) → HasTables b → lin < 2 ^ 32 → IsCovered b lin → IsCovered (with_entry b lin v) lin
IsCovered-with_entry b lin v t small covered = rw (directory-with_entry b lin v (lin / TABLE_SPAN) t small covered (omega arith)) covered

pub IsMapped-with_entry : (b : List ℕ) (lin frame : ℕ) (writable : Bool) → HasTables b → lin < 2 ^ 32 → IsCovered b lin →
    IsMapped (with_entry b lin (page_entry frame writable)) lin
IsMapped-with_entry b lin frame writable t small covered = grind (arith, IsCovered-with_entry, page_entry_present, table_entry-with_entry)

pub IsUnmapped-with_entry : (b : List ℕ) (lin : ℕ) → HasTables b → lin < 2 ^ 32 → IsCovered b lin → IsUnmapped (with_entry b lin 0) lin
IsUnmapped-with_entry b lin t small covered = rw (table_entry-with_entry b lin 0 t small covered) refl

-- the walk of the page meets the new entry
page_walk : (b : List ℕ) (lin v other : ℕ) (write : Bool) → HasTables b → lin < 2 ^ 32 → IsCovered b lin → page_of other ≡ page_of lin →
    walked (with_entry b lin v) PAGE_DIRECTORY other write ≡ walk_end (directory_entry b PAGE_DIRECTORY lin) v other write
page_walk b lin v other write t small covered e = grind (arith, directory-with_entry, dword_put, walk_of)

pub EndsInFrame-with_entry : (b : List ℕ) (lin frame : ℕ) (writable : Bool) → HasTables b → lin < 2 ^ 32 → IsCovered b lin →
    EndsInFrame b (with_entry b lin (page_entry frame writable)) lin frame writable
EndsInFrame-with_entry b lin frame writable t small covered = grind (arith, ended-page_entry, page_walk)

pub EndsNowhere-with_entry : (b : List ℕ) (lin : ℕ) → HasTables b → lin < 2 ^ 32 → IsCovered b lin → EndsNowhere (with_entry b lin 0) lin
EndsNowhere-with_entry b lin t small covered = λ other write e.
    page_walk b lin 0 other write t small covered e
    ∙ ended-absent (directory_entry b PAGE_DIRECTORY lin) other write covered
