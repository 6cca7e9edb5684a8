-- The cache of translations: a page that is walked once is walked so at each of its bytes, and the walks of a memory stay the same where
-- the places of linear addresses and the addresses of places do.
use Rattle.std.proofs.Common.{◌≡◌, ℕ, zero, suc, [], ◌∷◌, ◌+◌, ◌*◌, ◌/◌, ◌%◌, ◌<◌, ◌≤◌, ◌^◌, ◌⊎◌, inl, inr, Bool, true, false, ltb}
use Rattle.std.proofs.Common.{if◌then◌else◌, List, length, slice_index_or, replicate, set, length-set, refl, ap, ◌∙◌, sym, subst, arith}
use Rattle.std.proofs.{Common.{Result, Ok, Err}, lemmas.Bool.{cases_lt, lt-ltb}, lemmas.List.{get_or-set_other, get_or-set_same}}
use Rattle.client_world.specs.{declared.faults.PageFault.{PageFault}, declared.host_frames.TheConstants.{PAGE_SIZE, PAGE_DIRECTORY}}
use Rattle.client_world.specs.declared.host_frames.TheConstants.{TABLE_ENTRIES, BUDGET_FRAMES, BLOCK_TABLES, BLOCK_TABLE_FRAMES, BLOCK_ROWS}
use Rattle.client_world.specs.declared.host_frames.TheConstants.{BLOCK_ROW_FRAMES, DESCRIPTORS}
use Rattle.client_world.specs.{declared.limits.TheConstants.{GREATEST_DEPTH}, declared.dos_memory.DosEntry.{DosEntry}, DosMemory.{IsArena}}
use Rattle.client_world.specs.{Selector.{Row}, declared.place.Place.{Place}, Access.{place_in, place_of, places_from}, Soundness.{IsSound}}
use Rattle.guest_ram.specs.Bytes.{put}
use Rattle.guest_ram.proofs.PutLaws.{region-put_away}
use Rattle.desc_table.specs.Rows.{row_address, row_bytes}
use Rattle.desc_table.proofs.RowLaws.{length-row_bytes}
use Rattle.host_memory.specs.{Holds.{Holds}, Law.{walk_result}, Layout.{address_of}, View.{MachineView}, Records.{record_size}}
use Rattle.host_memory.proofs.{Parts.{addresses_by, addresses_of}, WalkLaw.{walk_agrees}}
use Rattle.page_tables.specs.{Walk.{walked, walk_end, fault, directory_entry, table_entry}, declared.entry.TheConstants.{TABLE_SPAN}}
use Rattle.guest_space.specs.{declared.pages.CacheEntry.{CacheEntry}, Cache.{ends, Hit, cached_answer, Warm, empty_entry, entry_at}}
use Rattle.guest_space.specs.{Cache.{pages_in_all}, declared.pages.TheConstants.{CACHE_SIZE}, Machines.{Processor, IsMachine, held_world}}
use Rattle.guest_space.specs.{Records.{record_place}, Transfer.{translated, with_places}}
use Rattle.guest_space.proofs.{ArenaWrites.{with_arena, arena_has}, MemoryAlone.{same_places}, Machines.{AllBytes, machine_of}}
use Rattle.guest_space.proofs.{Machines.{sound_blocks}, Puts.{store_bytes}, Runs.{can_write_run, run_all}}
use Rattle.guest_space.proofs.WriteRuns.{places_keep_addresses}

-- a cache with no entry in use

empty_at : (n i : ℕ) → i < n → entry_at (replicate n empty_entry) i ≡ empty_entry
empty_at zero i low = absurd (omega arith)
empty_at (suc n) zero low = refl
empty_at (suc n) (suc i) low = empty_at n i (omega arith)

empty_page : (i : ℕ) → i < 64 → (entry_at (replicate 64 empty_entry) i).page ≡ pages_in_all
empty_page i low = ap (λ (e : CacheEntry). e.page) (empty_at 64 i low)

abbrev IsFlagged : ℕ → CacheEntry → Type 0
IsFlagged i e = e.used ≡ ltb e.page pages_in_all

pub empty_warm : (b : List ℕ) → Warm b (replicate 64 empty_entry)
empty_warm b = record {
  long = refl;
  flag = λ i within. subst (IsFlagged i) (sym (empty_at 64 i within)) refl;
  hit = λ i within few. absurd (omega (arith, empty_page i within));
  place = λ i within few. absurd (omega (arith, empty_page i within));
}

-- an entry that serves says where the walk ends
noted_ends : (e : CacheEntry) (at : ℕ) (write : Bool) → (write ≡ true → e.writable ≡ true) →
    cached_answer e at write ≡ Ok (PAGE_SIZE * e.frame + at)
noted_ends e at true may = rw (may refl) refl
noted_ends e at false may = refl

pub hit_ends : (b : List ℕ) (e : CacheEntry) (lin : ℕ) (write : Bool) → Hit b e → e.page ≡ lin / PAGE_SIZE →
    (write ≡ true → e.writable ≡ true) → walked b PAGE_DIRECTORY lin write ≡ Ok (PAGE_SIZE * e.frame + lin % PAGE_SIZE)
hit_ends b e lin write hit page may = grind (arith, noted_ends)

-- a walk that ends at one byte of a page ends at each

abbrev IsEnd : Result ℕ PageFault → Type 0
IsEnd (Ok p) = Unit {0}
IsEnd (Err f) = ⊥

abbrev end_at : ℕ → Result ℕ PageFault
end_at p = Ok p

abbrev by_tests : Bool → Bool → ℕ → ℕ → Result ℕ PageFault
by_tests absent allowed frame lin = if absent then fault false else if allowed then Ok (PAGE_SIZE * frame + lin % PAGE_SIZE) else fault true

tests_moved : (absent allowed : Bool) (frame lin other p : ℕ) → by_tests absent allowed frame lin ≡ end_at p →
    by_tests absent allowed frame other ≡ end_at (PAGE_SIZE * (p / PAGE_SIZE) + other % PAGE_SIZE)
tests_moved true allowed frame lin other p e = absurd (subst IsEnd (sym e) tt)
tests_moved false false frame lin other p e = absurd (subst IsEnd (sym e) tt)
tests_moved false true frame lin other p e = grind arith

end_moved : (directory table lin other p : ℕ) (write : Bool) → walk_end directory table lin write ≡ end_at p →
    walk_end directory table other write ≡ end_at (PAGE_SIZE * (p / PAGE_SIZE) + other % PAGE_SIZE)
unfolding walk_end
end_moved directory table lin other p write e = grind (arith, tests_moved)

same_page : (b : List ℕ) (lin at p : ℕ) (write : Bool) → at < PAGE_SIZE → walked b PAGE_DIRECTORY lin write ≡ end_at p →
    walked b PAGE_DIRECTORY (PAGE_SIZE * (lin / PAGE_SIZE) + at) write ≡ end_at (PAGE_SIZE * (p / PAGE_SIZE) + at)
unfolding walked
same_page b lin at p write within e = grind (arith, end_moved)

-- and a write, which ends at each byte of the page or fails at each

tests_noted : (absent reads writes : Bool) (frame lin other p : ℕ) → by_tests absent reads frame lin ≡ end_at p →
    by_tests absent writes frame other
    ≡ if ends (by_tests absent writes frame lin) then end_at (PAGE_SIZE * (p / PAGE_SIZE) + other % PAGE_SIZE) else fault true
tests_noted true reads writes frame lin other p e = absurd (subst IsEnd (sym e) tt)
tests_noted false false writes frame lin other p e = absurd (subst IsEnd (sym e) tt)
tests_noted false true false frame lin other p e = refl
tests_noted false true true frame lin other p e = tests_moved false true frame lin other p e

end_noted : (directory table lin other p : ℕ) → walk_end directory table lin false ≡ end_at p → walk_end directory table other true
    ≡ if ends (walk_end directory table lin true) then end_at (PAGE_SIZE * (p / PAGE_SIZE) + other % PAGE_SIZE) else fault true
unfolding walk_end
end_noted directory table lin other p e = grind (arith, tests_noted)

page_noted : (b : List ℕ) (lin at p : ℕ) → at < PAGE_SIZE → walked b PAGE_DIRECTORY lin false ≡ end_at p →
    walked b PAGE_DIRECTORY (PAGE_SIZE * (lin / PAGE_SIZE) + at) true
    ≡ if ends (walked b PAGE_DIRECTORY lin true) then end_at (PAGE_SIZE * (p / PAGE_SIZE) + at) else fault true
unfolding walked
page_noted b lin at p within e =
    let other = PAGE_SIZE * (lin / PAGE_SIZE) + at in
    let directory : other / TABLE_SPAN ≡ lin / TABLE_SPAN = omega arith in
    let table : other / PAGE_SIZE % TABLE_ENTRIES ≡ lin / PAGE_SIZE % TABLE_ENTRIES = omega arith in
    let rest : other % PAGE_SIZE ≡ at = omega arith in
    rw (directory, table) (subst (λ (x : ℕ).
    walk_end (directory_entry b PAGE_DIRECTORY lin) (table_entry b PAGE_DIRECTORY lin) other true
    ≡ if ends (walk_end (directory_entry b PAGE_DIRECTORY lin) (table_entry b PAGE_DIRECTORY lin) lin true)
    then end_at (PAGE_SIZE * (p / PAGE_SIZE) + x) else fault true) rest
    (end_noted (directory_entry b PAGE_DIRECTORY lin) (table_entry b PAGE_DIRECTORY lin) lin other p e))

pub entry_hits : (b : List ℕ) (lin p : ℕ) (on : Bool) → lin < 2 ^ 32 → p < 2 ^ 32 → walked b PAGE_DIRECTORY lin false ≡ end_at p →
    on ≡ ends (walked b PAGE_DIRECTORY lin true) →
    Hit b (record { used = true; page = lin / PAGE_SIZE; frame = p / PAGE_SIZE; writable = on })
entry_hits b lin p on small low reads writes = grind (arith, page_noted, same_page)

-- one entry set: what holds of each entry at its place

abbrev AllAt : (ℕ → CacheEntry → Type 0) → List CacheEntry → Type 0
AllAt Q cache = (i : ℕ) → i < 64 → Q i (entry_at cache i)

all_set : (Q : ℕ → CacheEntry → Type 0) (cache : List CacheEntry) (j : ℕ) (e : CacheEntry) → j < length cache → AllAt Q cache → Q j e →
    AllAt Q (set cache j e)
all_set Q cache j e low all its = grind (arith, cases_lt, get_or-set_other, get_or-set_same)

pub set_warm : (b : List ℕ) (cache : List CacheEntry) (j : ℕ) (e : CacheEntry) → j < 64 → Warm b cache → e.used ≡ true → Hit b e →
    e.page % CACHE_SIZE ≡ j → Warm b (set cache j e)
set_warm b cache j e inside warm used hit place =
    let low : j < length cache = subst (λ (n : ℕ). j < n) (sym warm.long) inside in
    record {
      long = length-set cache j e ∙ warm.long;
      flag = all_set IsFlagged cache j e low warm.flag (used ∙ sym (lt-ltb e.page pages_in_all hit.page));
      hit = all_set (λ i x. x.page < pages_in_all → Hit b x) cache j e low warm.hit (λ few. hit);
      place = all_set (λ i x. x.page < pages_in_all → x.page % CACHE_SIZE ≡ i) cache j e low warm.place (λ few. place);
    }

-- other bytes with the same walks

abbrev pub SameWalks : List ℕ → List ℕ → Type 0
SameWalks b c = (lin : ℕ) (write : Bool) → lin < 2 ^ 32 → walked c PAGE_DIRECTORY lin write ≡ walked b PAGE_DIRECTORY lin write

hit_kept : (b c : List ℕ) (e : CacheEntry) → SameWalks b c → Hit b e → Hit c e
hit_kept b c e walks hit = grind arith

warm_kept : (b c : List ℕ) (cache : List CacheEntry) → SameWalks b c → Warm b cache → Warm c cache
warm_kept b c cache walks warm = grind (arith, hit_kept)

walk_of : (k : Processor) (b : List ℕ) → Holds b k.budget → IsSound (held_world k b) → (lin : ℕ) (write : Bool) → lin < 2 ^ 32 →
    walked b PAGE_DIRECTORY lin write ≡ walk_result b (place_of (held_world k b) lin) write
walk_of k b holds sound lin write small =
    walk_agrees b k.budget holds k.mode k.regs k.vif k.width
    (sound_blocks k (record { world = held_world k b; bytes = b }) (machine_of k b holds sound)) lin write small

told_same : (b c : List ℕ) (p q : Place) (write : Bool) → q ≡ p → ((x : Place) → address_of c x ≡ address_of b x) →
    walk_result c q write ≡ walk_result b p write
unfolding walk_result
told_same b c p q write same addresses = rw (same, addresses p) refl

-- two machines with the same places and addresses
pub kept_warm_of : (k j : Processor) (b c : List ℕ) (cache : List CacheEntry) → Holds b k.budget → IsSound (held_world k b) →
    Holds c j.budget →
    IsSound (held_world j c) → ((lin : ℕ) → place_in (held_world j c).blocks lin ≡ place_in (held_world k b).blocks lin) →
    ((p : Place) → address_of c p ≡ address_of b p) → Warm b cache → Warm c cache
kept_warm_of k j b c cache holds sound held sounds places addresses =
    warm_kept b c cache (λ lin write small.
    walk_of j c held sounds lin write small
    ∙ told_same b c (place_of (held_world k b) lin) (place_of (held_world j c) lin) write (places lin) addresses
    ∙ sym (walk_of k b holds sound lin write small))

pub kept_warm : (k : Processor) (b c : List ℕ) (cache : List CacheEntry) → Holds b k.budget → IsSound (held_world k b) → Holds c k.budget →
    IsSound (held_world k c) → ((lin : ℕ) → place_in (held_world k c).blocks lin ≡ place_in (held_world k b).blocks lin) →
    ((p : Place) → address_of c p ≡ address_of b p) → Warm b cache → Warm c cache
kept_warm k b c cache = kept_warm_of k k b c cache

-- bytes that are put beside the tables of the blocks' pages and the rows of blocks move no address
pub record IsBeside (at n : ℕ) : Type 0 where
  pub tables : (at + n ≤ PAGE_SIZE * BLOCK_TABLES) ⊎ (PAGE_SIZE * BLOCK_TABLES + PAGE_SIZE * BLOCK_TABLE_FRAMES ≤ at)
  pub handles : (at + n ≤ PAGE_SIZE * BLOCK_ROWS) ⊎ (PAGE_SIZE * BLOCK_ROWS + PAGE_SIZE * BLOCK_ROW_FRAMES ≤ at)

pub put_beside : (b : List ℕ) (at : ℕ) (xs : List ℕ) → IsBeside at (length xs) → PAGE_SIZE * BUDGET_FRAMES ≤ length b → (p : Place) →
    address_of (put b at xs) p ≡ address_of b p
put_beside b at xs beside size = grind (arith, addresses_by, region-put_away)

pub row_beside : (index : ℕ) (row : Row) → index < DESCRIPTORS → IsBeside (row_address index) (length (row_bytes row))
row_beside index row small = grind (arith, length-row_bytes)

pub record_beside : (place : ℕ) (xs : List ℕ) → place < GREATEST_DEPTH → length xs ≡ record_size → IsBeside (record_place place) (length xs)
record_beside place xs small size = record { tables = inr (omega arith); handles = inl (omega arith) }

pub arena_addresses : (b : List ℕ) (budget : ℕ) (es : List DosEntry) → Holds b budget → IsArena es → (p : Place) →
    address_of (with_arena b es) p ≡ address_of b p
arena_addresses b budget es holds arena = addresses_of b (with_arena b es) budget _ (arena_has b budget es holds arena) refl refl

-- a write of the client
pub write_addresses_all : (k : Processor) (v : MachineView) (lin n p : ℕ) (bytes : List ℕ) → IsMachine k v → lin < 2 ^ 32 →
    lin % PAGE_SIZE + n ≤ PAGE_SIZE → translated v lin true ≡ Ok p → length bytes ≡ n → AllBytes bytes → (q : Place) →
    address_of (put v.bytes p bytes) q ≡ address_of v.bytes q
write_addresses_all k v lin n p bytes m small room ends size all q =
    ap (λ (b : List ℕ). address_of b q) (store_bytes k v lin n p bytes m small room ends size all)
    ∙ places_keep_addresses k v (places_from v.world.blocks lin n) bytes m
    (can_write_run v.world lin n (run_all k v lin n p true m small room ends)) all q

pub written_warm : (k : Processor) (b c : List ℕ) (cache : List CacheEntry) (places : List Place) (bytes : List ℕ) → Holds b k.budget →
    IsSound (held_world k b) → Holds c k.budget → IsSound (held_world k c) →
    record { world = held_world k c; bytes = c } ≡ with_places (record { world = held_world k b; bytes = b }) places bytes →
    ((q : Place) → address_of c q ≡ address_of b q) → Warm b cache → Warm c cache
written_warm k b c cache places bytes holds sound held sounds is addresses = grind (arith, kept_warm, same_places)

pub byte_alone : (x : ℕ) → x < 0x100 → AllBytes (x ∷ [])
byte_alone x small zero within = small
byte_alone x small (suc i) within = absurd (omega arith)
