-- A machine after entries of DOS memory took the place of others, alone or together with the descriptors of a block: its memory holds the
-- world with them, which is sound.
use Rattle.std.proofs.Common.{◌≡◌, ℕ, List, take, drop, ap, Option, arith, zero, suc, ◌+◌, ◌<◌, ◌≤◌, ◌∙◌, sym, subst}
use Rattle.client_world.specs.{declared.dos_memory.DosEntry.{DosEntry}, Access.{place_in}, DosMemory.{IsArena}, World.{MemoryBlock, World}}
use Rattle.client_world.specs.{declared.dos_memory.DosRun.{DosRun}, declared.host_frames.TheConstants.{DESCRIPTORS}}
use Rattle.client_world.specs.{declared.place.Place.{Place}, Soundness.{IsSound}, Selector.{Row}}
use Rattle.host_memory.specs.{DosList.{arena_in}, Layout.{arena_part, address_of}, View.{MachineView}, Holds.{Holds}}
use Rattle.guest_space.specs.{declared.machine.Machine.TheInside.{Inside}, Arena.{with_replaced_entries, NoneMade, with_entries}}
use Rattle.guest_space.specs.{DosRuns.{CanPutRun, dos_row, rows_of_run, with_dos_rows, with_entries_and_run, with_run_bytes}, Cache.{Warm}}
use Rattle.guest_space.specs.Machines.{held_world}
use Rattle.guest_space.proofs.ArenaWrites.{with_arena, arena_of, entries_holds, entries_world, entries_sound, put_is, with_entries_rows}
use Rattle.guest_space.proofs.{ArenaWrites.{with_entries_blocks}, CacheLaws.{arena_addresses, put_beside, row_beside, kept_warm}}
use Rattle.guest_space.proofs.{Insides.{processor_of, view_of, IsWhole, IsAfter, after_call}, DosRows.{run_bytes_none, run_bytes_suc}}
use Rattle.guest_space.proofs.{DosRows.{run_holds, run_world}, DosRunsSound.{IsSound-run}}
use Rattle.desc_table.specs.Rows.{row_address, row_bytes}

-- the entries that a memory has are those of the machine's world
pub put_there : (m : Inside) (v : MachineView) (c : List ℕ) (place old : ℕ) (new : List DosEntry) → view_of m ≡ v →
    c ≡ with_arena m.ram (with_replaced_entries (arena_in (arena_part m.ram)) place old new) →
    c ≡ with_arena m.ram (with_replaced_entries v.world.arena place old new)
put_there m v c place old new is e = put_is v.world.arena _ m.ram c place old new (arena_of (processor_of m) m.ram v is) e

pub entries_after : (m : Inside) (v : MachineView) → view_of m ≡ v → IsWhole m → (c : List ℕ) (place old : ℕ) (new : List DosEntry) →
    NoneMade (take old (drop place v.world.arena)) → NoneMade new → IsArena (with_replaced_entries v.world.arena place old new) →
    c ≡ with_arena m.ram (with_replaced_entries (arena_in (arena_part m.ram)) place old new) →
    IsAfter m v c (with_entries v.world place old new)
entries_after m v is whole c place old new gone none arena e =
    let k = processor_of m in
    let written = put_there m v c place old new is e in
    after_call m v c (with_entries v.world place old new) is whole (entries_holds k m.ram c v place old new is whole.0 arena written)
    (entries_sound k m.ram c v place old new is whole.0 whole.1 gone none arena written)
    (entries_world k m.ram c v place old new is whole.0 arena written)
    (with_entries_rows v.world place old new)
    (λ lin. ap (λ (bs : List (Option MemoryBlock)). place_in bs lin) (with_entries_blocks v.world place old new))
    (λ p. grind (arith, arena_addresses))

pub record RunMachine (m : Inside) (v : MachineView) (c : List ℕ) (place old : ℕ) (new : List DosEntry) (run : DosRun) : Type 0 where
  pub holds : Holds c m.pages
  pub world : held_world (processor_of m) c ≡ with_entries_and_run v.world place old new run
  pub sound : IsSound (held_world (processor_of m) c)
  pub warm : Warm c m.cache
  pub addresses : (p : Place) → address_of c p ≡ address_of v.bytes p

-- the rows of a run lie beside the tables of pages
run_addresses : (b : List ℕ) (budget : ℕ) → Holds b budget → (run : DosRun) (n : ℕ) → run.seg < 0x10000 → run.after < 0x10000 →
    run.first + n ≤ DESCRIPTORS → (p : Place) → address_of (with_run_bytes b run n) p ≡ address_of b p
run_addresses b budget holds run zero segment after room p = ap (λ (x : List ℕ). address_of x p) (run_bytes_none b run)
run_addresses b budget holds run (suc n) segment after room p =
    let held = run_holds b budget holds run n segment after (omega arith) in
    ap (λ (x : List ℕ). address_of x p) (run_bytes_suc b run n)
    ∙ put_beside (with_run_bytes b run n) (row_address (run.first + n)) (row_bytes (dos_row run.seg run.after n))
    (row_beside (run.first + n) (dos_row run.seg run.after n) (omega arith)) (omega (arith, held.size)) p
    ∙ run_addresses b budget holds run n segment after (omega arith) p

pub run_machine : (m : Inside) (v : MachineView) → view_of m ≡ v → IsWhole m →
    (a c : List ℕ) (place old : ℕ) (new : List DosEntry) (run : DosRun) → run.seg < 0x10000 → run.after < 0x10000 →
    CanPutRun v.world place old new run → a ≡ with_arena m.ram (with_replaced_entries (arena_in (arena_part m.ram)) place old new) →
    c ≡ with_run_bytes a run (rows_of_run run) → RunMachine m v c place old new run
run_machine m v view whole a c place old new run segment after can put_entries rows =
    let k = processor_of m in let b = m.ram in let holds = whole.0 in let sound = whole.1 in
    let entries = put_there m v a place old new view put_entries in
    let before : IsSound v.world = subst (λ (x : MachineView). IsSound x.world) view sound in
    let size = before.descriptors.indices in
    let added = can.added.within in
    let room : run.first + rows_of_run run ≤ DESCRIPTORS = omega arith in
    let held = entries_holds k b a v place old new view holds can.arena entries in
    let world : held_world k c ≡ with_entries_and_run v.world place old new run =
    ap (held_world k) rows
    ∙ run_world a k.budget held k.mode k.regs k.vif k.width run (rows_of_run run) segment after room
    ∙ ap (λ (w : World). record w { descriptors = with_dos_rows w.descriptors run (rows_of_run run) })
    (entries_world k b a v place old new view holds can.arena entries)
    ∙ ap (λ (rs : List Row). record (with_entries v.world place old new) { descriptors = with_dos_rows rs run (rows_of_run run) })
    (with_entries_rows v.world place old new) in
    let now : Holds c k.budget = rw rows (run_holds a k.budget held run (rows_of_run run) segment after room) in
    let sound_now = subst IsSound (sym world) (IsSound-run v.world place old new run segment after before can) in
    let addresses : (p : Place) → address_of c p ≡ address_of v.bytes p = λ p. ap (λ (x : List ℕ). address_of x p) rows
    ∙ run_addresses a k.budget held run (rows_of_run run) segment after room p
    ∙ ap (λ (x : List ℕ). address_of x p) entries
    ∙ arena_addresses b k.budget (with_replaced_entries v.world.arena place old new) holds can.arena p
    ∙ ap (λ (x : MachineView). address_of x.bytes p) view in
    record {
      holds = now;
      world = world;
      sound = sound_now;
      warm = kept_warm k b c m.cache holds sound now sound_now
          (λ lin. grind (arith, with_entries_blocks))
          (λ p. addresses p ∙ ap (λ (x : MachineView). address_of x.bytes p) (sym view)) whole.3;
      addresses = addresses;
    }
