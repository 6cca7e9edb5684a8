-- The memory after entries of DOS memory took the place of others and all headers were written: the world that it holds, which is sound.
use Rattle.std.proofs.Common.{◌≡◌, ℕ, ◌+◌, ◌≤◌, Bool, List, length, take, drop, refl, ap, ◌∙◌, sym, subst, arith, Option, Some, None}
use Rattle.client_world.specs.{declared.dos_memory.DosEntry.{DosEntry}, declared.registers.Mode.{Mode}, declared.registers.Regs.{Regs}}
use Rattle.client_world.specs.{declared.registers.Width.{Width}, declared.memory_map.TheConstants.{ARENA_START, ARENA_END}}
use Rattle.client_world.specs.{DosMemory.{IsArena}, Soundness.{IsSound, SoundWidth}, World.{World}}
use Rattle.guest_ram.specs.Bytes.{put}
use Rattle.guest_ram.proofs.PutLaws.{length-region, region-put, put_all}
use Rattle.host_memory.specs.{DosList.{entry_count, list_size, arena_in}, Headers.{with_headers}, Holds.{Holds}, Layout.{arena_part}}
use Rattle.host_memory.specs.{Layout.{dos_part, world_of}, View.{MachineView}}
use Rattle.host_memory.proofs.Parts.{HasParts, holds_by, holds_parts, holds_with_arena, holds_with_dos, own_parts, parts_of, world_by}
use Rattle.host_memory.proofs.{Parts.{arena_is}, PutParts.{Arena, put_part}, ListsClaim.{length-arena_in}}
use Rattle.guest_space.specs.{Arena.{with_replaced_entries, NoneMade, with_entries, arena_bytes}, Machines.{Processor, held_world}}
use Rattle.guest_space.proofs.{ArenaHeaders.{headers_has, SoundMegabyte-headers}, ArenaLists.{length-arena_bytes, arena_back, arena_keeps}}
use Rattle.guest_space.proofs.{ArenaLists.{HasFrames, list_start}, ArenaRuns.{SoundRuns-spliced, fills_long}, ArenaPuts.{length-spliced}}

-- entries that are an arena have room
pub arena_few : (es : List DosEntry) → IsArena es → ARENA_START + length es ≤ ARENA_END
arena_few es arena = fills_long es ARENA_START ARENA_END arena.fills

-- the memory after both
abbrev pub with_arena : List ℕ → List DosEntry → List ℕ
with_arena b es = with_headers (put b list_start (arena_bytes es)) es

pub arena_has : (b : List ℕ) (budget : ℕ) (es : List DosEntry) → Holds b budget → IsArena es →
    HasParts (with_arena b es) budget (record (parts_of b budget) { arena = arena_bytes es; dos = with_headers (dos_part b) es })
arena_has b budget es holds arena =
    let few = arena_few es arena in
    let size = holds.size in
    let long : length (arena_bytes es) ≡ list_size = length-arena_bytes es (omega arith) in
    let part : length (arena_part b) ≡ list_size = length-region b list_start list_size (omega arith) in
    headers_has _ budget _ es ARENA_START
    (subst (λ (a : List ℕ). HasParts (put b list_start (arena_bytes es)) budget (record (parts_of b budget) { arena = a }))
    (put_all (arena_part b) (arena_bytes es) (long ∙ sym part))
    (put_part Arena b budget _ list_start 0 (arena_bytes es) (own_parts b budget holds) (omega arith) (omega arith))) arena.fills

pub arena_world : (b : List ℕ) (budget : ℕ) → Holds b budget →
    (mode : Mode) (regs : Regs) (vif : Bool) (width : Option Width) (es : List DosEntry) → IsArena es →
    world_of (with_arena b es) budget mode regs vif width
    ≡ record (world_of b budget mode regs vif width) { arena = es; dos = with_headers (world_of b budget mode regs vif width).dos es }
unfolding world_of
arena_world b budget holds mode regs vif width es arena = grind (arith, arena_back, arena_few, arena_has, parts_of, world_by)

pub arena_holds : (b : List ℕ) (budget : ℕ) → Holds b budget → (es : List DosEntry) → IsArena es → Holds (with_arena b es) budget
arena_holds b budget holds es arena =
    let few = arena_few es arena in
    holds_by (with_arena b es) budget _ (arena_has b budget es holds arena) holds.most
    (holds_with_dos (record (parts_of b budget) { arena = arena_bytes es }) budget (with_headers (dos_part b) es)
    (holds_with_arena (parts_of b budget) budget (arena_bytes es) (arena_keeps es (omega arith)) (holds_parts b budget holds)))

-- the world after it is sound
keeps_width : (width : Option Width) (w : World) (es : List DosEntry) (dos : List ℕ) → SoundWidth width w →
    SoundWidth width (record w { arena = es; dos = dos })
keeps_width None w es dos s = grind arith
keeps_width (Some width) w es dos s = s

pub IsSound-entries : (w : World) (place old : ℕ) (new : List DosEntry) → IsSound w → NoneMade (take old (drop place w.arena)) →
    NoneMade new → IsArena (with_replaced_entries w.arena place old new) → IsSound (with_entries w place old new)
unfolding with_entries
IsSound-entries w place old new s gone none arena =
    let megabyte = SoundMegabyte-headers w.dos (with_replaced_entries w.arena place old new) ARENA_START s.megabyte arena.fills in
    let runs = SoundRuns-spliced w.descriptors w.arena place old new s.runs gone none in
    grind (arith, keeps_width)

-- what a machine's view shows of the list

pub arena_of : (k : Processor) (b : List ℕ) (v : MachineView) → record { world = held_world k b; bytes = b } ≡ v →
    v.world.arena ≡ arena_in (arena_part b)
arena_of k b v is = ap (λ (x : MachineView). x.world.arena) (sym is) ∙ arena_is b k.budget k.mode k.regs k.vif k.width

pub count_of : (k : Processor) (b : List ℕ) (v : MachineView) → record { world = held_world k b; bytes = b } ≡ v →
    length v.world.arena ≡ entry_count (arena_part b)
count_of k b v is = ap (λ (es : List DosEntry). length es) (arena_of k b v is) ∙ length-arena_in (arena_part b)

-- the entries after it have room
pub splice_fits : (es : List DosEntry) (place old : ℕ) (new : List DosEntry) → place + old ≤ length es →
    IsArena (with_replaced_entries es place old new) → ARENA_START + (length es + length new) ≤ ARENA_END + old
splice_fits es place old new within arena =
    let total = length-spliced es place old new within in
    let few = arena_few (with_replaced_entries es place old new) arena in
    omega arith

-- the memory before the headers are written
pub part_after : (b : List ℕ) (es : List DosEntry) → HasFrames b → IsArena es →
    arena_part (put b list_start (arena_bytes es)) ≡ arena_bytes es
part_after b es frames arena =
    let few = arena_few es arena in
    let xs = arena_bytes es in
    let long : length xs ≡ list_size = length-arena_bytes es (omega arith) in
    let part : length (arena_part b) ≡ list_size = length-region b list_start list_size (omega arith) in
    region-put b list_start xs list_start list_size 0 (omega arith) (omega arith) ∙ put_all (arena_part b) xs (long ∙ sym part)

pub arena_after : (b : List ℕ) (es : List DosEntry) → HasFrames b → IsArena es →
    arena_in (arena_part (put b list_start (arena_bytes es))) ≡ es
arena_after b es frames arena = grind (arith, arena_back, arena_few, part_after)

pub count_after : (b a : List ℕ) (es : List DosEntry) → HasFrames b → IsArena es → a ≡ put b list_start (arena_bytes es) →
    entry_count (arena_part a) ≡ length es
count_after b a es frames arena is =
    sym (length-arena_in (arena_part a))
    ∙ ap (λ (x : List ℕ). length (arena_in (arena_part x))) is
    ∙ ap (λ (xs : List DosEntry). length xs) (arena_after b es frames arena)

-- what the writes put is said of the machine's entries
pub replaced_is : (b a : List ℕ) (es : List DosEntry) (place old : ℕ) (xs new : List DosEntry) → es ≡ arena_in (arena_part b) → xs ≡ new →
    a ≡ put b list_start (arena_bytes (with_replaced_entries (arena_in (arena_part b)) place old xs)) →
    a ≡ put b list_start (arena_bytes (with_replaced_entries es place old new))
replaced_is b a es place old xs new of is put_there = rw (of, ← is) put_there

pub written_is : (b a c : List ℕ) (es : List DosEntry) → HasFrames b → IsArena es → a ≡ put b list_start (arena_bytes es) →
    c ≡ with_headers a (arena_in (arena_part a)) → c ≡ with_arena b es
written_is b a c es frames arena is headers = grind (arith, arena_after, list_start)

-- the memory after it holds the world with these entries, which is sound
pub entries_holds : (k : Processor) (b c : List ℕ) (v : MachineView) (place old : ℕ) (new : List DosEntry) →
    record { world = held_world k b; bytes = b } ≡ v → Holds b k.budget → IsArena (with_replaced_entries v.world.arena place old new) →
    c ≡ with_arena b (with_replaced_entries v.world.arena place old new) → Holds c k.budget
entries_holds k b c v place old new view holds arena is =
    rw is (arena_holds b k.budget holds (with_replaced_entries v.world.arena place old new) arena)

with_entries_is : (w : World) (place old : ℕ) (new : List DosEntry) →
    record w { arena = with_replaced_entries w.arena place old new; dos = with_headers w.dos (with_replaced_entries w.arena place old new) }
    ≡ with_entries w place old new
unfolding with_entries
with_entries_is w place old new = refl

pub entries_world : (k : Processor) (b c : List ℕ) (v : MachineView) (place old : ℕ) (new : List DosEntry) →
    record { world = held_world k b; bytes = b } ≡ v → Holds b k.budget → IsArena (with_replaced_entries v.world.arena place old new) →
    c ≡ with_arena b (with_replaced_entries v.world.arena place old new) → held_world k c ≡ with_entries v.world place old new
entries_world k b c v place old new view holds arena is = grind (arith, arena_world, with_entries_is)

pub entries_sound : (k : Processor) (b c : List ℕ) (v : MachineView) (place old : ℕ) (new : List DosEntry) →
    record { world = held_world k b; bytes = b } ≡ v → Holds b k.budget → IsSound (held_world k b) →
    NoneMade (take old (drop place v.world.arena)) → NoneMade new → IsArena (with_replaced_entries v.world.arena place old new) →
    c ≡ with_arena b (with_replaced_entries v.world.arena place old new) → IsSound (held_world k c)
entries_sound k b c v place old new view holds sound gone none arena is =
    subst IsSound (sym (entries_world k b c v place old new view holds arena is))
    (IsSound-entries v.world place old new (subst (λ (x : MachineView). IsSound x.world) view sound) gone none arena)

-- what was put is said of the machine's entries
pub put_is : (es xs : List DosEntry) (b c : List ℕ) (place old : ℕ) (new : List DosEntry) → es ≡ xs →
    c ≡ with_arena b (with_replaced_entries xs place old new) → c ≡ with_arena b (with_replaced_entries es place old new)
put_is es xs b c place old new same is = rw same is

-- the descriptors stay
pub with_entries_rows : (w : World) (place old : ℕ) (new : List DosEntry) → (with_entries w place old new).descriptors ≡ w.descriptors
unfolding with_entries
with_entries_rows w place old new = refl

pub with_entries_blocks : (w : World) (place old : ℕ) (new : List DosEntry) → (with_entries w place old new).blocks ≡ w.blocks
unfolding with_entries
with_entries_blocks w place old new = refl
