-- The memory with one record more or one less: the world that it holds, which is sound.
use Rattle.std.proofs.Common.{◌≡◌, ◌≢◌, ℕ, ◌+◌, ◌-◌, ◌*◌, ◌<◌, ◌≤◌, ◌⊎◌, Bool, List, [], ◌∷◌, ◌++◌, length, get_or, take, refl, ap, ◌∙◌}
use Rattle.std.proofs.{Common.{sym, subst, arith, add-zero, zero-add, add_assoc, Option, Some, None}, lemmas.Bool.{cases_lt}}
use Rattle.std.proofs.lemmas.Option.{slice_get-get_or}
use Rattle.std.specs.List.{slice_get}
use Rattle.client_world.specs.{declared.calls.Record.{Record}, declared.host_frames.TheConstants.{PAGE_SIZE, RECORDS, RECORD_FRAMES}}
use Rattle.client_world.specs.{declared.limits.TheConstants.{GREATEST_DEPTH}, declared.place.Place.{Place}, declared.registers.Mode.{Mode}}
use Rattle.client_world.specs.{declared.registers.Regs.{Regs}, declared.registers.Width.{Width}, Soundness.{IsSound, SoundWidth}}
use Rattle.client_world.specs.World.{World}
use Rattle.guest_ram.specs.{Bytes.{put, region}, Listed.{zeros, copies}}
use Rattle.guest_ram.proofs.{ListedLaws.{length-zeros}, PutLaws.{length-put, length-region, at_region, put_away}}
use Rattle.host_memory.specs.{Holds.{Holds}, Layout.{address_of, records_part, world_of}, Records.{record_at, record_bytes, record_count}}
use Rattle.host_memory.specs.{Records.{record_size, calls_in}, View.{MachineView, OnlyAt}}
use Rattle.host_memory.proofs.Parts.{HasParts, HasSize, addresses_of, holds_by, holds_parts, holds_with_records, parts_of, world_by}
use Rattle.host_memory.proofs.{Parts.{calls_is}, PutParts.{Records, put_part}}
use Rattle.guest_space.specs.{declared.machine.Machine.TheInside.{Inside}, Machines.{Processor, held_world}, Records.{record_place}}
use Rattle.guest_space.specs.Records.{with_record, without_record, IsInRow, OnlyAtAndRow}
use Rattle.guest_space.proofs.{CacheLaws.{put_beside, record_beside}, Insides.{processor_of, view_of, IsWhole, after_call}}
use Rattle.guest_space.proofs.RecordLists.{IsRecordPart, kind_some, count_of_part, part_of_keeps, calls_of_part, keeps_of_part, one_more}
use Rattle.guest_space.proofs.{RecordLists.{one_less, counted, same_record}, SoundLists.{IsSound-calls}}

length-records_part : (b : List ℕ) (budget : ℕ) → HasSize b budget → length (records_part b) ≡ PAGE_SIZE * RECORD_FRAMES
length-records_part b budget size = length-region b (PAGE_SIZE * RECORDS) (PAGE_SIZE * RECORD_FRAMES) (omega (arith, size))

row_has : (b : List ℕ) (budget place : ℕ) (xs : List ℕ) → HasSize b budget → place < GREATEST_DEPTH → length xs ≡ record_size →
    HasParts (put b (record_place place) xs) budget (record (parts_of b budget) { records = put (records_part b) (record_size * place) xs })
row_has b budget place xs size small long =
    put_part Records b budget _ (record_place place) (record_size * place) xs (record { size = size; are = refl }) (omega arith)
    (omega arith)

-- the row of a record written, where the frame then holds these records
pub row_holds : (b : List ℕ) (budget : ℕ) → Holds b budget → (place : ℕ) (xs : List ℕ) (rs : List Record) → place < GREATEST_DEPTH →
    length xs ≡ record_size → IsRecordPart (put (records_part b) (record_size * place) xs) rs → Holds (put b (record_place place) xs) budget
row_holds b budget holds place xs rs small long part =
    holds_by (put b (record_place place) xs) budget _ (row_has b budget place xs holds.size small long) holds.most
    (holds_with_records (parts_of b budget) budget (put (records_part b) (record_size * place) xs)
    (keeps_of_part (put (records_part b) (record_size * place) xs) rs part) (holds_parts b budget holds))

pub row_world : (b : List ℕ) (budget : ℕ) → Holds b budget → (place : ℕ) (xs : List ℕ) (rs : List Record) → place < GREATEST_DEPTH →
    length xs ≡ record_size →
    IsRecordPart (put (records_part b) (record_size * place) xs) rs → (mode : Mode) (regs : Regs) (vif : Bool) (width : Option Width) →
    world_of (put b (record_place place) xs) budget mode regs vif width ≡ record (world_of b budget mode regs vif width) { calls = rs }
unfolding world_of
row_world b budget holds place xs rs small long part mode regs vif width = grind (arith, calls_of_part, parts_of, row_has, world_by)

-- where there is a record there is a width
none_before : (width : Option Width) (w : World) → 0 < length w.calls → SoundWidth width w → width ≢ None
none_before None w some s = λ e. (let none = s.calls in omega arith)
none_before (Some width) w some s = λ e. cc

pub has_width : (w : World) → IsSound w → 0 < length w.calls → w.width ≢ None
has_width w s some = none_before w.width w some s.width

-- what a machine's view shows of the records
pub calls_of : (k : Processor) (b : List ℕ) (v : MachineView) → record { world = held_world k b; bytes = b } ≡ v →
    v.world.calls ≡ calls_in (records_part b)
calls_of k b v is = ap (λ (x : MachineView). x.world.calls) (sym is) ∙ calls_is b k.budget k.mode k.regs k.vif k.width

pub part_of : (k : Processor) (b : List ℕ) (v : MachineView) → record { world = held_world k b; bytes = b } ≡ v → Holds b k.budget →
    IsRecordPart (records_part b) v.world.calls
part_of k b v is holds = subst (IsRecordPart (records_part b)) (sym (calls_of k b v is)) (part_of_keeps (records_part b) holds.records)

zeros_are : (n : ℕ) → copies n 0 ≡ zeros n
unfolding zeros copies
zeros_are n = refl

-- the machine after a row was written: whole, with that view
pub record RowAfter (m : Inside) (c : List ℕ) (u : MachineView) : Type 0 where
  pub whole : IsWhole (record m { ram = c })
  pub view : view_of (record m { ram = c }) ≡ u

abbrev a_view : World → List ℕ → MachineView
a_view w b = record { world = w; bytes = b }

row_after : (m : Inside) (v : MachineView) → view_of m ≡ v → IsWhole m → v.world.width ≢ None →
    (place : ℕ) (xs : List ℕ) (rs : List Record) → place < GREATEST_DEPTH → length xs ≡ record_size →
    IsRecordPart (put (records_part m.ram) (record_size * place) xs) rs → (c : List ℕ) → c ≡ put m.ram (record_place place) xs →
    RowAfter m c (a_view (record v.world { calls = rs }) (put v.bytes (record_place place) xs))
row_after m v is whole some place xs rs small long part c e =
    let world = row_world m.ram m.pages whole.0 place xs rs small long part m.mode m.regs m.vif m.width
    ∙ ap (λ (x : MachineView). record x.world { calls = rs }) is in
    let after = after_call m v (put m.ram (record_place place) xs) (record v.world { calls = rs }) is whole
    (row_holds m.ram m.pages whole.0 place xs rs small long part)
    (subst IsSound (sym world) (IsSound-calls v.world rs (subst (λ (x : MachineView). IsSound x.world) is whole.1) some part.few)) world
    refl (λ lin. refl)
    (λ p. grind (arith, put_beside, record_beside)) in
    rw e (grind arith)

-- the row is found by counting the records
counted_place : (m : Inside) (v : MachineView) (is : view_of m ≡ v) (whole : IsWhole m) (n : ℕ) → n ≡ record_count (records_part m.ram) →
    n ≡ length v.world.calls
counted_place m v is whole n count = count ∙ count_of_part (records_part m.ram) v.world.calls (part_of (processor_of m) m.ram v is whole.0)

pub after_put : (m : Inside) (v : MachineView) → view_of m ≡ v → IsWhole m → v.world.width ≢ None → (xs : List ℕ) →
    length v.world.calls < GREATEST_DEPTH → length xs ≡ record_size → record_bytes (record_at xs 0) ≡ xs → (n : ℕ) →
    n ≡ record_count (records_part m.ram) → (c : List ℕ) → c ≡ put m.ram (record_place n) xs →
    RowAfter m c (with_record v (record_at xs 0) xs)
after_put m v is whole some xs room long exact n count c e =
    row_after m v is whole some (length v.world.calls) xs (v.world.calls ++ record_at xs 0 ∷ []) room long
    (one_more (records_part m.ram) v.world.calls xs (length-records_part m.ram m.pages whole.0.size)
    (part_of (processor_of m) m.ram v is whole.0) room long exact)
    c (e ∙ ap (λ (i : ℕ). put m.ram (record_place i) xs) (counted_place m v is whole n count))

pub after_drop : (m : Inside) (v : MachineView) → view_of m ≡ v → IsWhole m → 0 < length v.world.calls → (n : ℕ) →
    n ≡ record_count (records_part m.ram) →
    (c : List ℕ) → c ≡ put m.ram (record_place (n - 1)) (copies record_size 0) → RowAfter m c (without_record v)
after_drop m v is whole some n count c e =
    let part = part_of (processor_of m) m.ram v is whole.0 in
    let few = part.few in
    row_after m v is whole (has_width v.world (subst (λ (x : MachineView). IsSound x.world) is whole.1) some) (length v.world.calls - 1)
    (zeros record_size)
    (take (length v.world.calls - 1) v.world.calls) (omega arith) (length-zeros record_size)
    (one_less (records_part m.ram) v.world.calls (length-records_part m.ram m.pages whole.0.size) part some)
    c (e ∙ ap (put m.ram (record_place (n - 1))) (zeros_are record_size)
    ∙ ap (λ (i : ℕ). put m.ram (record_place (i - 1)) (zeros record_size)) (counted_place m v is whole n count))

-- a byte of a row in the memory is one of the frame
pub row_byte : (b : List ℕ) (place i : ℕ) → place < GREATEST_DEPTH → i < record_size →
    get_or b (record_place place + i) 0 ≡ get_or (records_part b) (record_size * place + i) 0
row_byte b place i small within = grind (arith, add_assoc, at_region)

pub row_kind : (b : List ℕ) (place : ℕ) → place < GREATEST_DEPTH →
    get_or b (record_place place) 0 ≡ get_or (records_part b) (record_size * place) 0
row_kind b place small =
    ap (λ (j : ℕ). get_or b j 0) (sym (add-zero (record_place place))) ∙ row_byte b place 0 small (omega arith)
    ∙ ap (λ (j : ℕ). get_or (records_part b) j 0) (add-zero (record_size * place))

pub counted_rows : (b : List ℕ) (n : ℕ) → n ≤ GREATEST_DEPTH → ((k : ℕ) → k < n → get_or b (record_place k) 0 ≢ 0) →
    (GREATEST_DEPTH ≡ n) ⊎ (get_or b (record_place n) 0 ≡ 0) → record_count (records_part b) ≡ n
counted_rows b n few some ends = counted (records_part b) n few
    (λ k small none. some k small (row_kind b k (omega arith) ∙ none))
    (grind (arith, cases_lt, row_kind))

pub count_of : (k : Processor) (b : List ℕ) (v : MachineView) → record { world = held_world k b; bytes = b } ≡ v → Holds b k.budget →
    length v.world.calls ≡ record_count (records_part b)
count_of k b v is holds = sym (count_of_part (records_part b) v.world.calls (part_of k b v is holds))

-- what the bytes of a row say
pub row_held : (k : Processor) (b : List ℕ) (v : MachineView) → record { world = held_world k b; bytes = b } ≡ v → Holds b k.budget →
    (place : ℕ) → place < GREATEST_DEPTH → place < length v.world.calls →
    slice_get v.world.calls place ≡ Some (record_at (region b (record_place place) record_size) 0)
row_held k b v is holds place small held =
    let part = part_of k b v is holds in
    let d = record_at b 0 in
    slice_get-get_or v.world.calls place d held
    ∙ ap (λ (r : Record). Some r) (sym (part.read place d held)
    ∙ same_record (records_part b) (region b (record_place place) record_size) (record_size * place) 0
    (λ i within. grind (arith, at_region, row_byte, zero-add)))

row_first : (b : List ℕ) (place : ℕ) → place < GREATEST_DEPTH →
    get_or (region b (record_place place) record_size) 0 0 ≡ get_or (records_part b) (record_size * place) 0
row_first b place small = grind (arith, add-zero, at_region, row_kind)

pub row_some : (k : Processor) (b : List ℕ) (v : MachineView) → record { world = held_world k b; bytes = b } ≡ v → Holds b k.budget →
    (place : ℕ) → place < GREATEST_DEPTH → place < length v.world.calls → get_or (region b (record_place place) record_size) 0 0 ≢ 0
row_some k b v is holds place small held e =
    let part = part_of k b v is holds in
    let d = record_at b 0 in
    kind_some (get_or v.world.calls place d) (sym (part.bytes place 0 d held (omega arith))
    ∙ ap (λ (j : ℕ). get_or (records_part b) j 0) (add-zero (record_size * place)) ∙ sym (row_first b place small) ∙ e)

pub row_none : (k : Processor) (b : List ℕ) (v : MachineView) → record { world = held_world k b; bytes = b } ≡ v → Holds b k.budget →
    (place : ℕ) → place < GREATEST_DEPTH → length v.world.calls ≤ place → get_or (region b (record_place place) record_size) 0 0 ≡ 0
row_none k b v is holds place small free = grind (arith, part_of, row_first)

-- a row that is written after other writes
beside_row : (row at : ℕ) → ¬ IsInRow row at → (record_place row + record_size ≤ at) ⊎ (at < record_place row)
beside_row row at out = grind (arith, cases_lt)

row_addresses : (b : List ℕ) (budget row : ℕ) (xs : List ℕ) → HasSize b budget → row < GREATEST_DEPTH → length xs ≡ record_size →
    (place : Place) → address_of (put b (record_place row) xs) place ≡ address_of b place
row_addresses b budget row xs size small long =
    addresses_of b (put b (record_place row) xs) budget _ (row_has b budget row xs size small long) refl refl

pub only_row : (places : List Place) (b c : List ℕ) (budget row : ℕ) (xs : List ℕ) → OnlyAt places b c → HasSize b budget →
    row < GREATEST_DEPTH → length xs ≡ record_size → OnlyAtAndRow places row b (put c (record_place row) xs)
only_row places b c budget row xs only size small long =
    let same : HasSize c budget = only.size ∙ size in
    record {
      size = length-put c (record_place row) xs ∙ only.size;
      addresses = λ place. row_addresses c budget row xs same small long place ∙ only.addresses place;
      others = λ at away out. put_away c (record_place row) xs at (next at (beside_row row at out)) ∙ only.others at away;
      host = λ at from to out. put_away c (record_place row) xs at (next at (beside_row row at out)) ∙ only.host at from to;
    }
  where
    next : (at : ℕ) → (record_place row + record_size ≤ at) ⊎ (at < record_place row) → (record_place row + length xs ≤ at)
        ⊎ (at < record_place row)
    next at o = grind arith
