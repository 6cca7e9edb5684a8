-- The touches of an instruction are the places that it reads and writes.
use Rattle.std.proofs.Common.{◌≡◌, ℕ, zero, suc, ◌+◌, ◌^◌, ◌<◌, ◌≤◌, Bool, true, false, List, [], ◌∷◌, ◌++◌, refl, ap, sym, ◌∙◌}
use Rattle.std.proofs.Common.{append_assoc, append-nil, subst, if◌then◌else◌, Option, None, Some, Result, Ok, Err, arith}
use Rattle.std.proofs.{lemmas.Bool.Decides.{nat_tests}, lemmas.List.Elements.{All-nil, All-cons, All-append}}
use Rattle.std.specs.Prelude.{All, nat_lt, nat_le, not, ◌&&◌, ◌*◌}
use Rattle.client_world.specs.{declared.faults.Event.{Event}, declared.faults.Fault.{Fault}, declared.place.Place.{Place}}
use Rattle.client_world.specs.{declared.place.Place.TheVariants.{Nothing}, declared.registers.Mode.{Mode}}
use Rattle.client_world.specs.{declared.registers.Mode.TheVariants.{Real, Protected}, declared.registers.Regs.{Regs}}
use Rattle.client_world.specs.{declared.segments.SegReg.{SegReg}, declared.memory_map.TheConstants.{PARAGRAPH_SIZE, SEGMENT_SIZE}}
use Rattle.client_world.specs.{Descriptor.{is_inside, is_writable}, Access.{access, suits_register, segment_base, base_in_row, places_at}}
use Rattle.client_world.specs.{Access.{places_from, place_in, linear, first_forbidden, unless_forbidden, may_touch}, Segments.{selector}}
use Rattle.client_world.specs.{Selector.{Row, is_null, row_of_selector}, World.{World, MemoryBlock}, declared.watchpoints.Touch.{Touch}}
use Rattle.guest_space.specs.{declared.pending.Write.{Write}, Pending.{byte_count}, SegmentRows.{first_byte, base_of_row}}
use Rattle.guest_space.specs.Transfer.{access_fault, fault_of, places_of_access, read_result, bytes_at}
use Rattle.insn_plan.specs.{declared.accesses.Access.{Access}, Accesses.{and_read, and_writes, accesses_after, touch_of_access, touch_of}}
use Rattle.insn_plan.specs.{Accesses.{touches_after, touches_where, touches}, Act.{Act, End, Read, Done, Raise, Interrupt, Input, Given}}
use Rattle.insn_plan.specs.{Act.{From, Pending, value_of, number_read}, Plan.{plan_result}}
use Rattle.cpu_step.specs.Touched.{and_then, input_read, read_places, write_places, places_after_reads, touched_by_instruction}
use Rattle.cpu_step.specs.Touched.{touch_places, DoesNotWrap}
use Rattle.guest_space.proofs.Runs.{linear_run}
use Rattle.client_world.proofs.PlaceLaws.{allowed-both}

-- ---- one access

-- its places, where it has no fault
abbrev pub access_places : World → Access → List Place
access_places w a = places_of_access (access w a.seg a.off a.count a.write)

abbrev pub IsGranted : World → Access → Type 0
IsGranted w a = access_fault w a.seg a.off a.count a.write ≡ None

then_places : (r : Result (List Place) Fault) (more : List Place) → fault_of r ≡ None → and_then r more ≡ places_of_access r ++ more
then_places (Ok places) more e = refl
then_places (Err f) more e = absurd cc

granted_then : (w : World) (a : Access) (more : List Place) → IsGranted w a →
    and_then (access w a.seg a.off a.count a.write) more ≡ access_places w a ++ more
unfolding access_fault
granted_then w a more e = then_places (access w a.seg a.off a.count a.write) more e

-- ---- where its bytes are

pub past : (c : Bool) (f : Fault) (r : Result ℕ Fault) (base : ℕ) → (if c then Err f else r) ≡ Ok base → r ≡ Ok base
past true f r base e = absurd cc
past false f r base e = e

either : (c : Bool) (f : Fault) (x base : ℕ) → (if c then Ok x else Err f) ≡ Ok base → base ≡ x
either true f x base e = cc
either false f x base e = absurd cc

fourth : (a b c d : Bool) (f g h k : Fault) (x base : ℕ) →
    (if a then Err f else if b then Err g else if c then Err h else if d then Err k else Ok x) ≡ Ok base → base ≡ x
fourth true b c d f g h k x base e = absurd cc
fourth false true c d f g h k x base e = absurd cc
fourth false false true d f g h k x base e = absurd cc
fourth false false false true f g h k x base e = absurd cc
fourth false false false false f g h k x base e = cc

-- the base of a segment that allows an access is where its first byte is
row_base : (seg : SegReg) (sel : ℕ) (row : Row) (off n : ℕ) (write : Bool) (base : ℕ) → base_in_row seg sel row off n write ≡ Ok base →
    base ≡ base_of_row row
row_base seg sel None off n write base e = absurd cc
row_base seg sel (Some row) off n write base e =
    fourth (not (suits_register seg row.0.kind)) (not row.0.present) (write && not (is_writable row.0.kind)) (not (is_inside row.0 off n))
    _ _ _ _ row.0.base base e

pub base_first : (mode : Mode) (r : Regs) (rows : List Row) (seg : SegReg) (off n : ℕ) (write : Bool) (base : ℕ) →
    segment_base mode r rows seg off n write ≡ Ok base → base ≡ first_byte mode rows (selector r seg)
unfolding segment_base
base_first Real r rows seg off n write base e = either (nat_le (off + n) SEGMENT_SIZE) _ (selector r seg * PARAGRAPH_SIZE) base e
base_first Protected r rows seg off n write base e =
    row_base seg (selector r seg) (row_of_selector rows (selector r seg)) off n write base
    (past (is_null (selector r seg)) _ (base_in_row seg (selector r seg) (row_of_selector rows (selector r seg)) off n write) base e)

-- the places of a run that is allowed
record IsRun (r : Result (List Place) Fault) (places : List Place) (write : Bool) : Type 0 where
  is : places_of_access r ≡ places
  allowed : first_forbidden places write ≡ None

unless_run : (o : Option Place) (places : List Place) (write : Bool) → o ≡ first_forbidden places write →
    fault_of (unless_forbidden o places write) ≡ None → IsRun (unless_forbidden o places write) places write
unless_run None places write is e = record { is = refl; allowed = sym is }
unless_run (Some p) places write is e = absurd cc

based_run : (blocks : List (Option MemoryBlock)) (r : Result ℕ Fault) (first off n : ℕ) (write : Bool) →
    ((base : ℕ) → r ≡ Ok base → base ≡ first) → fault_of (places_at blocks r off n write) ≡ None →
    IsRun (places_at blocks r off n write) (places_from blocks (first + off) n) write
based_run blocks (Ok base) first off n write known e =
    let run = unless_run (first_forbidden (places_from blocks (base + off) n) write) (places_from blocks (base + off) n) write refl e in
    subst (λ (at : ℕ). IsRun (places_at blocks (Ok base) off n write) (places_from blocks (at + off) n) write) (known base refl) run
based_run blocks (Err f) first off n write known e = absurd cc

abbrev start_of : World → Access → ℕ
start_of w a = first_byte w.mode w.descriptors (selector w.regs a.seg) + a.off

access_run : (w : World) (a : Access) → IsGranted w a →
    IsRun (access w a.seg a.off a.count a.write) (places_from w.blocks (start_of w a) a.count) a.write
unfolding access access_fault
access_run w a e =
    based_run w.blocks (segment_base w.mode w.regs w.descriptors a.seg a.off a.count a.write) _ a.off a.count a.write
    (base_first w.mode w.regs w.descriptors a.seg a.off a.count a.write) e

-- the last address shows nothing, so no run goes past it
nothing_last : (blocks : List (Option MemoryBlock)) → place_in blocks 0xFFFFFFFF ≡ Nothing
unfolding place_in
nothing_last blocks = refl

before_last : (blocks : List (Option MemoryBlock)) (at : ℕ) (write c : Bool) → nat_lt (at + 1) (2 ^ 32) ≡ c → at < 2 ^ 32 →
    may_touch (place_in blocks (linear at)) write ≡ true → at + 1 < 2 ^ 32
before_last blocks at write true e less may = grind (arith, nat_tests)
before_last blocks at write false e less may =
    let last : linear at ≡ 0xFFFFFFFF = grind (arith, nat_tests) in
    let shows = ap (λ (n : ℕ). place_in blocks n) last ∙ nothing_last blocks in
    absurd (cc (sym may ∙ ap (λ (p : Place). may_touch p write) shows))

run_inside : (blocks : List (Option MemoryBlock)) (at n : ℕ) (write : Bool) → at < 2 ^ 32 →
    first_forbidden (places_from blocks at n) write ≡ None → at + n ≤ 2 ^ 32
unfolding places_from
run_inside blocks at zero write less e = omega arith
run_inside blocks at (suc n) write less e =
    let p = place_in blocks (linear at) in
    let parts = allowed-both (may_touch p write) (first_forbidden (places_from blocks (at + 1) n) write) p e in
    let rest = run_inside blocks (at + 1) n write (before_last blocks at write (nat_lt (at + 1) (2 ^ 32)) refl less parts.0) parts.1 in
    omega (arith, rest)

-- ---- one touch

pub record IsTouch (w : World) (a : Access) (t : Touch) : Type 0 where
  pub granted : IsGranted w a
  pub places : places_from w.blocks t.lin t.len ≡ access_places w a
  pub flag : t.write ≡ a.write
  pub inside : DoesNotWrap t

granted_by : (o : Option Fault) (t u : Touch) → elim o as (λ _. Option Touch) [ None ↦ Some u | Some f ↦ None ] ≡ Some t →
    (o ≡ None) × (t ≡ u)
granted_by None t u e = (refl, cc)
granted_by (Some f) t u e = absurd cc

touch_is : (w : World) (a : Access) → IsGranted w a → IsTouch w a (touch_of w a)
touch_is w a e =
    let run = access_run w a e in
    let at = start_of w a in
    let again = linear_run w.blocks at a.count in
    let start : linear at < 2 ^ 32 = omega arith in
    record {
      granted = e;
      places = again ∙ sym run.is;
      flag = refl;
      inside = run_inside w.blocks (linear at) a.count a.write start
          (ap (λ (places : List Place). first_forbidden places a.write) again ∙ run.allowed);
    }

pub granted_touch : (w : World) (a : Access) (t : Touch) → touch_of_access w a ≡ Some t → IsTouch w a t
unfolding touch_of_access
granted_touch w a t e =
    let by = granted_by (access_fault w a.seg a.off a.count a.write) t (touch_of w a) e in
    subst (λ (u : Touch). IsTouch w a u) (sym by.1) (touch_is w a by.0)

-- ---- a list of accesses

-- their places, one after another
abbrev all_places : World → List Access → List Place
all_places w [] = []
all_places w (a ∷ rest) = access_places w a ++ all_places w rest

all_append : (w : World) (front back : List Access) → all_places w (front ++ back) ≡ all_places w front ++ all_places w back
all_append w [] back = refl
all_append w (a ∷ front) back =
    ap (λ (places : List Place). access_places w a ++ places) (all_append w front back)
    ∙ sym (append_assoc (access_places w a) (all_places w front) (all_places w back))

touches_append : (w : World) (front back : List Touch) → touch_places w (front ++ back) ≡ touch_places w front ++ touch_places w back
touches_append w [] back = refl
touches_append w (t ∷ front) back =
    ap (λ (places : List Place). places_from w.blocks t.lin t.len ++ places) (touches_append w front back)
    ∙ sym (append_assoc (places_from w.blocks t.lin t.len) (touch_places w front) (touch_places w back))

abbrev pub AllGranted : World → List Access → Type 0
AllGranted w [] = Unit {0}
AllGranted w (a ∷ rest) = IsGranted w a × AllGranted w rest

pub granted_front : (w : World) (front back : List Access) → AllGranted w (front ++ back) → AllGranted w front × AllGranted w back
granted_front w [] back all = (tt, all)
granted_front w (a ∷ front) back all = let rest = granted_front w front back all.1 in ((all.0, rest.0), rest.1)

-- ---- all touches

pub record AreTouches (w : World) (done : List Touch) (accesses : List Access) (list : List Touch) : Type 0 where
  pub granted : AllGranted w accesses
  pub places : touch_places w list ≡ touch_places w done ++ all_places w accesses
  pub inside : All DoesNotWrap list

pub record First (w : World) (done : List Touch) (a : Access) (rest : List Access) (list : List Touch) : Type 0 where
  pub touch : Touch
  pub is : touch_of_access w a ≡ Some touch
  pub others : touches_after w (done ++ touch ∷ []) rest ≡ Some list

pub first_by : (o : Option Touch) (w : World) (done : List Touch) (a : Access) (rest : List Access) (list : List Touch) →
    o ≡ touch_of_access w a →
    elim o as (λ _. Option (List Touch)) [ Some touch ↦ touches_after w (done ++ touch ∷ []) rest | None ↦ None ] ≡ Some list →
    First w done a rest list
first_by None w done a rest list is e = absurd cc
first_by (Some touch) w done a rest list is e = record { touch = touch; is = sym is; others = e }

are_touches : (w : World) (done : List Touch) (accesses : List Access) (list : List Touch) → All DoesNotWrap done →
    touches_after w done accesses ≡ Some list → AreTouches w done accesses list
unfolding touches_after
are_touches w done [] list inside e =
    let same : done ≡ list = cc in
    record {
      granted = tt;
      places = ap (touch_places w) (sym same) ∙ sym (append-nil (touch_places w done));
      inside = subst (λ (ts : List Touch). All DoesNotWrap ts) same inside;
    }
are_touches w done (a ∷ rest) list inside e =
    let first = first_by (touch_of_access w a) w done a rest list refl e in
    let touch = granted_touch w a first.touch first.is in
    let one = All-cons DoesNotWrap first.touch [] touch.inside (All-nil DoesNotWrap) in
    let others =
    are_touches w (done ++ first.touch ∷ []) rest list (All-append DoesNotWrap done (first.touch ∷ []) inside one) first.others in
    let run = places_from w.blocks first.touch.lin first.touch.len in
    record {
      granted = (touch.granted, others.granted);
      places = others.places
          ∙ ap (λ (places : List Place). places ++ all_places w rest)
          (touches_append w done (first.touch ∷ []) ∙ ap (λ (places : List Place). touch_places w done ++ places) (append-nil run))
          ∙ append_assoc (touch_places w done) run (all_places w rest)
          ∙ ap (λ (places : List Place). touch_places w done ++ (places ++ all_places w rest)) touch.places;
      inside = others.inside;
    }

-- ---- all accesses

abbrev pub access_of : Write → Access
access_of x = record { seg = x.seg; off = x.off; count = byte_count x.width; write = true }

pub record AreWritten (w : World) (done : List Access) (xs : List Write) : Type 0 where
  pub before : AllGranted w done
  pub places : all_places w (and_writes done xs) ≡ all_places w done ++ write_places w xs

one_more : (w : World) (done : List Access) (a : Access) (more : List Place) →
    all_places w (done ++ a ∷ []) ++ more ≡ all_places w done ++ (access_places w a ++ more)
one_more w done a more =
    ap (λ (places : List Place). places ++ more)
    (all_append w done (a ∷ []) ∙ ap (λ (places : List Place). all_places w done ++ places) (append-nil (access_places w a)))
    ∙ append_assoc (all_places w done) (access_places w a) more

pub are_written : (w : World) (done : List Access) (xs : List Write) → AllGranted w (and_writes done xs) → AreWritten w done xs
unfolding write_places
are_written w done [] all = record { before = all; places = sym (append-nil (all_places w done)) }
are_written w done (x ∷ xs) all =
    let a = access_of x in
    let rest = are_written w (done ++ a ∷ []) xs all in
    let parts = granted_front w done (a ∷ []) rest.before in
    record {
      before = parts.0;
      places = rest.places ∙ one_more w done a (write_places w xs)
          ∙ ap (λ (places : List Place). all_places w done ++ places) (sym (granted_then w a (write_places w xs) parts.1.0));
    }

pub record Follows (w : World) (done : List Access) (input : Input) (rest : ℕ → Act) (all : List Access) : Type 0 where
  pub value : ℕ
  pub is : value_of w input ≡ Ok value
  pub others : accesses_after w (and_read done input) (rest value) ≡ Some all

pub follow_by : (r : Result ℕ Event) (w : World) (done : List Access) (input : Input) (rest : ℕ → Act) (all : List Access) →
    r ≡ value_of w input →
    elim r as (λ _. Option (List Access)) [ Ok v ↦ accesses_after w (and_read done input) (rest v) | Err e ↦ None ] ≡ Some all →
    Follows w done input rest all
follow_by (Ok v) w done input rest all is e = record { value = v; is = sym is; others = e }
follow_by (Err event) w done input rest all is e = absurd cc

-- what is touched, where a read gives a number
after_value : (w : World) (input : Input) (rest : ℕ → Act) (v : ℕ) → value_of w input ≡ Ok v →
    touched_by_instruction w (Read input rest) ≡ input_read w input (read_places w (rest v))
    ++ places_after_reads w (plan_result w (rest v))
unfolding read_places
after_value w input rest v e =
    ap (λ (r : Result ℕ Event).
    input_read w input (elim r as (λ _. List Place) [ Ok x ↦ read_places w (rest x) | Err event ↦ [] ])
    ++ places_after_reads w (elim r as (λ _. Result Pending Event) [ Ok x ↦ plan_result w (rest x) | Err event ↦ Err event ])) e

number_granted : (w : World) (r : Result (List Place) Fault) (v : ℕ) → number_read (bytes_at w r) ≡ Ok v → fault_of r ≡ None
number_granted w (Ok places) v e = refl
number_granted w (Err f) v e = absurd cc

pub value_granted : (w : World) (seg : SegReg) (off n v : ℕ) → value_of w (From seg off n) ≡ Ok v →
    IsGranted w (record { seg = seg; off = off; count = n; write = false })
unfolding value_of read_result access_fault
value_granted w seg off n v e = number_granted w (access w seg off n false) v e

input_joins : (w : World) (done : List Access) (input : Input) (v : ℕ) (more behind : List Place) → value_of w input ≡ Ok v →
    all_places w (and_read done input) ++ (more ++ behind) ≡ all_places w done ++ (input_read w input more ++ behind)
input_joins w done (Given x) v more behind e = refl
input_joins w done (From seg off n) v more behind e =
    let a : Access = record { seg = seg; off = off; count = n; write = false } in
    one_more w done a (more ++ behind)
    ∙ ap (λ (places : List Place). all_places w done ++ places)
    (sym (append_assoc (access_places w a) more behind)
    ∙ ap (λ (places : List Place). places ++ behind) (sym (granted_then w a more (value_granted w seg off n v e))))

accesses_join : (w : World) (done : List Access) (act : Act) (all : List Access) → AllGranted w all → accesses_after w done act ≡ Some all →
    all_places w all ≡ all_places w done ++ touched_by_instruction w act
unfolding accesses_after read_places
accesses_join w done (End (Done p)) all granted e =
    let same : and_writes done p.writes ≡ all = cc in
    ap (all_places w) (sym same)
    ∙ (are_written w done p.writes (subst (λ (as_all : List Access). AllGranted w as_all) (sym same) granted)).places
accesses_join w done (End (Raise f)) all granted e = absurd cc
accesses_join w done (End (Interrupt number len)) all granted e = absurd cc
accesses_join w done (Read input rest) all granted e =
    let found = follow_by (value_of w input) w done input rest all refl e in
    accesses_join w (and_read done input) (rest found.value) all granted found.others
    ∙ input_joins w done input found.value (read_places w (rest found.value))
    (places_after_reads w (plan_result w (rest found.value))) found.is
    ∙ ap (λ (places : List Place). all_places w done ++ places) (sym (after_value w input rest found.value found.is))

-- ---- an instruction

pub record Known (w : World) (act : Act) (list : List Touch) : Type 0 where
  pub accesses : List Access
  pub follow : accesses_after w [] act ≡ Some accesses
  pub touch : touches_after w [] accesses ≡ Some list

known_by : (o : Option (List Access)) (w : World) (act : Act) (list : List Touch) → o ≡ accesses_after w [] act →
    touches_where w o ≡ Some list → Known w act list
known_by None w act list is e = absurd cc
known_by (Some all) w act list is e = record { accesses = all; follow = sym is; touch = e }

pub known : (w : World) (act : Act) (list : List Touch) → touches w act ≡ Some list → Known w act list
unfolding touches
known w act list e = known_by (accesses_after w [] act) w act list refl e

pub known_touches : (w : World) (act : Act) (list : List Touch) (k : Known w act list) → AreTouches w [] k.accesses list
known_touches w act list k = are_touches w [] k.accesses list (All-nil DoesNotWrap) k.touch

pub touches_join : (w : World) (act : Act) (list : List Touch) → touches w act ≡ Some list →
    touched_by_instruction w act ≡ touch_places w list
touches_join w act list e =
    let k = known w act list e in
    let are = known_touches w act list k in
    sym (are.places ∙ accesses_join w [] act k.accesses are.granted k.follow)

pub touches_inside : (w : World) (act : Act) (list : List Touch) → touches w act ≡ Some list → All DoesNotWrap list
touches_inside w act list e = (known_touches w act list (known w act list e)).inside
