-- Writes one after another: a write changes no refusal of the others, so what is left of them leads to the same end; and they change the
-- bytes of their places alone.
use Rattle.std.proofs.Common.{◌≡◌, ◌≢◌, ℕ, ◌+◌, ◌<◌, ◌≤◌, true, false, List, [], ◌∷◌, length, drop, slice_index_or, refl, ap, ◌∙◌, sym}
use Rattle.std.proofs.{Common.{arith, None, Some, Result, Ok, Err, suc, Bool, subst}, lemmas.List.{drop_all}, Math.Seq.{drop-cons}}
use Rattle.std.specs.{Prelude.{nat_eq, OnOk, IfErr, MatchResult}, Result.{result_err}, declared.option.Option.{Option}}
use Rattle.client_world.specs.{declared.faults.Fault.{Fault}, World.{World}, declared.place.Place.{Place}}
use Rattle.client_world.specs.{declared.place.Place.TheVariants.{Nothing}, declared.registers.Mode.{Mode}, declared.registers.Regs.{Regs}}
use Rattle.client_world.specs.{declared.registers.Width.{Width}, Access.{access}, Soundness.{IsSound}}
use Rattle.host_memory.specs.{View.{MachineView, OnlyAt}, Holds.{Holds}, Layout.{world_of}}
use Rattle.guest_space.specs.{declared.pending.Write.{Write}, Pending.{byte_count, number_bytes, write_fault, after_write}}
use Rattle.guest_space.specs.{Pending.{first_write_fault, after_writes, places_of_writes}, Transfer.{access_fault, after_store}}
use Rattle.guest_space.specs.{Transfer.{places_of_access, with_places}, Machines.{Processor}}
use Rattle.guest_space.proofs.{MemoryAlone.{SameAccess, same_stored, refusal_same, near_kept}, Machines.{CanWrite, CanWriteAll, with_place}}
use Rattle.guest_space.proofs.Machines.{can_write_after, with_places_none, with_places_short, with_places_first}
use Rattle.guest_space.proofs.OnlyWritten.{HoldsBlocks, byte_holds, only_places, write_places}
use Rattle.host_memory.proofs.{WorldWalks.{only_start, only_then}, Parts.{budget_is}}

-- the fault of a write, by its probe
pub fault_of_probe : (o : Option Fault) (r : Result (Unit {0}) Fault) → MatchResult r (λ _. o ≡ None) (λ fault. o ≡ Some fault) →
    result_err r ≡ o
fault_of_probe o (Ok u) h = sym h
fault_of_probe o (Err f) h = sym h

pub write_refusal_is : (w : World) (x : Write) → access_fault w x.seg x.off (byte_count x.width) true ≡ write_fault w x
unfolding write_fault
write_refusal_is w x = refl

-- a write's answer, and the machine after it
abbrev pub Answered : MachineView → MachineView → Write → Result (Unit {0}) Fault → Type 0
Answered v new x r =
    MatchResult r (λ _. (write_fault v.world x ≡ None) × (new ≡ after_write v x)) (λ f. (write_fault v.world x ≡ Some f) × (new ≡ v))

-- that of n bytes, where these are the bytes of the number
pub answered : (v new : MachineView) (x : Write) (n : ℕ) (bytes : List ℕ) (r : Result (Unit {0}) Fault) → byte_count x.width ≡ n →
    number_bytes x.width x.value ≡ bytes →
    OnOk r ((access_fault v.world x.seg x.off n true ≡ None) × (new ≡ after_store v x.seg x.off n bytes)) →
    IfErr r (λ fault. (access_fault v.world x.seg x.off n true ≡ Some fault) × (new ≡ v)) → Answered v new x r
unfolding write_fault after_write
answered v new x n bytes (Ok u) count is done refused = grind arith
answered v new x n bytes (Err f) count is done refused = grind arith

other_width : (width n : ℕ) → width ≢ n → nat_eq width n ≡ false
other_width width n ne = grind (arith, Rattle.std.proofs.lemmas.Bool.Decides.nat_tests)

pub other_count : (width : ℕ) → width ≢ 8 → width ≢ 16 → byte_count width ≡ 4
other_count width not8 not16 = rw (other_width width 8 not8, other_width width 16 not16) refl

pub other_bytes : (width value : ℕ) → width ≢ 8 → width ≢ 16 → number_bytes width value ≡ number_bytes 32 value
other_bytes width value not8 not16 = rw (other_width width 8 not8, other_width width 16 not16) refl

-- the refusals of other writes are the same after it
pub same_written : (v : MachineView) (x : Write) → SameAccess v.world (after_write v x).world
unfolding after_write
same_written v x = same_stored v x.seg x.off (byte_count x.width) (number_bytes x.width x.value)

write_refusal_same : (w u : World) → SameAccess w u → (x : Write) → write_fault u x ≡ write_fault w x
unfolding write_fault
write_refusal_same w u same x = refusal_same w u same x.seg x.off (byte_count x.width) true

-- the first refusal, by the first write
pub first_none : (w : World) → first_write_fault w [] ≡ None
unfolding first_write_fault
first_none w = refl

pub first_some : (w : World) (x : Write) (xs : List Write) (f : Fault) → write_fault w x ≡ Some f → first_write_fault w (x ∷ xs) ≡ Some f
unfolding first_write_fault
first_some w x xs f e = rw (e, first_write_fault) refl

pub first_later : (w : World) (x : Write) (xs : List Write) → write_fault w x ≡ None → first_write_fault w (x ∷ xs) ≡ first_write_fault w xs
unfolding first_write_fault
first_later w x xs e = rw (e, first_write_fault) refl

-- the first refusal of a single write
single_by : (w : World) (x : Write) (o : Option Fault) → write_fault w x ≡ o → first_write_fault w (x ∷ []) ≡ write_fault w x
single_by w x None e = first_later w x [] e ∙ first_none w ∙ sym e
single_by w x (Some f) e = first_some w x [] f e ∙ sym e

pub single_refusal : (w : World) (x : Write) → first_write_fault w (x ∷ []) ≡ write_fault w x
single_refusal w x = single_by w x (write_fault w x) refl

-- a list of one write
pub one_made : (v new : MachineView) (xs : List Write) (d : Write) (r : Result (Unit {0}) Fault) → length xs ≡ 1 →
    Answered v new (slice_index_or xs 0 d) r → OnOk r ((first_write_fault v.world xs ≡ None) × (new ≡ after_writes v xs))
unfolding after_writes
one_made v new [] d r one answer = absurd (omega arith)
one_made v new (x ∷ []) d (Ok u) one answer = (single_refusal v.world x ∙ answer.0, answer.1)
one_made v new (x ∷ []) d (Err f) one answer = tt
one_made v new (x ∷ y ∷ xs) d r one answer = absurd (omega arith)

pub one_refused : (v new : MachineView) (xs : List Write) (d : Write) (r : Result (Unit {0}) Fault) → length xs ≡ 1 →
    Answered v new (slice_index_or xs 0 d) r → IfErr r (λ fault. (first_write_fault v.world xs ≡ Some fault) × (new ≡ v))
one_refused v new [] d r one answer = absurd (omega arith)
one_refused v new (x ∷ []) d (Ok u) one answer = tt
one_refused v new (x ∷ []) d (Err f) one answer = (single_refusal v.world x ∙ answer.0, answer.1)
one_refused v new (x ∷ y ∷ xs) d r one answer = absurd (omega arith)

-- none is refused: neither is the first, nor one of the others
pub record NoneRefused (w : World) (x : Write) (xs : List Write) : Type 0 where
  pub first : write_fault w x ≡ None
  pub others : first_write_fault w xs ≡ None

none_by : (w : World) (x : Write) (xs : List Write) (o : Option Fault) → write_fault w x ≡ o → first_write_fault w (x ∷ xs) ≡ None →
    NoneRefused w x xs
none_by w x xs None e none = record { first = e; others = sym (first_later w x xs e) ∙ none }
none_by w x xs (Some f) e none = absurd (let some = first_some w x xs f e in cc)

pub none_refused : (w : World) (x : Write) (xs : List Write) → first_write_fault w (x ∷ xs) ≡ None → NoneRefused w x xs
none_refused w x xs none = none_by w x xs (write_fault w x) refl none

-- and by any other way to tell the refusals
same_by : (w u : World) (x : Write) (xs : List Write) (o : Option Fault) → write_fault w x ≡ o → write_fault u x ≡ o →
    first_write_fault u xs ≡ first_write_fault w xs → first_write_fault u (x ∷ xs) ≡ first_write_fault w (x ∷ xs)
same_by w u x xs None e f later = first_later u x xs f ∙ later ∙ sym (first_later w x xs e)
same_by w u x xs (Some fault) e f later = first_some u x xs fault f ∙ sym (first_some w x xs fault e)

pub first_same : (w u : World) → SameAccess w u → (xs : List Write) → first_write_fault u xs ≡ first_write_fault w xs
first_same w u same [] = first_none u ∙ sym (first_none w)
first_same w u same (x ∷ xs) = same_by w u x xs (write_fault w x) refl (write_refusal_same w u same x) (first_same w u same xs)

-- what is left from a place in the list on
pub left_from : (xs : List Write) (i : ℕ) (d : Write) → i < length xs → drop i xs ≡ slice_index_or xs i d ∷ drop (i + 1) xs
left_from xs i d within = grind (arith, drop-cons)

pub all_none : (v : MachineView) → after_writes v [] ≡ v
unfolding after_writes
all_none v = refl

pub all_first : (v : MachineView) (x : Write) (xs : List Write) → after_writes v (x ∷ xs) ≡ after_writes (after_write v x) xs
unfolding after_writes
all_first v x xs = refl

-- a write that is made: the others are refused as little as before
pub left_none : (v new : MachineView) (xs : List Write) (i : ℕ) (d : Write) → i < length xs → new ≡ after_write v (slice_index_or xs i d) →
    first_write_fault v.world (drop i xs) ≡ None → first_write_fault new.world (drop (i + 1) xs) ≡ None
left_none v new xs i d within e none = grind (arith, first_same, left_from, none_refused, same_written)

pub left_written : (v new w : MachineView) (xs : List Write) (i : ℕ) (d : Write) → i < length xs →
    new ≡ after_write v (slice_index_or xs i d) → after_writes v (drop i xs) ≡ w → after_writes new (drop (i + 1) xs) ≡ w
left_written v new w xs i d within e left = grind (arith, all_first, left_from)

pub none_left : (v w : MachineView) (xs : List Write) (i : ℕ) → length xs ≤ i → after_writes v (drop i xs) ≡ w → v ≡ w
none_left v w xs i done left = sym (ap (after_writes v) (drop_all i xs done) ∙ all_none v) ∙ left

-- ---- what they change

places_hold : (k : Processor) (v : MachineView) (places : List Place) (bytes : List ℕ) → HoldsBlocks k v → CanWriteAll v.world places →
    HoldsBlocks k (with_places v places bytes)
places_hold k v [] bytes h can = subst (HoldsBlocks k) (sym (with_places_none v bytes)) h
places_hold k v (p ∷ places) [] h can = subst (HoldsBlocks k) (sym (with_places_short v (p ∷ places))) h
places_hold k v (p ∷ places) (x ∷ bytes) h can =
    let first : CanWrite v.world p = can 0 (omega arith) in
    subst (HoldsBlocks k) (sym (with_places_first v p places x bytes))
    (places_hold k (with_place v p x) places bytes (byte_holds k v p x h first)
    (λ i within. can_write_after v.world p (slice_index_or places i Nothing) x (can (suc i) (omega arith))))

-- one write
record IsOne (k : Processor) (v u : MachineView) (places : List Place) : Type 0 where
  pub only : OnlyAt places v.bytes u.bytes
  pub holds : HoldsBlocks k u

one_where : (k : Processor) (v : MachineView) (r : Result (List Place) Fault) (bytes : List ℕ) → HoldsBlocks k v →
    ((places : List Place) → r ≡ Ok places → CanWriteAll v.world places) →
    IsOne k v (with_places v (places_of_access r) bytes) (places_of_access r)
one_where k v (Ok places) bytes h can =
    record { only = only_places k v places bytes h (can places refl); holds = places_hold k v places bytes h (can places refl) }
one_where k v (Err f) bytes h can = record {
  only = only_places k v [] bytes h (λ i within. absurd (omega arith));
  holds = places_hold k v [] bytes h (λ i within. absurd (omega arith));
}

one_written : (k : Processor) (v : MachineView) (x : Write) → HoldsBlocks k v →
    IsOne k v (after_write v x) (places_of_access (access v.world x.seg x.off (byte_count x.width) true))
unfolding after_write after_store
one_written k v x h =
    one_where k v (access v.world x.seg x.off (byte_count x.width) true) (number_bytes x.width x.value) h
    (write_places v.world x.seg x.off (byte_count x.width))

-- the others' places are the same after it
pub access_kept : (v : MachineView) (x y : Write) →
    access (after_write v x).world y.seg y.off (byte_count y.width) true ≡ access v.world y.seg y.off (byte_count y.width) true
unfolding after_write after_store
access_kept v x y = grind (arith, near_kept)

pub places_kept : (v : MachineView) (x : Write) (ys : List Write) →
    places_of_writes (after_write v x).world ys ≡ places_of_writes v.world ys
places_kept v x [] = refl
places_kept v x (y ∷ ys) = rw (access_kept v x y, places_kept v x ys) refl

only_all : (k : Processor) (v : MachineView) (xs : List Write) → HoldsBlocks k v →
    OnlyAt (places_of_writes v.world xs) v.bytes (after_writes v xs).bytes
only_all k v [] h = subst (λ (u : MachineView). OnlyAt [] v.bytes u.bytes) (sym (all_none v)) (only_start [] v.bytes)
only_all k v (x ∷ xs) h =
    let one = one_written k v x h in
    subst (λ (u : MachineView). OnlyAt (places_of_writes v.world (x ∷ xs)) v.bytes u.bytes) (sym (all_first v x xs))
    (only_then (places_of_access (access v.world x.seg x.off (byte_count x.width) true)) (places_of_writes v.world xs) v.bytes
    (after_write v x).bytes
    (after_writes (after_write v x) xs).bytes one.only
    (subst (λ (places : List Place). OnlyAt places (after_write v x).bytes (after_writes (after_write v x) xs).bytes) (places_kept v x xs)
    (only_all k (after_write v x) xs one.holds)))

pub only_writes : (b : List ℕ) (budget : ℕ) (mode : Mode) (regs : Regs) (vif : Bool) (width : Option Width) → Holds b budget →
    IsSound (world_of b budget mode regs vif width) → (writes : List Write) →
    OnlyAt (places_of_writes (world_of b budget mode regs vif width) writes) b
    (after_writes (record { world = world_of b budget mode regs vif width; bytes = b }) writes).bytes
only_writes b budget mode regs vif width holds sound writes =
    let k : Processor = record { budget = budget; mode = mode; regs = regs; vif = vif; width = width } in
    let w = world_of b budget mode regs vif width in
    let v : MachineView = record { world = w; bytes = b } in
    let blocks = sound.blocks in
    only_all k v writes (record { holds = holds; is = refl; blocks = rw (budget_is b budget mode regs vif width) at blocks })
