-- An access through a segment register is an access from the linear address that the segment gives; a part of a run that a segment allows
-- is allowed too; and what a quick look decides.
use Rattle.std.proofs.Common.{◌≡◌, ℕ, ◌+◌, ◌≤◌, ◌^◌, inl, inr, Bool, true, false, ◌&&◌, not, List, refl, arith, None, Some, Result, Ok, Err}
use Rattle.std.proofs.{Common.{◌%◌, ap, ◌∙◌, sym}, lemmas.Bool.{cases_Bool, not-false}, lemmas.Bool.Decides.{nat_tests}}
use Rattle.std.specs.{Prelude.{nat_lt, nat_le, if◌then◌else◌, OnOk, IfErr, IfSome}, declared.option.Option.{Option}}
use Rattle.client_world.specs.{declared.faults.Fault.{Fault}, declared.faults.TheConstants.{SEGMENT_NOT_PRESENT, GENERAL_PROTECTION}}
use Rattle.client_world.specs.{declared.descriptors.Desc.{Desc}, declared.descriptors.Kind.{Kind}}
use Rattle.client_world.specs.{declared.descriptors.Kind.TheVariants.{Data, Code}, declared.registers.Mode.{Mode}}
use Rattle.client_world.specs.{declared.registers.Mode.TheVariants.{Real, Protected}, declared.registers.Regs.{Regs}}
use Rattle.client_world.specs.{declared.segments.SegReg.{SegReg}, declared.segments.SegReg.TheVariants.{Cs}, Access.{fault_with, stack_or}}
use Rattle.client_world.specs.Access.{suits_register, base_in_row, protected_base, real_base, segment_base, access, places_from, places_at}
use Rattle.client_world.specs.{Access.{unless_forbidden, linear}, Descriptor.{is_inside, expands_down, is_code, is_writable, byte_limit}}
use Rattle.client_world.specs.{Descriptor.{greatest_offset}, Segments.{selector}, Selector.{Row, is_null, row_of_selector, selector_code}}
use Rattle.client_world.specs.{declared.place.Place.{Place}, World.{World}}
use Rattle.host_memory.specs.View.{MachineView}
use Rattle.guest_space.specs.Transfer.{read_result, access_fault, after_store, linear_access, bytes_at, fault_of, with_places}
use Rattle.guest_space.specs.Transfer.{places_of_access}
use Rattle.guest_space.proofs.Runs.{linear_run}

-- limits
up_part : (offset n k m limit : ℕ) → k + m ≤ n → nat_le (offset + n) limit ≡ true → nat_le (offset + k + m) limit ≡ true
up_part offset n k m limit h e = grind (arith, nat_tests)

ups_part : (offset n k m limit other : ℕ) → k + m ≤ n → (nat_le (offset + n) limit && nat_le (offset + n) other) ≡ true →
    (nat_le (offset + k + m) limit && nat_le (offset + k + m) other) ≡ true
ups_part offset n k m limit other h e = grind (arith, nat_tests)

down_part : (offset n k m limit other : ℕ) → k + m ≤ n → (nat_lt limit offset && nat_le (offset + n) other) ≡ true →
    (nat_lt limit (offset + k) && nat_le (offset + k + m) other) ≡ true
down_part offset n k m limit other h e = grind (arith, nat_tests)

pub inside_part : (d : Desc) (offset n k m : ℕ) → k + m ≤ n → is_inside d offset n ≡ true → is_inside d (offset + k) m ≡ true
inside_part d offset n k m h e = elim (cases_Bool (expands_down d.kind)) [
  | inl down ↦ rw down (down_part offset n k m (byte_limit d) (greatest_offset d.size + 1) h (rw down at e))
  | inr up ↦ rw up (ups_part offset n k m (byte_limit d + 1) (2 ^ 32) h (rw up at e))
]

-- tests that are passed one after the other
pub passed : (c : Bool) (f : Fault) (r : Result ℕ Fault) (base : ℕ) → (if c then Err f else r) ≡ Ok base → (c ≡ false) × (r ≡ Ok base)
passed true f r base e = absurd cc
passed false f r base e = (refl, e)

pass : (c : Bool) (f : Fault) (r : Result ℕ Fault) (base : ℕ) → c ≡ false → r ≡ Ok base → (if c then Err f else r) ≡ Ok base
pass true f r base wrong e = absurd cc
pass false f r base _ e = e

abbrev base_ok : ℕ → Result ℕ Fault
base_ok a = Ok a

allowed : (c : Bool) (f : Fault) (a base : ℕ) → (if c then Ok a else Err f) ≡ Ok base → (c ≡ true) × (base_ok a ≡ Ok base)
allowed true f a base e = (refl, e)
allowed false f a base e = absurd cc

true_not : (c : Bool) → c ≡ true → not c ≡ false
true_not true e = refl
true_not false e = absurd cc

pub row_part : (seg : SegReg) (sel : ℕ) (row : Row) (offset n k m : ℕ) (write : Bool) (base : ℕ) → k + m ≤ n →
    base_in_row seg sel row offset n write ≡ Ok base → base_in_row seg sel row (offset + k) m write ≡ Ok base
row_part seg sel None offset n k m write base h e = absurd cc
row_part seg sel (Some row) offset n k m write base h e =
    let suits = passed (not (suits_register seg row.0.kind)) (fault_with (stack_or seg GENERAL_PROTECTION) (selector_code sel)) _ base e in
    let present = passed (not row.0.present) (fault_with (stack_or seg SEGMENT_NOT_PRESENT) (selector_code sel)) _ base suits.1 in
    let writable = passed (write && not (is_writable row.0.kind)) (fault_with GENERAL_PROTECTION 0) _ base present.1 in
    let inside = passed (not (is_inside row.0 offset n)) (fault_with (stack_or seg GENERAL_PROTECTION) 0) _ base writable.1 in
    let part = inside_part row.0 offset n k m h (not-false (is_inside row.0 offset n) inside.0) in
    pass (not (suits_register seg row.0.kind)) (fault_with (stack_or seg GENERAL_PROTECTION) (selector_code sel)) _ base suits.0
    (pass (not row.0.present) (fault_with (stack_or seg SEGMENT_NOT_PRESENT) (selector_code sel)) _ base present.0
    (pass (write && not (is_writable row.0.kind)) (fault_with GENERAL_PROTECTION 0) _ base writable.0
    (pass (not (is_inside row.0 (offset + k) m)) (fault_with (stack_or seg GENERAL_PROTECTION) 0) _ base
    (true_not (is_inside row.0 (offset + k) m) part) inside.1)))

pub protected_part : (rows : List Row) (seg : SegReg) (sel offset n k m : ℕ) (write : Bool) (base : ℕ) → k + m ≤ n →
    protected_base rows seg sel offset n write ≡ Ok base → protected_base rows seg sel (offset + k) m write ≡ Ok base
protected_part rows seg sel offset n k m write base h e =
    let some = passed (is_null sel) (fault_with GENERAL_PROTECTION 0) _ base e in
    pass (is_null sel) (fault_with GENERAL_PROTECTION 0) _ base some.0
    (row_part seg sel (row_of_selector rows sel) offset n k m write base h some.1)

pub real_part : (seg : SegReg) (segment offset n k m base : ℕ) → k + m ≤ n → real_base seg segment offset n ≡ Ok base →
    real_base seg segment (offset + k) m ≡ Ok base
real_part seg segment offset n k m base h e = grind (arith, allowed, up_part)

pub segment_part : (mode : Mode) (r : Regs) (rows : List Row) (seg : SegReg) (offset n k m : ℕ) (write : Bool) (base : ℕ) → k + m ≤ n →
    segment_base mode r rows seg offset n write ≡ Ok base → segment_base mode r rows seg (offset + k) m write ≡ Ok base
unfolding segment_base
segment_part Real r rows seg offset n k m write base h e = real_part seg (selector r seg) offset n k m base h e
segment_part Protected r rows seg offset n k m write base h e = protected_part rows seg (selector r seg) offset n k m write base h e

-- code doesn't expand down: one of its bytes is inside where all bytes before it are
pub code_goes_up : (kind : Kind) → is_code kind ≡ true → expands_down kind ≡ false
code_goes_up (Data writable down) e = absurd cc
code_goes_up Code e = refl

code_inside : (d : Desc) (offset at : ℕ) → is_code d.kind ≡ true → is_inside d offset (at + 1) ≡ is_inside d (offset + at) 1
code_inside d offset at code = grind (arith, code_goes_up)

code_row : (sel : ℕ) (row : Row) (offset at : ℕ) →
    base_in_row Cs sel row offset (at + 1) false ≡ base_in_row Cs sel row (offset + at) 1 false
code_row sel None offset at = refl
code_row sel (Some row) offset at = grind (arith, cases_Bool, code_inside)

pub code_base : (mode : Mode) (r : Regs) (rows : List Row) (offset at : ℕ) →
    segment_base mode r rows Cs offset (at + 1) false ≡ segment_base mode r rows Cs (offset + at) 1 false
unfolding segment_base
code_base Real r rows offset at = grind arith
code_base Protected r rows offset at = grind (arith, code_row)

-- and where a run may be written it may be read
row_read : (seg : SegReg) (sel : ℕ) (row : Row) (offset n base : ℕ) → base_in_row seg sel row offset n true ≡ Ok base →
    base_in_row seg sel row offset n false ≡ Ok base
row_read seg sel None offset n base e = absurd cc
row_read seg sel (Some row) offset n base e = grind (arith, pass, passed)

pub protected_read : (rows : List Row) (seg : SegReg) (sel offset n base : ℕ) → protected_base rows seg sel offset n true ≡ Ok base →
    protected_base rows seg sel offset n false ≡ Ok base
protected_read rows seg sel offset n base e = grind (arith, pass, passed, row_read)

-- ---- accesses

-- the places from a base and an offset are those from the linear address
pub places_linear : (w : World) (base offset n : ℕ) (write : Bool) →
    places_at w.blocks (Ok base) offset n write ≡ linear_access w ((base + offset) % 2 ^ 32) n write
places_linear w base offset n write = grind (arith, linear_run)

pub access_linear : (w : World) (seg : SegReg) (offset n base : ℕ) (write : Bool) →
    segment_base w.mode w.regs w.descriptors seg offset n write ≡ Ok base →
    access w seg offset n write ≡ linear_access w ((base + offset) % 2 ^ 32) n write
unfolding access
access_linear w seg offset n base write e = grind (arith, places_linear)

pub access_refused : (w : World) (seg : SegReg) (offset n : ℕ) (write : Bool) (f : Fault) →
    segment_base w.mode w.regs w.descriptors seg offset n write ≡ Err f → access w seg offset n write ≡ Err f
unfolding access
access_refused w seg offset n write f e = ap (λ (r : Result ℕ Fault). places_at w.blocks r offset n write) e

-- what is read, and what is refused
pub loaded_linear : (w : World) (seg : SegReg) (offset n base : ℕ) → segment_base w.mode w.regs w.descriptors seg offset n false ≡ Ok base →
    bytes_at w (linear_access w ((base + offset) % 2 ^ 32) n false) ≡ read_result w seg offset n
unfolding read_result
loaded_linear w seg offset n base e = ap (bytes_at w) (sym (access_linear w seg offset n base false e))

pub refusal_linear : (w : World) (seg : SegReg) (offset n base : ℕ) (write : Bool) →
    segment_base w.mode w.regs w.descriptors seg offset n write ≡ Ok base →
    access_fault w seg offset n write ≡ fault_of (linear_access w ((base + offset) % 2 ^ 32) n write)
unfolding access_fault
refusal_linear w seg offset n base write e = ap fault_of (access_linear w seg offset n base write e)

pub refusal_refused : (w : World) (seg : SegReg) (offset n : ℕ) (write : Bool) (f : Fault) →
    segment_base w.mode w.regs w.descriptors seg offset n write ≡ Err f → access_fault w seg offset n write ≡ Some f
unfolding access_fault
refusal_refused w seg offset n write f e = ap fault_of (access_refused w seg offset n write f e)

-- the places of an access without a fault
places_unless : (o : Option Place) (places : List Place) (write : Bool) → fault_of (unless_forbidden o places write) ≡ None →
    places_of_access (unless_forbidden o places write) ≡ places
places_unless None places write e = refl
places_unless (Some p) places write e = absurd cc

pub places_linear_access : (w : World) (lin n : ℕ) (write : Bool) → fault_of (linear_access w lin n write) ≡ None →
    places_of_access (linear_access w lin n write) ≡ places_from w.blocks lin n
places_linear_access w lin n write e = grind (arith, places_unless)

pub stored_linear : (v : MachineView) (seg : SegReg) (offset n base : ℕ) (bytes : List ℕ) →
    segment_base v.world.mode v.world.regs v.world.descriptors seg offset n true ≡ Ok base →
    fault_of (linear_access v.world ((base + offset) % 2 ^ 32) n true) ≡ None →
    with_places v (places_from v.world.blocks ((base + offset) % 2 ^ 32) n) bytes ≡ after_store v seg offset n bytes
unfolding after_store
stored_linear v seg offset n base bytes e none = grind (arith, access_linear, places_linear_access)

-- the answer of a store is that of a write
pub write_done : (v new : MachineView) (seg : SegReg) (offset n base : ℕ) (bytes : List ℕ) (r : Result (Unit {0}) Fault) →
    segment_base v.world.mode v.world.regs v.world.descriptors seg offset n true ≡ Ok base →
    OnOk r ((fault_of (linear_access v.world ((base + offset) % 2 ^ 32) n true) ≡ None)
    × (new ≡ with_places v (places_from v.world.blocks ((base + offset) % 2 ^ 32) n) bytes)) →
    OnOk r ((access_fault v.world seg offset n true ≡ None) × (new ≡ after_store v seg offset n bytes))
write_done v new seg offset n base bytes (Ok u) e done = grind (arith, refusal_linear, stored_linear)
write_done v new seg offset n base bytes (Err f) e done = tt

pub write_refused : (v new : MachineView) (seg : SegReg) (offset n base : ℕ) (r : Result (Unit {0}) Fault) →
    segment_base v.world.mode v.world.regs v.world.descriptors seg offset n true ≡ Ok base →
    IfErr r (λ fault. (fault_of (linear_access v.world ((base + offset) % 2 ^ 32) n true) ≡ Some fault) × (new ≡ v)) →
    IfErr r (λ fault. (access_fault v.world seg offset n true ≡ Some fault) × (new ≡ v))
write_refused v new seg offset n base (Ok u) e refused = tt
write_refused v new seg offset n base (Err f) e refused = (refusal_linear v.world seg offset n base true e ∙ refused.0, refused.1)

-- what is loaded from the base that the segment allows is what is read
pub loaded_is_read : (w : World) (seg : SegReg) (offset n base : ℕ) (o : Option (List ℕ)) →
    segment_base w.mode w.regs w.descriptors seg offset n false ≡ Ok base →
    IfSome o (λ bytes. bytes_at w (linear_access w (linear (base + offset)) n false) ≡ Ok bytes) →
    IfSome o (λ bytes. read_result w seg offset n ≡ Ok bytes)
loaded_is_read w seg offset n base None allowed loaded = tt
loaded_is_read w seg offset n base (Some bytes) allowed loaded = sym (loaded_linear w seg offset n base allowed) ∙ loaded
