-- EIP has no part in what an instruction reads, in the address of an operand, or in the fault of an access; an operand that isn't in memory
-- gives its number.
use Rattle.std.proofs.Common.{◌≡◌, ℕ, Bool, refl, false, List, [], ◌∷◌, Ok, Err, None, Some, ap, ◌∙◌}
use Rattle.client_world.specs.{declared.registers.Regs.{Regs}, declared.faults.Fault.{Fault}, declared.place.Place.{Place}}
use Rattle.client_world.specs.{declared.place.Place.TheVariants.{Dos, Block, Host, Nothing}, declared.registers.Mode.{Mode}}
use Rattle.client_world.specs.{declared.registers.Mode.TheVariants.{Real, Protected}, declared.segments.SegReg.{SegReg}}
use Rattle.client_world.specs.{declared.segments.SegReg.TheVariants.{Es, Cs, Ss, Ds, Fs, Gs}, Access.{access, segment_base, real_base}}
use Rattle.client_world.specs.{Access.{protected_base, places_at, byte_of, bytes_of}, General.{general}, Segments.{selector}, World.{World}}
use Rattle.insn_forms.specs.{declared.insn.MemForm.{MemForm}, declared.insn.Operand.{Operand}, declared.insn.Operand.TheVariants.{Empty}}
use Rattle.insn_forms.specs.declared.insn.Operand.TheVariants.{Reg, Seg, Mem, Imm, Far}
use Rattle.insn_plan.specs.{Act.{Given, Input, From, value_of, number_read}, Operands.{given, source}, Accesses.{with_next_eip}}
use Rattle.insn_plan.specs.Registers.{register, offset_of, address_part}
use Rattle.std.specs.{declared.option.Option.{Option}, declared.result.Result.{Result}}
use Rattle.guest_space.specs.{Pending.{byte_count}, Transfer.{read_result, bytes_at, access_fault, fault_of}}

pub source_given : (r : Regs) (addr32 : Bool) (width : ℕ) (operand : Operand) → ((f : MemForm) → operand ≡ Mem f → ⊥) →
    source r addr32 width operand ≡ Given (given r operand)
unfolding source
source_given r addr32 width Empty other = refl
source_given r addr32 width (Reg own number) other = refl
source_given r addr32 width (Seg seg) other = refl
source_given r addr32 width (Mem f) other = absurd (other f refl)
source_given r addr32 width (Imm v) other = refl
source_given r addr32 width (Far pointer) other = refl

pub selector_moved : (len : ℕ) (w : World) (seg : SegReg) → selector (with_next_eip len w).regs seg ≡ selector w.regs seg
selector_moved len w Es = refl
selector_moved len w Cs = refl
selector_moved len w Ss = refl
selector_moved len w Ds = refl
selector_moved len w Fs = refl
selector_moved len w Gs = refl

base_moved : (mode : Mode) (len : ℕ) (w : World) (seg : SegReg) (off n : ℕ) (write : Bool) →
    segment_base mode (with_next_eip len w).regs w.descriptors seg off n write ≡ segment_base mode w.regs w.descriptors seg off n write
unfolding segment_base
base_moved Real len w seg off n write = ap (λ (s : ℕ). real_base seg s off n) (selector_moved len w seg)
base_moved Protected len w seg off n write = ap (λ (s : ℕ). protected_base w.descriptors seg s off n write) (selector_moved len w seg)

access_moved : (len : ℕ) (w : World) (seg : SegReg) (off n : ℕ) (write : Bool) →
    access (with_next_eip len w) seg off n write ≡ access w seg off n write
unfolding access
access_moved len w seg off n write =
    ap (λ (base : Result ℕ Fault). places_at w.blocks base off n write) (base_moved w.mode len w seg off n write)

pub access_fault_moved : (len : ℕ) (w : World) (seg : SegReg) (off n : ℕ) (write : Bool) →
    access_fault (with_next_eip len w) seg off n write ≡ access_fault w seg off n write
unfolding access_fault
access_fault_moved len w seg off n write = ap fault_of (access_moved len w seg off n write)

byte_moved : (len : ℕ) (w : World) (p : Place) → byte_of (with_next_eip len w) p ≡ byte_of w p
byte_moved len w (Dos at) = refl
byte_moved len w (Block number at) = refl
byte_moved len w Host = refl
byte_moved len w Nothing = refl

bytes_moved : (len : ℕ) (w : World) (places : List Place) → bytes_of (with_next_eip len w) places ≡ bytes_of w places
bytes_moved len w [] = refl
bytes_moved len w (p ∷ places) = cc (byte_moved len w p, bytes_moved len w places)

bytes_at_moved : (len : ℕ) (w : World) (r : Result (List Place) Fault) → bytes_at (with_next_eip len w) r ≡ bytes_at w r
bytes_at_moved len w (Ok places) = ap (λ (bytes : List ℕ). Ok bytes) (bytes_moved len w places)
bytes_at_moved len w (Err f) = refl

result_moved : (len : ℕ) (w : World) (seg : SegReg) (off n : ℕ) → read_result (with_next_eip len w) seg off n ≡ read_result w seg off n
unfolding read_result
result_moved len w seg off n =
    ap (λ (r : Result (List Place) Fault). bytes_at (with_next_eip len w) r) (access_moved len w seg off n false)
    ∙ bytes_at_moved len w (access w seg off n false)

pub value_moved : (len : ℕ) (w : World) (input : Input) → value_of (with_next_eip len w) input ≡ value_of w input
unfolding value_of
value_moved len w (Given v) = refl
value_moved len w (From seg off n) = ap number_read (result_moved len w seg off n)

part_moved : (len : ℕ) (w : World) (n : Option ℕ) → address_part (with_next_eip len w).regs n ≡ address_part w.regs n
unfolding general
part_moved len w None = refl
part_moved len w (Some n) = refl

offset_moved : (len : ℕ) (w : World) (addr32 : Bool) (f : MemForm) →
    offset_of (with_next_eip len w).regs addr32 f ≡ offset_of w.regs addr32 f
unfolding offset_of
offset_moved len w addr32 f =
    let base = part_moved len w f.base in
    let index = part_moved len w f.index in
    cc (base, index)

pub source_moved : (len : ℕ) (w : World) (addr32 : Bool) (width : ℕ) (operand : Operand) →
    source (with_next_eip len w).regs addr32 width operand ≡ source w.regs addr32 width operand
unfolding source register general
source_moved len w addr32 width Empty = refl
source_moved len w addr32 width (Reg own number) = refl
source_moved len w addr32 width (Seg seg) = ap (λ (s : ℕ). Given s) (selector_moved len w seg)
source_moved len w addr32 width (Mem f) = ap (λ (off : ℕ). From f.seg off (byte_count width)) (offset_moved len w addr32 f)
source_moved len w addr32 width (Imm v) = refl
source_moved len w addr32 width (Far pointer) = refl
