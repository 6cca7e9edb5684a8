-- An access is decided from the hidden part of its segment register where there is one, and changes that keep the selectors, the mode and
-- the rows keep the parts.
use Rattle.std.proofs.Common.{◌≡◌, ℕ, ◌+◌, ◌^◌, Bool, true, false, ◌&&◌, not, cond, if◌then◌else◌, List, refl, ap, ◌∙◌, sym, subst, arith}
use Rattle.std.proofs.{Common.{Option, None, Some, Result, Ok, Err}, lemmas.Bool.Decides.{nat_tests}}
use Rattle.std.specs.Prelude.{nat_le, slice_index_or, slice_set}
use Rattle.client_world.specs.{declared.descriptors.Desc.{Desc}, declared.descriptors.Kind.{Kind}}
use Rattle.client_world.specs.{declared.descriptors.Kind.TheVariants.{Data, Code}, declared.faults.Fault.{Fault}}
use Rattle.client_world.specs.{declared.faults.TheConstants.{GENERAL_PROTECTION}, declared.registers.Mode.{Mode}}
use Rattle.client_world.specs.{declared.registers.Mode.TheVariants.{Real, Protected}, declared.registers.Regs.{Regs}}
use Rattle.client_world.specs.{declared.registers.Width.{Width}, declared.place.Place.{Place}, declared.segments.SegReg.{SegReg}}
use Rattle.client_world.specs.{declared.segments.SegReg.TheVariants.{Es, Cs, Ss, Ds, Fs, Gs}, Access.{fault_with, stack_or, base_in_row}}
use Rattle.client_world.specs.{Access.{protected_base, real_base, segment_base}, General.{with_general}, Descriptor.{access_byte}}
use Rattle.client_world.specs.{Descriptor.{byte_limit, expands_down, is_inside, is_writable, kind_bits}, Segments.{selector, with_selector}}
use Rattle.client_world.specs.Selector.{Row, is_null, row_of_selector}
use Rattle.desc_table.specs.Rows.{rows_from, rows_start}
use Rattle.host_memory.specs.Layout.{world_of}
use Rattle.host_memory.proofs.RowWrites.{rows_are}
use Rattle.guest_space.specs.{declared.hidden_parts.Hidden.{Hidden}, HiddenParts.{part_in_row, real_part, part_of_selector, found}}
use Rattle.guest_space.specs.{HiddenParts.{all_found, number, is_data_with, base_within}, Machines.{Processor, held_world}}
use Rattle.guest_space.specs.{SegmentRows.{base_of_row, first_byte, has_size_bit, is_big}, Transfer.{with_places}}
use Rattle.guest_space.proofs.MemoryAlone.{other_places}

-- the bits of the access byte are those of the descriptor

writable_bit : (present : Bool) (kind : Kind) → is_data_with (cond present 0x80 0 + 0x60 + 0x10 + kind_bits kind + 1) 2 ≡ is_writable kind
writable_bit true (Data true true) = refl
writable_bit true (Data true false) = refl
writable_bit true (Data false true) = refl
writable_bit true (Data false false) = refl
writable_bit true Code = refl
writable_bit false (Data true true) = refl
writable_bit false (Data true false) = refl
writable_bit false (Data false true) = refl
writable_bit false (Data false false) = refl
writable_bit false Code = refl

pub down_bit : (present : Bool) (kind : Kind) → is_data_with (cond present 0x80 0 + 0x60 + 0x10 + kind_bits kind + 1) 4 ≡ expands_down kind
down_bit true (Data true true) = refl
down_bit true (Data true false) = refl
down_bit true (Data false true) = refl
down_bit true (Data false false) = refl
down_bit true Code = refl
down_bit false (Data true true) = refl
down_bit false (Data true false) = refl
down_bit false (Data false true) = refl
down_bit false (Data false false) = refl
down_bit false Code = refl

abbrev ok_base : ℕ → Result ℕ Fault
ok_base base = Ok base

abbrev part_of : Desc → Hidden
part_of d = record { base = d.base; limit = byte_limit d; access = access_byte d; size = d.size }

-- the rest of the table, once the segment suits the register and is present
of_descriptor : (d : Desc) (seg : SegReg) (offset n : ℕ) (write : Bool) →
    (if write && not (is_writable d.kind) then Err (fault_with GENERAL_PROTECTION 0) else
    if not (is_inside d offset n) then Err (fault_with (stack_or seg GENERAL_PROTECTION) 0) else ok_base d.base)
    ≡ base_within (part_of d) seg offset n write
of_descriptor d seg offset n write = rw (writable_bit d.present d.kind, down_bit d.present d.kind) refl

abbrev IsNothing : Option Hidden → Type 0
IsNothing None = Unit {0}
IsNothing (Some part) = ⊥

abbrev or_else : Hidden → Option Hidden → Hidden
or_else x None = x
or_else x (Some part) = part

pub peel : (a b : Bool) (x part : Hidden) → (if a then None else if b then None else Some x) ≡ Some part →
    (a ≡ false) × ((b ≡ false) × (x ≡ part))
peel true b x part e = absurd (subst IsNothing e tt)
peel false true x part e = absurd (subst IsNothing e tt)
peel false false x part e = (refl, (refl, ap (or_else x) e))

in_row : (seg : SegReg) (sel : ℕ) (row : Row) (offset n : ℕ) (write : Bool) (part : Hidden) → part_in_row seg row ≡ Some part →
    base_in_row seg sel row offset n write ≡ base_within part seg offset n write
in_row seg sel None offset n write part e = absurd (subst IsNothing e tt)
in_row seg sel (Some r) offset n write part e = grind (arith, of_descriptor, peel)

-- in real mode
both : (x : ℕ) → (nat_le x 0x10000 && nat_le x (2 ^ 32)) ≡ nat_le x 0x10000
both x = grind (arith, nat_tests)

flip : (write y : Bool) (base : ℕ) (fault : Fault) → (if y then ok_base base else Err fault)
    ≡ (if write && false then Err (fault_with GENERAL_PROTECTION 0) else if not y then Err fault else ok_base base)
flip true true base fault = refl
flip true false base fault = refl
flip false true base fault = refl
flip false false base fault = refl

in_real : (seg : SegReg) (segment offset n : ℕ) (write : Bool) →
    real_base seg segment offset n ≡ base_within (real_part segment) seg offset n write
in_real seg segment offset n write = grind (arith, both, flip)

unless_null : (rows : List Row) (seg : SegReg) (sel offset n : ℕ) (write null : Bool) (part : Hidden) →
    (if null then None else part_in_row seg (row_of_selector rows sel)) ≡ Some part →
    (if null then Err (fault_with GENERAL_PROTECTION 0) else base_in_row seg sel (row_of_selector rows sel) offset n write)
    ≡ base_within part seg offset n write
unless_null rows seg sel offset n write true part e = absurd (subst IsNothing e tt)
unless_null rows seg sel offset n write false part e = in_row seg sel (row_of_selector rows sel) offset n write part e

-- the access of a register that has a part
pub base_by_part : (mode : Mode) (r : Regs) (rows : List Row) (seg : SegReg) (offset n : ℕ) (write : Bool) (part : Hidden) →
    found mode r rows seg ≡ Some part → segment_base mode r rows seg offset n write ≡ base_within part seg offset n write
unfolding part_of_selector segment_base
base_by_part Real r rows seg offset n write part e = grind (arith, in_real)
base_by_part Protected r rows seg offset n write part e = grind (arith, unless_null)

-- and of one that has none, which protected mode alone has
pub base_by_row : (mode : Mode) (r : Regs) (rows : List Row) (seg : SegReg) (offset n : ℕ) (write : Bool) →
    found mode r rows seg ≡ None → segment_base mode r rows seg offset n write ≡ protected_base rows seg (selector r seg) offset n write
unfolding part_of_selector segment_base
base_by_row Real r rows seg offset n write e = absurd (subst IsNothing (sym e) tt)
base_by_row Protected r rows seg offset n write e = refl

-- what a part says of its segment, the row says
said_in_row : (seg : SegReg) (row : Row) (part : Hidden) → part_in_row seg row ≡ Some part →
    (part.size ≡ has_size_bit row) × (part.base ≡ base_of_row row)
said_in_row seg None part e = absurd (subst IsNothing e tt)
said_in_row seg (Some r) part e = grind (arith, peel)

said_unless_null : (seg : SegReg) (row : Row) (null : Bool) (part : Hidden) → (if null then None else part_in_row seg row) ≡ Some part →
    (part.size ≡ has_size_bit row) × (part.base ≡ base_of_row row)
said_unless_null seg row true part e = absurd (subst IsNothing e tt)
said_unless_null seg row false part e = said_in_row seg row part e

pub said_by_part : (mode : Mode) (r : Regs) (rows : List Row) (seg : SegReg) (part : Hidden) → found mode r rows seg ≡ Some part →
    (part.size ≡ is_big mode rows (selector r seg)) × (part.base ≡ first_byte mode rows (selector r seg))
unfolding part_of_selector
said_by_part Real r rows seg part e = grind arith
said_by_part Protected r rows seg part e = said_unless_null seg (row_of_selector rows (selector r seg)) (is_null (selector r seg)) part e

-- where there is no part, the row alone says it
pub said_by_row : (mode : Mode) (r : Regs) (rows : List Row) (seg : SegReg) → found mode r rows seg ≡ None →
    let row = row_of_selector rows (selector r seg) in
    (has_size_bit row ≡ is_big mode rows (selector r seg)) × (base_of_row row ≡ first_byte mode rows (selector r seg))
unfolding part_of_selector
said_by_row Real r rows seg e = absurd (subst IsNothing (sym e) tt)
said_by_row Protected r rows seg e = (refl, refl)

-- the part at a register's number
pub at_number : (mode : Mode) (r : Regs) (rows : List Row) (seg : SegReg) (or : Option Hidden) →
    slice_index_or (all_found mode r rows) (number seg) or ≡ found mode r rows seg
at_number mode r rows Es or = refl
at_number mode r rows Cs or = refl
at_number mode r rows Ss or = refl
at_number mode r rows Ds or = refl
at_number mode r rows Fs or = refl
at_number mode r rows Gs or = refl

-- one register changed
pub found_changed : (mode : Mode) (r : Regs) (rows : List Row) (seg : SegReg) (sel : ℕ) →
    slice_set (all_found mode r rows) (number seg) (part_of_selector mode rows seg sel) ≡ all_found mode (with_selector r seg sel) rows
found_changed mode r rows Es sel = refl
found_changed mode r rows Cs sel = refl
found_changed mode r rows Ss sel = refl
found_changed mode r rows Ds sel = refl
found_changed mode r rows Fs sel = refl
found_changed mode r rows Gs sel = refl

same_loaded : (mode : Mode) (r : Regs) (rows : List Row) (seg : SegReg) →
    all_found mode r rows ≡ all_found mode (with_selector r seg (selector r seg)) rows
same_loaded mode r rows Es = refl
same_loaded mode r rows Cs = refl
same_loaded mode r rows Ss = refl
same_loaded mode r rows Ds = refl
same_loaded mode r rows Fs = refl
same_loaded mode r rows Gs = refl

-- or loaded with what it holds
pub found_loaded : (mode : Mode) (r : Regs) (rows : List Row) (seg : SegReg) (sel : ℕ) → selector r seg ≡ sel →
    all_found mode r rows ≡ all_found mode (with_selector r seg sel) rows
found_loaded mode r rows seg sel e = same_loaded mode r rows seg ∙ ap (λ (x : ℕ). all_found mode (with_selector r seg x) rows) e

-- the same selectors
pub found_same : (mode : Mode) (r s : Regs) (rows : List Row) → ((seg : SegReg) → selector r seg ≡ selector s seg) →
    all_found mode r rows ≡ all_found mode s rows
found_same mode r s rows e = rw (e Es, e Cs, e Ss, e Ds, e Fs, e Gs) refl

-- other bytes that hold the same rows
pub kept : (k : Processor) (b c : List ℕ) (parts : List (Option Hidden)) (rows : List Row) → (held_world k b).descriptors ≡ rows →
    (held_world k c).descriptors ≡ rows → parts ≡ all_found k.mode k.regs (rows_from b rows_start) →
    parts ≡ all_found k.mode k.regs (rows_from c rows_start)
kept k b c parts rows before after is = grind (arith, rows_are)

-- as after a write at places of the client
pub kept_places : (k : Processor) (b c : List ℕ) (places : List Place) (bytes : List ℕ) (parts : List (Option Hidden)) →
    record { world = held_world k c; bytes = c } ≡ with_places (record { world = held_world k b; bytes = b }) places bytes →
    parts ≡ all_found k.mode k.regs (rows_from b rows_start) → parts ≡ all_found k.mode k.regs (rows_from c rows_start)
kept_places k b c places bytes parts is = grind (arith, kept, other_places)

-- the part that the machine's world has for a register
pub part_there : (b : List ℕ) (budget : ℕ) (mode : Mode) (r : Regs) (vif : Bool) (width : Option Width) (parts : List (Option Hidden))
    (seg : SegReg) (or : Option Hidden) → parts ≡ all_found mode r (rows_from b rows_start) → slice_index_or parts (number seg) or
    ≡ found (world_of b budget mode r vif width).mode (world_of b budget mode r vif width).regs
    (world_of b budget mode r vif width).descriptors seg
unfolding world_of
part_there b budget mode r vif width parts seg or is =
    ap (λ (xs : List (Option Hidden)). slice_index_or xs (number seg) or) is ∙ at_number mode r (rows_from b rows_start) seg or
    ∙ ap (λ (rows : List Row). found mode r rows seg) (rows_are b budget mode r vif width)

-- a general register changed
of_either : (mode : Mode) (rows : List Row) (parts : List (Option Hidden)) (c : Bool) (r s : Regs) → parts ≡ all_found mode r rows →
    parts ≡ all_found mode s rows → parts ≡ all_found mode (if c then r else s) rows
of_either mode rows parts true r s a b = a
of_either mode rows parts false r s a b = b

pub found_general : (mode : Mode) (r : Regs) (rows : List Row) (n v : ℕ) → all_found mode r rows ≡ all_found mode (with_general r n v) rows
unfolding with_general
found_general mode r rows n v = grind (arith, of_either)
