-- Strings: MOVS, CMPS, STOS, LODS, SCAS. One step is one element, with a repeat prefix too: while there are more the instruction pointer
-- stays.
-- Source: 80386 Programmer's Reference Manual, ch. 17, "MOVS/MOVSB/..", "CMPS/..", "STOS/..", "LODS/..", "SCAS/..", "REP/.."; that a
-- repetition is a step is own.
use Rattle.std.specs.Prelude.{ℕ, ◌+◌, ◌-◌, ◌%◌, ◌^◌, Bool, true, false, not, ◌&&◌, nat_eq, if◌then◌else◌}
use Rattle.client_world.specs.{declared.registers.Flags.{Flags}, declared.registers.Regs.{Regs}, declared.segments.SegReg.TheVariants.{Es}}
use Rattle.client_world.specs.World.{World}
use Rattle.cpu_alu.specs.Sums.{sub_of}
use Rattle.cpu_values.specs.Word.{cut}
use Rattle.guest_space.specs.Pending.{byte_count}
use Rattle.insn_forms.specs.{declared.insn.Insn.{Insn}, declared.insn.Rep.{Rep}}
use Rattle.insn_plan.specs.{Act.{Act, ◌>>=◌, From, Input, done, unchanged, with_regs}, Operands.{and_write}, Counter.{counter}}
use Rattle.insn_plan.specs.Registers.{register, with_register, cut_address, with_address}
use Rattle.insn_forms.specs.declared.insn.Rep.TheVariants as reps

-- the instruction has a repeat prefix
abbrev pub is_repeated : Rep → Bool
is_repeated reps.Plain = false
is_repeated reps.Rep = true
is_repeated reps.Repne = true

-- there is nothing to do: a counter of 0 under a repeat prefix
abbrev pub is_over : World → Insn → Bool
is_over w i = is_repeated i.rep && nat_eq (counter w i) 0

-- how far a string register moves, modulo 2^32: by the bytes of the element, or back by them where DF is set
abbrev pub element_distance : World → Insn → ℕ
element_distance w i = if w.regs.flags.df then 2 ^ 32 - byte_count i.width else byte_count i.width

-- a register so much further, at the address size
abbrev pub moved_address : Bool → ℕ → ℕ → ℕ
moved_address addr32 at distance = with_address addr32 at (cut_address addr32 (at + distance))

-- a string register after the element, or before it where DF is set
abbrev pub next_element : World → Insn → ℕ → ℕ
next_element w i at = moved_address i.addr32 at (element_distance w i)

abbrev pub with_source_next : World → Insn → Regs → Regs
with_source_next w i r = record r { esi = next_element w i w.regs.esi }

abbrev pub with_destination_next : World → Insn → Regs → Regs
with_destination_next w i r = record r { edi = next_element w i w.regs.edi }

-- the elements: at (E)SI in DS or the segment of the prefix, and at (E)DI in ES
abbrev pub source_element : World → Insn → Input
source_element w i = From i.seg (cut_address i.addr32 w.regs.esi) (byte_count i.width)

abbrev pub destination_element : World → Insn → Input
destination_element w i = From Es (cut_address i.addr32 w.regs.edi) (byte_count i.width)

-- the registers after an element: under a repeat prefix the counter goes down, and where it isn't 0 then, and the repetition goes on, the
-- instruction pointer stays at the instruction
abbrev pub repeated : World → Insn → ℕ → Bool → Regs → Regs
repeated w i len goes_on r =
    if is_repeated i.rep then
    record r {
      ecx = with_address i.addr32 w.regs.ecx (counter w i - 1);
      eip = if goes_on && not (nat_eq (counter w i) 1) then (w.regs.eip + 2 ^ 32 - len) % 2 ^ 32 else w.regs.eip;
    }
    else r

-- CMPS and SCAS go on while ZF is set (F3), or clear (F2)
abbrev pub goes_on_while : Rep → Flags → Bool
goes_on_while reps.Plain f = false
goes_on_while reps.Rep f = f.zf
goes_on_while reps.Repne f = not f.zf

-- MOVS: the element at ES:(E)DI becomes the one at (E)SI
unfoldable pub movs : World → Insn → ℕ → Act
movs w i len = if is_over w i then done (unchanged w) else (do
  v ← source_element w i
  done (and_write Es (cut_address i.addr32 w.regs.edi) i.width v
      (with_regs (repeated w i len true (with_source_next w i (with_destination_next w i w.regs))) (unchanged w))))

-- CMPS: the flags of the element at (E)SI less the one at ES:(E)DI
unfoldable pub cmps : World → Insn → ℕ → Act
cmps w i len = if is_over w i then done (unchanged w) else (do
  a ← source_element w i
  b ← destination_element w i
  let result = sub_of i.width (cut i.width a) (cut i.width b) w.regs.flags
  done (with_regs
      (repeated w i len (goes_on_while i.rep result.1)
      (with_source_next w i (with_destination_next w i (record w.regs { flags = result.1 }))))
      (unchanged w)))

-- STOS: the element at ES:(E)DI becomes the accumulator
unfoldable pub stos : World → Insn → ℕ → Act
stos w i len = if is_over w i then done (unchanged w) else
    done (and_write Es (cut_address i.addr32 w.regs.edi) i.width (register w.regs i.width 0)
    (with_regs (repeated w i len true (with_destination_next w i w.regs)) (unchanged w)))

-- LODS: the accumulator becomes the element at (E)SI
unfoldable pub lods : World → Insn → ℕ → Act
lods w i len = if is_over w i then done (unchanged w) else (do
  v ← source_element w i
  done (with_regs (repeated w i len true (with_source_next w i (with_register w.regs i.width 0 v))) (unchanged w)))

-- SCAS: the flags of the accumulator less the element at ES:(E)DI
unfoldable pub scas : World → Insn → ℕ → Act
scas w i len = if is_over w i then done (unchanged w) else (do
  b ← destination_element w i
  let result = sub_of i.width (cut i.width (register w.regs i.width 0)) (cut i.width b) w.regs.flags
  done (with_regs
      (repeated w i len (goes_on_while i.rep result.1) (with_destination_next w i (record w.regs { flags = result.1 })))
      (unchanged w)))
