-- What the segment registers hold, and the null pointer.
-- Source: 80386 Programmer's Reference Manual, ch. 2, "Segment Registers".
use Rattle.std.specs.Prelude.{ℕ}
use Rattle.client_world.specs.{declared.registers.Regs.{Regs}, declared.segments.FarPtr.{FarPtr}, declared.segments.SegReg.{SegReg}}
use Rattle.client_world.specs.declared.segments.SegReg.TheVariants.{Es, Cs, Ss, Ds, Fs, Gs}

-- what a segment register holds: a selector, or in real mode a segment
abbrev pub selector : Regs → SegReg → ℕ
selector r Es = r.es
selector r Cs = r.cs
selector r Ss = r.ss
selector r Ds = r.ds
selector r Fs = r.fs
selector r Gs = r.gs

-- the registers with another one there
abbrev pub with_selector : Regs → SegReg → ℕ → Regs
with_selector r Es sel = record r { es = sel }
with_selector r Cs sel = record r { cs = sel }
with_selector r Ss sel = record r { ss = sel }
with_selector r Ds sel = record r { ds = sel }
with_selector r Fs sel = record r { fs = sel }
with_selector r Gs sel = record r { gs = sel }

-- the far pointer that points to nothing
abbrev pub null_pointer : FarPtr
null_pointer = record { sel = 0; off = 0 }
