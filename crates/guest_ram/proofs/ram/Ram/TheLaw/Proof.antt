-- A `&` to a Ram is made where one to its bytes is.
use Prim.Native.Nat.{◌*◌}
use base.Fraction.{full_share}
use denote.Builtin.{u8}
use denote.Array.{Array, Array-row_laws}
use denote.Plain.{uint_row_laws}
use mir.Syntax.{w8, ty_array}
use denote.Memory.{lone}
use denote.RawPtr.{lies_at}
use denote.Shares.{Shares-less, Shares-Array}
use denote.Param.Shared.{copy_shared}
use denote.Struct.Field.{RawPtr-field, u32-field, u8-field}
use denote.Struct.Laws.{RawPtr-copy, u32-copy, u8-copy}
use denote.Struct.Lending.{lent_at, lent_at_shr_laws, Lends-lies, Lends-first, of_Lends}
use Rattle.std.specs.contracts.impls.GlobalAllocator.TheImpl.{ghosts}
use Rattle.guest_ram.proofs.ram.Ram.TheLaw.Statement.{statement}
use mir.Raw.{raw as bare}
use Rattle.guest_ram.specs.contracts.ram.Ram.TheInside as C
use Rattle.std.proofs.alloc.Global.TheLaws as G
use Rattle.std.specs.contracts.alloc.Global as GC

pub shares : statement
shares = of_Lends C.struct (C.the_codes (GC.the_row).coded) C.the_heap C.the_lent
    (λ d p. lent_at_shr_laws (Array u8 (4096 * d.frames)) (Array-row_laws u8 (uint_row_laws w8) (4096 * d.frames)) d.block d.bytes)
    (copy_shared RawPtr-field RawPtr-copy, (copy_shared u32-field u32-copy, (G.the_field_shared, tt)))
    (λ M 𝓤 𝓛 d p.
    let l = (C.the_row).lives in
    let n = 4096 * d.frames in
    Lends-first 𝓛 (lies_at (Array u8 n) full_share d.block d.bytes)
    (ghosts.dealloc_token d.alloc (bare (ty_array (lone (u8).mir) n)) d.block) (lent_at (Array u8 n) d.block d.bytes) l
    (Lends-lies 𝓛 (Array u8 n) l d.block d.bytes
    (Shares-Array 𝓛 u8 tt n l (Shares-less 𝓛 u8 (u8).lives l (λ a m. m) ((copy_shared u8-field u8-copy).shares M 𝓤 𝓛)) d.bytes)))
