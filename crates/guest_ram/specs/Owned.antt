-- The memory of a `Ram`: what it owns, and what a `&` to it lends.
use Rattle.std.specs.{Prelude.{ℕ, List}, declared.alloc.Global.{Global}, contracts.impls.GlobalAllocator.TheImpl.{ghosts}}
use base.Fraction.{full_share}
use base.Fml.{Fml, Lft, fsep}
use denote.Builtin.{u8}
use denote.Array.{Array}
use denote.Memory.{lone}
use denote.RawPtr.{Ptr, lies_at}
use denote.Struct.Lending.{lent_at}
use mir.Raw.{raw}
use mir.Syntax.{Ty, ty_array}

-- n bytes, as memory is asked for
abbrev pub bytes_type : ℕ → Ty
bytes_type n = raw (ty_array (lone (u8).mir) n)

-- the n bytes at p, and the right to give their block back
abbrev pub block_owns : Global → Ptr → ℕ → List ℕ → Fml
block_owns alloc p n xs = fsep (lies_at (Array u8 n) full_share p xs) (ghosts.dealloc_token alloc (bytes_type n) p)

-- the n bytes at p, to be read
abbrev pub block_shares : Ptr → ℕ → List ℕ → Lft → Fml
block_shares p n xs = lent_at (Array u8 n) p xs
