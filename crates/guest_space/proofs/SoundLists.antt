-- What is read of a sound world are bytes, and a byte that is put into the megabyte leaves it sound; so do other vectors, other callbacks,
-- other pageable pages or other records: of these lists the lengths alone count, and before the entry there are no callbacks and no
-- records.
use Rattle.std.proofs.Common.{◌≡◌, ℕ, ◌<◌, Bool, true, false, List, [], ◌∷◌, slice_index, slice_set, refl, arith, Option, None, Some, ◌≢◌}
use Rattle.std.proofs.{Common.{◌≤◌, length}, lemmas.Bool.{ltb-true}}
use Rattle.std.specs.Prelude.{nat_lt, if◌then◌else◌}
use Rattle.client_world.specs.{declared.memory_map.TheConstants.{ROM_START, DOS_VIEW_PAGES}, declared.place.Place.{Place}}
use Rattle.client_world.specs.{declared.place.Place.TheVariants.{Dos, Block, Host, Nothing}, declared.segments.FarPtr.{FarPtr}}
use Rattle.client_world.specs.{Access.{byte_of, bytes_of, bytes_of_block, far_access}, Soundness.{IsSound, SoundMegabyte, SoundWidth}}
use Rattle.client_world.specs.{World.{World, MemoryBlock, block_at, Callback}, declared.calls.Record.{Record}}
use Rattle.client_world.specs.declared.limits.TheConstants.{CALLBACKS, EXCEPTION_VECTORS, GREATEST_DEPTH, INTERRUPT_VECTORS}
use Rattle.client_world.specs.declared.registers.Width.{Width}
use Rattle.client_world.proofs.SoundWrites.{SoundMegabyte-set}
use Rattle.guest_ram.specs.Bytes.{AreBytes}
use Rattle.guest_ram.proofs.ByteLists.{more_bytes, no_bytes}
use Rattle.guest_space.specs.{Dos.{with_dos_byte}, Far.{far_bytes}, Transfer.{places_of_access}}

-- ---- what is read

block_byte : (block : Option MemoryBlock) (at : ℕ) → ((b : MemoryBlock) → block ≡ Some b → slice_index b.bytes at < 0x100) →
    slice_index (bytes_of_block block) at < 0x100
block_byte None at small = omega arith
block_byte (Some b) at small = small b refl

byte_small : (w : World) (p : Place) → IsSound w → byte_of w p < 0x100
byte_small w (Dos at) s = s.megabyte.bytes at
byte_small w (Block number at) s = block_byte (block_at w.blocks number) at (λ b e. s.block_bytes number b e at)
byte_small w Host s = omega arith
byte_small w Nothing s = omega arith

pub read_bytes : (w : World) (places : List Place) → IsSound w → AreBytes (bytes_of w places)
read_bytes w [] s = no_bytes
read_bytes w (p ∷ places) s = more_bytes (byte_of w p) (bytes_of w places) (byte_small w p s) (read_bytes w places s)

pub far_are_bytes : (w : World) (p : FarPtr) (n : ℕ) → IsSound w → AreBytes (far_bytes w p n)
unfolding far_bytes
far_are_bytes w p n s = read_bytes w (places_of_access (far_access w p n false)) s

-- ---- what is put into the megabyte

below_rom : (low : Bool) (dos : List ℕ) (at v : ℕ) → nat_lt at ROM_START ≡ low → SoundMegabyte dos → v < 0x100 →
    SoundMegabyte (if low then slice_set dos at v else dos)
below_rom true dos at v e s small = SoundMegabyte-set dos at v s (ltb-true at ROM_START e) small
below_rom false dos at v e s small = s

pub sound_byte : (dos : List ℕ) (at v : ℕ) → SoundMegabyte dos → v < 0x100 → SoundMegabyte (with_dos_byte dos at v)
sound_byte dos at v s small = below_rom (nat_lt at ROM_START) dos at v refl s small

abbrev with_lists : World → List FarPtr → List FarPtr → List (Option Callback) → List Bool → List Record → World
with_lists w interrupts exceptions callbacks pageable calls = record w {
  interrupt_vectors = interrupts;
  exception_vectors = exceptions;
  callbacks = callbacks;
  pageable = pageable;
  calls = calls;
}

keeps_width : (width : Option Width) (w : World) (interrupts exceptions : List FarPtr) (callbacks : List (Option Callback))
    (pageable : List Bool) (calls : List Record) →
    (width ≡ None → callbacks ≡ w.callbacks) → (width ≡ None → calls ≡ w.calls) → SoundWidth width w →
    SoundWidth width (with_lists w interrupts exceptions callbacks pageable calls)
keeps_width None w interrupts exceptions callbacks pageable calls back same s = grind arith
keeps_width (Some width) w interrupts exceptions callbacks pageable calls back same s = s

sound_lists : (w : World) (interrupts exceptions : List FarPtr) (callbacks : List (Option Callback)) (pageable : List Bool)
    (calls : List Record) → IsSound w →
    length interrupts ≡ INTERRUPT_VECTORS → length exceptions ≡ EXCEPTION_VECTORS → length callbacks ≡ CALLBACKS →
    length pageable ≡ DOS_VIEW_PAGES →
    length calls ≤ GREATEST_DEPTH → (w.width ≡ None → callbacks ≡ w.callbacks) → (w.width ≡ None → calls ≡ w.calls) →
    IsSound (with_lists w interrupts exceptions callbacks pageable calls)
sound_lists w interrupts exceptions callbacks pageable calls s int exc back page few same_callbacks same_calls = grind (arith, keeps_width)

pub IsSound-vectors : (w : World) (interrupts exceptions : List FarPtr) (pageable : List Bool) → IsSound w →
    length interrupts ≡ INTERRUPT_VECTORS → length exceptions ≡ EXCEPTION_VECTORS → length pageable ≡ DOS_VIEW_PAGES →
    IsSound (record w { interrupt_vectors = interrupts; exception_vectors = exceptions; pageable = pageable })
IsSound-vectors w interrupts exceptions pageable s int exc page = grind (arith, sound_lists)

-- other callbacks, once there is a width
pub IsSound-callbacks : (w : World) (callbacks : List (Option Callback)) → IsSound w → w.width ≢ None → length callbacks ≡ CALLBACKS →
    IsSound (record w { callbacks = callbacks })
IsSound-callbacks w callbacks s some back = grind (arith, sound_lists)

-- few records, once there is a width
pub IsSound-calls : (w : World) (calls : List Record) → IsSound w → w.width ≢ None → length calls ≤ GREATEST_DEPTH →
    IsSound (record w { calls = calls })
IsSound-calls w calls s some few = grind (arith, sound_lists)
