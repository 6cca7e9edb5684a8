-- What the processor keeps itself is no part of the memory: another value of it, as registers changed by a function, changes that part of
-- the world alone, and a sound world stays sound.
use Rattle.std.proofs.Common.{◌≡◌, ◌≢◌, ℕ, ◌<◌, Bool, List, [], ◌∷◌, slice_set, refl, sym, subst, arith, None, Some}
use Rattle.client_world.specs.{declared.registers.Mode.{Mode}, declared.registers.Mode.TheVariants.{Real, Protected}}
use Rattle.client_world.specs.{declared.registers.Regs.{Regs}, declared.registers.Width.{Width}}
use Rattle.client_world.specs.{declared.memory_map.TheConstants.{ROM_START}, Soundness.{IsSound, HasSegments}, World.{World}}
use Rattle.client_world.proofs.SoundWrites.{IsSound-real, IsSound-mode, IsSound-dos, SoundMegabyte-set}
use Rattle.host_memory.specs.{Layout.{world_of}, Holds.{Holds}, View.{MachineView}}
use Rattle.host_memory.proofs.ClientWrites.{dos_world}
use Rattle.std.specs.declared.option.Option.{Option}
use Rattle.guest_space.specs.Registers.{with_registers}

-- the registers

pub regs_world : (b : List ℕ) (budget : ℕ) (mode : Mode) (regs r : Regs) (vif : Bool) (width : Option Width) →
    world_of b budget mode r vif width ≡ record (world_of b budget mode regs vif width) { regs = r }
unfolding world_of
regs_world b budget mode regs r vif width = refl

pub regs_sound : (b : List ℕ) (budget : ℕ) (mode : Mode) (regs r : Regs) (vif : Bool) (width : Option Width) →
    IsSound (world_of b budget mode regs vif width) → HasSegments r → IsSound (world_of b budget mode r vif width)
regs_sound b budget mode regs r vif width sound segments = grind (arith, regs_world)

-- the virtual interrupt flag

pub vif_world : (b : List ℕ) (budget : ℕ) (mode : Mode) (regs : Regs) (vif on : Bool) (width : Option Width) →
    world_of b budget mode regs on width ≡ record (world_of b budget mode regs vif width) { vif = on }
unfolding world_of
vif_world b budget mode regs vif on width = refl

pub vif_sound : (b : List ℕ) (budget : ℕ) (mode : Mode) (regs : Regs) (vif on : Bool) (width : Option Width) →
    IsSound (world_of b budget mode regs vif width) → IsSound (world_of b budget mode regs on width)
vif_sound b budget mode regs vif on width sound = grind (arith, vif_world)

-- the mode, which is real before there is a width

pub mode_world : (b : List ℕ) (budget : ℕ) (mode m : Mode) (regs : Regs) (vif : Bool) (width : Option Width) →
    world_of b budget m regs vif width ≡ record (world_of b budget mode regs vif width) { mode = m }
unfolding world_of
mode_world b budget mode m regs vif width = refl

in_protected : (w : World) (width : Option Width) → w.width ≡ width → width ≢ None → IsSound w → IsSound (record w { mode = Protected })
in_protected w None e some s = absurd (some refl)
in_protected w (Some width) e some s = IsSound-mode w Protected width s e

in_mode : (w : World) (mode : Mode) → (mode ≡ Protected → w.width ≢ None) → IsSound w → IsSound (record w { mode = mode })
in_mode w Real some s = IsSound-real w s
in_mode w Protected some s = in_protected w w.width refl (some refl) s

pub mode_sound : (b : List ℕ) (budget : ℕ) (mode m : Mode) (regs : Regs) (vif : Bool) (width : Option Width) →
    IsSound (world_of b budget mode regs vif width) → (m ≡ Protected → (world_of b budget mode regs vif width).width ≢ None) →
    IsSound (world_of b budget m regs vif width)
mode_sound b budget mode m regs vif width sound some = grind (arith, in_mode, mode_world)

-- a byte of the megabyte below its read-only part

pub byte_sound : (b : List ℕ) (budget : ℕ) → Holds b budget → (mode : Mode) (regs : Regs) (vif : Bool) (width : Option Width) (at v : ℕ) →
    IsSound (world_of b budget mode regs vif width) → at < ROM_START → v < 0x100 →
    IsSound (world_of (slice_set b at v) budget mode regs vif width)
byte_sound b budget holds mode regs vif width at v sound low small =
    subst IsSound (sym (dos_world b budget holds mode regs vif width at (v ∷ []) (omega arith)))
    (IsSound-dos (world_of b budget mode regs vif width) (slice_set (world_of b budget mode regs vif width).dos at v) sound
    (SoundMegabyte-set (world_of b budget mode regs vif width).dos at v sound.megabyte low small))

-- the width, which the world before the entry does not have
pub width_world : (b : List ℕ) (budget : ℕ) (mode : Mode) (regs : Regs) (vif : Bool) (width other : Option Width) →
    world_of b budget mode regs vif other ≡ record (world_of b budget mode regs vif width) { width = other }
unfolding world_of
width_world b budget mode regs vif width other = refl

pub changed_regs : (b : List ℕ) (budget : ℕ) (mode : Mode) (regs : Regs) (vif : Bool) (width : Option Width) (f : Regs → Regs)
    (v : MachineView) → record { world = world_of b budget mode regs vif width; bytes = b } ≡ v →
    record { world = world_of b budget mode (f regs) vif width; bytes = b } ≡ with_registers (f v.world.regs) v
unfolding world_of
changed_regs b budget mode regs vif width f v is = rw (← is) refl
