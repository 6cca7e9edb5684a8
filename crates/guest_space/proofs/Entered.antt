-- The machine after the entry to protected mode: its memory holds a world with a width and the two descriptors of the host, which is sound;
-- before the entry there are none.
use Rattle.std.proofs.Common.{◌≡◌, ◌≢◌, ℕ, List, length, slice_set, ◌∙◌, arith, Option, None, Some, get_or-set_same, get_or-set_other}
use Rattle.std.proofs.Common.{length-set, Bool, ap, sym, subst}
use Rattle.client_world.specs.{declared.registers.Width.{Width}, declared.host_frames.TheConstants.{DESCRIPTORS}}
use Rattle.client_world.specs.{declared.selectors.TheConstants.{HOST_CODE, HOST_STACKS}, Selector.{Row, FitsRow, row_at_index}}
use Rattle.client_world.specs.{Soundness.{IsSound, SoundWidth, HostRows, BeforeEntry, host_code, host_stacks}, World.{World}}
use Rattle.client_world.specs.{declared.registers.Mode.{Mode}, declared.registers.Regs.{Regs}, declared.place.Place.{Place}}
use Rattle.client_world.proofs.SoundRows.{host_stands, none_not_dos, sound_descriptors, sound_runs, sound_with_rows}
use Rattle.guest_ram.specs.Bytes.{put}
use Rattle.desc_table.specs.Rows.{row_address, row_bytes}
use Rattle.guest_ram.proofs.PutLaws.{length-put}
use Rattle.host_memory.specs.{Layout.{address_of, world_of}, Holds.{Holds}}
use Rattle.host_memory.proofs.RowWrites.{row_world, row_holds}
use Rattle.guest_space.proofs.{CacheLaws.{put_beside, row_beside}, OwnParts.{width_world}}

abbrev pub with_host_rows : List Row → Width → List Row
with_host_rows rows width = slice_set (slice_set rows HOST_CODE host_code) HOST_STACKS (host_stacks width)

-- both fit: their bases and limits are small
pub fits_code : FitsRow host_code
fits_code = record { base = omega arith; limit = omega arith }

pub fits_stacks : (width : Width) → FitsRow (host_stacks width)
fits_stacks width = record { base = omega arith; limit = omega arith }

-- besides these two there are none
pub no_others : (rows : List Row) (width : Width) → ((index : ℕ) → row_at_index rows index ≡ None) → (index : ℕ) → index ≢ HOST_CODE →
    index ≢ HOST_STACKS → row_at_index (with_host_rows rows width) index ≡ None
no_others rows width none index code stacks = grind (arith, get_or-set_other)

host_rows : (rows : List Row) (width : Width) → length rows ≡ DESCRIPTORS → ((index : ℕ) → row_at_index rows index ≡ None) →
    HostRows (with_host_rows rows width) width
host_rows rows width size none = grind (arith, get_or-set_other, get_or-set_same, length-set, no_others)

pub before : (width : Option Width) (w : World) → width ≡ None → SoundWidth width w → BeforeEntry w
before None w e s = s
before (Some width) w e s = cc

-- the world of a client that has entered
pub IsSound-width : (w : World) (width : Width) → IsSound w → w.width ≡ None →
    IsSound (record w { width = Some width; descriptors = with_host_rows w.descriptors width })
IsSound-width w width s e =
    let entry = before w.width w e s.width in
    let rows = slice_set w.descriptors HOST_CODE host_code in
    let code = host_stands w.descriptors HOST_CODE _ (omega arith) fits_code (none_not_dos _ (entry.descriptors HOST_CODE)) in
    let free = get_or-set_other w.descriptors HOST_CODE HOST_STACKS host_code None (omega arith) ∙ entry.descriptors HOST_STACKS in
    let stacks = host_stands rows HOST_STACKS _ (omega arith) (fits_stacks width) (none_not_dos _ free) in
    let both = sound_descriptors w.descriptors HOST_CODE host_code s.descriptors code in
    sound_with_rows w (Some width) (with_host_rows w.descriptors width) s
    (sound_descriptors rows HOST_STACKS (host_stacks width) both stacks)
    (sound_runs rows HOST_STACKS (host_stacks width) w.arena
    (sound_runs w.descriptors HOST_CODE host_code w.arena s.runs s.descriptors.indices code)
    both.indices stacks)
    (host_rows w.descriptors width s.descriptors.indices entry.descriptors)

abbrev with_code : List ℕ → List ℕ
with_code b = put b (row_address HOST_CODE) (row_bytes host_code)

abbrev with_rows : List ℕ → Width → List ℕ
with_rows b w = put (with_code b) (row_address HOST_STACKS) (row_bytes (host_stacks w))

pub entered_holds : (b : List ℕ) (budget : ℕ) → Holds b budget → (w : Width) → Holds (with_rows b w) budget
entered_holds b budget holds w =
    row_holds (with_code b) budget (row_holds b budget holds HOST_CODE host_code (omega arith) fits_code) HOST_STACKS (host_stacks w)
    (omega arith)
    (fits_stacks w)

pub entered_world : (b : List ℕ) (budget : ℕ) → Holds b budget →
    (mode : Mode) (regs : Regs) (vif : Bool) (width : Option Width) (w : Width) →
    world_of (with_rows b w) budget mode regs vif (Some w)
    ≡ record (world_of b budget mode regs vif width) {
      width = Some w;
      descriptors = with_host_rows (world_of b budget mode regs vif width).descriptors w;
    }
entered_world b budget holds mode regs vif width w =
    width_world (with_rows b w) budget mode regs vif width (Some w)
    ∙ ap (λ (x : World). record x { width = Some w })
    (row_world (with_code b) budget (row_holds b budget holds HOST_CODE host_code (omega arith) fits_code) mode regs vif width HOST_STACKS
    (host_stacks w)
    (omega arith) (fits_stacks w)
    ∙ ap (λ (x : World). record x { descriptors = slice_set x.descriptors HOST_STACKS (host_stacks w) })
    (row_world b budget holds mode regs vif width HOST_CODE host_code (omega arith) fits_code))

pub entered_sound : (b : List ℕ) (budget : ℕ) → Holds b budget →
    (mode : Mode) (regs : Regs) (vif : Bool) (width : Option Width) (w : Width) → IsSound (world_of b budget mode regs vif width) →
    (world_of b budget mode regs vif width).width ≡ None → IsSound (world_of (with_rows b w) budget mode regs vif (Some w))
entered_sound b budget holds mode regs vif width w sound none =
    subst IsSound (sym (entered_world b budget holds mode regs vif width w))
    (IsSound-width (world_of b budget mode regs vif width) w sound none)

-- its rows lie beside the tables of pages
pub entered_addresses : (b : List ℕ) (budget : ℕ) → Holds b budget → (w : Width) → (p : Place) →
    address_of (with_rows b w) p ≡ address_of b p
entered_addresses b budget holds w p =
    put_beside (with_code b) (row_address HOST_STACKS) (row_bytes (host_stacks w)) (row_beside HOST_STACKS (host_stacks w) (omega arith))
    (omega (arith, length-put b (row_address HOST_CODE) (row_bytes host_code), holds.size)) p
    ∙ put_beside b (row_address HOST_CODE) (row_bytes host_code) (row_beside HOST_CODE host_code (omega arith))
    (omega (arith, holds.size)) p
