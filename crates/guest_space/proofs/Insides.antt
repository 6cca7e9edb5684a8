-- A machine from inside: its processor, what holds of it at every call, and the machine once its memory has other bytes.
use Rattle.std.proofs.Common.{◌≡◌, ℕ, ◌+◌, ◌%◌, ◌<◌, ◌≤◌, ◌^◌, true, Ok, List, length, refl, ap, ◌∙◌, sym, arith}
use Rattle.client_world.specs.{declared.host_frames.TheConstants.{PAGE_SIZE}, declared.place.Place.{Place}, Access.{place_in}}
use Rattle.client_world.specs.{Soundness.{IsSound}, World.{World}}
use Rattle.desc_table.specs.Rows.{rows_from, rows_start}
use Rattle.guest_ram.specs.Bytes.{put}
use Rattle.host_memory.specs.{Holds.{Holds}, Layout.{address_of}, View.{MachineView}}
use Rattle.guest_space.specs.{declared.machine.Machine.TheInside.{Inside}, Cache.{Warm}, HiddenParts.{all_found}, Machines.{Processor}}
use Rattle.guest_space.specs.{Machines.{held_world, IsMachine}, Transfer.{translated}}
use Rattle.guest_space.proofs.{CacheLaws.{kept_warm, written_warm, write_addresses_all}, HiddenLaws.{kept, kept_places}}
use Rattle.guest_space.proofs.{Machines.{AllBytes}, Puts.{store_opened, store_is}}

abbrev pub processor_of : Inside → Processor
processor_of m = record { budget = m.pages; mode = m.mode; regs = m.regs; vif = m.vif; width = m.width }

-- its view, and its invariant
abbrev pub view_of : Inside → MachineView
view_of m = record { world = held_world (processor_of m) m.ram; bytes = m.ram }

abbrev pub IsWhole : Inside → Type 0
IsWhole m =
    (Holds m.ram m.pages) × (IsSound (held_world (processor_of m) m.ram))
    × (m.hidden ≡ all_found m.mode m.regs (rows_from m.ram rows_start))
    × (Warm m.ram m.cache)

pub machine_inside : (m : Inside) → IsWhole m → IsMachine (processor_of m) (view_of m)
machine_inside m whole = record { holds = whole.0; is = refl; sound = whole.1 }

-- the machine after a call that wrote to the memory: whole, with that world, and with no place moved
pub record IsAfter (m : Inside) (v : MachineView) (c : List ℕ) (w : World) : Type 0 where
  pub whole : IsWhole (record m { ram = c })
  pub world : held_world (processor_of m) c ≡ w
  pub addresses : (p : Place) → address_of c p ≡ address_of v.bytes p

-- where the rows of the descriptors and the places of linear addresses are the same
pub after_call : (m : Inside) (v : MachineView) (c : List ℕ) (w : World) → view_of m ≡ v → IsWhole m → Holds c m.pages →
    IsSound (held_world (processor_of m) c) → held_world (processor_of m) c ≡ w → w.descriptors ≡ v.world.descriptors →
    ((lin : ℕ) → place_in w.blocks lin ≡ place_in v.world.blocks lin) → ((p : Place) → address_of c p ≡ address_of v.bytes p) →
    IsAfter m v c w
after_call m v c w is whole holds sound world rows places addresses = record {
  whole = (
    holds,
    sound,
    kept (processor_of m) m.ram c m.hidden v.world.descriptors (ap (λ (x : MachineView). x.world.descriptors) is)
        (ap (λ (x : World). x.descriptors) world ∙ rows) whole.2,
    kept_warm (processor_of m) m.ram c m.cache whole.0 whole.1 holds sound
        (λ lin. grind arith)
        (λ p. addresses p ∙ ap (λ (x : MachineView). address_of x.bytes p) (sym is)) whole.3,
  );
  world = world;
  addresses = addresses;
}

-- the machine after bytes of the client were put where a translation ends
pub stored_whole : (m : Inside) → IsWhole m → (lin n p : ℕ) (bytes : List ℕ) → lin < 2 ^ 32 → lin % PAGE_SIZE + n ≤ PAGE_SIZE →
    translated (view_of m) lin true ≡ Ok p → length bytes ≡ n → AllBytes bytes → IsWhole (record m { ram = put m.ram p bytes })
stored_whole m whole lin n p bytes small room ends size all =
    let k = processor_of m in
    let machine = machine_inside m whole in
    let after = store_opened k (view_of m) lin n p bytes machine small room ends size all in
    let is = store_is k (view_of m) lin n p bytes machine small room ends size all in (
      after.holds,
      after.sound,
      kept_places k m.ram _ _ _ m.hidden is whole.2,
      written_warm k m.ram _ m.cache _ _ whole.0 whole.1 after.holds after.sound is
          (write_addresses_all k (view_of m) lin n p bytes machine small room ends size all) whole.3,
    )
