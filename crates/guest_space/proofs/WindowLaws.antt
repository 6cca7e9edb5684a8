-- A window of code stays where it is: whatever the client writes, and whatever its registers hold beside CS.
use Rattle.std.proofs.Common.{◌≡◌, ◌∙◌, ℕ, ◌+◌, ◌^◌, ◌<◌, ◌≤◌, length, Bool, false, List, [], ◌∷◌, Ok, refl, ap, sym, arith}
use Rattle.client_world.specs.{declared.code.CodeWords.{CodeWords}, declared.place.Place.{Place}, declared.registers.Mode.{Mode}}
use Rattle.client_world.specs.{declared.registers.Mode.TheVariants.{Real, Protected}, declared.registers.Regs.{Regs}}
use Rattle.client_world.specs.{declared.segments.SegReg.TheVariants.{Cs}, Access.{linear, protected_base, real_base, segment_base}}
use Rattle.client_world.specs.{CodeWords.{code_bytes}, Selector.{Row}, World.{World}}
use Rattle.guest_space.specs.{declared.pending.Write.{Write}, Code.{code_from}, declared.windows.CodeWindow.{CodeWindow}}
use Rattle.guest_space.specs.{SegmentRows.{is_big}, Machines.{HoldsItsWorld, IsMachine, Processor}, Pending.{after_writes, after_write}}
use Rattle.guest_space.specs.{Transfer.{read_result, translated}, Windows.{IsCodeRun, IsWindow}}
use Rattle.guest_ram.specs.Bytes.{region}
use Rattle.guest_ram.proofs.PutLaws.{length-region}
use Rattle.guest_space.proofs.{Accesses.{loaded_linear, segment_part}, Codes.{whole_code}, MemoryAlone.{SameAccess, same_then}}
use Rattle.guest_space.proofs.{MachineLaws.{machine_all}, Runs.{run_inside, run_loaded, run_touches}, WriteRuns.{translated_same}}
use Rattle.guest_space.proofs.{WriteRuns.{translated_where}, Writes.{same_written}}
use Rattle.host_memory.specs.{Layout.{address_of}, View.{MachineView}}

-- after writes each access is what it was
same_all : (v : MachineView) (xs : List Write) → SameAccess v.world (after_writes v xs).world
unfolding after_writes
same_all v [] = record { mode = refl; regs = refl; descriptors = refl; places = λ at. refl }
same_all v (x ∷ xs) =
    same_then v.world (after_write v x).world (after_writes (after_write v x) xs).world (same_written v x) (same_all (after_write v x) xs)

base_same : (w u : World) → SameAccess w u → (offset n : ℕ) →
    segment_base u.mode u.regs u.descriptors Cs offset n false ≡ segment_base w.mode w.regs w.descriptors Cs offset n false
base_same w u same offset n = grind arith

big_same : (w u : World) → SameAccess w u → is_big u.mode u.descriptors u.regs.cs ≡ is_big w.mode w.descriptors w.regs.cs
big_same w u same = grind arith

run_same : (v u : MachineView) → SameAccess v.world u.world → ((q : Place) → address_of u.bytes q ≡ address_of v.bytes q) →
    (first n at : ℕ) → IsCodeRun v first n at → IsCodeRun u first n at
run_same v u same addresses first n at window = grind (arith, base_same, translated_same)

-- writes leave it
run_written : (v : MachineView) → HoldsItsWorld v → (xs : List Write) (first n at : ℕ) → IsCodeRun v first n at →
    IsCodeRun (after_writes v xs) first n at
run_written v held xs first n at window =
    run_same v (after_writes v xs) (same_all v xs) (λ q. (machine_all v held xs).addresses q) first n at window

-- an access through CS asks no other register
base_of_cs : (mode : Mode) (r s : Regs) (rows : List Row) (offset n : ℕ) → s.cs ≡ r.cs →
    segment_base mode s rows Cs offset n false ≡ segment_base mode r rows Cs offset n false
unfolding segment_base
base_of_cs Real r s rows offset n e = ap (λ (sel : ℕ). real_base Cs sel offset n) e
base_of_cs Protected r s rows offset n e = ap (λ (sel : ℕ). protected_base rows Cs sel offset n false) e

-- so do other registers with the same CS, and another virtual interrupt flag
run_of_cs : (v : MachineView) (s : Regs) (on : Bool) (first n at : ℕ) → s.cs ≡ v.world.regs.cs → IsCodeRun v first n at →
    IsCodeRun (record v { world = record v.world { regs = s; vif = on } }) first n at
unfolding translated
run_of_cs v s on first n at e window = grind (arith, base_of_cs)

-- ---- the window stays

pub window_written : (v : MachineView) → HoldsItsWorld v → (xs : List Write) (w : CodeWindow) → IsWindow v w →
    IsWindow (after_writes v xs) w
unfolding run_written run_same
window_written v held xs w window =
    let same = same_all v xs in
    record {
      cs = window.cs ∙ sym (ap (λ (r : Regs). r.cs) same.regs);
      places = window.places;
      big = λ from inside. window.big from inside ∙ sym (big_same v.world (after_writes v xs).world same);
      run = run_written v held xs w.first (w.starts + 14) w.address window.run;
      start = window.start;
    }

pub window_of_cs : (v : MachineView) (s : Regs) (on : Bool) (w : CodeWindow) → s.cs ≡ v.world.regs.cs → IsWindow v w →
    IsWindow (record v { world = record v.world { regs = s; vif = on } }) w
unfolding run_of_cs
window_of_cs v s on w e window = record {
  cs = window.cs ∙ sym e;
  places = window.places;
  big = λ from inside. window.big from inside ∙ ap (is_big v.world.mode v.world.descriptors) (sym e);
  run = run_of_cs v s on w.first (w.starts + 14) w.address e window.run;
  start = window.start;
}

-- ---- what is fetched in it

-- a part of it is a window
window_part : (k : Processor) (v : MachineView) (first n at i m : ℕ) → IsMachine k v → IsCodeRun v first n at → i + m ≤ n → 0 < m →
    IsCodeRun v (first + i) m (at + i)
window_part k v first n at i m machine window within some =
    let lin = linear (window.base + first) in
    let room = window.room in
    let same : linear (lin + i) ≡ linear (window.base + (first + i)) = omega arith in
    record {
      base = window.base;
      allowed = segment_part v.world.mode v.world.regs v.world.descriptors Cs first n i m false window.base within window.allowed;
      room = omega arith;
      ends = grind (arith, run_touches, translated_where);
    }

window_read : (k : Processor) (v : MachineView) (first n at : ℕ) → IsMachine k v → IsCodeRun v first n at → 0 < n →
    read_result v.world Cs first n ≡ Ok (region v.bytes at n)
window_read k v first n at machine window some =
    let lin = linear (window.base + first) in
    let room = window.room in
    sym (run_loaded k v lin n at machine (omega arith) room some window.ends
    ∙ loaded_linear v.world Cs first n window.base window.allowed)

-- the code bytes at an offset of it are those of the memory
pub window_code : (k : Processor) (v : MachineView) (first n at i : ℕ) → IsMachine k v → IsCodeRun v first n at → i + 15 ≤ n →
    first + i ≡ v.world.regs.eip → code_from v.world 0 15 ≡ region v.bytes (at + i) 15
window_code k v first n at i machine window within here =
    let part = window_part k v first n at i 15 machine window within (omega arith) in
    let lin = linear (part.base + (first + i)) in
    let room = part.room in
    let inside = run_inside k v lin 15 (at + i) false machine (omega arith) room (omega arith) part.ends in
    whole_code v.world 15 (region v.bytes (at + i) 15) (length-region v.bytes (at + i) 15 inside)
    (ap (λ (off : ℕ). read_result v.world Cs off 15) (sym here) ∙ window_read k v (first + i) 15 (at + i) machine part (omega arith))

-- they lie inside the memory, at addresses of 32 bits
pub window_inside : (v : MachineView) → HoldsItsWorld v → (first n at i : ℕ) → IsCodeRun v first n at → i + 15 ≤ n →
    (at + i + 15 ≤ length v.bytes) × (at + i < 2 ^ 32)
window_inside v held first n at i window within =
    let k = held.processor in
    let machine = held.machine in
    let part = window_part k v first n at i 15 machine window within (omega arith) in
    let lin = linear (part.base + (first + i)) in
    let room = part.room in
    let inside = run_inside k v lin 15 (at + i) false machine (omega arith) room (omega arith) part.ends in
    let size = machine.holds.size in
    let most = machine.holds.most in
    (inside, omega arith)

-- and are the words that are loaded there
pub window_words : (v : MachineView) → HoldsItsWorld v → (first n at i : ℕ) (words : CodeWords) → IsCodeRun v first n at → i + 15 ≤ n →
    first + i ≡ v.world.regs.eip → region v.bytes (at + i) 15 ≡ code_bytes words → code_from v.world 0 15 ≡ code_bytes words
window_words v held first n at i words window within here loaded =
    window_code held.processor v first n at i held.machine window within here ∙ loaded
