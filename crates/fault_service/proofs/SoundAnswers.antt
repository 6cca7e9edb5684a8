-- A delivery and a return: the bytes that they change; they lead from a sound world to a sound one, and depend on the world alone.
use Rattle.std.proofs.Common.{◌≡◌, ◌≢◌, ℕ, ◌-◌, ◌*◌, ◌<◌, ◌≤◌, Bool, true, false, List, [], refl, ap, ◌∙◌, sym, subst, arith, Option, None}
use Rattle.std.proofs.{Common.{Some, Result, Ok, Err, ◌∷◌, length, take}, lemmas.Bool.{leb-false}, lemmas.List.{get_or_past, length-append}}
use Rattle.std.proofs.lemmas.List.{length-take-le}
use Rattle.std.specs.Prelude.{nat_le, if◌then◌else◌}
use Rattle.client_world.specs.{declared.calls.Record.TheVariants.{Exc}, declared.faults.Event.{Event}, declared.faults.Fault.{Fault}}
use Rattle.client_world.specs.{declared.limits.TheConstants.{GREATEST_DEPTH}, declared.outcome.Exit.{Exit}, declared.registers.Mode.{Mode}}
use Rattle.client_world.specs.{declared.registers.Width.{Width}, declared.segments.FarPtr.{FarPtr}}
use Rattle.client_world.specs.{declared.segments.SegReg.TheVariants.{Cs}, Loading.{load_fault}, Soundness.{IsSound, HasSegments}}
use Rattle.client_world.specs.{World.{World, depth}, declared.registers.Mode.TheVariants.{Real, Protected}}
use Rattle.client_world.specs.declared.registers.Width.TheVariants.{Sixteen, ThirtyTwo}
use Rattle.exec_flow.specs.Interrupts.{frame_bits, item_bits}
use Rattle.guest_space.specs.{Pending.{byte_count, number_bytes}, Far.{after_far_write}, Records.{OnlyAtAndRow, record_place}}
use Rattle.guest_space.specs.VectorLists.{vector_at}
use Rattle.client_world.proofs.{PlaceLaws.{length-places_from}, SoundWrites.{IsSound-regs, IsSound-vif, protected_by}}
use Rattle.guest_ram.specs.{Listed.{zeros}, Bytes.{put, AreBytes}}
use Rattle.guest_ram.proofs.{ListedLaws.{length-zeros}, ByteLists.{join_bytes, no_bytes}}
use Rattle.guest_space.proofs.{HostStacks.{stacks_place, stacks_places}, MemoryAlone.{other_far}, RecordWrites.{only_row, has_width}}
use Rattle.guest_space.proofs.{FarLaws.{sound_far, far_alone}, SoundLists.{IsSound-calls}}
use Rattle.host_memory.specs.{Records.{record_bytes, record_size}, View.{MachineView}}
use Rattle.host_memory.proofs.WorldWalks.{only_start}
use Rattle.insn_plan.specs.{Plan.{after_plan, plan_result}, Act.{Pending}}
use Rattle.mode_stack.specs.Stack.{top}
use Rattle.mode_stack.proofs.Trips.{length-record_bytes}
use Rattle.fault_service.specs.Delivery.{after_delivery, delivery_to, exception_frame, exception_frame_start, exception_frame_size}
use Rattle.fault_service.specs.{Delivery.{protected_delivery, exception_items, handler_regs, items_bytes}, Memory.{frame_places}}
use Rattle.fault_service.specs.{Memory.{DeliveryLaw, IsMachineView, ReturnLaw, LiesInStack}, Return.{exception_frame_pop, exception_return}}
use Rattle.fault_service.specs.{Return.{is_exception, result_of_exception_pop}, Worlds.{world_exception_return, world_protected_delivery}}
use Rattle.fault_service.specs.ByMode.{delivery}
use Rattle.interrupts.specs.{Delivery.{exit_of_fault, real_delivery}, Worlds.{view_without_bytes, world_of_result}}
use Rattle.fault_service.proofs.{AwayWrites.{far_only, machine_away}, Plans.{exception_there, pop_restores, Restores, OfPlan, of_popped}}
use Rattle.fault_service.proofs.Plans.{settled_is}
use Rattle.cpu_step.proofs.{FlowSegments.{code_is_word}, SoundSteps.{number_is_bytes}}
use Rattle.interrupts.proofs.SoundAnswers.{code_is_named_by_a_word}
use Rattle.client_world.specs.declared.outcome.Exit.TheVariants as exits
use Rattle.interrupts.proofs.SoundAnswers as real

-- a delivery that is made
pub record IsDelivered (v u : MachineView) (f : Fault) (p : FarPtr) : Type 0 where
  pub room : depth v.world < GREATEST_DEPTH
  pub loads : load_fault v.world.descriptors Cs p.sel p.off false ≡ None
  pub is : u ≡ after_delivery v f p

made : (o : Option Fault) (v u : MachineView) (f : Fault) (p : FarPtr) → depth v.world < GREATEST_DEPTH →
    load_fault v.world.descriptors Cs p.sel p.off false ≡ o →
    elim o as (λ _. Result MachineView Exit) [ Some g ↦ Err (exit_of_fault f) | None ↦ Ok (after_delivery v f p) ] ≡ Ok u →
    IsDelivered v u f p
made None v u f p room loads e = record { room = room; loads = loads; is = cc }
made (Some g) v u f p room loads e = absurd cc

where_room : (deep : Bool) (v u : MachineView) (f : Fault) (p : FarPtr) → nat_le GREATEST_DEPTH (depth v.world) ≡ deep →
    (if deep then Err exits.Deep else delivery_to v f p) ≡ Ok u → IsDelivered v u f p
where_room true v u f p is e = absurd cc
where_room false v u f p is e =
    made (load_fault v.world.descriptors Cs p.sel p.off false) v u f p (leb-false GREATEST_DEPTH (depth v.world) is) refl e

pub is_delivered : (v u : MachineView) (f : Fault) → protected_delivery v f ≡ Ok u →
    IsDelivered v u f (vector_at v.world.exception_vectors f.number)
unfolding protected_delivery
is_delivered v u f e = where_room (nat_le GREATEST_DEPTH (depth v.world)) v u f (vector_at v.world.exception_vectors f.number) refl e

-- its bytes
unfoldable pub frame_written : MachineView → Fault → MachineView
frame_written v f = after_far_write v (exception_frame_start v.world) (exception_frame_size v.world) (exception_frame v.world f)

pub depth_kept : (v : MachineView) (f : Fault) → depth (frame_written v f).world ≡ depth v.world
unfolding frame_written
depth_kept v f =
    ap (λ (w : World). depth w) (other_far v (exception_frame_start v.world) (exception_frame_size v.world) (exception_frame v.world f))

delivered_bytes : (v : MachineView) (f : Fault) (p : FarPtr) →
    (after_delivery v f p).bytes ≡ put (frame_written v f).bytes (record_place (depth v.world)) (record_bytes (Exc f.number f.code))
unfolding after_delivery frame_written
delivered_bytes v f p = ap (λ (n : ℕ). put (frame_written v f).bytes (record_place n) (record_bytes (Exc f.number f.code))) (depth_kept v f)

pub delivery_law : (v : MachineView) → IsMachineView v → DeliveryLaw v
unfolding frame_written
delivery_law v m f u e =
    let w = v.world in
    let done = is_delivered v u f e in
    subst (λ (c : List ℕ). OnlyAtAndRow (frame_places w) (depth w) v.bytes c)
    (sym (ap (λ (x : MachineView). x.bytes) done.is ∙ delivered_bytes v f (vector_at w.exception_vectors f.number)))
    (only_row (frame_places w) v.bytes (frame_written v f).bytes w.budget (depth w) (record_bytes (Exc f.number f.code))
    (far_only v (exception_frame_start w) (exception_frame_size w) (exception_frame w f) (machine_away v m)) m.holds.size done.room
    (length-record_bytes (Exc f.number f.code)))

-- a return
back_bytes : (r : Result MachineView Event) (v u : MachineView) → 0 < depth v.world →
    ((x : MachineView) → r ≡ Ok x → (x.bytes ≡ v.bytes) × (depth x.world ≡ depth v.world)) →
    result_of_exception_pop r ≡ Ok u → u.bytes ≡ put v.bytes (record_place (depth v.world - 1)) (zeros record_size)
back_bytes (Ok x) v u some keeps e = grind arith
back_bytes (Err g) v u some keeps e = absurd cc

where_exception : (exception : Bool) (v u : MachineView) → is_exception (top v.world) ≡ exception →
    (if exception then result_of_exception_pop (after_plan v (plan_result v.world (exception_frame_pop v.world (frame_bits v.world))))
    else Err exits.Stray) ≡ Ok u → (0 < depth v.world) × (u.bytes ≡ put v.bytes (record_place (depth v.world - 1)) (zeros record_size))
where_exception true v u is e =
    let some = exception_there v.world is in (
      some,
      back_bytes (after_plan v (plan_result v.world (exception_frame_pop v.world (frame_bits v.world)))) v u some
          (λ x was. (let restores = pop_restores v x (frame_bits v.world) was in
          (ap (λ (t : MachineView). t.bytes) restores.is, ap (λ (t : MachineView). depth t.world) restores.is))) e,
    )
where_exception false v u is e = absurd cc

pub returned_bytes : (v u : MachineView) → exception_return v ≡ Ok u →
    (0 < depth v.world) × (u.bytes ≡ put v.bytes (record_place (depth v.world - 1)) (zeros record_size))
unfolding exception_return
returned_bytes v u e = where_exception (is_exception (top v.world)) v u refl e

pub return_law : (v : MachineView) → IsMachineView v → ReturnLaw v
return_law v m u e =
    let w = v.world in
    let done = returned_bytes v u e in
    let few = m.sound.depth in
    subst (λ (c : List ℕ). OnlyAtAndRow [] (depth w - 1) v.bytes c) (sym done.1)
    (only_row [] v.bytes v.bytes w.budget (depth w - 1) (zeros record_size) (only_start [] v.bytes) m.holds.size
    (omega (arith, few, done.0)) (length-zeros record_size))

-- where the frame lies
size_of_width : (mode : Mode) (width : Option Width) →
    8 * byte_count (elim mode as (λ _. ℕ) [ Real ↦ 16 | Protected ↦ item_bits width ]) ≤ 32
size_of_width Real width = omega arith
size_of_width Protected None = omega arith
size_of_width Protected (Some Sixteen) = omega arith
size_of_width Protected (Some ThirtyTwo) = omega arith

pub frame_lies : (w : World) → IsSound w → w.width ≢ None → depth w < GREATEST_DEPTH → LiesInStack w
frame_lies w s some room = grind (arith, length-places_from, size_of_width, stacks_place, stacks_places)

-- ---- soundness

-- ---- what is written are bytes

item_is_bytes : (bits v : ℕ) → AreBytes (number_bytes bits v)
item_is_bytes bits v at = grind (arith, get_or_past, number_is_bytes)

items_are_bytes : (bits : ℕ) (items : List ℕ) → AreBytes (items_bytes bits items)
items_are_bytes bits [] = no_bytes
items_are_bytes bits (x ∷ xs) = join_bytes (number_bytes bits x) (items_bytes bits xs) (item_is_bytes bits x) (items_are_bytes bits xs)

frame_is_bytes : (w : World) (f : Fault) → AreBytes (exception_frame w f)
unfolding exception_frame
frame_is_bytes w f = items_are_bytes (frame_bits w) (exception_items w f)

-- ---- a delivery

handler_segments : (w : World) (p : FarPtr) → HasSegments w.regs → p.sel < 0x10000 → HasSegments (handler_regs w p)
handler_segments w p s small = grind (arith, code_is_word)

width_kept : (v : MachineView) (f : Fault) → (frame_written v f).world.width ≡ v.world.width
unfolding frame_written
width_kept v f =
    ap (λ (w : World). w.width) (other_far v (exception_frame_start v.world) (exception_frame_size v.world) (exception_frame v.world f))

sound_frame : (v : MachineView) (f : Fault) → IsSound v.world → IsSound (frame_written v f).world
unfolding frame_written
sound_frame v f s =
    sound_far v (exception_frame_start v.world) (exception_frame_size v.world) (exception_frame v.world f) s (frame_is_bytes v.world f)

pub sound_delivered : (v : MachineView) (f : Fault) (p : FarPtr) → IsSound v.world → v.world.width ≢ None → depth v.world < GREATEST_DEPTH →
    p.sel < 0x10000 → IsSound (after_delivery v f p).world
unfolding after_delivery frame_written
sound_delivered v f p s some room small = grind (arith, depth_kept, handler_segments, length-append, sound_frame, width_kept)

pub sound_delivery : (v u : MachineView) (f : Fault) → IsSound v.world → v.world.mode ≡ Protected → protected_delivery v f ≡ Ok u →
    IsSound u.world
sound_delivery v u f s mode e =
    let done = is_delivered v u f e in
    let p = vector_at v.world.exception_vectors f.number in
    subst (λ (x : MachineView). IsSound x.world) (sym done.is)
    (sound_delivered v f p s (protected_by v.world.width v.world mode s.width) done.room
    (code_is_named_by_a_word v.world.descriptors p.sel p.off false s.descriptors.indices done.loads))

-- ---- a return

sound_returned : (r : Result MachineView Event) (v u : MachineView) → IsSound v.world → 0 < depth v.world →
    ((x : MachineView) → r ≡ Ok x → Restores v x) → result_of_exception_pop r ≡ Ok u → IsSound u.world
sound_returned (Ok x) v u s some restores e =
    let h = restores x refl in
    let calls = take (depth v.world - 1) v.world.calls in
    let depths = s.depth in
    let few : length calls ≤ GREATEST_DEPTH = omega (arith, length-take-le (depth v.world - 1) v.world.calls (omega arith), depths) in
    let sound = IsSound-calls (record v.world { regs = h.regs; vif = h.vif }) calls
    (IsSound-vif (record v.world { regs = h.regs }) h.vif (IsSound-regs v.world h.regs s (h.segments s.segments)))
    (has_width v.world s some) few in
    subst IsSound (ap (λ (t : MachineView). record t.world { calls = take (depth t.world - 1) t.world.calls }) (sym h.is)
    ∙ ap world_of e) sound
  where
    world_of : Result MachineView Exit → World
    world_of (Ok t) = t.world
    world_of (Err g) = v.world
sound_returned (Err g) v u s some restores e = absurd cc

where_an_exception : (exception : Bool) (v u : MachineView) → IsSound v.world → is_exception (top v.world) ≡ exception →
    (if exception then result_of_exception_pop (after_plan v (plan_result v.world (exception_frame_pop v.world (frame_bits v.world))))
    else Err exits.Stray) ≡ Ok u → IsSound u.world
where_an_exception true v u s is e =
    sound_returned (after_plan v (plan_result v.world (exception_frame_pop v.world (frame_bits v.world)))) v u s
    (exception_there v.world is)
    (λ x was. pop_restores v x (frame_bits v.world) was) e
where_an_exception false v u s is e = absurd cc

pub sound_return : (v u : MachineView) → IsSound v.world → exception_return v ≡ Ok u → IsSound u.world
unfolding exception_return
sound_return v u s e = where_an_exception (is_exception (top v.world)) v u s refl e

-- ---- of worlds

delivered_alone : (v : MachineView) (f : Fault) (p : FarPtr) →
    (after_delivery v f p).world ≡ (after_delivery (view_without_bytes v.world) f p).world
unfolding after_delivery
delivered_alone v f p = grind (arith, far_alone)

by_fault : (o : Option Fault) (x y : MachineView) (g : Exit) → x.world ≡ y.world →
    world_of_result (elim o as (λ _. Result MachineView Exit) [ Some h ↦ Err g | None ↦ Ok x ])
    ≡ world_of_result (elim o as (λ _. Result MachineView Exit) [ Some h ↦ Err g | None ↦ Ok y ])
by_fault None x y g same = ap (λ (w : World). Ok w) same
by_fault (Some h) x y g same = refl

by_depth : (deep : Bool) (r s : Result MachineView Exit) → world_of_result r ≡ world_of_result s →
    world_of_result (if deep then Err exits.Deep else r) ≡ world_of_result (if deep then Err exits.Deep else s)
by_depth true r s same = refl
by_depth false r s same = same

pub delivery_alone : (v : MachineView) (f : Fault) → world_of_result (protected_delivery v f) ≡ world_protected_delivery v.world f
unfolding protected_delivery world_protected_delivery
delivery_alone v f = grind (arith, by_depth, by_fault, delivered_alone)

returned_alone : (v : MachineView) (r : Result Pending Event) → OfPlan v.world.regs r →
    world_of_result (result_of_exception_pop (after_plan v r))
    ≡ world_of_result (result_of_exception_pop (after_plan (view_without_bytes v.world) r))
unfolding after_plan
returned_alone v (Ok p) h = grind (arith, settled_is)
returned_alone v (Err g) h = refl

by_exception : (exception : Bool) (r s : Result MachineView Exit) → world_of_result r ≡ world_of_result s →
    world_of_result (if exception then r else Err exits.Stray) ≡ world_of_result (if exception then s else Err exits.Stray)
by_exception true r s same = same
by_exception false r s same = refl

pub return_alone : (v : MachineView) → world_of_result (exception_return v) ≡ world_exception_return v.world
unfolding exception_return world_exception_return
return_alone v = grind (arith, by_exception, of_popped, returned_alone)

in_mode : (m : Mode) (v u : MachineView) (f : Fault) → v.world.mode ≡ m → IsSound v.world →
    elim m as (λ _. Result MachineView Exit) [ Real ↦ real_delivery v f | Protected ↦ protected_delivery v f ] ≡ Ok u → IsSound u.world
in_mode Real v u f is s e = real.sound_delivery v u f s e
in_mode Protected v u f is s e = sound_delivery v u f s is e

pub sound_by_mode : (v u : MachineView) (f : Fault) → IsSound v.world → delivery v f ≡ Ok u → IsSound u.world
unfolding delivery
sound_by_mode v u f s e = in_mode v.world.mode v u f refl s e
