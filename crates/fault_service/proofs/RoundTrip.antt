-- At the handler the frame is read as it was written, and a return restores what a delivery saved; a delivery and a return of worlds: a
-- delivery adds the record of its exception, and a return takes one away.
use Rattle.std.proofs.Common.{◌≡◌, ◌≢◌, ℕ, ◌+◌, ◌-◌, ◌*◌, ◌<◌, ◌≤◌, ◌⊎◌, inl, inr, Bool, true, false, List, [], ◌∷◌, ◌++◌, length, take}
use Rattle.std.proofs.{Common.{refl, ap, ◌∙◌, sym, subst, arith, Option, None, Some, Result, Ok, Err}, lemmas.List.{length-append}}
use Rattle.std.proofs.{lemmas.List.{get_or_at}, Math.Seq.{take-append_seam}, lemmas.Option.{slice_get-get_or}}
use Rattle.std.specs.{List.{slice_get}, Prelude.{if◌then◌else◌}}
use Rattle.client_world.specs.{declared.calls.Record.{Record}, declared.calls.Record.TheVariants.{Exc, Sim, Back}}
use Rattle.client_world.specs.{declared.faults.Event.{Event}, declared.faults.Fault.{Fault}, declared.limits.TheConstants.{GREATEST_DEPTH}}
use Rattle.client_world.specs.{declared.registers.Flags.{Flags}, declared.registers.Mode.{Mode}, declared.registers.Mode.TheVariants.{Real}}
use Rattle.client_world.specs.{declared.registers.Mode.TheVariants.{Protected}, declared.registers.Regs.{Regs}}
use Rattle.client_world.specs.{declared.registers.TheConstants.{INTERRUPT_BIT}, declared.registers.Width.{Width}}
use Rattle.client_world.specs.{declared.registers.Width.TheVariants.{Sixteen, ThirtyTwo}, declared.segments.FarPtr.{FarPtr}}
use Rattle.client_world.specs.{declared.segments.SegReg.TheVariants.{Cs, Ss}, declared.selectors.TheConstants.{HOST_STACKS}}
use Rattle.client_world.specs.{Loading.{load_fault}, Registers.{flags_image, has_bit, low_half}, Selector.{selector_of}}
use Rattle.client_world.specs.{Soundness.{IsSound, HasSegments}, World.{World, depth}, declared.outcome.Exit.{Exit}}
use Rattle.client_world.proofs.{SoundWrites.{IsSound-regs, IsSound-vif, protected_by}, FlagBits.{image_small}}
use Rattle.exec_flow.specs.Interrupts.{frame_bits, item_bits}
use Rattle.guest_space.specs.{Far.{far_bytes}, Pending.{byte_count}, Transfer.{read_result}}
use Rattle.guest_space.proofs.{FarLaws.{written_is_read}, HostStacks.{far_same, stacks_at, stacks_loaded, stacks_reachable}}
use Rattle.guest_space.proofs.MemoryAlone.{other_far}
use Rattle.host_memory.specs.View.{MachineView}
use Rattle.insn_plan.specs.Plan.{after_plan, plan_result, with_state}
use Rattle.mode_stack.specs.Stack.{after_pop, top}
use Rattle.mode_stack.proofs.Trips.{FlagsTrip, but_last, split_last}
use Rattle.fault_service.specs.Delivery.{after_delivery, exception_frame, exception_items, exception_frame_start, exception_frame_size}
use Rattle.fault_service.specs.{Delivery.{handler_regs, protected_delivery}, Return.{exception_frame_pop, exception_return, is_exception}}
use Rattle.fault_service.specs.{Return.{result_of_exception_pop}, Trip.{FrameLaw, TripLaw, cut_item, regs_after_return}}
use Rattle.fault_service.specs.Worlds.{world_exception_return, world_protected_delivery}
use Rattle.fault_service.proofs.{FrameItems.{AtFrame, popped_is, item_values}, SoundAnswers.{is_delivered, frame_written, sound_delivered}}
use Rattle.fault_service.proofs.{SoundAnswers.{sound_delivery, sound_return}, Plans.{Restores, pop_restores}}
use Rattle.interrupts.proofs.SoundAnswers.{code_is_named_by_a_word, holds_of_world}
use Rattle.interrupts.specs.Worlds.{view_without_bytes}
use Rattle.client_world.specs.declared.outcome.Exit.TheVariants as exits

abbrev pub InterruptTrip : Type 0
InterruptTrip = (f : Flags) (interrupt : Bool) → has_bit (flags_image f interrupt) INTERRUPT_BIT ≡ interrupt

-- ---- small facts

last_is : (xs : List Record) (r : Record) → slice_get (xs ++ r ∷ []) (length (xs ++ r ∷ []) - 1) ≡ Some r
last_is xs r =
    let total : length (xs ++ r ∷ []) ≡ length xs + 1 = length-append xs (r ∷ []) in
    slice_get-get_or (xs ++ r ∷ []) (length (xs ++ r ∷ []) - 1) r (omega arith)
    ∙ ap (λ (x : Record). Some x) (get_or_at xs r [] r (length (xs ++ r ∷ []) - 1) (omega arith))

bits_by : (mode : Mode) (width : Option Width) →
    let bits = elim mode as (λ _. ℕ) [ Real ↦ 16 | Protected ↦ item_bits width ] in (bits ≡ 16) ⊎ (bits ≡ 32)
bits_by Real width = inl refl
bits_by Protected None = inl refl
bits_by Protected (Some Sixteen) = inl refl
bits_by Protected (Some ThirtyTwo) = inr refl

bits_are : (w : World) → (frame_bits w ≡ 16) ⊎ (frame_bits w ≡ 32)
bits_are w = bits_by w.mode w.width

-- ---- the world in which the handler returns

-- the parts of the world that the frame's write keeps
pub record Kept (v : MachineView) (f : Fault) : Type 0 where
  pub mode : (frame_written v f).world.mode ≡ v.world.mode
  pub width : (frame_written v f).world.width ≡ v.world.width
  pub descriptors : (frame_written v f).world.descriptors ≡ v.world.descriptors
  pub bits : frame_bits (frame_written v f).world ≡ frame_bits v.world

kept : (v : MachineView) (f : Fault) → Kept v f
unfolding frame_written
kept v f = grind (arith, other_far)

-- the machine then, whatever the handler left in the registers
abbrev calls_then : MachineView → Fault → List Record
calls_then v f = (frame_written v f).world.calls ++ Exc f.number f.code ∷ []

abbrev world_then : MachineView → Fault → Regs → Bool → World
world_then v f r on = record (frame_written v f).world { calls = calls_then v f; regs = r; vif = on }

then_is : (v : MachineView) (f : Fault) (p : FarPtr) (r : Regs) (on : Bool) →
    (with_state r on (after_delivery v f p)).world ≡ world_then v f r on
unfolding after_delivery frame_written
then_is v f p r on = refl

length-frame : (w : World) (f : Fault) → length (exception_frame w f) ≡ 8 * byte_count (frame_bits w)
unfolding exception_frame exception_items
length-frame w f = grind (arith, bits_are)

size_small : (w : World) → 8 * byte_count (frame_bits w) ≤ 32
size_small w = grind (arith, bits_are)

frame_there : (v : MachineView) (f : Fault) (r : Regs) (on : Bool) → IsSound v.world → v.world.width ≢ None →
    depth v.world < GREATEST_DEPTH →
    far_bytes (world_then v f r on) (stacks_at (exception_frame_start v.world).off) (8 * byte_count (frame_bits v.world))
    ≡ exception_frame v.world f
unfolding frame_written
frame_there v f r on s some room = grind (arith, far_same, length-frame, size_small, stacks_reachable, written_is_read)

at_frame : (v : MachineView) (f : Fault) (p : FarPtr) (r : Regs) (on : Bool) → IsSound v.world → v.world.mode ≡ Protected →
    v.world.width ≢ None → depth v.world < GREATEST_DEPTH → p.sel < 0x10000 → HasSegments r → r.ss ≡ selector_of HOST_STACKS →
    r.esp ≡ (exception_frame_start v.world).off + 2 * byte_count (frame_bits v.world) →
    AtFrame (world_then v f r on) (frame_bits v.world) (exception_frame_start v.world).off (exception_frame v.world f)
at_frame v f p r on s mode some room word segments ss esp =
    let k = kept v f in
    let small = size_small v.world in
    record {
      sound = subst IsSound (then_is v f p r on)
          (IsSound-vif (record (after_delivery v f p).world { regs = r }) on
          (IsSound-regs (after_delivery v f p).world r (sound_delivered v f p s some room word) segments));
      mode = k.mode ∙ mode;
      width = λ e. some (sym k.width ∙ e);
      ss = ss;
      esp = esp;
      room = omega arith;
      bytes = frame_there v f r on s some room;
    }

-- ---- what the return reads

half_of_item : (bits n : ℕ) → n < 0x10000 → low_half (cut_item bits n) ≡ n
half_of_item bits n small = grind arith

-- the return in that machine
abbrev carried : MachineView → ℕ → Result MachineView Event
carried y bits = after_plan y (plan_result y.world (exception_frame_pop y.world bits))

carried_is : (v y : MachineView) (f : Fault) (r : Regs) → FlagsTrip → InterruptTrip → IsSound v.world → y.world.regs ≡ r →
    y.world.descriptors ≡ v.world.descriptors →
    AtFrame y.world (frame_bits v.world) (exception_frame_start v.world).off (exception_frame v.world f) →
    load_fault v.world.descriptors Cs v.world.regs.cs (cut_item (frame_bits v.world) v.world.regs.eip) true ≡ None →
    load_fault v.world.descriptors Ss v.world.regs.ss 0 false ≡ None →
    carried y (frame_bits v.world) ≡ Ok (with_state (regs_after_return v.world r) v.world.vif y)
unfolding exception_frame exception_items
carried_is v y f r trip interrupt s regs descriptors h code stack =
    let w = v.world in
    let bits = frame_bits w in
    let image = flags_image w.regs.flags w.vif in
    let segments = s.segments in
    let cs : low_half (cut_item bits w.regs.cs) ≡ w.regs.cs = half_of_item bits w.regs.cs segments.cs in
    let ss : low_half (cut_item bits w.regs.ss) ≡ w.regs.ss = half_of_item bits w.regs.ss segments.ss in
    let flags : low_half (cut_item bits image) ≡ image = half_of_item bits image (image_small w.regs.flags w.vif) in
    popped_is y bits (cut_item bits w.regs.eip) (cut_item bits w.regs.cs) (cut_item bits image) (cut_item bits w.regs.esp)
    (cut_item bits w.regs.ss)
    (item_values y.world bits (exception_frame_start w).off 0x322 0x87 f.code w.regs.eip w.regs.cs image w.regs.esp w.regs.ss
    (bits_are w) h)
    (rw (descriptors, cs) code) (rw (descriptors, ss) stack)
    ∙ rw (regs, cs, ss, flags, trip w.regs.flags w.vif, interrupt w.regs.flags w.vif) refl

-- ---- the law

returned_where : (y t : MachineView) (bits : ℕ) → frame_bits y.world ≡ bits → is_exception (top y.world) ≡ true → carried y bits ≡ Ok t →
    exception_return y ≡ Ok (after_pop t)
unfolding exception_return
returned_where y t bits same is e = grind arith

trip_delivered : FlagsTrip → InterruptTrip → (v : MachineView) (f : Fault) (p : FarPtr) (r : Regs) (on : Bool) → IsSound v.world →
    v.world.mode ≡ Protected →
    v.world.width ≢ None → depth v.world < GREATEST_DEPTH → p.sel < 0x10000 → HasSegments r → r.ss ≡ selector_of HOST_STACKS →
    r.esp ≡ (exception_frame_start v.world).off + 2 * byte_count (frame_bits v.world) →
    load_fault v.world.descriptors Cs v.world.regs.cs (cut_item (frame_bits v.world) v.world.regs.eip) true ≡ None →
    load_fault v.world.descriptors Ss v.world.regs.ss 0 false ≡ None → exception_return (with_state r on (after_delivery v f p))
    ≡ Ok (with_state (regs_after_return v.world r) v.world.vif (after_pop (after_delivery v f p)))
trip_delivered trip interrupt v f p r on s mode some room word segments ss esp code stack =
    let y = with_state r on (after_delivery v f p) in
    let k = kept v f in
    let is = then_is v f p r on in
    let there =
    subst (λ (w : World). AtFrame w (frame_bits v.world) (exception_frame_start v.world).off (exception_frame v.world f)) (sym is)
    (at_frame v f p r on s mode some room word segments ss esp) in
    returned_where y (with_state (regs_after_return v.world r) v.world.vif y) (frame_bits v.world)
    (ap (λ (w : World). frame_bits w) is ∙ k.bits)
    (ap (λ (w : World). is_exception (top w)) is ∙ ap is_exception (last_is (frame_written v f).world.calls (Exc f.number f.code)))
    (carried_is v y f r trip interrupt s refl (ap (λ (w : World). w.descriptors) is ∙ k.descriptors) there code stack)

pub trip_law : FlagsTrip → InterruptTrip → TripLaw
trip_law trip interrupt v u f r on s mode e segments ss esp code stack =
    grind (arith, code_is_named_by_a_word, is_delivered, protected_by, trip_delivered)

-- at the handler the frame is read at SS:ESP
handler_world : (v : MachineView) (f : Fault) (p : FarPtr) → (after_delivery v f p).world ≡ world_then v f (handler_regs v.world p) false
unfolding after_delivery frame_written
handler_world v f p = refl

handler_esp : (v : MachineView) (f : Fault) (p : FarPtr) → (after_delivery v f p).world.regs.esp ≡ (exception_frame_start v.world).off
unfolding after_delivery
handler_esp v f p = refl

frame_read : (v : MachineView) (f : Fault) (p : FarPtr) → IsSound v.world → v.world.mode ≡ Protected → v.world.width ≢ None →
    depth v.world < GREATEST_DEPTH → p.sel < 0x10000 →
    read_result (after_delivery v f p).world Ss (after_delivery v f p).world.regs.esp (exception_frame_size v.world)
    ≡ Ok (exception_frame v.world f)
frame_read v f p s mode some room word =
    let r = handler_regs v.world p in
    let w = world_then v f r false in
    let k = kept v f in
    let is = handler_world v f p in
    let small = size_small v.world in
    ap (λ (a : ℕ). read_result (after_delivery v f p).world Ss a (exception_frame_size v.world)) (handler_esp v f p)
    ∙ ap (λ (x : World). read_result x Ss (exception_frame_start v.world).off (exception_frame_size v.world)) is
    ∙ stacks_loaded w (exception_frame_start v.world).off (exception_frame_size v.world)
    (subst IsSound is (sound_delivered v f p s some room word)) (k.mode ∙ mode) refl
    (λ e. some (sym k.width ∙ e)) (omega arith)
    ∙ ap Ok (frame_there v f r false s some room)

pub frame_law : FrameLaw
frame_law v u f s mode e = grind (arith, code_is_named_by_a_word, frame_read, is_delivered, protected_by)

-- and the records are those before
front_is : (xs : List Record) (r : Record) → take (length (xs ++ r ∷ []) - 1) (xs ++ r ∷ []) ≡ xs
front_is xs r =
    let total : length (xs ++ r ∷ []) ≡ length xs + 1 = length-append xs (r ∷ []) in
    let less : length (xs ++ r ∷ []) - 1 ≡ length xs = omega arith in
    ap (λ (n : ℕ). take n (xs ++ r ∷ [])) less ∙ take-append_seam xs (r ∷ [])

pub calls_kept : (v : MachineView) (f : Fault) → (frame_written v f).world.calls ≡ v.world.calls
unfolding frame_written
calls_kept v f =
    ap (λ (w : World). w.calls) (other_far v (exception_frame_start v.world) (exception_frame_size v.world) (exception_frame v.world f))

pub delivered_calls : (v : MachineView) (f : Fault) (p : FarPtr) →
    (after_delivery v f p).world.calls ≡ (frame_written v f).world.calls ++ Exc f.number f.code ∷ []
unfolding after_delivery frame_written
delivered_calls v f p = refl

pub records_back : (v u : MachineView) (f : Fault) → protected_delivery v f ≡ Ok u → (after_pop u).world.calls ≡ v.world.calls
records_back v u f e = grind (arith, calls_kept, delivered_calls, front_is, is_delivered)

-- ---- of worlds

pub sound_world_delivery : (w u : World) (f : Fault) → IsSound w → w.mode ≡ Protected → world_protected_delivery w f ≡ Ok u → IsSound u
unfolding world_protected_delivery
sound_world_delivery w u f s mode e =
    holds_of_world IsSound (protected_delivery (view_without_bytes w) f) u (λ v is. sound_delivery (view_without_bytes w) v f s mode is) e

pub sound_world_return : (w u : World) → IsSound w → world_exception_return w ≡ Ok u → IsSound u
unfolding world_exception_return
sound_world_return w u s e =
    holds_of_world IsSound (exception_return (view_without_bytes w)) u (λ v is. sound_return (view_without_bytes w) v s is) e

-- ---- a delivery adds the record of its exception

delivered_record : (v u : MachineView) (f : Fault) → protected_delivery v f ≡ Ok u →
    u.world.calls ≡ v.world.calls ++ Exc f.number f.code ∷ []
delivered_record v u f e = grind (arith, calls_kept, delivered_calls, is_delivered)

pub pushed_record : (w u : World) (f : Fault) → world_protected_delivery w f ≡ Ok u → u.calls ≡ w.calls ++ Exc f.number f.code ∷ []
unfolding world_protected_delivery
pushed_record w u f e = grind (arith, delivered_record, holds_of_world)

-- ---- a return takes the record of an exception away

-- the innermost record is an exception's, and the other records are these
pub record Popped (calls others : List Record) : Type 0 where
  pub number : ℕ
  pub code : ℕ
  pub top_is : slice_get calls (length calls - 1) ≡ Some (Exc number code)
  pub is : calls ≡ others ++ Exc number code ∷ []

popped_by : (calls : List Record) (o : Option Record) → slice_get calls (length calls - 1) ≡ o → is_exception o ≡ true →
    Popped calls (but_last calls)
popped_by calls None is e = absurd cc
popped_by calls (Some (Sim call saved vif at)) is e = absurd cc
popped_by calls (Some (Back slot at)) is e = absurd cc
popped_by calls (Some (Exc number code)) is e =
    record { number = number; code = code; top_is = is; is = split_last calls (Exc number code) is }

returned_calls : (r : Result MachineView Event) (v u : MachineView) → ((x : MachineView) → r ≡ Ok x → Restores v x) →
    result_of_exception_pop r ≡ Ok u → u.world.calls ≡ but_last v.world.calls
returned_calls (Ok x) v u restores e =
    let same : u.world.calls ≡ but_last x.world.calls = ap calls_of (sym e) in
    same ∙ ap (λ (t : MachineView). but_last t.world.calls) (restores x refl).is
  where
    calls_of : Result MachineView Exit → List Record
    calls_of (Ok t) = t.world.calls
    calls_of (Err g) = []
returned_calls (Err g) v u restores e = absurd cc

where_exception : (exception : Bool) (v u : MachineView) → is_exception (top v.world) ≡ exception →
    (if exception then result_of_exception_pop (after_plan v (plan_result v.world (exception_frame_pop v.world (frame_bits v.world))))
    else Err exits.Stray) ≡ Ok u → Popped v.world.calls u.world.calls
where_exception true v u is e =
    let rest = returned_calls (after_plan v (plan_result v.world (exception_frame_pop v.world (frame_bits v.world)))) v u
    (λ x was. pop_restores v x (frame_bits v.world) was) e in
    rw rest (popped_by v.world.calls (top v.world) refl is)
where_exception false v u is e = absurd cc

machine_popped : (v u : MachineView) → exception_return v ≡ Ok u → Popped v.world.calls u.world.calls
unfolding exception_return
machine_popped v u e = where_exception (is_exception (top v.world)) v u refl e

pub popped_record : (w u : World) → world_exception_return w ≡ Ok u → Popped w.calls u.calls
unfolding world_exception_return
popped_record w u e =
    holds_of_world (λ (x : World). Popped w.calls x.calls) (exception_return (view_without_bytes w)) u
    (λ v is. machine_popped (view_without_bytes w) v is) e
