-- What a client instruction writes it touches, and every place that it or its software interrupt writes is the client's.
use Rattle.std.proofs.Common.{◌≡◌, ◌∙◌, ℕ, true, List, [], ◌∷◌, ◌++◌, slice_index_or, refl, sym, ap, subst, Option, None, Some, Result, Ok}
use Rattle.std.proofs.{Common.{Err, arith}, lemmas.List.{get_or_default}, lemmas.List.Elements.{All-append, All-contains_itself, All-nil}}
use Rattle.std.proofs.lemmas.List.Elements.{All-weaker, Contains-append_left, Contains-append_right}
use Rattle.std.specs.Prelude.{All, Contains}
use Rattle.client_world.specs.{declared.faults.Event.{Event}, declared.faults.Event.TheVariants.{Fault as fault, Soft}}
use Rattle.client_world.specs.{declared.faults.Fault.{Fault}, declared.place.Place.{Place}, declared.place.Place.TheVariants.{Nothing}}
use Rattle.client_world.specs.{declared.registers.Mode.{Mode}, declared.registers.Mode.TheVariants.{Real, Protected}}
use Rattle.client_world.specs.{declared.registers.Regs.{Regs}, declared.segments.SegReg.{SegReg}, declared.segments.SegReg.TheVariants.{Ss}}
use Rattle.client_world.specs.{Access.{IsHeld, access, segment_base}, Selector.{Row}, World.{World}}
use Rattle.cpu_step.specs.Step.{view_with_next_eip, client_row, client_step, code, after_instruction, has_big_code, step_of}
use Rattle.cpu_step.specs.Touched.{and_then, touched_by_decoded, touched_by_instruction, touched_by_fetch, places_after_reads, read_places}
use Rattle.cpu_step.specs.Touched.{touched_by_step, vector_read_places, write_places}
use Rattle.exec_flow.specs.Interrupts.{interrupt_push}
use Rattle.interrupts.specs.Delivery.{software_interrupt}
use Rattle.guest_space.specs.{Code.{code_room}, declared.pending.Write.{Write}, Pending.{after_writes, byte_count, first_write_fault}}
use Rattle.guest_space.specs.{Pending.{places_of_writes, write_fault}, Transfer.{access_fault, fault_of, places_of_access}}
use Rattle.guest_space.proofs.{Machines.{CanWriteAll, held_there}, OnlyWritten.{write_places as can_write}}
use Rattle.host_memory.specs.View.{MachineView}
use Rattle.insn_decode.specs.{declared.decoding.Decoded.{Decoded}, declared.decoding.Decoded.TheVariants.{Whole, More, Invalid}}
use Rattle.insn_decode.specs.Decode.{decoded}
use Rattle.insn_forms.specs.declared.insn.Insn.{Insn}
use Rattle.insn_plan.specs.{Accesses.{with_next_eip}, Act.{Pending}, Plan.{after_commit, after_plan, plan_result, with_state}}
use Rattle.insn_plan.specs.Stack.{has_big_stack, with_pushed_number}
use Rattle.fault_service.specs.StepMemory.{interrupt_places, written_by, written_of, written_places}
use Rattle.cpu_step.proofs.Held.{held_before}

-- ---- writes none of which is refused

granted_where : (r : Result (List Place) Fault) (refused : Option Fault) (more others : List Place) → (refused ≡ None → more ≡ others) →
    elim (fault_of r) as (λ _. Option Fault) [ Some f ↦ Some f | None ↦ refused ] ≡ None → and_then r more ≡ places_of_access r ++ others
granted_where (Ok places) refused more others rest e = ap (λ (xs : List Place). places ++ xs) (rest e)
granted_where (Err f) refused more others rest e = absurd cc

granted_places : (w : World) (xs : List Write) → first_write_fault w xs ≡ None → write_places w xs ≡ places_of_writes w xs
unfolding write_places first_write_fault write_fault access_fault
granted_places w [] e = refl
granted_places w (x ∷ xs) e =
    granted_where (access w x.seg x.off (byte_count x.width) true) (first_write_fault w xs) (write_places w xs) (places_of_writes w xs)
    (granted_places w xs) e

-- ---- an instruction that is carried out

not_refused : (o : Option Fault) (x u : MachineView) →
    elim o as (λ _. Result MachineView Event) [ Some f ↦ Err (fault f) | None ↦ Ok x ] ≡ Ok u → o ≡ None
not_refused None x u e = refl
not_refused (Some f) x u e = absurd cc

commit_granted : (v u : MachineView) (p : Pending) → after_commit v p ≡ Ok u → first_write_fault v.world p.writes ≡ None
unfolding after_commit
commit_granted v u p e = not_refused (first_write_fault v.world p.writes) (with_state p.regs p.vif (after_writes v p.writes)) u e

written_behind : (v u : MachineView) (r : Result Pending Event) → after_plan v r ≡ Ok u →
    places_after_reads v.world r ≡ written_by v.world r
unfolding after_plan
written_behind v u (Ok p) e = granted_places v.world p.writes (commit_granted v u p e)
written_behind v u (Err event) e = absurd cc

-- the last of three lists
abbrev AreIn : List Place → List Place → Type 0
AreIn places some = All (Contains places) some

last_in : (first second third : List Place) → AreIn (first ++ (second ++ third)) third
last_in first second third =
    All-weaker (Contains third) (Contains (first ++ (second ++ third)))
    (λ p here. Contains-append_right first (second ++ third) p (Contains-append_right second third p here)) third
    (All-contains_itself third)

executed_in : (v u : MachineView) (insn : Insn) (len : ℕ) (before : List Place) → after_instruction v insn len ≡ Ok u →
    AreIn (before ++ touched_by_decoded v.world (Whole insn len)) (written_of v.world (Whole insn len))
unfolding after_instruction
executed_in v u insn len before e =
    let w = with_next_eip len v.world in
    let act = client_row w insn len in
    let same = written_behind (view_with_next_eip len v) u (plan_result w act) e in
    subst (AreIn (before ++ touched_by_instruction w act)) same
    (last_in before (read_places w act) (places_after_reads w (plan_result w act)))

decoded_in : (v u : MachineView) (d : Decoded) (before : List Place) → step_of v d ≡ Ok u →
    AreIn (before ++ touched_by_decoded v.world d) (written_of v.world d)
decoded_in v u (Whole insn len) before e = executed_in v u insn len before e
decoded_in v u More before e = absurd cc
decoded_in v u Invalid before e = absurd cc

pub written_touched : (v u : MachineView) → client_step v ≡ Ok u → AreIn (touched_by_step v.world) (written_places v.world)
unfolding client_step touched_by_step written_places
written_touched v u e = let w = v.world in decoded_in v u (decoded (has_big_code w) (code w)) (touched_by_fetch w 0 code_room) e

-- ---- a software interrupt whose pushes are made

-- they are accesses through SS
abbrev AreOnStack : List Write → Type 0
AreOnStack [] = Unit {0}
AreOnStack (x ∷ xs) = (x.seg ≡ Ss) × AreOnStack xs

-- the instruction pointer has no part in such an access
stack_base : (mode : Mode) (r : Regs) (eip : ℕ) (rows : List Row) (off n : ℕ) →
    segment_base mode (record r { eip = eip }) rows Ss off n true ≡ segment_base mode r rows Ss off n true
unfolding segment_base
stack_base Real r eip rows off n = refl
stack_base Protected r eip rows off n = refl

stack_access : (w : World) (len : ℕ) (seg : SegReg) (off n : ℕ) → seg ≡ Ss →
    access (with_next_eip len w) seg off n true ≡ access w seg off n true
unfolding access
stack_access w len seg off n is = grind (arith, stack_base)

stack_places : (w : World) (len : ℕ) (xs : List Write) → AreOnStack xs → places_of_writes (with_next_eip len w) xs ≡ places_of_writes w xs
stack_places w len [] on = refl
stack_places w len (x ∷ xs) on =
    ap (λ (r : Result (List Place) Fault). places_of_access r ++ places_of_writes (with_next_eip len w) xs)
    (stack_access w len x.seg x.off (byte_count x.width) on.0)
    ∙ ap (λ (more : List Place). places_of_access (access w x.seg x.off (byte_count x.width) true) ++ more) (stack_places w len xs on.1)

refused_first : Option Fault → Result (List Place) Fault → Option Fault
refused_first more r = elim (fault_of r) [ Some f ↦ Some f | None ↦ more ]

stack_refusal : (w : World) (len : ℕ) (xs : List Write) → AreOnStack xs →
    first_write_fault (with_next_eip len w) xs ≡ first_write_fault w xs
unfolding first_write_fault write_fault access_fault refused_first
stack_refusal w len [] on = refl
stack_refusal w len (x ∷ xs) on =
    ap (refused_first (first_write_fault (with_next_eip len w) xs)) (stack_access w len x.seg x.off (byte_count x.width) on.0)
    ∙ ap (λ (more : Option Fault). refused_first more (access w x.seg x.off (byte_count x.width) true)) (stack_refusal w len xs on.1)

-- what an interrupt pushes lies at the same places, whatever the instruction pointer is that it pushes
abbrev pushes : World → ℕ → List Write
pushes w len = (interrupt_push (with_next_eip len w)).writes

pushes_on_stack : (w : World) (len : ℕ) → AreOnStack (pushes w len)
unfolding interrupt_push with_pushed_number
pushes_on_stack w len = (refl, (refl, (refl, tt)))

same_pushes : (w : World) (one other : ℕ) → places_of_writes w (pushes w one) ≡ places_of_writes w (pushes w other)
unfolding interrupt_push with_pushed_number has_big_stack
same_pushes w one other = refl

same_refusal : (w : World) (one other : ℕ) → first_write_fault w (pushes w one) ≡ first_write_fault w (pushes w other)
unfolding interrupt_push with_pushed_number has_big_stack first_write_fault write_fault
same_refusal w one other = refl

interrupt_places_same : (w : World) (one other : ℕ) → interrupt_places w one ≡ interrupt_places w other
interrupt_places_same w one other = grind (arith, pushes_on_stack, same_pushes, stack_places)

refusal_same : (w : World) (one other : ℕ) → first_write_fault (with_next_eip one w) (pushes w one)
    ≡ first_write_fault (with_next_eip other w) (pushes w other)
refusal_same w one other = grind (arith, pushes_on_stack, same_refusal, stack_refusal)

interrupt_granted_by : (o : Option Fault) (r : Result MachineView Fault) (u : MachineView) →
    elim o as (λ _. Result MachineView Fault) [ Some f ↦ Err f | None ↦ r ] ≡ Ok u → o ≡ None
interrupt_granted_by None r u e = refl
interrupt_granted_by (Some f) r u e = absurd cc

interrupt_granted : (v u : MachineView) (n len : ℕ) → software_interrupt v n len ≡ Ok u →
    first_write_fault (with_next_eip len v.world) (pushes v.world len) ≡ None
unfolding software_interrupt
interrupt_granted v u n len e = interrupt_granted_by (first_write_fault (with_next_eip len v.world) (pushes v.world len)) _ u e

-- an event of a plan is that of the plan
event_was : (v : MachineView) (o : Option Fault) (x : MachineView) (number len : ℕ) →
    elim o as (λ _. Result MachineView Event) [ Some f ↦ Err (fault f) | None ↦ Ok x ] ≡ Err (Soft number len) → ⊥
event_was v None x number len e = cc
event_was v (Some f) x number len e = cc

no_commit : (v : MachineView) (p : Pending) (number len : ℕ) → after_commit v p ≡ Err (Soft number len) → ⊥
unfolding after_commit
no_commit v p number len e =
    event_was v (first_write_fault v.world p.writes) (with_state p.regs p.vif (after_writes v p.writes)) number len e

plan_was : (v : MachineView) (r : Result Pending Event) (number len : ℕ) → after_plan v r ≡ Err (Soft number len) →
    r ≡ Err (Soft number len)
unfolding after_plan
plan_was v (Ok p) number len e = absurd (no_commit v p number len e)
plan_was v (Err event) number len e = cc

-- the third of four lists
third_in : (first second third fourth : List Place) → AreIn (first ++ (second ++ (third ++ fourth))) third
third_in first second third fourth =
    All-weaker (Contains third) (Contains (first ++ (second ++ (third ++ fourth))))
    (λ p here. Contains-append_right first (second ++ (third ++ fourth)) p
    (Contains-append_right second (third ++ fourth) p (Contains-append_left third fourth p here))) third (All-contains_itself third)

executed_pushes : (v : MachineView) (insn : Insn) (long number len : ℕ) (before : List Place) →
    after_instruction v insn long ≡ Err (Soft number len) → first_write_fault (with_next_eip long v.world) (pushes v.world long) ≡ None →
    AreIn (before ++ touched_by_decoded v.world (Whole insn long)) (interrupt_places v.world long)
unfolding after_instruction
executed_pushes v insn long number len before e granted =
    let w = with_next_eip long v.world in
    let act = client_row w insn long in
    let xs = (interrupt_push w).writes in
    let plan = plan_was (view_with_next_eip long v) (plan_result w act) number len e in
    let behind_is = ap (places_after_reads w) plan in
    let written_is = granted_places w xs granted in
    subst (λ (places : List Place). AreIn (before ++ (read_places w act ++ places)) (places_of_writes w xs)) (sym behind_is)
    (subst (λ (places : List Place).
    AreIn (before ++ (read_places w act ++ (places ++ vector_read_places w number))) (places_of_writes w xs)) (sym written_is)
    (third_in before (read_places w act) (places_of_writes w xs) (vector_read_places w number)))

decoded_pushes : (v : MachineView) (d : Decoded) (number len : ℕ) (before : List Place) → step_of v d ≡ Err (Soft number len) →
    first_write_fault (with_next_eip len v.world) (pushes v.world len) ≡ None →
    AreIn (before ++ touched_by_decoded v.world d) (interrupt_places v.world len)
decoded_pushes v (Whole insn long) number len before e granted =
    subst (AreIn (before ++ touched_by_decoded v.world (Whole insn long))) (interrupt_places_same v.world long len)
    (executed_pushes v insn long number len before e (refusal_same v.world long len ∙ granted))
decoded_pushes v More number len before e granted = absurd cc
decoded_pushes v Invalid number len before e granted = absurd cc

pub pushed_touched : (v u : MachineView) (number len : ℕ) → client_step v ≡ Err (Soft number len) → software_interrupt v number len ≡ Ok u →
    AreIn (touched_by_step v.world) (interrupt_places v.world len)
unfolding client_step touched_by_step
pushed_touched v u number len e made =
    let w = v.world in
    decoded_pushes v (decoded (has_big_code w) (code w)) number len (touched_by_fetch w 0 code_room) e
    (interrupt_granted v u number len made)

-- ---- they are the client's

run_held : (w : World) (places : List Place) → CanWriteAll w places → All (IsHeld w) places
run_held w places can =
    λ k d less. subst (IsHeld w) (get_or_default places k Nothing d less) (held_there w (slice_index_or places k Nothing) (can k less))

access_held : (w : World) (r : Result (List Place) Fault) → ((places : List Place) → r ≡ Ok places → CanWriteAll w places) →
    All (IsHeld w) (places_of_access r)
access_held w (Ok places) can = run_held w places (can places refl)
access_held w (Err f) can = All-nil (IsHeld w)

writes_held : (w : World) (xs : List Write) → All (IsHeld w) (places_of_writes w xs)
writes_held w [] = All-nil (IsHeld w)
writes_held w (x ∷ xs) =
    All-append (IsHeld w) (places_of_access (access w x.seg x.off (byte_count x.width) true)) (places_of_writes w xs)
    (access_held w (access w x.seg x.off (byte_count x.width) true) (can_write w x.seg x.off (byte_count x.width)))
    (writes_held w xs)

moved_held : (w : World) (len : ℕ) (xs : List Write) → All (IsHeld w) (places_of_writes (with_next_eip len w) xs)
moved_held w len xs =
    All-weaker (IsHeld (with_next_eip len w)) (IsHeld w) (held_before w len) (places_of_writes (with_next_eip len w) xs)
    (writes_held (with_next_eip len w) xs)

pub pushed_held : (w : World) (len : ℕ) → All (IsHeld w) (interrupt_places w len)
pushed_held w len = moved_held w len (interrupt_push (with_next_eip len w)).writes

plan_held : (w : World) (len : ℕ) (r : Result Pending Event) → All (IsHeld w) (written_by (with_next_eip len w) r)
plan_held w len (Ok p) = moved_held w len p.writes
plan_held w len (Err e) = All-nil (IsHeld w)

decoded_held : (w : World) (d : Decoded) → All (IsHeld w) (written_of w d)
decoded_held w (Whole insn len) = plan_held w len (plan_result (with_next_eip len w) (client_row (with_next_eip len w) insn len))
decoded_held w More = All-nil (IsHeld w)
decoded_held w Invalid = All-nil (IsHeld w)

pub written_held : (w : World) → All (IsHeld w) (written_places w)
unfolding written_places
written_held w = decoded_held w (decoded (has_big_code w) (code w))
