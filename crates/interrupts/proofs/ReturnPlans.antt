-- A return writes nothing, so that it can be made where its plan can; in real mode a frame can be popped exactly where its three words lie
-- inside the stack segment.
use Rattle.std.proofs.Common.{◌≡◌, ℕ, Bool, true, [], refl, ap, ◌∙◌, Option, None, Some, Result, Ok, Err, ◌+◌, ◌*◌, ◌%◌, ◌<◌, ◌^◌, false}
use Rattle.std.proofs.{Common.{◌&&◌, List, sym, subst, arith}, lemmas.Bool.{leb-true, lt-ltb}, Math.Bool.{and-true, and_assoc}}
use Rattle.std.proofs.Math.Nat.{mod-add-mod}
use Rattle.std.specs.Prelude.{is_ok, nat_le}
use Rattle.client_world.specs.{declared.faults.Event.{Event}, declared.faults.Event.TheVariants.{Fault as fault}}
use Rattle.client_world.specs.{declared.faults.Fault.{Fault}, Loading.{transfer_fault}, Registers.{low_half}, World.{World, MemoryBlock}}
use Rattle.client_world.specs.Access.{access, dos_address, linear, place_in, places_from, segment_base, touched_places}
use Rattle.client_world.specs.declared.memory_map.TheConstants.{DOS_VIEW_END, PARAGRAPH_SIZE, SEGMENT_SIZE}
use Rattle.client_world.specs.{declared.place.Place.TheVariants.{Dos}, declared.registers.Mode.{Mode}}
use Rattle.client_world.specs.{declared.registers.Mode.TheVariants.{Real}, declared.segments.SegReg.TheVariants.{Ss}, Soundness.{IsSound}}
use Rattle.exec_flow.specs.{FarTransfers.{far_transfer, interrupt_frame_pop}, FlagImages.{with_popped_flags}, Interrupts.{frame_bits}}
use Rattle.guest_space.proofs.Writes.{first_none}
use Rattle.guest_space.specs.{Pending.{after_writes, first_write_fault}, Transfer.{bytes_at, read_result}}
use Rattle.host_memory.specs.View.{MachineView}
use Rattle.insn_plan.specs.Act.{Act, Input, Pending, Read, done, unchanged, unless_fault, value_of, with_regs, From, number_read}
use Rattle.insn_plan.specs.{Plan.{after_plan, plan_result, after_commit, with_state}, Stack.{stack_item, regs_after_pops, has_big_stack}}
use Rattle.interrupts.specs.{Delivery.{result_of_pop, after_iret}, RealFrames.{frame_fits, word_fits}, Worlds.{view_without_bytes}}
use Rattle.interrupts.specs.Worlds.{world_of_result, world_after_iret}
use Rattle.client_world.proofs.PlaceLaws.{place-dos}

-- a plan without writes, where there is one
abbrev pub WritesNothing : Result Pending Event → Type 0
WritesNothing (Ok p) = p.writes ≡ []
WritesNothing (Err e) = Unit {0}

-- an act whose plan has none
abbrev pub IsQuiet : World → Act → Type 0
IsQuiet w act = WritesNothing (plan_result w act)

by_value : (w : World) (r : Result ℕ Event) (rest : ℕ → Act) → ((v : ℕ) → IsQuiet w (rest v)) →
    WritesNothing (elim r [ Ok v ↦ plan_result w (rest v) | Err e ↦ Err e ])
by_value w (Ok v) rest quiet = quiet v
by_value w (Err e) rest quiet = tt

pub quiet_read : (w : World) (input : Input) (rest : ℕ → Act) → ((v : ℕ) → IsQuiet w (rest v)) → IsQuiet w (Read input rest)
quiet_read w input rest quiet = by_value w (value_of w input) rest quiet

quiet_unless : (w : World) (o : Option Fault) (p : Pending) → p.writes ≡ [] → IsQuiet w (unless_fault o (done p))
quiet_unless w None p none = none
quiet_unless w (Some f) p none = tt

pub quiet_transfer : (w : World) (sel ip : ℕ) (return : Bool) (p : Pending) → p.writes ≡ [] → IsQuiet w (far_transfer w sel ip return p)
unfolding far_transfer
quiet_transfer w sel ip return p none = quiet_unless w (transfer_fault w sel ip return) _ none

popped_none : (w : World) (image : ℕ) (p : Pending) → p.writes ≡ [] → (with_popped_flags w image p).writes ≡ []
unfolding with_popped_flags
popped_none w image p none = none

-- what the frame's items lead to
abbrev pub left : World → ℕ → ℕ → Pending
left w bits image = with_popped_flags w image (with_regs (regs_after_pops w bits 3 w.regs) (unchanged w))

abbrev pub with_image : World → ℕ → ℕ → ℕ → ℕ → Act
with_image w bits ip cs image = far_transfer w (low_half cs) ip true (left w bits image)

abbrev pub with_cs : World → ℕ → ℕ → ℕ → Act
with_cs w bits ip cs = Read (stack_item w bits 2) (with_image w bits ip cs)

abbrev pub with_ip : World → ℕ → ℕ → Act
with_ip w bits ip = Read (stack_item w bits 1) (with_cs w bits ip)

quiet_image : (w : World) (bits ip cs image : ℕ) → IsQuiet w (with_image w bits ip cs image)
quiet_image w bits ip cs image =
    quiet_transfer w (low_half cs) ip true (left w bits image)
    (popped_none w image (with_regs (regs_after_pops w bits 3 w.regs) (unchanged w)) refl)

quiet_cs : (w : World) (bits ip cs : ℕ) → IsQuiet w (with_cs w bits ip cs)
quiet_cs w bits ip cs = quiet_read w (stack_item w bits 2) (with_image w bits ip cs) (quiet_image w bits ip cs)

quiet_ip : (w : World) (bits ip : ℕ) → IsQuiet w (with_ip w bits ip)
quiet_ip w bits ip = quiet_read w (stack_item w bits 1) (with_cs w bits ip) (quiet_cs w bits ip)

pub quiet_frame : (w : World) (bits : ℕ) → IsQuiet w (interrupt_frame_pop w bits)
unfolding interrupt_frame_pop
quiet_frame w bits = quiet_read w (stack_item w bits 0) (with_ip w bits) (quiet_ip w bits)

-- such a plan is carried out
popped_where_granted : (o : Option Fault) (v : MachineView) → o ≡ None →
    is_ok (result_of_pop (elim o [ Some f ↦ Err (fault f) | None ↦ Ok v ])) ≡ true
popped_where_granted None v e = refl
popped_where_granted (Some f) v e = absurd cc

quiet_settled : (v : MachineView) (p : Pending) → p.writes ≡ [] → is_ok (result_of_pop (after_commit v p)) ≡ true
unfolding after_commit
quiet_settled v p none =
    popped_where_granted (first_write_fault v.world p.writes) (with_state p.regs p.vif (after_writes v p.writes))
    (ap (first_write_fault v.world) none ∙ first_none v.world)

quiet_carried : (v : MachineView) (r : Result Pending Event) → WritesNothing r → is_ok (result_of_pop (after_plan v r)) ≡ is_ok r
unfolding after_plan
quiet_carried v (Ok p) none = quiet_settled v p none
quiet_carried v (Err e) none = refl

pub return_is_made : (v : MachineView) →
    is_ok (after_iret v) ≡ is_ok (plan_result v.world (interrupt_frame_pop v.world (frame_bits v.world)))
unfolding after_iret
return_is_made v = quiet_carried v _ (quiet_frame v.world (frame_bits v.world))

-- ---- frames of real mode

-- the world in real mode
abbrev real : World → World
real w = record w { mode = Real }

-- ---- a word of the stack

-- a word where it fits, and a fault where not
abbrev IsWordWhere : Bool → Result ℕ Event → Type 0
IsWordWhere fits (Ok v) = (fits ≡ true) × (v < 0x10000)
IsWordWhere fits (Err e) = fits ≡ false

in_view : (blocks : List (Option MemoryBlock)) (l : ℕ) → l < DOS_VIEW_END → place_in blocks (linear l) ≡ Dos (dos_address l)
in_view blocks l below = let same : l % 2 ^ 32 ≡ l = omega arith in ap (place_in blocks) same ∙ place-dos blocks l below

word_in_view : (w : World) (at : ℕ) → IsSound w → at + 1 < DOS_VIEW_END →
    IsWordWhere true (number_read (bytes_at w (touched_places (places_from w.blocks at 2) false)))
unfolding places_from
word_in_view w at s below =
    rw (in_view w.blocks at (omega arith), in_view w.blocks (at + 1) below)
    (refl, omega (arith, s.megabyte.bytes (dos_address at), s.megabyte.bytes (dos_address (at + 1))))

word_where : (w : World) (offset : ℕ) (fits : Bool) → IsSound w → nat_le (offset + 2) SEGMENT_SIZE ≡ fits →
    IsWordWhere fits (value_of (real w) (From Ss offset 2))
unfolding value_of read_result access segment_base
word_where w offset true s e =
    rw e (word_in_view w (w.regs.ss * PARAGRAPH_SIZE + offset) s (omega (arith, s.segments.ss, leb-true (offset + 2) SEGMENT_SIZE e)))
word_where w offset false s e = rw e refl

item_where : (w : World) (above : ℕ) → IsSound w →
    IsWordWhere (word_fits w.regs.esp above) (value_of (real w) (stack_item (real w) 16 above))
unfolding stack_item has_big_stack
item_where w above s = rw mod-add-mod (word_where w ((w.regs.esp + 2 * above) % SEGMENT_SIZE) _ s refl)

-- ---- what is popped

-- the plan of the act is made where that holds
abbrev IsMadeWhere : World → Bool → Act → Type 0
IsMadeWhere w fits act = is_ok (plan_result w act) ≡ fits

read_where : (w : World) (r : Result ℕ Event) (rest : ℕ → Act) (fits later : Bool) → IsWordWhere fits r →
    ((v : ℕ) → v < 0x10000 → is_ok (plan_result w (rest v)) ≡ later) →
    is_ok (elim r [ Ok v ↦ plan_result w (rest v) | Err e ↦ Err e ]) ≡ (fits && later)
read_where w (Ok v) rest fits later word made = rw (word.0, made v word.1) refl
read_where w (Err e) rest fits later none made = rw none refl

item_made : (w : World) (above : ℕ) (rest : ℕ → Act) (later : Bool) → IsSound w →
    ((v : ℕ) → v < 0x10000 → IsMadeWhere (real w) later (rest v)) →
    IsMadeWhere (real w) (word_fits w.regs.esp above && later) (Read (stack_item (real w) 16 above) rest)
item_made w above rest later s made = read_where (real w) _ rest _ later (item_where w above s) (λ v small. made v small)

image_made : (w : World) (ip cs image : ℕ) → ip < 0x10000 → IsMadeWhere (real w) true (with_image (real w) 16 ip cs image)
unfolding far_transfer
image_made w ip cs image small = rw (lt-ltb ip SEGMENT_SIZE small) refl

cs_made : (w : World) (ip cs : ℕ) → IsSound w → ip < 0x10000 → IsMadeWhere (real w) (word_fits w.regs.esp 2) (with_cs (real w) 16 ip cs)
cs_made w ip cs s small = item_made w 2 (with_image (real w) 16 ip cs) true s (λ image _. image_made w ip cs image small) ∙ and-true _

ip_made : (w : World) (ip : ℕ) → IsSound w → ip < 0x10000 →
    IsMadeWhere (real w) (word_fits w.regs.esp 1 && word_fits w.regs.esp 2) (with_ip (real w) 16 ip)
ip_made w ip s small = item_made w 1 (with_cs (real w) 16 ip) _ s (λ cs _. cs_made w ip cs s small)

frame_made : (w : World) → IsSound w → is_ok (plan_result (real w) (interrupt_frame_pop (real w) 16)) ≡ frame_fits w.regs.esp
unfolding interrupt_frame_pop
frame_made w s = item_made w 0 (with_ip (real w) 16) _ s (λ ip small. ip_made w ip s small) ∙ sym (and_assoc (word_fits w.regs.esp 0) _ _)

-- ---- of worlds

made_of_world : {E : Type 0} (r : Result MachineView E) → is_ok (world_of_result r) ≡ is_ok r
made_of_world (Ok v) = refl
made_of_world (Err e) = refl

popped_in_real : (w : World) → IsSound w → is_ok (world_after_iret (real w)) ≡ frame_fits w.regs.esp
unfolding world_after_iret
popped_in_real w s = made_of_world (after_iret (view_without_bytes (real w))) ∙ return_is_made (view_without_bytes (real w))
    ∙ frame_made w s

pub popped_where_it_fits : (w : World) → IsSound w → w.mode ≡ Real → is_ok (world_after_iret w) ≡ frame_fits w.regs.esp
popped_where_it_fits w s mode =
    let same : real w ≡ w = ap (λ (m : Mode). record w { mode = m }) (sym mode) in
    subst (λ (u : World). is_ok (world_after_iret u) ≡ frame_fits w.regs.esp) same (popped_in_real w s)
