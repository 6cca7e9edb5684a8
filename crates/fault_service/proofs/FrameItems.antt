-- The items of a frame on the host's stack: their bytes, and how a return reads them.
use Rattle.std.proofs.Common.{◌≡◌, ℕ, ◌*◌, List, [], ◌∷◌, length, replicate, refl, ◌∙◌, arith, ◌≢◌, ◌+◌, ◌<◌, ◌≤◌, ◌⊎◌, inl, inr, zero, suc}
use Rattle.std.proofs.{Common.{Bool, true, false, get_or, ap, Option, None, Result, Ok}, Math.Seq.{drop-append-add}}
use Rattle.guest_ram.specs.Bytes.{put, region}
use Rattle.fault_service.specs.{Delivery.{items_bytes}, Return.{pending_of_exception_frame, exception_frame_pop, frame_regs}}
use Rattle.fault_service.specs.Trip.{cut_item}
use Rattle.guest_ram.proofs.PutLaws.{put_all}
use Rattle.client_world.specs.{declared.faults.Event.{Event}, declared.faults.Fault.{Fault}, declared.limits.TheConstants.{GREATEST_DEPTH}}
use Rattle.client_world.specs.{declared.memory_map.TheConstants.{PROTECTED_STACK_SIZE}, declared.registers.Mode.TheVariants.{Protected}}
use Rattle.client_world.specs.{declared.registers.TheConstants.{INTERRUPT_BIT}, declared.segments.SegReg.TheVariants.{Cs, Ss}}
use Rattle.client_world.specs.{declared.selectors.TheConstants.{HOST_STACKS}, Loading.{load_fault}, Registers.{has_bit, low_half}}
use Rattle.client_world.specs.{Selector.{selector_of}, Soundness.{IsSound}, World.{World}}
use Rattle.guest_space.specs.{Far.{far_bytes}, Pending.{byte_count, number_bytes}, Transfer.{read_result}}
use Rattle.guest_space.proofs.{FarLaws.{part_is_read}, HostStacks.{stacks_at, stacks_loaded, stacks_reachable}, WriteRuns.{count_some}}
use Rattle.host_memory.specs.View.{MachineView}
use Rattle.insn_forms.specs.Grammar.{little_endian}
use Rattle.insn_plan.specs.{Act.{Act, Pending, number_read, unless_fault, value_of}, Plan.{after_plan, plan_result, with_state}}
use Rattle.insn_plan.specs.{Registers.{cut_address}, Stack.{stack_item, stack_pointer_up}}
use Rattle.insn_plan.proofs.WrittenState.{carried_by}
use Rattle.fault_service.proofs.Plans.{settled_is}
use Rattle.exec_flow.proofs.EnterLaws.{planned_read}

pub length-words : (items : List ℕ) → length (items_bytes 16 items) ≡ 2 * length items
length-words [] = refl
length-words (x ∷ xs) = let rest = length-words xs in omega arith

pub length-dwords : (items : List ℕ) → length (items_bytes 32 items) ≡ 4 * length items
length-dwords [] = refl
length-dwords (x ∷ xs) = let rest = length-dwords xs in omega arith

pub all_words : (items into : List ℕ) → length items ≡ 8 → into ≡ put (replicate 16 0) 0 (items_bytes 16 items) →
    into ≡ items_bytes 16 items
all_words items into size e = e ∙ put_all (replicate 16 0) (items_bytes 16 items) (omega (arith, length-words items, size))

pub all_dwords : (items into : List ℕ) → length items ≡ 8 → into ≡ put (replicate 32 0) 0 (items_bytes 32 items) →
    into ≡ items_bytes 32 items
all_dwords items into size e = e ∙ put_all (replicate 32 0) (items_bytes 32 items) (omega (arith, length-dwords items, size))

-- a world whose stack pointer is above the return address of a frame at that offset of the host's stacks
pub record AtFrame (w : World) (bits offset : ℕ) (frame : List ℕ) : Type 0 where
  pub sound : IsSound w
  pub mode : w.mode ≡ Protected
  pub width : w.width ≢ None
  pub ss : w.regs.ss ≡ selector_of HOST_STACKS
  pub esp : w.regs.esp ≡ offset + 2 * byte_count bits
  pub room : offset + 8 * byte_count bits ≤ GREATEST_DEPTH * PROTECTED_STACK_SIZE
  pub bytes : far_bytes w (stacks_at offset) (8 * byte_count bits) ≡ frame

cut_small : (big : Bool) (a : ℕ) → a < 0x10000 → cut_address big a ≡ a
cut_small true a small = omega arith
cut_small false a small = omega arith

pointer_is : (w : World) (n esp : ℕ) → w.regs.esp ≡ esp → esp + n < 0x10000 → stack_pointer_up w n w.regs ≡ esp + n
pointer_is w n esp e small = grind (arith, cut_small)

value_is : (w : World) (bits place off : ℕ) (bytes : List ℕ) → stack_pointer_up w (byte_count bits * place) w.regs ≡ off →
    read_result w Ss off (byte_count bits) ≡ Ok bytes → value_of w (stack_item w bits place) ≡ Ok (little_endian bytes)
unfolding value_of stack_item
value_is w bits place off bytes pointer e = ap (λ (a : ℕ). number_read (read_result w Ss a (byte_count bits))) pointer ∙ ap number_read e

item_is : (w : World) (bits offset : ℕ) (frame : List ℕ) (place at : ℕ) → AtFrame w bits offset frame →
    offset + 2 * byte_count bits + byte_count bits * place ≡ offset + at → at + byte_count bits ≤ 8 * byte_count bits →
    value_of w (stack_item w bits place) ≡ Ok (little_endian (region frame at (byte_count bits)))
item_is w bits offset frame place at h e within =
    grind (arith, count_some, part_is_read, pointer_is, stacks_loaded, stacks_reachable, value_is)

-- the values of the items above the return address
pub record ItemValues (w : World) (bits ip cs image sp ss : ℕ) : Type 0 where
  pub code : ℕ
  pub first : value_of w (stack_item w bits 0) ≡ Ok code
  pub second : value_of w (stack_item w bits 1) ≡ Ok ip
  pub third : value_of w (stack_item w bits 2) ≡ Ok cs
  pub fourth : value_of w (stack_item w bits 3) ≡ Ok image
  pub fifth : value_of w (stack_item w bits 4) ≡ Ok sp
  pub sixth : value_of w (stack_item w bits 5) ≡ Ok ss

pass : (w : World) (o : Option Fault) (act : Act) → o ≡ None → plan_result w (unless_fault o act) ≡ plan_result w act
pass w o act e = ap (λ (x : Option Fault). plan_result w (unless_fault x act)) e

-- the plan that they give
plan_is : (w : World) (bits ip cs image sp ss : ℕ) → ItemValues w bits ip cs image sp ss →
    load_fault w.descriptors Cs (low_half cs) ip true ≡ None → load_fault w.descriptors Ss (low_half ss) 0 false ≡ None →
    plan_result w (exception_frame_pop w bits) ≡ Ok (pending_of_exception_frame w ip (low_half cs) (low_half image) sp (low_half ss))
unfolding exception_frame_pop
plan_is w bits ip cs image sp ss h code stack = grind (arith, pass, planned_read)

carried_left : (y : MachineView) (plan : Result Pending Event) (p : Pending) → plan ≡ Ok p → p.writes ≡ [] →
    after_plan y plan ≡ Ok (with_state p.regs p.vif y)
carried_left y plan p e none = carried_by y plan p e ∙ settled_is y p none

pub popped_is : (y : MachineView) (bits ip cs image sp ss : ℕ) → ItemValues y.world bits ip cs image sp ss →
    load_fault y.world.descriptors Cs (low_half cs) ip true ≡ None → load_fault y.world.descriptors Ss (low_half ss) 0 false ≡ None →
    after_plan y (plan_result y.world (exception_frame_pop y.world bits)) ≡ Ok
    (with_state (frame_regs y.world.regs ip (low_half cs) (low_half image) sp (low_half ss)) (has_bit (low_half image) INTERRUPT_BIT) y)
popped_is y bits ip cs image sp ss h code stack =
    carried_left y (plan_result y.world (exception_frame_pop y.world bits))
    (pending_of_exception_frame y.world ip (low_half cs) (low_half image) sp (low_half ss))
    (plan_is y.world bits ip cs image sp ss h code stack) refl

-- the number of an item, of either width
item_value : (bits : ℕ) → (bits ≡ 16) ⊎ (bits ≡ 32) → (items : List ℕ) (k : ℕ) → k < length items →
    little_endian (region (items_bytes bits items) (byte_count bits * k) (byte_count bits)) ≡ cut_item bits (get_or items k 0)
unfolding region
item_value bits width [] k less = absurd (omega arith)
item_value bits width (x ∷ xs) zero less = elim width [ inl short ↦ rw short (omega arith) | inr long ↦ rw long (omega arith) ]
item_value bits width (x ∷ xs) (suc k) less =
    let next : byte_count bits * suc k ≡ length (number_bytes bits x) + byte_count bits * k =
    elim width [ inl short ↦ rw short (omega arith) | inr long ↦ rw long (omega arith) ] in
    rw (next, drop-append-add (number_bytes bits x) (items_bytes bits xs) (byte_count bits * k)) (item_value bits width xs k (omega arith))

pub item_values : (w : World) (bits offset a b code ip cs image sp ss : ℕ) → (bits ≡ 16) ⊎ (bits ≡ 32) →
    AtFrame w bits offset (items_bytes bits (a ∷ b ∷ code ∷ ip ∷ cs ∷ image ∷ sp ∷ ss ∷ [])) →
    ItemValues w bits (cut_item bits ip) (cut_item bits cs) (cut_item bits image) (cut_item bits sp) (cut_item bits ss)
item_values w bits offset a b code ip cs image sp ss width h =
    let items = a ∷ b ∷ code ∷ ip ∷ cs ∷ image ∷ sp ∷ ss ∷ [] in
    let frame = items_bytes bits items in
    let c = byte_count bits in
    record {
      code = cut_item bits code;
      first = item_is w bits offset frame 0 (c * 2) h (omega arith) (omega arith) ∙ ap Ok (item_value bits width items 2 (omega arith));
      second = item_is w bits offset frame 1 (c * 3) h (omega arith) (omega arith) ∙ ap Ok (item_value bits width items 3 (omega arith));
      third = item_is w bits offset frame 2 (c * 4) h (omega arith) (omega arith) ∙ ap Ok (item_value bits width items 4 (omega arith));
      fourth = item_is w bits offset frame 3 (c * 5) h (omega arith) (omega arith) ∙ ap Ok (item_value bits width items 5 (omega arith));
      fifth = item_is w bits offset frame 4 (c * 6) h (omega arith) (omega arith) ∙ ap Ok (item_value bits width items 6 (omega arith));
      sixth = item_is w bits offset frame 5 (c * 7) h (omega arith) (omega arith) ∙ ap Ok (item_value bits width items 7 (omega arith));
    }
