-- A callback that starts, and a return that is made: what was asked holds, the world after it, what they leave as it was, and the records.
use Rattle.std.proofs.Common.{◌≡◌, ℕ, ◌<◌, Bool, true, false, [], ◌∷◌, ◌++◌, refl, Option, None, Some, Result, Ok, Err, List, ap, ◌∙◌, sym}
use Rattle.std.proofs.{Common.{subst}, lemmas.Bool.{leb-false}}
use Rattle.std.specs.Prelude.{nat_le, if◌then◌else◌}
use Rattle.client_world.specs.{declared.calls.Record.{Record}, declared.calls.Record.TheVariants.{Sim, Back, Exc}}
use Rattle.client_world.specs.{declared.limits.TheConstants.{GREATEST_DEPTH}, declared.outcome.Exit.{Exit}}
use Rattle.client_world.specs.{declared.segments.FarPtr.{FarPtr}, declared.segments.SegReg.TheVariants.{Cs}, Access.{is_reachable}}
use Rattle.client_world.specs.{Loading.{is_loadable}, Services.{es_di}, World.{Callback, World, depth}}
use Rattle.client_world.specs.{declared.registers.Mode.TheVariants.{Protected}, Selector.{Row}}
use Rattle.guest_space.specs.{VectorLists.{callback_of_slot}, Far.{world_after_far_write}, Transfer.{HasOtherMemory}}
use Rattle.mode_stack.specs.Stack.{top}
use Rattle.translation.specs.{declared.structure.TheConstants.{STRUCTURE_SIZE}, Structure.{structure_bytes}}
use Rattle.translation.proofs.Begun.{some_record, passed}
use Rattle.callbacks.specs.Callbacks.{after_entering, after_leaving, enter_callback, entered_slot, leave_callback, left_record}
use Rattle.callbacks.specs.Callbacks.{with_stack_row, caller_structure, callback_frame_start, callback_frame_size, procedure_regs}
use Rattle.callbacks.specs.{Callbacks.{callback_frame, with_frame_and_structure}, HandOver.{IsCallbackPopped, IsCallbackPushed}}
use Rattle.callbacks.specs.HandOver.{LeftForProcedure, LeftForReal}
use Rattle.mode_stack.proofs.Trips.{but_last, split_last}
use Rattle.guest_space.proofs.{FarLaws.{other_far_put}, MemoryAlone.{other_then}}
use Rattle.client_world.specs.declared.outcome.Exit.TheVariants as exits

-- a callback that starts
pub record IsStart (w u : World) (slot : ℕ) : Type 0 where
  pub procedure : FarPtr
  pub at : FarPtr
  pub held : callback_of_slot w.callbacks slot ≡ Some (procedure, at)
  pub room : depth w < GREATEST_DEPTH
  pub code : is_loadable (with_stack_row w) Cs procedure.sel procedure.off false ≡ true
  pub there : is_reachable (with_stack_row w) at STRUCTURE_SIZE true ≡ true
  pub is : u ≡ after_entering (with_stack_row w) slot procedure at

not_there : (b : Bool) (e : Exit) (r : Result World Exit) (u : World) → (if b then Err e else r) ≡ Ok u → (b ≡ false) × (r ≡ Ok u)
not_there true e r u h = absurd cc
not_there false e r u h = (refl, h)

start_of : (w u : World) (slot : ℕ) (o : Option Callback) → callback_of_slot w.callbacks slot ≡ o → entered_slot w slot o ≡ Ok u →
    IsStart w u slot
start_of w u slot None held e = absurd cc
start_of w u slot (Some (procedure, at)) held e =
    let room = not_there (nat_le GREATEST_DEPTH (depth w)) exits.Deep _ u e in
    let code = passed (is_loadable (with_stack_row w) Cs procedure.sel procedure.off false) exits.BadFrame _ u room.1 in
    let there = passed (is_reachable (with_stack_row w) at STRUCTURE_SIZE true) exits.LostStructure _ u code.1 in
    record {
      procedure = procedure;
      at = at;
      held = held;
      room = leb-false GREATEST_DEPTH (depth w) room.0;
      code = code.0;
      there = there.0;
      is = (let same = there.1 in cc);
    }

pub is_start : (w u : World) (slot : ℕ) → enter_callback w slot ≡ Ok u → IsStart w u slot
unfolding enter_callback
is_start w u slot e = start_of w u slot (callback_of_slot w.callbacks slot) refl e

-- a return that is made
pub record IsBack (w u : World) : Type 0 where
  pub slot : ℕ
  pub at : FarPtr
  pub some : 0 < depth w
  pub popped : w.calls ≡ but_last w.calls ++ Back slot at ∷ []
  pub is : u ≡ after_leaving w (structure_bytes w (es_di w))

where_read : (can : Bool) (w u : World) → (if can then Ok w else Err exits.LostStructure) ≡ Ok u → u ≡ w
where_read true w u e = cc
where_read false w u e = absurd cc

back_of : (w u : World) (o : Option Record) → top w ≡ o → left_record w o ≡ Ok u → IsBack w u
back_of w u None is e = absurd cc
back_of w u (Some (Sim call saved on at)) is e = absurd cc
back_of w u (Some (Exc number code)) is e = absurd cc
back_of w u (Some (Back slot at)) is e = record {
  slot = slot;
  at = at;
  some = some_record w.calls (Back slot at) is;
  popped = split_last w.calls (Back slot at) is;
  is = where_read (is_reachable w (es_di w) STRUCTURE_SIZE false) (after_leaving w (structure_bytes w (es_di w))) u e;
}

pub is_back : (w u : World) → leave_callback w ≡ Ok u → IsBack w u
unfolding leave_callback
is_back w u e = back_of w u (top w) refl e

-- ---- what stays

-- the frame and the structure are memory
pub memory_alone : (w : World) (slot : ℕ) (at : FarPtr) → HasOtherMemory w (with_frame_and_structure w slot at)
unfolding with_frame_and_structure
memory_alone w slot at =
    let first = world_after_far_write w (callback_frame_start w) (callback_frame_size w) (callback_frame w) in
    other_then w first (world_after_far_write first at STRUCTURE_SIZE (caller_structure w slot))
    (other_far_put w (callback_frame_start w) (callback_frame_size w) (callback_frame w))
    (other_far_put first at STRUCTURE_SIZE (caller_structure w slot))

entering_left : (w : World) (slot : ℕ) (procedure at : FarPtr) → LeftForProcedure w (after_entering (with_stack_row w) slot procedure at)
unfolding after_entering with_stack_row
entering_left w slot procedure at =
    let x = with_stack_row w in
    let y = with_frame_and_structure x slot at in
    let regs = procedure_regs x procedure at in
    let calls = w.calls ++ Back slot at ∷ [] in
    ap (λ (u : World). record u { mode = Protected; regs = regs; vif = false; calls = calls }) (memory_alone x slot at)
    ∙ ap (λ (rows : List Row).
    record w { mode = Protected; regs = regs; vif = false; dos = y.dos; blocks = y.blocks; descriptors = rows; calls = calls })
    (sym (ap (λ (u : World). u.descriptors) (memory_alone x slot at)))

pub enter_left : (w u : World) (slot : ℕ) → enter_callback w slot ≡ Ok u → LeftForProcedure w u
enter_left w u slot e =
    let start = is_start w u slot e in
    subst (λ (x : World). LeftForProcedure w x) (sym start.is) (entering_left w slot start.procedure start.at)

leaving_left : (w : World) (s : List ℕ) → LeftForReal w (after_leaving w s)
unfolding after_leaving
leaving_left w s = refl

pub leave_left : (w u : World) → leave_callback w ≡ Ok u → LeftForReal w u
leave_left w u e = subst (λ (x : World). LeftForReal w x) (sym (is_back w u e).is) (leaving_left w _)

-- the records

pub entering_calls : (w : World) (slot : ℕ) (procedure at : FarPtr) →
    (after_entering (with_stack_row w) slot procedure at).calls ≡ w.calls ++ Back slot at ∷ []
unfolding after_entering with_stack_row
entering_calls w slot procedure at = refl

pub leaving_calls : (w : World) (s : List ℕ) → (after_leaving w s).calls ≡ but_last w.calls
unfolding after_leaving
leaving_calls w s = refl

pub enter_pushes : (w u : World) (slot : ℕ) → enter_callback w slot ≡ Ok u → IsCallbackPushed w u slot
enter_pushes w u slot e =
    let start = is_start w u slot e in
    record {
      procedure = start.procedure;
      at = start.at;
      held = start.held;
      pushed = ap (λ (x : World). x.calls) start.is ∙ entering_calls w slot start.procedure start.at;
    }

pub leave_pops : (w u : World) → leave_callback w ≡ Ok u → IsCallbackPopped w u
leave_pops w u e =
    let back = is_back w u e in
    let rest : u.calls ≡ but_last w.calls = ap (λ (x : World). x.calls) back.is ∙ leaving_calls w _ in
    record {
      slot = back.slot;
      at = back.at;
      popped = back.popped ∙ ap (λ (xs : List Record). xs ++ Back back.slot back.at ∷ []) (sym rest);
      is = back.is;
    }
