-- A call that isn't refused, a reflection and a return that are made: what was asked holds, the world after it, and the record that a
-- return took away.
use Rattle.std.proofs.Common.{◌≡◌, ℕ, ◌<◌, ◌≤◌, Bool, true, false, [], ◌∷◌, length, refl, Option, None, Some, Ok, Err, arith, ◌-◌, ◌||◌}
use Rattle.std.proofs.{Common.{not, List, ◌++◌, Result}, lemmas.Bool.{leb-false, ltb-false, not-false, and_parts}}
use Rattle.std.specs.{Prelude.{nat_le, if◌then◌else◌}, List.{slice_get}}
use Rattle.client_world.specs.{declared.calls.Call.{Call}, declared.limits.TheConstants.{GREATEST_DEPTH, MAX_CALL_WORDS}}
use Rattle.client_world.specs.{declared.registers.Regs.{Regs}, declared.services.Carry.TheVariants.{Clear, Set}, Services.{cx, es_di}}
use Rattle.client_world.specs.{World.{World, depth}, declared.calls.Record.{Record}, declared.calls.Record.TheVariants.{Sim, Back, Exc}}
use Rattle.client_world.specs.{declared.outcome.Exit.{Exit}, declared.segments.FarPtr.{FarPtr}, declared.segments.SegReg.TheVariants.{Cs}}
use Rattle.client_world.specs.{declared.segments.SegReg.TheVariants.{Ss}, Loading.{is_loadable}}
use Rattle.service_rows.specs.{declared.refusal.Refusal.{Refusal}, Reasons.{HasOtherAx, first_reason, outcome, service_answer}}
use Rattle.service_rows.proofs.AnswerLaws.{refused_answer}
use Rattle.translation.specs.SimulatedCall.{after_reflection, are_readable_words, begin_call, call_regs, call_service, call_words}
use Rattle.translation.specs.SimulatedCall.{called_world, has_stack, reflect, after_return, end_call, end_of_record, is_reflection}
use Rattle.translation.specs.Structure.{has_structure, structure_bytes, structure_flags, structure_regs}
use Rattle.mode_stack.specs.Stack.{top}
use Rattle.mode_stack.proofs.Trips.{but_last, split_last}
use Rattle.client_world.specs.declared.outcome.Exit.TheVariants as exits

none_refused : (o : Option Refusal) (w u : World) → (service_answer o w u).carry ≡ Clear → o ≡ None
none_refused None w u e = refl
none_refused (Some refusal) w u e = absurd cc

after_answer : (o : Option Refusal) (w u : World) → o ≡ None → (service_answer o w u).world ≡ u
after_answer None w u e = refl
after_answer (Some refusal) w u e = absurd cc

none_of_five : (p q r s t : Refusal) (a b c d e : Bool) → first_reason ((p, a) ∷ (q, b) ∷ (r, c) ∷ (s, d) ∷ (t, e) ∷ []) ≡ None →
    (a ≡ false) × (b ≡ false) × (c ≡ false) × (d ≡ false) × (e ≡ false)
none_of_five p q r s t true b c d e h = absurd cc
none_of_five p q r s t false true c d e h = absurd cc
none_of_five p q r s t false false true d e h = absurd cc
none_of_five p q r s t false false false true e h = absurd cc
none_of_five p q r s t false false false false true h = absurd cc
none_of_five p q r s t false false false false false h = (refl, refl, refl, refl, refl)

-- a call that runs
pub record Runs (w : World) (call : Call) (r : Regs) (image : ℕ) : Type 0 where
  pub few : cx w ≤ MAX_CALL_WORDS
  pub room : depth w < GREATEST_DEPTH
  pub there : has_structure w (es_di w) ≡ true
  pub readable : are_readable_words w 0 (cx w) ≡ true
  pub stack : has_stack (call_regs w call r (length (call_words w call image))) (length (call_words w call image)) ≡ true

runs_by : (w : World) (call : Call) (r : Regs) (image : ℕ) → first_reason (call_service w call r image).reasons ≡ None → Runs w call r image
unfolding call_service
runs_by w call r image e = grind (arith, leb-false, ltb-false, none_of_five, not-false)

world_after : (w : World) (call : Call) (r : Regs) (image : ℕ) → (outcome (call_service w call r image) w).carry ≡ Clear →
    (outcome (call_service w call r image) w).world ≡ called_world w call r image (call_words w call image)
unfolding call_service
world_after w call r image e = after_answer _ w _ (none_refused _ w _ e)

pub runs : (w : World) (call : Call) → (begin_call w call).carry ≡ Clear →
    Runs w call (structure_regs (structure_bytes w (es_di w))) (structure_flags (structure_bytes w (es_di w)))
unfolding begin_call
runs w call e =
    let s = structure_bytes w (es_di w) in
    let service = call_service w call (structure_regs s) (structure_flags s) in
    runs_by w call (structure_regs s) (structure_flags s) (none_refused (first_reason service.reasons) w service.after e)

pub begun_world : (w : World) (call : Call) → (begin_call w call).carry ≡ Clear → (begin_call w call).world
    ≡ called_world w call (structure_regs (structure_bytes w (es_di w))) (structure_flags (structure_bytes w (es_di w)))
    (call_words w call (structure_flags (structure_bytes w (es_di w))))
unfolding begin_call
begun_world w call e = let s = structure_bytes w (es_di w) in world_after w call (structure_regs s) (structure_flags s) e

pub refused_world : (w : World) (call : Call) → (begin_call w call).carry ≡ Set → HasOtherAx w (begin_call w call).world
unfolding begin_call
refused_world w call e = grind (arith, refused_answer)

-- a reflection that is made
pub record IsMade (w u : World) (n : ℕ) : Type 0 where
  pub room : depth w < GREATEST_DEPTH
  pub is : u ≡ after_reflection w n

made_where : (deep : Bool) (w u : World) (n : ℕ) → nat_le GREATEST_DEPTH (depth w) ≡ deep →
    (if deep then Err exits.Deep else Ok (after_reflection w n)) ≡ Ok u → IsMade w u n
made_where true w u n is e = absurd cc
made_where false w u n is e = record { room = leb-false GREATEST_DEPTH (depth w) is; is = cc }

pub is_made : (w u : World) (n : ℕ) → reflect w n ≡ Ok u → IsMade w u n
unfolding reflect
is_made w u n e = made_where (nat_le GREATEST_DEPTH (depth w)) w u n refl e

pub some_record : (calls : List Record) (r : Record) → slice_get calls (length calls - 1) ≡ Some r → 0 < length calls
some_record [] r e = absurd cc
some_record (x ∷ calls) r e = omega arith

-- a return that is made
pub record IsReturn (w u : World) : Type 0 where
  pub call : Call
  pub saved : Regs
  pub on : Bool
  pub at : FarPtr
  pub some : 0 < depth w
  pub popped : w.calls ≡ but_last w.calls ++ Sim call saved on at ∷ []
  pub there : (is_reflection call || has_structure w at) ≡ true
  pub stack : is_loadable w Ss saved.ss 0 false ≡ true
  pub code : is_loadable w Cs saved.cs saved.eip true ≡ true
  pub is : u ≡ after_return w call saved on at

pub passed : (b : Bool) (e : Exit) (r : Result World Exit) (u : World) → (if not b then Err e else r) ≡ Ok u → (b ≡ true) × (r ≡ Ok u)
passed true e r u h = (refl, h)
passed false e r u h = absurd cc

return_of : (w u : World) (o : Option Record) → top w ≡ o → end_of_record w o ≡ Ok u → IsReturn w u
return_of w u None is e = absurd cc
return_of w u (Some (Back slot at)) is e = absurd cc
return_of w u (Some (Exc number code)) is e = absurd cc
return_of w u (Some (Sim call saved on at)) is e = grind (arith, and_parts, passed, some_record, split_last)

pub is_return : (w u : World) → end_call w ≡ Ok u → IsReturn w u
unfolding end_call
is_return w u e = return_of w u (top w) refl e
