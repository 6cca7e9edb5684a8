-- What a call, a reflection and a return leave as it was; calls and reflections push one record, and returns pop one, from any world.
use Rattle.std.proofs.Common.{◌≡◌, ℕ, ◌-◌, Bool, List, refl, ap, sym, subst, take, Ok, [], ◌∷◌, ◌++◌, ◌∙◌, arith}
use Rattle.client_world.specs.{declared.calls.Call.{Call}, declared.registers.Mode.TheVariants.{Protected}, declared.registers.Regs.{Regs}}
use Rattle.client_world.specs.{declared.segments.FarPtr.{FarPtr}, declared.services.Carry.{Carry}}
use Rattle.client_world.specs.{declared.services.Carry.TheVariants.{Clear, Set}, World.{World, depth}}
use Rattle.client_world.specs.{declared.calls.Call.TheVariants.{Reflect}, declared.calls.Record.TheVariants.{Sim}, Segments.{null_pointer}}
use Rattle.client_world.specs.Services.{es_di}
use Rattle.translation.specs.{HandOver.{LeftForCallee, LeftForClient, IsPopped}, SimulatedCall.{after_reflection, after_return, begin_call}}
use Rattle.translation.specs.SimulatedCall.{callee_world, client_regs, end_call, reflect}
use Rattle.translation.proofs.{Begun.{begun_world, is_made, refused_world, is_return}, SoundCalls.{results_alone}}
use Rattle.mode_stack.proofs.Trips.{but_last}

callee_left : (w : World) (call : Call) (at : FarPtr) (r : Regs) (on : Bool) (words : List ℕ) →
    LeftForCallee w (callee_world w call at r on words)
unfolding callee_world
callee_left w call at r on words = refl

by_carry : (carry : Carry) (w : World) (call : Call) → (begin_call w call).carry ≡ carry → LeftForCallee w (begin_call w call).world
by_carry Set w call e = subst (λ (u : World). LeftForCallee w u) (sym (refused_world w call e).1) refl
by_carry Clear w call e = subst (λ (u : World). LeftForCallee w u) (sym (begun_world w call e)) (callee_left w call _ _ _ _)

pub begin_left : (w : World) (call : Call) → LeftForCallee w (begin_call w call).world
begin_left w call = by_carry (begin_call w call).carry w call refl

reflection_left : (w : World) (n : ℕ) → LeftForCallee w (after_reflection w n)
unfolding after_reflection
reflection_left w n = callee_left w _ _ _ _ _

pub reflect_left : (w u : World) (n : ℕ) → reflect w n ≡ Ok u → LeftForCallee w u
reflect_left w u n e = subst (λ (x : World). LeftForCallee w x) (sym (is_made w u n e).is) (reflection_left w n)

return_left : (w : World) (call : Call) (saved : Regs) (on : Bool) (at : FarPtr) → LeftForClient w (after_return w call saved on at)
unfolding after_return
return_left w call saved on at =
    ap (λ (x : World). record x { mode = Protected; regs = client_regs w call saved; vif = on; calls = take (depth w - 1) w.calls })
    (results_alone w call at)

pub end_left : (w u : World) → end_call w ≡ Ok u → LeftForClient w u
end_left w u e =
    let done = is_return w u e in
    subst (λ (x : World). LeftForClient w x) (sym done.is) (return_left w done.call done.saved done.on done.at)

callee_calls : (w : World) (call : Call) (at : FarPtr) (r : Regs) (on : Bool) (words : List ℕ) →
    (callee_world w call at r on words).calls ≡ w.calls ++ Sim call w.regs w.vif at ∷ []
unfolding callee_world
callee_calls w call at r on words = refl

pub begin_pushes : (w : World) (call : Call) → (begin_call w call).carry ≡ Clear →
    (begin_call w call).world.calls ≡ w.calls ++ Sim call w.regs w.vif (es_di w) ∷ []
begin_pushes w call e = ap (λ (u : World). u.calls) (begun_world w call e) ∙ callee_calls w call (es_di w) _ _ _

reflection_calls : (w : World) (n : ℕ) → (after_reflection w n).calls ≡ w.calls ++ Sim (Reflect n) w.regs w.vif null_pointer ∷ []
unfolding after_reflection
reflection_calls w n = callee_calls w (Reflect n) null_pointer _ _ _

pub reflect_pushes : (w u : World) (n : ℕ) → reflect w n ≡ Ok u → u.calls ≡ w.calls ++ Sim (Reflect n) w.regs w.vif null_pointer ∷ []
reflect_pushes w u n e = ap (λ (v : World). v.calls) (is_made w u n e).is ∙ reflection_calls w n

return_calls : (w : World) (call : Call) (saved : Regs) (on : Bool) (at : FarPtr) →
    (after_return w call saved on at).calls ≡ but_last w.calls
unfolding after_return
return_calls w call saved on at = refl

pub end_pops : (w u : World) → end_call w ≡ Ok u → IsPopped w u
end_pops w u e =
    let done = is_return w u e in
    let rest : u.calls ≡ but_last w.calls =
    ap (λ (v : World). v.calls) done.is ∙ return_calls w done.call done.saved done.on done.at in
    grind arith
