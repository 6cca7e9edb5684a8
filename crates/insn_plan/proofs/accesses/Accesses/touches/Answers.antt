use Rattle.{std.proofs.Common.{◌∙◌, ◌+◌, sym, ap, List, drop, arith}, client_world.specs.declared.watchpoints.Touch.{Touch}}
use Rattle.{insn_plan.specs.Accesses.{touches_after}, insn_plan.proofs.AccessLists.{left_none, left_some, left_end}}
use Rattle.insn_plan.proofs.accesses.Accesses.touches.Goals as goal

pub returns-in-None : goal.returns-in-None
returns-in-None c =
    let v = c.args.self.now in
    let xs = c.as_slice-a-items.result.now in
    sym c.loop-a.invariant.goes_on
    ∙ left_none v.world c.loop-a.touches.items xs c.loop-a.a-index _ c.loop-a-test.true (sym c.touch_of_access.ensures ∙ c.in-None.is)

pub loop-a-preserved : goal.loop-a-preserved
loop-a-preserved c =
    let v = c.args.self.now in
    let xs = c.as_slice-a-items.result.now in
    let rest = drop (c.loop-a.a-index + 1) xs in
    record {
      goes_on = ap (λ (done : List Touch). touches_after v.world done rest) c.push.ensures.items
          ∙ sym (left_some v.world c.loop-a.touches.items xs c.loop-a.a-index _ _ c.loop-a-test.true
          (sym c.touch_of_access.ensures ∙ c.in-Some.is))
          ∙ c.loop-a.invariant.goes_on;
      room = omega (arith, c.loop-a.invariant.room, c.push.ensures.len);
    }

pub returns : goal.returns
returns c =
    let v = c.args.self.now in
    let xs = c.as_slice-a-items.result.now in
    sym c.loop-a.invariant.goes_on ∙ left_end v.world c.loop-a.touches.items xs c.loop-a.a-index c.loop-a-test.false
