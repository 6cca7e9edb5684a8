use Rattle.std.proofs.{Common.{◌≡◌, ◌∙◌, ◌+◌, ◌-◌, suc, Err, ap, arith, sym}, lemmas.Result.{err_from_is_err_and}}
use Rattle.exec_flow.proofs.EnterLaws.{frames_next, frames_stop, frames_end}
use Rattle.exec_flow.proofs.frames.push_frames.Goals as goal

pub returns-in_err-v-clause-pushed : goal.returns-in_err-v-clause-pushed
returns-in_err-v-clause-pushed c =
    let left : c.args.n - c.loop-k.k ≡ suc (c.args.n - (c.loop-k.k + 1)) = omega arith in
    let back = err_from_is_err_and c.from_residual.result c.from_residual.ensures.1 in
    rw back.1 (λ rest. c.loop-k.invariant.left rest
    ∙ rw left (frames_stop _ _ _ _ _ rest _ (sym c.read_frame.ensures ∙ c.in_err-v.was ∙ ap Err (sym back.2))))

pub returns : goal.returns
returns c =
    let none : c.args.n - c.loop-k.k ≡ 0 = omega arith in
    record {
      pushed = λ rest. c.loop-k.invariant.left rest ∙ rw none (frames_end _ _ _ _ rest);
      room = omega arith;
    }

pub loop-k-preserved : goal.loop-k-preserved
loop-k-preserved c =
    let left : c.args.n - c.loop-k.k ≡ suc (c.args.n - (c.loop-k.k + 1)) = omega arith in
    record {
      left = λ rest. c.loop-k.invariant.left rest
          ∙ rw (left, c.push.ensures.pushed) (frames_next _ _ _ _ _ rest _ (sym c.read_frame.ensures ∙ c.in_ok-v.was));
      writes = omega arith;
    }
