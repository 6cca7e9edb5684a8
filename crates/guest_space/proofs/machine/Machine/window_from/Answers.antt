use Rattle.std.proofs.Common.{rules, ◌≡◌, ◌≤◌, ◌%◌, ◌+◌, ap, refl, arith}
use Rattle.client_world.specs.{declared.host_frames.TheConstants.{PAGE_SIZE}, Access.{linear}}
use Rattle.guest_space.proofs.{Runs.{is_in}, machine.Machine.window_from.Goals.{then-is_big, else-is_big, returns as goal}}

pub returns : goal
returns c some =
    let w = c.args.self.now.world in
    let whole : c.saturating_sub.result + 14 ≡ c.args.size = omega arith in
    let inside : linear (c.in_ok-base.base + c.args.first) % PAGE_SIZE + c.args.size ≤ PAGE_SIZE = is_in _ _ (search rules) in
    record {
      cs = ap (λ r. r.cs) c.registers.ensures;
      places = elim c.if-is_big.branch [
        | then-is_big b ↦ let page = b.page-is in omega arith
        | else-is_big b ↦ let page = b.page-is in omega arith
      ];
      big = λ from below. elim c.if-is_big.branch [
        | then-is_big b ↦ let page = b.page-is in grind arith
        | else-is_big b ↦ let page = b.page-is in grind arith
      ];
      run = grind arith;
      start = refl;
    }
