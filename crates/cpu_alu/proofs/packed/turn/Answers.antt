use Rattle.std.proofs.{Common.{◌<◌, ◌-◌, ◌%◌, ◌^◌, refl, arith}, lemmas.Nat.{one_shl, shl_whole, mod_below, pow_pos, pow_below}}
use Rattle.{cpu_alu.specs.Packed.{turned}, cpu_alu.proofs.Turns.{turned_below_all}}
use Rattle.cpu_alu.proofs.packed.turn.Goals as goal

pub overflow_add-result : goal.overflow_add-result
unfolding turned
overflow_add-result c =
    let lower = c.args.bits - c.args.count in
    let part : c.args.v % 2 ^ lower < 2 ^ lower = mod_below c.args.v (2 ^ lower) (pow_pos lower) in
    let below = turned_below_all c.args.bits c.args.v c.args.count c.requires.count c.requires.most in
    let most = pow_below c.args.bits 34 c.requires.width in
    rw (one_shl lower 64 (omega arith), shl_whole (c.args.v % 2 ^ lower) lower c.args.count 64 part (omega arith)) (omega arith)

pub returns : goal.returns
unfolding turned
returns c =
    let lower = c.args.bits - c.args.count in
    let part : c.args.v % 2 ^ lower < 2 ^ lower = mod_below c.args.v (2 ^ lower) (pow_pos lower) in
    let below = turned_below_all c.args.bits c.args.v c.args.count c.requires.count c.requires.most in
    rw (one_shl lower 64 (omega arith), shl_whole (c.args.v % 2 ^ lower) lower c.args.count 64 part (omega arith))
    record { value = refl; most = below }
