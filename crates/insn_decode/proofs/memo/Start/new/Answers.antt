use Rattle.std.proofs.{Common.{◌≡◌, ℕ, ◌*◌, ◌-◌, ◌%◌, ◌^◌, ◌≤◌, ap, sym, ◌∙◌, arith}, lemmas.Nat.{mul-mod_second}}
use Rattle.insn_decode.proofs.Answering.{same_start}
use Rattle.insn_decode.proofs.memo.Start.new.Goals as goal

pub returns : goal.returns
returns c = λ a b is same.
    let p = 2 ^ (8 * (8 - c.args.len)) in
    let few : c.args.len ≤ 8 = omega (arith, c.if-len-gt-WORD_BYTES.false) in
    let one : 1 * p ≡ p = omega arith in
    let shifted : (n : ℕ) → n * (1 * p % 2 ^ 64) % 2 ^ 64 ≡ n * p % 2 ^ 64 =
    λ n. mul-mod_second n (1 * p) (2 ^ 64) ∙ ap (λ (q : ℕ). n * q % 2 ^ 64) one in
    same_start a b c.args.len c.requires few
    (ap (λ (n : ℕ). n * p % 2 ^ 64) is ∙ sym (shifted c.args.low) ∙ sym same ∙ shifted b.low)

pub returns-then-len-gt-WORD_BYTES : goal.returns-then-len-gt-WORD_BYTES
returns-then-len-gt-WORD_BYTES c = λ a b is same. absurd (omega (arith, same))
