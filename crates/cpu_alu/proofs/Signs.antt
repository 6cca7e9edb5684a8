-- Bits of sums by XOR and AND.
use Rattle.std.proofs.Common.{◌≡◌, ℕ, ◌+◌, ◌-◌, ◌/◌, ◌%◌, ◌^◌, ◌<◌, ◌&&◌, ap, arith, rules, inl, inr, nat_eq, nat_le, nat_lt}
use Rattle.std.proofs.lemmas.Nat.Bits.{bit_at_and, bit_at_xor}
use Rattle.std.specs.Int.Bits.{bit_and, bit_xor}
use Rattle.cpu_values.specs.Word.{IsWidth, cut}
use Rattle.cpu_alu.specs.{Results.{low_bit}, Sums.{difference_overflows, sum_overflows, word_sum}}

pub odd_above : (a b r : ℕ) → low_bit (bit_xor (bit_xor a b) r / 0x10) ≡ low_bit (a / 0x10 + b / 0x10 + r / 0x10)
odd_above a b r = ap (λ (x : ℕ). nat_eq x 1) (omega (arith, bit_at_xor (bit_xor a b) r 4, bit_at_xor a b 4))

pub both_top_bits : (a b c d k : ℕ) →
    low_bit (bit_and (bit_xor a b) (bit_xor c d) / 2 ^ k) ≡ (low_bit (a / 2 ^ k + b / 2 ^ k) && low_bit (c / 2 ^ k + d / 2 ^ k))
both_top_bits a b c d k = search (arith, bit_at_and (bit_xor a b) (bit_xor c d) k, bit_at_xor a b k, bit_at_xor c d k)

-- AF by the bit above the low four: their carry, or their borrow, is in it alone
pub sum_carries : (w a b c : ℕ) → IsWidth w → c < 2 →
    low_bit (a / 0x10 + b / 0x10 + word_sum w a b c / 0x10) ≡ nat_le 0x10 (a % 0x10 + b % 0x10 + c)
sum_carries w a b c (inl e) few = rw e (search rules)
sum_carries w a b c (inr (inl e)) few = rw e (search rules)
sum_carries w a b c (inr (inr e)) few = rw e (search rules)

pub difference_borrows : (w a b c : ℕ) → IsWidth w → a < 2 ^ w → b < 2 ^ w → c < 2 →
    low_bit (a / 0x10 + b / 0x10 + cut w (a + 2 ^ w - b - c) / 0x10) ≡ nat_lt (a % 0x10) (b % 0x10 + c)
difference_borrows w a b c (inl e) small less few = rw e (search rules)
difference_borrows w a b c (inr (inl e)) small less few = rw e (search rules)
difference_borrows w a b c (inr (inr e)) small less few = rw e (search rules)

-- OF of a number and 1 by the least number, which the sum comes to, or from which 1 is taken
pub least_after_one_more : (w a : ℕ) → IsWidth w → a < 2 ^ w → nat_eq (word_sum w a 1 0) (2 ^ (w - 1)) ≡ sum_overflows w a 1 0
least_after_one_more w a (inl e) small = rw e (search rules)
least_after_one_more w a (inr (inl e)) small = rw e (search rules)
least_after_one_more w a (inr (inr e)) small = rw e (search rules)

pub least_before_one_less : (w a : ℕ) → IsWidth w → a < 2 ^ w → nat_eq a (2 ^ (w - 1)) ≡ difference_overflows w a 1 0
least_before_one_less w a (inl e) small = rw e (search rules)
least_before_one_less w a (inr (inl e)) small = rw e (search rules)
least_before_one_less w a (inr (inr e)) small = rw e (search rules)
