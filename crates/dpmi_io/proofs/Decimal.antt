-- Numbers in digits.
use Rattle.std.proofs.Common.{arith, ◌≡◌, ◌≤◌, ◌<◌, ◌+◌, ◌/◌, ◌%◌, ◌^◌, ℕ, length, ◌++◌, ◌∷◌, [], ap, ◌∙◌, length-append, sym}
use Rattle.std.proofs.lemmas.Fmt.{decimal_step, decimal_digit, length-decimal-le}
use Rattle.std.specs.Fmt.{decimal}

pub decimal_short : (n : ℕ) → n < 2 ^ 32 → length (decimal n) ≤ 10
decimal_short n lt = length-decimal-le 10 n (omega arith) (omega arith) (omega arith)

pub decimal_long : (n : ℕ) → n < 2 ^ 64 → length (decimal n) ≤ 20
decimal_long n lt = length-decimal-le 20 n (omega arith) (omega arith) (omega arith)

pub decimal_byte : (n : ℕ) → n < 256 → length (decimal n) ≤ 3
decimal_byte n lt = length-decimal-le 3 n (omega arith) (omega arith) (omega arith)

pub decimal_more : (n : ℕ) → 10 ≤ n → n < 2 ^ 64 → decimal n ≡ decimal (n / 10) ++ (48 + n % 10) ∷ []
decimal_more n ge lt = decimal_step n ge (omega arith)

pub decimal_more_length : (n : ℕ) → 10 ≤ n → n < 2 ^ 64 → length (decimal n) ≡ length (decimal (n / 10)) + 1
decimal_more_length n ge lt = ap length (decimal_more n ge lt) ∙ length-append (decimal (n / 10)) ((48 + n % 10) ∷ [])

pub decimal_one : (n : ℕ) → n < 10 → decimal n ≡ (48 + n % 10) ∷ []
decimal_one n lt = let small : n % 10 ≡ n = omega arith in decimal_digit n lt ∙ ap (λ d. (48 + d) ∷ []) (sym small)
