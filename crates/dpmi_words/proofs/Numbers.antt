-- Digits that `parse` refuses are no number of the range.
use Rattle.std.proofs.Common.{arith, ◌≡◌, ◌≢◌, ◌<◌, ◌&&◌, ℕ, Bool, true, false, cond, List, [], ◌∷◌, length, get_or, refl, tests, nat_lt}
use Rattle.std.proofs.{Common.{nat_le}, lemmas.Str.Parse.{without_leading_plus_none}, lemmas.Bool.{and_parts}}
use Rattle.std.specs.{Prelude.{None, Some}, List.{list_all}, Char.{digit_value}, Str.Parse.{AllDigits, IsNumeral, digits_value}}
use Rattle.std.specs.Str.Parse.{without_leading_plus}
use Rattle.dpmi_words.specs.Numbers.{is_digit, is_decimal, is_between, number_in_text}

digit_fits : (b : ℕ) → is_digit b ≡ true → digit_value b < 10
digit_fits b h = let both = and_parts (nat_le 48 b) (nat_le b 57) h in grind (arith, tests, both.0, both.1)

pub all_digits : (text : List ℕ) → list_all is_digit text ≡ true → AllDigits 10 text
all_digits [] h = tt
all_digits (b ∷ rest) h = let both = and_parts (is_digit b) (list_all is_digit rest) h in (digit_fits b both.0, all_digits rest both.1)

pub no_plus : (text : List ℕ) → list_all is_digit text ≡ true → get_or text 0 0 ≢ 43
no_plus [] h e = absurd (omega arith)
no_plus (b ∷ rest) h e =
    let both = and_parts (is_digit b) (list_all is_digit rest) h in
    let low = (and_parts (nat_le 48 b) (nat_le b 57) both.0).0 in
    grind (arith, tests, low, e)

-- `parse` reads numbers below `limit`
pub number_refused : (digits least most limit : ℕ) (text : List ℕ) → most < limit →
    ((IsNumeral 10 (without_leading_plus text) × (digits_value 10 (without_leading_plus text) < limit)) → ⊥) →
    None ≡ number_in_text digits least most text
number_refused digits least most limit text fits fails = go _ refl
  where
    go : (b : Bool) → (is_decimal digits text && is_between least most (digits_value 10 text)) ≡ b →
        None ≡ cond b (Some (digits_value 10 text)) None
    go false e = refl
    go true e =
        let parts = and_parts (is_decimal digits text) _ e in
        let number = and_parts (nat_lt 0 (length text)) _ parts.0 in
        let inner = and_parts (nat_le (length text) digits) (list_all is_digit text) number.1 in
        let same : without_leading_plus text ≡ text = without_leading_plus_none text (no_plus text inner.1) in
        let range = and_parts (nat_le least (digits_value 10 text)) (nat_le (digits_value 10 text) most) parts.1 in
        let some : 0 < length text = let h = number.0 in grind (arith, tests, h) in
        let below : digits_value 10 text < limit = let h = range.1 in grind (arith, tests, h, fits) in
        absurd (fails (rw same ((some, all_digits text inner.1), below)))
