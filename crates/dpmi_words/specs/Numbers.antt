-- Numbers in decimal digits. Source: own.
use Rattle.std.specs.Prelude.{ℕ, Bool, ◌&&◌, nat_le, nat_lt, length, Some, None, if◌then◌else◌, option_map}
use Rattle.std.specs.{declared.option.Option.{Option}, List.{list_all}, Str.Parse.{digits_value}}
use Rattle.dpmi_words.specs.Reading.{Text}

-- the byte is a decimal digit
abbrev pub is_digit : ℕ → Bool
is_digit b = nat_le 0x30 b && nat_le b 0x39

-- the text is 1 to `most_digits` digits; leading zeros are allowed
abbrev pub is_decimal : ℕ → Text → Bool
is_decimal most_digits text = nat_lt 0 (length text) && (nat_le (length text) most_digits && list_all is_digit text)

-- the value lies in the range
abbrev pub is_between : ℕ → ℕ → ℕ → Bool
is_between least most n = nat_le least n && nat_le n most

-- the number that the text is, where it lies in the range
abbrev pub number_in_text : ℕ → ℕ → ℕ → Text → Option ℕ
number_in_text most_digits least most text =
    if is_decimal most_digits text && is_between least most (digits_value 10 text) then Some (digits_value 10 text) else None

-- the number of a text of up to ten digits, or the usual one where there is no text
abbrev pub number_or : ℕ → ℕ → ℕ → Option Text → Option ℕ
number_or usual least most None = Some usual
number_or usual least most (Some text) = number_in_text 10 least most text

-- Where no text is given, Some(None); else the number of the text, or None where it isn't a number in the range.
abbrev pub number_if_given : ℕ → ℕ → Option Text → Option (Option ℕ)
number_if_given least most None = Some None
number_if_given least most (Some text) = option_map Some (number_in_text 10 least most text)
