-- Products: MUL and IMUL.
-- Source: 80386 Programmer's Reference Manual, ch. 17, MUL and IMUL. Own: SF, ZF, AF and PF, which the manual leaves undefined,
-- are kept.
use Rattle.std.specs.Prelude.{ℕ, ◌-◌, ◌*◌, ◌/◌, ◌^◌, ℤ, pos, negsuc, ◌*ℤ◌, Bool, not, nat_eq}
use Rattle.client_world.specs.declared.registers.Flags.{Flags}
use Rattle.cpu_values.specs.Word.{cut, signed_value}
use Rattle.cpu_alu.specs.Results.{in_signed_range}

-- the w bits that mean a signed number in two's complement; those of a negative one are the complement of −1 − z, which is n
abbrev pub signed_bits : ℕ → ℤ → ℕ
signed_bits w (pos n) = cut w n
signed_bits w (negsuc n) = 2 ^ w - 1 - cut w n

-- CF and OF alike: the high half is needed
abbrev pub product_flags : Bool → Flags → Flags
product_flags wide f = record f { cf = wide; of = wide }

-- MUL: low half, high half; CF and OF say that the high half isn't 0
unfoldable pub mul_of : ℕ → ℕ → ℕ → Flags → ℕ × ℕ × Flags
mul_of w a b f = (cut w (a * b), a * b / 2 ^ w, product_flags (not (nat_eq (a * b / 2 ^ w) 0)) f)

-- the product of two signed numbers
abbrev pub signed_product : ℕ → ℕ → ℕ → ℤ
signed_product w a b = signed_value w a *ℤ signed_value w b

-- IMUL: low half, high half; CF and OF say that the low half alone doesn't mean the product
unfoldable pub imul_of : ℕ → ℕ → ℕ → Flags → ℕ × ℕ × Flags
imul_of w a b f =
    let product : ℤ = signed_product w a b in
    (signed_bits w product, signed_bits (2 * w) product / 2 ^ w, product_flags (not (in_signed_range w product)) f)
