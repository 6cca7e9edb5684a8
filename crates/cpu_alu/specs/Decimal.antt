-- Decimal arithmetic: the adjustments of AX.
-- Source: 80386 Programmer's Reference Manual, ch. 17, DAA, DAS, AAA, AAS, AAM and AAD. Own: the test of the old AL against 99h
-- and DAS's further carry (the manual's text tests the changed AL against 9Fh), the changes of AL and AH by AAA and AAS, bases
-- other than 10, and that flags which the manual leaves undefined are kept.
use Rattle.std.specs.Prelude.{ℕ, ◌+◌, ◌-◌, ◌*◌, ◌/◌, ◌%◌, Bool, nat_eq, nat_lt, ◌||◌, ◌&&◌, if◌then◌else◌, Option, Some, None}
use Rattle.client_world.specs.{declared.registers.Flags.{Flags}, Registers.{low_byte}}
use Rattle.cpu_alu.specs.Results.{result_flags}

-- AH, the high byte of AX; AL is its low byte
abbrev pub ah_of : ℕ → ℕ
ah_of ax = ax / 0x100

-- AX of AH and AL
abbrev pub ax_of : ℕ → ℕ → ℕ
ax_of ah al = ah * 0x100 + al

-- the low digit is adjusted
abbrev pub low_adjusts : ℕ → Flags → Bool
low_adjusts al f = nat_lt 9 (al % 0x10) || f.af

-- the high digit is adjusted
abbrev pub high_adjusts : ℕ → Flags → Bool
high_adjusts al f = nat_lt 0x99 al || f.cf

-- what DAA adds and DAS takes off
abbrev pub adjustment : ℕ → Flags → ℕ
adjustment al f = (if low_adjusts al f then 6 else 0) + (if high_adjusts al f then 0x60 else 0)

-- DAA and DAS: AL and its flags, AF being the low digit's adjustment; AH and OF are kept
abbrev pub decimal_of : ℕ → ℕ → Bool → Flags → ℕ × Flags
decimal_of ax al carry f =
    (ax_of (ah_of ax) al, record (result_flags 8 al f) { af = low_adjusts (low_byte ax) f; cf = carry })

-- DAA: CF is the high digit's adjustment
unfoldable pub daa_of : ℕ → Flags → ℕ × Flags
daa_of ax f = decimal_of ax ((low_byte ax + adjustment (low_byte ax) f) % 0x100) (high_adjusts (low_byte ax) f) f

-- DAS: CF is set too where the low digit's 6 was taken from less
unfoldable pub das_of : ℕ → Flags → ℕ × Flags
das_of ax f =
    decimal_of ax ((low_byte ax + 0x100 - adjustment (low_byte ax) f) % 0x100)
    (high_adjusts (low_byte ax) f || (low_adjusts (low_byte ax) f && nat_lt (low_byte ax) 6)) f

-- AAA and AAS: where the low digit is adjusted, AH and AL are other ones, modulo 2^8; AL keeps its low digit alone. CF and AF
-- say whether it is; the others are kept
abbrev pub unpacked_of : ℕ → ℕ → ℕ → Flags → ℕ × Flags
unpacked_of ax ah al f =
    let adjusts : Bool = low_adjusts (low_byte ax) f in (
      if adjusts then ax_of (ah % 0x100) (al % 0x10) else ax_of (ah_of ax) (low_byte ax % 0x10),
      record f { af = adjusts; cf = adjusts },
    )

-- AAA: AL gains 6 and AH 1
unfoldable pub aaa_of : ℕ → Flags → ℕ × Flags
aaa_of ax f = unpacked_of ax (ah_of ax + 1) (low_byte ax + 6) f

-- AAS: AL loses 6 and AH 1
unfoldable pub aas_of : ℕ → Flags → ℕ × Flags
aas_of ax f = unpacked_of ax (ah_of ax + 0x100 - 1) (low_byte ax + 0x100 - 6) f

-- AAM: AL in two digits of the base, none for a base of 0; OF, AF and CF are kept
unfoldable pub aam_of : ℕ → ℕ → Flags → Option (ℕ × Flags)
aam_of ax base f =
    if nat_eq base 0 then None else
    Some (ax_of (low_byte ax / base) (low_byte ax % base), result_flags 8 (low_byte ax % base) f)

-- AAD: AL of its two digits, modulo 2^8, and AH of 0; OF, AF and CF are kept
unfoldable pub aad_of : ℕ → ℕ → Flags → ℕ × Flags
aad_of ax base f =
    let al : ℕ = (ah_of ax * base + low_byte ax) % 0x100 in
    (al, result_flags 8 al f)
