-- The conditions of Jcc and SETcc. Source: 80386 Programmer's Reference Manual, appendix D, "Condition Codes".
use Rattle.std.specs.Prelude.{ℕ, ◌/◌, ◌%◌, Bool, not, ◌||◌, nat_eq, if◌then◌else◌}
use Rattle.client_world.specs.declared.registers.Flags.{Flags}

-- SF differs from OF: of two signed numbers that were compared, the first is less
abbrev pub is_less : Flags → Bool
is_less f = if f.sf then not f.of else f.of

-- the conditions of even numbers, by half the number: O, B, Z, BE, S, P, L, LE
abbrev pub even_condition : ℕ → Flags → Bool
even_condition half f =
    if nat_eq half 0 then f.of else
    if nat_eq half 1 then f.cf else
    if nat_eq half 2 then f.zf else
    if nat_eq half 3 then f.cf || f.zf else
    if nat_eq half 4 then f.sf else
    if nat_eq half 5 then f.pf else
    if nat_eq half 6 then is_less f else
    f.zf || is_less f

-- a condition 0 to 15: an odd number is the contrary of the even one before it
abbrev pub condition : ℕ → Flags → Bool
condition n f = if nat_eq (n % 2) 0 then even_condition (n / 2) f else not (even_condition (n / 2) f)
