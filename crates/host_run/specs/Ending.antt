-- How a run ends, in one word: which exit it is in its low four bits, a code or an exception's number in the eight bits after them, and an
-- exception's error code in the bits from 12 on. Source: own.
use Rattle.std.specs.Prelude.{ℕ, ◌/◌, ◌%◌, nat_eq, if◌then◌else◌}
use Rattle.client_world.specs.{declared.outcome.Exit.{Exit}, declared.outcome.Exit.TheVariants.{Exited, Fault, Bound, NoKeys, ConsoleFull}}
use Rattle.client_world.specs.declared.outcome.Exit.TheVariants.{Deep, Stray, LostStructure, BadFrame, BadSwitch}

abbrev number_in : ℕ → ℕ
number_in word = word / 0x10 % 0x100

unfoldable pub exit_in : ℕ → Exit
exit_in word =
    if nat_eq (word % 0x10) 0 then Exited (number_in word) else
    if nat_eq (word % 0x10) 1 then Fault (number_in word) (word / 0x1000 % 0x100000000) else
    if nat_eq (word % 0x10) 2 then Bound else
    if nat_eq (word % 0x10) 3 then NoKeys else
    if nat_eq (word % 0x10) 4 then ConsoleFull else
    if nat_eq (word % 0x10) 5 then Deep else
    if nat_eq (word % 0x10) 6 then Stray else
    if nat_eq (word % 0x10) 7 then LostStructure else
    if nat_eq (word % 0x10) 8 then BadFrame else
    BadSwitch
