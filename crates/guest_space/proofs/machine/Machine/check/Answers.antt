use Rattle.std.proofs.Common.{arith}
use Rattle.guest_space.proofs.Runs.{parts_end, run_all, first_part_fails, second_part_fails, no_fault, is_in, is_over}
use Rattle.guest_space.proofs.machine.Machine.check.Goals as goal

pub returns-in_err-translate : goal.returns-in_err-translate
returns-in_err-translate c = grind (arith, first_part_fails)

pub returns-in_err-translate-2 : goal.returns-in_err-translate-2
returns-in_err-translate-2 c = grind (arith, is_over, second_part_fails)

pub returns-in_ok-translate-2 : goal.returns-in_ok-translate-2
returns-in_ok-translate-2 c = grind (arith, is_over, no_fault, parts_end)

pub returns-else-not-is_in_page : goal.returns-else-not-is_in_page
returns-else-not-is_in_page c = grind (arith, is_in, no_fault, run_all)
