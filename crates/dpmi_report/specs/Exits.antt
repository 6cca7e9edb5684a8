-- How the report writes each exit, and the status of the program after it. Source: own.
use Rattle.std.specs.{Prelude.{ℕ, ◌++◌, List, [], codes}, Fmt.{decimal}}
use Rattle.client_world.specs.{declared.outcome.Exit.{Exit}, declared.outcome.Exit.TheVariants.{Exited, Fault, Bound, NoKeys, ConsoleFull}}
use Rattle.client_world.specs.declared.outcome.Exit.TheVariants.{Deep, Stray, LostStructure, BadFrame, BadSwitch}
use Rattle.dpmi_report.specs.{declared.exits.TheConstants.{EXITED, ENDED_OTHERWISE}, Digits.{hex_byte, hex_doubleword}}

-- the word of an exit, and the status after it
pub record ExitRow : Type 0 where
  pub word : List ℕ
  pub status : ℕ

abbrev pub exit_row : Exit → ExitRow
exit_row (Exited code) = record { word = codes "exited"; status = EXITED }
exit_row (Fault number code) = record { word = codes "fault"; status = ENDED_OTHERWISE }
exit_row Bound = record { word = codes "bound"; status = ENDED_OTHERWISE }
exit_row NoKeys = record { word = codes "nokeys"; status = ENDED_OTHERWISE }
exit_row ConsoleFull = record { word = codes "consolefull"; status = ENDED_OTHERWISE }
exit_row Deep = record { word = codes "deep"; status = ENDED_OTHERWISE }
exit_row Stray = record { word = codes "stray"; status = ENDED_OTHERWISE }
exit_row LostStructure = record { word = codes "loststructure"; status = ENDED_OTHERWISE }
exit_row BadFrame = record { word = codes "badframe"; status = ENDED_OTHERWISE }
exit_row BadSwitch = record { word = codes "badswitch"; status = ENDED_OTHERWISE }

-- what is written after the word: the client's code, or the number and the error code of the exception
abbrev pub exit_numbers : Exit → List ℕ
exit_numbers (Exited code) = codes " " ++ decimal code
exit_numbers (Fault number code) = codes " " ++ hex_byte number ++ codes " code=" ++ hex_doubleword code
exit_numbers other = []

-- how an exit is written
abbrev pub exit_text : Exit → List ℕ
exit_text exit = (exit_row exit).word ++ exit_numbers exit

-- the status of an exit: 0 where the client ended itself, whatever its code
abbrev pub exit_status : Exit → ℕ
exit_status exit = (exit_row exit).status
