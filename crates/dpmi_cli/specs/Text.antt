-- What is written of a refusal. Source: own.
use Rattle.std.specs.Prelude.{ℕ, List, [], ◌++◌, codes}
use Rattle.client_world.specs.declared.outcome.LoadFault.{LoadFault}
use Rattle.dpmi_io.specs.LineEnd.{line_end}
use Rattle.pair_run.specs.Slices.{letter_text}
use Rattle.dpmi_cli.specs.{declared.prepare.Reason.{Reason}, declared.prepare.Reason.TheVariants.{Words, FileTooLong, KeysTooLong, Load}}
use Rattle.dpmi_cli.specs.declared.prepare.Reason.TheVariants.{FileTooLongOf, LoadOf}
use Rattle.client_world.specs.declared.outcome.LoadFault.TheVariants as fault

-- how a fault of the load is written
abbrev pub fault_text : LoadFault → List ℕ
fault_text fault.ShortHeader = codes "ShortHeader"
fault_text fault.Signature = codes "Signature"
fault_text fault.LastPage = codes "LastPage"
fault_text fault.RelocTable = codes "RelocTable"
fault_text fault.NoRoom = codes "NoRoom"
fault_text fault.RelocTarget = codes "RelocTarget"
fault_text fault.EntryOutside = codes "EntryOutside"

-- how a reason is written
abbrev pub reason_text : Reason → List ℕ
reason_text Words = codes "words"
reason_text FileTooLong = codes "FileTooLong"
reason_text KeysTooLong = codes "KeysTooLong"
reason_text (Load fault) = fault_text fault
reason_text (FileTooLongOf client) = codes "FileTooLong"
reason_text (LoadOf client fault) = fault_text fault

-- which client of a pair is refused
abbrev pub client_text : Reason → List ℕ
client_text Words = []
client_text FileTooLong = []
client_text KeysTooLong = []
client_text (Load fault) = []
client_text (FileTooLongOf client) = letter_text client ++ codes " "
client_text (LoadOf client fault) = letter_text client ++ codes " "

-- the line of a refusal
abbrev pub line_of_refusal : Reason → List ℕ
line_of_refusal reason = codes "refused " ++ client_text reason ++ reason_text reason ++ line_end
