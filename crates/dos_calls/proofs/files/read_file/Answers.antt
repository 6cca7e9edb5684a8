use Rattle.{std.proofs.Common.{rules}, dos_calls.specs.Calls.{read_file}}
use Rattle.dos_calls.proofs.files.read_file.Goals.{returns-then-low_half-eq0 as goal}

pub returns-then-low_half-eq0 : goal
unfolding read_file
returns-then-low_half-eq0 c = λ console. let served = c.read_keys.ensures console in search rules
