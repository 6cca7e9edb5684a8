use Rattle.{std.proofs.Common.{rules}, dos_calls.proofs.files.read_keys.Goals.{returns as goal}}

pub returns : goal
returns c = search rules
