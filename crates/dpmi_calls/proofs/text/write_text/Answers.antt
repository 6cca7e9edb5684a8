use Rattle.std.proofs.Common.{rules}
use Rattle.dpmi_calls.proofs.{Texts.{longer}, text.write_text.Goals.{returns-then-count-most-clause-room as goal}}

pub returns-then-count-most-clause-room : goal
returns-then-count-most-clause-room c = search (rules, longer)
