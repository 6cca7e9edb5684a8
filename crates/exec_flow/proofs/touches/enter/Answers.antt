use Rattle.std.proofs.Common.{rules}
use Rattle.exec_flow.proofs.{EnterLaws.{enter_plain, enter_read, enter_fault}, touches.enter.Goals.{returns as goal}}

pub returns : goal
returns c = search (rules, enter_plain, enter_read, enter_fault)
