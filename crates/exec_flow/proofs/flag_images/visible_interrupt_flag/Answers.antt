use Rattle.{std.proofs.Common.{rules}, exec_flow.proofs.flag_images.visible_interrupt_flag.Goals.{returns-in-Real as goal}}

pub returns-in-Real : goal
returns-in-Real c = search rules
