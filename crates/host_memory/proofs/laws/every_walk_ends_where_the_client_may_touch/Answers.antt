use Rattle.host_memory.proofs.{ClientPlaces.{byte_agrees}, WalkLaw.{walk_agrees}, Parts.{budget_is}}
use Rattle.host_memory.proofs.laws.every_walk_ends_where_the_client_may_touch.Goals as goal

pub returns-clause-walks : goal.returns-clause-walks
returns-clause-walks c = λ b budget mode regs vif width holds sound.
    walk_agrees b budget holds mode regs vif width (rw (budget_is b budget mode regs vif width) at sound.blocks)

pub returns-clause-bytes : goal.returns-clause-bytes
returns-clause-bytes c = λ b budget mode regs vif width holds. byte_agrees b budget holds mode regs vif width
