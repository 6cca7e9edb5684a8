use Rattle.dos_calls.specs.{Calls.{dos_call}, Multiplex.{multiplex_call}}
use Rattle.dos_calls.proofs.LeftCalls.{call_leaves, multiplex_leaves, multiplex_regs, other_dos_memory, same_stack}
use Rattle.dos_calls.proofs.laws.every_dos_call_keeps_the_rest.Goals.{returns as goal}

pub returns : goal
returns c = record {
  calls = λ s. other_dos_memory s.world (dos_call s).world (call_leaves s).rest;
  stack = λ s. same_stack s.world (dos_call s).world (call_leaves s).rest;
  multiplex = multiplex_regs;
  multiplex_stack = λ w. same_stack w (multiplex_call w) (multiplex_leaves w);
}
