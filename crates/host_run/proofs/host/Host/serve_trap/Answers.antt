use Rattle.host_run.proofs.NoTraps.{call_return_is_real, callback_is_real, callback_return_is_protected, entry_is_real, switch_is_protected}
use Rattle.host_run.proofs.NoTraps.{switch_is_real, vector_is_protected, vector_is_real}
use Rattle.host_run.proofs.host.Host.serve_trap.Goals as goal

pub reach_vector-requires-clause-real : goal.reach_vector-requires-clause-real
reach_vector-requires-clause-real c =
    vector_is_real c.args.self.now.world.machine c.args.t c.in-RealVector.n c.requires.trap c.in-RealVector.is

pub serve_entry-requires-clause-real : goal.serve_entry-requires-clause-real
serve_entry-requires-clause-real c = entry_is_real c.args.self.now.world.machine c.args.t c.requires.trap c.in-Entry.is

pub serve_protected_vector-requires-clause-mode : goal.serve_protected_vector-requires-clause-mode
serve_protected_vector-requires-clause-mode c =
    vector_is_protected c.args.self.now.world.machine c.args.t c.in-ProtectedVector.n c.requires.trap c.in-ProtectedVector.is

pub return_from_call-requires-clause-real : goal.return_from_call-requires-clause-real
return_from_call-requires-clause-real c = call_return_is_real c.args.self.now.world.machine c.args.t c.requires.trap c.in-CallReturn.is

pub switch_to_protected-requires-clause-real : goal.switch_to_protected-requires-clause-real
switch_to_protected-requires-clause-real c = switch_is_real c.args.self.now.world.machine c.args.t c.requires.trap c.in-ToProtected.is

pub switch_to_real-requires-clause-mode : goal.switch_to_real-requires-clause-mode
switch_to_real-requires-clause-mode c = switch_is_protected c.args.self.now.world.machine c.args.t c.requires.trap c.in-ToReal.is

pub enter_callback-requires-clause-real : goal.enter_callback-requires-clause-real
enter_callback-requires-clause-real c =
    callback_is_real c.args.self.now.world.machine c.args.t c.in-Callback.slot c.requires.trap c.in-Callback.is

pub return_from_callback-requires-clause-mode : goal.return_from_callback-requires-clause-mode
return_from_callback-requires-clause-mode c =
    callback_return_is_protected c.args.self.now.world.machine c.args.t c.requires.trap c.in-CallbackReturn.is
