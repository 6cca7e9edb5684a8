use Rattle.std.proofs.Common.{◌≡◌, ◌-◌}
use Rattle.service_rows.specs.FirstIndex.{first_index}
use Rattle.watch_run.specs.Watches.{is_free_handle}
use Rattle.watch_run.proofs.watch.Watches.lowest_free.Given as goal

-- what is left has the answer
abbrev pub invariant-loop-handle : goal.invariant-loop-handle
invariant-loop-handle l = first_index (is_free_handle l.self.watches) l.handle (17 - l.handle)
    ≡ first_index (is_free_handle l.self.watches) 1 16
