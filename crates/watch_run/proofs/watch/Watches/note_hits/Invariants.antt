use Rattle.std.proofs.Common.{◌≡◌, ◌++◌, Some, drop, length, take}
use Rattle.std.specs.Prelude.{◌||◌}
use Rattle.watch_run.specs.Hits.{watches_after_touches, has_first_hit}
use Rattle.watch_run.proofs.watch.Watches.note_hits.Given as goal

-- those before place k are marked, and those from it on will be
abbrev pub invariant-loop-k : goal.invariant-loop-k
invariant-loop-k l = record {
  count : length l.self.watches ≡ 16;
  marked : take l.k l.self.watches ++ watches_after_touches l.at (Some l.touches.items) (drop l.k l.self.watches)
      ≡ watches_after_touches l.at (Some l.touches.items) l.fn.self.watches;
  due : (l.self.due || has_first_hit l.at (Some l.touches.items) (drop l.k l.self.watches))
      ≡ (l.fn.self.due || has_first_hit l.at (Some l.touches.items) l.fn.self.watches);
}
