-- What may be put into the arena, for a block of a DOS call and for one of INT 31h function 0100h. Source: own.
use Rattle.std.specs.Prelude.{ℕ, ◌+◌, ◌≤◌, Bool, true, false, List, length, take, drop}
use Rattle.client_world.specs.{declared.dos_memory.DosEntry.{DosEntry}, declared.dos_memory.DosRun.{DosRun}, DosMemory.{IsArena}}
use Rattle.client_world.specs.World.{World}
use Rattle.guest_space.specs.{Arena.{NoneMade, with_replaced_entries}, DosRuns.{CanPutRun}}

-- what `arena_put` asks of entries in place of others
pub record CanPut (es : List DosEntry) (place old : ℕ) (new : List DosEntry) : Type 0 where
  pub within : place + old ≤ length es
  pub old_plain : NoneMade (take old (drop place es))
  pub new_plain : NoneMade new
  pub sound : IsArena (with_replaced_entries es place old new)

-- the same of a block with its run of descriptors, where it has them
abbrev pub CanPutBlock : Bool → World → ℕ → ℕ → List DosEntry → DosRun → Type 0
CanPutBlock false w place old new run = CanPut w.arena place old new
CanPutBlock true w place old new run = CanPutRun w place old new run
