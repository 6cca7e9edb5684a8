-- The records of calls from turn to turn: a turn leaves them, adds an innermost one, or takes the innermost one away. Source: own.
use Rattle.std.specs.Prelude.{◌≡◌, ◌≢◌, ◌<◌, ◌≤◌, ◌+◌, ℕ, [], ◌∷◌, ◌++◌, take, Ok}
use Rattle.client_world.specs.{declared.calls.Record.{Record}, declared.calls.Record.TheVariants.{Sim, Back, Exc}}
use Rattle.client_world.specs.{declared.registers.Mode.TheVariants.{Protected}, World.{HostWorld, depth}}
use Rattle.callbacks.specs.Callbacks.{enter_callback, leave_callback}
use Rattle.fault_service.specs.Worlds.{world_exception_return, world_protected_delivery}
use Rattle.host_run.specs.{RealCalls.{HasMoreLines, InterruptSource, ReturnsFromCall, StartsRealCall}, Turn.{enter_line, leave_line}}
use Rattle.client_world.specs.declared.calls.What.TheVariants as whats

-- a turn that adds a record: it starts a call of real mode or a callback, or delivers an exception of protected mode
abbrev pub PushesRecord : InterruptSource → HostWorld → Record → HostWorld → Type 0
PushesRecord source w (Sim call saved vif at) v = StartsRealCall source w call (Sim call saved vif at) v
PushesRecord source w (Back slot at) v =
    (enter_callback w.machine slot ≡ Ok v.machine) × HasMoreLines w (enter_line w.machine (whats.Back slot) ∷ []) v
PushesRecord source w (Exc number code) v =
    (w.machine.mode ≡ Protected)
    × (world_protected_delivery w.machine (record { number = number; code = code }) ≡ Ok v.machine)
    × HasMoreLines w (enter_line w.machine (whats.Exc number) ∷ []) v

-- a turn that takes a record away: its call, its callback or its exception returns
abbrev pub PopsRecord : HostWorld → Record → HostWorld → Type 0
PopsRecord w (Sim call saved vif at) v = ReturnsFromCall w call v
PopsRecord w (Back slot at) v =
    (leave_callback w.machine ≡ Ok v.machine) × HasMoreLines w (leave_line v.machine (whats.Back slot) ∷ []) v
PopsRecord w (Exc number code) v =
    (world_exception_return w.machine ≡ Ok v.machine) × HasMoreLines w (leave_line v.machine (whats.Exc number) ∷ []) v

-- what a turn from one host to the next does to the records
pub data Stacked (source : InterruptSource) (w v : HostWorld) : Type 0 where
  kept : v.machine.calls ≡ w.machine.calls → Stacked source w v
  pushed : (r : Record) → v.machine.calls ≡ w.machine.calls ++ r ∷ [] → PushesRecord source w r v → Stacked source w v
  popped : (r : Record) → w.machine.calls ≡ v.machine.calls ++ r ∷ [] → PopsRecord w r v → Stacked source w v

-- the depth of nested calls
abbrev pub host_depth : HostWorld → ℕ
host_depth w = depth w.machine

-- the first n turns of a run, given the host before each turn, and whose interrupt the turn may reflect
abbrev pub HasTurns : (ℕ → InterruptSource) → (ℕ → HostWorld) → ℕ → Type 0
HasTurns source w n = (k : ℕ) → k < n → Stacked (source k) (w k) (w (k + 1))

-- turn j is the first to come back to the depth before turn i: between them the depth is greater
pub record Matched (w : ℕ → HostWorld) (i j : ℕ) : Type 0 where
  pub before : i < j
  pub above : (k : ℕ) → i < k → k ≤ j → host_depth (w i) < host_depth (w k)
  pub after : host_depth (w (j + 1)) ≡ host_depth (w i)

-- turn i is the last one before turn j that adds a record at the depth to which turn j returns
pub record LastPush (w : ℕ → HostWorld) (i j : ℕ) : Type 0 where
  pub before : i < j
  pub pops : host_depth (w j) ≡ host_depth (w (j + 1)) + 1
  pub level : host_depth (w i) ≡ host_depth (w (j + 1))
  pub pushes : host_depth (w (i + 1)) ≡ host_depth (w i) + 1
  pub last : (k : ℕ) → i < k → k < j → host_depth (w k) ≡ host_depth (w i) → host_depth (w (k + 1)) ≢ host_depth (w k) + 1

-- turn i adds a record, which stays in its place, with those below it, until turn j takes that record away
pub record IsHandedOver (source : InterruptSource) (w : ℕ → HostWorld) (i j : ℕ) : Type 0 where
  pub innermost : Record
  pub push : (w (i + 1)).machine.calls ≡ (w i).machine.calls ++ innermost ∷ []
  pub pushes : PushesRecord source (w i) innermost (w (i + 1))
  pub stays : (k : ℕ) → i < k → k ≤ j → take (host_depth (w i) + 1) (w k).machine.calls ≡ (w i).machine.calls ++ innermost ∷ []
  pub pop : (w j).machine.calls ≡ (w i).machine.calls ++ innermost ∷ []
  pub pops : PopsRecord (w j) innermost (w (j + 1))
  pub rest : (w (j + 1)).machine.calls ≡ (w i).machine.calls
