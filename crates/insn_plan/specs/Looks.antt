-- The contracts of looks at memory, in whichever way (`Look`). A look that misses reports the fault of the access, or nothing. Source: own.
use Rattle.std.specs.{Prelude.{◌≡◌, ℕ, [], ◌∷◌, Ok, Err, None, Some, MatchResult}, declared.option.Option.{Option}}
use Rattle.std.specs.declared.result.Result.{Result}
use Rattle.client_world.specs.{declared.faults.Event.{Event}, declared.faults.Event.TheVariants.{Fault as fault}}
use Rattle.client_world.specs.declared.faults.Fault.{Fault}
use Rattle.guest_space.specs.{declared.pending.Write.{Write}, Pending.{first_write_fault}}
use Rattle.host_memory.specs.View.{MachineView}
use Rattle.insn_plan.specs.{Act.{Act}, Plan.{after_plan, plan_result}, Written.{IsWritten}}

-- where a fault is reported, it is the event of the outcome
abbrev pub Reports : {A : Type 0} → Option Fault → Result A Event → Type 0
Reports reported outcome = (f : Fault) → reported ≡ Some f → outcome ≡ Err (fault f)

-- where a fault is reported, it is the one that is found
abbrev pub ReportsFault : Option Fault → Option Fault → Type 0
ReportsFault reported found = (f : Fault) → reported ≡ Some f → found ≡ Some f

-- a look shows a number; or it misses, and reports the fault of the access or nothing
abbrev pub Shows : {M : Type 0} → (M → Option Fault) → Result ℕ M → Result ℕ Event → Type 0
Shows reported result value = MatchResult result (λ v. value ≡ Ok v) (λ missed. Reports (reported missed) value)

-- there is no fault; or the look misses, and reports the fault or nothing
abbrev pub Clears : {M : Type 0} → (M → Option Fault) → Result (Unit {0}) M → Option Fault → Type 0
Clears reported result found = MatchResult result (λ _. found ≡ None) (λ missed. ReportsFault (reported missed) found)

-- a number is written; or the look misses, nothing is changed, and it reports the write's fault or nothing
abbrev pub Writes : {M : Type 0} → (M → Option Fault) → MachineView → MachineView → Result (Unit {0}) M → Write → Type 0
Writes reported old new result x = MatchResult result (λ _. IsWritten x old new)
    (λ missed. ReportsFault (reported missed) (first_write_fault old.world (x ∷ [])) × (new ≡ old))

-- the machine becomes what is expected; or a look misses, nothing is changed, and it reports the fault or nothing
abbrev pub FollowsBy : {M : Type 0} → (M → Option Fault) → MachineView → MachineView → Result (Unit {0}) M →
    Result MachineView Event → Type 0
FollowsBy reported old new result expected =
    MatchResult result (λ _. expected ≡ Ok new) (λ missed. Reports (reported missed) expected × (new ≡ old))

-- an instruction is carried out; or a look misses, nothing is changed, and it reports the instruction's fault or nothing
abbrev pub CarriesOutBy : {M : Type 0} → (M → Option Fault) → MachineView → MachineView → Result (Unit {0}) M → Act → Type 0
CarriesOutBy reported old new result act = FollowsBy reported old new result (after_plan old (plan_result old.world act))
