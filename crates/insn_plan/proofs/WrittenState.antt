-- What carrying a plan out comes to: writes leave the registers and the virtual interrupt flag; and a number that is put into a register,
-- with no write.
use Rattle.std.proofs.Common.{◌≡◌, ℕ, true, List, [], ◌∷◌, Err, None, Some, refl, ap, ◌∙◌, Bool, Ok, sym}
use Rattle.std.specs.{declared.result.Result.{Result}, declared.option.Option.{Option}}
use Rattle.client_world.specs.{declared.faults.Event.{Event}, declared.faults.Event.TheVariants.{Fault as fault}}
use Rattle.client_world.specs.{declared.faults.Fault.{Fault}, declared.place.Place.{Place}, declared.place.Place.TheVariants.{Dos, Block}}
use Rattle.client_world.specs.{declared.place.Place.TheVariants.{Host, Nothing}, Access.{access, with_byte_of, with_bytes_of}}
use Rattle.client_world.specs.{World.{World}, declared.general.TheConstants.{ESP}, declared.registers.Regs.{Regs}, General.{with_general}}
use Rattle.client_world.specs.declared.registers.Flags.{Flags}
use Rattle.guest_space.specs.{declared.pending.Write.{Write}, Pending.{write_fault, after_write, first_write_fault, after_writes}}
use Rattle.guest_space.specs.{Pending.{byte_count, number_bytes}, Transfer.{after_store, with_places, places_of_access}}
use Rattle.guest_space.specs.Registers.{with_registers}
use Rattle.host_memory.specs.View.{MachineView}
use Rattle.insn_plan.specs.{Looks.{Reports}, Written.{IsRefused, IsWritten}, Act.{Pending, with_regs, unchanged, with_flags}}
use Rattle.insn_plan.specs.{Plan.{after_plan, after_commit, with_state}, Stack.{pending_of_pushes}, Operands.{put_operand}}
use Rattle.insn_plan.specs.Registers.{with_register}
use Rattle.insn_forms.specs.declared.insn.Operand.TheVariants.{Reg}

-- the same registers and flag
pub record SameState (v w : World) : Type 0 where
  pub regs : w.regs ≡ v.regs
  pub vif : w.vif ≡ v.vif

byte_state : (w : World) (p : Place) (x : ℕ) → SameState w (with_byte_of w p x)
byte_state w (Dos at) x = record { regs = refl; vif = refl }
byte_state w (Block number at) x = record { regs = refl; vif = refl }
byte_state w Host x = record { regs = refl; vif = refl }
byte_state w Nothing x = record { regs = refl; vif = refl }

bytes_state : (w : World) (places : List Place) (bytes : List ℕ) → SameState w (with_bytes_of w places bytes)
bytes_state w [] bytes = record { regs = refl; vif = refl }
bytes_state w (p ∷ places) [] = record { regs = refl; vif = refl }
bytes_state w (p ∷ places) (x ∷ bytes) =
    let first = byte_state w p x in
    let rest = bytes_state (with_byte_of w p x) places bytes in
    record { regs = rest.regs ∙ first.regs; vif = rest.vif ∙ first.vif }

write_state : (v : MachineView) (x : Write) → SameState v.world (after_write v x).world
unfolding after_write after_store with_places
write_state v x =
    bytes_state v.world (places_of_access (access v.world x.seg x.off (byte_count x.width) true)) (number_bytes x.width x.value)

-- and so do all of some writes
pub all_state : (v : MachineView) (xs : List Write) → SameState v.world (after_writes v xs).world
unfolding after_writes
all_state v [] = record { regs = refl; vif = refl }
all_state v (x ∷ xs) =
    let first = write_state v x in
    let rest = all_state (after_write v x) xs in
    record { regs = rest.regs ∙ first.regs; vif = rest.vif ∙ first.vif }

pub made : (old new : MachineView) (x : Write) → write_fault old.world x ≡ None → new ≡ after_write old x → IsWritten x old new
unfolding first_write_fault after_writes
made old new x allowed is =
    let state = all_state old (x ∷ []) in
    record {
      allowed = rw (first_write_fault, allowed) refl;
      is = is;
      regs = ap (λ (v : MachineView). v.world.regs) is ∙ state.regs;
      vif = ap (λ (v : MachineView). v.world.vif) is ∙ state.vif;
    }

pub refused : (old new : MachineView) (x : Write) (f : Fault) → write_fault old.world x ≡ Some f → new ≡ old → IsRefused x old new (fault f)
unfolding first_write_fault
refused old new x f found kept = record { cause = f; found = rw (first_write_fault, found) refl; event = refl; kept = kept }

pub first_refused : (w : World) (x : Write) (f : Fault) → write_fault w x ≡ Some f → first_write_fault w (x ∷ []) ≡ Some f
unfolding first_write_fault
first_refused w x f found = rw (first_write_fault, found) refl

-- a fault that is reported is the event
pub fault_reported : (f : Fault) (expected : Result MachineView Event) → Reports (Some f) expected → expected ≡ Err (fault f)
fault_reported f expected reports = reports f refl

-- it is what its plan leaves
pub carried_by : (v : MachineView) (plan : Result Pending Event) (p : Pending) → plan ≡ Ok p → after_plan v plan ≡ after_commit v p
unfolding after_plan
carried_by v (Ok q) p e = cc
carried_by v (Err event) p e = absurd cc

pub carried_event : (v : MachineView) (plan : Result Pending Event) (event : Event) → plan ≡ Err event → after_plan v plan ≡ Err event
unfolding after_plan
carried_event v (Ok p) event e = absurd cc
carried_event v (Err other) event e = cc

-- the machine, unless there is a fault
abbrev pub unless : Option Fault → MachineView → Result MachineView Event
unless None u = Ok u
unless (Some f) u = Err (fault f)

settled_is : (o : Option Fault) (u : MachineView) → elim o as (λ _. Result MachineView Event) [ Some f ↦ Err (fault f) | None ↦ Ok u ]
    ≡ unless o u
settled_is None u = refl
settled_is (Some f) u = refl

pub settled_unless : (v : MachineView) (p : Pending) →
    after_commit v p ≡ unless (first_write_fault v.world p.writes) (with_state p.regs p.vif (after_writes v p.writes))
unfolding after_commit
settled_unless v p = settled_is (first_write_fault v.world p.writes) (with_state p.regs p.vif (after_writes v p.writes))

settled_by : (o : Option Fault) (v : MachineView) (r : Regs) (p : Pending) (u : MachineView) →
    unless o (with_state p.regs p.vif v) ≡ Ok u → unless o (with_state r p.vif v) ≡ Ok (with_registers r u)
settled_by None v r p u e = cc
settled_by (Some f) v r p u e = absurd cc

-- and with other registers
pub settled_with : (v : MachineView) (r : Regs) (p : Pending) (u : MachineView) → after_commit v p ≡ Ok u →
    after_commit v (with_regs r p) ≡ Ok (with_registers r u)
settled_with v r p u e =
    settled_unless v (with_regs r p)
    ∙ settled_by (first_write_fault v.world p.writes) (after_writes v p.writes) r p u (sym (settled_unless v p) ∙ e)

refused_by : (o : Option Fault) (u w : MachineView) (event : Event) → unless o u ≡ Err event → unless o w ≡ Err event
refused_by None u w event e = absurd cc
refused_by (Some f) u w event e = cc

pub refused_with : (v : MachineView) (r : Regs) (p : Pending) (event : Event) → after_commit v p ≡ Err event →
    after_commit v (with_regs r p) ≡ Err event
refused_with v r p event e = settled_unless v (with_regs r p)
    ∙ refused_by (first_write_fault v.world p.writes) _ _ event (sym (settled_unless v p) ∙ e)

-- some pushes: their writes, and then ESP
esp_set : (v mid : MachineView) (xs : List Write) (esp : ℕ) → mid ≡ after_writes v xs →
    with_state (record v.world.regs { esp = esp }) v.world.vif (after_writes v xs)
    ≡ with_registers (with_general mid.world.regs ESP esp) mid
unfolding with_general
esp_set v mid xs esp is =
    let u = after_writes v xs in
    let state = all_state v xs in
    ap (λ (r : Regs). with_state (record r { esp = esp }) v.world.vif u) (sym state.regs)
    ∙ ap (λ (on : Bool). with_state (record u.world.regs { esp = esp }) on u) (sym state.vif)
    ∙ ap (λ (m : MachineView). with_registers (record m.world.regs { esp = esp }) m) (sym is)

pub pushes_settled : (v mid new : MachineView) (xs : List Write) (esp : ℕ) → first_write_fault v.world xs ≡ None → mid ≡ after_writes v xs →
    new ≡ with_registers (with_general mid.world.regs ESP esp) mid → after_commit v (pending_of_pushes v.world xs esp) ≡ Ok new
pushes_settled v mid new xs esp none made is =
    let p = pending_of_pushes v.world xs esp in
    settled_unless v p
    ∙ ap (λ (o : Option Fault). unless o (with_state p.regs p.vif (after_writes v xs))) none
    ∙ ap (λ (u : MachineView). Ok u) (esp_set v mid xs esp made ∙ sym is)

pub put_with_flags_in_register : (v : MachineView) (f : Flags) (r : Regs) (addr32 : Bool) (width own number x : ℕ) →
    after_commit v (put_operand r addr32 width (Reg own number) x (with_flags f v.world))
    ≡ Ok (with_registers (with_register (record v.world.regs { flags = f }) own number x) v)
unfolding after_commit put_operand first_write_fault after_writes
put_with_flags_in_register v f r addr32 width own number x = refl

pub put_in_register : (v : MachineView) (r : Regs) (addr32 : Bool) (width own number x : ℕ) →
    after_commit v (put_operand r addr32 width (Reg own number) x (unchanged v.world))
    ≡ Ok (with_registers (with_register v.world.regs own number x) v)
unfolding after_commit put_operand first_write_fault after_writes
put_in_register v r addr32 width own number x = refl
