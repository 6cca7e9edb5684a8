-- A service of INT 31h with the reasons for which it is refused, and the numbers of the reasons. Source: own.
use Rattle.std.specs.{Prelude.{ℕ, ◌≡◌, Bool, true, List, [], ◌∷◌, None, Some, MatchResult, if◌then◌else◌}, declared.option.Option.{Option}}
use Rattle.std.specs.declared.result.Result.{Result}
use Rattle.client_world.specs.{declared.services.Carry.TheVariants.{Clear, Set}, Services.{Served}, World.{World}}
use Rattle.host_memory.specs.View.{MachineView}
use Rattle.service_rows.specs.{declared.refusal.Refusal.{Refusal}, declared.refusal.Refusal.TheVariants.{Unsupported}}
use Rattle.service_rows.specs.declared.refusal.Refusal.TheVariants.{DescriptorUnavailable, LinearMemoryUnavailable}
use Rattle.service_rows.specs.declared.refusal.Refusal.TheVariants.{PhysicalMemoryUnavailable, CallbackUnavailable, HandleUnavailable}
use Rattle.service_rows.specs.declared.refusal.Refusal.TheVariants.{InvalidValue, InvalidSelector, InvalidHandle, InvalidCallback}
use Rattle.service_rows.specs.{declared.refusal.Refusal.TheVariants.{InvalidAddress}, Rows.{with_ax, with_bx}}

-- the first reason that applies
abbrev pub first_reason : List (Refusal × Bool) → Option Refusal
first_reason [] = None
first_reason (reason ∷ reasons) = if reason.1 then Some reason.0 else first_reason reasons

-- a service in a world: its reasons of refusal in their order, each with whether it applies, and the world after its work
pub record Service : Type 0 where
  pub reasons : List (Refusal × Bool)
  pub after : World

-- a function number that its family doesn't have
unfoldable pub unsupported : World → Service
unsupported w = record { reasons = (Unsupported, true) ∷ []; after = w }

-- the number that a refusal puts in AX
abbrev pub refusal_number : Refusal → ℕ
refusal_number Unsupported = 0x8001
refusal_number DescriptorUnavailable = 0x8011
refusal_number LinearMemoryUnavailable = 0x8012
refusal_number PhysicalMemoryUnavailable = 0x8013
refusal_number CallbackUnavailable = 0x8015
refusal_number HandleUnavailable = 0x8016
refusal_number InvalidValue = 0x8021
refusal_number InvalidSelector = 0x8022
refusal_number InvalidHandle = 0x8023
refusal_number InvalidCallback = 0x8024
refusal_number InvalidAddress = 0x8025

-- a refusal sets the carry, and AX to its number
abbrev pub refusal_answer : Refusal → World → Served
refusal_answer refusal w = record { carry = Set; world = with_ax (refusal_number refusal) w }

-- the second world is the first one but for AX
abbrev pub HasOtherAx : World → World → Type 0
HasOtherAx w u = (number : ℕ) × (u ≡ with_ax number w)

-- the second world is the first one but for AX and BX
abbrev pub HasOtherAxAndBx : World → World → Type 0
HasOtherAxAndBx w u = (number other : ℕ) × (u ≡ with_ax number (with_bx other w))

-- the carry and the world after a service: the first reason that applies refuses it
abbrev pub service_answer : Option Refusal → World → World → Served
service_answer None before after = record { carry = Clear; world = after }
service_answer (Some refusal) before after = refusal_answer refusal before

abbrev pub outcome : Service → World → Served
outcome s before = service_answer (first_reason s.reasons) before s.after

-- the same in a family: a function number that the family doesn't have sets the carry and changes nothing, since the host answers it
abbrev pub family_answer : Option Refusal → World → World → Served
family_answer None before after = record { carry = Clear; world = after }
family_answer (Some Unsupported) before after = record { carry = Set; world = before }
family_answer (Some refusal) before after = refusal_answer refusal before

abbrev pub family_outcome : Service → World → Served
family_outcome s before = family_answer (first_reason s.reasons) before s.after

-- a call does the service's work, or it returns the first reason that applies and changes nothing
abbrev pub Does : Service → Result Unit Refusal → MachineView → MachineView → Type 0
Does s result old new = MatchResult result
    (λ _. (first_reason s.reasons ≡ None) × (new.world ≡ s.after))
    (λ refusal. (first_reason s.reasons ≡ Some refusal) × (new ≡ old))
