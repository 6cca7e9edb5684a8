-- The functions of INT 31h: each family keeps a world sound, and the records of calls; none asks for a reflection; and one that is refused
-- changes AX and BX alone, AX alone where it isn't on DOS memory.
use Rattle.std.proofs.Common.{◌≡◌, ℕ, Bool, true, false, nat_eq, refl, subst, Option, None, Some, ◌≢◌, ap}
use Rattle.std.specs.Prelude.{if◌then◌else◌}
use Rattle.client_world.specs.{declared.calls.Call.{Call}, declared.calls.Call.TheVariants.{Int, Far, Iret}, Registers.{low_byte}}
use Rattle.client_world.specs.{World.{World}, declared.services.Carry.TheVariants.{Set}, Services.{Served}}
use Rattle.client_world.specs.{declared.registers.Mode.TheVariants.{Protected}, Soundness.{IsSound}}
use Rattle.host_run.specs.{Turn.{asked_call}, declared.families.Family.{Family}, declared.families.Family.TheVariants.{Descriptors}}
use Rattle.host_run.specs.{declared.families.Family.TheVariants.{DosMemory, Vectors, Callbacks, Gates, Blocks}, Families.{family_of}}
use Rattle.host_run.specs.Families.{service, service_of}
use Rattle.translation.specs.SimulatedCall.{is_reflection}
use Rattle.block_services.specs.Rows.{block_function, block_service}
use Rattle.callbacks.specs.Services.{callback_function, callback_service}
use Rattle.desc_services.specs.Rows.{descriptor_function, descriptor_service}
use Rattle.dos_blocks.proofs.OneStep.{refused_service}
use Rattle.mode_gates.specs.Switches.{gate_function, gate_service}
use Rattle.vector_services.specs.Rows.{vector_function, vector_service}
use Rattle.service_rows.specs.Reasons.{HasOtherAx, HasOtherAxAndBx, Service, family_outcome, first_reason, refusal_answer}
use Rattle.service_rows.specs.declared.refusal.Refusal.TheVariants.{Unsupported}
use Rattle.service_rows.proofs.AnswerLaws.{ax_and_bx, refused_by_family, sound_ax}
use Rattle.dos_blocks.specs.Services.{dos_service}
use Rattle.block_services.proofs.ServiceLaws as block_laws
use Rattle.callbacks.proofs.Served as callback_laws
use Rattle.dos_blocks.proofs.ServiceLaws as dos_laws
use Rattle.desc_services.proofs.ServiceLaws as descriptor_laws
use Rattle.mode_gates.proofs.SwitchLaws as gate_laws
use Rattle.vector_services.proofs.ServiceLaws as vector_laws

abbrev IsPlain : Option Call → Type 0
IsPlain o = (call : Call) → o ≡ Some call → is_reflection call ≡ false

either : (b : Bool) (x y : Option Call) → IsPlain x → IsPlain y → IsPlain (if b then x else y)
either true x y p q = p
either false x y p q = q

some_plain : (c : Call) → is_reflection c ≡ false → IsPlain (Some c)
some_plain c plain call e = let same : c ≡ call = cc in subst (λ (x : Call). is_reflection x ≡ false) same plain

none_plain : IsPlain None
none_plain call e = absurd cc

pub plain_call : (ax : ℕ) (w : World) → IsPlain (asked_call ax w)
plain_call ax w =
    either (nat_eq ax 0x0300) _ _ (some_plain (Int (low_byte w.regs.ebx)) refl)
    (either (nat_eq ax 0x0301) _ _ (some_plain Far refl)
    (either (nat_eq ax 0x0302) _ _ (some_plain Iret refl) none_plain))

abbrev Refuses : World → Served → Type 0
Refuses w s = s.carry ≡ Set → HasOtherAx w s.world

refused : (s : Service) (w : World) → Refuses w (family_outcome s w)
refused s w = refused_by_family (first_reason s.reasons) w s.after

-- what a family other than that of DOS memory answers
other : (o : Option Family) (ax : ℕ) (w : World) → o ≢ Some DosMemory → Refuses w (service_of o ax w)
unfolding descriptor_service vector_service callback_service gate_service block_service
other (Some Descriptors) ax w ne = refused (descriptor_function ax w) w
other (Some DosMemory) ax w ne = absurd (ne refl)
other (Some Vectors) ax w ne = refused (vector_function ax w) w
other (Some Callbacks) ax w ne = refused (callback_function ax w) w
other (Some Gates) ax w ne = refused (gate_function ax w) w
other (Some Blocks) ax w ne = refused (block_function ax w) w
other None ax w ne = λ e. (0x8001, refl)

pub other_function : (ax : ℕ) (w : World) → family_of ax ≢ Some DosMemory → (service ax w).carry ≡ Set → HasOtherAx w (service ax w).world
unfolding service
other_function ax w ne = other (family_of ax) ax w ne

any : (o : Option Family) (ax : ℕ) (w : World) → (service_of o ax w).carry ≡ Set → HasOtherAxAndBx w (service_of o ax w).world
any (Some Descriptors) ax w e = ax_and_bx w _ (other (Some Descriptors) ax w (λ same. cc) e)
any (Some DosMemory) ax w e = refused_service ax w e
any (Some Vectors) ax w e = ax_and_bx w _ (other (Some Vectors) ax w (λ same. cc) e)
any (Some Callbacks) ax w e = ax_and_bx w _ (other (Some Callbacks) ax w (λ same. cc) e)
any (Some Gates) ax w e = ax_and_bx w _ (other (Some Gates) ax w (λ same. cc) e)
any (Some Blocks) ax w e = ax_and_bx w _ (other (Some Blocks) ax w (λ same. cc) e)
any None ax w e = ax_and_bx w _ (other None ax w (λ same. cc) e)

pub any_function : (ax : ℕ) (w : World) → (service ax w).carry ≡ Set → HasOtherAxAndBx w (service ax w).world
unfolding service
any_function ax w = any (family_of ax) ax w

-- what holds of each family's service, and of the refusal of other numbers, holds of the one that is chosen
of_family : (P : Served → Type 0) (o : Option Family) (ax : ℕ) (w : World) →
    P (descriptor_service ax w) → P (dos_service ax w) → P (vector_service ax w) → P (callback_service ax w) → P (gate_service ax w) →
    P (block_service ax w) → P (refusal_answer Unsupported w) → P (service_of o ax w)
of_family P (Some Descriptors) ax w descriptors dos vectors callbacks gates blocks none = descriptors
of_family P (Some DosMemory) ax w descriptors dos vectors callbacks gates blocks none = dos
of_family P (Some Vectors) ax w descriptors dos vectors callbacks gates blocks none = vectors
of_family P (Some Callbacks) ax w descriptors dos vectors callbacks gates blocks none = callbacks
of_family P (Some Gates) ax w descriptors dos vectors callbacks gates blocks none = gates
of_family P (Some Blocks) ax w descriptors dos vectors callbacks gates blocks none = blocks
of_family P None ax w descriptors dos vectors callbacks gates blocks none = none

pub sound_service : (ax : ℕ) (w : World) → IsSound w → w.mode ≡ Protected → IsSound (service ax w).world
unfolding service
sound_service ax w sound protected = of_family (λ (s : Served). IsSound s.world) (family_of ax) ax w
    (descriptor_laws.sound_service ax w sound protected)
    (dos_laws.sound_service ax w sound protected)
    (vector_laws.sound_service ax w sound)
    (callback_laws.sound_serve w ax sound protected)
    (gate_laws.sound_service ax w sound)
    (block_laws.sound_service ax w sound protected)
    (sound_ax w 0x8001 sound)

pub calls_service : (ax : ℕ) (w : World) → (service ax w).world.calls ≡ w.calls
unfolding service
calls_service ax w = of_family (λ (s : Served). s.world.calls ≡ w.calls) (family_of ax) ax w
    (ap (λ (x : World). x.calls) (descriptor_laws.kept_service ax w))
    (ap (λ (x : World). x.calls) (dos_laws.kept_service ax w))
    (ap (λ (x : World). x.calls) (vector_laws.kept_service ax w))
    (ap (λ (x : World). x.calls) (callback_laws.serve_left w ax))
    (ap (λ (x : World). x.calls) (gate_laws.kept_service ax w))
    (ap (λ (x : World). x.calls) (block_laws.kept_service ax w))
    refl
