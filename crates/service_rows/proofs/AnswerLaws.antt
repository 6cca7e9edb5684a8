-- What is true of a service is true of what it answers.
use Rattle.std.proofs.Common.{◌≡◌, refl, ◌∙◌, ap, arith, ℕ, Bool, true, false, List, [], ◌∷◌, if◌then◌else◌, Option, None, Some}
use Rattle.client_world.specs.{declared.services.Carry.TheVariants.{Set}, Registers.{low_half, with_low_half}, Soundness.{IsSound}}
use Rattle.client_world.specs.World.{World}
use Rattle.client_world.proofs.SoundWrites.{sound_general}
use Rattle.service_rows.specs.{declared.refusal.Refusal.{Refusal}, declared.refusal.Refusal.TheVariants.{Unsupported}, Reasons.{HasOtherAx}}
use Rattle.service_rows.specs.Reasons.{HasOtherAxAndBx, Service, family_answer, first_reason, refusal_number, service_answer}
use Rattle.service_rows.specs.Rows.{with_ax, with_bx}

pub if_has : (P : Service → Type 0) (b : Bool) (x y : Service) → P x → P y → P (if b then x else y)
if_has P true x y one other = one
if_has P false x y one other = other

-- the world after a service of a family is the one before it, but for AX, or, where no reason applies, the one after its work
pub of_answer : (P : World → Type 0) (o : Option Refusal) (w after : World) → P w → ((n : ℕ) → P (with_ax n w)) → (o ≡ None → P after) →
    P (family_answer o w after).world
of_answer P None w after before refused done = done refl
of_answer P (Some Unsupported) w after before refused done = before
of_answer P (Some r) w after before refused done = refused (refusal_number r)

-- AX may hold anything
pub sound_ax : (w : World) (n : ℕ) → IsSound w → IsSound (with_ax n w)
sound_ax w n s = sound_general w _ w.regs.ebx w.regs.ecx w.regs.edx w.regs.esi w.regs.edi s

-- a refusal changes AX alone
same_low_half : (x : ℕ) → x ≡ with_low_half x (low_half x)
same_low_half x = omega arith

pub same_ax : (w : World) → HasOtherAx w w
same_ax w = (low_half w.regs.eax, ap (λ (eax : ℕ). record w { regs = record w.regs { eax = eax } }) (same_low_half w.regs.eax))

pub same_bx : (w : World) → w ≡ with_bx (low_half w.regs.ebx) w
same_bx w = ap (λ (ebx : ℕ). record w { regs = record w.regs { ebx = ebx } }) (same_low_half w.regs.ebx)

-- what changes AX alone changes AX and BX alone
pub ax_and_bx : (w u : World) → HasOtherAx w u → HasOtherAxAndBx w u
ax_and_bx w u h = (h.0, low_half w.regs.ebx, h.1 ∙ ap (λ (v : World). with_ax h.0 v) (same_bx w))

pub refused_answer : (o : Option Refusal) (w after : World) → (service_answer o w after).carry ≡ Set →
    HasOtherAx w (service_answer o w after).world
refused_answer None w after e = absurd cc
refused_answer (Some r) w after e = (refusal_number r, refl)

pub refused_by_family : (o : Option Refusal) (w after : World) → (family_answer o w after).carry ≡ Set →
    HasOtherAx w (family_answer o w after).world
refused_by_family None w after e = absurd cc
refused_by_family (Some Unsupported) w after e = same_ax w
refused_by_family (Some r) w after e = (refusal_number r, refl)

-- none of the reasons applies
abbrev pub NoneApplies : List (Refusal × Bool) → Type 0
NoneApplies [] = Unit {0}
NoneApplies (reason ∷ reasons) = (reason.1 ≡ false) × NoneApplies reasons

pub no_reason : (reasons : List (Refusal × Bool)) → first_reason reasons ≡ None → NoneApplies reasons
no_reason [] e = tt
no_reason ((refusal, true) ∷ reasons) e = absurd cc
no_reason ((refusal, false) ∷ reasons) e = (refl, no_reason reasons e)
