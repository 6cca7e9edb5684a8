-- The raw switches and their addresses: a sound world leads to a sound one, and nothing changes but the mode and registers.
use Rattle.std.proofs.Common.{◌≡◌, ◌≢◌, ◌<◌, ℕ, nat_eq, Bool, true, false, arith, refl, subst, sym, Option, None, Some, Ok, Err}
use Rattle.std.specs.Prelude.{if◌then◌else◌}
use Rattle.client_world.specs.{declared.outcome.Exit.TheVariants.{BadSwitch}, declared.registers.Mode.TheVariants.{Real, Protected}}
use Rattle.client_world.specs.{declared.registers.Regs.{Regs}, declared.registers.Width.{Width}, Registers.{low_half}}
use Rattle.client_world.specs.{Selector.{client_selector}, Services.{by_width}, Soundness.{HasSegments, IsSound}, World.{World}}
use Rattle.client_world.specs.declared.services.Carry.TheVariants.{Set}
use Rattle.client_world.proofs.SoundWrites.{IsSound-mode, IsSound-regs}
use Rattle.service_rows.specs.{declared.refusal.Refusal.{Refusal}, Reasons.{family_outcome, first_reason, unsupported}}
use Rattle.service_rows.proofs.WidthLaws.{protected_width}
use Rattle.mode_gates.specs.Switches.{after_switch, can_switch, gate_function, gate_service, state_addresses, switch_addresses}
use Rattle.mode_gates.specs.Switches.{world_after_switch_by_width, regs_after_switch, world_after_switch_to_protected}
use Rattle.mode_gates.specs.Switches.{world_after_switch_to_real}

-- of the world nothing changes but the mode and the registers
abbrev pub Switches : World → World → Type 0
Switches w u = u ≡ record w { mode = u.mode; regs = u.regs }

switched_segments : (r : Regs) (code stack_pointer instruction_pointer : ℕ) → code < 0x10000 →
    HasSegments (regs_after_switch r code stack_pointer instruction_pointer)
switched_segments r code stack_pointer instruction_pointer small = record {
  es = omega arith;
  cs = small;
  ss = omega arith;
  ds = omega arith;
  fs = omega arith;
  gs = omega arith;
}

real_by : (w : World) (o : Option Width) → w.width ≡ o → w.width ≢ None → IsSound w → IsSound (record w { mode = Real })
real_by w None is some s = absurd (some is)
real_by w (Some width) is some s = IsSound-mode w Real width s is

pub sound_to_real : (w : World) → IsSound w → w.mode ≡ Protected → IsSound (world_after_switch_to_real w)
unfolding world_after_switch_to_real
sound_to_real w s mode =
    let u : World = record w { mode = Real } in
    IsSound-regs u (regs_after_switch w.regs (low_half w.regs.esi) (low_half w.regs.ebx) (low_half w.regs.edi))
    (real_by w w.width refl (protected_width w s mode) s)
    (switched_segments w.regs (low_half w.regs.esi) (low_half w.regs.ebx) (low_half w.regs.edi) (omega arith))

sound_switch : (w : World) (width : Width) → w.width ≡ Some width → IsSound w → IsSound (after_switch w (Some width))
unfolding after_switch
sound_switch w width is s =
    let u : World = record w { mode = Protected } in
    let code : ℕ = client_selector (low_half w.regs.esi) in
    let r = regs_after_switch w.regs code (by_width (Some width) w.regs.ebx) (by_width (Some width) w.regs.edi) in
    IsSound-regs u r (IsSound-mode w Protected width s is)
    (switched_segments w.regs code (by_width (Some width) w.regs.ebx) (by_width (Some width) w.regs.edi) (omega arith))

-- a switch to protected mode that is made
pub record IsSwitched (w u : World) : Type 0 where
  pub width : Width
  pub made : w.width ≡ Some width
  pub is : u ≡ after_switch w (Some width)

switched_where : (can : Bool) (w u : World) (width : Width) → w.width ≡ Some width →
    (if can then Ok (after_switch w (Some width)) else Err BadSwitch) ≡ Ok u → IsSwitched w u
switched_where true w u width is e = record { width = width; made = is; is = cc }
switched_where false w u width is e = absurd cc

switched_of : (w u : World) (o : Option Width) → w.width ≡ o → world_after_switch_by_width w o ≡ Ok u → IsSwitched w u
switched_of w u None is e = absurd cc
switched_of w u (Some width) is e = switched_where (can_switch w (Some width)) w u width is e

pub is_switched : (w u : World) → world_after_switch_to_protected w ≡ Ok u → IsSwitched w u
unfolding world_after_switch_to_protected
is_switched w u e = switched_of w u w.width refl e

pub sound_to_protected : (w u : World) → IsSound w → world_after_switch_to_protected w ≡ Ok u → IsSound u
sound_to_protected w u s e = let t = is_switched w u e in subst IsSound (sym t.is) (sound_switch w t.width t.made s)

after_switches : (w : World) (width : Option Width) → Switches w (after_switch w width)
unfolding after_switch
after_switches w width = refl

pub to_protected_switches : (w u : World) → world_after_switch_to_protected w ≡ Ok u → Switches w u
to_protected_switches w u e = let t = is_switched w u e in subst (Switches w) (sym t.is) (after_switches w (Some t.width))

pub to_real_switches : (w : World) → Switches w (world_after_switch_to_real w)
unfolding world_after_switch_to_real
to_real_switches w = refl

-- ---- their addresses

sound_by : (a b : Bool) (w : World) → IsSound w →
    IsSound (family_outcome (if a then state_addresses w else if b then switch_addresses w else unsupported w) w).world
unfolding state_addresses switch_addresses unsupported
sound_by true b w s = IsSound-regs w _ s
    (record { es = s.segments.es; cs = s.segments.cs; ss = s.segments.ss; ds = s.segments.ds; fs = s.segments.fs; gs = s.segments.gs })
sound_by false true w s = IsSound-regs w _ s
    (record { es = s.segments.es; cs = s.segments.cs; ss = s.segments.ss; ds = s.segments.ds; fs = s.segments.fs; gs = s.segments.gs })
sound_by false false w s = s

-- a function that gives addresses isn't refused: only a number that is neither's is
answered_by : (a b : Bool) (w : World) (refusal : Refusal) →
    first_reason (if a then state_addresses w else if b then switch_addresses w else unsupported w).reasons ≡ Some refusal →
    family_outcome (if a then state_addresses w else if b then switch_addresses w else unsupported w) w ≡ record { carry = Set; world = w }
unfolding state_addresses switch_addresses unsupported
answered_by true b w refusal e = absurd cc
answered_by false true w refusal e = absurd cc
answered_by false false w refusal e = refl

pub only_unsupported : (ax : ℕ) (w : World) (refusal : Refusal) → first_reason (gate_function ax w).reasons ≡ Some refusal →
    family_outcome (gate_function ax w) w ≡ record { carry = Set; world = w }
unfolding gate_function
only_unsupported ax w refusal e = answered_by (nat_eq ax 0x0305) (nat_eq ax 0x0306) w refusal e

pub sound_service : (ax : ℕ) (w : World) → IsSound w → IsSound (gate_service ax w).world
unfolding gate_service gate_function
sound_service ax w s = sound_by (nat_eq ax 0x0305) (nat_eq ax 0x0306) w s

kept_by : (a b : Bool) (w : World) →
    (family_outcome (if a then state_addresses w else if b then switch_addresses w else unsupported w) w).world
    ≡ record w { regs = (family_outcome (if a then state_addresses w else if b then switch_addresses w else unsupported w) w).world.regs }
unfolding state_addresses switch_addresses unsupported
kept_by true b w = refl
kept_by false true w = refl
kept_by false false w = refl

pub kept_service : (ax : ℕ) (w : World) → (gate_service ax w).world ≡ record w { regs = (gate_service ax w).world.regs }
unfolding gate_service gate_function
kept_service ax w = kept_by (nat_eq ax 0x0305) (nat_eq ax 0x0306) w
