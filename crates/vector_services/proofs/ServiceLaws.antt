-- What is true of each service is true of the one that is asked for: it changes registers, memory, the virtual interrupt flag and vectors
-- alone, and leads from a sound world to a sound one.
use Rattle.std.proofs.Common.{ℕ, ◌≡◌, refl, ◌∙◌, ◌+◌, ◌/◌, ◌%◌, ◌<◌, List, arith, slice_set, length-set}
use Rattle.client_world.specs.{World.{World}, declared.memory_map.TheConstants.{ROM_START}, declared.segments.FarPtr.{FarPtr}}
use Rattle.client_world.specs.{Services.{cx, dx}, Soundness.{IsSound, SoundMegabyte}}
use Rattle.service_rows.specs.Reasons.{Service, unsupported, first_reason}
use Rattle.service_rows.proofs.AnswerLaws.{if_has, of_answer, sound_ax}
use Rattle.vector_services.specs.Rows.{vector_function, disable_interrupts, enable_interrupts, get_exception_vector, get_protected_vector}
use Rattle.vector_services.specs.Rows.{get_real_vector, interrupt_state, set_exception_vector, set_protected_vector, set_real_vector}
use Rattle.vector_services.specs.Rows.{dpmi_version, vector_service, bl, cx_dx}
use Rattle.client_world.proofs.SoundWrites.{IsSound-dos, IsSound-vif, SoundMegabyte-set, sound_general}
use Rattle.guest_ram.specs.Bytes.{with_word}
use Rattle.guest_space.specs.Dos.{real_vector_address}
use Rattle.guest_space.proofs.SoundLists.{IsSound-vectors}

pub record Each (P : Service → Type 0) (w : World) : Type 0 where
  pub f200 : P (get_real_vector w)
  pub f201 : P (set_real_vector w)
  pub f202 : P (get_exception_vector w)
  pub f203 : P (set_exception_vector w)
  pub f204 : P (get_protected_vector w)
  pub f205 : P (set_protected_vector w)
  pub f400 : P (dpmi_version w)
  pub f900 : P (disable_interrupts w)
  pub f901 : P (enable_interrupts w)
  pub f902 : P (interrupt_state w)
  pub other : P (unsupported w)

pub of_each_service : (P : Service → Type 0) (w : World) → Each P w → (ax : ℕ) → P (vector_function ax w)
unfolding vector_function
of_each_service P w e ax =
    if_has P _ _ _ e.f200 (if_has P _ _ _ e.f201 (if_has P _ _ _ e.f202 (if_has P _ _ _ e.f203 (if_has P _ _ _ e.f204 (if_has P _ _ _ e.f205
    (if_has P _ _ _ e.f400 (if_has P _ _ _ e.f900 (if_has P _ _ _ e.f901 (if_has P _ _ _ e.f902 e.other)))))))))

abbrev pub Kept : World → World → Type 0
Kept w v = v ≡ record w {
  regs = v.regs;
  vif = v.vif;
  dos = v.dos;
  interrupt_vectors = v.interrupt_vectors;
  exception_vectors = v.exception_vectors;
}

kept_after : (ax : ℕ) (w : World) → Kept w (vector_function ax w).after
unfolding disable_interrupts enable_interrupts get_exception_vector get_protected_vector get_real_vector interrupt_state
    set_exception_vector set_protected_vector set_real_vector dpmi_version unsupported
kept_after ax w = of_each_service (λ (a : Service). Kept w a.after) w (record {
  f200 = refl;
  f201 = refl;
  f202 = refl;
  f203 = refl;
  f204 = refl;
  f205 = refl;
  f400 = refl;
  f900 = refl;
  f901 = refl;
  f902 = refl;
  other = refl;
}) ax

pub kept_service : (ax : ℕ) (w : World) → Kept w (vector_service ax w).world
unfolding vector_service
kept_service ax w =
    of_answer (Kept w) (first_reason (vector_function ax w).reasons) w (vector_function ax w).after refl (λ n. refl) (λ e. kept_after ax w)

sound_word : (dos : List ℕ) (at v : ℕ) → SoundMegabyte dos → at + 1 < ROM_START → v < 0x10000 → SoundMegabyte (with_word dos at v)
sound_word dos at v s below fits =
    SoundMegabyte-set (slice_set dos at (v % 0x100)) (at + 1) (v / 0x100)
    (SoundMegabyte-set dos at (v % 0x100) s (omega arith) (omega arith)) below (omega arith)

sound_real : (w : World) → IsSound w →
    IsSound (record w { dos = with_word (with_word w.dos (real_vector_address (bl w)) (dx w)) (real_vector_address (bl w) + 2) (cx w) })
sound_real w s = IsSound-dos w (with_word (with_word w.dos (real_vector_address (bl w)) (dx w)) (real_vector_address (bl w) + 2) (cx w)) s
    (sound_word (with_word w.dos (real_vector_address (bl w)) (dx w)) (real_vector_address (bl w) + 2) (cx w)
    (sound_word w.dos (real_vector_address (bl w)) (dx w) s.megabyte (omega arith) (omega arith)) (omega arith) (omega arith))

sound_exception : (w : World) (n : ℕ) (p : FarPtr) → IsSound w →
    IsSound (record w { exception_vectors = slice_set w.exception_vectors n p })
sound_exception w n p s = IsSound-vectors w w.interrupt_vectors (slice_set w.exception_vectors n p) w.pageable s
    s.interrupt_vectors (length-set w.exception_vectors n p ∙ s.exception_vectors) s.pageable

sound_interrupt : (w : World) (n : ℕ) (p : FarPtr) → IsSound w →
    IsSound (record w { interrupt_vectors = slice_set w.interrupt_vectors n p })
sound_interrupt w n p s = IsSound-vectors w (slice_set w.interrupt_vectors n p) w.exception_vectors w.pageable s
    (length-set w.interrupt_vectors n p ∙ s.interrupt_vectors) s.exception_vectors s.pageable

sound_after : (ax : ℕ) (w : World) → IsSound w → IsSound (vector_function ax w).after
unfolding disable_interrupts enable_interrupts get_exception_vector get_protected_vector get_real_vector interrupt_state
    set_exception_vector set_protected_vector set_real_vector dpmi_version unsupported
sound_after ax w s = of_each_service (λ (a : Service). IsSound a.after) w (record {
  f200 = sound_general w w.regs.eax w.regs.ebx _ _ w.regs.esi w.regs.edi s;
  f201 = sound_real w s;
  f202 = sound_general w w.regs.eax w.regs.ebx _ _ w.regs.esi w.regs.edi s;
  f203 = sound_exception w (bl w) (cx_dx w) s;
  f204 = sound_general w w.regs.eax w.regs.ebx _ _ w.regs.esi w.regs.edi s;
  f205 = sound_interrupt w (bl w) (cx_dx w) s;
  f400 = sound_general w _ _ _ _ w.regs.esi w.regs.edi s;
  f900 = IsSound-vif _ _ (sound_general w _ w.regs.ebx w.regs.ecx w.regs.edx w.regs.esi w.regs.edi s);
  f901 = IsSound-vif _ _ (sound_general w _ w.regs.ebx w.regs.ecx w.regs.edx w.regs.esi w.regs.edi s);
  f902 = IsSound-vif _ _ (sound_general w _ w.regs.ebx w.regs.ecx w.regs.edx w.regs.esi w.regs.edi s);
  other = s;
}) ax

pub sound_service : (ax : ℕ) (w : World) → IsSound w → IsSound (vector_service ax w).world
unfolding vector_service
sound_service ax w s =
    of_answer IsSound (first_reason (vector_function ax w).reasons) w (vector_function ax w).after s (λ n. sound_ax w n s)
    (λ e. sound_after ax w s)
