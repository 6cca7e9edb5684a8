-- A far return at a trap and the entry lead from a sound world to a sound one: the descriptors of the entry may be put, one after another.
use Rattle.std.proofs.Common.{◌≡◌, ◌≢◌, ℕ, ◌+◌, ◌<◌, ◌≤◌, List, slice_set, ◌∙◌, arith, None, Some, get_or-set_other, ◌/◌, ◌%◌, ◌^◌, true}
use Rattle.std.proofs.Common.{refl, subst, Option, Result, Ok, Err}
use Rattle.client_world.specs.{declared.descriptors.Desc.{Desc}, declared.descriptors.Origin.{Origin}}
use Rattle.client_world.specs.{declared.host_frames.TheConstants.{DESCRIPTORS, FIRST_FREE_DESCRIPTOR}, declared.registers.Width.{Width}}
use Rattle.client_world.specs.{Descriptor.{FitsDescriptor}, Selector.{Row, row_at_index, selector_of}, Soundness.{IsSound, IsPlainOrigin}}
use Rattle.client_world.specs.{Soundness.{IsOfDosBlock, HasSegments, SoundMegabyte}, World.{World}}
use Rattle.client_world.specs.{declared.descriptors.Origin.TheVariants.{Entry, Psp}, declared.outcome.Exit.{Exit}}
use Rattle.client_world.specs.{declared.registers.Mode.TheVariants.{Protected}, declared.registers.Regs.{Regs}}
use Rattle.client_world.specs.{declared.registers.Width.TheVariants.{Sixteen}, declared.memory_map.TheConstants.{PSP_SEGMENT}}
use Rattle.client_world.specs.declared.selectors.TheConstants.{ENTRY_CODE, ENTRY_STACK, ENTRY_DATA, ENTRY_PSP, ENTRY_ENVIRONMENT}
use Rattle.client_world.specs.Services.{Served}
use Rattle.client_world.proofs.{SoundRows.{IsSound-row, high_is_clients, none_not_dos, plain_not_dos}, SoundWrites.{IsSound-dos}}
use Rattle.client_world.proofs.SoundWrites.{IsSound-mode, IsSound-regs, SoundMegabyte-set}
use Rattle.guest_space.proofs.Entered.{before, no_others, IsSound-width}
use Rattle.mode_gates.specs.Entry.{host_rows, asked_width, code_of_segment, data_of_segment, after_first_entry, entry, entry_after}
use Rattle.mode_gates.specs.{Entry.{entry_registers, entry_rows, entry_answer, environment_of, environment_word}, Rows.{AreFreeFrom}}
use Rattle.mode_gates.specs.FarFrames.{after_far_return, world_after_far_return}
use Rattle.cpu_step.proofs.{FlowSegments.{far_frame_leaves}, SegmentWords.{words_of}, SoundSteps.{sound_by_plan}}
use Rattle.exec_flow.specs.{FarTransfers.{far_frame_pop}, Interrupts.{frame_bits}}
use Rattle.guest_ram.specs.Bytes.{with_word}
use Rattle.host_memory.specs.View.{MachineView}
use Rattle.insn_plan.specs.Plan.{plan_result, after_plan}
use Rattle.interrupts.specs.Worlds.{view_without_bytes}
use Rattle.interrupts.proofs.SoundAnswers.{holds_of_world, return_was}
use Rattle.service_rows.specs.Rows.{with_carry, with_row}

-- what set_desc asks
pub record MayPut (w : World) (index : ℕ) (row : Row) : Type 0 where
  pub old_origin : ¬ IsOfDosBlock (row_at_index w.descriptors index)
  pub new_origin : ¬ IsOfDosBlock row
  pub sound : IsSound (record w { descriptors = slice_set w.descriptors index row })

pub may_put : (w : World) (index : ℕ) (d : Desc) (origin : Origin) → IsSound w → w.width ≢ None → FIRST_FREE_DESCRIPTOR ≤ index →
    index < DESCRIPTORS → FitsDescriptor d → IsPlainOrigin origin → AreFreeFrom w.descriptors index → MayPut w index (Some (d, origin))
may_put w index d origin s width from to fits plain free =
    let old = none_not_dos (row_at_index w.descriptors index) (free index (omega arith)) in
    record {
      old_origin = old;
      new_origin = plain_not_dos (Some (d, origin)) plain;
      sound = IsSound-row w index (Some (d, origin)) s width to fits plain old (high_is_clients index from);
    }

-- after it all are still free
pub free_after : (rows : List Row) (index : ℕ) (row : Row) → AreFreeFrom rows index → AreFreeFrom (slice_set rows index row) (index + 1)
free_after rows index row free = λ other after.
    let ne : other ≢ index = omega arith in
    get_or-set_other rows index other row None ne ∙ free other (omega arith)

-- after the host's two all are free
pub free_at_first : (w : World) (width : Width) → IsSound w → w.width ≡ None →
    AreFreeFrom (host_rows w.descriptors width) FIRST_FREE_DESCRIPTOR
free_at_first w width s e = λ index high.
    no_others w.descriptors width (before w.width w e s.width).descriptors index (omega arith) (omega arith)

-- ---- the return address

pub sound_far : (v u : MachineView) → IsSound v.world → after_far_return v ≡ Ok u → IsSound u.world
unfolding after_far_return
sound_far v u s e =
    let act = far_frame_pop v.world (frame_bits v.world) 0 in
    sound_by_plan v u act (plan_result v.world act) refl
    (far_frame_leaves v.world (frame_bits v.world) 0 (words_of v.world.regs s.segments)) s
    (return_was (after_plan v (plan_result v.world act)) u e)

pub sound_world_far : (w u : World) → IsSound w → world_after_far_return w ≡ Ok u → IsSound u
unfolding world_after_far_return
sound_world_far w u s e = holds_of_world IsSound (after_far_return (view_without_bytes w)) u (λ v. sound_far (view_without_bytes w) v s) e

-- ---- the descriptors

-- a sound world with a width, which has no descriptors from an index on
record IsReady (w : World) (index : ℕ) : Type 0 where
  pub sound : IsSound w
  pub width : w.width ≢ None
  pub free : AreFreeFrom w.descriptors index

next_ready : (w : World) (index : ℕ) (d : Desc) (origin : Origin) → IsReady w index → FIRST_FREE_DESCRIPTOR ≤ index → index < DESCRIPTORS →
    FitsDescriptor d → IsPlainOrigin origin → IsReady (with_row index (Some (d, origin)) w) (index + 1)
next_ready w index d origin ready from to fits plain = record {
  sound = (may_put w index d origin ready.sound ready.width from to fits plain ready.free).sound;
  width = ready.width;
  free = free_after w.descriptors index (Some (d, origin)) ready.free;
}

-- sixteen times a word is an address of 32 bits
fits_code : (segment : ℕ) → segment < 0x10000 → FitsDescriptor (code_of_segment segment)
fits_code segment small = record { base = omega arith; limit = omega arith }

fits_data : (segment limit : ℕ) (width : Width) → segment < 0x10000 → limit < 2 ^ 20 → FitsDescriptor (data_of_segment segment limit width)
fits_data segment limit width small short = record { base = omega arith; limit = short }

environment_small : (w : World) → SoundMegabyte w.dos → environment_of w < 0x10000
environment_small w s =
    let low = s.bytes environment_word in
    let high = s.bytes (environment_word + 1) in
    omega arith

sound_rows : (w : World) (width : Width) → IsSound w → w.width ≡ None →
    IsSound (record w { width = Some width; descriptors = entry_rows w width })
unfolding entry_rows
sound_rows w width s e =
    let w0 : World = record w { width = Some width; descriptors = host_rows w.descriptors width } in
    let r0 : IsReady w0 64 = record { sound = IsSound-width w width s e; width = λ none. cc; free = free_at_first w width s e } in
    let w1 = with_row ENTRY_CODE (Some (code_of_segment w.regs.cs, Entry)) w0 in
    let r1 : IsReady w1 65 = next_ready w0 64 (code_of_segment w.regs.cs) Entry r0 (omega arith) (omega arith)
    (fits_code w.regs.cs s.segments.cs) tt in
    let w2 = with_row ENTRY_STACK (Some (data_of_segment w.regs.ss 0xFFFF width, Entry)) w1 in
    let r2 : IsReady w2 66 = next_ready w1 65 (data_of_segment w.regs.ss 0xFFFF width) Entry r1 (omega arith) (omega arith)
    (fits_data w.regs.ss 0xFFFF width s.segments.ss (omega arith)) tt in
    let w3 = with_row ENTRY_DATA (Some (data_of_segment w.regs.ds 0xFFFF width, Entry)) w2 in
    let r3 : IsReady w3 67 = next_ready w2 66 (data_of_segment w.regs.ds 0xFFFF width) Entry r2 (omega arith) (omega arith)
    (fits_data w.regs.ds 0xFFFF width s.segments.ds (omega arith)) tt in
    let w4 = with_row ENTRY_PSP (Some (data_of_segment PSP_SEGMENT 0xFF Sixteen, Psp)) w3 in
    let r4 : IsReady w4 68 = next_ready w3 67 (data_of_segment PSP_SEGMENT 0xFF Sixteen) Psp r3 (omega arith) (omega arith)
    (fits_data PSP_SEGMENT 0xFF Sixteen (omega arith) (omega arith)) tt in
    (next_ready w4 68 (data_of_segment (environment_of w) 0xFFFF Sixteen) Psp r4 (omega arith) (omega arith)
    (fits_data (environment_of w) 0xFFFF Sixteen (environment_small w s.megabyte) (omega arith)) tt).sound

-- ---- the entry

entry_segments : (r : Regs) → HasSegments (entry_registers r)
unfolding entry_registers
entry_segments r = record {
  es = omega arith;
  cs = omega arith;
  ss = omega arith;
  ds = omega arith;
  fs = omega arith;
  gs = omega arith;
}

pub sound_entered : (w : World) (width : Width) → IsSound w → w.width ≡ None → IsSound (after_first_entry w width)
unfolding after_first_entry
sound_entered w width s e =
    let w1 : World = record w { width = Some width; descriptors = entry_rows w width } in
    let s1 : IsSound w1 = sound_rows w width s e in
    let dos = with_word w.dos environment_word (selector_of ENTRY_ENVIRONMENT) in
    let m : SoundMegabyte dos = SoundMegabyte-set _ (environment_word + 1) (selector_of ENTRY_ENVIRONMENT / 0x100)
    (SoundMegabyte-set w.dos environment_word (selector_of ENTRY_ENVIRONMENT % 0x100) s.megabyte (omega arith) (omega arith)) (omega arith)
    (omega arith) in
    let w2 : World = record w1 { dos = dos } in
    let s2 : IsSound w2 = IsSound-dos w1 dos s1 m in
    let w3 : World = record w2 { mode = Protected } in
    let s3 : IsSound w3 = IsSound-mode w2 Protected width s2 refl in
    IsSound-regs w3 (entry_registers w.regs) s3 (entry_segments w.regs)

sound_served : (o : Option Width) (w : World) → w.width ≡ o → IsSound w → IsSound (entry_answer o w).world
sound_served None w e s = sound_entered w (asked_width w) s e
sound_served (Some width) w e s =
    IsSound-regs w (with_carry true w.regs) s
    (record { es = s.segments.es; cs = s.segments.cs; ss = s.segments.ss; ds = s.segments.ds; fs = s.segments.fs; gs = s.segments.gs })

sound_after : (r : Result World Exit) (s : Served) → ((u : World) → r ≡ Ok u → IsSound u) → entry_after r ≡ Ok s → IsSound s.world
sound_after (Ok w) s sound e =
    let same : entry_answer w.width w ≡ s = cc in
    subst (λ (t : Served). IsSound t.world) same (sound_served w.width w refl (sound w refl))
sound_after (Err exit) s sound e = absurd cc

pub sound_entry : (w : World) (s : Served) → IsSound w → entry w ≡ Ok s → IsSound s.world
unfolding entry
sound_entry w s sound e = sound_after (world_after_far_return w) s (λ u. sound_world_far w u sound) e
