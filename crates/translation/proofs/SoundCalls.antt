-- A call, a reflection and a return lead from a sound world to a sound one, and leave the rest as it was: what is read there are bytes and
-- words, and the world in which a callee starts is sound.
use Rattle.std.proofs.Common.{ℕ, ◌+◌, ◌<◌, List, arith, Result, Ok, Err, ◌≡◌, Bool, true, false, length, ◌≢◌, ◌*◌, ◌/◌, ◌%◌, ◌≤◌, ◌&&◌, []}
use Rattle.std.proofs.{Common.{◌∷◌, ◌++◌, None, refl, sym, subst, Option, Some}, lemmas.List.{length-append, length-take-le}}
use Rattle.client_world.specs.{declared.faults.Fault.{Fault}, declared.place.Place.{Place}, Access.{bytes_of, real_address}}
use Rattle.client_world.specs.{Soundness.{IsSound, HasSegments, SoundMegabyte}, World.{World, depth}}
use Rattle.client_world.specs.{declared.host_frames.TheConstants.{DESCRIPTORS}, declared.segments.SegReg.{SegReg}, Loading.{is_loadable}}
use Rattle.client_world.specs.{declared.calls.Call.{Call}, declared.calls.Call.TheVariants.{Int, Far, Iret, Reflect}}
use Rattle.client_world.specs.{declared.calls.Record.TheVariants.{Sim}, declared.limits.TheConstants.{GREATEST_DEPTH}}
use Rattle.client_world.specs.{declared.registers.Regs.{Regs}, declared.segments.FarPtr.{FarPtr}}
use Rattle.client_world.specs.{declared.registers.Mode.TheVariants.{Protected}, declared.registers.Width.{Width}}
use Rattle.client_world.specs.{declared.segments.SegReg.TheVariants.{Cs, Ss}, Registers.{flags_image}, declared.services.Carry.{Carry}}
use Rattle.client_world.specs.{declared.services.Carry.TheVariants.{Clear, Set}, Services.{es_di}}
use Rattle.guest_ram.specs.Bytes.{AreBytes, word_of}
use Rattle.guest_space.specs.{Transfer.{bytes_at, read_result, HasOtherMemory}, Dos.{with_dos_byte}, Pending.{number_bytes}}
use Rattle.translation.specs.SimulatedCall.{client_word, word_read, still_loadable, callee_regs, callee_stack, callee_start, callee_world}
use Rattle.translation.specs.SimulatedCall.{after_results, after_return, client_regs, end_call, is_reflection, with_place_of}
use Rattle.translation.specs.SimulatedCall.{after_reflection, begin_call, call_regs, call_words, callee_interrupts, reflect}
use Rattle.translation.specs.{SimulatedCall.{reflection_regs}, RealStack.{host_real_stack, next_word, with_word_at, with_words_at}}
use Rattle.translation.specs.Structure.{structure_regs, index_results, other_results, with_results, structure_bytes, structure_flags}
use Rattle.guest_space.proofs.{SoundLists.{read_bytes, sound_byte, far_are_bytes, IsSound-calls}, FarLaws.{other_far_put, sound_far_put}}
use Rattle.guest_space.proofs.{MemoryAlone.{other_then}, RecordWrites.{has_width}}
use Rattle.std.specs.Prelude.{if◌then◌else◌, nat_eq}
use Rattle.client_world.proofs.{NamedWords.{loadable_is_word}, SoundWrites.{IsSound-dos, IsSound-real, IsSound-regs, IsSound-vif}}
use Rattle.client_world.proofs.SoundWrites.{IsSound-mode, protected_by}
use Rattle.translation.proofs.Begun.{is_return, begun_world, is_made, refused_world, runs}
use Rattle.guest_ram.proofs.ByteLists.{join_bytes, more_bytes, no_bytes}
use Rattle.service_rows.proofs.AnswerLaws.{sound_ax}

pub word_small : (xs : List ℕ) (at : ℕ) → AreBytes xs → word_of xs at < 0x10000
word_small xs at small = omega (arith, small at, small (at + 1))

read_word : (w : World) (r : Result (List Place) Fault) → IsSound w → word_read (bytes_at w r) < 0x10000
read_word w (Ok places) s = word_small (bytes_of w places) 0 (read_bytes w places s)
read_word w (Err f) s = omega arith

pub client_word_small : (w : World) (k : ℕ) → IsSound w → word_read (client_word w k) < 0x10000
unfolding read_result
client_word_small w k s = read_word w _ s

kept_word : (can : Bool) (sel : ℕ) → (can ≡ true → sel < 0x10000) → (if can then sel else 0) < 0x10000
kept_word true sel small = small cc
kept_word false sel small = omega arith

pub still_word : (w : World) (seg : SegReg) (sel : ℕ) → length w.descriptors ≡ DESCRIPTORS → still_loadable w seg sel < 0x10000
still_word w seg sel size = kept_word (is_loadable w seg sel 0 false) sel (loadable_is_word w seg sel 0 false size)

sound_word : (dos : List ℕ) (segment offset v : ℕ) → SoundMegabyte dos → SoundMegabyte (with_word_at dos segment offset v)
unfolding with_word_at
sound_word dos segment offset v s =
    sound_byte (with_dos_byte dos (real_address segment offset) (v % 0x100)) (real_address segment (offset + 1)) (v / 0x100 % 0x100)
    (sound_byte dos (real_address segment offset) (v % 0x100) s (omega arith)) (omega arith)

pub sound_words : (dos : List ℕ) (segment offset : ℕ) (vs : List ℕ) → SoundMegabyte dos →
    SoundMegabyte (with_words_at dos segment offset vs)
sound_words dos segment offset [] s = s
sound_words dos segment offset (v ∷ vs) s =
    sound_words (with_word_at dos segment offset v) segment (next_word offset) vs (sound_word dos segment offset v s)

-- segment registers are words
pub structure_segments : (s : List ℕ) → AreBytes s → HasSegments (structure_regs s)
unfolding structure_regs
structure_segments s small = grind (arith, word_small)

pub start_is_word : (w : World) (call : Call) (r : Regs) → IsSound w → HasSegments r → (callee_start w call r).sel < 0x10000
start_is_word w (Int n) r s h = word_small w.dos (4 * n + 2) s.megabyte.bytes
start_is_word w Far r s h = h.cs
start_is_word w Iret r s h = h.cs
start_is_word w (Reflect n) r s h = word_small w.dos (4 * n + 2) s.megabyte.bytes

own_or_host : (host : Bool) (w : World) (r : Regs) → HasSegments r →
    (if host then host_real_stack w else (let p : FarPtr = record { sel = r.ss; off = r.esp } in p)).sel < 0x10000
own_or_host true w r h = omega arith
own_or_host false w r h = h.ss

pub stack_is_word : (w : World) (r : Regs) → HasSegments r → (callee_stack w r).sel < 0x10000
stack_is_word w r h = own_or_host (nat_eq r.esp 0 && nat_eq r.ss 0) w r h

pub callee_segments : (r : Regs) (start stack : FarPtr) (n : ℕ) → HasSegments r → start.sel < 0x10000 → stack.sel < 0x10000 →
    HasSegments (callee_regs r start stack n)
callee_segments r start stack n h code stack_word = record { es = h.es; cs = code; ss = stack_word; ds = h.ds; fs = h.fs; gs = h.gs }

pub sound_callee : (w : World) (call : Call) (at : FarPtr) (r : Regs) (on : Bool) (words : List ℕ) → IsSound w → w.width ≢ None →
    depth w < GREATEST_DEPTH → HasSegments r → IsSound (callee_world w call at r on words)
unfolding callee_world
sound_callee w call at r on words s some room segments =
    let dos = with_words_at w.dos r.ss r.esp words in
    let calls = w.calls ++ Sim call w.regs w.vif at ∷ [] in
    let few : length calls ≤ GREATEST_DEPTH = omega (arith, length-append w.calls (Sim call w.regs w.vif at ∷ []), room) in
    IsSound-real (record w { dos = dos; calls = calls; regs = r; vif = on })
    (IsSound-vif (record w { dos = dos; calls = calls; regs = r }) on
    (IsSound-regs (record w { dos = dos; calls = calls }) r
    (IsSound-calls (record w { dos = dos }) calls (IsSound-dos w dos s (sound_words w.dos r.ss r.esp words s.megabyte)) some few) segments))

-- ---- a return

-- ---- the results are bytes

pub record HasBytes (xs : List ℕ) : Type 0 where
  pub each : AreBytes xs

pub word_has_bytes : (v : ℕ) → HasBytes (number_bytes 16 v)
word_has_bytes v = grind (arith, no_bytes, more_bytes)

pub dword_has_bytes : (v : ℕ) → HasBytes (number_bytes 32 v)
dword_has_bytes v = grind (arith, no_bytes, more_bytes)

pub join : {xs ys : List ℕ} → HasBytes xs → HasBytes ys → HasBytes (xs ++ ys)
join {xs} {ys} one other = record { each = join_bytes xs ys one.each other.each }

pub index_bytes : (r : Regs) → AreBytes (index_results r)
unfolding index_results
index_bytes r = (join (join (dword_has_bytes r.edi) (dword_has_bytes r.esi)) (dword_has_bytes r.ebp)).each

pub other_bytes : (r : Regs) (vif : Bool) → AreBytes (other_results r vif)
unfolding other_results
other_bytes r vif =
    (join (join (join
    (join (join (join (join (join (dword_has_bytes r.ebx) (dword_has_bytes r.edx)) (dword_has_bytes r.ecx)) (dword_has_bytes r.eax))
    (word_has_bytes (flags_image r.flags vif))) (word_has_bytes r.es)) (word_has_bytes r.ds)) (word_has_bytes r.fs))
    (word_has_bytes r.gs)).each

sound_results : (w : World) (at : FarPtr) → IsSound w → IsSound (with_results w at)
unfolding with_results
sound_results w at s = grind (arith, index_bytes, other_bytes, sound_far_put)

other_results_alone : (w : World) (at : FarPtr) → HasOtherMemory w (with_results w at)
unfolding with_results
other_results_alone w at = grind (arith, other_far_put, other_then)

either : (reflection : Bool) (w : World) (at : FarPtr) → IsSound w → IsSound (if reflection then w else with_results w at)
either true w at s = s
either false w at s = sound_results w at s

either_alone : (reflection : Bool) (w : World) (at : FarPtr) → HasOtherMemory w (if reflection then w else with_results w at)
either_alone true w at = refl
either_alone false w at = other_results_alone w at

pub results_alone : (w : World) (call : Call) (at : FarPtr) → HasOtherMemory w (after_results w call at)
results_alone w call at = either_alone (is_reflection call) w at

-- ---- the client's registers

place_segments : (w : World) (saved r : Regs) → IsSound w → saved.ss < 0x10000 → saved.cs < 0x10000 → HasSegments (with_place_of w saved r)
place_segments w saved r s stack code = grind (arith, still_word)

by_kind : (reflection : Bool) (w : World) (saved : Regs) → IsSound w → saved.ss < 0x10000 → saved.cs < 0x10000 →
    HasSegments (if reflection then with_place_of w saved w.regs
    else with_place_of w saved (record saved { flags = record saved.flags { cf = false } }))
by_kind true w saved s stack code = place_segments w saved w.regs s stack code
by_kind false w saved s stack code = place_segments w saved (record saved { flags = record saved.flags { cf = false } }) s stack code

client_segments : (w : World) (call : Call) (saved : Regs) → IsSound w → saved.ss < 0x10000 → saved.cs < 0x10000 →
    HasSegments (client_regs w call saved)
client_segments w call saved s stack code = by_kind (is_reflection call) w saved s stack code

-- ---- the world after it

pub some_width : (width : Option Width) (w : World) → width ≢ None → w.width ≡ width → IsSound w → IsSound (record w { mode = Protected })
some_width None w some is s = absurd (some refl)
some_width (Some width) w some is s = IsSound-mode w Protected width s is

sound_after : (w : World) (call : Call) (saved : Regs) (on : Bool) (at : FarPtr) → IsSound w → 0 < depth w →
    HasSegments (client_regs w call saved) → IsSound (after_return w call saved on at)
unfolding after_return
sound_after w call saved on at s some segments = grind (arith, either, has_width, length-take-le, results_alone, some_width)

pub sound_end : (w u : World) → IsSound w → end_call w ≡ Ok u → IsSound u
sound_end w u s e =
    let done = is_return w u e in
    let saved = done.saved in
    subst IsSound (sym done.is)
    (sound_after w done.call saved done.on done.at s done.some
    (client_segments w done.call saved s (loadable_is_word w Ss saved.ss 0 false s.descriptors.indices done.stack)
    (loadable_is_word w Cs saved.cs saved.eip true s.descriptors.indices done.code)))

call_segments : (w : World) (call : Call) (r : Regs) (n : ℕ) → IsSound w → HasSegments r → HasSegments (call_regs w call r n)
unfolding call_regs
call_segments w call r n s h =
    callee_segments r (callee_start w call r) (callee_stack w r) n h (start_is_word w call r s h) (stack_is_word w r h)

sound_by_carry : (carry : Carry) (w : World) (call : Call) → IsSound w → w.mode ≡ Protected → (begin_call w call).carry ≡ carry →
    IsSound (begin_call w call).world
sound_by_carry Set w call s mode e = let refused = refused_world w call e in subst IsSound (sym refused.1) (sound_ax w refused.0 s)
sound_by_carry Clear w call s mode e =
    let bytes = structure_bytes w (es_di w) in
    let r = structure_regs bytes in
    let image = structure_flags bytes in
    let run = runs w call e in
    subst IsSound (sym (begun_world w call e))
    (sound_callee w call (es_di w) (call_regs w call r (length (call_words w call image))) (callee_interrupts call image)
    (call_words w call image)
    s (protected_by w.width w mode s.width) run.room
    (call_segments w call r (length (call_words w call image)) s (structure_segments bytes (far_are_bytes w (es_di w) 0x32 s))))

pub sound_begin : (w : World) (call : Call) → IsSound w → w.mode ≡ Protected → IsSound (begin_call w call).world
sound_begin w call s mode = sound_by_carry (begin_call w call).carry w call s mode refl

no_segments : (r : Regs) → HasSegments r → HasSegments (record r { ds = 0; es = 0; fs = 0; gs = 0 })
no_segments r h = record { es = omega arith; cs = h.cs; ss = h.ss; ds = omega arith; fs = omega arith; gs = omega arith }

reflected_segments : (w : World) (n : ℕ) → IsSound w → HasSegments (reflection_regs w n)
unfolding reflection_regs
reflected_segments w n s = grind (arith, callee_segments, no_segments, start_is_word)

sound_made : (w : World) (n : ℕ) → IsSound w → w.mode ≡ Protected → depth w < GREATEST_DEPTH → IsSound (after_reflection w n)
unfolding after_reflection
sound_made w n s mode room = grind (arith, protected_by, reflected_segments, sound_callee)

pub sound_reflect : (w u : World) (n : ℕ) → IsSound w → w.mode ≡ Protected → reflect w n ≡ Ok u → IsSound u
sound_reflect w u n s mode e = let made = is_made w u n e in subst IsSound (sym made.is) (sound_made w n s mode made.room)
