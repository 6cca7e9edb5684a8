-- What a call and a reflection hand over, and what a return hands back: the results in the structure, whose other bytes stay as they were.
use Rattle.std.proofs.Common.{◌≡◌, ◌-◌, ◌<◌, subst, sym, take, Bool, arith, ℕ, true, false, ◌||◌, List, [], ◌∷◌, ◌++◌, length, slice_index}
use Rattle.std.proofs.{Common.{refl, ap, ◌∙◌, Option, Result, Ok, zero, suc, ◌+◌, ◌≤◌}, lemmas.List.{length-append}}
use Rattle.client_world.specs.{declared.calls.Call.{Call}, declared.registers.Mode.TheVariants.{Protected}, declared.registers.Regs.{Regs}}
use Rattle.client_world.specs.{declared.segments.FarPtr.{FarPtr}, World.{World, depth, MemoryBlock, block_at}}
use Rattle.client_world.specs.{declared.calls.Record.{Record}, declared.calls.Record.TheVariants.{Sim}, declared.faults.Fault.{Fault}}
use Rattle.client_world.specs.{declared.place.Place.{Place}, declared.place.Place.TheVariants.{Dos, Block, Host, Nothing}, Access.{byte_of}}
use Rattle.client_world.specs.{Access.{bytes_of, bytes_of_block, far_access}, Soundness.{IsSound}, declared.calls.Call.TheVariants.{Int}}
use Rattle.client_world.specs.{declared.calls.Call.TheVariants.{Far, Iret, Reflect}, declared.limits.TheConstants.{GREATEST_DEPTH}}
use Rattle.client_world.specs.{declared.limits.TheConstants.{MAX_CALL_WORDS}, declared.memory_map.TheConstants.{REAL_STACK_SEGMENT}}
use Rattle.client_world.specs.{declared.services.Carry.TheVariants.{Clear}, Registers.{flags_image}, Services.{cx, es_di}}
use Rattle.guest_space.specs.{Transfer.{HasOtherMemory, places_of_access}, Far.{far_bytes, world_after_far_write, further}}
use Rattle.translation.specs.SimulatedCall.{after_results, after_return, client_regs, end_call, is_reflection, after_reflection, begin_call}
use Rattle.translation.specs.SimulatedCall.{call_regs, call_words, callee_world, called_world, client_words, reflect, reflection_regs}
use Rattle.translation.specs.{SimulatedCall.{reflection_words, return_frame}, HandOver.{HasEnded, HasBegun, HasReflected, passed_words}}
use Rattle.translation.specs.Structure.{has_structure, index_results, other_results, structure_bytes, with_results, structure_flags}
use Rattle.translation.specs.{Structure.{structure_regs}, declared.structure.TheConstants.{STRUCTURE_SIZE}, RealStack.{are_writable_words}}
use Rattle.translation.specs.RealStack.{host_real_stack, words_below}
use Rattle.std.specs.Prelude.{if◌then◌else◌}
use Rattle.guest_ram.specs.Bytes.{put}
use Rattle.guest_space.proofs.{FarLaws.{sound_far_put}, SoundLists.{far_are_bytes}}
use Rattle.translation.proofs.{Begun.{is_return, Runs, begun_world, is_made, runs}, PutPart.{IsOpen, part_put, reachable_after, no_further}}
use Rattle.translation.proofs.{PutPart.{structure_read, structure_written}, SoundCalls.{index_bytes, other_bytes, client_word_small}}
use Rattle.translation.proofs.{SoundCalls.{word_small}, StackWords.{AreWords, join_words, low_word, words_back}}
use Rattle.mode_stack.proofs.Trips.{but_last}
use Rattle.client_world.proofs.FlagBits.{image_small}

pub same_depth : (w u : World) → HasOtherMemory w u → 0 < depth w → 0 < depth u
same_depth w u same some = subst (λ (x : World). 0 < depth x) (sym same) some

pub resumed : (w u v : World) (call : Call) (saved r : Regs) (vif : Bool) (at : FarPtr) → u ≡ after_results w call at → HasOtherMemory w u →
    r ≡ client_regs w call saved → v ≡ record u { mode = Protected; regs = r; vif = vif; calls = take (depth u - 1) u.calls } →
    v ≡ after_return w call saved vif at
unfolding after_return
resumed w u v call saved r vif at is same regs e = grind arith

-- what is read depends on the memory and the descriptors alone
same_byte : (w u : World) (p : Place) → u.dos ≡ w.dos → u.blocks ≡ w.blocks → byte_of u p ≡ byte_of w p
same_byte w u (Dos at) dos blocks = ap (λ (bytes : List ℕ). slice_index bytes at) dos
same_byte w u (Block number at) dos blocks =
    ap (λ (all : List (Option MemoryBlock)). slice_index (bytes_of_block (block_at all number)) at) blocks
same_byte w u Host dos blocks = refl
same_byte w u Nothing dos blocks = refl

same_bytes : (w u : World) (places : List Place) → u.dos ≡ w.dos → u.blocks ≡ w.blocks → bytes_of u places ≡ bytes_of w places
same_bytes w u [] dos blocks = refl
same_bytes w u (p ∷ places) dos blocks =
    ap (λ (x : ℕ). x ∷ bytes_of u places) (same_byte w u p dos blocks)
    ∙ ap (λ (xs : List ℕ). byte_of w p ∷ xs) (same_bytes w u places dos blocks)

pub same_far : (w u : World) (p : FarPtr) (n : ℕ) → far_access u p n false ≡ far_access w p n false → u.dos ≡ w.dos → u.blocks ≡ w.blocks →
    far_bytes u p n ≡ far_bytes w p n
unfolding far_bytes
same_far w u p n access dos blocks =
    ap (λ (x : Result (List Place) Fault). bytes_of u (places_of_access x)) access
    ∙ same_bytes w u (places_of_access (far_access w p n false)) dos blocks

-- the results are as many bytes as are written
index_size : (r : Regs) → length (index_results r) ≡ 0x0C
unfolding index_results
index_size r = refl

other_size : (r : Regs) (vif : Bool) → length (other_results r vif) ≡ 0x1A
unfolding other_results
other_size r vif = refl

open_structure : (w : World) (at : FarPtr) → IsSound w → has_structure w at ≡ true → IsOpen w at STRUCTURE_SIZE
open_structure w at s there =
    record { sound = s; few = omega arith; read = structure_read w at there; write = structure_written w at there }

open_after : (w : World) (at q : FarPtr) (m : ℕ) (bytes : List ℕ) → IsOpen w at STRUCTURE_SIZE →
    IsSound (world_after_far_write w q m bytes) → IsOpen (world_after_far_write w q m bytes) at STRUCTURE_SIZE
open_after w at q m bytes before s = grind (arith, reachable_after)

results_back : (w : World) (at : FarPtr) → IsSound w → has_structure w at ≡ true →
    structure_bytes (with_results w at) at ≡ put (put (structure_bytes w at) 0 (index_results w.regs)) 0x10 (other_results w.regs w.vif)
unfolding with_results
results_back w at s there =
    let first = world_after_far_write w (further at 0) 0x0C (index_results w.regs) in
    let second = world_after_far_write first (further at 0x10) 0x1A (other_results w.regs w.vif) in
    let before = open_structure w at s there in
    let sound_first = sound_far_put w (further at 0) 0x0C (index_results w.regs) s (index_bytes w.regs) in
    let between = open_after w at (further at 0) 0x0C (index_results w.regs) before sound_first in
    let after = open_after first at (further at 0x10) 0x1A (other_results w.regs w.vif) between
    (sound_far_put first (further at 0x10) 0x1A (other_results w.regs w.vif) sound_first (other_bytes w.regs w.vif)) in
    ap (λ (p : FarPtr). structure_bytes (world_after_far_write (world_after_far_write w p 0x0C (index_results w.regs)) (further at 0x10)
    0x1A (other_results w.regs w.vif)) at)
    (sym (no_further at))
    ∙ part_put first at STRUCTURE_SIZE 0x10 0x1A (other_results w.regs w.vif) between after (omega arith) (other_size w.regs w.vif)
    ∙ ap (λ (xs : List ℕ). put xs 0x10 (other_results w.regs w.vif))
    (part_put w at STRUCTURE_SIZE 0 0x0C (index_results w.regs) before between (omega arith) (index_size w.regs))

-- in the world in which the client goes on
by_kind : (reflection : Bool) (w : World) (at : FarPtr) → IsSound w → (reflection || has_structure w at) ≡ true → reflection ≡ false →
    structure_bytes (if reflection then w else with_results w at) at
    ≡ put (put (structure_bytes w at) 0 (index_results w.regs)) 0x10 (other_results w.regs w.vif)
by_kind true w at s there e = absurd cc
by_kind false w at s there e = results_back w at s there

read_on : (w : World) (call : Call) (saved : Regs) (on : Bool) (at p : FarPtr) (n : ℕ) →
    far_bytes (after_return w call saved on at) p n ≡ far_bytes (after_results w call at) p n
unfolding after_return far_access
read_on w call saved on at p n = same_far (after_results w call at) (after_return w call saved on at) p n refl refl refl

ended_is : (w : World) (call : Call) (saved : Regs) (on : Bool) (at : FarPtr) (u : World) → IsSound w →
    (is_reflection call || has_structure w at) ≡ true →
    w.calls ≡ but_last w.calls ++ Sim call saved on at ∷ [] → u ≡ after_return w call saved on at → HasEnded w u
unfolding after_return
ended_is w call saved on at u s there popped is =
    let fields : (after_return w call saved on at).calls ≡ but_last w.calls = refl in
    record {
      call = call;
      saved = saved;
      on = on;
      at = at;
      popped = popped ∙ ap (λ (xs : List Record). xs ++ Sim call saved on at ∷ []) (sym (ap (λ (x : World). x.calls) is));
      mode = ap (λ (x : World). x.mode) is;
      regs = ap (λ (x : World). x.regs) is;
      vif = ap (λ (x : World). x.vif) is;
      results = λ none. ap (λ (x : World). structure_bytes x at) is ∙ read_on w call saved on at at STRUCTURE_SIZE
          ∙ by_kind (is_reflection call) w at s there none;
    }

pub has_ended : (w u : World) → IsSound w → end_call w ≡ Ok u → HasEnded w u
has_ended w u s e = let done = is_return w u e in ended_is w done.call done.saved done.on done.at u s done.there done.popped done.is

-- ---- a call and a reflection

-- ---- the words that are put are words, and few

frame_are_words : (call : Call) (image : ℕ) → image < 0x10000 → AreWords (return_frame call image)
frame_are_words (Int n) image small = (omega arith, (omega arith, (small, tt)))
frame_are_words Far image small = (omega arith, (omega arith, tt))
frame_are_words Iret image small = (omega arith, (omega arith, (small, tt)))
frame_are_words (Reflect n) image small = (omega arith, (omega arith, (small, tt)))

frame_is_short : (call : Call) (image : ℕ) → length (return_frame call image) ≤ 3
frame_is_short (Int n) image = omega arith
frame_is_short Far image = omega arith
frame_is_short Iret image = omega arith
frame_is_short (Reflect n) image = omega arith

client_are_words : (w : World) (k n : ℕ) → IsSound w → AreWords (client_words w k n)
client_are_words w k zero s = tt
client_are_words w k (suc n) s = (client_word_small w k s, client_are_words w (k + 1) n s)

client_count : (w : World) (k n : ℕ) → length (client_words w k n) ≡ n
client_count w k zero = refl
client_count w k (suc n) = ap suc (client_count w (k + 1) n)

passed_are_words : (w : World) (call : Call) (s : List ℕ) → IsSound w → structure_flags s < 0x10000 → AreWords (passed_words w call s)
passed_are_words w call s sound small = grind (arith, client_are_words, frame_are_words, join_words)

passed_count : (w : World) (call : Call) (s : List ℕ) → cx w ≤ MAX_CALL_WORDS → length (passed_words w call s) < 0x8000
passed_count w call s few = grind (arith, client_count, frame_is_short, length-append)

-- ---- a call

begun_is : (w : World) (call : Call) (s : List ℕ) → IsSound w → Runs w call (structure_regs s) (structure_flags s) →
    structure_flags s < 0x10000 →
    HasBegun w (called_world w call (structure_regs s) (structure_flags s) (call_words w call (structure_flags s))) call s
unfolding callee_world call_regs call_words
begun_is w call s sound run small = grind (arith, passed_are_words, passed_count, words_back)

pub has_begun : (w : World) (call : Call) → IsSound w → (begin_call w call).carry ≡ Clear →
    HasBegun w (begin_call w call).world call (structure_bytes w (es_di w))
has_begun w call sound e = grind (arith, begun_is, begun_world, far_are_bytes, runs, word_small)

-- ---- a reflection

host_fits : (w : World) → depth w < GREATEST_DEPTH → are_writable_words REAL_STACK_SEGMENT (words_below (host_real_stack w).off 3) 3 ≡ true
host_fits w room = grind (arith, low_word)

reflected_is : (w : World) (n : ℕ) → IsSound w → depth w < GREATEST_DEPTH → HasReflected w (after_reflection w n) n
unfolding after_reflection callee_world reflection_regs reflection_words
reflected_is w n sound room =
    let megabyte = sound.megabyte in
    let image = flags_image w.regs.flags w.vif in
    record {
      pushed = refl;
      mode = refl;
      regs = refl;
      vif = refl;
      words = words_back w.dos REAL_STACK_SEGMENT (words_below (host_real_stack w).off 3) (return_frame (Reflect n) image) megabyte.size
          (omega arith)
          (host_fits w room) (frame_are_words (Reflect n) image (image_small w.regs.flags w.vif));
    }

pub has_reflected : (w u : World) (n : ℕ) → IsSound w → reflect w n ≡ Ok u → HasReflected w u n
has_reflected w u n sound e =
    let made = is_made w u n e in subst (λ (v : World). HasReflected w v n) (sym made.is) (reflected_is w n sound made.room)
