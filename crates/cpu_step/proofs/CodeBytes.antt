-- The code bytes: in a sound world they are bytes, and where they are fewer than an instruction may have, the next one can't be fetched;
-- what the grammar says of the next instruction is what reading them from left to right gives.
use Rattle.std.proofs.Common.{◌≡◌, ℕ, zero, suc, ◌+◌, ◌<◌, ◌≤◌, false, List, [], ◌∷◌, length, slice_index, refl, ap, ◌∙◌, sym, subst, arith}
use Rattle.std.proofs.{Common.{Option, None, Some, Result, Ok, Err, ◌⊎◌, inl, inr, ◌++◌, take, drop, zero-add}, lemmas.Bool.{cases_eq}}
use Rattle.std.proofs.{lemmas.Bool.Decides.{nat_tests}, lemmas.List.{take-append-drop, length-take-le}}
use Rattle.client_world.specs.{declared.faults.Fault.{Fault}, declared.place.Place.{Place}, declared.place.Place.TheVariants.{Dos, Block}}
use Rattle.client_world.specs.{declared.place.Place.TheVariants.{Host, Nothing}, declared.segments.SegReg.TheVariants.{Cs}, Access.{access}}
use Rattle.client_world.specs.{Access.{byte_of, bytes_of_block, fault_with}, Soundness.{IsSound}, World.{World, MemoryBlock, block_at}}
use Rattle.client_world.specs.{declared.faults.Event.{Event}, declared.faults.Event.TheVariants.{Fault as fault}}
use Rattle.client_world.specs.declared.faults.TheConstants.{GENERAL_PROTECTION}
use Rattle.guest_space.specs.{Code.{one_byte, code_byte, code_from, code_room}, Transfer.{read_result, bytes_at}}
use Rattle.guest_space.proofs.Codes.{code_none, code_next, code_stops}
use Rattle.insn_forms.specs.Grammar.{AllBytes, HasEncoding}
use Rattle.cpu_step.specs.Step.{code, has_big_code, after_instruction, incomplete_fault, IsStep, step_of, client_step}
use Rattle.std.specs.Prelude.{nat_eq}
use Rattle.host_memory.specs.View.{MachineView}
use Rattle.insn_decode.specs.{declared.decoding.Decoded.{Decoded}, declared.decoding.Decoded.TheVariants.{Whole, More, Invalid}}
use Rattle.insn_decode.specs.Decode.{decoded}
use Rattle.insn_decode.proofs.Answering.{decoded_whole, decoded_only, decoded_more, more_decoded, decoded_invalid, invalid_decoded}

in_block : (o : Option MemoryBlock) → ((block : MemoryBlock) → o ≡ Some block → (at : ℕ) → slice_index block.bytes at < 0x100) →
    (at : ℕ) → slice_index (bytes_of_block o) at < 0x100
in_block None small at = omega arith
in_block (Some block) small at = small block refl at

at_place : (w : World) → IsSound w → (p : Place) → byte_of w p < 0x100
at_place w h (Dos at) = h.megabyte.bytes at
at_place w h (Block number at) = in_block (block_at w.blocks number) (h.block_bytes number) at
at_place w h Host = omega arith
at_place w h Nothing = omega arith

first_small : (w : World) → IsSound w → (r : Result (List Place) Fault) (byte : ℕ) → one_byte (bytes_at w r) ≡ Ok byte → byte < 0x100
first_small w h (Ok []) byte e = let same : 0 ≡ byte = cc in omega arith
first_small w h (Ok (p ∷ places)) byte e = let same : byte_of w p ≡ byte = cc in subst (λ (n : ℕ). n < 0x100) same (at_place w h p)
first_small w h (Err f) byte e = absurd cc

fetched_small : (w : World) → IsSound w → (at byte : ℕ) → code_byte w at ≡ Ok byte → byte < 0x100
unfolding code_byte read_result
fetched_small w h at byte e = first_small w h (access w Cs (w.regs.eip + at) 1 false) byte e

more_bytes : (w : World) → IsSound w → (at n : ℕ) (r : Result ℕ Fault) → code_byte w at ≡ r → AllBytes (code_from w (at + 1) n) →
    AllBytes (code_from w at (suc n))
more_bytes w h at n (Ok byte) e more = subst AllBytes (sym (code_next w at n byte e)) (fetched_small w h at byte e, more)
more_bytes w h at n (Err f) e more = subst AllBytes (sym (code_stops w at n f e)) tt

code_are_bytes : (w : World) → IsSound w → (at n : ℕ) → AllBytes (code_from w at n)
code_are_bytes w h at zero = subst AllBytes (sym (code_none w at)) tt
code_are_bytes w h at (suc n) = more_bytes w h at n (code_byte w at) refl (code_are_bytes w h (at + 1) n)

pub code_is_bytes : (w : World) → IsSound w → AllBytes (code w)
code_is_bytes w h = code_are_bytes w h 0 code_room

-- ---- how many they are

one_more : (w : World) (at n : ℕ) (r : Result ℕ Fault) → code_byte w at ≡ r → length (code_from w (at + 1) n) ≤ n →
    length (code_from w at (suc n)) ≤ suc n
one_more w at n (Ok byte) e more =
    let size : length (code_from w at (suc n)) ≡ suc (length (code_from w (at + 1) n)) = ap length (code_next w at n byte e) in
    omega arith
one_more w at n (Err f) e more = let size : length (code_from w at (suc n)) ≡ 0 = ap length (code_stops w at n f e) in omega arith

pub most_code : (w : World) (at n : ℕ) → length (code_from w at n) ≤ n
most_code w at zero = let size : length (code_from w at 0) ≡ 0 = ap length (code_none w at) in omega arith
most_code w at (suc n) = one_more w at n (code_byte w at) refl (most_code w (at + 1) n)

-- the byte there can't be fetched
abbrev pub IsCutOff : World → ℕ → Type 0
IsCutOff w at = (f : Fault) × (code_byte w at ≡ Err f)

next_cut : (w : World) (at n : ℕ) (r : Result ℕ Fault) → code_byte w at ≡ r →
    (length (code_from w (at + 1) n) < n → IsCutOff w (at + 1 + length (code_from w (at + 1) n))) →
    length (code_from w at (suc n)) < suc n → IsCutOff w (at + length (code_from w at (suc n)))
next_cut w at n (Ok byte) e more few =
    let size : length (code_from w at (suc n)) ≡ suc (length (code_from w (at + 1) n)) = ap length (code_next w at n byte e) in
    let same : at + 1 + length (code_from w (at + 1) n) ≡ at + length (code_from w at (suc n)) = omega arith in
    subst (IsCutOff w) same (more (omega arith))
next_cut w at n (Err f) e more few =
    let size : length (code_from w at (suc n)) ≡ 0 = ap length (code_stops w at n f e) in
    let same : at + length (code_from w at (suc n)) ≡ at = omega arith in
    (f, ap (code_byte w) same ∙ e)

pub few_code : (w : World) (at n : ℕ) → length (code_from w at n) < n → IsCutOff w (at + length (code_from w at n))
few_code w at zero few = absurd (omega arith)
few_code w at (suc n) few = next_cut w at n (code_byte w at) refl (few_code w (at + 1) n) few

-- ---- the next instruction

-- the fault of an instruction that isn't whole
unfinished_full : (w : World) (bytes : List ℕ) → length bytes ≡ code_room → incomplete_fault w bytes ≡ fault_with GENERAL_PROTECTION 0
unfinished_full w bytes full = rw full refl

few_differ : (n : ℕ) → n < code_room → nat_eq n code_room ≡ false
few_differ n few = grind (arith, nat_tests)

unfinished_cut : (w : World) (bytes : List ℕ) (f : Fault) → length bytes < code_room → code_byte w (length bytes) ≡ Err f →
    incomplete_fault w bytes ≡ f
unfinished_cut w bytes f few e = rw (few_differ (length bytes) few, e) refl

-- ---- what reading gives is what the grammar says

pub outcome_is : (v : MachineView) → AllBytes (code v.world) → IsStep v (client_step v)
unfolding client_step
outcome_is v are =
    let big = has_big_code v.world in
    let bytes = code v.world in
    record {
      whole = λ insn front rest e s. ap (step_of v) (decoded_only big insn front rest bytes e s);
      invalid = λ none no_more. ap (step_of v) (invalid_decoded big bytes are (none, no_more));
      too_long = λ none begins full.
          ap (step_of v) (more_decoded big bytes are begins) ∙ ap (λ (f : Fault). Err (fault f)) (unfinished_full v.world bytes full);
      cut_off = λ none begins few f e.
          ap (step_of v) (more_decoded big bytes are begins) ∙ ap (λ (f : Fault). Err (fault f)) (unfinished_cut v.world bytes f few e);
    }

-- ---- and the other way round

take_and_drop : (n : ℕ) (bytes : List ℕ) → n ≤ length bytes → (bytes ≡ take n bytes ++ drop n bytes) × (length (take n bytes) ≡ n)
take_and_drop n bytes h = (sym (take-append-drop n bytes), length-take-le n bytes h)

more_encodes_none : (w : World) → decoded (has_big_code w) (code w) ≡ More → HasEncoding (has_big_code w) (code w) → ⊥
more_encodes_none w e h =
    let twice : Whole h.0 (length h.1) ≡ More = sym (decoded_only (has_big_code w) h.0 h.1 h.2 (code w) h.3 h.4) ∙ e in absurd cc

few_or_full : (n : ℕ) → n ≤ code_room → (n < code_room) ⊎ (n ≡ code_room)
few_or_full n most = elim (cases_eq n code_room) [ inl full ↦ inr full | inr other ↦ inl (omega arith) ]

where_more : (v : MachineView) (outcome : Result MachineView Event) → AllBytes (code v.world) → IsStep v outcome →
    decoded (has_big_code v.world) (code v.world) ≡ More → outcome ≡ Err (fault (incomplete_fault v.world (code v.world)))
where_more v outcome are s e =
    let w = v.world in
    let begins = decoded_more (has_big_code w) (code w) are e in
    let none = more_encodes_none w e in
    elim (few_or_full (length (code w)) (most_code w 0 code_room)) [
      | inl few ↦
          let cut : IsCutOff w (0 + length (code w)) = few_code w 0 code_room few in
          let same : length (code w) ≡ 0 + length (code w) = sym (zero-add (length (code w))) in
          let refused : code_byte w (length (code w)) ≡ Err cut.0 = ap (code_byte w) same ∙ cut.1 in
          s.cut_off none begins few cut.0 refused
          ∙ ap (λ (f : Fault). Err (fault f)) (sym (unfinished_cut w (code w) cut.0 few refused))
      | inr full ↦ s.too_long none begins full ∙ ap (λ (f : Fault). Err (fault f)) (sym (unfinished_full w (code w) full))
    ]

by_decoded : (v : MachineView) (outcome : Result MachineView Event) → AllBytes (code v.world) → IsStep v outcome → (d : Decoded) →
    decoded (has_big_code v.world) (code v.world) ≡ d → outcome ≡ step_of v d
by_decoded v outcome are s (Whole insn len) e =
    let bytes = code v.world in
    let encoded = decoded_whole (has_big_code v.world) insn len bytes are e in
    let parts = take_and_drop len bytes encoded.1 in
    s.whole insn (take len bytes) (drop len bytes) parts.0 encoded.0 ∙ ap (after_instruction v insn) parts.1
by_decoded v outcome are s Invalid e = let nor = decoded_invalid (has_big_code v.world) (code v.world) are e in s.invalid nor.0 nor.1
by_decoded v outcome are s More e = where_more v outcome are s e

pub only_outcome : (v : MachineView) (outcome : Result MachineView Event) → AllBytes (code v.world) → IsStep v outcome →
    outcome ≡ client_step v
unfolding client_step
only_outcome v outcome are s = by_decoded v outcome are s (decoded (has_big_code v.world) (code v.world)) refl
