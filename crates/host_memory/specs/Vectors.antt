-- The frame of the protected-mode vectors, the callbacks, the pageable pages and the head of the list of free frames. Source: own.
use Rattle.std.specs.Prelude.{◌≡◌, ℕ, ◌+◌, ◌*◌, ◌/◌, ◌%◌, ◌<◌, ◌≤◌, Bool, nat_eq, if◌then◌else◌, List, [], ◌∷◌, ◌++◌, None, Some}
use Rattle.std.specs.{Prelude.{slice_index}, declared.option.Option.{Option}}
use Rattle.client_world.specs.{declared.segments.FarPtr.{FarPtr}, declared.host_frames.TheConstants.{PAGE_SIZE, CALLBACK_SIZE}}
use Rattle.client_world.specs.declared.host_frames.TheConstants.{VECTOR_FRAMES, VECTOR_SIZE, EXCEPTIONS_START, CALLBACKS_START}
use Rattle.client_world.specs.declared.host_frames.TheConstants.{PAGEABLE_START, FREE_HEAD_START}
use Rattle.client_world.specs.declared.limits.TheConstants.{CALLBACKS, INTERRUPT_VECTORS, EXCEPTION_VECTORS}
use Rattle.client_world.specs.{declared.memory_map.TheConstants.{DOS_VIEW_PAGES}, World.{Callback}}
use Rattle.guest_ram.specs.{Bytes.{word_of, dword, dword_bytes}, Listed.{listed}}

-- where each list begins in the frame
abbrev pub exceptions_start : ℕ
exceptions_start = EXCEPTIONS_START

abbrev pub callbacks_start : ℕ
callbacks_start = CALLBACKS_START

abbrev pub pageable_start : ℕ
pageable_start = PAGEABLE_START

-- the doubleword that names the first free frame of the page budget, and where it ends
abbrev pub head_start : ℕ
head_start = FREE_HEAD_START

abbrev pub head_end : ℕ
head_end = head_start + 4

-- a far pointer: its offset, and after it its selector
abbrev pub pointer_at : List ℕ → ℕ → FarPtr
pointer_at part at = record { sel = word_of part (at + 4); off = dword part at }

-- the bytes of a word
abbrev pub word_bytes : ℕ → List ℕ
word_bytes v = v % 0x100 ∷ v / 0x100 ∷ []

abbrev pub pointer_bytes : FarPtr → List ℕ
pointer_bytes p = dword_bytes p.off ++ word_bytes p.sel

-- a vector: a far pointer, and a word 0
abbrev pub vector_bytes : FarPtr → List ℕ
vector_bytes p = pointer_bytes p ++ 0 ∷ 0 ∷ []

-- a callback: the pointers to its procedure and to its structure, whether it is held, and zeros; all 0 where it is free
unfoldable pub callback_at : List ℕ → ℕ → Option Callback
callback_at part at =
    if nat_eq (slice_index part (at + 12)) 0 then None else Some (pointer_at part at, pointer_at part (at + 6))

unfoldable pub callback_bytes : Option Callback → List ℕ
callback_bytes None = 0 ∷ 0 ∷ 0 ∷ 0 ∷ 0 ∷ 0 ∷ 0 ∷ 0 ∷ 0 ∷ 0 ∷ 0 ∷ 0 ∷ 0 ∷ 0 ∷ 0 ∷ 0 ∷ []
callback_bytes (Some callback) = pointer_bytes callback.0 ++ pointer_bytes callback.1 ++ 1 ∷ 0 ∷ 0 ∷ 0 ∷ []

-- the lists that the frame holds
abbrev pub interrupt_vectors_in : List ℕ → List FarPtr
interrupt_vectors_in part = listed INTERRUPT_VECTORS (λ n. pointer_at part (VECTOR_SIZE * n))

abbrev pub exception_vectors_in : List ℕ → List FarPtr
exception_vectors_in part = listed EXCEPTION_VECTORS (λ n. pointer_at part (exceptions_start + VECTOR_SIZE * n))

abbrev pub callbacks_in : List ℕ → List (Option Callback)
callbacks_in part = listed CALLBACKS (λ slot. callback_at part (callbacks_start + CALLBACK_SIZE * slot))

abbrev pub pageable_in : List ℕ → List Bool
pageable_in part = listed DOS_VIEW_PAGES (λ page. nat_eq (slice_index part (pageable_start + page)) 1)

-- the bytes of the frame are exactly those of its lists, and zeros after the head of the list of free frames
pub record KeepsVectors (part : List ℕ) : Type 0 where
  pub vectors : (n at : ℕ) → n < INTERRUPT_VECTORS + EXCEPTION_VECTORS → at < VECTOR_SIZE →
      slice_index part (VECTOR_SIZE * n + at) ≡ slice_index (vector_bytes (pointer_at part (VECTOR_SIZE * n))) at
  pub callbacks : (slot at : ℕ) → slot < CALLBACKS → at < CALLBACK_SIZE →
      slice_index part (callbacks_start + (CALLBACK_SIZE * slot + at))
      ≡ slice_index (callback_bytes (callback_at part (callbacks_start + CALLBACK_SIZE * slot))) at
  pub pageable : (page : ℕ) → page < DOS_VIEW_PAGES → slice_index part (pageable_start + page) < 2
  pub rest : (at : ℕ) → head_end ≤ at → at < PAGE_SIZE * VECTOR_FRAMES → slice_index part at ≡ 0
