-- The list of the free frames of the page budget. It lies in the memory: a doubleword of the host's frames names its first frame, and the
-- first doubleword of each free frame names the next one; 0 ends it. Source: own.
use Rattle.std.specs.Prelude.{◌≡◌, ◌≢◌, ◌↔◌, ◌⊎◌, ℕ, ◌+◌, ◌*◌, ◌<◌, ◌≤◌, List, [], ◌∷◌, length, slice_index, slice_set, Contains}
use Rattle.client_world.specs.declared.host_frames.TheConstants.{PAGE_SIZE, BUDGET_FRAMES}
use Rattle.guest_ram.specs.Bytes.{dword, dword_bytes, put}
use Rattle.page_tables.specs.{Budget.{IsBudgetFrame, IsFree, taken_place}, declared.budget.TheConstants.{FREE_LIST_HEAD}}

-- the frames follow one another: `first` is the first of them, `next` what follows each, and 0 follows the last one
abbrev pub IsChain : (ℕ → ℕ) → ℕ → List ℕ → Type 0
IsChain next first [] = first ≡ 0
IsChain next first (frame ∷ frames) = (first ≡ frame) × IsChain next (next frame) frames

-- from `first` on follow exactly the free frames, each once
pub record ListsFree (first : ℕ) (next : ℕ → ℕ) (Free : ℕ → Type 0) : Type 0 where
  pub frames : List ℕ
  pub linked : IsChain next first frames
  pub once : (place other : ℕ) → place < length frames → other < length frames → place ≢ other →
      slice_index frames place ≢ slice_index frames other
  pub exactly : (frame : ℕ) → Contains frames frame ↔ Free frame

-- the first free frame, 0 where there is none
abbrev pub first_free : List ℕ → ℕ
first_free bytes = dword bytes FREE_LIST_HEAD

-- what follows a free frame
abbrev pub next_free : List ℕ → ℕ → ℕ
next_free bytes frame = dword bytes (PAGE_SIZE * frame)

-- the frame is one of the budget, and free
pub record IsFreeFrame (bytes : List ℕ) (frame : ℕ) : Type 0 where
  pub budget : IsBudgetFrame bytes frame
  pub free : IsFree bytes frame

-- the memory lists exactly the free frames of its budget
abbrev pub HasFreeList : List ℕ → Type 0
HasFreeList bytes = ListsFree (first_free bytes) (next_free bytes) (IsFreeFrame bytes)

-- the bytes after a frame at the head of the list is taken: the next one is the head, and the frame is taken
abbrev pub without_head : List ℕ → ℕ → List ℕ
without_head bytes frame = slice_set (put bytes FREE_LIST_HEAD (dword_bytes (next_free bytes frame))) (taken_place frame) 1

-- the bytes after a frame is given back: it is the head, what was the head follows it, and it is free
abbrev pub with_head : List ℕ → ℕ → List ℕ
with_head bytes frame =
    slice_set (put (put bytes (PAGE_SIZE * frame) (dword_bytes (first_free bytes))) FREE_LIST_HEAD (dword_bytes frame))
    (taken_place frame) 0

-- in the host's frames no byte but those of the head has changed
abbrev pub KeepsBesideList : List ℕ → List ℕ → Type 0
KeepsBesideList old new = (at : ℕ) → at < PAGE_SIZE * BUDGET_FRAMES → (at < FREE_LIST_HEAD) ⊎ (FREE_LIST_HEAD + 4 ≤ at) →
    slice_index new at ≡ slice_index old at
