-- The list of free frames as its first frame is taken and as a frame is given back, in the parts of the memory. A frame is counted from the
-- first one of the budget.
use Rattle.std.proofs.Common.{◌≡◌, ◌≢◌, ◌⊎◌, inl, inr, ℕ, ◌+◌, ◌-◌, ◌*◌, ◌<◌, ◌≤◌, List, length, slice_index, slice_set, ap, ◌∙◌, sym}
use Rattle.std.proofs.{Common.{arith, get_or-set_same, get_or-set_other}, lemmas.Bool.{cases_eq}}
use Rattle.client_world.specs.declared.host_frames.TheConstants.{PAGE_SIZE, BUDGET_FRAMES}
use Rattle.guest_ram.specs.Bytes.{dword, dword_bytes, put}
use Rattle.guest_ram.proofs.PutLaws.{dword_put, dword_put_other}
use Rattle.page_tables.proofs.FreeFrames.{more_of_free, rest_of_free}
use Rattle.host_memory.specs.{Holds.{ListsFreeFrames}, Tables.{IsIdle, next_frame}, Vectors.{head_end, head_start}}
use Rattle.host_memory.proofs.VectorParts.{put_head}

-- another frame is idle before and after the byte of one is written
idle_before : (taken : List ℕ) (budget frame other v : ℕ) → other ≢ BUDGET_FRAMES + frame → IsIdle (slice_set taken frame v) budget other →
    IsIdle taken budget other
idle_before taken budget frame other v ne is = grind (arith, get_or-set_other)

idle_after : (taken : List ℕ) (budget frame other v : ℕ) → other ≢ BUDGET_FRAMES + frame → IsIdle taken budget other →
    IsIdle (slice_set taken frame v) budget other
idle_after taken budget frame other v ne is = grind (arith, get_or-set_other)

-- a frame whose byte isn't 0 isn't idle
not_idle : (taken : List ℕ) (budget frame other : ℕ) → slice_index taken frame ≢ 0 → IsIdle taken budget other →
    other ≢ BUDGET_FRAMES + frame
not_idle taken budget frame other busy is same =
    busy (ap (slice_index taken) (let e : frame ≡ other - BUDGET_FRAMES = omega arith in e) ∙ is.idle)

-- the first frame is taken, and its bytes are written
pub list_taken : (vectors taken frames writes : List ℕ) (budget frame : ℕ) → head_end ≤ length vectors → frame < length taken →
    dword vectors head_start ≡ BUDGET_FRAMES + frame →
    ((other : ℕ) → other ≢ frame → dword writes (PAGE_SIZE * other) ≡ dword frames (PAGE_SIZE * other)) →
    ListsFreeFrames vectors taken frames budget →
    ListsFreeFrames (put_head vectors (dword frames (PAGE_SIZE * frame))) (slice_set taken frame 1) writes budget
list_taken vectors taken frames writes budget frame room small head next list =
    rest_of_free first (dword (put_head vectors (dword frames (PAGE_SIZE * frame))) head_start) (next_frame frames) (next_frame writes)
    (IsIdle taken budget)
    (IsIdle (slice_set taken frame 1) budget) list (omega arith)
    (dword_put vectors head_start (dword frames (PAGE_SIZE * frame)) (omega arith)
    ∙ ap (λ (f : ℕ). dword frames (PAGE_SIZE * f)) (let e : frame ≡ first - BUDGET_FRAMES = omega arith in e))
    (λ other is. (let apart = away other is in let from = is.from in next (other - BUDGET_FRAMES) (omega arith)))
    (λ other. (
      λ is. (idle_before taken budget frame other 1 (away other is) is, λ same. away other is (same ∙ head)),
      λ was. idle_after taken budget frame other 1 (λ same. was.1 (same ∙ sym head)) was.0,
    ))
  where
    first : ℕ
    first = dword vectors head_start

    away : (other : ℕ) → IsIdle (slice_set taken frame 1) budget other → other ≢ BUDGET_FRAMES + frame
    away other is =
        not_idle (slice_set taken frame 1) budget frame other (λ none. (let busy = get_or-set_same taken frame 1 0 small in omega arith)) is

-- a frame is given back
pub list_given : (vectors taken frames : List ℕ) (budget frame : ℕ) → head_end ≤ length vectors → frame < budget → frame < length taken →
    PAGE_SIZE * frame + 4 ≤ length frames → slice_index taken frame ≢ 0 → ListsFreeFrames vectors taken frames budget →
    ListsFreeFrames (put_head vectors (BUDGET_FRAMES + frame)) (slice_set taken frame 0)
    (put frames (PAGE_SIZE * frame) (dword_bytes (dword vectors head_start))) budget
list_given vectors taken frames budget frame room few small inside busy list =
    grind (arith, back, dword_put, dword_put_other, first, into, more_of_free, not_idle, writes)
  where
    first : ℕ
    first = dword vectors head_start

    writes : List ℕ
    writes = put frames (PAGE_SIZE * frame) (dword_bytes first)

    into : (other : ℕ) → IsIdle (slice_set taken frame 0) budget other → IsIdle taken budget other ⊎ (other ≡ BUDGET_FRAMES + frame)
    into other is = elim (cases_eq other (BUDGET_FRAMES + frame)) [
      | inl here ↦ inr here
      | inr ne ↦ inl (idle_before taken budget frame other 0 ne is)
    ]

    back : (other : ℕ) → IsIdle taken budget other ⊎ (other ≡ BUDGET_FRAMES + frame) → IsIdle (slice_set taken frame 0) budget other
    back other was = elim was [
      | inl is ↦ idle_after taken budget frame other 0 (not_idle taken budget frame other busy is) is
      | inr here ↦ grind (arith, get_or-set_same)
    ]
