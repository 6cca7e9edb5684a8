-- The tables of a memory in which one doubleword of the directory is, or none.
use Rattle.std.proofs.Common.{◌≡◌, ◌≢◌, ℕ, ◌+◌, ◌*◌, ◌/◌, ◌<◌, ◌≤◌, inl, inr, List, length, get_or, ap, ◌∙◌, arith, get_or-set_other}
use Rattle.std.proofs.lemmas.Bool.{cases_eq}
use Rattle.client_world.specs.declared.host_frames.TheConstants.{BUDGET_FRAMES, PAGE_SIZE, TABLE_ENTRIES}
use Rattle.guest_ram.specs.Bytes.{dword_bytes, put}
use Rattle.guest_ram.proofs.PutLaws.{put_away}
use Rattle.page_tables.specs.{Mapping.{HasTables, directory_word}, Budget.{IsNamedNowhere, taken_place}, FreeList.{next_free, without_head}}
use Rattle.page_tables.specs.{declared.budget.TheConstants.{FREE_LIST_HEAD}, declared.entry.TheConstants.{TABLE_SPAN}}
use Rattle.page_tables.proofs.HostDirectory.{dword_zero, names_none}

-- a directory of which entry 0 alone isn't 0
pub one_table : (b : List ℕ) → PAGE_SIZE * BUDGET_FRAMES ≤ length b → directory_word b 0 ≡ 0x101067 →
    ((i : ℕ) → i < TABLE_ENTRIES → i ≢ 0 → directory_word b i ≡ 0) → HasTables b
one_table b long first others = record {
  directory = omega arith;
  inside = λ i l. elim (cases_eq i 0) [
    | inl e ↦ rw (e, first) (omega arith)
    | inr ne ↦ rw (others i l ne) (omega arith)
  ];
  beside = λ i l named. elim (cases_eq i 0) [
    | inl e ↦ rw (e, first) (omega arith)
    | inr ne ↦ absurd (names_none b i (others i l ne) named)
  ];
  apart = λ i j l m ne named other. elim (cases_eq i 0) [
    | inl e ↦ absurd (names_none b j (others j m (omega arith)) other)
    | inr no_first ↦ absurd (names_none b i (others i l no_first) named)
  ];
}

-- where the directory is zero, no page lies in a frame
pub named_nowhere : (b : List ℕ) (frame : ℕ) → ((k : ℕ) → k < 0x101000 → get_or b k 0 ≡ 0) → IsNamedNowhere b frame
named_nowhere b frame blank = λ lin l mapped named.
    names_none b (lin / TABLE_SPAN)
    (dword_zero b (0x100000 + 4 * (lin / TABLE_SPAN)) (λ i m. blank (0x100000 + 4 * (lin / TABLE_SPAN) + i) (omega arith)))
    mapped.covered

-- below the head of the list of free frames a frame that is taken leaves the bytes
pub below_head : (b c : List ℕ) (frame k : ℕ) → c ≡ without_head b frame → k < 0x101000 → get_or c k 0 ≡ get_or b k 0
below_head b c frame k e low =
    ap (λ (x : List ℕ). get_or x k 0) e
    ∙ get_or-set_other (put b FREE_LIST_HEAD (dword_bytes (next_free b frame))) (taken_place frame) k 1 0 (omega arith)
    ∙ put_away b FREE_LIST_HEAD (dword_bytes (next_free b frame)) k (inr (omega arith))
