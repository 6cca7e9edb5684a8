-- Rows of blocks, and the search for pages that none of them has; the lowest handle that isn't held; and the list of the held blocks'
-- pages: each is a block's, and each block's are in it.
use Rattle.std.proofs.Common.{◌≡◌, ◌≤◌, ◌<◌, ◌+◌, ◌-◌, ◌*◌, ◌%◌, ℕ, Bool, true, false, IfSome, List, refl, sym, ap, subst, arith, Option}
use Rattle.std.proofs.{Common.{None, Some, zero, suc, length, ◌++◌, inl, inr, [], length-append}, lemmas.Bool.{and_from, and_left, le-leb}}
use Rattle.std.proofs.{lemmas.Bool.{lt-leb, cases_eq}, lemmas.List.{get_or_past}, lemmas.List.Elements.{All-append, All-cons, All-nil}}
use Rattle.std.proofs.lemmas.List.Elements.{Contains-append_left, Contains-append_right}
use Rattle.std.specs.{Option.{is_none}, List.{All, Contains}}
use Rattle.client_world.specs.{declared.blocks.BlockRow.{BlockRow}, declared.host_frames.TheConstants.{PAGE_SIZE}}
use Rattle.client_world.specs.declared.memory_map.TheConstants.{BLOCK_REGION, BLOCK_REGION_END, BLOCK_REGION_PAGES}
use Rattle.client_world.specs.{Soundness.{SoundBlocks, pages_of_block}, World.{MemoryBlock, block_at, base_of_block}}
use Rattle.client_world.specs.declared.limits.TheConstants.{MAX_BLOCKS}
use Rattle.block_memory.specs.BlockSizes.{row_seen}
use Rattle.service_rows.specs.FirstIndex.{first_index}
use Rattle.service_rows.proofs.RunLaws.{index_ended, index_found}
use Rattle.block_services.specs.{Gaps.{block_in_way, is_gap, page_address}, declared.spans.Span.{Span}, Spans.{held_spans, span_of}}
use Rattle.block_services.specs.Spans.{spans_of_row}

-- the row of a block is whole pages of the block region
pub record RowFits (o : Option BlockRow) : Type 0 where
  pub from : IfSome o (λ (row : BlockRow). BLOCK_REGION ≤ row.base)
  pub whole : IfSome o (λ (row : BlockRow). row.base % PAGE_SIZE ≡ 0)
  pub to : IfSome o (λ (row : BlockRow). row.base + PAGE_SIZE * row.pages ≤ BLOCK_REGION_END)

fits_of_block : (blocks : List (Option MemoryBlock)) (budget handle : ℕ) → SoundBlocks blocks budget → (b : Option MemoryBlock) →
    block_at blocks handle ≡ b → RowFits (row_seen b)
fits_of_block blocks budget handle sound None e = record { from = _; whole = _; to = _ }
fits_of_block blocks budget handle sound (Some block) e =
    let is = sound.each handle block e in
    let size = is.pages in let end = is.to in
    record { from = is.from; whole = is.whole; to = omega arith }

pub row_fits : (blocks : List (Option MemoryBlock)) (budget handle : ℕ) → SoundBlocks blocks budget → (o : Option BlockRow) →
    o ≡ row_seen (block_at blocks handle) → RowFits o
row_fits blocks budget handle sound o e = subst RowFits (sym e) (fits_of_block blocks budget handle sound (block_at blocks handle) refl)

abbrev pub SeenAs : Option MemoryBlock → Option BlockRow → Type 0
SeenAs b o = IfSome o (λ (row : BlockRow). row.base ≡ base_of_block b) × IfSome o (λ (row : BlockRow). row.pages ≡ pages_of_block b)

seen_as : (b : Option MemoryBlock) → SeenAs b (row_seen b)
seen_as None = (_, _)
seen_as (Some block) = (refl, refl)

pub row_seen_as : (b : Option MemoryBlock) (o : Option BlockRow) → o ≡ row_seen b → SeenAs b o
row_seen_as b o e = subst (SeenAs b) (sym e) (seen_as b)

pub seen_none : (b : Option MemoryBlock) → is_none (row_seen b) ≡ is_none b
seen_none None = refl
seen_none (Some block) = refl

pub not_none : (o : Option ℕ) → (o ≡ None → ⊥) → is_none o ≡ false
not_none None never = absurd (never refl)
not_none (Some x) never = refl

abbrev pub gap_at : List (Option MemoryBlock) → ℕ → ℕ → Bool
gap_at blocks pages page = is_gap blocks 0 (page_address page) pages

outside : (blocks : List (Option MemoryBlock)) (page pages : ℕ) → BLOCK_REGION_PAGES < page + pages →
    is_gap blocks 0 (page_address page) pages ≡ false
unfolding is_gap
outside blocks page pages short = and_left _ _ (lt-leb (page_address page + PAGE_SIZE * pages) BLOCK_REGION_END (omega arith))

-- a search ends where the pages that are left are too few
pub gap_missed : (blocks : List (Option MemoryBlock)) (page pages : ℕ) → BLOCK_REGION_PAGES < page + pages →
    first_index (gap_at blocks pages) page (BLOCK_REGION_PAGES - page) ≡ None
gap_missed blocks page pages short = grind (arith, index_ended, outside)

-- or where no block is in the way
pub gap_here : (blocks : List (Option MemoryBlock)) (own base pages : ℕ) → base + PAGE_SIZE * pages ≤ BLOCK_REGION_END →
    block_in_way blocks own base pages ≡ None → is_gap blocks own base pages ≡ true
unfolding is_gap
gap_here blocks own base pages room none = and_from _ _ (le-leb (base + PAGE_SIZE * pages) BLOCK_REGION_END room) (ap is_none none)

pub gap_found : (blocks : List (Option MemoryBlock)) (page pages : ℕ) → page < BLOCK_REGION_PAGES →
    is_gap blocks 0 (page_address page) pages ≡ true → first_index (gap_at blocks pages) page (BLOCK_REGION_PAGES - page) ≡ Some page
gap_found blocks page pages below e = index_found (gap_at blocks pages) page BLOCK_REGION_PAGES below e

abbrev pub is_free : List (Option MemoryBlock) → ℕ → Bool
is_free blocks handle = is_none (block_at blocks handle)

pub none_of : (b : Option MemoryBlock) → is_none b ≡ true → b ≡ None
none_of None e = refl
none_of (Some block) e = absurd cc

-- a handle that is held is 1 to `MAX_BLOCKS`
pub record IsHandle (handle : ℕ) : Type 0 where
  pub some : 1 ≤ handle
  pub most : handle ≤ MAX_BLOCKS

pub handle_within : (blocks : List (Option MemoryBlock)) (handle : ℕ) (block : MemoryBlock) → length blocks ≡ MAX_BLOCKS →
    block_at blocks handle ≡ Some block → IsHandle handle
handle_within blocks zero block long e = absurd cc
handle_within blocks (suc place) block long e = grind (arith, get_or_past)

-- ---- the list of pages

one_span : (o : Option BlockRow) → length (spans_of_row o) ≤ 1
one_span None = omega arith
one_span (Some row) = omega arith

pub few_spans : (blocks : List (Option MemoryBlock)) (n : ℕ) → length (held_spans blocks n) ≤ n
unfolding held_spans
few_spans blocks zero = omega arith
few_spans blocks (suc n) =
    let rest = few_spans blocks n in
    let one = one_span (row_seen (block_at blocks (suc n))) in
    omega (arith, length-append (held_spans blocks n) (spans_of_row (row_seen (block_at blocks (suc n)))))

pub spans_none : (blocks : List (Option MemoryBlock)) → held_spans blocks 0 ≡ []
unfolding held_spans
spans_none blocks = refl

spans_next : (blocks : List (Option MemoryBlock)) (n : ℕ) (o : Option BlockRow) → o ≡ row_seen (block_at blocks (suc n)) →
    held_spans blocks (suc n) ≡ held_spans blocks n ++ spans_of_row o
unfolding held_spans
spans_next blocks n o e = ap (λ (x : Option BlockRow). held_spans blocks n ++ spans_of_row x) (sym e)

pub spans_more : (blocks : List (Option MemoryBlock)) (n : ℕ) (o : Option BlockRow) → o ≡ row_seen (block_at blocks (n + 1)) →
    held_spans blocks (n + 1) ≡ held_spans blocks n ++ spans_of_row o
spans_more blocks n o =
    let next : suc n ≡ n + 1 = omega arith in
    subst (λ (k : ℕ). o ≡ row_seen (block_at blocks k) → held_spans blocks k ≡ held_spans blocks n ++ spans_of_row o) next
    (spans_next blocks n o)

-- pages that are those of a held block
pub record IsSpan (blocks : List (Option MemoryBlock)) (span : Span) : Type 0 where
  pub handle : ℕ
  pub row : BlockRow
  pub held : row_seen (block_at blocks handle) ≡ Some row
  pub is : span ≡ span_of row

is_span : (blocks : List (Option MemoryBlock)) (handle : ℕ) (o : Option BlockRow) → row_seen (block_at blocks handle) ≡ o →
    All (IsSpan blocks) (spans_of_row o)
is_span blocks handle None e = All-nil (IsSpan blocks)
is_span blocks handle (Some row) e =
    All-cons (IsSpan blocks) (span_of row) [] (record { handle = handle; row = row; held = e; is = refl }) (All-nil (IsSpan blocks))

pub are_spans : (blocks : List (Option MemoryBlock)) (n : ℕ) → All (IsSpan blocks) (held_spans blocks n)
unfolding held_spans
are_spans blocks zero = All-nil (IsSpan blocks)
are_spans blocks (suc n) =
    All-append (IsSpan blocks) (held_spans blocks n) (spans_of_row (row_seen (block_at blocks (suc n)))) (are_spans blocks n)
    (is_span blocks (suc n) (row_seen (block_at blocks (suc n))) refl)

in_row : (o : Option BlockRow) (row : BlockRow) → o ≡ Some row → Contains (spans_of_row o) (span_of row)
in_row None row e = absurd cc
in_row (Some other) row e = let same : other ≡ row = cc in (0, omega arith, ap span_of same)

pub has_span : (blocks : List (Option MemoryBlock)) (n handle : ℕ) (row : BlockRow) → 1 ≤ handle → handle ≤ n →
    row_seen (block_at blocks handle) ≡ Some row → Contains (held_spans blocks n) (span_of row)
unfolding held_spans
has_span blocks zero handle row some most e = absurd (omega arith)
has_span blocks (suc n) handle row some most e = elim (cases_eq handle (suc n)) [
  | inl same ↦ Contains-append_right (held_spans blocks n) (spans_of_row (row_seen (block_at blocks (suc n)))) (span_of row)
      (in_row (row_seen (block_at blocks (suc n))) row
      (subst (λ (k : ℕ). row_seen (block_at blocks k) ≡ Some row) same e))
  | inr other ↦ Contains-append_left (held_spans blocks n) (spans_of_row (row_seen (block_at blocks (suc n)))) (span_of row)
      (has_span blocks n handle row some (omega arith) e)
]

-- where a held block lies, by its pages
pub record Lies (handle : ℕ) (row : BlockRow) : Type 0 where
  pub some : 1 ≤ handle
  pub most : handle ≤ MAX_BLOCKS
  pub base : row.base ≡ BLOCK_REGION + PAGE_SIZE * (span_of row).first
  pub end : row.base + PAGE_SIZE * row.pages ≡ BLOCK_REGION + PAGE_SIZE * (span_of row).after
  pub within : (span_of row).after ≤ BLOCK_REGION_PAGES
  pub order : (span_of row).first ≤ (span_of row).after

handle_of : (blocks : List (Option MemoryBlock)) (handle : ℕ) (row : BlockRow) → length blocks ≡ MAX_BLOCKS →
    (b : Option MemoryBlock) → block_at blocks handle ≡ b → row_seen b ≡ Some row → IsHandle handle
handle_of blocks handle row long None there e = absurd cc
handle_of blocks handle row long (Some block) there e = handle_within blocks handle block long there

pub lies : (blocks : List (Option MemoryBlock)) (budget handle : ℕ) (row : BlockRow) → SoundBlocks blocks budget →
    row_seen (block_at blocks handle) ≡ Some row → Lies handle row
lies blocks budget handle row sound e =
    let fits = row_fits blocks budget handle sound (Some row) (sym e) in
    let from : BLOCK_REGION ≤ row.base = fits.from in
    let whole : row.base % PAGE_SIZE ≡ 0 = fits.whole in
    let to = fits.to in
    let h = handle_of blocks handle row sound.handles (block_at blocks handle) refl e in
    record {
      some = h.some;
      most = h.most;
      base = omega arith;
      end = omega arith;
      within = omega arith;
      order = omega arith;
    }
