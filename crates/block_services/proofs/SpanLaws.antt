-- The search through the blocks' pages in the order of their addresses finds the first gap, and the widest.
use Rattle.std.proofs.Common.{◌≡◌, ◌≢◌, ◌≤◌, ◌<◌, ◌+◌, ◌-◌, ◌*◌, ◌⊎◌, ℕ, zero, suc, true, false, not, inl, inr, max, refl, sym, ◌∙◌, ap}
use Rattle.std.proofs.Common.{List, [], ◌∷◌, length, get_or, drop, drop-cons, subst, arith, Option, None, Some, nat_eq, nat_le}
use Rattle.std.proofs.{Common.{if◌then◌else◌}, lemmas.Bool.{and_from, and_left, and_right, cases_Bool, leb-true, leb-false, le-leb, lt-leb}}
use Rattle.std.proofs.{lemmas.Bool.{le-ltb, lt-ltb, ne_eqb, true≢false}, lemmas.List.Elements.{All-head, All-tail, Contains-append_cases}}
use Rattle.std.proofs.lemmas.List.Sorted.{All-permutation, Contains-permutation, IsNonDecreasingBy-drop}
use Rattle.std.specs.{List.{All, Contains}, List.Sorted.{IsNonDecreasingBy, IsPermutation}}
use Rattle.client_world.specs.{declared.blocks.BlockRow.{BlockRow}, declared.host_frames.TheConstants.{PAGE_SIZE}}
use Rattle.client_world.specs.{declared.limits.TheConstants.{MAX_BLOCKS}, declared.memory_map.TheConstants.{BLOCK_REGION_END}}
use Rattle.client_world.specs.{declared.memory_map.TheConstants.{BLOCK_REGION_PAGES}, Soundness.{SoundBlocks}, World.{MemoryBlock}}
use Rattle.client_world.specs.World.{block_at}
use Rattle.block_memory.specs.BlockSizes.{row_seen}
use Rattle.service_rows.specs.FirstIndex.{first_index}
use Rattle.service_rows.proofs.RunLaws.{first_none, index_skipped, is_missing}
use Rattle.block_services.specs.{declared.spans.Span.{Span}, Gaps.{block_in_way, first_gap, is_gap, is_in_way, overlaps, page_address}}
use Rattle.block_services.specs.Spans.{held_spans, span_of}
use Rattle.block_services.proofs.SpanLists.{gap_at, gap_found, gap_here, gap_missed, not_none, IsSpan, Lies, are_spans, has_span, lies}

-- ---- the search as a function: the first page, from one on, from which n pages lie before the next block or the region's end

abbrev pub found : List Span → ℕ → ℕ → Option ℕ
found [] page n = if nat_le (page + n) BLOCK_REGION_PAGES then Some page else None
found (span ∷ rest) page n = if nat_le (page + n) span.first then Some page else found rest (max page span.after) n

-- the most pages that it finds
abbrev pub widest : List Span → ℕ → ℕ
widest [] page = BLOCK_REGION_PAGES - page
widest (span ∷ rest) page = max (span.first - page) (widest rest (max page span.after))

-- what a read past the end of a list gives
abbrev pub missing : Span
missing = record { first = 0; after = 0 }

-- ---- the code's step through a list

rest_is : (spans : List Span) (i : ℕ) (d : Span) → i < length spans → drop i spans ≡ get_or spans i d ∷ drop (i + 1) spans
rest_is spans i d small =
    drop-cons spans i d small ∙ ap (λ (k : ℕ). get_or spans i d ∷ drop k spans) (let next : suc i ≡ i + 1 = omega arith in next)

none_left : (spans : List Span) (i : ℕ) → length spans ≤ i → drop i spans ≡ []
none_left [] zero past = refl
none_left [] (suc i) past = refl
none_left (x ∷ xs) zero past = absurd (omega arith)
none_left (x ∷ xs) (suc i) past = none_left xs i (omega arith)

pub found_here : (spans : List Span) (i page n : ℕ) (d : Span) → i < length spans → page + n ≤ (get_or spans i d).first →
    found (drop i spans) page n ≡ Some page
found_here spans i page n d small fits =
    ap (λ (xs : List Span). found xs page n) (rest_is spans i d small) ∙ rw (le-leb (page + n) (get_or spans i d).first fits) refl

pub found_next : (spans : List Span) (i page n : ℕ) (d : Span) → i < length spans → (get_or spans i d).first < page + n →
    found (drop i spans) page n ≡ found (drop (i + 1) spans) (max page (get_or spans i d).after) n
found_next spans i page n d small short =
    ap (λ (xs : List Span). found xs page n) (rest_is spans i d small) ∙ rw (lt-leb (page + n) (get_or spans i d).first short) refl

pub found_last : (spans : List Span) (i page n : ℕ) → length spans ≤ i → page + n ≤ BLOCK_REGION_PAGES →
    found (drop i spans) page n ≡ Some page
found_last spans i page n past fits =
    ap (λ (xs : List Span). found xs page n) (none_left spans i past) ∙ rw (le-leb (page + n) BLOCK_REGION_PAGES fits) refl

pub found_none : (spans : List Span) (i page n : ℕ) → length spans ≤ i → BLOCK_REGION_PAGES < page + n → found (drop i spans) page n ≡ None
found_none spans i page n past short =
    ap (λ (xs : List Span). found xs page n) (none_left spans i past) ∙ rw (lt-leb (page + n) BLOCK_REGION_PAGES short) refl

max_in : (a b c : ℕ) → max (max a b) c ≡ max a (max b c)
max_in a b c = omega arith

pub widest_next : (spans : List Span) (i page best : ℕ) (d : Span) → i < length spans → max best (widest (drop i spans) page)
    ≡ max (max best ((get_or spans i d).first - page)) (widest (drop (i + 1) spans) (max page (get_or spans i d).after))
widest_next spans i page best d small =
    ap (λ (xs : List Span). max best (widest xs page)) (rest_is spans i d small)
    ∙ sym (max_in best ((get_or spans i d).first - page) (widest (drop (i + 1) spans) (max page (get_or spans i d).after)))

pub widest_last : (spans : List Span) (i page best : ℕ) → length spans ≤ i →
    max best (widest (drop i spans) page) ≡ max best (BLOCK_REGION_PAGES - page)
widest_last spans i page best past = ap (λ (xs : List Span). max best (widest xs page)) (none_left spans i past)

-- ---- a block and a run of pages

apart : (handle page n : ℕ) (row : BlockRow) → Lies handle row → ((span_of row).after ≤ page) ⊎ (page + n ≤ (span_of row).first) →
    overlaps (Some row) (page_address page) n ≡ false
apart handle page n row is beside =
    let base = is.base in let end = is.end in
    elim beside [
      | inl before ↦ and_right _ _ (le-ltb (page_address page) (row.base + PAGE_SIZE * row.pages) (omega arith))
      | inr behind ↦ and_left _ _ (le-ltb row.base (page_address page + PAGE_SIZE * n) (omega arith))
    ]

meets : (handle page n : ℕ) (row : BlockRow) → Lies handle row → (span_of row).first < page + n → page < (span_of row).after →
    overlaps (Some row) (page_address page) n ≡ true
meets handle page n row is low high =
    let base = is.base in let end = is.end in
    and_from _ _ (lt-ltb row.base (page_address page + PAGE_SIZE * n) (omega arith))
    (lt-ltb (page_address page) (row.base + PAGE_SIZE * row.pages) (omega arith))

-- each block ends before a run of pages, or begins after it
abbrev pub AllApart : List (Option MemoryBlock) → ℕ → ℕ → Type 0
AllApart blocks page n = (handle : ℕ) (row : BlockRow) → row_seen (block_at blocks handle) ≡ Some row →
    ((span_of row).after ≤ page) ⊎ (page + n ≤ (span_of row).first)

no_block : (blocks : List (Option MemoryBlock)) (budget page n handle : ℕ) → SoundBlocks blocks budget → AllApart blocks page n →
    (o : Option BlockRow) → row_seen (block_at blocks handle) ≡ o → overlaps o (page_address page) n ≡ false
no_block blocks budget page n handle sound beside None e = refl
no_block blocks budget page n handle sound beside (Some row) e =
    apart handle page n row (lies blocks budget handle row sound e) (beside handle row e)

no_way : (blocks : List (Option MemoryBlock)) (budget page n : ℕ) → SoundBlocks blocks budget → AllApart blocks page n →
    block_in_way blocks 0 (page_address page) n ≡ None
unfolding block_in_way
no_way blocks budget page n sound beside = is_missing (is_in_way blocks 0 (page_address page) n) 1 MAX_BLOCKS
    (λ k l u. and_right (not (nat_eq k 0)) _ (no_block blocks budget page n k sound beside (row_seen (block_at blocks k)) refl))

free_here : (blocks : List (Option MemoryBlock)) (budget page n : ℕ) → SoundBlocks blocks budget → 0 < n → page + n ≤ BLOCK_REGION_PAGES →
    AllApart blocks page n → first_index (gap_at blocks n) page (BLOCK_REGION_PAGES - page) ≡ Some page
free_here blocks budget page n sound some room beside =
    let fits : page_address page + PAGE_SIZE * n ≤ BLOCK_REGION_END = omega arith in
    gap_found blocks page n (omega arith) (gap_here blocks 0 (page_address page) n fits (no_way blocks budget page n sound beside))

-- a block bars the runs that begin before its end, where it begins before theirs
barred : (blocks : List (Option MemoryBlock)) (budget handle page n : ℕ) (row : BlockRow) → SoundBlocks blocks budget →
    row_seen (block_at blocks handle) ≡ Some row → (span_of row).first < page + n → page < (span_of row).after →
    gap_at blocks n page ≡ false
unfolding is_gap block_in_way
barred blocks budget handle page n row sound e low high =
    let is = lies blocks budget handle row sound e in
    let some = is.some in let most = is.most in
    let other : not (nat_eq handle 0) ≡ true = ap not (ne_eqb handle 0 (λ (same : handle ≡ 0). omega arith)) in
    let now : is_in_way blocks 0 (page_address page) n handle ≡ true =
    and_from _ _ other
    (ap (λ (o : Option BlockRow). overlaps o (page_address page) n) e ∙ meets handle page n row is low high) in
    and_right (nat_le (page_address page + PAGE_SIZE * n) BLOCK_REGION_END) _
    (not_none (first_index (is_in_way blocks 0 (page_address page) n) 1 MAX_BLOCKS)
    (λ none.
    true≢false (sym now ∙ first_none (is_in_way blocks 0 (page_address page) n) 1 MAX_BLOCKS none handle some (omega arith))))

-- ---- the rest of the blocks, once those before a page are passed

pub record IsRest (blocks : List (Option MemoryBlock)) (spans : List Span) (page : ℕ) : Type 0 where
  pub ascending : IsNonDecreasingBy (λ (span : Span). span.first) spans
  pub are : All (IsSpan blocks) spans
  pub all : (handle : ℕ) (row : BlockRow) → row_seen (block_at blocks handle) ≡ Some row →
      ((span_of row).after ≤ page) ⊎ Contains spans (span_of row)

head_is : (span other : Span) (k : ℕ) → k < 1 → get_or (span ∷ []) k other ≡ other → span ≡ other
head_is span other zero small e = e
head_is span other (suc k) small e = absurd (omega arith)

in_rest : (span other : Span) (rest : List Span) (page : ℕ) → (other.after ≤ page) ⊎ Contains (span ∷ rest) other →
    (other.after ≤ max page span.after) ⊎ Contains rest other
in_rest span other rest page (inl passed) = inl (omega arith)
in_rest span other rest page (inr has) = elim (Contains-append_cases (span ∷ []) rest other has) [
  | inl here ↦ (let same = head_is span other here.0 here.1 here.2 in
      let end = ap (λ (s : Span). s.after) same in
      inl (omega arith))
  | inr later ↦ inr later
]

next_rest : (blocks : List (Option MemoryBlock)) (span : Span) (rest : List Span) (page : ℕ) → IsRest blocks (span ∷ rest) page →
    IsRest blocks rest (max page span.after)
next_rest blocks span rest page r = record {
  ascending = IsNonDecreasingBy-drop (λ (s : Span). s.first) 1 (span ∷ rest) r.ascending;
  are = All-tail (IsSpan blocks) span rest r.are;
  all = λ handle row e. in_rest span (span_of row) rest page (r.all handle row e);
}

above_head : (blocks : List (Option MemoryBlock)) (span other : Span) (rest : List Span) (page : ℕ) → IsRest blocks (span ∷ rest) page →
    Contains (span ∷ rest) other → span.first ≤ other.first
above_head blocks span other rest page r has =
    subst (λ (s : Span). span.first ≤ s.first) has.2 (r.ascending 0 has.0 other (omega arith) has.1)

before_head : (blocks : List (Option MemoryBlock)) (span : Span) (rest : List Span) (page n : ℕ) → IsRest blocks (span ∷ rest) page →
    page + n ≤ span.first → AllApart blocks page n
before_head blocks span rest page n r fits handle row e = elim (r.all handle row e) [
  | inl passed ↦ inl passed
  | inr has ↦ (let up = above_head blocks span (span_of row) rest page r has in inr (omega arith))
]

after_all : (blocks : List (Option MemoryBlock)) (page n : ℕ) → IsRest blocks [] page → AllApart blocks page n
after_all blocks page n r handle row e = elim (r.all handle row e) [
  | inl passed ↦ inl passed
  | inr has ↦ (let small = has.1 in absurd (omega arith))
]

-- ---- what the search finds

found_from : (blocks : List (Option MemoryBlock)) (budget n : ℕ) → SoundBlocks blocks budget → 0 < n → (spans : List Span) (page : ℕ) →
    page ≤ BLOCK_REGION_PAGES → IsRest blocks spans page →
    found spans page n ≡ first_index (gap_at blocks n) page (BLOCK_REGION_PAGES - page)
found_from blocks budget n sound some [] page few r = elim (cases_Bool (nat_le (page + n) BLOCK_REGION_PAGES)) [
  | inl fits ↦ rw fits (sym (free_here blocks budget page n sound some (leb-true (page + n) BLOCK_REGION_PAGES fits)
      (after_all blocks page n r)))
  | inr short ↦ rw short (sym (gap_missed blocks page n (leb-false (page + n) BLOCK_REGION_PAGES short)))
]
found_from blocks budget n sound some (span ∷ rest) page few r =
    let here = All-head (IsSpan blocks) span rest r.are in
    let is = lies blocks budget here.handle here.row sound here.held in
    let first = ap (λ (s : Span). s.first) here.is in let after = ap (λ (s : Span). s.after) here.is in
    let within = is.within in let order = is.order in
    elim (cases_Bool (nat_le (page + n) span.first)) [
      | inl fits ↦ (let room = leb-true (page + n) span.first fits in
          rw fits (sym (free_here blocks budget page n sound some (omega arith) (before_head blocks span rest page n r room))))
      | inr short ↦ (let meet = leb-false (page + n) span.first short in
          rw short
          (found_from blocks budget n sound some rest (max page span.after) (omega arith) (next_rest blocks span rest page r)
          ∙ sym (index_skipped (gap_at blocks n) (max page span.after - page) page (max page span.after) BLOCK_REGION_PAGES (omega arith)
          (omega arith)
          (λ k above below. barred blocks budget here.handle k n here.row sound here.held (omega arith) (omega arith)))))
    ]

-- the search through all of them
pub record AreSorted (blocks : List (Option MemoryBlock)) (spans : List Span) : Type 0 where
  pub held : IsPermutation (held_spans blocks MAX_BLOCKS) spans
  pub ascending : IsNonDecreasingBy (λ (span : Span). span.first) spans

pub sorted_as : (blocks : List (Option MemoryBlock)) (spans sorted : List Span) → spans ≡ sorted →
    IsPermutation (held_spans blocks MAX_BLOCKS) sorted → IsNonDecreasingBy (λ (span : Span). span.first) sorted → AreSorted blocks spans
sorted_as blocks spans sorted e held ascending =
    subst (λ (xs : List Span). AreSorted blocks xs) (sym e) (record { held = held; ascending = ascending })

all_spans : (blocks : List (Option MemoryBlock)) (budget : ℕ) (spans : List Span) → SoundBlocks blocks budget → AreSorted blocks spans →
    IsRest blocks spans 0
all_spans blocks budget spans sound sorted = record {
  ascending = sorted.ascending;
  are = All-permutation (IsSpan blocks) (held_spans blocks MAX_BLOCKS) spans sorted.held (are_spans blocks MAX_BLOCKS);
  all = λ handle row e. (let is = lies blocks budget handle row sound e in
      inr (Contains-permutation (held_spans blocks MAX_BLOCKS) spans (span_of row) sorted.held
      (has_span blocks MAX_BLOCKS handle row is.some is.most e)));
}

pub found_is : (blocks : List (Option MemoryBlock)) (budget n : ℕ) (spans : List Span) → SoundBlocks blocks budget → 0 < n →
    AreSorted blocks spans → found spans 0 n ≡ first_gap blocks n
unfolding first_gap
found_is blocks budget n spans sound some sorted =
    found_from blocks budget n sound some spans 0 (omega arith) (all_spans blocks budget spans sound sorted)

pub gap_is : (blocks : List (Option MemoryBlock)) (budget n : ℕ) (spans sorted : List Span) → SoundBlocks blocks budget → 0 < n →
    spans ≡ sorted → IsPermutation (held_spans blocks MAX_BLOCKS) sorted → IsNonDecreasingBy (λ (span : Span). span.first) sorted →
    first_gap blocks n ≡ found spans 0 n
gap_is blocks budget n spans sorted sound some e held ascending =
    sym (found_is blocks budget n spans sound some (sorted_as blocks spans sorted e held ascending))

-- a block's pages lie in the region
pub record IsWithin (span : Span) : Type 0 where
  pub first : span.first ≤ BLOCK_REGION_PAGES
  pub after : span.after ≤ BLOCK_REGION_PAGES

pub span_within : (blocks : List (Option MemoryBlock)) (budget i : ℕ) (d : Span) (spans sorted : List Span) → SoundBlocks blocks budget →
    spans ≡ sorted → IsPermutation (held_spans blocks MAX_BLOCKS) sorted → IsNonDecreasingBy (λ (span : Span). span.first) sorted →
    i < length spans → IsWithin (get_or spans i d)
span_within blocks budget i d spans sorted sound e held ascending small =
    let is = (all_spans blocks budget spans sound (sorted_as blocks spans sorted e held ascending)).are i d small in
    let place = lies blocks budget is.handle is.row sound is.held in
    let within = place.within in let order = place.order in
    let first = ap (λ (s : Span). s.first) is.is in let after = ap (λ (s : Span). s.after) is.is in
    record { first = omega arith; after = omega arith }

-- ---- and the widest gap

pub wide_found : (n : ℕ) → 0 < n → (spans : List Span) (page : ℕ) → n ≤ widest spans page → found spans page n ≢ None
wide_found n some [] page few = rw (le-leb (page + n) BLOCK_REGION_PAGES (omega arith)) (λ none. cc)
wide_found n some (span ∷ rest) page few = elim (cases_Bool (nat_le (page + n) span.first)) [
  | inl fits ↦ rw fits (λ none. cc)
  | inr short ↦ (let meet = leb-false (page + n) span.first short in
      rw short (wide_found n some rest (max page span.after) (omega arith)))
]

pub wide_missed : (n : ℕ) (spans : List Span) (page : ℕ) → widest spans page < n → found spans page n ≡ None
wide_missed n [] page many = rw (lt-leb (page + n) BLOCK_REGION_PAGES (omega arith)) refl
wide_missed n (span ∷ rest) page many =
    rw (lt-leb (page + n) span.first (omega arith)) (wide_missed n rest (max page span.after) (omega arith))
