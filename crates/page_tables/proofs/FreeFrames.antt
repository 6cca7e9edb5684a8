-- The list of free frames as its first frame is taken, as a frame is put before it, and as the frames of others are written: what the
-- writes leave that do so, and those that link the frames of the budget one after another, from the last one down.
use Rattle.std.proofs.Common.{◌≡◌, ◌≢◌, ◌↔◌, ◌⊎◌, inl, inr, ℕ, zero, suc, ◌<◌, List, [], ◌∷◌, length, slice_index, Contains, refl, ap, ◌∙◌}
use Rattle.std.proofs.Common.{sym, subst, arith, ◌+◌, ◌*◌, ◌≤◌, slice_set, get_or-set_same, get_or-set_other, length-set, ◌/◌}
use Rattle.std.proofs.{lemmas.List.{get_or_default}, lemmas.Bool.{cases_eq, cases_lt}}
use Rattle.page_tables.specs.FreeList.{IsChain, ListsFree, HasFreeList, IsFreeFrame, first_free, next_free, with_head, without_head}
use Rattle.page_tables.specs.Budget.{AllTaken, HasBudget, IsBudgetFrame, IsTaken, taken_place, AllFree}
use Rattle.page_tables.specs.declared.budget.TheConstants.{FREE_LIST_HEAD}
use Rattle.client_world.specs.declared.host_frames.TheConstants.{PAGE_SIZE, BUDGET_FRAMES}
use Rattle.guest_ram.specs.Bytes.{dword, dword_bytes, put}
use Rattle.guest_ram.proofs.PutLaws.{length-put, put_away, dword_put, dword_put_other, same_dword}

-- ---- members of a list

member_at : (xs : List ℕ) (k : ℕ) → k < length xs → Contains xs (slice_index xs k)
member_at xs k small = (k, small, get_or_default xs k (slice_index xs k) 0 small)

-- where a member is
place_in : (xs : List ℕ) (x : ℕ) → Contains xs x → (k : ℕ) × (k < length xs) × (slice_index xs k ≡ x)
place_in xs x has = (has.0, has.1, get_or_default xs has.0 0 x has.1 ∙ has.2)

member_later : (x y : ℕ) (xs : List ℕ) → Contains xs y → Contains (x ∷ xs) y
member_later x y xs has = let less = has.1 in (suc has.0, omega (arith, less), has.2)

member_first : (x : ℕ) (xs : List ℕ) → Contains (x ∷ xs) x
member_first x xs = (0, omega arith, refl)

member_cases : (x y : ℕ) (xs : List ℕ) → Contains (x ∷ xs) y → (x ≡ y) ⊎ Contains xs y
member_cases x y xs has = grind arith

-- ---- what follows each frame

-- the frames follow one another where what follows each of them stays
chain_kept : (next other : ℕ → ℕ) (first : ℕ) (frames : List ℕ) →
    ((k : ℕ) → k < length frames → other (slice_index frames k) ≡ next (slice_index frames k)) →
    IsChain next first frames → IsChain other first frames
chain_kept next other first [] same chain = chain
chain_kept next other first (frame ∷ frames) same chain = (
  chain.0,
  subst (λ (after : ℕ). IsChain other after frames) (sym (same 0 (omega arith)))
      (chain_kept next other (next frame) frames (λ k less. same (suc k) (omega (arith, less))) chain.1),
)

-- ---- the list

-- writes elsewhere leave it
pub same_free : (first head : ℕ) (next other : ℕ → ℕ) (Free Idle : ℕ → Type 0) → ListsFree first next Free → head ≡ first →
    ((frame : ℕ) → Free frame → other frame ≡ next frame) → ((frame : ℕ) → Idle frame ↔ Free frame) → ListsFree head other Idle
same_free first head next other Free Idle list e same idle = record {
  frames = list.frames;
  linked = subst (λ (f : ℕ). IsChain other f list.frames) (sym e)
      (chain_kept next other first list.frames
      (λ k less. same (slice_index list.frames k) ((list.exactly (slice_index list.frames k)).0 (member_at list.frames k less)))
      list.linked);
  once = list.once;
  exactly = λ frame. (λ has. (idle frame).1 ((list.exactly frame).0 has), λ is. (list.exactly frame).1 ((idle frame).0 is));
}

-- its first frame is free
pub first_is_free : (first : ℕ) (next : ℕ → ℕ) (Free : ℕ → Type 0) → ListsFree first next Free → first ≢ 0 → Free first
first_is_free first next Free list some = by_frames list.frames list.linked list.exactly
  where
    by_frames : (frames : List ℕ) → IsChain next first frames → ((frame : ℕ) → Contains frames frame ↔ Free frame) → Free first
    by_frames [] chain exactly = absurd (some chain)
    by_frames (frame ∷ frames) chain exactly = subst Free (sym chain.0) ((exactly frame).0 (member_first frame frames))

-- where there is none, no frame is free
pub none_is_free : (first : ℕ) (next : ℕ → ℕ) (Free : ℕ → Type 0) → ListsFree first next Free → first ≡ 0 →
    ((frame : ℕ) → Free frame → frame ≢ 0) → (frame : ℕ) → Free frame → ⊥
none_is_free first next Free list none some frame is = by_frames list.frames list.linked list.exactly
  where
    by_frames : (frames : List ℕ) → IsChain next first frames → ((f : ℕ) → Contains frames f ↔ Free f) → ⊥
    by_frames [] chain exactly = let less = ((exactly frame).1 is).1 in omega (arith, less)
    by_frames (f ∷ frames) chain exactly = some f ((exactly f).0 (member_first f frames)) (sym chain.0 ∙ none)

-- without its first frame
pub rest_of_free : (first head : ℕ) (next other : ℕ → ℕ) (Free Idle : ℕ → Type 0) → ListsFree first next Free → first ≢ 0 →
    head ≡ next first → ((frame : ℕ) → Idle frame → other frame ≡ next frame) →
    ((frame : ℕ) → Idle frame ↔ (Free frame × (frame ≢ first))) → ListsFree head other Idle
rest_of_free first head next other Free Idle list some e same idle = by_frames list.frames list.linked list.once list.exactly
  where
    by_frames : (frames : List ℕ) → IsChain next first frames →
        ((place twin : ℕ) → place < length frames → twin < length frames → place ≢ twin →
        slice_index frames place ≢ slice_index frames twin) →
        ((frame : ℕ) → Contains frames frame ↔ Free frame) → ListsFree head other Idle
    by_frames [] chain once exactly = absurd (some chain)
    by_frames (f ∷ frames) chain once exactly = record {
      frames = frames;
      linked = subst (λ (h : ℕ). IsChain other h frames) (sym (e ∙ ap next chain.0))
          (chain_kept next other (next f) frames
          (λ k less. same (slice_index frames k) (into (slice_index frames k) (member_at frames k less))) chain.1);
      once = λ place twin less small ne. once (suc place) (suc twin) (omega (arith, less)) (omega (arith, small)) (omega (arith, ne));
      exactly = λ frame. (into frame, back frame);
    }
      where
        into : (frame : ℕ) → Contains frames frame → Idle frame
        into frame has =
            let at = place_in frames frame has in
            let less = at.1 in
            (idle frame).1 (
              (exactly frame).0 (member_later f frame frames has),
              λ same_frame. once 0 (suc at.0) (omega arith) (omega (arith, less)) (omega arith) (sym chain.0 ∙ sym same_frame ∙ sym at.2),
            )

        back : (frame : ℕ) → Idle frame → Contains frames frame
        back frame is =
            let was = (idle frame).0 is in grind (arith, member_cases)

-- with a frame before the first one
pub more_of_free : (first head : ℕ) (next other : ℕ → ℕ) (Free Idle : ℕ → Type 0) → ListsFree first next Free → (Free head → ⊥) →
    other head ≡ first → ((frame : ℕ) → Free frame → other frame ≡ next frame) →
    ((frame : ℕ) → Idle frame ↔ (Free frame ⊎ (frame ≡ head))) → ListsFree head other Idle
more_of_free first head next other Free Idle list fresh e same idle = record {
  frames = head ∷ list.frames;
  linked = (
    refl,
    subst (λ (f : ℕ). IsChain other f list.frames) (sym e)
        (chain_kept next other first list.frames
        (λ k less. same (slice_index list.frames k) ((list.exactly (slice_index list.frames k)).0 (member_at list.frames k less)))
        list.linked),
  );
  once = once;
  exactly = λ frame. (into frame, back frame);
}
  where
    apart : (place : ℕ) → place < length list.frames → slice_index list.frames place ≢ head
    apart place less is = fresh (subst Free is ((list.exactly (slice_index list.frames place)).0 (member_at list.frames place less)))

    once : (place twin : ℕ) → place < length (head ∷ list.frames) → twin < length (head ∷ list.frames) → place ≢ twin →
        slice_index (head ∷ list.frames) place ≢ slice_index (head ∷ list.frames) twin
    once zero zero less small ne = absurd (ne refl)
    once zero (suc twin) less small ne = λ is. apart twin (omega (arith, small)) (sym is)
    once (suc place) zero less small ne = apart place (omega (arith, less))
    once (suc place) (suc twin) less small ne = list.once place twin (omega (arith, less)) (omega (arith, small)) (omega (arith, ne))

    into : (frame : ℕ) → Contains (head ∷ list.frames) frame → Idle frame
    into frame has = grind (arith, member_cases)

    back : (frame : ℕ) → Idle frame → Contains (head ∷ list.frames) frame
    back frame is = grind (arith, member_first, member_later)

-- ---- the writes

-- bytes beside a doubleword, and one byte
pub dword_put_beside : (b : List ℕ) (at k : ℕ) (xs : List ℕ) → (at + length xs ≤ k) ⊎ (k + 4 ≤ at) → dword (put b at xs) k ≡ dword b k
dword_put_beside b at k xs away = grind (arith, put_away, same_dword)

pub dword_set_other : (b : List ℕ) (at k v : ℕ) → (at < k) ⊎ (k + 4 ≤ at) → dword (slice_set b at v) k ≡ dword b k
dword_set_other b at k v away = dword_put_beside b at k (v ∷ []) (elim away [ inl below ↦ inl (omega arith) | inr above ↦ inr above ])

-- where the taken byte of a frame of the budget is
pub record TakenPlace (frame : ℕ) : Type 0 where
  pub from : FREE_LIST_HEAD + 4 ≤ taken_place frame
  pub to : taken_place frame < PAGE_SIZE * BUDGET_FRAMES

pub place_inside : (b : List ℕ) (frame : ℕ) → HasBudget b → IsBudgetFrame b frame → TakenPlace frame
place_inside b frame budget is = grind arith

place_apart : (b : List ℕ) (frame other : ℕ) → IsBudgetFrame b frame → IsBudgetFrame b other → other ≢ frame →
    taken_place other ≢ taken_place frame
place_apart b frame other is too ne = let from = is.from in let low = too.from in omega arith

budget_frame : (b c : List ℕ) (frame : ℕ) → length c ≡ length b → IsBudgetFrame b frame → IsBudgetFrame c frame
budget_frame b c frame size is = let inside = is.inside in record { from = is.from; inside = omega arith }

-- the frame at the head is free
pub head_is_free : (b : List ℕ) → HasFreeList b → first_free b ≢ 0 → IsFreeFrame b (first_free b)
head_is_free b list some = first_is_free (first_free b) (next_free b) (IsFreeFrame b) list some

pub head_in_budget : (b : List ℕ) (frame : ℕ) → HasFreeList b → frame ≡ first_free b → frame ≢ 0 → IsBudgetFrame b frame
head_in_budget b frame list first some = grind (arith, head_is_free)

-- where there is none each frame is taken
pub all_are_taken : (b : List ℕ) → HasFreeList b → first_free b ≡ 0 → AllTaken b
all_are_taken b list none frame is free =
    none_is_free (first_free b) (next_free b) (IsFreeFrame b) list none (λ f has. (let from = has.budget.from in omega arith)) frame
    (record { budget = is; free = free })

-- writes elsewhere leave the list
pub same_free_list : (b c : List ℕ) → HasFreeList b → length c ≡ length b → first_free c ≡ first_free b →
    ((frame : ℕ) → IsBudgetFrame b frame → next_free c frame ≡ next_free b frame) →
    ((frame : ℕ) → IsBudgetFrame b frame → slice_index c (taken_place frame) ≡ slice_index b (taken_place frame)) → HasFreeList c
same_free_list b c list size head next taken = grind (arith, budget_frame, same_free)

-- what a write of the head and of a taken byte leaves
record Leaves (b c : List ℕ) (frame : ℕ) : Type 0 where
  size : length c ≡ length b
  bytes : (other : ℕ) → IsBudgetFrame b other → other ≢ frame → slice_index c (taken_place other) ≡ slice_index b (taken_place other)
  next : (other : ℕ) → IsBudgetFrame b other → other ≢ frame → next_free c other ≡ next_free b other

free_as_before : (b c : List ℕ) (frame other : ℕ) → Leaves b c frame → other ≢ frame → IsFreeFrame b other → IsFreeFrame c other
free_as_before b c frame other leaves ne is = grind (arith, budget_frame)

free_as_after : (b c : List ℕ) (frame other : ℕ) → Leaves b c frame → other ≢ frame → IsFreeFrame c other → IsFreeFrame b other
free_as_after b c frame other leaves ne is = grind (arith, budget_frame)

-- ---- the head is taken

head_leaves : (b : List ℕ) (frame : ℕ) → HasBudget b → IsBudgetFrame b frame → Leaves b (without_head b frame) frame
head_leaves b frame budget is =
    grind (arith, dword_put_other, dword_set_other, get_or-set_other, length-put, length-set, place_apart, place_inside, put_away)

pub list_without_head : (b : List ℕ) → HasBudget b → HasFreeList b → first_free b ≢ 0 → HasFreeList (without_head b (first_free b))
list_without_head b budget list some =
    let frame = first_free b in
    let c = without_head b frame in
    let is = (head_is_free b list some).budget in
    let leaves = head_leaves b frame budget is in
    let place = place_inside b frame budget is in
    let from = place.from in let to = place.to in let host = budget.host in
    let b1 = put b FREE_LIST_HEAD (dword_bytes (next_free b frame)) in
    let busy : slice_index c (taken_place frame) ≡ 1 =
    get_or-set_same b1 (taken_place frame) 1 0 (omega (arith, length-put b FREE_LIST_HEAD (dword_bytes (next_free b frame)))) in
    let apart : (other : ℕ) → IsFreeFrame c other → other ≢ frame = λ other has here.
    (let free : slice_index c (taken_place frame) ≡ 0 = ap (λ (f : ℕ). slice_index c (taken_place f)) (sym here) ∙ has.free in
    omega (arith, free, busy)) in
    rest_of_free frame (first_free c) (next_free b) (next_free c) (IsFreeFrame b) (IsFreeFrame c) list some
    (dword_set_other b1 (taken_place frame) FREE_LIST_HEAD 1 (inr from) ∙ dword_put b FREE_LIST_HEAD (next_free b frame) (omega arith))
    (λ other has. leaves.next other (free_as_after b c frame other leaves (apart other has) has).budget (apart other has))
    (λ other. grind (arith, free_as_after, free_as_before))

-- ---- a frame is given back

given_leaves : (b : List ℕ) (frame : ℕ) → HasBudget b → IsBudgetFrame b frame → Leaves b (with_head b frame) frame
given_leaves b frame budget is =
    grind (arith, cases_lt, dword_put_other, dword_set_other, get_or-set_other, length-put, length-set, place_apart, place_inside, put_away)

pub list_with_head : (b : List ℕ) (frame : ℕ) → HasBudget b → HasFreeList b → IsBudgetFrame b frame → IsTaken b frame →
    HasFreeList (with_head b frame)
list_with_head b frame budget list is taken =
    let link = dword_bytes (first_free b) in
    let b1 = put b (PAGE_SIZE * frame) link in
    let b2 = put b1 FREE_LIST_HEAD (dword_bytes frame) in
    let c = with_head b frame in
    let leaves = given_leaves b frame budget is in
    let place = place_inside b frame budget is in
    let from = place.from in let to = place.to in let host = budget.host in let low = is.from in let inside = is.inside in
    let size1 = length-put b (PAGE_SIZE * frame) link in
    let size2 = length-put b1 FREE_LIST_HEAD (dword_bytes frame) in
    let head : first_free c ≡ frame =
    dword_set_other b2 (taken_place frame) FREE_LIST_HEAD 0 (inr from) ∙ dword_put b1 FREE_LIST_HEAD frame (omega arith) in
    let idle : slice_index c (taken_place frame) ≡ 0 = get_or-set_same b2 (taken_place frame) 0 0 (omega arith) in
    let apart : (other : ℕ) → IsFreeFrame b other → other ≢ frame =
    λ other has here. taken (ap (λ (f : ℕ). slice_index b (taken_place f)) (sym here) ∙ has.free) in
    subst (λ (f : ℕ). ListsFree f (next_free c) (IsFreeFrame c)) (sym head)
    (more_of_free (first_free b) frame (next_free b) (next_free c) (IsFreeFrame b) (IsFreeFrame c) list (λ has. taken has.free)
    (dword_set_other b2 (taken_place frame) (PAGE_SIZE * frame) 0 (inl (omega arith))
    ∙ dword_put_other b1 FREE_LIST_HEAD (PAGE_SIZE * frame) frame (inl (omega arith))
    ∙ dword_put b (PAGE_SIZE * frame) (first_free b) (omega arith))
    (λ other has. leaves.next other has.budget (apart other has))
    (λ other. grind (arith, budget_frame, cases_eq, free_as_after, free_as_before)))

-- ---- the writes one after another

pub head_taken : (b b1 b2 : List ℕ) (frame next place : ℕ) → HasBudget b → HasFreeList b → frame ≡ first_free b → frame ≢ 0 →
    next ≡ next_free b frame →
    place ≡ taken_place frame → b1 ≡ put b FREE_LIST_HEAD (dword_bytes next) → b2 ≡ slice_set b1 place 1 → HasFreeList b2
head_taken b b1 b2 frame next place budget list first some follows at e1 e2 = grind (arith, list_without_head)

pub frame_given : (b b1 b2 b3 : List ℕ) (frame head place : ℕ) → HasBudget b → HasFreeList b → IsBudgetFrame b frame → IsTaken b frame →
    head ≡ first_free b → place ≡ taken_place frame → b1 ≡ put b (PAGE_SIZE * frame) (dword_bytes head) →
    b2 ≡ put b1 FREE_LIST_HEAD (dword_bytes frame) → b3 ≡ slice_set b2 place 0 → HasFreeList b3
frame_given b b1 b2 b3 frame head place budget list is taken first at e1 e2 e3 = grind (arith, list_with_head)

-- the frames from one on
pub record IsBetween (from to frame : ℕ) : Type 0 where
  pub low : from ≤ frame
  pub high : frame < to

-- the frames from one on are linked, and the host's bytes stay
pub record Linking (old new : List ℕ) (head from to : ℕ) : Type 0 where
  pub size : length new ≡ length old
  pub low : BUDGET_FRAMES ≤ from
  pub high : from ≤ to
  pub list : ListsFree head (next_free new) (IsBetween from to)
  pub others : (at : ℕ) → at < PAGE_SIZE * BUDGET_FRAMES → slice_index new at ≡ slice_index old at

-- one frame more, before those
pub one_linked : (b b1 c : List ℕ) (head from to frame start : ℕ) → Linking b b1 head from to → BUDGET_FRAMES ≤ frame → frame + 1 ≡ from →
    start ≡ frame → PAGE_SIZE * to ≤ length b → c ≡ put b1 (PAGE_SIZE * frame) (dword_bytes head) → Linking b c frame start to
one_linked b b1 c head from to frame start h low next here room e = subst (λ (x : List ℕ). Linking b x frame start to) (sym e)
    (subst (λ (first : ℕ). Linking b new frame first to) (sym here) (record {
      size = length-put b1 (PAGE_SIZE * frame) (dword_bytes head) ∙ h.size;
      low = low;
      high = (let high = h.high in omega arith);
      list = grind (arith, cases_eq, dword_put, dword_put_other, more_of_free, new);
      others = λ at less. put_away b1 (PAGE_SIZE * frame) (dword_bytes head) at (inr (omega arith)) ∙ h.others at less;
    }))
  where
    new : List ℕ
    new = put b1 (PAGE_SIZE * frame) (dword_bytes head)

-- with the head the memory lists them all
pub all_linked : (b b1 c : List ℕ) (head from to : ℕ) → HasBudget b → AllFree b → from ≡ BUDGET_FRAMES → to ≡ length b / PAGE_SIZE →
    Linking b b1 head from to → c ≡ put b1 FREE_LIST_HEAD (dword_bytes head) → HasFreeList c
all_linked b b1 c head from to budget free start end h e = grind (arith, between, dword_put, dword_put_other, idle, new, same_free)
  where
    new : List ℕ
    new = put b1 FREE_LIST_HEAD (dword_bytes head)

    long : length new ≡ length b
    long = length-put b1 FREE_LIST_HEAD (dword_bytes head) ∙ h.size

    between : (frame : ℕ) → IsFreeFrame new frame → IsBetween from to frame
    between frame is = grind (arith, long)

    idle : (frame : ℕ) → IsBetween from to frame → IsFreeFrame new frame
    idle frame is =
        let low = is.low in let high = is.high in
        let inside : PAGE_SIZE * frame + PAGE_SIZE ≤ length b = omega (arith, end, high) in
        let there : IsBudgetFrame b frame = record { from = omega arith; inside = inside } in
        let place = place_inside b frame budget there in
        let past = place.from in
        record {
          budget = record { from = there.from; inside = omega (arith, long, inside) };
          free = put_away b1 FREE_LIST_HEAD (dword_bytes head) (taken_place frame) (inl past) ∙ h.others (taken_place frame) place.to
              ∙ free frame there;
        }
