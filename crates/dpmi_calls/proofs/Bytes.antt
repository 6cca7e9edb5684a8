-- What is seen at a place, by whether the client may read there; and bytes put into a part of a list.
use Rattle.std.proofs.Common.{arith, ◌≡◌, ◌∙◌, ◌+◌, ◌-◌, ◌*◌, ◌<◌, ◌≤◌, ◌++◌, ℕ, Bool, true, false, List, ap, sym, subst, inl, inr, add-one}
use Rattle.std.proofs.{Common.{length, take}, Math.Nat.{eq-or-lt_of_le, mul-le-mul_right, suc-mul}, lemmas.List.{get_or-append-add}}
use Rattle.std.proofs.lemmas.List.{get_or-take, get_or_append_left, length-take-le}
use Rattle.std.specs.Prelude.{◌⊎◌, if◌then◌else◌, slice_index}
use borrow.Rule.Slice.PartMut.{post_of, put_mid}
use Rattle.client_world.specs.{Access.{byte_of, may_touch, place_of}, World.{World}}
use Rattle.dpmi_calls.specs.{Memory.{seen}, declared.memory.TheConstants.{NOT_THERE}}

by_right : World → ℕ → Bool → ℕ
by_right w linear may = if may then byte_of w (place_of w linear) else NOT_THERE

pub there : (w : World) (linear b : ℕ) → may_touch (place_of w linear) false ≡ true → b ≡ byte_of w (place_of w linear) → b ≡ seen w linear
unfolding by_right
there w linear b may is = is ∙ sym (ap (by_right w linear) may)

pub not_there : (w : World) (linear : ℕ) → may_touch (place_of w linear) false ≡ false → NOT_THERE ≡ seen w linear
unfolding by_right
not_there w linear may = sym (ap (by_right w linear) may)

-- ---- rows of numbers, one after another

-- a number in a row before another one
before : (k i j count : ℕ) → k < i → j < count → k * count + j < i * count
before k i j count lt few =
    let next : (k + 1) * count ≤ i * count = mul-le-mul_right count (omega (arith, lt)) in
    let split : (k + 1) * count ≡ k * count + count = rw add-one (suc-mul k count) in
    omega (arith, next, split, few)

put_below : (a k n : ℕ) (xs ys : List ℕ) → n < a → a ≤ length xs → slice_index (put_mid a k xs ys) n ≡ slice_index xs n
put_below a k n xs ys lt le =
    get_or_append_left (take a xs) (ys ++ post_of a k xs) 0 n (rw (length-take-le a xs le) lt) ∙ get_or-take a xs n 0 lt

put_inside : (a k j : ℕ) (xs ys : List ℕ) → j < length ys → a ≤ length xs → slice_index (put_mid a k xs ys) (a + j) ≡ slice_index ys j
put_inside a k j xs ys lt le =
    subst (λ n. slice_index (put_mid a k xs ys) (n + j) ≡ slice_index ys j) (length-take-le a xs le)
    (get_or-append-add (take a xs) (ys ++ post_of a k xs) j 0 ∙ get_or_append_left ys (post_of a k xs) 0 j lt)

-- one more row is put
pub one_more_row : (memory row : List ℕ) (count i size k j : ℕ) (f : ℕ → ℕ → ℕ) → i * count + size ≤ length memory → length row ≡ count →
    ((m n : ℕ) → m < i → n < count → slice_index memory (m * count + n) ≡ f m n) →
    ((n : ℕ) → n < count → slice_index row n ≡ f i n) → k < i + 1 → j < count →
    slice_index (put_mid (i * count) size memory row) (k * count + j) ≡ f k j
one_more_row memory row count i size k j f room whole old new lt few = by (eq-or-lt_of_le (omega (arith, lt)))
  where
    by : (k ≡ i) ⊎ (k < i) → slice_index (put_mid (i * count) size memory row) (k * count + j) ≡ f k j
    by (inl same) =
        subst (λ m. slice_index (put_mid (i * count) size memory row) (m * count + j) ≡ f m j) (sym same)
        (put_inside (i * count) size j memory row (rw whole few) (omega (arith, room)) ∙ new j few)
    by (inr less) =
        put_below (i * count) size (k * count + j) memory row (before k i j count less few) (omega (arith, room)) ∙ old k j less few

-- a row lies within the numbers of all of them
pub room_of_row : (i all count numbers : ℕ) → i < all → numbers ≡ all * count → i * count + ((i + 1) * count - i * count) ≤ numbers
room_of_row i all count numbers lt is =
    let this : i * count ≤ (i + 1) * count = mul-le-mul_right count (omega arith) in
    let last : (i + 1) * count ≤ all * count = mul-le-mul_right count (omega (arith, lt)) in
    omega (arith, this, last, is)
