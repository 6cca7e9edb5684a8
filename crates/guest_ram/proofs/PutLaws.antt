-- What a run of bytes that is put changes, and what it leaves; a run that is put or taken byte by byte: one more byte, at its end or before
-- it.
use Rattle.std.proofs.Common.{◌≡◌, ℕ, ◌+◌, ◌⊎◌, inl, inr, add_assoc, ◌<◌, ◌≤◌, ◌≢◌, List, [], ◌∷◌, length, get_or, set, take, drop, refl}
use Rattle.std.proofs.Common.{ap, ◌∙◌, sym, arith, get_or-set_same, get_or-set_other, length-set, zero-add, suc, zero, ◌++◌, add-one}
use Rattle.std.proofs.{Common.{append_assoc, ◌*◌, ◌/◌, ◌%◌, replicate, add-zero}, lemmas.List.{drop-set-add, get_or-take, get_or-drop}}
use Rattle.std.proofs.lemmas.List.{length-take, length-drop, set_comm, replicate-append-replicate, length-replicate}
use Rattle.std.proofs.{lemmas.Grind.{same_number_lists}, lemmas.List.Edits.{sets, sets-eq}, Math.Seq.{drop-cons}}
use Rattle.guest_ram.specs.{Bytes.{put, region, dword, dword_bytes, AreBytes, word_of, with_word}, Listed.{copies}}

pub length-put : (b : List ℕ) (at : ℕ) (xs : List ℕ) → length (put b at xs) ≡ length b
length-put b at [] = refl
length-put b at (x ∷ xs) = length-put (set b at x) (at + 1) xs ∙ length-set b at x

put-sets : (b : List ℕ) (at : ℕ) (xs : List ℕ) → put b at xs ≡ sets b at xs
put-sets b at [] = refl
put-sets b at (x ∷ xs) = put-sets (set b at x) (at + 1) xs ∙ ap (λ (j : ℕ). sets (set b at x) j xs) (add-one at)

-- a run that is put is between what was before it and after it
pub put_is : (b : List ℕ) (at : ℕ) (xs : List ℕ) → at + length xs ≤ length b → put b at xs ≡ take at b ++ (xs ++ drop (at + length xs) b)
put_is b at xs room = put-sets b at xs ∙ sets-eq xs b at room ∙ append_assoc (take at b) xs (drop (at + length xs) b)

pub put_below : (b : List ℕ) (at : ℕ) (xs : List ℕ) (k : ℕ) → k < at → get_or (put b at xs) k 0 ≡ get_or b k 0
put_below b at [] k h = refl
put_below b at (x ∷ xs) k h =
    let ne : k ≢ at = omega arith in
    put_below (set b at x) (at + 1) xs k (omega arith) ∙ get_or-set_other b at k x 0 ne

pub put_above : (b : List ℕ) (at : ℕ) (xs : List ℕ) (k : ℕ) → at + length xs ≤ k → get_or (put b at xs) k 0 ≡ get_or b k 0
put_above b at [] k h = refl
put_above b at (x ∷ xs) k h =
    let ne : k ≢ at = omega arith in
    put_above (set b at x) (at + 1) xs k (omega arith) ∙ get_or-set_other b at k x 0 ne

pub put_within : (b : List ℕ) (at : ℕ) (xs : List ℕ) (i k : ℕ) → at + length xs ≤ length b → i < length xs → k ≡ at + i →
    get_or (put b at xs) k 0 ≡ get_or xs i 0
put_within b at [] i k room h e = absurd (omega arith)
put_within b at (x ∷ xs) zero k room h e =
    put_below (set b at x) (at + 1) xs k (omega arith) ∙ ap (λ (j : ℕ). get_or (set b at x) j 0) (let e' : k ≡ at = omega arith in e')
    ∙ get_or-set_same b at x 0 (omega arith)
put_within b at (x ∷ xs) (suc i) k room h e =
    put_within (set b at x) (at + 1) xs i k (omega (arith, length-set b at x)) (omega arith) (omega arith)

-- as many bytes as there are, put at the beginning, are all of them
pub put_all : (b xs : List ℕ) → length xs ≡ length b → put b 0 xs ≡ xs
put_all b xs size = grind (arith, length-put, put_within, same_number_lists)

pub length-region : (b : List ℕ) (lo n : ℕ) → lo + n ≤ length b → length (region b lo n) ≡ n
unfolding region
length-region b lo n h = omega (arith, length-take n (drop lo b), length-drop lo b)

pub at_region : (b : List ℕ) (lo n k : ℕ) → k < n → get_or (region b lo n) k 0 ≡ get_or b (lo + k) 0
unfolding region
at_region b lo n k h = get_or-take n (drop lo b) k 0 h ∙ get_or-drop lo b k 0

-- two memories of one length that agree from lo to lo + n have one region there
pub same_region : (b c : List ℕ) (lo n : ℕ) → length b ≡ length c → lo + n ≤ length b →
    ((k : ℕ) → lo ≤ k → k < lo + n → get_or b k 0 ≡ get_or c k 0) → region b lo n ≡ region c lo n
same_region b c lo n e room h = grind (arith, at_region, length-region, same_number_lists)

-- what is written below or above a region leaves it
pub region-put_below : (b : List ℕ) (at : ℕ) (xs : List ℕ) (lo n : ℕ) → at + length xs ≤ lo → lo + n ≤ length b →
    region (put b at xs) lo n ≡ region b lo n
region-put_below b at xs lo n h room = same_region (put b at xs) b lo n (length-put b at xs) (omega (arith, length-put b at xs))
    (λ k from to. put_above b at xs k (omega arith))

pub region-put_above : (b : List ℕ) (at : ℕ) (xs : List ℕ) (lo n : ℕ) → lo + n ≤ at → lo + n ≤ length b →
    region (put b at xs) lo n ≡ region b lo n
region-put_above b at xs lo n h room = same_region (put b at xs) b lo n (length-put b at xs) (omega (arith, length-put b at xs))
    (λ k from to. put_below b at xs k (omega arith))

region-set : (b : List ℕ) (lo n i x : ℕ) → i < n → region (set b (lo + i) x) lo n ≡ set (region b lo n) i x
unfolding region
region-set b lo n i x h = rw drop-set-add (take-set-in n (drop lo b) i x h)
  where
    take-set-in : (n : ℕ) (l : List ℕ) (i x : ℕ) → i < n → take n (set l i x) ≡ set (take n l) i x
    take-set-in zero l i x h = absurd (omega arith)
    take-set-in (suc n) [] i x h = refl
    take-set-in (suc n) (y ∷ l) zero x h = refl
    take-set-in (suc n) (y ∷ l) (suc i) x h = ap (λ (r : List ℕ). y ∷ r) (take-set-in n l i x (omega arith))

-- what is written within a region is written in the region
pub region-put : (b : List ℕ) (at : ℕ) (xs : List ℕ) (lo n i : ℕ) → at ≡ lo + i → i + length xs ≤ n →
    region (put b at xs) lo n ≡ put (region b lo n) i xs
region-put b at [] lo n i e h = refl
region-put b at (x ∷ xs) lo n i e h =
    region-put (set b at x) (at + 1) xs lo n (i + 1) (omega arith) (omega arith)
    ∙ ap (λ (r : List ℕ). put r (i + 1) xs) (ap (λ (j : ℕ). region (set b j x) lo n) e ∙ region-set b lo n i x (omega arith))

-- four bytes that are the same are the same doubleword
pub same_dword : (b c : List ℕ) (p q : ℕ) → ((i : ℕ) → i < 4 → get_or b (p + i) 0 ≡ get_or c (q + i) 0) → dword b p ≡ dword c q
unfolding dword
same_dword b c p q h = grind arith

pub dword-region : (b : List ℕ) (lo n k : ℕ) → k + 4 ≤ n → dword (region b lo n) k ≡ dword b (lo + k)
dword-region b lo n k h = same_dword (region b lo n) b k (lo + k) (λ i l.
    at_region b lo n (k + i) (omega arith) ∙ ap (λ (j : ℕ). get_or b j 0) (sym (add_assoc lo k i)))

pub dword_back : (v : ℕ) → dword (dword_bytes v) 0 ≡ v
unfolding dword
dword_back v = grind arith

-- a doubleword that was written is there
pub dword_put : (b : List ℕ) (p v : ℕ) → p + 4 ≤ length b → dword (put b p (dword_bytes v)) p ≡ v
dword_put b p v room = same_dword (put b p (dword_bytes v)) (dword_bytes v) p 0 (λ i l.
    put_within b p (dword_bytes v) i (p + i) room l refl ∙ ap (λ (k : ℕ). get_or (dword_bytes v) k 0) (sym (zero-add i)))
    ∙ dword_back v

-- and any other is as it was
pub dword_put_other : (b : List ℕ) (p q v : ℕ) → (p + 4 ≤ q) ⊎ (q + 4 ≤ p) → dword (put b p (dword_bytes v)) q ≡ dword b q
dword_put_other b p q v h = same_dword (put b p (dword_bytes v)) b q q (λ i l. elim h [
  | inl low ↦ put_above b p (dword_bytes v) (q + i) (omega arith)
  | inr high ↦ put_below b p (dword_bytes v) (q + i) (omega arith)
])

-- what is beside the bytes that are put is as it was
pub region-put_away : (b : List ℕ) (at : ℕ) (xs : List ℕ) (lo n : ℕ) → (at + length xs ≤ lo) ⊎ (lo + n ≤ at) → lo + n ≤ length b →
    region (put b at xs) lo n ≡ region b lo n
region-put_away b at xs lo n h room = grind (arith, region-put_above, region-put_below)

pub put_away : (b : List ℕ) (at : ℕ) (xs : List ℕ) (k : ℕ) → (at + length xs ≤ k) ⊎ (k < at) → get_or (put b at xs) k 0 ≡ get_or b k 0
put_away b at xs k h = grind (arith, put_above, put_below)

-- four bytes that are put one by one
pub put_four : (b : List ℕ) (at w x y z : ℕ) → set (set (set (set b at w) (at + 1) x) (at + 2) y) (at + 3) z ≡ put b at (w ∷ x ∷ y ∷ z ∷ [])
put_four b at w x y z = grind arith

-- ---- byte by byte

-- one more byte at the end
pub put-append_one : (b : List ℕ) (at : ℕ) (xs : List ℕ) (x : ℕ) → put b at (xs ++ x ∷ []) ≡ set (put b at xs) (at + length xs) x
put-append_one b at [] x = ap (λ (i : ℕ). set b i x) (sym (add-zero at))
put-append_one b at (y ∷ ys) x =
    let there : at + 1 + length ys ≡ at + suc (length ys) = omega arith in
    put-append_one (set b at y) (at + 1) ys x ∙ ap (λ (i : ℕ). set (put (set b at y) (at + 1) ys) i x) there

-- one more byte before it
pub put_before : (b : List ℕ) (at k : ℕ) (xs : List ℕ) (x : ℕ) → at < k → set (put b k xs) at x ≡ put (set b at x) k xs
put_before b at k [] x h = refl
put_before b at k (y ∷ ys) x h =
    let ne : k ≢ at = omega arith in
    put_before (set b k y) at (k + 1) ys x (omega arith) ∙ ap (λ (l : List ℕ). put l (k + 1) ys) (set_comm b k at y x ne)

take_more : (xs : List ℕ) (i : ℕ) → i < length xs → take (i + 1) xs ≡ take i xs ++ get_or xs i 0 ∷ []
take_more [] i h = absurd (omega arith)
take_more (x ∷ xs) zero h = refl
take_more (x ∷ xs) (suc i) h =
    let next : suc i + 1 ≡ suc (i + 1) = omega arith in
    ap (λ (k : ℕ). take k (x ∷ xs)) next ∙ ap (λ (l : List ℕ). x ∷ l) (take_more xs i (omega arith))

pub region_more : (b : List ℕ) (lo i : ℕ) → lo + i < length b → region b lo (i + 1) ≡ region b lo i ++ get_or b (lo + i) 0 ∷ []
unfolding region
region_more b lo i h =
    take_more (drop lo b) i (omega (arith, length-drop lo b)) ∙ ap (λ (x : ℕ). take i (drop lo b) ++ x ∷ []) (get_or-drop lo b i 0)

pub region_before : (b : List ℕ) (lo i : ℕ) → lo < length b → region b lo (i + 1) ≡ get_or b lo 0 ∷ region b (lo + 1) i
unfolding region
region_before b lo i h = grind (arith, add-one, drop-cons)

-- the run of one more byte that is put as it stands in the old list
pub moved_up : (b : List ℕ) (from to i : ℕ) → from + i < length b →
    set (put b to (region b from i)) (to + i) (get_or b (from + i) 0) ≡ put b to (region b from (i + 1))
moved_up b from to i h = grind (arith, length-region, put-append_one, region_more)

pub moved_down : (b : List ℕ) (from to i : ℕ) → from < length b →
    set (put b (to + 1) (region b (from + 1) i)) to (get_or b from 0) ≡ put b to (region b from (i + 1))
moved_down b from to i h = grind (arith, put_before, region_before)

pub copies_more : (b : List ℕ) (at i v : ℕ) → set (put b at (copies i v)) (at + i) v ≡ put b at (copies (i + 1) v)
unfolding copies
copies_more b at i v =
    ap (λ (k : ℕ). set (put b at (replicate i v)) (at + k) v) (sym (length-replicate i v))
    ∙ sym (put-append_one b at (replicate i v) v)
    ∙ ap (put b at) (replicate-append-replicate i 1 v)

pub no_copies : (b : List ℕ) (at v : ℕ) → put b at (copies 0 v) ≡ b
unfolding copies
no_copies b at v = refl

pub no_region : (b c : List ℕ) (at from : ℕ) → put b at (region c from 0) ≡ b
unfolding region
no_region b c at from = refl

pub taken_more : (b : List ℕ) (at : ℕ) (xs : List ℕ) (i : ℕ) → i < length xs →
    set (put b at (region xs 0 i)) (at + i) (get_or xs i 0) ≡ put b at (region xs 0 (i + 1))
taken_more b at xs i h = grind (arith, length-region, put-append_one, region_more)

pub all_taken : (xs : List ℕ) → region xs 0 (length xs) ≡ xs
unfolding region
all_taken [] = refl
all_taken (x ∷ xs) = ap (λ (l : List ℕ). x ∷ l) (all_taken xs)

pub no_bytes : (b : List ℕ) (at : ℕ) → region b at 0 ≡ []
unfolding region
no_bytes b at = refl

two_taken : (b : List ℕ) (at : ℕ) (xs : List ℕ) (i : ℕ) → i + 1 < length xs →
    set (set (put b at (region xs 0 i)) (at + i) (get_or xs i 0)) (at + i + 1) (get_or xs (i + 1) 0) ≡ put b at (region xs 0 (i + 2))
two_taken b at xs i h =
    let next : at + i + 1 ≡ at + (i + 1) = omega arith in let two : i + 1 + 1 ≡ i + 2 = omega arith in
    ap (λ (k : ℕ). set (set (put b at (region xs 0 i)) (at + i) (get_or xs i 0)) k (get_or xs (i + 1) 0)) next
    ∙ ap (λ (l : List ℕ). set l (at + (i + 1)) (get_or xs (i + 1) 0)) (taken_more b at xs i (omega arith))
    ∙ taken_more b at xs (i + 1) h ∙ ap (λ (k : ℕ). put b at (region xs 0 k)) two

-- a word of the run, put at once
pub word_more : (b : List ℕ) (at : ℕ) (xs : List ℕ) (i : ℕ) → AreBytes xs → i + 1 < length xs →
    with_word (put b at (region xs 0 i)) (at + i) (word_of xs i) ≡ put b at (region xs 0 (i + 2))
word_more b at xs i bytes h =
    let P = put b at (region xs 0 i) in
    let x = get_or xs i 0 in let y = get_or xs (i + 1) 0 in
    let xf : x < 0x100 = bytes i in let yf : y < 0x100 = bytes (i + 1) in
    let low : (x + 0x100 * y) % 0x100 ≡ x = omega arith in
    let high : (x + 0x100 * y) / 0x100 ≡ y = omega arith in
    ap (λ (v : ℕ). set (set P (at + i) v) (at + i + 1) ((x + 0x100 * y) / 0x100)) low
    ∙ ap (λ (v : ℕ). set (set P (at + i) x) (at + i + 1) v) high
    ∙ two_taken b at xs i h

-- and a doubleword
pub dword_more : (b : List ℕ) (at : ℕ) (xs : List ℕ) (i : ℕ) → AreBytes xs → i + 3 < length xs →
    put (put b at (region xs 0 i)) (at + i) (dword_bytes (dword xs i)) ≡ put b at (region xs 0 (i + 4))
unfolding dword
dword_more b at xs i bytes h =
    let P = put b at (region xs 0 i) in
    let w = get_or xs i 0 in let x = get_or xs (i + 1) 0 in let y = get_or xs (i + 2) 0 in let z = get_or xs (i + 3) 0 in
    let third : i + 2 + 1 ≡ i + 3 = omega arith in let four : i + 2 + 2 ≡ i + 4 = omega arith in
    let there : at + i + 2 ≡ at + (i + 2) = omega arith in let last : at + i + 3 ≡ at + (i + 2) + 1 = omega arith in
    ap (put P (at + i)) (bytes_back w x y z (bytes i) (bytes (i + 1)) (bytes (i + 2)) (bytes (i + 3)))
    ∙ sym (put_four P (at + i) w x y z)
    ∙ ap (λ (l : List ℕ). set (set l (at + i + 2) y) (at + i + 3) z) (two_taken b at xs i (omega arith))
    ∙ ap (λ (k : ℕ). set (set (put b at (region xs 0 (i + 2))) k y) (at + i + 3) z) there
    ∙ ap (λ (k : ℕ). set (set (put b at (region xs 0 (i + 2))) (at + (i + 2)) y) k z) last
    ∙ ap (λ (k : ℕ). set (set (put b at (region xs 0 (i + 2))) (at + (i + 2)) y) (at + (i + 2) + 1) (get_or xs k 0)) (sym third)
    ∙ two_taken b at xs (i + 2) (omega arith) ∙ ap (λ (k : ℕ). put b at (region xs 0 k)) four
  where
    bytes_back : (w x y z : ℕ) → w < 0x100 → x < 0x100 → y < 0x100 → z < 0x100 →
        dword_bytes (w + 0x100 * x + 0x10000 * y + 0x1000000 * z) ≡ w ∷ x ∷ y ∷ z ∷ []
    bytes_back w x y z wf xf yf zf = grind arith
