-- Lines written one after another, of which one more is counted, and a list read byte by byte, in pieces.
use Rattle.std.proofs.Common.{arith, ◌≡◌, ◌<◌, ◌+◌, ℕ, Bool, cond, true, false, List, length, take, get_or, refl, ◌-◌, zero, suc, ◌++◌, sym}
use Rattle.std.proofs.{Common.{subst, add-one, ◌≤◌, ◌*◌, drop, ◌∙◌, ap, length-drop}, lemmas.List.Sums.{count_by_more_yes}}
use Rattle.std.proofs.{lemmas.List.Sums.{count_by_more_no}, lemmas.Option.{slice_get-get_or}, lemmas.List.{ext_get_or, get_or-take}}
use Rattle.std.proofs.{lemmas.List.{get_or-drop, length-take-le, get_or-set_other}, lemmas.Grind.{get_or-set_at}, Math.Seq.{take-add}}
use Rattle.std.specs.{Prelude.{IfSome, count_by, slice_get, Result, Err, slice_set}, Result.{IsErr}}
use Rattle.client_world.specs.{declared.trace.TraceLine.{TraceLine}, declared.trace.TraceLine.TheVariants.{Int20}}
use Rattle.dpmi_io.specs.{Causes.{Rose}, Content.{Shown, Gains, GainsPart}, Puts.{Puts}}
use Rattle.dpmi_io.proofs.Output.{gained-none, gains_then, part_then, part_longer, puts_failed}
use Rattle.dpmi_report.specs.Rows.{up_to}

pub counted : (f : TraceLine → Bool) (kept : List TraceLine) (i n count : ℕ) → i < length kept →
    IfSome (slice_get kept i) (λ event. n ≡ cond (f event) 1 0) → count ≡ count_by f (take i kept) →
    count + n ≡ count_by f (take (i + 1) kept)
counted f kept i n count lt one so_far =
    let is : n ≡ cond (f (get_or kept i Int20)) 1 0 = rw (slice_get-get_or kept i Int20 lt) at one in
    go (f (get_or kept i Int20)) refl is
  where
    go : (b : Bool) → f (get_or kept i Int20) ≡ b → n ≡ cond b 1 0 → count + n ≡ count_by f (take (i + 1) kept)
    go true holds h = let more = count_by_more_yes f kept i Int20 lt holds in omega (arith, h, so_far, more)
    go false fails h = let more = count_by_more_no f kept i Int20 lt fails in omega (arith, h, so_far, more)

up_to_next : (f : ℕ → List ℕ) (n : ℕ) → up_to f (n + 1) ≡ up_to f n ++ f n
unfolding up_to
up_to_next f n = rw add-one refl

-- nothing is gained at the start
pub gains_none : (f : ℕ → List ℕ) (a : Shown) → Gains a a (up_to f 0)
unfolding up_to
gains_none f a = gained-none a

-- one line more
pub row_gained : (f : ℕ → List ℕ) (n : ℕ) (a b c : Shown) → Gains a b (up_to f n) → Gains b c (f n) → Gains a c (up_to f (n + 1))
row_gained f n a b c g h = subst (λ l. Gains a c l) (sym (up_to_next f n)) (gains_then a b c (up_to f n) (f n) g h)

longer : (f : ℕ → List ℕ) (n more : ℕ) (a b : Shown) → GainsPart a b (up_to f n) → GainsPart a b (up_to f (n + more))
longer f n zero a b p = subst (λ m. GainsPart a b (up_to f m)) (omega arith) p
longer f n (suc m) a b p =
    let one : GainsPart a b (up_to f (n + m + 1)) = subst (λ l. GainsPart a b l) (sym (up_to_next f (n + m)))
    (part_longer a b (up_to f (n + m)) (f (n + m)) (longer f n m a b p)) in
    subst (λ k. GainsPart a b (up_to f k)) (omega arith) one

-- a line that failed
pub row_failed : (f : ℕ → List ℕ) (n total : ℕ) (a b c : Shown) → n < total → Gains a b (up_to f n) → GainsPart b c (f n) →
    GainsPart a c (up_to f total)
row_failed f n total a b c lt g h =
    let one : GainsPart a c (up_to f (n + 1)) =
    subst (λ l. GainsPart a c l) (sym (up_to_next f n)) (part_then a b c (up_to f n) (f n) g h) in
    subst (λ k. GainsPart a c (up_to f k)) (omega arith) (longer f (n + 1) (total - (n + 1)) a c one)

-- a row failed, after others
pub row_cut : {O A B E F : Type 0} {e : E} {taken : O → Shown} {faults : O → ℕ} {a b c : O} (f : ℕ → List ℕ) (n total : ℕ)
    (r : Result B F) → IsErr r → n < total →
    Gains (taken a) (taken b) (up_to f n) → faults b ≡ faults a → Puts {O = O} {A = A} {E = E} (Err e) taken faults b c (f n) →
    Puts r taken faults a c (up_to f total)
row_cut {faults = faults} {c = c} f n total r is lt so_far same row =
    puts_failed r is (row_failed f n total _ _ _ lt so_far row.part) (subst (λ from. Rose from (faults c)) same row.failed)

-- one byte more
pub byte_more : (xs ys : List ℕ) (at i b : ℕ) → i < length xs → ((k : ℕ) → k < i → get_or xs k 0 ≡ get_or ys (at + k) 0) →
    b ≡ get_or ys (at + i) 0 → (k : ℕ) → k < i + 1 → get_or (slice_set xs i b) k 0 ≡ get_or ys (at + k) 0
byte_more xs ys at i b within each is k lt = grind (arith, get_or-set_at, get_or-set_other, each, is)

pub piece_is : (xs ys : List ℕ) (at : ℕ) → length xs ≡ 64 → at + 64 ≤ length ys →
    ((k : ℕ) → k < 64 → get_or xs k 0 ≡ get_or ys (at + k) 0) → xs ≡ take 64 (drop at ys)
piece_is xs ys at len fits each =
    let whole : length (take 64 (drop at ys)) ≡ 64 = length-take-le 64 (drop at ys) (omega (arith, length-drop at ys)) in
    ext_get_or 0 xs (take 64 (drop at ys)) (len ∙ sym whole) (λ k lt.
    let below : k < 64 = omega arith in
    each k below ∙ sym (get_or-take 64 (drop at ys) k 0 below ∙ get_or-drop at ys k 0))

pub piece_more : (ys : List ℕ) (i : ℕ) → take (i * 64) ys ++ take 64 (drop (i * 64) ys) ≡ take ((i + 1) * 64) ys
piece_more ys i = let sum : (i + 1) * 64 ≡ i * 64 + 64 = omega arith in sym (ap (λ n. take n ys) sum ∙ take-add (i * 64) 64 ys)
