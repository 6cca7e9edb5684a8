-- What several puts, one after another, add to a sink, texts put so, and what several reads take from a file.
use Rattle.std.proofs.Common.{arith, ◌≡◌, ◌+◌, ◌-◌, ℕ, List, ◌++◌, length, take, drop, min, max, [], sym, ◌∙◌, ap, append_assoc, append-nil}
use Rattle.std.proofs.{Common.{subst, length-append, refl, ◌≤◌}, lemmas.Grind.{common_steps}, lemmas.List.{take-append-le}}
use Rattle.std.proofs.{lemmas.List.{take-append-drop, length-take-le}, Math.Seq.{take-append-add, take-add}}
use Rattle.dpmi_io.specs.{Causes.{greatest, Rose}, Content.{Shown, Bytes, Number, Nothing, gained, Gains, GainsPart, Gives}, Puts.{Puts}}
use Rattle.std.specs.{Prelude.{Result, Ok, Err, None, Some}, Result.{IsErr}, declared.option.Option.{Option}, Io.KnownBytes.{Consumes}}
use borrow.Rule.Slice.PartMut.{put_mid, post_of}

-- a sum that stays at its end, in two parts
number-append : (n x y : ℕ) →
    max (max n (min (n + x) greatest)) (min (max n (min (n + x) greatest) + y) greatest) ≡ max n (min (n + (x + y)) greatest)
number-append n x y = grind arith

number-none : (n : ℕ) → max n (min (n + 0) greatest) ≡ n
number-none n = grind arith

-- nothing taken changes nothing
pub gained-none : (shown : Shown) → shown ≡ gained shown []
gained-none (Bytes taken) = ap Bytes (sym (append-nil taken))
gained-none (Number taken) = ap Number (sym (number-none taken))
gained-none Nothing = refl

-- what is taken in two parts
pub gained-append : (shown : Shown) (xs ys : List ℕ) → gained (gained shown xs) ys ≡ gained shown (xs ++ ys)
gained-append (Bytes taken) xs ys = ap Bytes (append_assoc taken xs ys)
gained-append (Number taken) xs ys =
    ap Number (number-append taken (length xs) (length ys) ∙ ap (λ n. max taken (min (taken + n) greatest)) (sym (length-append xs ys)))
gained-append Nothing xs ys = refl

pub gains_then : (a b c : Shown) (xs ys : List ℕ) → Gains a b xs → Gains b c ys → Gains a c (xs ++ ys)
gains_then a b c xs ys g h = h ∙ ap (λ t. gained t ys) g ∙ gained-append a xs ys

-- a part of what follows, after all of what comes first
pub part_then : (a b c : Shown) (xs ys : List ℕ) → Gains a b xs → GainsPart b c ys → GainsPart a c (xs ++ ys)
part_then a b c xs ys g (n, le, h) = (
  length xs + n,
  omega (arith, length-append {A = ℕ}),
  subst (λ l. Gains a c l) (sym (take-append-add xs ys n)) (gains_then a b c xs (take n ys) g h),
)

-- a part of the first is a part of the whole
pub part_longer : (a b : Shown) (xs ys : List ℕ) → GainsPart a b xs → GainsPart a b (xs ++ ys)
part_longer a b xs ys (n, le, h) = (n, omega (arith, length-append {A = ℕ}), subst (λ l. Gains a b l) (sym (take-append-le n xs ys le)) h)

rest_whole : (xs : List ℕ) (d : ℕ) → take (length xs - d) (drop d xs) ≡ drop d xs
rest_whole xs d = grind (arith, common_steps)

-- one put more in a loop over the bytes of xs
pub gains_piece : (a b c : Shown) (xs : List ℕ) (d n : ℕ) → Gains a b (take d xs) →
    Gains b c (take n (take (length xs - d) (drop d xs))) → Gains a c (take (d + n) xs)
gains_piece a b c xs d n g h =
    let more : Gains b c (take n (drop d xs)) = subst (λ l. Gains b c (take n l)) (rest_whole xs d) h in
    subst (λ l. Gains a c l) (sym (take-add d n xs)) (gains_then a b c (take d xs) (take n (drop d xs)) g more)

-- a failed put in such a loop
pub part_piece : (a b c : Shown) (xs : List ℕ) (d : ℕ) → Gains a b (take d xs) →
    GainsPart b c (take (length xs - d) (drop d xs)) → GainsPart a c xs
part_piece a b c xs d g h =
    let more : GainsPart b c (drop d xs) = subst (λ l. GainsPart b c l) (rest_whole xs d) h in
    subst (λ l. GainsPart a c l) (take-append-drop d xs) (part_then a b c (take d xs) (drop d xs) g more)

-- a text that was put is any text that equals it
pub puts_text : {O A E : Type 0} {r : Result A E} {taken : O → Shown} {faults : O → ℕ} {a b : O} {bytes text : List ℕ} → bytes ≡ text →
    Puts r taken faults a b bytes → Puts r taken faults a b text
puts_text {r = r} {taken = taken} {faults = faults} {a = a} {b = b} is put = subst (λ t. Puts r taken faults a b t) is put

-- a call that failed, and what it put
pub puts_failed : {O A E : Type 0} {taken : O → Shown} {faults : O → ℕ} {a b : O} {text : List ℕ} (r : Result A E) → IsErr r →
    GainsPart (taken a) (taken b) text → Rose (faults a) (faults b) → Puts r taken faults a b text
puts_failed (Ok y) is part rose = cc
puts_failed (Err e) is part rose = record { whole = tt; part = part; quiet = tt; failed = rose }

-- a text that was put in a call that succeeds
pub puts_done : {O A E : Type 0} {x : A} {taken : O → Shown} {faults : O → ℕ} {a b : O} {text : List ℕ} →
    Gains (taken a) (taken b) text → faults b ≡ faults a → Puts {O = O} {A = A} {E = E} (Ok x) taken faults a b text
puts_done whole quiet = record { whole = whole; part = tt; quiet = quiet; failed = tt }

-- the same failure, as the caller returns it
pub puts_returned : {O A B E F : Type 0} {e : E} {taken : O → Shown} {faults : O → ℕ} {a b : O} {text : List ℕ} (r : Result B F) →
    IsErr r → Puts {O = O} {A = A} {E = E} (Err e) taken faults a b text → Puts r taken faults a b text
puts_returned r is put = puts_failed r is put.part put.failed

-- a text, and then another
pub puts_then : {O A B E F : Type 0} {x : A} {taken : O → Shown} {faults : O → ℕ} {a b c : O} {xs ys : List ℕ} (r : Result B F) →
    Puts {O = O} {A = A} {E = E} (Ok x) taken faults a b xs → Puts r taken faults b c ys → Puts r taken faults a c (xs ++ ys)
puts_then {xs = xs} {ys = ys} (Ok y) first next = record {
  whole = gains_then _ _ _ xs ys first.whole next.whole;
  part = tt;
  quiet = next.quiet ∙ first.quiet;
  failed = tt;
}
puts_then {faults = faults} {c = c} {xs = xs} {ys = ys} (Err e) first next = record {
  whole = tt;
  part = part_then _ _ _ xs ys first.whole next.part;
  quiet = tt;
  failed = subst (λ from. Rose from (faults c)) first.quiet next.failed;
}

-- the first of two texts failed
pub puts_cut : {O A B E F : Type 0} {e : E} {taken : O → Shown} {faults : O → ℕ} {a b : O} {xs : List ℕ} (ys : List ℕ) (r : Result B F) →
    IsErr r → Puts {O = O} {A = A} {E = E} (Err e) taken faults a b xs → Puts r taken faults a b (xs ++ ys)
puts_cut {xs = xs} ys r is first = puts_failed r is (part_longer _ _ xs ys first.part) first.failed

-- the first of three texts failed
pub puts_cut_early : {O A B E F : Type 0} {e : E} {taken : O → Shown} {faults : O → ℕ} {a b : O} {xs : List ℕ} (ys zs : List ℕ)
    (r : Result B F) → IsErr r → Puts {O = O} {A = A} {E = E} (Err e) taken faults a b xs → Puts r taken faults a b ((xs ++ ys) ++ zs)
puts_cut_early {xs = xs} ys zs r is first = puts_failed r is (part_longer _ _ (xs ++ ys) zs (part_longer _ _ xs ys first.part)) first.failed

consumes_then : (a b c : Option (List ℕ)) (xs ys : List ℕ) → Consumes a b xs → Gives b c ys → Consumes a c (xs ++ ys)
consumes_then None b c xs ys g h = tt
consumes_then (Some a) None c xs ys g h = absurd g
consumes_then (Some a) (Some b) None xs ys g h = absurd h
consumes_then (Some a) (Some b) (Some c) xs ys g h = g ∙ ap (λ l. xs ++ l) h.0 ∙ sym (append_assoc xs ys c)

front : (a p q : List ℕ) (d n : ℕ) → length a ≡ d → n ≤ length p → take (d + n) (a ++ (p ++ q)) ≡ a ++ take n p
front a p q d n is le =
    subst (λ m. take (m + n) (a ++ (p ++ q)) ≡ a ++ take n p) is (take-append-add a (p ++ q) n ∙ ap (λ l. a ++ l) (take-append-le n p q le))

put_piece : (buf part : List ℕ) (d n : ℕ) → d ≤ length buf → n ≤ length part →
    take (d + n) (put_mid d (length buf - d) buf part) ≡ take d buf ++ take n part
put_piece buf part d n le lt = front (take d buf) part (post_of d (length buf - d) buf) d n (length-take-le d buf le) lt

-- one read more
pub consumes_piece : (a b c : Option (List ℕ)) (buf part : List ℕ) (d n : ℕ) → d ≤ length buf → n ≤ length part →
    Consumes a b (take d buf) → Gives b c (take n part) → Consumes a c (take (d + n) (put_mid d (length buf - d) buf part))
consumes_piece a b c buf part d n le lt g h =
    subst (λ l. Consumes a c l) (sym (put_piece buf part d n le lt)) (consumes_then a b c (take d buf) (take n part) g h)

-- the bytes that a read puts into a buffer, and those that are then left
pub given_rest : (bytes buf copied : List ℕ) (at n : ℕ) → n ≤ length (drop at bytes) → copied ≡ take n (drop at bytes) →
    drop at bytes ≡ take n (copied ++ drop n buf) ++ drop (at + n) bytes
given_rest bytes buf copied at n le was = let parts = take-append-drop n (drop at bytes) in grind (arith, common_steps)
