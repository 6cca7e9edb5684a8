-- The words in turn.
use Rattle.std.proofs.Common.{◌≡◌, ◌≤◌, ◌<◌, ◌+◌, ◌∙◌, ℕ, List, [], ◌∷◌, map, drop, length, refl, sym, ap, drop-cons, add-one, suc}
use Rattle.std.proofs.lemmas.List.{drop_all}
use Rattle.std.specs.{List.{fold, slice_index_or}, declared.option.Option.{Option}, Prelude.{option_and_then, Some}}
use Rattle.dpmi_words.specs.Reading.{Text, Reading, reads, step}

pub reads_none : (names : List Text) (r : Reading) → reads names [] r ≡ Some r
unfolding reads
reads_none names r = refl

pub reads_more : (names : List Text) (word : Text) (rest : List Text) (r : Reading) →
    reads names (word ∷ rest) r ≡ option_and_then (reads names rest) (step names word r)
unfolding reads
reads_more names word rest r = refl

-- one word of a list
pub word_taken : {X : Type 0} (names : List Text) (f : X → Text) (xs : List X) (i : ℕ) (x : X) (whole o : Option Reading) (r : Reading) →
    i < length xs → x ≡ slice_index_or xs i x →
    step names (f x) r ≡ o → whole ≡ reads names (map f (drop i xs)) r → whole ≡ option_and_then (reads names (map f (drop (i + 1) xs))) o
word_taken names f xs i x whole o r lt is taken so_far =
    let here : drop i xs ≡ x ∷ drop (i + 1) xs = rw add-one (drop-cons xs i x lt ∙ ap (λ y. y ∷ drop (suc i) xs) (sym is)) in
    so_far ∙ ap (λ l. reads names (map f l) r) here ∙ reads_more names (f x) (map f (drop (i + 1) xs)) r
    ∙ ap (λ p. option_and_then (reads names (map f (drop (i + 1) xs))) p) taken

-- all the words
pub words_done : {X : Type 0} (names : List Text) (f : X → Text) (xs : List X) (i : ℕ) (whole : Option Reading) (r : Reading) →
    length xs ≤ i → whole ≡ reads names (map f (drop i xs)) r → whole ≡ Some r
words_done names f xs i whole r le so_far = so_far ∙ ap (λ l. reads names (map f l) r) (drop_all i xs le) ∙ reads_none names r

-- one more step of a fold over a list
pub step_folded : {A X : Type 0} (add : A → Text → A) (f : X → Text) (xs : List X) (i : ℕ) (d : X) (whole before after : A) →
    i < length xs → after ≡ add before (f (slice_index_or xs i d)) → whole ≡ fold add before (map f (drop i xs)) →
    whole ≡ fold add after (map f (drop (i + 1) xs))
step_folded add f xs i d whole before after lt added so_far =
    let here : drop i xs ≡ slice_index_or xs i d ∷ drop (i + 1) xs = rw add-one (drop-cons xs i d lt) in
    so_far ∙ ap (λ l. fold add before (map f l)) here ∙ ap (λ a. fold add a (map f (drop (i + 1) xs))) (sym added)
