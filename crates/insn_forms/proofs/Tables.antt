-- The static tables have the rows of the maps.
use Rattle.std.proofs.Common.{◌≡◌, ℕ, zero, suc, ◌+◌, ◌<◌, true, false, List, [], ◌∷◌, get_or, map, eqb, refl, sym, ap, ◌∙◌, arith}
use Rattle.std.proofs.{lemmas.List.{get_or-map}, lemmas.Bool.{eq-eqb, ne_eqb}}
use Rattle.insn_forms.specs.{declared.rows.Row.{Row}, declared.rows.Form.TheVariants.{Empty}, declared.rows.OpMap.TheVariants.{One, Two}}
use Rattle.insn_forms.specs.OpcodeMap.{no_row, pick, opcode_row, row_one, row_two, map_one_00, map_one_20, map_one_40, map_one_60}
use Rattle.insn_forms.specs.OpcodeMap.{map_one_80, map_one_a0, map_one_c0, map_one_e0, map_two_00, map_two_80, map_two_a0, arithmetic}
use Rattle.insn_forms.specs.OpcodeMap.{shifts, unary_group, alone, group_8c, group_8e, group_fe, group_ff, group_0f00, group_0f01}
use Rattle.insn_forms.specs.{OpcodeMap.{group_0fba}, declared.rows.Slot.{Slot}, declared.maps.TheConstants.{ONE_BYTE_MAP, TWO_BYTE_MAP}}
use Rattle.insn_forms.specs.Slots.{row_in, has_rows}

-- f i, f (i + 1), .., n of them
abbrev listed : {A : Type 0} → (ℕ → A) → ℕ → ℕ → List A
listed f i zero = []
listed f i (suc n) = f i ∷ listed f (suc i) n

listed_at : {A : Type 0} (f : ℕ → A) (i n k : ℕ) (d : A) → k < n → get_or (listed f i n) k d ≡ f (i + k)
listed_at f i zero k d lt = absurd (omega arith)
listed_at f i (suc n) zero d lt = ap f (omega arith)
listed_at f i (suc n) (suc k) d lt = listed_at f (suc i) n k d (omega (arith, lt)) ∙ ap f (omega arith)

one_rows : map row_in ONE_BYTE_MAP ≡ listed (opcode_row One) 0 256
unfolding opcode_row row_one row_two map_one_00 map_one_20 map_one_40 map_one_60 map_one_80 map_one_a0 map_one_c0 map_one_e0 map_two_00
    map_two_80 map_two_a0 arithmetic shifts unary_group alone group_8c group_8e group_fe group_ff group_0f00 group_0f01 group_0fba
one_rows = refl

two_rows : map row_in TWO_BYTE_MAP ≡ listed (opcode_row Two) 0 256
unfolding opcode_row row_one row_two map_one_00 map_one_20 map_one_40 map_one_60 map_one_80 map_one_a0 map_one_c0 map_one_e0 map_two_00
    map_two_80 map_two_a0 arithmetic shifts unary_group alone group_8c group_8e group_fe group_ff group_0f00 group_0f01 group_0fba
two_rows = refl

pub row_one_is : (k : ℕ) (d : Slot) → k < 256 → row_in (get_or ONE_BYTE_MAP k d) ≡ opcode_row One k
row_one_is k d lt =
    sym (get_or-map row_in ONE_BYTE_MAP k d (opcode_row One 0) lt)
    ∙ ap (λ l. get_or l k (opcode_row One 0)) one_rows
    ∙ listed_at (opcode_row One) 0 256 k (opcode_row One 0) lt
    ∙ ap (opcode_row One) (omega arith)

pub row_two_is : (k : ℕ) (d : Slot) → k < 256 → row_in (get_or TWO_BYTE_MAP k d) ≡ opcode_row Two k
row_two_is k d lt =
    sym (get_or-map row_in TWO_BYTE_MAP k d (opcode_row Two 0) lt)
    ∙ ap (λ l. get_or l k (opcode_row Two 0)) two_rows
    ∙ listed_at (opcode_row Two) 0 256 k (opcode_row Two 0) lt
    ∙ ap (opcode_row Two) (omega arith)

one_has : map has_rows ONE_BYTE_MAP ≡ listed (λ k. true) 0 256
one_has = refl

two_has : map has_rows TWO_BYTE_MAP ≡ listed (λ k. true) 0 256
two_has = refl

pub one_has_rows : (k : ℕ) (d : Slot) → k < 256 → has_rows (get_or ONE_BYTE_MAP k d) ≡ true
one_has_rows k d lt =
    sym (get_or-map has_rows ONE_BYTE_MAP k d true lt)
    ∙ ap (λ l. get_or l k true) one_has
    ∙ listed_at (λ k. true) 0 256 k true lt

pub two_has_rows : (k : ℕ) (d : Slot) → k < 256 → has_rows (get_or TWO_BYTE_MAP k d) ≡ true
two_has_rows k d lt =
    sym (get_or-map has_rows TWO_BYTE_MAP k d true lt)
    ∙ ap (λ l. get_or l k true) two_has
    ∙ listed_at (λ k. true) 0 256 k true lt

picked_from : (i n : ℕ) (rows : List Row) → get_or rows n (no_row Empty Empty) ≡ pick i rows (i + n)
picked_from i n [] = refl
picked_from i zero (r ∷ rs) = let e : eqb (i + 0) i ≡ true = eq-eqb (i + 0) i (omega arith) in rw e refl
picked_from i (suc n) (r ∷ rs) =
    let e : eqb (i + suc n) i ≡ false = ne_eqb (i + suc n) i (λ q. omega (arith, q)) in
    let s : i + suc n ≡ suc i + n = omega arith in
    rw e (picked_from (suc i) n rs ∙ ap (pick (suc i) rs) (sym s))

-- a row is picked by its place
pub picked : (n : ℕ) (rows : List Row) → get_or rows n (no_row Empty Empty) ≡ pick 0 rows n
picked n rows = picked_from 0 n rows ∙ ap (pick 0 rows) (omega arith)
