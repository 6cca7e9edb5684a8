-- What a test finds of each line of a map it finds of each row, and what it finds of each row's forms it finds of what
-- they denote.
use Rattle.std.proofs.Common.{◌≡◌, ℕ, zero, suc, ◌+◌, ◌%◌, ◌<◌, Bool, true, false, ◌&&◌, ◌||◌, not, List, [], ◌∷◌, refl, ap, ◌∙◌, arith}
use Rattle.std.proofs.{Common.{inl, inr}, lemmas.Bool.{cond_both, and_parts, cases_eq}}
use Rattle.std.specs.Prelude.{nat_le, nat_lt, ◌==◌}
use Rattle.insn_forms.specs.{declared.rows.OpMap.{OpMap}, declared.rows.OpMap.TheVariants.{One, Two}, declared.rows.Form.{Form}}
use Rattle.insn_forms.specs.{declared.rows.Row.{Row}, OpcodeMap.{Line, at, span, six, conditions, group, pick, look, no_row, usual_rows}}
use Rattle.insn_forms.specs.OpcodeMap.{opcode_row, row_one, row_two, map_one_00, map_one_20, map_one_40, map_one_60, map_one_80, map_one_a0}
use Rattle.insn_forms.specs.OpcodeMap.{map_one_c0, map_one_e0, map_two_00, map_two_80, map_two_a0, arithmetic, shifts, unary_group, alone}
use Rattle.insn_forms.specs.{OpcodeMap.{group_8c, group_8e, group_fe, group_ff, group_0f00, group_0f01, group_0fba}, Operands.{op_of}}
use Rattle.insn_forms.specs.{Operands.{has_op, row_width}, Kinds.{Kind, nothing, register, segment, memory, immediate, far, operation}}
use Rattle.insn_forms.specs.Kinds.{suits, has_good_number, is_wide_only}
use Rattle.insn_forms.specs.declared.rows.Form.TheVariants as forms

-- ---- tests of maps

-- the test holds at each number below n
abbrev all_below : ℕ → (ℕ → Bool) → Bool
all_below zero f = true
all_below (suc n) f = f n && all_below n f

below : (n : ℕ) (f : ℕ → Bool) (k : ℕ) → k < n → all_below n f ≡ true → f k ≡ true
below zero f k lt e = absurd (omega (arith, lt))
below (suc n) f k lt e =
    let p = and_parts (f n) (all_below n f) e in
    elim (cases_eq k n) [
      | inl same ↦ ap f same ∙ p.0
      | inr other ↦ below n f k (omega (arith, lt, other)) p.1
    ]

abbrev every_row : (Row → Bool) → List Row → Bool
every_row p [] = p (no_row forms.Empty forms.Empty)
every_row p (r ∷ rs) = p r && every_row p rs

abbrev every_line : (Row → Bool) → List Line → Bool
every_line p [] = p (no_row forms.Empty forms.Empty)
every_line p (at n r ∷ ls) = p r && every_line p ls
every_line p (span low high r ∷ ls) = p r && every_line p ls
every_line p (six low op ∷ ls) = every_row p (usual_rows op) && every_line p ls
every_line p (conditions low r ∷ ls) = all_below 16 (λ n. p (r n)) && every_line p ls
every_line p (group n rows ∷ ls) = every_row p rows && every_line p ls

Passes : (Row → Bool) → Row → Type 0
Passes p r = p r ≡ true

pick_passes : (p : Row → Bool) (i : ℕ) (rs : List Row) (n : ℕ) → every_row p rs ≡ true → p (pick i rs n) ≡ true
unfolding Passes
pick_passes p i [] n e = e
pick_passes p i (r ∷ rs) n e =
    let s = and_parts (p r) (every_row p rs) e in
    cond_both (n == i) r (pick (suc i) rs n) (Passes p) (λ _. s.0) (λ _. pick_passes p (suc i) rs n s.1)

look_passes : (p : Row → Bool) (ls : List Line) (opcode reg : ℕ) → every_line p ls ≡ true → p (look ls opcode reg) ≡ true
unfolding Passes
look_passes p [] opcode reg e = e
look_passes p (at n r ∷ ls) opcode reg e =
    let s = and_parts (p r) (every_line p ls) e in
    cond_both (opcode == n) r (look ls opcode reg) (Passes p) (λ _. s.0) (λ _. look_passes p ls opcode reg s.1)
look_passes p (span low high r ∷ ls) opcode reg e =
    let s = and_parts (p r) (every_line p ls) e in
    cond_both (nat_le low opcode && nat_le opcode high) r (look ls opcode reg) (Passes p) (λ _. s.0)
    (λ _. look_passes p ls opcode reg s.1)
look_passes p (six low op ∷ ls) opcode reg e =
    let s = and_parts (every_row p (usual_rows op)) (every_line p ls) e in
    cond_both (nat_le low opcode && nat_le opcode (low + 5)) (pick 0 (usual_rows op) (opcode % 8)) (look ls opcode reg)
    (Passes p)
    (λ _. pick_passes p 0 (usual_rows op) (opcode % 8) s.0) (λ _. look_passes p ls opcode reg s.1)
look_passes p (conditions low r ∷ ls) opcode reg e =
    let s = and_parts (all_below 16 (λ n. p (r n))) (every_line p ls) e in
    cond_both (nat_le low opcode && nat_le opcode (low + 15)) (r (opcode % 16)) (look ls opcode reg) (Passes p)
    (λ _. below 16 (λ n. p (r n)) (opcode % 16) (omega arith) s.0) (λ _. look_passes p ls opcode reg s.1)
look_passes p (group n rows ∷ ls) opcode reg e =
    let s = and_parts (every_row p rows) (every_line p ls) e in
    cond_both (opcode == n) (pick 0 rows reg) (look ls opcode reg) (Passes p) (λ _. pick_passes p 0 rows reg s.0)
    (λ _. look_passes p ls opcode reg s.1)

-- ---- the test of a row

-- the kinds that a form's operand may have
abbrev pub kinds : Form → List Kind
kinds forms.Eb = register ∷ memory ∷ []
kinds forms.Ew = register ∷ memory ∷ []
kinds forms.Ev = register ∷ memory ∷ []
kinds forms.RvMw = register ∷ memory ∷ []
kinds forms.Gb = register ∷ []
kinds forms.Gw = register ∷ []
kinds forms.Gv = register ∷ []
kinds forms.Al = register ∷ []
kinds forms.Ax = register ∷ []
kinds forms.Cl = register ∷ []
kinds forms.Dx = register ∷ []
kinds forms.Zb = register ∷ []
kinds forms.Zv = register ∷ []
kinds forms.Sw = segment ∷ []
kinds forms.SegEs = segment ∷ []
kinds forms.SegCs = segment ∷ []
kinds forms.SegSs = segment ∷ []
kinds forms.SegDs = segment ∷ []
kinds forms.SegFs = segment ∷ []
kinds forms.SegGs = segment ∷ []
kinds forms.M = memory ∷ []
kinds forms.Ob = memory ∷ []
kinds forms.Ov = memory ∷ []
kinds forms.Const1 = immediate ∷ []
kinds forms.Ib = immediate ∷ []
kinds forms.Iw = immediate ∷ []
kinds forms.Iz = immediate ∷ []
kinds forms.Is = immediate ∷ []
kinds forms.Jb = immediate ∷ []
kinds forms.Jz = immediate ∷ []
kinds forms.Ip = far ∷ []
kinds _ = nothing ∷ []

abbrev pub all_of : (Kind → Bool) → List Kind → Bool
all_of p [] = true
all_of p (k ∷ ks) = p k && all_of p ks

-- whatever the forms denote, it suits the operation, and the width is one that the operation has
abbrev pub row_suits : Row → Bool
row_suits r =
    not (has_op r)
    || (all_of (λ a. all_of (λ b. all_of (λ c. suits (op_of r) a b c) (kinds r.third)) (kinds r.second)) (kinds r.first)
    && (has_good_number (op_of r)
    && ((not (is_wide_only (op_of r)) || not (row_width true r.first r.second == 8))
    && (not (is_wide_only (op_of r)) || not (row_width false r.first r.second == 8)))))

suits_one_00 : every_line row_suits map_one_00 ≡ true
unfolding map_one_00 arithmetic shifts unary_group alone group_8c group_8e group_fe group_ff group_0f00 group_0f01 group_0fba operation
suits_one_00 = refl

suits_one_20 : every_line row_suits map_one_20 ≡ true
unfolding map_one_20 arithmetic shifts unary_group alone group_8c group_8e group_fe group_ff group_0f00 group_0f01 group_0fba operation
suits_one_20 = refl

suits_one_40 : every_line row_suits map_one_40 ≡ true
unfolding map_one_40 arithmetic shifts unary_group alone group_8c group_8e group_fe group_ff group_0f00 group_0f01 group_0fba operation
suits_one_40 = refl

suits_one_60 : every_line row_suits map_one_60 ≡ true
unfolding map_one_60 arithmetic shifts unary_group alone group_8c group_8e group_fe group_ff group_0f00 group_0f01 group_0fba operation
suits_one_60 = refl

suits_one_80 : every_line row_suits map_one_80 ≡ true
unfolding map_one_80 arithmetic shifts unary_group alone group_8c group_8e group_fe group_ff group_0f00 group_0f01 group_0fba operation
suits_one_80 = refl

suits_one_a0 : every_line row_suits map_one_a0 ≡ true
unfolding map_one_a0 arithmetic shifts unary_group alone group_8c group_8e group_fe group_ff group_0f00 group_0f01 group_0fba operation
suits_one_a0 = refl

suits_one_c0 : every_line row_suits map_one_c0 ≡ true
unfolding map_one_c0 arithmetic shifts unary_group alone group_8c group_8e group_fe group_ff group_0f00 group_0f01 group_0fba operation
suits_one_c0 = refl

suits_one_e0 : every_line row_suits map_one_e0 ≡ true
unfolding map_one_e0 arithmetic shifts unary_group alone group_8c group_8e group_fe group_ff group_0f00 group_0f01 group_0fba operation
suits_one_e0 = refl

suits_two_00 : every_line row_suits map_two_00 ≡ true
unfolding map_two_00 arithmetic shifts unary_group alone group_8c group_8e group_fe group_ff group_0f00 group_0f01 group_0fba operation
suits_two_00 = refl

suits_two_80 : every_line row_suits map_two_80 ≡ true
unfolding map_two_80 arithmetic shifts unary_group alone group_8c group_8e group_fe group_ff group_0f00 group_0f01 group_0fba operation
suits_two_80 = refl

suits_two_a0 : every_line row_suits map_two_a0 ≡ true
unfolding map_two_a0 arithmetic shifts unary_group alone group_8c group_8e group_fe group_ff group_0f00 group_0f01 group_0fba operation
suits_two_a0 = refl

row_one_suits : (opcode reg : ℕ) → row_suits (row_one opcode reg) ≡ true
unfolding row_one Passes
row_one_suits opcode reg =
    let p : (ls : List Line) → every_line row_suits ls ≡ true
    → Passes row_suits (look ls opcode reg) = λ ls e. look_passes row_suits ls opcode reg e in
    cond_both (nat_lt opcode 0x20) _ _ (Passes row_suits) (λ _. p map_one_00 suits_one_00) (λ _.
    cond_both (nat_lt opcode 0x40) _ _ (Passes row_suits) (λ _. p map_one_20 suits_one_20) (λ _.
    cond_both (nat_lt opcode 0x60) _ _ (Passes row_suits) (λ _. p map_one_40 suits_one_40) (λ _.
    cond_both (nat_lt opcode 0x80) _ _ (Passes row_suits) (λ _. p map_one_60 suits_one_60) (λ _.
    cond_both (nat_lt opcode 0xa0) _ _ (Passes row_suits) (λ _. p map_one_80 suits_one_80) (λ _.
    cond_both (nat_lt opcode 0xc0) _ _ (Passes row_suits) (λ _. p map_one_a0 suits_one_a0) (λ _.
    cond_both (nat_lt opcode 0xe0) _ _ (Passes row_suits) (λ _. p map_one_c0 suits_one_c0)
    (λ _. p map_one_e0 suits_one_e0)))))))

row_two_suits : (opcode reg : ℕ) → row_suits (row_two opcode reg) ≡ true
unfolding row_two Passes
row_two_suits opcode reg =
    let p : (ls : List Line) → every_line row_suits ls ≡ true
    → Passes row_suits (look ls opcode reg) = λ ls e. look_passes row_suits ls opcode reg e in
    cond_both (nat_lt opcode 0x80) _ _ (Passes row_suits) (λ _. p map_two_00 suits_two_00) (λ _.
    cond_both (nat_lt opcode 0xa0) _ _ (Passes row_suits) (λ _. p map_two_80 suits_two_80) (λ _. p map_two_a0 suits_two_a0))

-- every row suits its operation
pub every_row_suits : (map : OpMap) (opcode reg : ℕ) → row_suits (opcode_row map opcode reg) ≡ true
unfolding opcode_row
every_row_suits One opcode reg = row_one_suits opcode reg
every_row_suits Two opcode reg = row_two_suits opcode reg
