-- The item at the top of the stack is where the stack pointer points; and an item that is read in a run below the offset 10000h.
use Rattle.std.proofs.Common.{◌≡◌, ℕ, ◌+◌, ◌*◌, Bool, true, false, ap, arith, suc, zero, ◌<◌, ◌≤◌, List, [], ◌∷◌, slice_index}
use Rattle.std.proofs.{Common.{slice_index_or, ◌∙◌, sym, Ok}, Math.Nat.{mul-lt-mul_of_pos_left}}
use Rattle.client_world.specs.{declared.segments.SegReg.TheVariants.{Ss}, World.{World}}
use Rattle.guest_space.specs.{Pending.{byte_count}, Transfer.{read_result}}
use Rattle.insn_plan.specs.{Act.{From, number_read, value_of}, Registers.{cut_address}, Stack.{has_big_stack, stack_item, stack_pointer}}
use Rattle.insn_forms.specs.Grammar.{little_endian}

-- a stack pointer that goes no bytes up stays
same_pointer : (big : Bool) (esp n : ℕ) → n ≡ 0 → cut_address big (cut_address big esp + n) ≡ cut_address big esp
same_pointer true esp n none = omega arith
same_pointer false esp n none = omega arith

pub top_item : (w : World) (width : ℕ) → stack_item w width 0 ≡ From Ss (stack_pointer w w.regs) (byte_count width)
unfolding stack_item
top_item w width =
    ap (λ off. From Ss off (byte_count width)) (same_pointer (has_big_stack w) w.regs.esp (byte_count width * 0) (omega arith))

-- the stack pointer doesn't wrap there
place_in_run : (big : Bool) (esp n k sp : ℕ) → sp ≡ cut_address big esp → sp + n ≤ 0x10000 → k < n →
    cut_address big (cut_address big esp + k) ≡ sp + k
place_in_run true esp n k sp is inside less = omega arith
place_in_run false esp n k sp is inside less = omega arith

pub item_of_run : (w : World) (width n k sp : ℕ) (bytes : List ℕ) → byte_count width ≡ n → 0 < n →
    sp ≡ cut_address (has_big_stack w) w.regs.esp →
    sp + n * 8 ≤ 0x10000 → k < 8 → read_result w Ss (sp + n * k) n ≡ Ok bytes → value_of w (stack_item w width k) ≡ Ok (little_endian bytes)
unfolding stack_item value_of
item_of_run w width n k sp bytes count some is inside less read =
    let big = has_big_stack w in
    let esp = w.regs.esp in
    ap (λ (c : ℕ). number_read (read_result w Ss (cut_address big (cut_address big esp + c * k)) c)) count
    ∙ ap (λ (off : ℕ). number_read (read_result w Ss off n))
    (place_in_run big esp (n * 8) (n * k) sp is inside (mul-lt-mul_of_pos_left less some))
    ∙ ap number_read read

-- eight of them
pub eight_numbers : (w : World) (width n sp : ℕ) (items : List (List ℕ)) (d : List ℕ) (v0 v1 v2 v3 v4 v5 v6 v7 : ℕ) → byte_count width ≡ n →
    0 < n → sp ≡ cut_address (has_big_stack w) w.regs.esp → sp + n * 8 ≤ 0x10000 →
    ((k : ℕ) (other : List ℕ) → k < 8 → read_result w Ss (sp + n * k) n ≡ Ok (slice_index_or items k other)) →
    v0 ≡ little_endian (slice_index_or items 0 d) → v1 ≡ little_endian (slice_index_or items 1 d) →
    v2 ≡ little_endian (slice_index_or items 2 d) → v3 ≡ little_endian (slice_index_or items 3 d) →
    v4 ≡ little_endian (slice_index_or items 4 d) → v5 ≡ little_endian (slice_index_or items 5 d) →
    v6 ≡ little_endian (slice_index_or items 6 d) → v7 ≡ little_endian (slice_index_or items 7 d) → (k : ℕ) → k < 8 →
    value_of w (stack_item w width k) ≡ Ok (slice_index (v0 ∷ v1 ∷ v2 ∷ v3 ∷ v4 ∷ v5 ∷ v6 ∷ v7 ∷ []) k)
eight_numbers w width n sp items d v0 v1 v2 v3 v4 v5 v6 v7 count some is inside read e0 e1 e2 e3 e4 e5 e6 e7 zero less =
    item_of_run w width n 0 sp (slice_index_or items 0 d) count some is inside less (read 0 d less) ∙ ap (λ (v : ℕ). Ok v) (sym e0)
eight_numbers w width n sp items d v0 v1 v2 v3 v4 v5 v6 v7 count some is inside read e0 e1 e2 e3 e4 e5 e6 e7 (suc zero) less =
    item_of_run w width n 1 sp (slice_index_or items 1 d) count some is inside less (read 1 d less) ∙ ap (λ (v : ℕ). Ok v) (sym e1)
eight_numbers w width n sp items d v0 v1 v2 v3 v4 v5 v6 v7 count some is inside read e0 e1 e2 e3 e4 e5 e6 e7 (suc (suc zero)) less =
    item_of_run w width n 2 sp (slice_index_or items 2 d) count some is inside less (read 2 d less) ∙ ap (λ (v : ℕ). Ok v) (sym e2)
eight_numbers w width n sp items d v0 v1 v2 v3 v4 v5 v6 v7 count some is inside read e0 e1 e2 e3 e4 e5 e6 e7 (suc (suc (suc zero))) less =
    item_of_run w width n 3 sp (slice_index_or items 3 d) count some is inside less (read 3 d less) ∙ ap (λ (v : ℕ). Ok v) (sym e3)
eight_numbers w width n sp items d v0 v1 v2 v3 v4 v5 v6 v7 count some is inside read e0 e1 e2 e3 e4 e5 e6 e7
    (suc (suc (suc (suc zero)))) less =
    item_of_run w width n 4 sp (slice_index_or items 4 d) count some is inside less (read 4 d less) ∙ ap (λ (v : ℕ). Ok v) (sym e4)
eight_numbers w width n sp items d v0 v1 v2 v3 v4 v5 v6 v7 count some is inside read e0 e1 e2 e3 e4 e5 e6 e7
    (suc (suc (suc (suc (suc zero))))) less =
    item_of_run w width n 5 sp (slice_index_or items 5 d) count some is inside less (read 5 d less) ∙ ap (λ (v : ℕ). Ok v) (sym e5)
eight_numbers w width n sp items d v0 v1 v2 v3 v4 v5 v6 v7 count some is inside read e0 e1 e2 e3 e4 e5 e6 e7
    (suc (suc (suc (suc (suc (suc zero)))))) less =
    item_of_run w width n 6 sp (slice_index_or items 6 d) count some is inside less (read 6 d less) ∙ ap (λ (v : ℕ). Ok v) (sym e6)
eight_numbers w width n sp items d v0 v1 v2 v3 v4 v5 v6 v7 count some is inside read e0 e1 e2 e3 e4 e5 e6 e7
    (suc (suc (suc (suc (suc (suc (suc zero))))))) less =
    item_of_run w width n 7 sp (slice_index_or items 7 d) count some is inside less (read 7 d less) ∙ ap (λ (v : ℕ). Ok v) (sym e7)
eight_numbers w width n sp items d v0 v1 v2 v3 v4 v5 v6 v7 count some is inside read e0 e1 e2 e3 e4 e5 e6 e7
    (suc (suc (suc (suc (suc (suc (suc (suc k)))))))) less = absurd (omega (arith, less))
