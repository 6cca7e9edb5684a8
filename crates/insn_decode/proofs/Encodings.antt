-- What the readers read is the grammar.
use Rattle.std.proofs.Common.{◌≡◌, ℕ, Bool, true, false, ◌||◌, eqb, List, [], ◌∷◌, ◌++◌, Option, Some, None, refl, sym, ap, subst, ◌∙◌}
use Rattle.std.proofs.{Common.{append_assoc, arith}, lemmas.List.{append-nil}, Math.Bool.{or_assoc}}
use Rattle.insn_forms.specs.{declared.insn.Rep.{Rep}, declared.pieces.Prefixes.{Prefixes}, declared.pieces.Head.{Head}}
use Rattle.insn_forms.specs.{declared.pieces.Addressing.{Addressing}, declared.insn.Operand.{Operand}, declared.insn.Insn.{Insn}}
use Rattle.insn_forms.specs.{Prefixes.{segment_of, repeat_of, or_else, last_of, has, rep_or_plain, prefixes_of}, Operands.{operand}}
use Rattle.insn_forms.specs.{Operands.{insn_of}, Grammar.{AllBytes, opcode_bytes, little_endian, Pieces, head_of, addressing_of, AreRow}}
use Rattle.insn_forms.specs.Grammar.{insn_of_pieces, Encoding, row_with, wide_of, addr32_of}
use Rattle.insn_decode.specs.Reading.{no_prefixes, with_prefix, opcode_head}
use Rattle.insn_decode.proofs.{LawfulReaders.{Number}, HeadReaders.{folded}, InsnReaders.{EncodesInsn, row_any}}
use Rattle.insn_forms.specs.declared.insn.Rep.TheVariants as reps

-- ---- prefixes: the prefixes one after another are those of the list

else_assoc : {A : Type 0} (a b c : Option A) → or_else a (or_else b c) ≡ or_else (or_else a b) c
else_assoc (Some x) b c = refl
else_assoc None b c = refl

or_none : (a : Bool) → a ≡ (a || false)
or_none true = refl
or_none false = refl

rep_assoc : (a b : Option Rep) (r : Rep)
    → rep_or_plain (or_else a (Some (rep_or_plain (or_else b (Some r))))) ≡ rep_or_plain (or_else (or_else a b) (Some r))
rep_assoc (Some x) b r = refl
rep_assoc None (Some y) r = refl
rep_assoc None None r = refl

seg_folded : (m : Prefixes) (ps : List ℕ) → (folded m ps).seg ≡ or_else (last_of segment_of ps) m.seg
unfolding with_prefix
seg_folded m [] = refl
seg_folded m (b ∷ ps) = seg_folded (with_prefix m b) ps ∙ else_assoc (last_of segment_of ps) (segment_of b) m.seg

data_folded : (m : Prefixes) (ps : List ℕ) → (folded m ps).operand_size ≡ (m.operand_size || has 0x66 ps)
unfolding with_prefix
data_folded m [] = or_none m.operand_size
data_folded m (b ∷ ps) = data_folded (with_prefix m b) ps ∙ or_assoc m.operand_size (eqb b 0x66) (has 0x66 ps)

addr_folded : (m : Prefixes) (ps : List ℕ) → (folded m ps).address_size ≡ (m.address_size || has 0x67 ps)
unfolding with_prefix
addr_folded m [] = or_none m.address_size
addr_folded m (b ∷ ps) = addr_folded (with_prefix m b) ps ∙ or_assoc m.address_size (eqb b 0x67) (has 0x67 ps)

lock_folded : (m : Prefixes) (ps : List ℕ) → (folded m ps).lock ≡ (m.lock || has 0xf0 ps)
unfolding with_prefix
lock_folded m [] = or_none m.lock
lock_folded m (b ∷ ps) = lock_folded (with_prefix m b) ps ∙ or_assoc m.lock (eqb b 0xf0) (has 0xf0 ps)

rep_folded : (m : Prefixes) (ps : List ℕ) → (folded m ps).rep ≡ rep_or_plain (or_else (last_of repeat_of ps) (Some m.rep))
unfolding with_prefix
rep_folded m [] = refl
rep_folded m (b ∷ ps) = rep_folded (with_prefix m b) ps ∙ rep_assoc (last_of repeat_of ps) (repeat_of b) m.rep

same_prefixes : (a b : Prefixes) → a.seg ≡ b.seg → a.operand_size ≡ b.operand_size → a.address_size ≡ b.address_size
    → a.lock ≡ b.lock → a.rep ≡ b.rep → a ≡ b
same_prefixes a b s d z l r = λ i. record { seg = s i; operand_size = d i; address_size = z i; lock = l i; rep = r i }

else_none : {A : Type 0} (a : Option A) → or_else a None ≡ a
else_none (Some x) = refl
else_none None = refl

rep_plain : (a : Option Rep) → rep_or_plain (or_else a (Some reps.Plain)) ≡ rep_or_plain a
rep_plain (Some r) = refl
rep_plain None = refl

prefixes_folded : (ps : List ℕ) → folded no_prefixes ps ≡ prefixes_of ps
unfolding prefixes_of
prefixes_folded ps = grind (arith, addr_folded, data_folded, else_none, lock_folded, rep_folded, rep_plain, same_prefixes, seg_folded)

-- ---- the pieces

regroup : (a b c d e f g h : List ℕ) → (a ++ b) ++ ((c ++ (d ++ (e ++ []))) ++ ((f ++ []) ++ ((g ++ []) ++ ((h ++ []) ++ [])))) ≡ a
    ++ (b ++ (c ++ (d ++ (e ++ (f ++ (g ++ h))))))
regroup a b c d e f g h = simp (append-nil, append_assoc) refl

-- What the grammar has, the readers' pieces have.
pub to_readers : (big : Bool) (insn : Insn) (bytes : List ℕ) → Encoding big insn bytes → EncodesInsn big insn bytes
to_readers big insn bytes s =
    let p = s.pieces in
    let number : Number _ (little_endian p.modrm) p.modrm = record { size = s.are_row.modrm; value_is = refl } in
    record {
      middle = head_of p;
      one = p.prefixes ++ opcode_bytes p.map p.opcode;
      two = (p.modrm ++ (p.sib ++ (p.disp ++ []))) ++ ((p.first ++ []) ++ ((p.second ++ []) ++ ((p.third ++ []) ++ [])));
      first = record {
        before = p.prefixes;
        are = s.prefixes;
        says = sym (prefixes_folded p.prefixes);
        has_row = row_any (head_of p) (little_endian p.modrm) p.modrm (record { number = number; has_row = s.are_row.has_row });
        whole = refl;
      };
      second = grind arith;
      whole = s.whole ∙ sym
          (regroup p.prefixes (opcode_bytes p.map p.opcode) p.modrm p.sib p.disp p.first p.second p.third);
    }

-- the pieces in their order
glue : (a b c d e f g h bytes x y z w q r n u v k l o f0 g0 h0 t : List ℕ) → bytes ≡ x ++ y → x ≡ a ++ b → y ≡ z ++ w → z ≡ c ++ q →
    q ≡ d ++ r → r ≡ e ++ n → n ≡ [] → w ≡ k ++ v → k ≡ f ++ f0 → f0 ≡ [] → v ≡ l ++ u → l ≡ g ++ g0 → g0 ≡ [] → u ≡ o ++ t → o ≡ h ++ h0 →
    h0 ≡ [] → t ≡ [] → bytes ≡ a ++ (b ++ (c ++ (d ++ (e ++ (f ++ (g ++ h))))))
glue a b c d e f g h bytes x y z w q r n u v k l o f0 g0 h0 t e0 e1 e2 e3 e4 e5 e6 e7 e8 e9 e10 e11 e12 e13 e14 e15 e16 =
    rw (e0, e1, e2, e3, e4, e5, e6, e7, e8, e9, e10, e11, e12, e13, e14, e15, e16) (regroup a b c d e f g h)

same_addressing : (a b c x y z : ℕ) → a ≡ x → b ≡ y → c ≡ z
    → ◌≡◌ {A = Addressing} (record { modrm = a; sib = b; disp = c }) (record { modrm = x; sib = y; disp = z })
same_addressing a b c x y z e f g = λ i. record { modrm = e i; sib = f i; disp = g i }

same_insn : (big : Bool) (head : Head) (address : Addressing) (a b c x y z : Operand) → a ≡ x → b ≡ y → c ≡ z
    → insn_of head (wide_of big head) (addr32_of big head) (row_with head address.modrm) a b c
    ≡ insn_of head (wide_of big head) (addr32_of big head) (row_with head address.modrm) x y z
same_insn big head address a b c x y z e f g =
    λ i. insn_of head (wide_of big head) (addr32_of big head) (row_with head address.modrm) (e i) (f i) (g i)

-- What the readers' pieces have, the grammar has.
pub from_readers : (big : Bool) (insn : Insn) (bytes : List ℕ) → AllBytes bytes → EncodesInsn big insn bytes → Encoding big insn bytes
from_readers big insn bytes are h =
    let head : Head = h.middle in
    let address : Addressing = h.second.middle in
    let ps = h.first.before in
    let m = h.second.first in
    let s = m.second in
    let d = s.second in
    let one = h.second.second in
    let two = one.second in
    let three = two.second in
    let p : Pieces = record {
      prefixes = ps;
      map = head.map;
      opcode = head.opcode;
      modrm = m.one;
      sib = s.one;
      disp = d.one;
      first = one.first.one;
      second = two.first.one;
      third = three.first.one;
    } in
    let head_is : head ≡ head_of p =
    ap (λ (k : Prefixes). opcode_head k head.map head.opcode) (h.first.says ∙ prefixes_folded ps) in
    let address_was : address ≡ record { modrm = m.middle; sib = s.middle; disp = d.middle } = d.second.same in
    let m_is : address.modrm ≡ m.middle = ap (λ (q : Addressing). q.modrm) address_was in
    let s_is : address.sib ≡ s.middle = ap (λ (q : Addressing). q.sib) address_was in
    let address_is : address ≡ addressing_of p = address_was
    ∙ same_addressing m.middle s.middle d.middle (little_endian m.one) (little_endian s.one)
    (little_endian d.one) m.first.number.value_is s.first.value_is d.first.value_is in
    let row_here : AreRow big head address p = grind arith in
    let meant : insn ≡ insn_of_pieces big head address (little_endian p.first) (little_endian p.second) (little_endian p.third) =
    three.second.same ∙ same_insn big head address one.middle two.middle three.middle _ _ _
    (one.first.second.same
    ∙ ap (λ (n : ℕ). operand head (wide_of big head) (addr32_of big head) address (row_with head address.modrm).first n)
    one.first.first.value_is)
    (two.first.second.same
    ∙ ap (λ (n : ℕ). operand head (wide_of big head) (addr32_of big head) address
    (row_with head address.modrm).second n) two.first.first.value_is)
    (three.first.second.same
    ∙ ap (λ (n : ℕ). operand head (wide_of big head) (addr32_of big head) address (row_with head address.modrm).third n)
    three.first.first.value_is) in
    record {
      pieces = p;
      whole = glue ps (opcode_bytes head.map head.opcode) m.one s.one d.one one.first.one two.first.one three.first.one
          bytes _ _ _ _ _ _ _ _ _ _ _ _ _ _ _ _ h.whole h.first.whole h.second.whole m.whole s.whole d.whole d.second.none
          one.whole one.first.whole one.first.second.none two.whole two.first.whole two.first.second.none three.whole
          three.first.whole three.first.second.none three.second.none;
      prefixes = h.first.are;
      are_row = subst (λ (q : Head). AreRow big q (addressing_of p) p) head_is
          (subst (λ (q : Addressing). AreRow big head q p) address_is row_here);
      means = subst (λ (q : Head). insn
          ≡ insn_of_pieces big q (addressing_of p) (little_endian p.first) (little_endian p.second) (little_endian p.third)) head_is
          (subst (λ (q : Addressing).
          insn ≡ insn_of_pieces big head q (little_endian p.first) (little_endian p.second) (little_endian p.third))
          address_is meant);
      are_bytes = are;
    }
