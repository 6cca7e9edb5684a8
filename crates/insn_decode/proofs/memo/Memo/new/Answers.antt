use Rattle.std.proofs.Common.{◌≡◌, ◌∙◌, ◌*◌, ◌<◌, ℕ, Bool, HoldsAt, List, ap, arith, refl, replicate, slice_index_or, subst, sym}
use Rattle.{std.proofs.lemmas.List.{get_or-replicate}, insn_decode.specs.{declared.memo.Entry.{Entry}, Memo.{IsDecoded, is_big_place}}}
use Rattle.insn_decode.proofs.memo.Memo.new.Goals.{invariant_of-result-clause-decoded as goal}

-- entries that match no code
empty : (es : List Entry) (n : ℕ) (none : Entry) (k : ℕ) (big : Bool) → none.start.scale ≡ 0 → none.start.scaled ≡ 1 → none.len ≡ 0 →
    k < n → es ≡ replicate n none → HoldsAt (λ e. IsDecoded big e.start e.words e.insn e.len) es k
empty es n none k big scale scaled len inside same d =
    subst (λ (e : Entry). IsDecoded big e.start e.words e.insn e.len)
    (sym (ap (λ (xs : List Entry). slice_index_or xs k d) same ∙ get_or-replicate n k none d inside))
    (record { short = λ w passes. absurd (omega (arith, passes, ap (λ (n : ℕ). w.low * n) scale)); long = λ more. absurd (omega arith) })

pub invariant_of-result-clause-decoded : goal
invariant_of-result-clause-decoded c k inside =
    empty _ _ _ k (is_big_place k) refl refl refl inside (c.in_ok-entries.ensures.items_if_clones_equal (λ y e. e))
