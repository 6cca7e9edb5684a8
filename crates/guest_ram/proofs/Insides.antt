-- What stands behind a list of bytes: one byte taken out of the block and put back, the fields of a `Ram` of these bytes, and the same with
-- another byte.
use Rattle.std.proofs.Common.{◌≡◌, ℕ, ◌+◌, ◌<◌, List, [], ◌∷◌, ◌++◌, length, get_or, set, sym, refl, ◌∙◌, length-set, w8, add-zero, arith}
use Rattle.std.proofs.Common.{zero, suc, ◌*◌, ◌≤◌, ◌^◌, ap, subst}
use seplogic.Ra.Ura.{Ura}
use base.Fraction.{full_share}
use mir.Syntax.{ty_int, w32}
use mir.Val.{vint, Val, vunit, vstruct, vcons, vnil}
use base.Logic.{ent, emp}
use base.Fml.{Fml, fat, Lft}
use types.Logic.{Logic, sem}
use types.Kit.{‵, ◌⊛◌, ⋆, ◌$◌, ◌∵◌, !, qed, by, move, use1, split, join, fsplit, fjoin, feq_i, feq_l, rewrite, done, keep, drop, use2}
use types.Share.{arr_parts}
use denote.Builtin.{u8}
use denote.Array.{Array}
use denote.ArrayMemory.{Array-apart, Array-whole}
use denote.Memory.{part_at, shares, shared_of, each_shared, hidden_shr}
use denote.Opens.{hide}
use native.Mathlib.Nat.{not-suc-le-zero, le_of_suc-le-suc}
use denote.Plain.{uint_in, uint_out}
use denote.Index.{row, others, takes, puts, place_byte, place as nth}
use denote.RattleType.{RattleType}
use denote.Shadow.{makes_shadow}
use denote.RawPtr.{ptr_val}
use denote.Struct.Owning.{shape, to}
use denote.Struct.Struct.{Struct}
use Rattle.guest_ram.proofs.{ByteLists.{fit-set, fit-put, fit-copies}, PutLaws.{length-put}, ram.Ram.TheInside.TheLaws.{lowers}}
use Rattle.guest_ram.specs.{Bytes.{put}, Listed.{copies}, declared.ram.TheConstants.{FRAME_SIZE, MAX_FRAMES}}
use Rattle.guest_ram.specs.declared.ram.Ram.TheInside.{Inside}
use Rattle.guest_ram.specs.contracts.ram.Ram.TheInside as IN

module _ {M : Type 1} {𝓤 : Ura M} (𝓛 : Logic 𝓤) (n : ℕ) (xs : List ℕ) (b o i : ℕ) where
  abbrev pub rest : Fml
  rest = others (shares u8) full_share xs i b o

  pub byte_out : length xs ≡ n → i < length xs → ent 𝓤 (⋆ 𝓛 (‵ (part_at (Array u8 n) full_share xs b o) ∷ []))
      (⋆ 𝓛 (‵ (fat full_share (ty_int w8) b (i + o) (vint w8 (get_or xs i 0))) ∷ ‵ rest ∷ []))
  byte_out long inside =
      qed 𝓛 (‵ (part_at (Array u8 n) full_share xs b o) ∷ []) ∵
      use1 𝓛 (‵ ((arr_parts (shares u8) n).part full_share xs b o)) (Array-apart 𝓛 u8 full_share tt n xs b o) $ fsplit ! $ feq_l ! (λ l.
      use1 𝓛 (‵ (part_at u8 full_share (get_or xs i 0) b (nth 1 o i)) ⊛ ‵ rest) (takes (shares u8) full_share 𝓛 xs i 0 b o inside)
      $ split ! $
      rewrite ! 0 (λ (k : ℕ). ‵ (part_at u8 full_share (get_or xs i 0) b k)) (place_byte o i) refl $
      use1 𝓛 (‵ (fat full_share (ty_int w8) b (i + o) (vint w8 (get_or xs i 0))))
      (uint_out 𝓛 full_share w8 (get_or xs i 0) b (i + o)) $ done !)

  pub byte_in : (x : ℕ) → length xs ≡ n → i < length xs → ent 𝓤 (⋆ 𝓛 (‵ (fat full_share (ty_int w8) b (i + o) (vint w8 x)) ∷ ‵ rest ∷ []))
      (⋆ 𝓛 (‵ (part_at (Array u8 n) full_share (set xs i x) b o) ∷ []))
  byte_in x long inside =
      qed 𝓛 (‵ (fat full_share (ty_int w8) b (i + o) (vint w8 x)) ∷ ‵ rest ∷ []) ∵
      use1 𝓛 (‵ (part_at u8 full_share x b (i + o))) (uint_in 𝓛 full_share w8 x b (i + o)) $
      rewrite ! 0 (λ (k : ℕ). ‵ (part_at u8 full_share x b k)) (sym (place_byte o i)) refl $
      join ! $ use1 𝓛 (‵ (row u8 full_share (set xs i x) b o)) (puts (shares u8) full_share 𝓛 xs i x b o inside) $
      feq_i ! ℕ (length (set xs i x)) n (length-set xs i x ∙ long) $ fjoin ! $
      by ! (Array-whole 𝓛 u8 full_share n (set xs i x) b o)

module _ {M : Type 1} {𝓤 : Ura M} (𝓛 : Logic 𝓤) (κ : Lft) where
  one_lent : (b o : ℕ) (xs : List ℕ) (i : ℕ) → i < length xs →
      ent 𝓤 (sem 𝓛 (each_shared xs (shared_of u8) 1 b o κ)) (sem 𝓛 (hidden_shr u8 κ (get_or xs i 0) b (nth 1 o i)))
  one_lent b o [] i l = absurd (not-suc-le-zero l)
  one_lent b o (x ∷ xs) zero l = qed 𝓛 (‵ (each_shared (x ∷ xs) (shared_of u8) 1 b o κ) ∷ []) ∵ fsplit ! $ keep ! (0 ∷ []) $ hide ! $ done !
  one_lent b o (x ∷ xs) (suc i) l = qed 𝓛 (‵ (each_shared (x ∷ xs) (shared_of u8) 1 b o κ) ∷ []) ∵ fsplit ! $ drop ! $
      by ! (one_lent b (o + 1) xs i (le_of_suc-le-suc l))

  -- a `&` to the bytes shows one to each
  pub byte_lent : (b o : ℕ) (xs : List ℕ) (i : ℕ) → i < length xs →
      ent 𝓤 (sem 𝓛 (each_shared xs (shared_of u8) 1 b o κ)) (sem 𝓛 (hidden_shr u8 κ (get_or xs i 0) b (i + o)))
  byte_lent b o xs i l = qed 𝓛 (‵ (each_shared xs (shared_of u8) 1 b o κ) ∷ []) ∵
      use1 𝓛 (‵ (hidden_shr u8 κ (get_or xs i 0) b (nth 1 o i))) (one_lent b o xs i l) $
      rewrite ! 0 (λ (k : ℕ). ‵ (hidden_shr u8 κ (get_or xs i 0) b k)) (place_byte o i) refl $ done !

-- one more byte behind a run of them
module _ {M : Type 1} {𝓤 : Ura M} (𝓛 : Logic 𝓤) where
  pub row_more : (xs : List ℕ) (x b o : ℕ) → ent 𝓤 (⋆ 𝓛 (‵ (row u8 full_share xs b o) ∷ ‵ (part_at u8 full_share x b (o + length xs)) ∷ []))
      (sem 𝓛 (row u8 full_share (xs ++ x ∷ []) b o))
  row_more [] x b o = qed 𝓛 (‵ (row u8 full_share [] b o) ∷ ‵ (part_at u8 full_share x b (o + zero)) ∷ []) ∵
      rewrite ! 1 (λ (k : ℕ). ‵ (part_at u8 full_share x b k)) (add-zero o) refl $ move ! (1 ∷ 0 ∷ []) $ fjoin ! $ done !
  row_more (y ∷ ys) x b o = qed 𝓛 (‵ (row u8 full_share (y ∷ ys) b o) ∷ ‵ (part_at u8 full_share x b (o + suc (length ys))) ∷ [])
      ∵ fsplit ! $
      let next : o + suc (length ys) ≡ o + 1 + length ys = omega arith in
      rewrite ! 2 (λ (k : ℕ). ‵ (part_at u8 full_share x b k)) next refl $ move ! (1 ∷ 2 ∷ []) $
      use2 𝓛 (‵ (row u8 full_share (ys ++ x ∷ []) b (o + 1))) (row_more ys x b (o + 1)) $ move ! (1 ∷ 0 ∷ []) $ fjoin ! $ done !

  -- a run of n is n bytes
  pub row_whole : (n : ℕ) (xs : List ℕ) (b o : ℕ) → length xs ≡ n →
      ent 𝓤 (sem 𝓛 (row u8 full_share xs b o)) (sem 𝓛 (part_at (Array u8 n) full_share xs b o))
  row_whole n xs b o long = qed 𝓛 (‵ (row u8 full_share xs b o) ∷ []) ∵ feq_i ! ℕ (length xs) n long $ fjoin ! $
      by ! (Array-whole 𝓛 u8 full_share n xs b o)

abbrev pub Held : List ℕ → Type 0
Held h = (a : Inside) × ((a.bytes ≡ h) × (length a.bytes ≤ MAX_FRAMES * FRAME_SIZE))

abbrev pub with_byte : Inside → (i v : ℕ) → v < 0x100 → Inside
with_byte d i v small = record d {
  bytes = set d.bytes i v;
  long = length-set d.bytes i v ∙ d.long;
  fit = fit-set d.bytes i v small d.fit;
}

-- the bytes may be written while their list is another one
pub held_set : (h : List ℕ) (d : Inside) (i v : ℕ) → (d.bytes ≡ h) × (length d.bytes ≤ MAX_FRAMES * FRAME_SIZE)
    → (set d.bytes i v ≡ set h i v) × (length (set d.bytes i v) ≤ MAX_FRAMES * FRAME_SIZE)
held_set h d i v e = (ap (λ (k : List ℕ). set k i v) e.0, subst (λ (n : ℕ). n ≤ MAX_FRAMES * FRAME_SIZE) (sym (length-set d.bytes i v)) e.1)

-- the fields themselves own nothing
abbrev pub Words : RattleType
Words = Struct (shape IN.the_type)

pub fields_made : {M : Type 1} {𝓤 : Ura M} (𝓛 : Logic 𝓤) (d : Inside) → d.frames < 2 ^ 32 →
    ent 𝓤 (emp 𝓤) (sem 𝓛 (Words.own_val (to IN.the_type d) (lowers.lowered d ∷ [])))
fields_made 𝓛 d fits = makes_shadow 𝓛 (Words.own_val (to IN.the_type d) (lowers.lowered d ∷ []))
    (λ _. (tt, (tt, ((tt, tt), ((λ _. (tt, ((λ _. (tt, (tt, tt))), tt))), tt))))) (
      (ptr_val d.block ∷ [], (vint w32 d.frames ∷ [], (handle ∷ [], tt))),
      (refl, (refl, ((refl, fits), (((seal ∷ [], tt), (refl, (((vunit ∷ [], tt), (refl, (refl, tt))), tt))), tt)))),
    )
  where
    seal : Val
    seal = vstruct (vcons vunit vnil)

    handle : Val
    handle = vstruct (vcons seal vnil)

-- the same with copies of a byte from a place on
abbrev pub with_copies : Inside → (at k v : ℕ) → v < 0x100 → Inside
with_copies d at k v small = record d {
  bytes = put d.bytes at (copies k v);
  long = length-put d.bytes at (copies k v) ∙ d.long;
  fit = fit-put d.bytes at (copies k v) (fit-copies k v small) d.fit;
}

pub held_copies : (h : List ℕ) (d : Inside) (at k v : ℕ) → (d.bytes ≡ h) × (length d.bytes ≤ MAX_FRAMES * FRAME_SIZE)
    → (put d.bytes at (copies k v) ≡ put h at (copies k v)) × (length (put d.bytes at (copies k v)) ≤ MAX_FRAMES * FRAME_SIZE)
held_copies h d at k v e = (
  ap (λ (b : List ℕ). put b at (copies k v)) e.0,
  subst (λ (n : ℕ). n ≤ MAX_FRAMES * FRAME_SIZE) (sym (length-put d.bytes at (copies k v))) e.1,
)
