-- `set32` writes four bytes through one pointer, least byte first.
use Rattle.guest_ram.proofs.Steps.{◌≡◌, ℕ, List, [], ◌∷◌, refl, sym, ap, ◌∙◌, w8, proved, lit<, full_share, id⊢, ftrue, fat, flft, named}
use Rattle.guest_ram.proofs.Steps.{vunit, vint, fact, tables, ‵, raw, ◌⊛◌, at_ret, ◌$◌, ◌∵◌, !, qed, done, move, keep, use1, use2, split}
use Rattle.guest_ram.proofs.Steps.{join, fsplit, fsplit3, fjoin, fpick, fpack, feq_i, rewrite, suffices, frame, group, enter, of_opd, un}
use Rattle.guest_ram.proofs.Steps.{bin, unit_lit, lit, load, store, stop, fld, assigns, assigns_last, first, blocks, exec, returns}
use Rattle.guest_ram.proofs.Steps.{alloc_all, pass_all, free_all, look_at, get, through, sets, env, u8, yes, shows, uint_vals, uint_Tells}
use Rattle.guest_ram.proofs.Steps.{Ptr, lies_at, in_a_block, MutRef, mut_vals, mut_Tells, plain, nothing, opens, closes, heard, peeks}
use Rattle.guest_ram.proofs.{Steps.{Stays, walk_of, stay_ref, stay_dropped, Goes-ref, Goes-dropped, ends_at}, Insides.{rest, byte_out}}
use Rattle.guest_ram.proofs.{Insides.{byte_in, Held, with_byte, held_set}, PutLaws.{put_four}, WalkSteps.{says2, big_lit}}
use Rattle.guest_ram.proofs.{ram.Ram.set32.Statement.{statement}, ram.Ram.TheInside.TheLaws.{lowers}}
use Rattle.std.proofs.{Common.{subst, length, get_or, set, length-set, ◌<◌, ◌+◌, ◌*◌, ◌^◌, ◌/◌, ◌%◌, w32, arith}, VecSteps.Shapes.{after}}
use mir.Syntax.{ty_int}
use mir.Val.{Val}
use base.Fml.{fsep}
use types.Part.{whole, sub, look_in}
use denote.Memory.{cell_at, part_at}
use denote.Array.{Array}
use denote.Builtin.{u32}
use Rattle.guest_ram.specs.{contracts.ram.Ram.{the_row as R}, contracts.ram.Ram.TheInside.{the_row as F}}
use Rattle.guest_ram.specs.declared.ram.Ram.TheInside.{Inside}
use Rattle.guest_ram.specs.contracts.ram.Ram.set32 as f
use Rattle.guest_ram.proofs.ram.Ram.set32.Code as code

abbrev stayed : Stays f.ended.signature.params f.ended.kept
stayed = (stay_ref (0 ∷ []) tt (plain (λ _. R)), (stay_dropped (plain (λ _. u32)) yes, (stay_dropped (plain (λ _. u32)) yes, tt)))

pub set32_spec : {M : Type 1} → statement M
set32_spec 𝓤 𝓛 𝓜 𝓡 wired =
    let c = f.clauses 𝓛 𝓜.mem 𝓡.returns in let W = walk_of 𝓛 f.ended stayed c in let 𝓣 = tables 𝓤 𝓛.H 𝓜 𝓡 𝓡.env in
    proved 𝓛 f.ended stayed c 𝓜 𝓡 (
      Goes-ref 𝓛 1 0 tt (plain (λ _. R)),
      (Goes-dropped 𝓛 1 (plain (λ _. u32)) yes (λ κs x w. refl), (Goes-dropped 𝓛 1 (plain (λ _. u32)) yes (λ κs x w. refl), tt)),
    )
    f.Key.name code.function (code.unfolded 𝓤 𝓛.H 𝓜 𝓡 wired)
    (λ κs. (mut_vals, (uint_vals w32, (uint_vals w32, tt)))) (λ κs. (mut_Tells (named 0) κs.0 R, (uint_Tells w32, (uint_Tells w32, tt))))
    (λ κs qs bounds a _ are.
    let b = a.0.ref_ptr.0 in let o = a.0.ref_ptr.1 in let h : List ℕ = a.0.now in let i : ℕ = a.1.0 in let v : ℕ = a.1.1.0 in
    let vs = mut_vals a.0 in
    let y : W.Ghost = ((κs, qs, bounds, a, (vs, (uint_vals w32 i, (uint_vals w32 v, tt)))), tt) in
    qed 𝓛 (((‵ (flft κs.0 qs.0) ⊛ ‵ ftrue) ⊛ ‵ ((MutRef (named 0) κs.0 R).own_val a.0 vs) ⊛ ‵ ((u32).own_val i (uint_vals w32 i))
    ⊛ ‵ ((u32).own_val v (uint_vals w32 v)) ⊛ ‵ ftrue) ∷ raw (fact 𝓤 (i + 3 < length h)) ∷ []) ∵
    split ! $ split ! $ move ! (3 ∷ []) $ heard ! _ (λ inside. move ! (2 ∷ []) $ split ! $ keep ! (0 ∷ 2 ∷ []) $
    enter ! _ _ _ _ _ $
    alloc_all ! (λ l. pass_all ! refl ((tt, tt), ((tt, record { fits = are.1.0.1 }), ((tt, record { fits = are.1.1.0.1 }), tt))) $
    fsplit3 ! $ move ! (1 ∷ 2 ∷ 3 ∷ []) $ opens ! tt R b o (λ us.
    move ! (1 ∷ []) $ fpick ! (λ x. fsplit ! $ peeks ! F _ (shows 𝓛 F) x.0 us (λ is. fsplit ! $ move ! (1 ∷ []) $ fsplit ! $
    let xs : List ℕ = x.0.bytes in let n = 4096 * x.0.frames in
    let room : i + 3 < length xs = subst (λ (k : List ℕ). i + 3 < length k) (sym x.1.0) inside in let low : i < length xs = omega arith in
    in_a_block ! x.0.block (λ p. lies_at (Array u8 n) full_share p xs) (id⊢ 𝓤 _) (λ b' o' e.
    use1 𝓛 (‵ (fat full_share (ty_int w8) b' (i + o') (vint w8 (get_or xs i 0))) ⊛ ‵ (rest 𝓛 n xs b' o' i))
    (byte_out 𝓛 n xs b' o' i x.0.long low) $ split ! $
    let word = lowers.val_is x.0 us is ∙ ap (λ (p : Ptr). lowers.lowered (record x.0 { block = p }) ∷ []) e in
    let Cell = λ (ws : List Val). ‵ (cell_at full_share (F).mir ws b o) in
    rewrite ! 5 Cell word refl $
    -- [the byte; the others; the token; what the fields own; nothing; the struct's cell; the open borrow, in three entries]
    let fv : v < 2 ^ 32 = are.1.1.0.1 in
    let v0 = v % 0x100 in let v1 = v / 0x100 % 0x100 in let v2 = v / 0x10000 % 0x100 in let v3 = v / 0x1000000 in
    let f0 : v0 < 2 ^ 8 = omega arith in let f1 : v1 < 2 ^ 8 = omega arith in let f2 : v2 < 2 ^ 8 = omega arith in
    let f3 : v3 < 2 ^ 8 = omega arith in
    let w0 : v0 < 2 ^ 32 = omega arith in let w1 : v1 < 2 ^ 32 = omega arith in let w2 : v2 < 2 ^ 32 = omega arith in
    let w3 : v3 < 2 ^ 32 = omega arith in
    let d1 : v / 0x100 < 2 ^ 32 = omega arith in let d2 : v / 0x10000 < 2 ^ 32 = omega arith in
    sets ! (bin ! (get ! refl) (lit ! tt) (lit< tt)) refl (tt, record { fits = w0 }) $
    sets ! (un ! (get ! refl) (record { fits = f0 })) refl (tt, record { fits = f0 }) $
    sets ! (bin ! (get ! refl) (lit ! tt) (lit< tt)) refl (tt, record { fits = d1 }) $
    sets ! (bin ! (get ! refl) (lit ! tt) (lit< tt)) refl (tt, record { fits = w1 }) $
    sets ! (un ! (get ! refl) (record { fits = f1 })) refl (tt, record { fits = f1 }) $
    sets ! (bin ! (get ! refl) (big_lit ! (record { fits = lit< tt })) (lit< tt)) refl (tt, record { fits = d2 }) $
    sets ! (bin ! (get ! refl) (lit ! tt) (lit< tt)) refl (tt, record { fits = w2 }) $
    sets ! (un ! (get ! refl) (record { fits = f2 })) refl (tt, record { fits = f2 }) $
    sets ! (bin ! (get ! refl) (big_lit ! (record { fits = lit< tt })) (lit< tt)) refl (tt, record { fits = w3 }) $
    sets ! (un ! (get ! refl) (record { fits = f3 })) refl (tt, record { fits = f3 }) $
    first ! $ blocks ! $
    sets ! (of_opd ! (load ! (through ! refl (fld ! refl (stop !))) (look_in ! 5 (sub ! 0 refl (whole !))))) refl (tt, tt) $
    let wide : i < 2 ^ 64 = omega arith in
    sets ! (un ! (get ! refl) (record { fits = wide })) refl (tt, record { fits = wide }) $
    sets ! (bin ! (get ! refl) (get ! refl) tt) refl (tt, tt) $
    assigns ! (of_opd ! (get ! refl)) (through ! refl (stop !)) (store ! 0 refl (tt, record { fits = f0 })) $
    sets ! (bin ! (get ! refl) (lit ! tt) tt) refl (tt, tt) $
    let x1 : Inside = with_byte x.0 i v0 f0 in let low1 : i + 1 < length x1.bytes =
    subst (λ (j : ℕ). i + 1 < j) (sym (length-set xs i v0)) (omega arith) in
    use2 𝓛 (‵ (part_at (Array u8 n) full_share x1.bytes b' o')) (byte_in 𝓛 n xs b' o' i v0 x.0.long low) $
    use1 𝓛 (‵ (fat full_share (ty_int w8) b' (i + 1 + o') (vint w8 (get_or x1.bytes (i + 1) 0))) ⊛ ‵ (rest 𝓛 n x1.bytes b' o' (i + 1)))
    (byte_out 𝓛 n x1.bytes b' o' (i + 1) x1.long low1) $ split ! $
    let there1 : i + 1 + o' ≡ 1 + (i + o') = omega arith in
    rewrite ! 0 (λ (k : ℕ). ‵ (fat full_share (ty_int w8) b' k (vint w8 (get_or x1.bytes (i + 1) 0)))) there1 refl $
    assigns ! (of_opd ! (get ! refl)) (through ! refl (stop !)) (store ! 0 refl (tt, record { fits = f1 })) $
    rewrite ! 0 (λ (k : ℕ). ‵ (fat full_share (ty_int w8) b' k (vint w8 v1))) (sym there1) refl $
    sets ! (bin ! (get ! refl) (lit ! tt) tt) refl (tt, tt) $
    let x2 : Inside = with_byte (x1) (i + 1) v1 f1 in let low2 : i + 2 < length x2.bytes = subst (λ (j : ℕ). i + 2 < j)
    (sym (length-set x1.bytes (i + 1) v1)) (subst (λ (j : ℕ). i + 2 < j) (sym (length-set xs i v0)) (omega arith)) in
    use2 𝓛 (‵ (part_at (Array u8 n) full_share x2.bytes b' o')) (byte_in 𝓛 n x1.bytes b' o' (i + 1) v1 x1.long low1) $
    use1 𝓛 (‵ (fat full_share (ty_int w8) b' (i + 2 + o') (vint w8 (get_or x2.bytes (i + 2) 0))) ⊛ ‵ (rest 𝓛 n x2.bytes b' o' (i + 2)))
    (byte_out 𝓛 n x2.bytes b' o' (i + 2) x2.long low2) $ split ! $
    let there2 : i + 2 + o' ≡ 2 + (i + o') = omega arith in
    rewrite ! 0 (λ (k : ℕ). ‵ (fat full_share (ty_int w8) b' k (vint w8 (get_or x2.bytes (i + 2) 0)))) there2 refl $
    assigns ! (of_opd ! (get ! refl)) (through ! refl (stop !)) (store ! 0 refl (tt, record { fits = f2 })) $
    rewrite ! 0 (λ (k : ℕ). ‵ (fat full_share (ty_int w8) b' k (vint w8 v2))) (sym there2) refl $
    sets ! (bin ! (get ! refl) (lit ! tt) tt) refl (tt, tt) $
    let x3 : Inside = with_byte (x2) (i + 2) v2 f2 in let low3 : i + 3 < length x3.bytes =
    subst (λ (j : ℕ). i + 3 < j) (sym (length-set x2.bytes (i + 2) v2)) (subst (λ (j : ℕ). i + 3 < j)
    (sym (length-set x1.bytes (i + 1) v1)) (subst (λ (j : ℕ). i + 3 < j) (sym (length-set xs i v0)) (omega arith))) in
    use2 𝓛 (‵ (part_at (Array u8 n) full_share x3.bytes b' o')) (byte_in 𝓛 n x2.bytes b' o' (i + 2) v2 x2.long low2) $
    use1 𝓛 (‵ (fat full_share (ty_int w8) b' (i + 3 + o') (vint w8 (get_or x3.bytes (i + 3) 0))) ⊛ ‵ (rest 𝓛 n x3.bytes b' o' (i + 3)))
    (byte_out 𝓛 n x3.bytes b' o' (i + 3) x3.long low3) $ split ! $
    let there3 : i + 3 + o' ≡ 3 + (i + o') = omega arith in
    rewrite ! 0 (λ (k : ℕ). ‵ (fat full_share (ty_int w8) b' k (vint w8 (get_or x3.bytes (i + 3) 0)))) there3 refl $
    assigns_last ! (of_opd ! (get ! refl)) (through ! refl (stop !)) (store ! 0 refl (tt, record { fits = f3 })) $
    rewrite ! 0 (λ (k : ℕ). ‵ (fat full_share (ty_int w8) b' k (vint w8 v3))) (sym there3) refl $
    exec ! 𝓣.C 𝓣.Λ (env code.Mir.locals l) (after 11 (code.function).body) (at_ret _ (W.post y)) $
    sets ! (of_opd ! (unit_lit !)) refl (tt, tt) $
    let x' : Inside = with_byte x3 (i + 3) v3 f3 in let ys : List ℕ = x'.bytes in
    let h1 : List ℕ = set h i v0 in let h2 : List ℕ = set h1 (i + 1) v1 in let h3 : List ℕ = set h2 (i + 2) v2 in
    let new : List ℕ = set h3 (i + 3) v3 in
    use2 𝓛 (‵ (part_at (Array u8 n) full_share ys b' o')) (byte_in 𝓛 n x3.bytes b' o' (i + 3) v3 x3.long low3) $
    rewrite ! 0 (λ (p : Ptr). ‵ (lies_at (Array u8 n) full_share p ys)) (sym e) refl $ rewrite ! 4 Cell (sym word) refl $
    fjoin ! $ move ! (1 ∷ []) $ fjoin ! $ fjoin ! $
    fpack ! (Held new) (λ z. fsep ((F).own_val z.0 us) ftrue)
    (x', held_set h3 x3 (i + 3) v3 (held_set h2 x2 (i + 2) v2 (held_set h1 x1 (i + 1) v1 (held_set h x.0 i v0 x.1)))) $
    move ! (1 ∷ []) $ closes ! tt R new us b o $
    -- [two parts of self; the token; self's first part]
    returns ! (look_at ! 0 refl) $ free_all ! refl $ move ! (3 ∷ []) $
    suffices ! _ (ends_at 𝓛 f.ended stayed c y vunit tt (new, (tt, (tt, tt))) (tt, (tt, (tt, tt)))) $ says2 !
    (put_four h i v0 v1 v2 v3) (length-set h3 (i + 3) v3 ∙ length-set h2 (i + 2) v2 ∙ length-set h1 (i + 1) v1 ∙ length-set h i v0) $
    group ! 3 $ nothing ! $ nothing ! $ join ! $ nothing ! $ join ! $ move ! (1 ∷ 0 ∷ []) $ join ! $
    nothing ! $ move ! (2 ∷ 0 ∷ []) $ join ! $ frame ! $ frame ! $
    feq_i ! _ (vunit ∷ []) _ refl $ done !)))))))
