-- What a shelf in memory finds in the files that it stores.
use Rattle.std.proofs.Common.{◌≡◌, ℕ, List, [], ◌∷◌, Bool, true, false, cond, refl, sym, ◌∙◌, ap, map, string_bytes}
use Rattle.std.proofs.lemmas.Map.Text.{btree_map_updates_text, is_eq-slice_cmp}
use Rattle.std.specs.{Prelude.{String, Vec, Some}, Option.{option_map}, declared.option.Option.{Option}, BTreeMap.{BTreeMap, is_at}}
use Rattle.std.specs.{BTreeMap.{get_by_text, UpdatesBy}, Cmp.{eq_by_cmp_equiv}, Cmp.Lexicographic.{slice_cmp, nat_list_cmp_total}}
use Rattle.std.specs.FinMap.{get, insert, find, get-from_entries, get-insert, same_map, nat_cmp-IsAntisymmetric, slice_cmp-IsAntisymmetric}
use Rattle.std.specs.{Map.{lookup}, Ordering.{nat_cmp, eq_by_cmp, is_eq}, Str.{bytes_eq}, String.{string_cmp}}
use Rattle.dpmi_io.specs.StoredFiles.{file_entry, files_of}

-- the bytes of a file that was found
abbrev pub bytes_of : {Z : Type 0} → Option (Vec ℕ Z) → Option (List ℕ)
bytes_of found = option_map (λ v. v.items) found

found_step : {Z : Type 0} (same : Bool) (v : Vec ℕ Z) (x : Option (List ℕ)) (y : Option (Vec ℕ Z)) → x ≡ bytes_of y →
    cond same (Some v.items) x ≡ bytes_of (cond same (Some v) y)
found_step true v x y h = refl
found_step false v x y h = h

found : {Y Z : Type 0} (q : List ℕ) (es : List (String Y × Vec ℕ Z)) →
    find (slice_cmp nat_cmp) q (map file_entry es) ≡ bytes_of (lookup (is_at (λ k. slice_cmp nat_cmp q (string_bytes k))) es)
found q [] = refl
found q (e ∷ es) = found_step (is_eq (slice_cmp nat_cmp q (string_bytes e.0))) e.1 _ _ (found q es)

-- a name has the bytes that the stored map has for it
pub get-files_of : {Y Z : Type 0} (m : BTreeMap (String Y) (Vec ℕ Z)) (q : List ℕ) → get (files_of m.entries) q ≡ bytes_of (get_by_text m q)
get-files_of m q = get-from_entries nat_list_cmp_total (map file_entry m.entries) q ∙ found q m.entries

update_step : {Z : Type 0} (a b : Bool) (v : Vec ℕ Z) (x : Option (Vec ℕ Z)) (y : Option (List ℕ)) → a ≡ b → y ≡ bytes_of x →
    bytes_of (cond a (Some v) x) ≡ cond b (Some v.items) y
update_step true b v x y e h = ap (λ t. cond t (Some v.items) y) e
update_step false b v x y e h = sym h ∙ ap (λ t. cond t (Some v.items) y) e

same_text : (a b : List ℕ) → bytes_eq a b ≡ eq_by_cmp (slice_cmp nat_cmp) b a
same_text a b = sym (is_eq-slice_cmp a b) ∙ (eq_by_cmp_equiv nat_list_cmp_total).symm a b

-- to store bytes under a name is to insert them
pub files_of-insert : {Y Z : Type 0} (m n : BTreeMap (String Y) (Vec ℕ Z)) (name : List ℕ) (v : Vec ℕ Z) →
    UpdatesBy string_cmp (λ k. slice_cmp nat_cmp name (string_bytes k)) m n (Some v) →
    files_of n.entries ≡ insert (files_of m.entries) name v.items
files_of-insert m n name v updates =
    same_map nat_list_cmp_total (slice_cmp-IsAntisymmetric nat_cmp-IsAntisymmetric) (files_of n.entries)
    (insert (files_of m.entries) name v.items)
    (λ q. get-files_of n q
    ∙ ap bytes_of (btree_map_updates_text name m n (Some v) updates q)
    ∙ update_step (bytes_eq name q) (eq_by_cmp (slice_cmp nat_cmp) q name) v (get_by_text m q) (get (files_of m.entries) q)
    (same_text name q) (get-files_of m q)
    ∙ sym (get-insert nat_list_cmp_total (files_of m.entries) name v.items q))
