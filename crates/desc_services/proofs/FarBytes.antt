-- The eight bytes of a packed descriptor are bytes, and what they are unpacked to fits; a limit in bytes is the last byte that is allowed.
use Rattle.std.proofs.Common.{◌≡◌, ◌%◌, ℕ, Bool, true, false, ◌&&◌, not, refl, arith, nat_lt, nat_eq, ◌≤◌, ◌<◌, ◌/◌, ◌^◌, inl, inr, List}
use Rattle.std.proofs.{Common.{[], ◌∷◌, subst, None, Some}, lemmas.Bool.{eqb-true, not-false, cases_Bool, cond-true, cond-false}}
use Rattle.client_world.specs.{declared.descriptors.Desc.{Desc}, Descriptor.{byte_limit, FitsDescriptor, access_byte, flags_byte}}
use Rattle.client_world.specs.{Descriptor.{kind_bits, packed}, declared.descriptors.Kind.{Kind}}
use Rattle.client_world.specs.declared.descriptors.Kind.TheVariants.{Data, Code}
use Rattle.desc_services.specs.Rows.{is_no_limit, desc_with_limit}
use Rattle.desc_table.specs.Unpacked.{described, is_packed, unpacked}
use Rattle.desc_table.proofs.PackedLaws.{fits-described}
use Rattle.guest_ram.specs.Bytes.{AreBytes}
use Rattle.client_world.proofs.FlagBits.{weight_fits}
use Rattle.guest_ram.proofs.ByteLists.{more_bytes, no_bytes}

by_size : (d : Desc) (limit : ℕ) (long : Bool) → nat_lt 0xFFFFF limit ≡ long → (long && not (nat_eq (limit % 0x1000) 0xFFF)) ≡ false →
    byte_limit (desc_with_limit d limit) ≡ limit
by_size d limit true e fine =
    let last : limit % 0x1000 ≡ 0xFFF = eqb-true (limit % 0x1000) 0xFFF (not-false (nat_eq (limit % 0x1000) 0xFFF) fine) in
    rw e (omega arith)
by_size d limit false e fine = rw e refl

pub limit_kept : (d : Desc) (limit : ℕ) → is_no_limit limit ≡ false → byte_limit (desc_with_limit d limit) ≡ limit
limit_kept d limit e = by_size d limit (nat_lt 0xFFFFF limit) refl e

kind_fits : (k : Kind) → kind_bits k ≤ 10
kind_fits (Data writable down) =
    let one = weight_fits writable 2 in
    let other = weight_fits down 4 in
    omega arith
kind_fits Code = omega arith

access_fits : (d : Desc) → access_byte d < 0x100
access_fits d =
    let present = weight_fits d.present 0x80 in
    let kind = kind_fits d.kind in
    omega arith

flags_fit : (d : Desc) → d.limit < 2 ^ 20 → flags_byte d < 0x100
flags_fit d small =
    let avl = weight_fits d.avl 0x10 in
    let size = weight_fits d.size 0x40 in
    let gran = weight_fits d.gran 0x80 in
    omega arith

pub packed_bytes : (d : Desc) → FitsDescriptor d → AreBytes (packed d)
unfolding packed
packed_bytes d fits =
    let base = fits.base in
    let a : d.limit % 0x100 < 0x100 = omega arith in
    let b : d.limit / 0x100 % 0x100 < 0x100 = omega arith in
    let c : d.base % 0x100 < 0x100 = omega arith in
    let e : d.base / 0x100 % 0x100 < 0x100 = omega arith in
    let f : d.base / 0x10000 % 0x100 < 0x100 = omega arith in
    let g : d.base / 0x1000000 < 0x100 = omega arith in
    let t7 : List ℕ = d.base / 0x1000000 ∷ [] in
    let t6 : List ℕ = flags_byte d ∷ t7 in
    let t5 : List ℕ = access_byte d ∷ t6 in
    let t4 : List ℕ = d.base / 0x10000 % 0x100 ∷ t5 in
    let t3 : List ℕ = d.base / 0x100 % 0x100 ∷ t4 in
    let t2 : List ℕ = d.base % 0x100 ∷ t3 in
    let t1 : List ℕ = d.limit / 0x100 % 0x100 ∷ t2 in
    more_bytes (d.limit % 0x100) t1 a
    (more_bytes (d.limit / 0x100 % 0x100) t2 b (more_bytes (d.base % 0x100) t3 c (more_bytes (d.base / 0x100 % 0x100) t4 e
    (more_bytes (d.base / 0x10000 % 0x100) t5 f
    (more_bytes (access_byte d) t6 (access_fits d) (more_bytes (flags_byte d) t7 (flags_fit d fits.limit)
    (more_bytes (d.base / 0x1000000) [] g no_bytes)))))))

pub unpacked_fits : (b : List ℕ) (d : Desc) → AreBytes b → unpacked b 0 ≡ Some d → FitsDescriptor d
unfolding unpacked
unpacked_fits b d bytes e = elim (cases_Bool (is_packed b 0)) [
  | inl t ↦ (let same : described b 0 ≡ d = cc (cond-true (is_packed b 0) (Some (described b 0)) None t, e) in
      subst FitsDescriptor same (fits-described b (λ i small. bytes i)))
  | inr t ↦ absurd (let no = cond-false (is_packed b 0) (Some (described b 0)) None t in cc (no, e))
]
