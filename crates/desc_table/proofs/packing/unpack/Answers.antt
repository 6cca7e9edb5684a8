use Rattle.std.proofs.{Common.{◌≡◌, true, not, slice_index, subst, sym}, lemmas.Bool.{and_from}}
use Rattle.client_world.specs.{declared.descriptors.Desc.{Desc}, Registers.{has_bit}, Descriptor.{FitsDescriptor, Packs}}
use Rattle.desc_table.specs.Unpacked.{is_packed, is_access_byte, with_accessed}
use Rattle.desc_table.proofs.PackedLaws.{packs-described, fits-described}
use Rattle.desc_table.proofs.packing.unpack.Goals as goal

pub returns-then-not-is_set-clause-packs : goal.returns-then-not-is_set-clause-packs
returns-then-not-is_set-clause-packs c =
    let b = c.args.b.now in
    let good : is_access_byte (slice_index b 5) ≡ true = cc in
    let clear : not (has_bit (slice_index b 6) 0x20) ≡ true = cc in
    let whole : is_packed b 0 ≡ true =
    and_from (is_access_byte (slice_index b 5)) (not (has_bit (slice_index b 6) 0x20)) good clear in
    subst (λ (d : Desc). Packs d (with_accessed b)) (sym c.describe.ensures)
    (packs-described b c.told-b (λ i small. c.fits-b i) whole)

pub returns-then-not-is_set-clause-fits : goal.returns-then-not-is_set-clause-fits
returns-then-not-is_set-clause-fits c = subst FitsDescriptor (sym c.describe.ensures) (fits-described c.args.b.now (λ i _. c.fits-b i))
