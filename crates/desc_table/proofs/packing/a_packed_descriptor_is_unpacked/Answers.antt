use Rattle.desc_table.proofs.{PackedLaws.{unpacked-packed, packs_one}, packing.a_packed_descriptor_is_unpacked.Goals.{returns as goal}}

pub returns : goal
returns c = record { again = unpacked-packed; one = packs_one }
