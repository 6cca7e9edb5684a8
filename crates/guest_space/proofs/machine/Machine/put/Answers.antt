use Rattle.std.proofs.Common.{◌+◌, ◌%◌, ◌∙◌, sym, ap, refl, [], ◌∷◌, length, slice_index, arith}
use Rattle.client_world.specs.{declared.place.Place.{Place}, declared.place.Place.TheVariants.{Nothing}, Access.{places_from}}
use Rattle.{client_world.proofs.PlaceLaws.{length-places_from, places_from-at}, guest_space.specs.Transfer.{with_places}}
use Rattle.guest_space.proofs.{Puts.{put_step, put_end, put_keeps}, Runs.{all_touch}}
use Rattle.guest_space.proofs.machine.Machine.put.Goals as goal

pub loop-i-init : goal.loop-i-init
loop-i-init c = record { left = refl; places = λ at. refl }

pub put8-requires : goal.put8-requires
put8-requires c = grind (arith, all_touch)

pub loop-i-preserved : goal.loop-i-preserved
loop-i-preserved c =
    let blocks = c.args.self.now.world.blocks in
    let bytes = c.args.bytes.now in
    let places = places_from blocks c.args.lin (length bytes) in
    let here = c.loop-i.invariant.places ((c.args.lin + c.loop-i.i) % 0x100000000)
    ∙ sym (places_from-at blocks c.args.lin (length bytes) c.loop-i.i Nothing c.loop-i-test.true) in
    let put = c.put8.ensures ∙ ap (λ (p : Place). with_places c.loop-i.self (p ∷ []) (slice_index bytes c.loop-i.i ∷ [])) here in
    grind (arith, length-places_from, put_keeps, put_step)

pub returns : goal.returns
returns c =
    let blocks = c.args.self.now.world.blocks in
    put_end c.loop-i.self _ (places_from blocks c.args.lin (length c.args.bytes.now)) c.args.bytes.now c.loop-i.i
    (length-places_from blocks c.args.lin (length c.args.bytes.now)) c.loop-i-test.false c.loop-i.invariant.left
