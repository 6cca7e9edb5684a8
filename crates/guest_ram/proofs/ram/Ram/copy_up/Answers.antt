use Rattle.std.proofs.Common.{◌≡◌, ◌+◌, ◌<◌, ◌≤◌, ℕ, List, length, get_or, refl, sym, ap, ◌∙◌, set, arith}
use Rattle.{guest_ram.specs.Bytes.{put, region}, guest_ram.proofs.PutLaws.{put_above, length-region, no_region, moved_up}}
use Rattle.guest_ram.proofs.ram.Ram.copy_up.Goals as goal

-- the byte that is read is still as it was
moved : (b now new : List ℕ) (from to i v : ℕ) → now ≡ put b to (region b from i) → v ≡ get_or now (from + i) 0 → new ≡ set now (to + i) v →
    to ≤ from → from + i < length b → new ≡ put b to (region b from (i + 1))
moved b now new from to i v e r w order room =
    let old : v ≡ get_or b (from + i) 0 = r ∙ ap (λ (l : List ℕ). get_or l (from + i) 0) e
    ∙ put_above b to (region b from i) (from + i) (omega (arith, length-region b from i (omega arith))) in
    w ∙ ap (λ (l : List ℕ). set l (to + i) v) e ∙ ap (λ (x : ℕ). set (put b to (region b from i)) (to + i) x) old
    ∙ moved_up b from to i room

pub loop-i-init : goal.loop-i-init
loop-i-init c = (refl, sym (no_region c.args.self.now c.args.self.now c.args.to c.args.from))

pub loop-i-preserved : goal.loop-i-preserved
loop-i-preserved c = (
  c.set8.ensures.size ∙ c.loop-i.invariant.0,
  moved c.args.self.now c.loop-i.self c.set8.new.self c.args.from c.args.to c.loop-i.i c.get8-v.result c.loop-i.invariant.1 c.get8-v.ensures
      c.set8.ensures.bytes
      c.requires.order (omega arith),
)
