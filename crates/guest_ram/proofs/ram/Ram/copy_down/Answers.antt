use Rattle.std.proofs.Common.{◌≡◌, ◌+◌, ◌-◌, ◌<◌, ◌≤◌, ℕ, List, length, get_or, refl, sym, ap, ◌∙◌, set, arith}
use Rattle.{guest_ram.specs.Bytes.{put, region}, guest_ram.proofs.PutLaws.{put_below, no_region, moved_down}}
use Rattle.guest_ram.proofs.ram.Ram.copy_down.Goals as goal

-- the byte that is read is still as it was: k are left, and the last of them is j
moved : (b now new : List ℕ) (from to k j i v : ℕ) → k ≡ j + 1 → now ≡ put b (to + k) (region b (from + k) i) →
    v ≡ get_or now (from + j) 0 → new ≡ set now (to + j) v →
    from ≤ to → from + j < length b → new ≡ put b (to + j) (region b (from + j) (i + 1))
moved b now new from to k j i v next e r w order room =
    let up : to + k ≡ to + j + 1 = omega arith in
    let on : from + k ≡ from + j + 1 = omega arith in
    let is : now ≡ put b (to + j + 1) (region b (from + j + 1) i) = e ∙ ap (λ (m : ℕ). put b m (region b (from + k) i)) up
    ∙ ap (λ (m : ℕ). put b (to + j + 1) (region b m i)) on in
    let old : v ≡ get_or b (from + j) 0 = r ∙ ap (λ (l : List ℕ). get_or l (from + j) 0) is
    ∙ put_below b (to + j + 1) (region b (from + j + 1) i) (from + j) (omega arith) in
    w ∙ ap (λ (l : List ℕ). set l (to + j) v) is ∙ ap (λ (x : ℕ). set (put b (to + j + 1) (region b (from + j + 1) i)) (to + j) x) old
    ∙ moved_down b (from + j) (to + j) i room

pub loop-i-init : goal.loop-i-init
loop-i-init c = (refl, sym (no_region c.args.self.now c.args.self.now (c.args.to + (c.args.n - 0)) (c.args.from + (c.args.n - 0))))

pub loop-i-preserved : goal.loop-i-preserved
loop-i-preserved c =
    let n = c.args.n in let i = c.loop-i.i in
    let same : n - 1 - i ≡ n - (i + 1) = omega arith in (
      c.set8.ensures.size ∙ c.loop-i.invariant.0,
      moved c.args.self.now c.loop-i.self c.set8.new.self c.args.from c.args.to (n - i) (n - 1 - i) i c.get8-v.result (omega arith)
          c.loop-i.invariant.1 c.get8-v.ensures c.set8.ensures.bytes
          c.requires.order (omega arith)
          ∙ ap (λ (j : ℕ). put c.args.self.now (c.args.to + j) (region c.args.self.now (c.args.from + j) (i + 1))) same,
    )
