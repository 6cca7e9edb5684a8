use Rattle.std.proofs.Common.{◌≡◌, ◌+◌, ◌<◌, ◌++◌, ℕ, List, [], ◌∷◌, length, get_or, sym, ap, ◌∙◌, set, take, arith, length-set, add-one}
use Rattle.{std.proofs.{Math.Seq.{take-suc-set}, lemmas.List.{length-replicate, take_all}}, guest_ram.specs.Bytes.{region}}
use Rattle.guest_ram.proofs.PutLaws.{no_bytes, region_more}
use Rattle.guest_ram.proofs.ram.Ram.get.Goals as goal

-- one more byte of the run
taken : (b run : List ℕ) (at i v : ℕ) → take i run ≡ region b at i → v ≡ get_or b (at + i) 0 → i < length run → at + i < length b →
    take (i + 1) (set run i v) ≡ region b at (i + 1)
taken b run at i v e r within room =
    ap (λ (k : ℕ). take k (set run i v)) (add-one i) ∙ take-suc-set run i v within
    ∙ ap (λ (xs : List ℕ). xs ++ v ∷ []) e ∙ ap (λ (x : ℕ). region b at i ++ x ∷ []) r ∙ sym (region_more b at i room)

whole : (b run : List ℕ) (at n i : ℕ) → length run ≡ n → i ≡ n → take i run ≡ region b at i → run ≡ region b at n
whole b run at n i long e t = sym (take_all i run (omega (arith, long))) ∙ t ∙ ap (region b at) e

pub loop-i-init : goal.loop-i-init
loop-i-init g c = (length-replicate g.row.N 0, sym (no_bytes c.args.self.now c.args.at))

pub loop-i-preserved : goal.loop-i-preserved
loop-i-preserved g c = (
  length-set c.loop-i.run c.loop-i.i c.byte_at.result ∙ c.loop-i.invariant.0,
  taken c.args.self.now c.loop-i.run c.args.at c.loop-i.i c.byte_at.result c.loop-i.invariant.1 c.byte_at.ensures
      (omega (arith, c.loop-i.invariant.0)) (omega arith),
)

pub returns : goal.returns
returns g c = whole c.args.self.now c.loop-i.run c.args.at g.row.N c.loop-i.i c.loop-i.invariant.0 (omega arith) c.loop-i.invariant.1
