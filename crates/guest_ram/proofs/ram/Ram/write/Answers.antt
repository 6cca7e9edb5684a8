use Rattle.std.proofs.Common.{◌≡◌, ◌+◌, ◌*◌, ◌/◌, ℕ, List, length, get_or, refl, sym, ap, ◌∙◌, set, arith}
use Rattle.guest_ram.specs.Bytes.{put, region, word_of, with_word, dword, dword_bytes}
use Rattle.guest_ram.proofs.PutLaws.{no_region, taken_more, all_taken, word_more, dword_more}
use Rattle.guest_ram.proofs.ram.Ram.write.Goals as goal

pub loop-k-init : goal.loop-k-init
loop-k-init c = (refl, sym (no_region c.args.self.now c.args.bytes.now c.args.at 0))

pub loop-k-preserved : goal.loop-k-preserved
loop-k-preserved c =
    let b = c.args.self.now in let at = c.args.at in let xs = c.args.bytes.now in let i = 4 * c.loop-k.k in
    let on : i + 4 ≡ 4 * (c.loop-k.k + 1) = omega arith in (
      c.set32.ensures.size ∙ c.loop-k.invariant.0,
      c.set32.ensures.bytes ∙ ap (λ (v : ℕ). put c.loop-k.self (at + i) (dword_bytes v)) c.doubleword.ensures
          ∙ ap (λ (l : List ℕ). put l (at + i) (dword_bytes (dword xs i))) c.loop-k.invariant.1
          ∙ dword_more b at xs i (λ j. (c.type_inv.bytes j).fits) (omega arith) ∙ ap (λ (j : ℕ). put b at (region xs 0 j)) on,
    )

pub loop-k-2-init : goal.loop-k-2-init
loop-k-2-init c =
    let same : 4 * c.loop-k.k ≡ 2 * (2 * (length c.args.bytes.now / 4)) = omega arith in
    (c.loop-k.invariant.0, c.loop-k.invariant.1 ∙ ap (λ (j : ℕ). put c.args.self.now c.args.at (region c.args.bytes.now 0 j)) same)

pub loop-k-2-preserved : goal.loop-k-2-preserved
loop-k-2-preserved c =
    let b = c.args.self.now in let at = c.args.at in let xs = c.args.bytes.now in let i = 2 * c.loop-k-2.k in
    let on : i + 2 ≡ 2 * (c.loop-k-2.k + 1) = omega arith in (
      c.set16.ensures.size ∙ c.loop-k-2.invariant.0,
      c.set16.ensures.bytes ∙ ap (λ (v : ℕ). with_word c.loop-k-2.self (at + i) v) c.word.ensures
          ∙ ap (λ (l : List ℕ). with_word l (at + i) (word_of xs i)) c.loop-k-2.invariant.1
          ∙ word_more b at xs i (λ j. (c.type_inv.bytes j).fits) (omega arith) ∙ ap (λ (j : ℕ). put b at (region xs 0 j)) on,
    )

pub loop-i-init : goal.loop-i-init
loop-i-init c =
    let same : 2 * c.loop-k-2.k ≡ 2 * (length c.args.bytes.now / 2) = omega arith in
    (c.loop-k-2.invariant.0, c.loop-k-2.invariant.1 ∙ ap (λ (j : ℕ). put c.args.self.now c.args.at (region c.args.bytes.now 0 j)) same)

pub loop-i-preserved : goal.loop-i-preserved
loop-i-preserved c = (
  c.set8.ensures.size ∙ c.loop-i.invariant.0,
  c.set8.ensures.bytes ∙ ap (λ (b : List ℕ). set b (c.args.at + c.loop-i.i) (get_or c.args.bytes.now c.loop-i.i 0)) c.loop-i.invariant.1
      ∙ taken_more c.args.self.now c.args.at c.args.bytes.now c.loop-i.i (omega arith),
)

pub returns-clause-bytes : goal.returns-clause-bytes
returns-clause-bytes c =
    let all : c.loop-i.i ≡ length c.args.bytes.now = omega arith in
    c.loop-i.invariant.1 ∙ ap (λ (i : ℕ). put c.args.self.now c.args.at (region c.args.bytes.now 0 i)) all
    ∙ ap (put c.args.self.now c.args.at) (all_taken c.args.bytes.now)
