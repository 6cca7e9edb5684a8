use Rattle.std.proofs.Common.{◌≡◌, ℕ, ◌*◌, List, length, get_or, zero, suc, replicate, refl, ap, ◌∙◌, mul_comm, IfOk, Ok, Err, Result}
use Rattle.{std.specs.declared.alloc.AllocError.{AllocError}, guest_ram.specs.Listed.{zeros}, guest_ram.proofs.ListedLaws.{length-zeros}}
use Rattle.guest_ram.proofs.ram.Ram.new.Goals as goal

sized : (r : Result (List ℕ) AllocError) (m : ℕ) → IfOk r (λ ram. ram ≡ zeros (4096 * m)) → IfOk r (λ ram. length ram ≡ m * 4096)
sized (Ok ram) m e = ap length e ∙ length-zeros (4096 * m) ∙ mul_comm 4096 m
sized (Err x) m e = tt

each_zero : (n at : ℕ) → ◌≡◌ {A = ℕ} (get_or (zeros n) at 0) 0
unfolding zeros
each_zero n at = each n at
  where
    each : (n at : ℕ) → ◌≡◌ {A = ℕ} (get_or (replicate n 0) at 0) 0
    each zero at = refl
    each (suc n) zero = refl
    each (suc n) (suc at) = each n at

zeroed : (r : Result (List ℕ) AllocError) (n : ℕ) → IfOk r (λ ram. ram ≡ zeros n) → IfOk r (λ ram. (at : ℕ) → get_or ram at 0 ≡ 0)
zeroed (Ok ram) n e = λ at. ap (λ (b : List ℕ). get_or b at 0) e ∙ each_zero n at
zeroed (Err x) n e = tt

pub returns-clause-size : goal.returns-clause-size
returns-clause-size c = sized c.zeroed.result c.args.frames c.zeroed.ensures

pub returns-clause-zero : goal.returns-clause-zero
returns-clause-zero c = zeroed c.zeroed.result (4096 * c.args.frames) c.zeroed.ensures
