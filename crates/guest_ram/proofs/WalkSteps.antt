-- Two steps of walks that the library lacks.
--     says2        a goal P ∗ (⌜φ⌝ ∗ ⌜ψ⌝), as two plain clauses: both are shown, and P is left
--     big_lit      a constant of 2 ^ 16 or more
use Prim.Native.Nat.{ℕ}
use mathlib.Core.List.{List}
use seplogic.Ra.Ura.{Ura}
use mir.Syntax.{Width, int_big}
use mir.Val.{vint, Fits}
use base.Logic.{SProp, sep, emp, ent, via, comm∗, mono_l, emp∗, guard_i}
use contract.Monad.{fact, fact_i}
use prog.Wp.{Env}
use types.Kit.{Item, prop, Step, step}
use types.Logic.{Logic}
use types.Run.{Opd}

both : {M : Type 1} (𝓤 : Ura M) (φ ψ : Type 0) → φ → ψ → ent 𝓤 (emp 𝓤) (sep 𝓤 (fact 𝓤 φ) (fact 𝓤 ψ))
both 𝓤 φ ψ x y = via 𝓤 (fact 𝓤 ψ) (fact_i 𝓤 ψ (emp 𝓤) y)
    (via 𝓤 (sep 𝓤 (emp 𝓤) (fact 𝓤 ψ)) (emp∗ 𝓤 (fact 𝓤 ψ)) (mono_l 𝓤 (fact 𝓤 ψ) (fact_i 𝓤 φ (emp 𝓤) x)))

pub says2 : {M : Type 1} {𝓤 : Ura M} {𝓛 : Logic 𝓤} {K : Type 0} {Γ : List (Item 𝓤)} → K → {φ ψ : Type 0} {P : SProp 𝓤} → φ → ψ →
    Step K 𝓛 Γ (prop P) Γ (prop (sep 𝓤 P (sep 𝓤 (fact 𝓤 φ) (fact 𝓤 ψ))))
says2 {𝓤 = 𝓤} t {φ} {ψ} {P} x y =
    let Q = sep 𝓤 (fact 𝓤 φ) (fact 𝓤 ψ) in
    step (λ s.
    record { prf = via 𝓤 P s.prf (via 𝓤 (sep 𝓤 (emp 𝓤) P) (emp∗ 𝓤 P) (via 𝓤 (sep 𝓤 Q P) (mono_l 𝓤 P (both 𝓤 φ ψ x y)) (comm∗ 𝓤 Q P))) })

pub big_lit : {M : Type 1} {𝓤 : Ura M} {𝓛 : Logic 𝓤} {K : Type 0} {Γ : List (Item 𝓤)} {E : Env 𝓤 𝓛.H} → K → {w : Width} {n : ℕ} → Fits w n →
    Opd K 𝓛 Γ E (int_big w n) (vint w n)
big_lit {𝓤 = 𝓤} t {w} {n} z = record { go = λ Kt h. via 𝓤 (Kt (vint w n)) h (guard_i 𝓤 (Fits w n) (Kt (vint w n)) z) }
