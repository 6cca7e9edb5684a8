-- Nested calls return in order: inductions over the turns of a run, by how each turn changes the depth.
use Rattle.std.proofs.Common.{rules, ◌≡◌, ℕ, zero, suc, ◌+◌, ◌-◌, ◌<◌, ◌≤◌, ◌⊎◌, [], ◌∷◌, ◌++◌, length, take, refl, sym, ap, subst, ◌∙◌}
use Rattle.std.proofs.{Common.{inl, inr, arith}, lemmas.List.{take-append-le, length_push, same_from_push}, Math.Seq.{take-length}}
use Rattle.std.proofs.lemmas.Bool.{cases_lt}
use Rattle.client_world.specs.{declared.calls.Call.{Call}, declared.calls.Call.TheVariants.{Int, Far, Iret, Reflect}}
use Rattle.client_world.specs.{declared.calls.Record.{Record}, declared.calls.Record.TheVariants.{Sim, Back, Exc}, World.{HostWorld, World}}
use Rattle.host_run.specs.Nested.{PushesRecord, HasTurns, IsHandedOver, LastPush, PopsRecord, Matched, Stacked, host_depth, kept, popped}
use Rattle.host_run.specs.{Nested.{pushed}, RealCalls.{InterruptSource, ReflectedFrom, StartsRealCall, from_anywhere, from_client}}
use Rattle.host_run.specs.RealCalls.{from_outside}

-- a turn that stays above a depth keeps the records up to it
pub turn_stays : {source : InterruptSource} (w v : HostWorld) (n : ℕ) → Stacked source w v → n ≤ host_depth w → n ≤ host_depth v →
    take n v.machine.calls ≡ take n w.machine.calls
turn_stays w v n (kept e) a b = ap (take n) e
turn_stays w v n (pushed r e h) a b = ap (take n) e ∙ take-append-le n w.machine.calls (r ∷ []) a
turn_stays w v n (popped r e h) a b = sym (ap (take n) e ∙ take-append-le n v.machine.calls (r ∷ []) b)

-- what stays after turn i stays until turn j
pub stays : (source : ℕ → InterruptSource) (w : ℕ → HostWorld) (n i j d : ℕ) → HasTurns source w n → j < n → ((k : ℕ) → i < k → k ≤ j →
    d < host_depth (w k)) → (m k : ℕ) → k ≡ m + (i + 1) → k ≤ j → take (d + 1) (w k).machine.calls ≡ take (d + 1) (w (i + 1)).machine.calls
stays source w n i j d turns jn above zero k e le = let f : k ≡ i + 1 = omega arith in ap (λ (q : ℕ). take (d + 1) (w q).machine.calls) f
stays source w n i j d turns jn above (suc m) k e le =
    let p : ℕ = m + (i + 1) in
    let f : k ≡ p + 1 = omega arith in
    let so_far : take (d + 1) (w p).machine.calls ≡ take (d + 1) (w (i + 1)).machine.calls =
    stays source w n i j d turns jn above m p refl (omega arith) in
    let here : d < host_depth (w p) = above p (omega arith) (omega arith) in
    let there : d < host_depth (w (p + 1)) = above (p + 1) (omega arith) (omega arith) in
    let turn = turns p (omega arith) in
    ap (λ (q : ℕ). take (d + 1) (w q).machine.calls) f ∙ turn_stays (w p) (w (p + 1)) (d + 1) turn (omega arith) (omega arith) ∙ so_far

-- how the depth moves
pub moves : {source : InterruptSource} (w v : HostWorld) → Stacked source w v → (host_depth v ≡ host_depth w)
    ⊎ ((host_depth v ≡ host_depth w + 1) ⊎ (host_depth v + 1 ≡ host_depth w))
moves w v (kept e) = inl (ap length e)
moves w v (pushed r e h) = inr (inl (ap length e ∙ length_push w.machine.calls r))
moves w v (popped r e h) = inr (inr (sym (ap length e ∙ length_push v.machine.calls r)))

-- a run that comes from below a depth to above it has a turn that pushes there
pub record Crossing (w : ℕ → HostWorld) (d a b : ℕ) : Type 0 where
  pub at : ℕ
  pub from : a ≤ at
  pub to : at < b
  pub below : host_depth (w at) ≡ d
  pub pushes : host_depth (w (at + 1)) ≡ host_depth (w at) + 1

pub crossing : (source : ℕ → InterruptSource) (w : ℕ → HostWorld) (n d a : ℕ) → HasTurns source w n → host_depth (w a) ≤ d → (m b : ℕ) →
    b ≡ m + a → b ≤ n → d < host_depth (w b) → Crossing w d a b
crossing source w n d a turns low zero b e le high =
    absurd (let f : host_depth (w b) ≡ host_depth (w a) = ap (λ (q : ℕ). host_depth (w q)) (omega arith) in omega arith)
crossing source w n d a turns low (suc m) b e le high =
    let p : ℕ = m + a in
    let f : b ≡ p + 1 = omega arith in
    let top : d < host_depth (w (p + 1)) = subst (λ (q : ℕ). d < host_depth (w q)) f high in
    let move : (host_depth (w (p + 1)) ≡ host_depth (w p)) ⊎ ((host_depth (w (p + 1)) ≡ host_depth (w p) + 1)
    ⊎ (host_depth (w (p + 1)) + 1 ≡ host_depth (w p))) = moves (w p) (w (p + 1)) (turns p (omega arith)) in
    elim (cases_lt d (host_depth (w p))) [
      | inr below ↦ record { at = p; from = omega arith; to = omega arith; below = omega (arith, move); pushes = omega (arith, move) }
      | inl above ↦
          let c : Crossing w d a p = crossing source w n d a turns low m p refl (omega arith) above in
          record { at = c.at; from = c.from; to = omega arith; below = c.below; pushes = c.pushes }
    ]

pub matched : (source : ℕ → InterruptSource) (w : ℕ → HostWorld) (n i j : ℕ) → HasTurns source w n → j < n → LastPush w i j → Matched w i j
matched source w n i j turns jn p = record {
  before = p.before;
  above = λ (k : ℕ) (ik : i < k) (kj : k ≤ j). elim (cases_lt (host_depth (w i)) (host_depth (w k))) [
    | inl high ↦ high
    | inr low ↦
        let c : Crossing w (host_depth (w i)) k j =
        crossing source w n (host_depth (w i)) k turns low (j - k) j (omega arith) (omega arith) (omega (arith, p.pops, p.level)) in
        absurd (p.last c.at (omega (arith, c.from)) c.to c.below c.pushes)
  ];
  after = sym p.level;
}

handed_from : (source : ℕ → InterruptSource) (w : ℕ → HostWorld) (n i j : ℕ) → HasTurns source w n → j < n → Matched w i j → (r : Record) →
    (w (i + 1)).machine.calls ≡ (w i).machine.calls ++ (r ∷ []) → PushesRecord (source i) (w i) r (w (i + 1)) → (s : Record) →
    (w j).machine.calls ≡ (w (j + 1)).machine.calls ++ (s ∷ []) → PopsRecord (w j) s (w (j + 1)) → IsHandedOver (source i) w i j
handed_from source w n i j turns jn m r e h s f g =
    let d : ℕ = host_depth (w i) in
    let first : take (d + 1) (w (i + 1)).machine.calls ≡ (w i).machine.calls ++ (r ∷ []) =
    ap (take (d + 1)) e ∙ (ap (λ (q : ℕ). take q ((w i).machine.calls ++ (r ∷ []))) (sym (length_push (w i).machine.calls r))
    ∙ take-length ((w i).machine.calls ++ (r ∷ []))) in
    let held : (k : ℕ) → i < k → k ≤ j → take (d + 1) (w k).machine.calls ≡ (w i).machine.calls ++ (r ∷ []) =
    λ (k : ℕ) (ik : i < k) (kj : k ≤ j). stays source w n i j d turns jn m.above (k - (i + 1)) k (omega arith) kj ∙ first in
    let full : host_depth (w j) ≡ d + 1 = ap length f ∙ (length_push (w (j + 1)).machine.calls s ∙ ap (λ (q : ℕ). q + 1) m.after) in
    let all : (w j).machine.calls ≡ (w i).machine.calls ++ (r ∷ []) =
    sym (ap (λ (q : ℕ). take q (w j).machine.calls) (sym full) ∙ take-length (w j).machine.calls) ∙ held j m.before (omega arith) in
    let same : ((w (j + 1)).machine.calls ≡ (w i).machine.calls) × (s ≡ r) =
    same_from_push (w (j + 1)).machine.calls (w i).machine.calls s r (sym f ∙ all) in
    record {
      innermost = r;
      push = e;
      pushes = h;
      stays = held;
      pop = all;
      pops = subst (λ (q : Record). PopsRecord (w j) q (w (j + 1))) same.1 g;
      rest = same.0;
    }

pub handed_over : (source : ℕ → InterruptSource) (w : ℕ → HostWorld) (n i j : ℕ) → HasTurns source w n → j < n → Matched w i j →
    IsHandedOver (source i) w i j
handed_over source w n i j turns jn m =
    let up : host_depth (w i) < host_depth (w (i + 1)) = m.above (i + 1) (omega arith) (omega (arith, m.before)) in
    let down : host_depth (w (j + 1)) < host_depth (w j) = omega (arith, m.after, m.above j m.before (omega arith)) in
    elim (turns i (omega (arith, m.before))) [
      | kept e ↦ absurd (omega (arith, ap length e))
      | popped r e h ↦ absurd (omega (arith, ap length e, length_push (w (i + 1)).machine.calls r))
      | pushed r e h ↦
          elim (turns j jn) [
            | kept f ↦ absurd (omega (arith, ap length f))
            | pushed s f g ↦ absurd (omega (arith, ap length f, length_push (w j).machine.calls s))
            | popped s f g ↦ handed_from source w n i j turns jn m r e h s f g
          ]
    ]

by_one : {source : InterruptSource} (w v : HostWorld) → Stacked source w v → (host_depth v ≤ host_depth w + 1)
    × (host_depth w ≤ host_depth v + 1)
by_one w v turn = let move = moves w v turn in (omega (arith, move), omega (arith, move))

pub changes_by_one : (source : ℕ → InterruptSource) (w : ℕ → HostWorld) (n k : ℕ) → HasTurns source w n → k < n →
    (host_depth (w (k + 1)) ≤ host_depth (w k) + 1) × (host_depth (w k) ≤ host_depth (w (k + 1)) + 1)
changes_by_one source w n k turns less = by_one (w k) (w (k + 1)) (turns k less)

-- ---- what holds of one source holds of either

from_either : (source : InterruptSource) (w client : World) → ReflectedFrom source w client → ReflectedFrom from_anywhere w client
from_either from_client w client from = inl from
from_either from_outside w client from = inr from
from_either from_anywhere w client from = from

starts_anywhere : (source : InterruptSource) (w v : HostWorld) (call : Call) (r : Record) → StartsRealCall source w call r v →
    StartsRealCall from_anywhere w call r v
starts_anywhere source w v (Int n) r h = h
starts_anywhere source w v Far r h = h
starts_anywhere source w v Iret r h = h
starts_anywhere source w v (Reflect n) r h = let from = from_either source w.machine h.client h.from in search rules

pushes_anywhere : (source : InterruptSource) (w v : HostWorld) (r : Record) → PushesRecord source w r v → PushesRecord from_anywhere w r v
pushes_anywhere source w v (Sim call saved vif at) h = starts_anywhere source w v call (Sim call saved vif at) h
pushes_anywhere source w v (Back slot at) h = h
pushes_anywhere source w v (Exc number code) h = h

pub anywhere : (source : InterruptSource) (w v : HostWorld) → Stacked source w v → Stacked from_anywhere w v
anywhere source w v (kept e) = kept e
anywhere source w v (pushed r e h) = pushed r e (pushes_anywhere source w v r h)
anywhere source w v (popped r e h) = popped r e h
