-- The innermost record, where the records are some with one more.
use Rattle.std.proofs.{Common.{arith, ◌≡◌, ◌∙◌, ◌-◌, List, [], ◌∷◌, ◌++◌, length, ap, refl, Some}, lemmas.List.{length_push}}
use Rattle.std.specs.List.{slice_get}
use Rattle.client_world.specs.{declared.calls.Record.{Record}, World.{World}}
use Rattle.mode_stack.specs.Stack.{top}

last_of : (calls : List Record) (r : Record) → slice_get (calls ++ r ∷ []) (length calls) ≡ Some r
last_of [] r = refl
last_of (x ∷ calls) r = last_of calls r

pub innermost_of : (w : World) (others : List Record) (r : Record) → w.calls ≡ others ++ r ∷ [] → top w ≡ Some r
innermost_of w others r e =
    let before : length w.calls - 1 ≡ length others = (let long = ap length e ∙ length_push others r in omega (arith, long)) in
    ap (slice_get w.calls) before ∙ ap (λ (calls : List Record). slice_get calls (length others)) e ∙ last_of others r
