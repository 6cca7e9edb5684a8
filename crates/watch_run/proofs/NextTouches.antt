-- The touches with which watchpoints are compared are the accesses of the next step.
use Rattle.std.proofs.Common.{◌≡◌, ◌∙◌, ℕ, List, [], ◌∷◌, ◌++◌, None, Some, ap, refl}
use Rattle.std.specs.Prelude.{IsErr, IsOk}
use Rattle.client_world.specs.{declared.place.Place.{Place}, declared.watchpoints.Touch.{Touch}, Access.{places_from}, World.{World}}
use Rattle.cpu_step.specs.Step.{view_with_next_eip, client_row, client_step, code, after_instruction, has_big_code, step_of}
use Rattle.cpu_step.specs.Touched.{touched_by_decoded, touched_by_instruction, touched_by_fetch, touch_places, touched_by_step}
use Rattle.guest_space.specs.Code.{code_room}
use Rattle.host_memory.specs.View.{MachineView}
use Rattle.insn_decode.specs.{declared.decoding.Decoded.{Decoded}, declared.decoding.Decoded.TheVariants.{Invalid, More, Whole}}
use Rattle.insn_decode.specs.Decode.{decoded}
use Rattle.insn_plan.specs.{Accesses.{with_next_eip, touches}, Act.{Act}, Plan.{after_plan, plan_result}}
use Rattle.watch_run.specs.Hits.{next_touches, touches_of_code}

abbrev pub NoneLaw : Type 0
NoneLaw = (v : MachineView) (act : Act) → touches v.world act ≡ None → IsErr (after_plan v (plan_result v.world act))

none_by : NoneLaw → (v : MachineView) (d : Decoded) → touches_of_code v.world d ≡ None → IsErr (step_of v d)
unfolding after_instruction
none_by law v (Whole insn len) e = law (view_with_next_eip len v) (client_row (with_next_eip len v.world) insn len) e
none_by law v More e = refl
none_by law v Invalid e = refl

pub none_is_an_event : NoneLaw → (v : MachineView) → next_touches v.world ≡ None → IsErr (client_step v)
unfolding next_touches client_step
none_is_an_event law v e = none_by law v (decoded (has_big_code v.world) (code v.world)) e

abbrev pub SomeLaw : Type 0
SomeLaw = (v : MachineView) (act : Act) (list : List Touch) → touches v.world act ≡ Some list →
    IsOk (after_plan v (plan_result v.world act))

some_by : SomeLaw → (v : MachineView) (d : Decoded) (list : List Touch) → touches_of_code v.world d ≡ Some list → IsOk (step_of v d)
unfolding after_instruction
some_by law v (Whole insn len) list e = law (view_with_next_eip len v) (client_row (with_next_eip len v.world) insn len) list e
some_by law v More list e = cc
some_by law v Invalid list e = cc

pub some_is_no_event : SomeLaw → (v : MachineView) (list : List Touch) → next_touches v.world ≡ Some list → IsOk (client_step v)
unfolding next_touches client_step
some_is_no_event law v list e = some_by law v (decoded (has_big_code v.world) (code v.world)) list e

abbrev pub PlacesLaw : Type 0
PlacesLaw = (w : World) (act : Act) (list : List Touch) → touches w act ≡ Some list → touched_by_instruction w act ≡ touch_places w list

same_blocks : (w : World) (len : ℕ) (list : List Touch) → touch_places (with_next_eip len w) list ≡ touch_places w list
same_blocks w len [] = refl
same_blocks w len (t ∷ rest) = ap (λ (more : List Place). places_from w.blocks t.lin t.len ++ more) (same_blocks w len rest)

places_by : PlacesLaw → (w : World) (d : Decoded) (list : List Touch) → touches_of_code w d ≡ Some list →
    touched_by_decoded w d ≡ touch_places w list
places_by law w (Whole insn len) list e = law (with_next_eip len w) (client_row (with_next_eip len w) insn len) list e
    ∙ same_blocks w len list
places_by law w More list e = cc
places_by law w Invalid list e = cc

pub places_are_the_steps : PlacesLaw → (w : World) (list : List Touch) → next_touches w ≡ Some list →
    touched_by_step w ≡ touched_by_fetch w 0 code_room ++ touch_places w list
unfolding next_touches touched_by_step
places_are_the_steps law w list e =
    ap (λ (more : List Place). touched_by_fetch w 0 code_room ++ more) (places_by law w (decoded (has_big_code w) (code w)) list e)
