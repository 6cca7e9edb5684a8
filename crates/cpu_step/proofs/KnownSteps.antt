-- A step of an instruction that is known already.
use Rattle.std.proofs.Common.{◌≡◌, ℕ, ◌+◌, ◌<◌, Bool, List, Result, sym, ap, subst, ◌∙◌}
use Rattle.client_world.specs.declared.faults.Event.{Event}
use Rattle.guest_space.specs.{declared.windows.CodeWindow.{CodeWindow}, Windows.{IsWindow}}
use Rattle.host_memory.specs.View.{MachineView}
use Rattle.insn_decode.specs.{declared.decoding.Decoded.TheVariants.{Whole}, Decode.{decoded}, Memo.{is_big_place}}
use Rattle.insn_forms.specs.declared.insn.Insn.{Insn}
use Rattle.insn_plan.specs.Plan.{Follows}
use Rattle.cpu_step.specs.Step.{client_step, code, after_instruction, has_big_code, step_of}

-- the place of a window's start says the default size of the code there
pub known_step : (v u : MachineView) (r : Result (Unit {0}) Event) (w : CodeWindow) (from : ℕ) (bytes : List ℕ) (insn : Insn) (len : ℕ) →
    IsWindow v w → from < w.starts → code v.world ≡ bytes → decoded (is_big_place (w.place + from)) bytes ≡ Whole insn len →
    Follows v u r (after_instruction v insn len) → Follows v u r (client_step v)
unfolding client_step has_big_code
known_step v u r w from bytes insn len window inside fetched read =
    subst (Follows v u r)
    (sym (ap (λ (b : Bool). step_of v (decoded b (code v.world))) (sym (window.big from inside))
    ∙ ap (λ (xs : List ℕ). step_of v (decoded (is_big_place (w.place + from)) xs)) fetched
    ∙ ap (step_of v) read))
