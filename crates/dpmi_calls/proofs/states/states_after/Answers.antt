use Rattle.{std.proofs.Common.{arith, inl, inr, refl, subst, sym}, std.specs.{Prelude.{IsSome}, declared.option.Option.{Option}}}
use Rattle.dpmi_calls.proofs.Results.{of_err, of_ok, on_ok}
use Rattle.dpmi_calls.specs.{Clients.{given}, Turns.{host_of}, States.{AreSeen, AreStates}, declared.start.Client.{Client}}
use Rattle.dpmi_cli.specs.declared.prepare.Reason.{Reason}
use Rattle.dpmi_calls.proofs.states.states_after.Goals as goal

-- ---- the states are noted

pub returns-in-Ok-Ok-clause-rows : goal.returns-in-Ok-Ok-clause-rows
returns-in-Ok-Ok-clause-rows c = λ _.
    subst (λ (x : Client). AreStates (host_of (given x)) c.args.turns.now c.note_states.new.rows)
    (of_ok _ _ _ c.in-Ok-Ok.field-0-is c.in-Ok-Ok.ensures.client)
    c.note_states.ensures.rows

pub returns-in-Ok-Ok-clause-memory : goal.returns-in-Ok-Ok-clause-memory
returns-in-Ok-Ok-clause-memory c = λ _.
    subst (λ (x : Client). AreSeen (host_of (given x)) c.args.turns.now c.args.places.now c.note_states.new.memory)
    (of_ok _ _ _ c.in-Ok-Ok.field-0-is c.in-Ok-Ok.ensures.client)
    c.note_states.ensures.memory

pub returns-in-Ok-Ok-clause-taken : goal.returns-in-Ok-Ok-clause-taken
returns-in-Ok-Ok-clause-taken c = λ _.
    record {
      rows = omega (arith, c.if-rows-turns.false);
      memory = let is = c.is_product.ensures in let product = c.if-not-is_product.false in grind (arith, is, product);
      order = c.are_in_order.ensures.taken (c.if-not-are_in_order.false);
      client = on_ok _ _ _ c.in-Ok-Ok.field-0-is c.in-Ok-Ok.ensures.taken;
    }

pub returns-in-Ok-Ok-clause-refused : goal.returns-in-Ok-Ok-clause-refused
returns-in-Ok-Ok-clause-refused c = λ e. absurd (omega (arith, e))

-- ---- the client is refused, or memory is out

pub returns-in-Ok-Err-clause-rows : goal.returns-in-Ok-Err-clause-rows
returns-in-Ok-Err-clause-rows c = λ e. absurd (omega (arith, e))

pub returns-in-Ok-Err-clause-memory : goal.returns-in-Ok-Err-clause-memory
returns-in-Ok-Err-clause-memory c = λ e. absurd (omega (arith, e))

pub returns-in-Ok-Err-clause-taken : goal.returns-in-Ok-Err-clause-taken
returns-in-Ok-Err-clause-taken c = λ e. absurd (omega (arith, e))

pub returns-in-Ok-Err-clause-refused : goal.returns-in-Ok-Err-clause-refused
returns-in-Ok-Err-clause-refused c = λ _.
    inr (inr
    (inr (inr (subst (λ (o : Option Reason). IsSome o) (sym (of_err _ _ _ c.in-Ok-Err.field-0-is c.in-Ok-Err.ensures.refused)) refl))))

pub returns-in-Err-clause-rows : goal.returns-in-Err-clause-rows
returns-in-Err-clause-rows c = λ e. absurd (omega (arith, e))

pub returns-in-Err-clause-memory : goal.returns-in-Err-clause-memory
returns-in-Err-clause-memory c = λ e. absurd (omega (arith, e))

pub returns-in-Err-clause-taken : goal.returns-in-Err-clause-taken
returns-in-Err-clause-taken c = λ e. absurd (omega (arith, e))

pub returns-in-Err-clause-refused : goal.returns-in-Err-clause-refused
returns-in-Err-clause-refused c = λ e. absurd (omega (arith, e))

-- ---- a length isn't as it should be, or the turns aren't in order

pub returns-then-rows-turns-clause-rows : goal.returns-then-rows-turns-clause-rows
returns-then-rows-turns-clause-rows c = λ e. absurd (omega (arith, e))

pub returns-then-rows-turns-clause-memory : goal.returns-then-rows-turns-clause-memory
returns-then-rows-turns-clause-memory c = λ e. absurd (omega (arith, e))

pub returns-then-rows-turns-clause-taken : goal.returns-then-rows-turns-clause-taken
returns-then-rows-turns-clause-taken c = λ e. absurd (omega (arith, e))

pub returns-then-rows-turns-clause-refused : goal.returns-then-rows-turns-clause-refused
returns-then-rows-turns-clause-refused c = λ _. inl c.if-rows-turns.true

pub returns-then-not-is_product-clause-rows : goal.returns-then-not-is_product-clause-rows
returns-then-not-is_product-clause-rows c = λ e. absurd (omega (arith, e))

pub returns-then-not-is_product-clause-memory : goal.returns-then-not-is_product-clause-memory
returns-then-not-is_product-clause-memory c = λ e. absurd (omega (arith, e))

pub returns-then-not-is_product-clause-taken : goal.returns-then-not-is_product-clause-taken
returns-then-not-is_product-clause-taken c = λ e. absurd (omega (arith, e))

pub returns-then-not-is_product-clause-refused : goal.returns-then-not-is_product-clause-refused
returns-then-not-is_product-clause-refused c =
    λ _. inr (inl (let differs = c.is_product.ensures in let is = c.if-not-is_product.true in grind (arith, differs, is)))

pub returns-then-not-are_in_order-clause-rows : goal.returns-then-not-are_in_order-clause-rows
returns-then-not-are_in_order-clause-rows c = λ e. absurd (omega (arith, e))

pub returns-then-not-are_in_order-clause-memory : goal.returns-then-not-are_in_order-clause-memory
returns-then-not-are_in_order-clause-memory c = λ e. absurd (omega (arith, e))

pub returns-then-not-are_in_order-clause-taken : goal.returns-then-not-are_in_order-clause-taken
returns-then-not-are_in_order-clause-taken c = λ e. absurd (omega (arith, e))

pub returns-then-not-are_in_order-clause-refused : goal.returns-then-not-are_in_order-clause-refused
returns-then-not-are_in_order-clause-refused c =
    λ _. inr (inr (elim (c.are_in_order.ensures.refused c.if-not-are_in_order.true) [ inl down ↦ inl down | inr past ↦ inr (inl past) ]))
