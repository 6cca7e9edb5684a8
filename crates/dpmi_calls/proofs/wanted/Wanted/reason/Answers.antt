use Rattle.{std.proofs.Common.{◌∙◌, ap, nat_eq, sym, true, false}, std.specs.List.{position}, dpmi_calls.specs.Stops.{wanted_in}}
use Rattle.dpmi_calls.proofs.StopLists.{at_no_place, unchanged}
use Rattle.dpmi_calls.proofs.wanted.Wanted.reason.Goals as goal

-- ---- no byte changed

pub returns-in-Some-first_place-clause-seen : goal.returns-in-Some-first_place-clause-seen
returns-in-Some-first_place-clause-seen c = λ w was.
    was ∙ unchanged w c.args.m.now.world c.args.self.now.bytes.now (sym (c.in_default.ensures w was))

pub returns-then-is_outside-clause-seen : goal.returns-then-is_outside-clause-seen
returns-then-is_outside-clause-seen c = λ w was.
    was ∙ unchanged w c.args.m.now.world c.args.self.now.bytes.now (sym (c.in_default.ensures w was))

pub returns-clause-seen : goal.returns-clause-seen
returns-clause-seen c = λ w was.
    was ∙ unchanged w c.args.m.now.world c.args.self.now.bytes.now (sym (c.in_default.ensures w was))

-- ---- and the client is at no place

pub returns-then-is_outside-clause-reason : goal.returns-then-is_outside-clause-reason
returns-then-is_outside-clause-reason c = λ w was.
    at_no_place (wanted_in c.args.self.now) w c.args.m.now.world true (c.in_default.ensures w was)
    (c.in_default-first_place.ensures
    ∙ ap (λ a. position (λ lin. nat_eq lin a) c.args.self.now.places.now) c.instruction_address-at.ensures)
    (sym c.if-is_outside.true ∙ c.is_outside.ensures)

pub returns-clause-reason : goal.returns-clause-reason
returns-clause-reason c = λ w was.
    at_no_place (wanted_in c.args.self.now) w c.args.m.now.world false (c.in_default.ensures w was)
    (c.in_default-first_place.ensures
    ∙ ap (λ a. position (λ lin. nat_eq lin a) c.args.self.now.places.now) c.instruction_address-at.ensures)
    (sym c.if-is_outside.false ∙ c.is_outside.ensures)
