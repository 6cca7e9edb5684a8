use Rattle.{std.proofs.Common.{◌∙◌, ◌-◌, ℕ, List, take, true, false, ap, sym}, dos_calls.specs.Calls.{CallState}}
use Rattle.dos_calls.proofs.ConsoleLaws.{line_goes}
use Rattle.dos_calls.proofs.line.take_line.Goals as goal

pub returns-then-not-print_line-clause-call : goal.returns-then-not-print_line-clause-call
returns-then-not-print_line-clause-call c =
    let s : CallState = record { world = c.args.m.now.world; keys = c.args.keys.now; console = c.args.console.now } in
    line_goes s c.args.room c.args.count c.first-line.result.now c.skip_line.new.self c.print_line.new.console false
    c.requires.line (c.first-line.ensures ∙ ap (λ (xs : List ℕ). take (c.args.room - 1) xs) c.first.ensures)
    (sym c.if-not-print_line.true ∙ c.print_line.ensures.room) c.print_line.ensures.bytes c.skip_line.ensures

pub returns-clause-call : goal.returns-clause-call
returns-clause-call c =
    let s : CallState = record { world = c.args.m.now.world; keys = c.args.keys.now; console = c.args.console.now } in
    line_goes s c.args.room c.args.count c.first-line.result.now c.skip_line-2.new.self c.print_line.new.console true
    c.requires.line (c.first-line.ensures ∙ ap (λ (xs : List ℕ). take (c.args.room - 1) xs) c.first.ensures)
    (sym c.if-not-print_line.false ∙ c.print_line.ensures.room) c.print_line.ensures.bytes c.skip_line-2.ensures
    ∙ cc
