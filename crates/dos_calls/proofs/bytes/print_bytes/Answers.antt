use Rattle.{std.proofs.Common.{◌+◌, ◌-◌, ◌∙◌, sym, ap, arith, ℕ, ◌∷◌}, dos_calls.specs.DosBytes.{bytes_from}}
use Rattle.dos_calls.proofs.{ConsoleLaws.{nothing_added, byte_added, byte_refused, all_added}, ByteLaws.{bytes_all, bytes_next, bytes_none}}
use Rattle.dos_calls.proofs.bytes.print_bytes.Goals as goal

pub loop-n-init : goal.loop-n-init
loop-n-init c = nothing_added _ _ _ (bytes_all c.args.m.now.world.dos c.args.segment c.args.offset c.args.count)

pub returns-then-not-add : goal.returns-then-not-add
returns-then-not-add c =
    let dos = c.args.m.now.world.dos in
    let end = byte_refused c.args.console.now _ c.loop-n.console _ _ c.add.new.self _ c.add.result
    (bytes_next dos c.args.segment c.args.offset c.args.count c.loop-n.n (omega arith)
    ∙ ap (λ (x : ℕ). x ∷ bytes_from dos c.args.segment (c.args.offset + (c.loop-n.n + 1)) (c.args.count - (c.loop-n.n + 1)))
    (sym c.byte_at.ensures))
    c.loop-n.invariant c.add.ensures.room c.add.ensures.bytes c.if-not-add.true in
    record { room = end.0; bytes = end.1 }

pub loop-n-preserved : goal.loop-n-preserved
loop-n-preserved c =
    let dos = c.args.m.now.world.dos in
    byte_added c.args.console.now _ c.loop-n.console _ _ c.add.new.self _ c.add.result
    (bytes_next dos c.args.segment c.args.offset c.args.count c.loop-n.n (omega arith)
    ∙ ap (λ (x : ℕ). x ∷ bytes_from dos c.args.segment (c.args.offset + (c.loop-n.n + 1)) (c.args.count - (c.loop-n.n + 1)))
    (sym c.byte_at.ensures))
    c.loop-n.invariant c.add.ensures.room c.add.ensures.bytes c.if-not-add.false

pub returns : goal.returns
returns c =
    let end = all_added c.args.console.now _ c.loop-n.console _
    (bytes_none c.args.m.now.world.dos c.args.segment c.args.offset c.args.count c.loop-n.n (omega arith)) c.loop-n.invariant
    c.limit.ensures in
    record { room = end.0; bytes = end.1 }
