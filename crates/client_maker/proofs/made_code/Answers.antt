use Rattle.std.proofs.Common.{◌≡◌, ◌+◌, ◌++◌, ap, sym, ◌∙◌, append_assoc, arith}
use Rattle.client_maker.specs.{Pieces.{next_number, number, chosen_piece, pieces}, Made.{entry_code}}
use Rattle.client_maker.proofs.{InTurn.{number_next, pieces_next}, made_code.Goals.{loop-preserved as goal}}

-- each turn adds one piece
pub loop-preserved : goal
loop-preserved c =
    let seed = c.args.seed in
    let k = c.loop.counter in
    let x : c.next-x.result ≡ number seed (k + 1) =
    c.next-x.ensures ∙ ap next_number c.loop.invariant.0 ∙ sym (number_next seed k) in (
      x,
      c.in_ok-add_chosen.ensures.added
          ∙ ap (λ l. l ++ chosen_piece c.next-x.result) c.loop.invariant.1
          ∙ append_assoc entry_code (pieces seed k) (chosen_piece c.next-x.result)
          ∙ ap (λ n. entry_code ++ pieces seed k ++ chosen_piece n) x
          ∙ ap (λ l. entry_code ++ l) (sym (pieces_next seed k)),
      omega (arith, c.in_ok-add_chosen.ensures.short, c.loop.invariant.2),
    )
