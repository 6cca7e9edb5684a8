use Rattle.{std.proofs.Common.{arith, inl, inr, refl, sym, ◌∙◌, ap}, std.specs.Option.{is_some}, desc_table.specs.Rows.{IsFreeRun}}
use Rattle.desc_table.proofs.{RunLaws.{free_more, none_below_taken, none_at_all}, rows.free_run.Goals.{then-is_some}}
use Rattle.desc_table.proofs.rows.free_run.Goals.{else-is_some+else-index-start}
use Rattle.desc_table.proofs.rows.free_run.Goals as goal

pub returns-then-index-start-clause-none : goal.returns-then-index-start-clause-none
returns-then-index-start-clause-none c =
    let h = c.loop-index.invariant in
    let run : IsFreeRun c.args.ram.now c.loop-index.start c.args.n = record {
      within = omega arith;
      free = λ k from to. free_more c.args.ram.now c.loop-index.start c.loop-index.index h.free
          (ap is_some (sym c.look.ensures.row) ∙ sym c.is_some.ensures ∙ c.if-is_some.false) k from (omega arith);
    } in (
      (λ e. cc),
      (λ none. elim none [
        | inl no_rows ↦ absurd (c.if-n-eq0.false no_rows)
        | inr no_run ↦ absurd (no_run c.loop-index.start h.from run)
      ]),
    )

pub loop-index-preserved : goal.loop-index-preserved
loop-index-preserved c =
    let h = c.loop-index.invariant in
    let row = sym c.is_some.ensures in
    elim c.if-is_some.branch [
      | then-is_some w ↦ (rw w.start-is (record {
        from = omega arith;
        to = omega arith;
        short = omega arith;
        free = λ k from to. absurd (omega arith);
        least = none_below_taken c.args.ram.now c.args.n c.loop-index.start c.loop-index.index h.least h.short
            (ap is_some (sym c.look.ensures.row) ∙ row ∙ w.if-is_some.true);
      }))
      | else-is_some+else-index-start w ↦ (rw w.start-is (record {
        from = h.from;
        to = omega arith;
        short = (let not_yet = w.if-index-start.false in omega arith);
        free = free_more c.args.ram.now c.loop-index.start c.loop-index.index h.free
            (ap is_some (sym c.look.ensures.row) ∙ row ∙ w.if-is_some.false);
        least = h.least;
      }))
    ]

pub returns-clause-none : goal.returns-clause-none
returns-clause-none c = (
  (λ _. inr (none_at_all c.args.ram.now c.args.n c.loop-index.start c.loop-index.invariant.least (omega arith))),
  (λ _. refl),
)
