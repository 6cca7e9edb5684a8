use Rattle.{std.proofs.Common.{arith, ◌≡◌, ◌∙◌, ap, List, ℕ}, guest_ram.specs.Bytes.{put}}
use Rattle.desc_table.specs.Rows.{row_at, row_bytes, row_address, rows_from, rows_start}
use Rattle.desc_table.proofs.RowLaws.{row_at-put, row_at-put_other, rows_from-put}
use Rattle.desc_table.proofs.rows.set.Goals as goal

-- the memory after the write
written : (c : goal.After-write) → c.write.new.self ≡ put c.args.ram.now (row_address c.args.index) (row_bytes c.args.row)
written c = cc

pub returns-clause-row : goal.returns-clause-row
returns-clause-row c =
    ap (λ (b : List ℕ). row_at b (row_address c.args.index)) (written c)
    ∙ row_at-put c.args.ram.now (row_address c.args.index) c.args.row c.requires.fits (omega arith)

pub returns-clause-others : goal.returns-clause-others
returns-clause-others c other ne =
    ap (λ (b : List ℕ). row_at b (row_address other)) (written c)
    ∙ row_at-put_other c.args.ram.now c.args.index other c.args.row ne

pub returns-clause-table : goal.returns-clause-table
returns-clause-table c =
    ap (λ (b : List ℕ). rows_from b rows_start) (written c)
    ∙ rows_from-put c.args.ram.now rows_start c.args.index c.args.row c.requires.fits c.requires.index (omega arith)
