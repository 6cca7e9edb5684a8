use Rattle.{std.proofs.Common.{arith, ◌%◌, ◌+◌, ◌++◌, ◌∷◌, [], ap, ◌∙◌, sym, append_assoc}, dpmi_io.proofs.Decimal.{decimal_more}}
use Rattle.dpmi_io.proofs.line.+add_decimal.Goals.{returns-then-n-ge10-clause-added as goal}

pub returns-then-n-ge10-clause-added : goal
returns-then-n-ge10-clause-added t c =
    c.add.ensures.added
    ∙ ap (λ l. l ++ (48 + c.args.n % 10) ∷ []) c.add_decimal.ensures.added
    ∙ append_assoc c.args.line.now.items _ _
    ∙ ap (λ l. c.args.line.now.items ++ l) (sym (decimal_more c.args.n (omega arith) (omega arith)))
