use Rattle.{std.proofs.Common.{ℕ}, std.specs.Prelude.{Result, Ok, Err, IfOk}}
use Rattle.dpmi_cli.proofs.{Files.{front_of_read}, prepare.read_front.Goals.{returns-clause-bytes as goal}}

-- two facts of the value give a third
both : {E : Type 0} (r : Result ℕ E) (P Q R : ℕ → Type 0) → ((n : ℕ) → P n → Q n → R n) → IfOk r P → IfOk r Q → IfOk r R
both (Ok n) P Q R f p q = f n p q
both (Err e) P Q R f p q = tt

pub returns-clause-bytes : goal
returns-clause-bytes g c =
    both c.read_whole.result _ _ _ (λ n few read. front_of_read _ _ _ _ _ _ c.in_ok-open.ensures.starts few c.read_whole.auto.buf read)
    c.read_whole.ensures.bound c.read_whole.ensures.bytes
