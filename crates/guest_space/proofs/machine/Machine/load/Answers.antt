use Rattle.std.proofs.Common.{◌∙◌, sym, arith, false, below_more, get_or-set_other, get_or-set_same, length-set}
use Rattle.std.proofs.lemmas.List.{length-replicate}
use Rattle.guest_space.proofs.{Runs.{run_inside, run_loaded, each_loaded, load_fails, first_part_fails, is_in}, Insides.{machine_inside}}
use Rattle.guest_space.proofs.machine.Machine.load.Goals as goal

pub returns-in_err-at : goal.returns-in_err-at
returns-in_err-at g c = grind (arith, first_part_fails)

pub get-requires : goal.get-requires
get-requires g c =
    let machine = machine_inside c.self.inside c.self.invariant in
    let few = c.requires.few in (
      omega arith,
      run_inside _ _ c.args.lin g.row.N c.in_ok-at.at false machine (omega arith)
          (is_in _ _ (sym c.is_in_page.ensures ∙ c.if-is_in_page.true)) (omega arith)
          (rw (← c.self.view_is) at (sym c.translate.ensures ∙ c.in_ok-at.was)),
    )

pub returns-then-is_in_page : goal.returns-then-is_in_page
returns-then-is_in_page g c = grind (arith, is_in, machine_inside, run_loaded)

pub loop-i-init : goal.loop-i-init
loop-i-init g c = grind (arith, length-replicate)

pub returns-in_err-bytes : goal.returns-in_err-bytes
returns-in_err-bytes g c = grind (arith, load_fails)

pub loop-i-preserved : goal.loop-i-preserved
loop-i-preserved g c = grind (arith, below_more, get_or-set_other, get_or-set_same, length-set)

pub returns : goal.returns
returns g c = grind (arith, each_loaded)
