use Rattle.insn_forms.proofs.{WellFormed.{well_formed}, laws.every_instruction_is_well_formed.Goals.{returns as goal}}

pub returns : goal
returns c = well_formed
