use Rattle.std.proofs.Common.{rules}
use Rattle.mz_loader.proofs.header.declared_length.Goals.{returns-else-last-eq-PAGE_BYTES-clause-length as goal}

pub returns-else-last-eq-PAGE_BYTES-clause-length : goal
returns-else-last-eq-PAGE_BYTES-clause-length c = search rules
