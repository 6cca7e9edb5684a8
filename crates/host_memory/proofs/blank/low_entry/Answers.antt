use Rattle.std.proofs.Common.{rules}
use Rattle.host_memory.proofs.blank.low_entry.Goals as goal

pub returns-then-page-lt-DOS_VIEW_PAGES : goal.returns-then-page-lt-DOS_VIEW_PAGES
returns-then-page-lt-DOS_VIEW_PAGES c = search rules

pub returns-then-page-lt-DOS_FRAMES : goal.returns-then-page-lt-DOS_FRAMES
returns-then-page-lt-DOS_FRAMES c = search rules
