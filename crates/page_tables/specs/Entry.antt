-- Page entries: a frame times 4096, and bits in the twelve below it.
-- Source: 80386 Programmer's Reference Manual, ch. 5, "Page-Table Entries", and ch. 6, "Page-Level Protection".
use Rattle.std.specs.Prelude.{ℕ, ◌+◌, ◌*◌, Bool, ◌&&◌, ◌||◌, not, cond}
use Rattle.client_world.specs.{Registers.{has_bit}, declared.host_frames.TheConstants.{PAGE_SIZE}}
use Rattle.page_tables.specs.declared.entry.TheConstants.{WRITABLE, USER, USER_WRITABLE, USER_READ_ONLY}

-- whether an entry lets a user read, or write
abbrev pub allows : ℕ → Bool → Bool
allows entry write = has_bit entry USER && (not write || has_bit entry WRITABLE)

-- the entry of a page that lies in a frame, for the user
abbrev pub page_entry : ℕ → Bool → ℕ
page_entry frame writable = PAGE_SIZE * frame + cond writable USER_WRITABLE USER_READ_ONLY
