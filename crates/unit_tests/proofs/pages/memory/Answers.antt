use Rattle.std.proofs.Common.{◌≡◌, ℕ, ◌+◌, ◌*◌, ◌≤◌, inl, List, length, get_or, refl, ◌∙◌, arith}
use Rattle.client_world.specs.declared.host_frames.TheConstants.{PAGE_SIZE, BUDGET_FRAMES}
use Rattle.{guest_ram.specs.Bytes.{put, dword, dword_bytes}, guest_ram.proofs.PutLaws.{length-put, dword_put, dword_put_other}}
use Rattle.{page_tables.specs.Mapping.{HasTables, IsCovered, IsUnmapped}, unit_tests.specs.declared.pages.TheConstants.{PAGE}}
use Rattle.{page_tables.proofs.HostDirectory.{dword_zero}, unit_tests.proofs.FirstTables.{one_table}}
use Rattle.unit_tests.proofs.pages.memory.Goals as goal

-- a zero memory with that directory entry
record Blank (b c : List ℕ) : Type 0 where
  long : length b ≡ PAGE_SIZE * (BUDGET_FRAMES + 2)
  blank : (at : ℕ) → get_or b at 0 ≡ 0
  new : c ≡ put b 0x100000 (dword_bytes 0x101067)

blank_of : (c : goal.After-set32) → Blank c.in_ok-ram.ram c.set32.new.self
blank_of c = record { long = c.in_ok-ram.ensures.size; blank = c.in_ok-ram.ensures.zero; new = c.set32.ensures.bytes }

first_entry : (b c : List ℕ) → Blank b c → dword c 0x100000 ≡ 0x101067
first_entry b c h = rw h.new (dword_put b 0x100000 0x101067 (let l = h.long in omega arith))

elsewhere : (b c : List ℕ) (p : ℕ) → Blank b c → 0x100000 + 4 ≤ p → dword c p ≡ 0
elsewhere b c p h above = rw h.new (dword_put_other b 0x100000 p 0x101067 (inl above) ∙ dword_zero b p (λ i l. h.blank (p + i)))

tables_of : (b c : List ℕ) → Blank b c → HasTables c
tables_of b c h = one_table c (let l = h.long in rw (h.new, length-put b 0x100000 (dword_bytes 0x101067)) (omega arith))
    (first_entry b c h) (λ i l ne. elsewhere b c (0x100000 + 4 * i) h (omega arith))

covered_of : (b c : List ℕ) → Blank b c → IsCovered c PAGE
covered_of b c h = rw (first_entry b c h) refl

unmapped_of : (b c : List ℕ) → Blank b c → IsUnmapped c PAGE
unmapped_of b c h = rw (first_entry b c h, elsewhere b c 0x10148C h (omega arith)) refl

pub returns-clause-tables : goal.returns-clause-tables
returns-clause-tables c = tables_of c.in_ok-ram.ram c.set32.new.self (blank_of c)

pub returns-clause-covered : goal.returns-clause-covered
returns-clause-covered c = covered_of c.in_ok-ram.ram c.set32.new.self (blank_of c)

pub returns-clause-unmapped : goal.returns-clause-unmapped
returns-clause-unmapped c = unmapped_of c.in_ok-ram.ram c.set32.new.self (blank_of c)
