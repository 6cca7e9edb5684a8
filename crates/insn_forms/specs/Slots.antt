-- The rows that an entry of a static table covers (own).
use Rattle.std.specs.Prelude.{ℕ, Bool, true, nat_lt, [], slice_index_or}
use Rattle.insn_forms.specs.{declared.rows.Row.{Row}, declared.rows.Slot.{Slot}, declared.rows.Slot.TheVariants.{Alone, Group}}
use Rattle.insn_forms.specs.{declared.maps.TheConstants.{GROUPS}, OpcodeMap.{pick}}

-- the row of an entry and a reg field
abbrev pub row_in : Slot → ℕ → Row
row_in (Alone row) reg = row
row_in (Group n) reg = pick 0 (slice_index_or GROUPS n []) reg

-- the entry's group is there
abbrev pub has_rows : Slot → Bool
has_rows (Alone row) = true
has_rows (Group n) = nat_lt n 21
