-- A shelf and a sink in memory that never fail. Source: own.
use Rattle.std.specs.{Prelude.{ℕ, List, ◌+◌, drop, min, Some}, Option.{option_map}, declared.option.Option.{Option}}
use Rattle.dpmi_io.specs.{Causes.{greatest}, MemShelf.{OpenAt, read_on}}

-- the bytes of the one file, which has every name, and the file that is open
pub record SureShelfState : Type 0 where
  pub bytes : List ℕ
  pub current : Option OpenAt

-- the bytes left of the open file
abbrev pub sure_left : SureShelfState → Option (List ℕ)
sure_left s = option_map (λ o. drop o.at s.bytes) s.current

-- the shelf with the file open under that name
abbrev pub after_sure_open : SureShelfState → List ℕ → SureShelfState
after_sure_open s name = record s { current = Some (record { name = name; at = 0 }) }

-- the shelf after n bytes of the open file were given
abbrev pub after_sure_read : SureShelfState → ℕ → SureShelfState
after_sure_read s n = record s { current = option_map (read_on n) s.current }

-- how many bytes a sink has taken once it took n more, up to the greatest u64
abbrev pub after_sure_put : ℕ → ℕ → ℕ
after_sure_put taken n = min (taken + n) greatest
