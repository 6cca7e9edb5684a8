-- What a shelf in memory holds, and which of its calls fail. Source: own.
use Rattle.std.specs.Prelude.{◌+◌, ℕ, List, [], drop, length, min, None, Some, Ok, Err, Result, unwrap_or, if◌then◌else◌}
use Rattle.std.specs.{Cmp.Lexicographic.{slice_cmp}, Coded.{Coded, coded_ℕ, coded_list}, Option.{option_map, option_and_then}}
use Rattle.std.specs.{Ordering.{nat_cmp}, declared.option.Option.{Option}}
use Rattle.dpmi_io.specs.{FaultPlan.{Plan, new_plan, is_listed, after_success, after_fault}, declared.outside.ShelfFail.{ShelfFail}}
use Rattle.dpmi_io.specs.declared.outside.ShelfFail.TheVariants.{Missing, Failed}
use Rattle.std.specs.FinMap as map

-- files by name, in the order of their names
abbrev pub FileMap : Type 0
FileMap = map.FinMap (slice_cmp nat_cmp) (List ℕ)

-- files are stored as the list of their names and bytes
abbrev pub file_map_code : Coded FileMap
file_map_code = map.code (coded_list coded_ℕ) (coded_list coded_ℕ)

-- the open file: its name, and how many of its bytes are read
pub record OpenAt : Type 0 where
  pub name : List ℕ
  pub at : ℕ

-- the files, the one that is open, the name at the last failure, and the calls that are to fail
pub record MemShelfState : Type 0 where
  pub files : FileMap
  pub current : Option OpenAt
  pub blamed : Option (List ℕ)
  pub plan : Plan

-- a shelf with no files
abbrev pub new_shelf : MemShelfState
new_shelf = record { files = map.empty; current = None; blamed = None; plan = new_plan }

-- the name of the open file
abbrev pub shelf_open : MemShelfState → Option (List ℕ)
shelf_open s = option_map (λ o. o.name) s.current

-- the bytes left of the open file
abbrev pub shelf_left : MemShelfState → Option (List ℕ)
shelf_left s = option_and_then (λ o. option_map (drop o.at) (map.get s.files o.name)) s.current

-- what opening the file of that name returns: a listed call fails before the name is looked up
abbrev pub open_result : MemShelfState → List ℕ → Result (Unit {0}) ShelfFail
open_result s name =
    if is_listed s.plan then Err Failed else (if map.contains_key s.files name then Ok tt else Err Missing)

-- how many of the bytes left a read gives that does not fail, into a buffer of that length
abbrev pub read_count : Option (List ℕ) → ℕ → ℕ
read_count left len = min len (length (unwrap_or left []))

-- the shelf after the file of that name was opened
abbrev pub after_open : MemShelfState → List ℕ → MemShelfState
after_open s name =
    record s { current = Some (record { name = name; at = 0 }); plan = after_success s.plan }

-- the shelf after a call for a name that no file has
abbrev pub after_missing : MemShelfState → MemShelfState
after_missing s = record s { current = None; plan = after_success s.plan }

-- the shelf after a call that failed at the file of that name
abbrev pub after_failure : MemShelfState → Option (List ℕ) → MemShelfState
after_failure s name =
    record s { current = None; blamed = name; plan = after_fault (after_success s.plan) }

-- the open file after n more bytes are read
abbrev pub read_on : ℕ → OpenAt → OpenAt
read_on n o = record o { at = o.at + n }

-- the shelf after n bytes of the open file were given
abbrev pub after_read : MemShelfState → ℕ → MemShelfState
after_read s n = record s { current = option_map (read_on n) s.current; plan = after_success s.plan }

-- the shelf once the file of that name has these bytes
abbrev pub after_add : MemShelfState → List ℕ → List ℕ → MemShelfState
after_add s name bytes = record s { files = map.insert s.files name bytes }
