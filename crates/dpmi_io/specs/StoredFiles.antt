-- How a shelf in memory keeps its files. Source: own.
use Rattle.std.specs.{Prelude.{ℕ, List, String, Vec, map, string_bytes}, FinMap.{from_entries}}
use Rattle.dpmi_io.specs.{MemShelf.{FileMap, OpenAt}, declared.open_file.OpenFile.{OpenFile}}

-- a stored file: the bytes of its name, and its bytes
abbrev pub file_entry : {Y Z : Type 0} → String Y × Vec ℕ Z → List ℕ × List ℕ
file_entry e = (string_bytes e.0, e.1.items)

-- the files that are stored
abbrev pub files_of : {Y Z : Type 0} → List (String Y × Vec ℕ Z) → FileMap
files_of entries = from_entries (map file_entry entries)

-- the open file as it is stored
abbrev pub open_at : OpenFile → OpenAt
open_at o = record { name = string_bytes o.name; at = o.at }
