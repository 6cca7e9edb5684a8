use Rattle.std.proofs.Common.{◌≡◌, ◌∙◌, ap, string_bytes, List, ℕ}
use Rattle.dpmi_io.specs.{MemShelf.{FileMap, MemShelfState, after_add}, StoredFiles.{open_at}}
use Rattle.{dpmi_io.specs.declared.memory_shelf.MemShelf.TheInside.{Inside}, std.specs.Option.{option_map}}
use Rattle.dpmi_io.proofs.{Stored.{files_of-insert}, memory_shelf.MemShelf.add.Goals.{returns-clause-ok as goal}}

-- the shelf as it is stored, but for its files
abbrev with_files : Inside → FileMap → MemShelfState
with_files s files =
    record { files = files; current = option_map open_at s.current; blamed = option_map string_bytes s.blamed; plan = s.plan }

pub returns-clause-ok : goal
returns-clause-ok c =
    let name = c.in_ok-name.name in
    let bytes = c.in_ok-bytes.bytes in
    let copied : bytes.items ≡ c.args.bytes.now = c.in_ok-bytes.ensures.items_if_clones_equal (λ x y e. e) in
    let inserted = files_of-insert c.self.inside.files c.insert.new.self (string_bytes name) bytes c.in_ok-insert.ensures.updates in
    ap (λ (f : FileMap). with_files c.self.inside f) inserted
    ∙ ap (λ (s : MemShelfState). after_add s (string_bytes name) bytes.items) c.self.view_is
    ∙ ap (λ (n : List ℕ). after_add c.args.self.now n bytes.items) c.in_ok-name.ensures.ok
    ∙ ap (λ (b : List ℕ). after_add c.args.self.now c.args.name.now b) copied
