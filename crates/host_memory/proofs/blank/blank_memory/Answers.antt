use Rattle.std.proofs.Common.{◌∙◌}
use Rattle.host_memory.proofs.{BlankHolds.{blank_holds, blank_world_is}, BlankSound.{blank_is_sound}, FreshMemory.{IsBlank, is_blank}}
use Rattle.host_memory.proofs.blank.blank_memory.Goals as goal

-- the memory that the writes leave
left : (c : goal.After-fill_table-5) → IsBlank c.fill_table-5.new.ram c.args.pages
left c = is_blank c.args.pages c.header.result c.listed_entry.result c.link_frames.new.ram c.fill.new.self c.fill_table.new.ram
    c.write.new.self
    c.fill_table-2.new.ram c.fill_table-3.new.ram c.fill_table-4.new.ram c.write-2.new.self c.fill_table-5.new.ram
    (record {
      header_is = c.header.ensures;
      row_is = c.listed_entry.ensures;
      size = c.link_frames.ensures.size ∙ c.in_ok-ram.ensures.size;
      zero = λ at less away. c.link_frames.ensures.others at less away ∙ c.in_ok-ram.ensures.zero at;
      free = c.link_frames.ensures.list;
      few = c.requires.few;
      rom = c.fill.ensures.bytes;
      reals = c.fill_table.ensures;
      head = c.write.ensures.bytes;
      directory = c.fill_table-2.ensures;
      low = c.fill_table-3.ensures;
      window = c.fill_table-4.ensures;
      list = c.write-2.ensures.bytes;
      vectors = c.fill_table-5.ensures;
    })

pub returns-clause-holds : goal.returns-clause-holds
returns-clause-holds c = blank_holds c.fill_table-5.new.ram c.args.pages c.requires.few (left c)

pub returns-clause-world : goal.returns-clause-world
returns-clause-world c = blank_world_is c.fill_table-5.new.ram c.args.pages (left c)

pub returns-clause-sound : goal.returns-clause-sound
returns-clause-sound c = blank_is_sound c.args.pages
