use Rattle.{std.proofs.Common.{append_assoc}, dpmi_report.proofs.lines.descriptor_line.Goals.{returns as goal}}

pub returns : goal
returns c =
    rw (
      c.add-5.ensures.added,
      c.add-4.ensures.added,
      c.add-3.ensures.added,
      c.add_hex_digit.ensures.added,
      c.add-2.ensures.added,
      c.add_hex_byte.ensures.added,
      c.add.ensures.added,
      c.add_wide-2.ensures.added,
      c.add_wide.ensures.added,
      c.add_narrow.ensures.added,
      c.new-line.ensures,
      c.origin_name.ensures.name,
      c.byte_limit.ensures,
      c.access_byte.ensures,
      c.flags_byte.ensures,
    )
    (search append_assoc)
