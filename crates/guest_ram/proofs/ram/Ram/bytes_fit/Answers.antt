use Rattle.{std.proofs.Common.{subst}, guest_ram.specs.Bytes.{AreBytes}}
use Rattle.guest_ram.proofs.{ByteLists.{fits_at}, ram.Ram.bytes_fit.Goals.{returns as goal}}

pub returns : goal
returns c = subst AreBytes c.self.view_is (fits_at c.self.inside.bytes c.self.inside.fit)
