-- In protected mode there is a width.
use Rattle.std.proofs.Common.{◌≡◌, ◌≢◌, ◌∙◌, sym, Option, None, Some}
use Rattle.client_world.specs.{declared.registers.Mode.TheVariants.{Real, Protected}, declared.registers.Width.{Width}, Soundness.{IsSound}}
use Rattle.client_world.specs.{Soundness.{SoundWidth}, World.{World}}

in_protected : (width : Option Width) (w : World) → SoundWidth width w → w.mode ≡ Protected → width ≢ None
in_protected None w s protected none = apart (sym s.mode ∙ protected)
  where
    apart : Real ≢ Protected
    apart e = cc
in_protected (Some width) w s protected none = cc

pub protected_width : (w : World) → IsSound w → w.mode ≡ Protected → w.width ≢ None
protected_width w s protected = in_protected w.width w s.width protected
