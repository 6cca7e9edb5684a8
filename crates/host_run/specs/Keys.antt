-- The keystrokes of a host. Source: own.
use Rattle.client_world.specs.World.{HostWorld}
use Rattle.guest_ram.specs.Bytes.{AreBytes}

-- those that are left are bytes
abbrev pub HasKeys : HostWorld → Type 0
HasKeys w = AreBytes w.keys
