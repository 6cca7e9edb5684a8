-- Code bytes as two words. Source: own.
use Rattle.std.specs.{Prelude.{ℕ, List, ◌++◌, drop}, Int.{w64, to_le_bytes}}
use Rattle.client_world.specs.declared.code.CodeWords.{CodeWords}

-- the 15 bytes: byte 7 is in both words
unfoldable pub code_bytes : CodeWords → List ℕ
code_bytes words = to_le_bytes w64 words.low ++ drop 1 (to_le_bytes w64 words.high)
