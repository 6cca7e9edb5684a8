-- An option and its value, in one word or in two. Source: own.
use Rattle.std.specs.Prelude.{◌≡◌, ◌≢◌, ◌<◌, ◌++◌, ◌∷◌, ℕ, false, length, get_or}
use Rattle.dpmi_words.specs.Reading.{Text, is_blank}

-- `--name`, before a word of its own for the value
abbrev pub option_word_of : Text → Text
option_word_of name = 0x2D ∷ 0x2D ∷ name

-- `--name=value`
abbrev pub option_with_value : Text → Text → Text
option_with_value name value = 0x2D ∷ 0x2D ∷ (name ++ 0x3D ∷ value)

-- the text can name an option: it isn't empty and has no `=`
abbrev pub IsName : Text → Type 0
IsName name = (is_blank name ≡ false) × ((i : ℕ) → i < length name → get_or name i 0 ≢ 0x3D)
