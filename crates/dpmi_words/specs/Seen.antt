-- What the check of the words has seen, as a reading. Source: own.
use Rattle.std.specs.{Prelude.{List, map, option_map}, Borrow.{Bor}}
use Rattle.dpmi_words.specs.{Reading.{Reading, Text}, declared.check.Given.{Given}, declared.check.Seen.{Seen}}
use Rattle.dpmi_words.specs.declared.options.CommandOption.{CommandOption}

-- the values with their names
abbrev pub pairs : List Given → List (Text × Text)
pairs = map (λ g. (g.name.now, g.value.now))

-- the texts that are lent
abbrev pub texts : List (Bor Text) → List Text
texts = map (λ s. s.now)

-- the names of the options
abbrev pub names_of : List CommandOption → List Text
names_of = map (λ o. o.name.now)

-- the reading
abbrev pub reading_of : Seen → Reading
reading_of s = record { waiting = option_map (λ n. n.now) s.waiting; left = texts s.left.now; given = pairs s.given.items }
