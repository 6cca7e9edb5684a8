-- The options of the command. Source: own.
use Rattle.std.specs.Prelude.{List, [], ◌∷◌, codes, map}
use Rattle.client_world.specs.declared.limits.TheConstants.{MAX_STEPS, DEFAULT_BOUND, MAX_PAGES, MAX_PAIR_PAGES, DEFAULT_PAGES, MAX_TRACE}
use Rattle.client_world.specs.declared.limits.TheConstants.{DEFAULT_TRACE, MAX_SLICE, DEFAULT_SLICE, GREATEST_TIMER}
use Rattle.dpmi_words.specs.{Reading.{Text}, declared.options.CommandOption.{CommandOption}, declared.options.ValueKind.{ValueKind}}
use Rattle.dpmi_words.specs.declared.options.ValueKind.TheVariants.{Hex, Name, Number, OptionalNumber}

-- an option: its name, and what its value is. A number lies between the first two; the third is that of an option that isn't given
pub record OptionRow : Type 0 where
  pub name : Text
  pub kind : ValueKind

-- the keystrokes, and the file with the keystrokes
abbrev pub keys : OptionRow
keys = record { name = codes "keys"; kind = Hex }

abbrev pub keys_file : OptionRow
keys_file = record { name = codes "keys-file"; kind = Name }

-- the most turns, the pages of memory, the trace lines that are kept, and the rounds of the timer
abbrev pub bound : OptionRow
bound = record { name = codes "bound"; kind = Number 1 MAX_STEPS DEFAULT_BOUND }

abbrev pub pages : OptionRow
pages = record { name = codes "pages"; kind = Number 1 MAX_PAGES DEFAULT_PAGES }

abbrev pub trace : OptionRow
trace = record { name = codes "trace"; kind = Number 0 MAX_TRACE DEFAULT_TRACE }

abbrev pub timer : OptionRow
timer = record { name = codes "timer"; kind = OptionalNumber 1 GREATEST_TIMER }

-- the turns of a slice, and the pages of each client of a pair
abbrev pub slice : OptionRow
slice = record { name = codes "slice"; kind = Number 1 MAX_SLICE DEFAULT_SLICE }

abbrev pub pages_a : OptionRow
pages_a = record { name = codes "pages-a"; kind = Number 1 MAX_PAIR_PAGES DEFAULT_PAGES }

abbrev pub pages_b : OptionRow
pages_b = record { name = codes "pages-b"; kind = Number 1 MAX_PAIR_PAGES DEFAULT_PAGES }

-- the options of `run`, of `soak` and of `pair`
abbrev pub run_rows : List OptionRow
run_rows = keys ∷ keys_file ∷ bound ∷ pages ∷ trace ∷ timer ∷ []

abbrev pub soak_rows : List OptionRow
soak_rows = []

abbrev pub pair_rows : List OptionRow
pair_rows = slice ∷ bound ∷ pages_a ∷ pages_b ∷ []

-- their names
abbrev pub run_options : List Text
run_options = map (λ row. row.name) run_rows

abbrev pub soak_options : List Text
soak_options = map (λ row. row.name) soak_rows

abbrev pub pair_options : List Text
pair_options = map (λ row. row.name) pair_rows

-- an option of the code's own type
abbrev pub row_of : CommandOption → OptionRow
row_of o = record { name = o.name.now; kind = o.kind }
