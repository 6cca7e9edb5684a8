-- What the words after the program's name mean. Source: own.
use Rattle.std.specs.Prelude.{ℕ, ◌-◌, ◌^◌, List, [], ◌∷◌, codes, Some, None, if◌then◌else◌, option_map, option_and_then, Result, Ok, Err}
use Rattle.std.specs.{declared.option.Option.{Option}, Str.{bytes_eq}}
use Rattle.hex.specs.Hex.{decode_of}
use Rattle.dpmi_words.specs.Reading.{Text, operand_name, first_name, second_name, given_by, one_operand, pair_operands, value_given}
use Rattle.dpmi_words.specs.{Options.{OptionRow, pair_options, run_options, soak_options}, Numbers.{number_if_given, number_in_text}}
use Rattle.dpmi_words.specs.{Numbers.{number_or}, declared.meaning.KeySource.{KeySource}, declared.meaning.Pair.{Pair}}
use Rattle.dpmi_words.specs.{declared.meaning.Run.{Run}, declared.meaning.Words.{Words}, declared.options.ValueKind.{ValueKind}}
use Rattle.dpmi_words.specs.Options as option
use Rattle.dpmi_words.specs.declared.meaning.KeySource.TheVariants as source
use Rattle.dpmi_words.specs.declared.meaning.Words.TheVariants as words
use Rattle.dpmi_words.specs.declared.options.ValueKind.TheVariants as kind

-- where a run's keystrokes come from: these bytes, or the file of this name
pub data Keys : Type 0 where
  Pressed : List ℕ → Keys
  Stored : Text → Keys

-- a run: its file's name, its keystrokes, its most turns, its pages of memory, its trace lines that are kept, and after how many rounds its
-- timer's interrupt becomes due, if it has a timer
pub record RunMeaning : Type 0 where
  pub file : Text
  pub keys : Keys
  pub bound : ℕ
  pub pages : ℕ
  pub trace : ℕ
  pub timer : Option ℕ

-- a pair: the names of its two files, the turns of a slice, the most turns of each client, and the pages of memory of each
pub record PairMeaning : Type 0 where
  pub first : Text
  pub second : Text
  pub slice : ℕ
  pub bound : ℕ
  pub pages_a : ℕ
  pub pages_b : ℕ

-- a run, the run of the client that is made from a number, or a pair of runs in turns
pub data Meaning : Type 0 where
  Runs : RunMeaning → Meaning
  Soaks : ℕ → Meaning
  Pairs : PairMeaning → Meaning

-- the bytes that were decoded
abbrev pub pressed : {E : Type 0} → Result (List ℕ) E → Option Keys
pressed (Ok bytes) = Some (Pressed bytes)
pressed (Err e) = None

-- the keystrokes of the values of `keys` and `keys-file`, which don't come together: an even number of hexadecimal digits, a name, or none
abbrev pub keys_of : Option Text → Option Text → Option Keys
keys_of None None = Some (Pressed [])
keys_of None (Some name) = Some (Stored name)
keys_of (Some digits) None = pressed (decode_of digits)
keys_of (Some digits) (Some name) = None

-- the number of a text by the kind of its option: a number in the range, and the usual one where there is no text
abbrev pub number_by : ValueKind → Option Text → Option ℕ
number_by (kind.Number least most usual) text = number_or usual least most text
number_by other text = None

-- the same where the number may be left out
abbrev pub optional_number_by : ValueKind → Option Text → Option (Option ℕ)
optional_number_by (kind.OptionalNumber least most) text = number_if_given least most text
optional_number_by other text = None

-- the number of an option, by the value of each name
abbrev pub number_of_option : OptionRow → (Text → Option Text) → Option ℕ
number_of_option row value = number_by row.kind (value row.name)

abbrev pub optional_number_of_option : OptionRow → (Text → Option Text) → Option (Option ℕ)
optional_number_of_option row value = optional_number_by row.kind (value row.name)

-- the run of these values
abbrev pub run_with : Option Text → Option Keys → Option ℕ → Option ℕ → Option ℕ → Option (Option ℕ) → Option RunMeaning
run_with file keys bound pages trace timer =
    option_and_then (λ f. option_and_then (λ k. option_and_then (λ b. option_and_then (λ p.
    option_and_then (λ t. option_map (λ every. record { file = f; keys = k; bound = b; pages = p; trace = t; timer = every }) timer) trace)
    pages) bound)
    keys) file

-- the run of a file and keystrokes, with the numbers of its options
abbrev pub run_of_numbers : Option Text → Option Keys → (Text → Option Text) → Option RunMeaning
run_of_numbers file keys value =
    run_with file keys (number_of_option option.bound value) (number_of_option option.pages value) (number_of_option option.trace value)
    (optional_number_of_option option.timer value)

-- the run of the value of each name
abbrev pub run_of_values : (Text → Option Text) → Option RunMeaning
run_of_values value = run_of_numbers (value operand_name) (keys_of (value option.keys.name) (value option.keys_file.name)) value

-- the number of the made client: any number of 64 bits
abbrev pub soak_of_values : (Text → Option Text) → Option ℕ
soak_of_values value = option_and_then (number_in_text 20 0 (2 ^ 64 - 1)) (value operand_name)

-- the pair of these values
abbrev pub pair_with : Option Text → Option Text → Option ℕ → Option ℕ → Option ℕ → Option ℕ → Option PairMeaning
pair_with first second slice bound pages_a pages_b =
    option_and_then (λ f. option_and_then (λ g. option_and_then (λ s. option_and_then (λ b. option_and_then (λ p.
    option_map (λ q. record { first = f; second = g; slice = s; bound = b; pages_a = p; pages_b = q }) pages_b) pages_a) bound) slice)
    second) first

-- the pair of the value of each name
abbrev pub pair_of_values : (Text → Option Text) → Option PairMeaning
pair_of_values value = pair_with
    (value first_name)
    (value second_name)
    (number_of_option option.slice value)
    (number_of_option option.bound value)
    (number_of_option option.pages_a value)
    (number_of_option option.pages_b value)

-- the words after `run`, after `soak` and after `pair`
abbrev pub run_meaning : List Text → Option RunMeaning
run_meaning words = option_and_then (λ given. run_of_values (λ name. value_given name given)) (given_by run_options one_operand words)

abbrev pub soak_meaning : List Text → Option ℕ
soak_meaning words = option_and_then (λ given. soak_of_values (λ name. value_given name given)) (given_by soak_options one_operand words)

abbrev pub pair_meaning : List Text → Option PairMeaning
pair_meaning words = option_and_then (λ given. pair_of_values (λ name. value_given name given)) (given_by pair_options pair_operands words)

-- the meaning of the words, by the first; none where they mean nothing
abbrev pub meaning : List Text → Option Meaning
meaning [] = None
meaning (first ∷ rest) =
    if bytes_eq first (codes "run") then option_map Runs (run_meaning rest) else
    if bytes_eq first (codes "soak") then option_map Soaks (soak_meaning rest) else
    if bytes_eq first (codes "pair") then option_map Pairs (pair_meaning rest) else
    None

-- what values of the code's own types mean
abbrev pub keys_in : KeySource → Keys
keys_in (source.Pressed bytes) = Pressed bytes.items
keys_in (source.Stored name) = Stored name.now

abbrev pub run_in : Run → RunMeaning
run_in r = record { file = r.file.now; keys = keys_in r.keys; bound = r.bound; pages = r.pages; trace = r.trace; timer = r.timer }

abbrev pub pair_in : Pair → PairMeaning
pair_in p =
    record { first = p.first.now; second = p.second.now; slice = p.slice; bound = p.bound; pages_a = p.pages_a; pages_b = p.pages_b }

abbrev pub meaning_in : Words → Meaning
meaning_in (words.Run r) = Runs (run_in r)
meaning_in (words.Soak seed) = Soaks seed
meaning_in (words.Pair p) = Pairs (pair_in p)
