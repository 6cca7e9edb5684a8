-- The commands of `clap` that assign the words, and what they assign. Source: own.
use Rattle.std.specs.{Prelude.{◌≡◌, true, List, [], codes, Some}, List.{fold}}
use Rattle.clap.specs.{Walk.{Rule, rows_of}, Matches.{first_value}, declared.parser.matches.Found.{Found}, Simple.{App, is_simple}}
use Rattle.clap.specs.{Simple.{matches_of, new_rule, new_shape, with_rule}, Takes.{takes}}
use Rattle.dpmi_words.specs.{Options.{pair_options, run_options, soak_options}, Reading.{Text, given_by, one_operand, pair_operands}}
use Rattle.dpmi_words.specs.Reading.{value_given}

-- an option with a value
abbrev pub option_rule : Text → Rule
option_rule name = record (new_rule name) { long = Some name }

-- a command without help, over words without the program's name
abbrev pub quiet_app : Text → App
quiet_app name = record { top = record (new_shape name) { no_binary_name = true; disable_help_flag = true }; subs = [] }

-- one option more
abbrev pub with_option : App → Text → App
with_option app name = with_rule app (option_rule name)

-- one operand more
abbrev pub with_operand : App → Text → App
with_operand app name = with_rule app (new_rule name)

-- the command of a first word with these options and operands
abbrev pub command_app : Text → List Text → List Text → App
command_app name options operands = fold with_operand (fold with_option (quiet_app name) options) operands

-- the commands of `run`, of `soak` and of `pair`
abbrev pub run_app : App
run_app = command_app (codes "run") run_options one_operand

abbrev pub soak_app : App
soak_app = command_app (codes "soak") soak_options one_operand

abbrev pub pair_app : App
pair_app = command_app (codes "pair") pair_options pair_operands

-- each value was assigned that the words give, and no other
abbrev pub Assigns : List (Text × Text) → Found → Type 0
Assigns given found = (name : Text) → first_value found name ≡ value_given name given

-- the command takes all words that break no rule of these options and operands, and assigns the values that they give
pub record TakesItsWords (app : App) (options operands : List Text) : Type 0 where
  pub simple : is_simple app ≡ true
  pub takes_all : (words : List Text) (given : List (Text × Text)) → given_by options operands words ≡ Some given → takes app words ≡ true
  pub assigns_all : (words : List Text) (given : List (Text × Text)) (found : Found) → given_by options operands words ≡ Some given →
      rows_of found ≡ matches_of app words → Assigns given found
