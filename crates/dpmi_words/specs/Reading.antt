-- What the words after the first one give: each option its value, and the words that are no options, the operands, in their order.
-- The words are read one by one. Source: own.
use Rattle.std.specs.Prelude.{◌==◌, ◌&&◌, ◌||◌, not, Bool, true, false, ℕ, List, [], ◌∷◌, ◌++◌, codes, Some, None, if◌then◌else◌}
use Rattle.std.specs.{Prelude.{option_map, option_and_then, find}, declared.option.Option.{Option}, List.{list_any, before_first}}
use Rattle.std.specs.{List.{after_first}, Str.{bytes_eq}}

-- a text, as its bytes
abbrev pub Text : Type 0
Text = List ℕ

-- the name under which the one operand of `run` and `soak`, FILE or N, is kept; no option has it
abbrev pub operand_name : Text
operand_name = codes "operand"

-- the names under which the two operands of `pair` are kept
abbrev pub first_name : Text
first_name = codes "first"

abbrev pub second_name : Text
second_name = codes "second"

-- `run` and `soak` have one operand, and `pair` has two
abbrev pub one_operand : List Text
one_operand = operand_name ∷ []

abbrev pub pair_operands : List Text
pair_operands = first_name ∷ second_name ∷ []

-- what the words so far gave: the option that waits for its value, the operands that are still to come, and each value with its name
pub record Reading : Type 0 where
  pub waiting : Option Text
  pub left : List Text
  pub given : List (Text × Text)

-- nothing was read, and these operands are to come
abbrev pub nothing_read : List Text → Reading
nothing_read operands = record { waiting = None; left = operands; given = [] }

-- the word begins with a hyphen
abbrev pub is_hyphened : Text → Bool
is_hyphened [] = false
is_hyphened (c ∷ cs) = c == 0x2D

-- the text is empty
abbrev pub is_blank : Text → Bool
is_blank [] = true
is_blank (c ∷ cs) = false

-- the text after a hyphen
abbrev pub after_hyphen : Text → Option Text
after_hyphen [] = None
after_hyphen (c ∷ cs) = if c == 0x2D then Some cs else None

-- the name before the first `=`, and the value after it; without `=` the whole text is the name
abbrev pub name_and_value : Text → Text × Option Text
name_and_value text = (
  before_first (λ c. c == 0x3D) text,
  if list_any (λ c. c == 0x3D) text then Some (after_first (λ c. c == 0x3D) text) else None,
)

-- the same for what follows two hyphens, which isn't empty
abbrev pub option_after : Text → Option (Text × Option Text)
option_after [] = None
option_after (c ∷ cs) = Some (name_and_value (c ∷ cs))

-- the name and the value of `--name` or `--name=value`
abbrev pub option_of : Text → Option (Text × Option Text)
option_of word = option_and_then option_after (option_and_then after_hyphen (after_hyphen word))

-- a value was given under this name
abbrev pub has_given : Text → List (Text × Text) → Bool
has_given name = list_any (λ p. bytes_eq p.0 name)

-- the name is one of these
abbrev pub is_option_name : List Text → Text → Bool
is_option_name names name = list_any (λ n. bytes_eq n name) names

-- one value more; it isn't empty, and its name has none yet
abbrev pub gives : Text → Text → Reading → Option Reading
gives name value r =
    if has_given name r.given || is_blank value then None
    else Some (record r { waiting = None; given = r.given ++ (name, value) ∷ [] })

-- an option with its value, or an option that waits for it
abbrev pub with_value : Text → Option Text → Reading → Option Reading
with_value name None r = Some (record r { waiting = Some name })
with_value name (Some value) r = gives name value r

-- the option is listed, and wasn't given before
abbrev pub names_option : List Text → Text → Option Text → Reading → Option Reading
names_option names name value r =
    if is_option_name names name && not (has_given name r.given) then with_value name value r else None

-- a word with a hyphen is an option
abbrev pub option_word : List Text → Option (Text × Option Text) → Reading → Option Reading
option_word names None r = None
option_word names (Some p) r = names_option names p.0 p.1 r

-- a word is the next operand; none where no operand is left
abbrev pub operand_word : List Text → Text → Reading → Option Reading
operand_word [] word r = None
operand_word (name ∷ rest) word r = gives name word (record r { left = rest })

-- a word is the value of the option that waits, which begins with no hyphen; or it is an option; or an operand
abbrev pub step_by : List Text → Option Text → Text → Reading → Option Reading
step_by names (Some name) word r = if is_hyphened word then None else gives name word r
step_by names None word r = if is_hyphened word then option_word names (option_of word) r else operand_word r.left word r

-- one word more; none where it breaks a rule
abbrev pub step : List Text → Text → Reading → Option Reading
step names word r = step_by names r.waiting word r

-- the words in turn
unfoldable pub reads : List Text → List Text → Reading → Option Reading
reads names [] r = Some r
reads names (word ∷ rest) r = option_and_then (reads names rest) (step names word r)

-- at the end no option waits, and no operand is left
abbrev pub finished_by : Option Text → List Text → List (Text × Text) → Option (List (Text × Text))
finished_by (Some name) left given = None
finished_by None [] given = Some given
finished_by None (name ∷ rest) given = None

abbrev pub finished : Reading → Option (List (Text × Text))
finished r = finished_by r.waiting r.left r.given

-- the values that the words give, each with its name, where the options and the operands have these names; none where the words break a
-- rule
abbrev pub given_by : List Text → List Text → List Text → Option (List (Text × Text))
given_by names operands words = option_and_then finished (reads names words (nothing_read operands))

-- the value of a name
abbrev pub value_given : Text → List (Text × Text) → Option Text
value_given name given = option_map (λ p. p.1) (find (λ p. bytes_eq p.0 name) given)
