-- The command of some words takes the words that break no rule, and assigns the values that they give.
use Rattle.std.proofs.Common.{◌≡◌, ◌∙◌, ◌||◌, Bool, cond, true, false, ℕ, refl, ap, List, [], ◌∷◌, map, true≢false, sym, inl, inr, subst}
use Rattle.std.proofs.{lemmas.Slice.Eq.{bytes_eq-Decides}, Math.Path.{fun_ext}}
use Rattle.std.specs.Prelude.{IfSome, option_and_then, option_map, slice_get, find, is_some, Some, None, ◌⊎◌}
use Rattle.std.specs.{declared.option.Option.{Option}, List.{fold, AllByRecursion}, Str.{bytes_eq}}
use Rattle.clap.specs.{Matches.{first_value}, Simple.{App, built, is_simple, matches_of}, Takes.{takes, level_passes, walk_passes}}
use Rattle.clap.specs.Walk.{Rule, Row, Walk, Held, arg_by_id, arg_by_long, nothing_held, walk, walk_from, with_default, first_of, idle}
use Rattle.clap.specs.{Walk.{has_row, rows_of, finished as rows_finished}, declared.parser.matches.Found.{Found}}
use Rattle.clap.proofs.{OnLiterals.{clap_on_literals}, TakesLemmas.{leaf_takes}, WalkLemmas.{first_value-rows}}
use Rattle.dpmi_words.specs.{Options.{pair_options, run_options, soak_options}, Reading.{Text, Reading, nothing_read, is_option_name}}
use Rattle.dpmi_words.specs.{Reading.{one_operand, pair_operands, reads, finished, finished_by, given_by, value_given}, Command.{pair_app}}
use Rattle.dpmi_words.specs.Command.{run_app, soak_app, Assigns, TakesItsWords}
use Rattle.dpmi_words.proofs.Walks.{Rules, built_option, Operands, Tied, Idle, row, walk_at, all_steps}

-- ---- the command of `run`

or_true : (a b : Bool) → (a || b) ≡ true → (a ≡ true) ⊎ (b ≡ true)
or_true true b h = inl refl
or_true false b h = inr h

-- what holds of each listed name
each_name : (P : Text → Type 0) (names : List Text) → AllByRecursion P names → (n : Text) → is_option_name names n ≡ true → P n
each_name P [] all n h = absurd (true≢false (sym h))
each_name P (x ∷ xs) all n h = elim (or_true (bytes_eq x n) (is_option_name xs n) h) [
  | inl same ↦ subst P ((bytes_eq-Decides x n).0 same) all.0
  | inr later ↦ each_name P xs all.1 n later
]

-- two lists that are equal member by member
equal_each : {A B : Type 0} (f g : A → B) (xs : List A) → map f xs ≡ map g xs → AllByRecursion (λ x. f x ≡ g x) xs
equal_each f g [] e = tt
equal_each f g (x ∷ xs) e = let first : f x ≡ g x = cc in let rest : map f xs ≡ map g xs = cc in (first, equal_each f g xs rest)

-- the rules of a command have each option's name
has_rules : (names : List Text) (c : List Rule) → map (arg_by_long c) names ≡ map (λ n. Some (built_option n)) names →
    map (arg_by_id c) names ≡ map (λ n. Some (built_option n)) names → Rules names c
has_rules names c long by_id = record {
  long = each_name _ names (equal_each (arg_by_long c) (λ n. Some (built_option n)) names long);
  by_id = each_name _ names (equal_each (arg_by_id c) (λ n. Some (built_option n)) names by_id);
}

run_simple : is_simple run_app ≡ true
unfolding clap_on_literals
run_simple = refl

run_rules : Rules run_options (built run_app).top.rules
run_rules = has_rules run_options (built run_app).top.rules refl refl

run_operands : Operands (built run_app).top.rules 1 one_operand
run_operands = (refl, refl, tt)

-- ---- the command of `soak`

soak_simple : is_simple soak_app ≡ true
unfolding clap_on_literals
soak_simple = refl

soak_rules : Rules soak_options (built soak_app).top.rules
soak_rules = has_rules soak_options (built soak_app).top.rules refl refl

soak_operands : Operands (built soak_app).top.rules 1 one_operand
soak_operands = (refl, refl, tt)

-- ---- the command of `pair`

pair_simple : is_simple pair_app ≡ true
unfolding clap_on_literals
pair_simple = refl

pair_rules : Rules pair_options (built pair_app).top.rules
pair_rules = has_rules pair_options (built pair_app).top.rules refl refl

pair_both : Operands (built pair_app).top.rules 1 pair_operands
pair_both = (refl, refl, (refl, refl, tt))

-- ---- the end of the walk

finished_is : (o : Option Reading) (given : List (Text × Text)) → option_and_then finished o ≡ Some given →
    (r : Reading) × (o ≡ Some r) × (r.waiting ≡ None) × (r.given ≡ given)
finished_is None given e = cc
finished_is (Some r) given e = go r.waiting r.left refl e
  where
    go : (w : Option Text) (left : List Text) → r.waiting ≡ w → finished_by w left r.given ≡ Some given →
        (x : Reading) × (Some r ≡ Some x) × (x.waiting ≡ None) × (x.given ≡ given)
    go (Some n) left is h = cc
    go None (name ∷ rest) is h = cc
    go None [] is h = let same : r.given ≡ given = cc in (r, refl, is, same)

no_default : (rows : List Row) (a : Rule) → a.defaults ≡ [] → with_default rows a ≡ rows
no_default rows a none = rw none (same (has_row a.id rows))
  where
    same : (b : Bool) → cond b rows rows ≡ rows
    same true = refl
    same false = refl

no_defaults : (c : List Rule) (rows : List Row) → map (λ a. a.defaults) c ≡ map (λ a. []) c → fold with_default rows c ≡ rows
no_defaults [] rows none = refl
no_defaults (a ∷ rest) rows none =
    let first : a.defaults ≡ [] = cc in
    let others : map (λ (x : Rule). x.defaults) rest ≡ map (λ (x : Rule). []) rest = cc in
    rw (no_default rows a first) (no_defaults rest rows others)

-- where the walk over the words ends
record Ends (app : App) (words : List Text) (given : List (Text × Text)) : Type 0 where
  passes : walk_passes (built app).top [] (walk_from nothing_held) words ≡ true
  held : Held
  at : ℕ
  idle_now : Idle (built app).top.rules given held
  is : walk (built app).top.rules [] nothing_held words ≡ walk_at at idle held

walk_ends : (names operands : List Text) (app : App) → Rules names (built app).top.rules → Operands (built app).top.rules 1 operands →
    (built app).top.args_override_self ≡ false → (words : List Text) (given : List (Text × Text)) →
    given_by names operands words ≡ Some given → Ends app words given
walk_ends names operands app rules places again words given e =
    let r = finished_is (reads names words (nothing_read operands)) given e in
    let started : Tied names (built app).top.rules None operands [] (walk_from nothing_held) = record {
      held = nothing_held;
      at = 1;
      idle_now = record { rows = refl; skip = refl; passes = refl };
      operands = places;
      is = refl;
    } in
    let both = all_steps names (built app).top rules again words (nothing_read operands) r.0 (walk_from nothing_held) started r.1 in
    let tied : Tied names (built app).top.rules None r.0.left given (walk (built app).top.rules [] nothing_held words) =
    rw (r.2, r.3) at both.1 in
    record { passes = both.0; held = tied.held; at = tied.at; idle_now = tied.idle_now; is = tied.is }

-- ---- what the commands take and assign

run_takes : (words : List Text) (given : List (Text × Text)) → given_by run_options one_operand words ≡ Some given →
    takes run_app words ≡ true
run_takes words given e =
    let ends = walk_ends run_options one_operand run_app run_rules run_operands refl words given e in
    let level : level_passes (built run_app).top [] nothing_held words false ≡ true =
    rw (ends.passes, ends.is, ends.idle_now.passes) refl in
    rw run_simple (leaf_takes (built run_app) nothing_held words refl level)

run_matches : (words : List Text) (given : List (Text × Text)) → given_by run_options one_operand words ≡ Some given →
    matches_of run_app words ≡ map row given
run_matches words given e =
    let ends = walk_ends run_options one_operand run_app run_rules run_operands refl words given e in
    ap (λ (w : Walk). rows_finished (built run_app).top.rules w.held) ends.is
    ∙ no_defaults (built run_app).top.rules _ refl
    ∙ ends.idle_now.rows

soak_takes : (words : List Text) (given : List (Text × Text)) → given_by soak_options one_operand words ≡ Some given →
    takes soak_app words ≡ true
soak_takes words given e =
    let ends = walk_ends soak_options one_operand soak_app soak_rules soak_operands refl words given e in
    let level : level_passes (built soak_app).top [] nothing_held words false ≡ true =
    rw (ends.passes, ends.is, ends.idle_now.passes) refl in
    rw soak_simple (leaf_takes (built soak_app) nothing_held words refl level)

soak_matches : (words : List Text) (given : List (Text × Text)) → given_by soak_options one_operand words ≡ Some given →
    matches_of soak_app words ≡ map row given
soak_matches words given e =
    let ends = walk_ends soak_options one_operand soak_app soak_rules soak_operands refl words given e in
    ap (λ (w : Walk). rows_finished (built soak_app).top.rules w.held) ends.is
    ∙ no_defaults (built soak_app).top.rules _ refl
    ∙ ends.idle_now.rows

pair_takes : (words : List Text) (given : List (Text × Text)) → given_by pair_options pair_operands words ≡ Some given →
    takes pair_app words ≡ true
pair_takes words given e =
    let ends = walk_ends pair_options pair_operands pair_app pair_rules pair_both refl words given e in
    let level : level_passes (built pair_app).top [] nothing_held words false ≡ true =
    rw (ends.passes, ends.is, ends.idle_now.passes) refl in
    rw pair_simple (leaf_takes (built pair_app) nothing_held words refl level)

pair_matches : (words : List Text) (given : List (Text × Text)) → given_by pair_options pair_operands words ≡ Some given →
    matches_of pair_app words ≡ map row given
pair_matches words given e =
    let ends = walk_ends pair_options pair_operands pair_app pair_rules pair_both refl words given e in
    ap (λ (w : Walk). rows_finished (built pair_app).top.rules w.held) ends.is
    ∙ no_defaults (built pair_app).top.rules _ refl
    ∙ ends.idle_now.rows

-- the first value of a name in the rows
pub first_given : (name : Text) (given : List (Text × Text)) → first_of name (map row given) ≡ value_given name given
first_given name [] = refl
first_given name (p ∷ ps) = go (bytes_eq p.0 name) (first_given name ps)
  where
    go : (b : Bool) → first_of name (map row ps) ≡ value_given name ps →
        option_and_then (λ (r : Row). slice_get r.values 0) (cond b (Some (row p)) (find (λ (r : Row). bytes_eq r.id name) (map row ps)))
        ≡ option_map (λ (q : Text × Text). q.1) (cond b (Some p) (find (λ (q : Text × Text). bytes_eq q.0 name) ps))
    go true h = refl
    go false h = h

-- what is made of the values that were assigned is made of those that the words give
pub of_assigned : {M : Type 0} (of_values : (Text → Option Text) → Option M) (o : Option (List (Text × Text))) (found : Found) →
    is_some o ≡ true → IfSome o (λ given. Assigns given found) →
    of_values (first_value found) ≡ option_and_then (λ given. of_values (λ name. value_given name given)) o
of_assigned of_values None found some h = absurd (true≢false (sym some))
of_assigned of_values (Some given) found some h = ap of_values (fun_ext h)

-- each value that is given
pub if_given : (o : Option (List (Text × Text))) (P : List (Text × Text) → Type 0) →
    ((given : List (Text × Text)) → o ≡ Some given → P given) → IfSome o P
if_given None P h = tt
if_given (Some given) P h = h given refl

-- a parse that found these rows assigns these values
rows_assign : (found : Found) (given : List (Text × Text)) → rows_of found ≡ map row given → Assigns given found
rows_assign found given rows name = first_value-rows found name ∙ ap (first_of name) rows ∙ first_given name given

takes_words : (app : App) (names operands : List Text) → is_simple app ≡ true →
    ((words : List Text) (given : List (Text × Text)) → given_by names operands words ≡ Some given → takes app words ≡ true) →
    ((words : List Text) (given : List (Text × Text)) → given_by names operands words ≡ Some given → matches_of app words ≡ map row given) →
    TakesItsWords app names operands
takes_words app names operands simple passes finds = record {
  simple = simple;
  takes_all = passes;
  assigns_all = λ words given found e rows. rows_assign found given (rows ∙ finds words given e);
}

pub run_takes_words : TakesItsWords run_app run_options one_operand
run_takes_words = takes_words run_app run_options one_operand run_simple run_takes run_matches

pub soak_takes_words : TakesItsWords soak_app soak_options one_operand
soak_takes_words = takes_words soak_app soak_options one_operand soak_simple soak_takes soak_matches

pub pair_takes_words : TakesItsWords pair_app pair_options pair_operands
pair_takes_words = takes_words pair_app pair_options pair_operands pair_simple pair_takes pair_matches
