-- A command of clap with these options and operands takes each word as `step` does.
use Rattle.std.proofs.Common.{◌≡◌, ◌∙◌, ◌+◌, ◌&&◌, ◌||◌, not, ℕ, Bool, cond, true, false, refl, sym, ap, List, [], ◌∷◌, ◌++◌, map}
use Rattle.std.proofs.{Common.{true≢false, subst}, lemmas.Slice.Eq.{bytes_eq-Decides}, lemmas.List.{append-nil, map-append}}
use Rattle.std.proofs.Math.Bool.{and-false}
use Rattle.std.specs.{Prelude.{option_and_then, Some, None, min, ⊤}, declared.option.Option.{Option}, List.{list_any, fold}, Str.{bytes_eq}}
use Rattle.clap.specs.{Lexer.{long_of, short_of, usize_max}, Values.{reading_of}}
use Rattle.clap.specs.{declared.parser.matches.ValueSource.TheVariants.{CommandLine}, Simple.{new_rule, filled, with_index, Shape}}
use Rattle.clap.specs.Walk.{Rule, Row, Held, Walk, Text, idle, option, arg_by_long, arg_by_id, arg_by_index, settled, settled_rows, reacted}
use Rattle.clap.specs.{Walk.{used, at_row, more_values, walked, is_pending, Waiting}, Takes.{settle_passes, turn_passes, walk_passes}}
use Rattle.dpmi_words.specs.Reading.{Reading, option_of, operand_word, option_word, with_value, step_by, has_given, is_hyphened}
use Rattle.dpmi_words.specs.Reading.{is_option_name, is_blank, gives, step, reads}
use Rattle.clap.specs.declared.builder.value_parser.ValueParser.TheVariants as vp

-- ---- the rules

abbrev pub built_option : Text → Rule
built_option name = filled (record (new_rule name) { long = Some name })

-- the operand of a place
abbrev pub built_operand : ℕ → Text → Rule
built_operand k name = with_index k (filled (new_rule name))

-- the place of the next operand
abbrev pub next_place : ℕ → ℕ
next_place k = min (k + 1) usize_max

abbrev pub row : Text × Text → Row
row p = record { id = p.0; values = p.1 ∷ []; count = None; source = Some CommandLine; reading = reading_of vp.String }

pub record Rules (names : List Text) (c : List Rule) : Type 0 where
  pub long : (n : Text) → is_option_name names n ≡ true → arg_by_long c n ≡ Some (built_option n)
  pub by_id : (n : Text) → is_option_name names n ≡ true → arg_by_id c n ≡ Some (built_option n)

-- these operands are to come from a place on
abbrev pub Operands : List Rule → ℕ → List Text → Type 0
Operands c k [] = ⊤
Operands c k (n ∷ rest) =
    (arg_by_index c k ≡ Some (built_operand k n)) × (arg_by_id c n ≡ Some (built_operand k n)) × Operands c (next_place k) rest

-- ---- rows

or_false : (a b : Bool) → (a || b) ≡ false → (a ≡ false) × (b ≡ false)
or_false true b h = absurd (true≢false h)
or_false false b h = (refl, h)

at_row_missing : (n : Text) (change : Row → List Row) (missing : List Row) (given : List (Text × Text)) → has_given n given ≡ false →
    at_row n change missing (map row given) ≡ map row given ++ missing
at_row_missing n change missing [] h = refl
at_row_missing n change missing (p ∷ ps) h =
    let both = or_false (bytes_eq p.0 n) (has_given n ps) h in
    rw both.0 (ap (λ l. row p ∷ l) (at_row_missing n change missing ps both.1))

pub used_new : (n v : Text) (given : List (Text × Text)) → has_given n given ≡ false →
    used (built_option n) (v ∷ []) (map row given) ≡ map row (given ++ (n, v) ∷ [])
used_new n v given h =
    rw (at_row_missing n (λ r. []) [] given h, append-nil (map row given))
    (at_row_missing n (more_values CommandLine (v ∷ [])) (row (n, v) ∷ []) given h ∙ sym (map-append row given ((n, v) ∷ [])))

pub has_row_given : (n : Text) (given : List (Text × Text)) → list_any (λ (r : Row). bytes_eq r.id n) (map row given) ≡ has_given n given
has_row_given n [] = refl
has_row_given n (p ∷ ps) = ap (λ b. bytes_eq p.0 n || b) (has_row_given n ps)

-- ---- one word

not_true : (b : Bool) → (b ≡ true → ⊥) → b ≡ false
not_true true h = absurd (h refl)
not_true false h = refl

dashes : (word : Text) (p : Text × Option Text) → long_of word ≡ Some p → bytes_eq word (45 ∷ 45 ∷ []) ≡ false
dashes word p e = not_true _ (λ h.
    let two : word ≡ 45 ∷ 45 ∷ [] = (bytes_eq-Decides word (45 ∷ 45 ∷ [])).0 h in
    let bad : long_of (45 ∷ 45 ∷ []) ≡ Some p = rw two at e in
    cc)

attached : (c : List Rule) (h : Held) (k : ℕ) (word n v : Text) → long_of word ≡ Some (n, Some v) →
    arg_by_long c n ≡ Some (built_option n) →
    walked c [] (record { held = h; waiting = idle; position = k; is_trailing = false; stopped = None }) word
    ≡ record { held = reacted c (built_option n) (v ∷ []) h; waiting = idle; position = k; is_trailing = false; stopped = None }
unfolding walked
attached c h k word n v e rule = rw (dashes word (n, Some v) e, e, rule) refl

separate : (c : List Rule) (h : Held) (k : ℕ) (word n : Text) → long_of word ≡ Some (n, None) → arg_by_long c n ≡ Some (built_option n) →
    walked c [] (record { held = h; waiting = idle; position = k; is_trailing = false; stopped = None }) word ≡ record
    { held = record (settled c h) { pending = Some (n, []) }; waiting = option n; position = k; is_trailing = false; stopped = None }
unfolding walked
separate c h k word n e rule = rw (dashes word (n, None) e, e, rule) refl

-- the words of this crate for a long option are those of clap
long_is : (word : Text) → long_of word ≡ option_of word
long_is [] = refl
long_is (c ∷ cs) = refl

-- ---- where nothing waits

pub record Idle (c : List Rule) (given : List (Text × Text)) (h : Held) : Type 0 where
  pub rows : settled_rows c h.pending h.rows ≡ map row given
  pub skip : h.skip ≡ 0
  pub passes : settle_passes c false h ≡ true

-- once a value is used
pub idle_used : (c : List Rule) (given : List (Text × Text)) (n v : Text) → has_given n given ≡ false →
    Idle c (given ++ (n, v) ∷ []) (record { rows = map row (given ++ (n, v) ∷ []); pending = None; skip = 0 })
idle_used c given n v new = record { rows = refl; skip = refl; passes = refl }

-- while a value is pending
pub idle_pending : (c : List Rule) (given : List (Text × Text)) (n v : Text) → arg_by_id c n ≡ Some (built_option n) →
    has_given n given ≡ false → Idle c (given ++ (n, v) ∷ []) (record { rows = map row given; pending = Some (n, v ∷ []); skip = 0 })
idle_pending c given n v rule new = record {
  rows = rw rule (used_new n v given new);
  skip = refl;
  passes = rw (rule, has_row_given n given, new) refl;
}

pub idle_operand : (c : List Rule) (given : List (Text × Text)) (k : ℕ) (n v : Text) → arg_by_id c n ≡ Some (built_operand k n) →
    has_given n given ≡ false → Idle c (given ++ (n, v) ∷ []) (record { rows = map row given; pending = Some (n, v ∷ []); skip = 0 })
idle_operand c given k n v rule new = record {
  rows = rw rule (used_new n v given new);
  skip = refl;
  passes = rw (rule, has_row_given n given, new) refl;
}

-- a word that is no flag
plain_long : (word : Text) → is_hyphened word ≡ false → long_of word ≡ None
plain_long [] e = refl
plain_long (x ∷ xs) e = rw e refl

plain_short : (word : Text) → is_hyphened word ≡ false → short_of word ≡ None
plain_short [] e = refl
plain_short (x ∷ xs) e = rw e refl

plain_dashes : (word : Text) → is_hyphened word ≡ false → bytes_eq word (45 ∷ 45 ∷ []) ≡ false
plain_dashes [] e = refl
plain_dashes (x ∷ xs) e = rw e refl

same_bytes : (n : Text) → bytes_eq n n ≡ true
same_bytes n = (bytes_eq-Decides n n).1 refl

value_read : (c : List Rule) (rows : List Row) (k : ℕ) (word n : Text) → is_hyphened word ≡ false → arg_by_id c n ≡ Some (built_option n) →
    walked c [] (record {
      held = record { rows = rows; pending = Some (n, []); skip = 0 };
      waiting = option n;
      position = k;
      is_trailing = false;
      stopped = None;
    }) word
    ≡ record {
      held = record { rows = rows; pending = Some (n, word ∷ []); skip = 0 };
      waiting = idle;
      position = k;
      is_trailing = false;
      stopped = None;
    }
unfolding walked
value_read c rows k word n e rule = rw (plain_dashes word e, plain_long word e, plain_short word e, rule, same_bytes n) refl

operand_read : (c : List Rule) (given : List (Text × Text)) (h : Held) (k : ℕ) (n word : Text) → is_hyphened word ≡ false →
    arg_by_index c k ≡ Some (built_operand k n) → Idle c given h →
    walked c [] (record { held = h; waiting = idle; position = k; is_trailing = false; stopped = None }) word
    ≡ record {
      held = record { rows = map row given; pending = Some (n, word ∷ []); skip = 0 };
      waiting = idle;
      position = next_place k;
      is_trailing = false;
      stopped = None;
    }
unfolding walked
operand_read c given h k n word e rule is =
    rw (
      plain_dashes word e,
      plain_long word e,
      plain_short word e,
      rule,
      and-false (is_pending (built_operand k n) h.pending),
      is.rows,
      is.skip,
    ) refl

-- ---- each word passes

attached_passes : (s : Shape) (given : List (Text × Text)) (h : Held) (k : ℕ) (word n v : Text) → long_of word ≡ Some (n, Some v) →
    arg_by_long s.rules n ≡ Some (built_option n) → s.args_override_self ≡ false → Idle s.rules given h → has_given n given ≡ false →
    turn_passes s [] (record { held = h; waiting = idle; position = k; is_trailing = false; stopped = None }) word ≡ true
attached_passes s given h k word n v e rule again is new =
    rw (dashes word (n, Some v) e, e, rule, again, is.passes, is.rows, has_row_given n given, new) refl

separate_passes : (s : Shape) (given : List (Text × Text)) (h : Held) (k : ℕ) (word n : Text) → long_of word ≡ Some (n, None) →
    arg_by_long s.rules n ≡ Some (built_option n) → s.args_override_self ≡ false → Idle s.rules given h →
    turn_passes s [] (record { held = h; waiting = idle; position = k; is_trailing = false; stopped = None }) word ≡ true
separate_passes s given h k word n e rule again is = rw (dashes word (n, None) e, e, rule, again, is.passes) refl

value_passes : (s : Shape) (rows : List Row) (k : ℕ) (word n : Text) → is_hyphened word ≡ false →
    turn_passes s [] (record {
      held = record { rows = rows; pending = Some (n, []); skip = 0 };
      waiting = option n;
      position = k;
      is_trailing = false;
      stopped = None;
    }) word ≡ true
value_passes s rows k word n e = rw (plain_dashes word e, plain_long word e, plain_short word e) refl

operand_passes : (s : Shape) (given : List (Text × Text)) (h : Held) (k : ℕ) (n word : Text) → is_hyphened word ≡ false →
    arg_by_index s.rules k ≡ Some (built_operand k n) → s.args_override_self ≡ false → Idle s.rules given h →
    turn_passes s [] (record { held = h; waiting = idle; position = k; is_trailing = false; stopped = None }) word ≡ true
operand_passes s given h k n word e rule again is =
    rw (
      plain_dashes word e,
      plain_long word e,
      plain_short word e,
      rule,
      again,
      and-false (is_pending (built_operand k n) h.pending),
      is.passes,
    ) refl

-- ---- one step of both

abbrev pub walk_at : ℕ → Waiting → Held → Walk
walk_at k waiting h = record { held = h; waiting = waiting; position = k; is_trailing = false; stopped = None }

-- the walk of clap is where the reading is
pub record IdleAt (c : List Rule) (left : List Text) (given : List (Text × Text)) (w : Walk) : Type 0 where
  pub held : Held
  pub at : ℕ
  pub idle_now : Idle c given held
  pub operands : Operands c at left
  pub is : w ≡ walk_at at idle held

pub record WaitsAt (names : List Text) (c : List Rule) (n : Text) (left : List Text) (given : List (Text × Text)) (w : Walk) : Type 0 where
  pub at : ℕ
  pub listed : is_option_name names n ≡ true
  pub new : has_given n given ≡ false
  pub operands : Operands c at left
  pub is : w ≡ walk_at at (option n) (record { rows = map row given; pending = Some (n, []); skip = 0 })

abbrev pub Tied : List Text → List Rule → Option Text → List Text → List (Text × Text) → Walk → Type 0
Tied names c None left given w = IdleAt c left given w
Tied names c (Some n) left given w = WaitsAt names c n left given w

pub unless_Some : {A : Type 0} (b : Bool) (o : Option A) (x : A) → cond b None o ≡ Some x → (b ≡ false) × (o ≡ Some x)
unless_Some true o x e = cc
unless_Some false o x e = (refl, e)

pub when_Some : {A : Type 0} (b : Bool) (o : Option A) (x : A) → cond b o None ≡ Some x → (b ≡ true) × (o ≡ Some x)
when_Some true o x e = (refl, e)
when_Some false o x e = cc

and_not : (a b : Bool) → (a && not b) ≡ true → (a ≡ true) × (b ≡ false)
and_not true true h = absurd (true≢false (sym h))
and_not true false h = (refl, refl)
and_not false b h = absurd (true≢false (sym h))

gives_is : (n v : Text) (r r2 : Reading) → gives n v r ≡ Some r2 →
    (has_given n r.given ≡ false) × (r2 ≡ record { waiting = None; left = r.left; given = r.given ++ (n, v) ∷ [] })
gives_is n v r r2 e =
    let both = unless_Some (has_given n r.given || is_blank v) _ r2 e in
    let same : r2 ≡ record { waiting = None; left = r.left; given = r.given ++ (n, v) ∷ [] } = let h = both.1 in cc in
    ((or_false (has_given n r.given) (is_blank v) both.0).0, same)

abbrev pub StepsWith : List Text → Shape → Text → Walk → Reading → Type 0
StepsWith names s word w r2 = (turn_passes s [] w word ≡ true) × Tied names s.rules r2.waiting r2.left r2.given (walked s.rules [] w word)

value_step : (names : List Text) (s : Shape) → Rules names s.rules →
    (left : List Text) (given : List (Text × Text)) (n word : Text) (w : Walk) (r2 : Reading) → WaitsAt names s.rules n left given w →
    step names word (record { waiting = Some n; left = left; given = given }) ≡ Some r2 → StepsWith names s word w r2
value_step names s rules left given n word w r2 tied e =
    let plain = unless_Some (is_hyphened word) _ r2 e in
    let is = gives_is n word (record { waiting = Some n; left = left; given = given }) r2 plain.1 in
    let rule = rules.by_id n tied.listed in
    rw (is.1, tied.is) (
      value_passes s (map row given) tied.at word n plain.0,
      record {
        held = record { rows = map row given; pending = Some (n, word ∷ []); skip = 0 };
        at = tied.at;
        idle_now = idle_pending s.rules given n word rule tied.new;
        operands = tied.operands;
        is = value_read s.rules (map row given) tied.at word n plain.0 rule;
      },
    )

attached_step : (names : List Text) (s : Shape) → Rules names s.rules → s.args_override_self ≡ false →
    (left : List Text) (given : List (Text × Text)) (h : Held) (k : ℕ) (n v word : Text) (r2 : Reading) → Idle s.rules given h →
    Operands s.rules k left → long_of word ≡ Some (n, Some v) → is_option_name names n ≡ true →
    gives n v (record { waiting = None; left = left; given = given }) ≡ Some r2 → StepsWith names s word (walk_at k idle h) r2
attached_step names s rules again left given h k n v word r2 idle_now operands long listed e =
    let is = gives_is n v (record { waiting = None; left = left; given = given }) r2 e in
    let rule = rules.long n listed in
    rw is.1 (
      attached_passes s given h k word n v long rule again idle_now is.0,
      record {
        held = record { rows = map row (given ++ (n, v) ∷ []); pending = None; skip = 0 };
        at = k;
        idle_now = idle_used s.rules given n v is.0;
        operands = operands;
        is = attached s.rules h k word n v long rule ∙ rw (idle_now.rows, idle_now.skip, used_new n v given is.0) refl;
      },
    )

separate_step : (names : List Text) (s : Shape) → Rules names s.rules → s.args_override_self ≡ false →
    (left : List Text) (given : List (Text × Text)) (h : Held) (k : ℕ) (n word : Text) → Idle s.rules given h → Operands s.rules k left →
    long_of word ≡ Some (n, None) → is_option_name names n ≡ true → has_given n given ≡ false →
    StepsWith names s word (walk_at k idle h) (record { waiting = Some n; left = left; given = given })
separate_step names s rules again left given h k n word idle_now operands long listed new =
    let rule = rules.long n listed in (
      separate_passes s given h k word n long rule again idle_now,
      record {
        at = k;
        listed = listed;
        new = new;
        operands = operands;
        is = separate s.rules h k word n long rule ∙ rw (idle_now.rows, idle_now.skip) refl;
      },
    )

operand_step : (names : List Text) (s : Shape) → s.args_override_self ≡ false →
    (left : List Text) (given : List (Text × Text)) (h : Held) (k : ℕ)
    (word : Text) (r2 : Reading) → Idle s.rules given h → Operands s.rules k left → is_hyphened word ≡ false →
    operand_word left word (record { waiting = None; left = left; given = given }) ≡ Some r2 → StepsWith names s word (walk_at k idle h) r2
operand_step names s again [] given h k word r2 idle_now operands plain e = cc
operand_step names s again (n ∷ rest) given h k word r2 idle_now operands plain e =
    let is = gives_is n word (record { waiting = None; left = rest; given = given }) r2 e in
    rw is.1 (
      operand_passes s given h k n word plain operands.0 again idle_now,
      record {
        held = record { rows = map row given; pending = Some (n, word ∷ []); skip = 0 };
        at = next_place k;
        idle_now = idle_operand s.rules given k n word operands.1 is.0;
        operands = operands.2;
        is = operand_read s.rules given h k n word plain operands.0 idle_now;
      },
    )

value_or_name : (names : List Text) (s : Shape) → Rules names s.rules → s.args_override_self ≡ false →
    (left : List Text) (given : List (Text × Text)) (h : Held) (k : ℕ) (n word : Text) (v : Option Text) (r2 : Reading) →
    Idle s.rules given h → Operands s.rules k left → long_of word ≡ Some (n, v) → is_option_name names n ≡ true →
    has_given n given ≡ false → with_value n v (record { waiting = None; left = left; given = given }) ≡ Some r2 →
    StepsWith names s word (walk_at k idle h) r2
value_or_name names s rules again left given h k n word (Some v) r2 idle_now operands long listed new e =
    attached_step names s rules again left given h k n v word r2 idle_now operands long listed e
value_or_name names s rules again left given h k n word None r2 idle_now operands long listed new e =
    let is : r2 ≡ record { waiting = Some n; left = left; given = given } = cc in
    rw is (separate_step names s rules again left given h k n word idle_now operands long listed new)

option_step : (names : List Text) (s : Shape) → Rules names s.rules → s.args_override_self ≡ false →
    (left : List Text) (given : List (Text × Text)) (h : Held) (k : ℕ)
    (word : Text) (o : Option (Text × Option Text)) (r2 : Reading) → Idle s.rules given h → Operands s.rules k left → long_of word ≡ o →
    option_word names o (record { waiting = None; left = left; given = given }) ≡ Some r2 → StepsWith names s word (walk_at k idle h) r2
option_step names s rules again left given h k word None r2 idle_now operands long e = cc
option_step names s rules again left given h k word (Some p) r2 idle_now operands long e =
    let first = when_Some (is_option_name names p.0 && not (has_given p.0 given)) _ r2 e in
    let both = and_not (is_option_name names p.0) (has_given p.0 given) first.0 in
    value_or_name names s rules again left given h k p.0 word p.1 r2 idle_now operands long both.0 both.1 first.1

idle_step : (names : List Text) (s : Shape) → Rules names s.rules → s.args_override_self ≡ false →
    (left : List Text) (given : List (Text × Text)) (h : Held) (k : ℕ)
    (word : Text) (r2 : Reading) (b : Bool) → Idle s.rules given h → Operands s.rules k left → is_hyphened word ≡ b →
    cond b (option_word names (option_of word) (record { waiting = None; left = left; given = given }))
    (operand_word left word (record { waiting = None; left = left; given = given })) ≡ Some r2 →
    StepsWith names s word (walk_at k idle h) r2
idle_step names s rules again left given h k word r2 true idle_now operands is e =
    option_step names s rules again left given h k word (option_of word) r2 idle_now operands (long_is word) e
idle_step names s rules again left given h k word r2 false idle_now operands is e =
    operand_step names s again left given h k word r2 idle_now operands is e

pub one_step : (names : List Text) (s : Shape) → Rules names s.rules → s.args_override_self ≡ false →
    (waiting : Option Text) (left : List Text) (given : List (Text × Text))
    (word : Text) (w : Walk) (r2 : Reading) → Tied names s.rules waiting left given w →
    step_by names waiting word (record { waiting = waiting; left = left; given = given }) ≡ Some r2 → StepsWith names s word w r2
one_step names s rules again (Some n) left given word w r2 tied e = value_step names s rules left given n word w r2 tied e
one_step names s rules again None left given word w r2 tied e =
    rw tied.is (idle_step names s rules again left given tied.held tied.at word r2 (is_hyphened word) tied.idle_now tied.operands refl e)

-- ---- all the words

pub all_steps : (names : List Text) (s : Shape) → Rules names s.rules → s.args_override_self ≡ false →
    (words : List Text) (r r2 : Reading) (w : Walk) → Tied names s.rules r.waiting r.left r.given w → reads names words r ≡ Some r2 →
    (walk_passes s [] w words ≡ true) × Tied names s.rules r2.waiting r2.left r2.given (fold (walked s.rules []) w words)
unfolding reads walk_passes
all_steps names s rules again [] r r2 w tied e = let same : r ≡ r2 = cc in
    (refl, subst (λ (x : Reading). Tied names s.rules x.waiting x.left x.given w) same tied)
all_steps names s rules again (word ∷ rest) r r2 w tied e =
    go (λ r1 t more. all_steps names s rules again rest r1 r2 (walked s.rules [] w word) t more) (step names word r) refl e
  where
    go : ((r1 : Reading) → Tied names s.rules r1.waiting r1.left r1.given (walked s.rules [] w word) → reads names rest r1 ≡ Some r2 →
        (walk_passes s [] (walked s.rules [] w word) rest ≡ true)
        × Tied names s.rules r2.waiting r2.left r2.given (fold (walked s.rules []) (walked s.rules [] w word) rest)) →
        (o : Option Reading) → step names word r ≡ o → option_and_then (reads names rest) o ≡ Some r2 →
        ((turn_passes s [] w word && walk_passes s [] (walked s.rules [] w word) rest) ≡ true)
        × Tied names s.rules r2.waiting r2.left r2.given (fold (walked s.rules []) (walked s.rules [] w word) rest)
    go others None is more = cc
    go others (Some r1) is more =
        let one = one_step names s rules again r.waiting r.left r.given word w r1 tied is in
        let h = others r1 one.1 more in
        (rw (one.0, h.0) refl, h.1)
