-- The numbers of a run that words mean lie in their ranges.
use Rattle.std.proofs.Common.{arith, ◌≡◌, ◌≤◌, inl, inr, ℕ, List, [], ◌∷◌, refl, ap, subst, ◌∙◌, Option, None, Some, nat_le}
use Rattle.std.proofs.{lemmas.Bool.{and_parts, cases_Bool, leb-true}, lemmas.Option.{option_and_then_some, same_Some}}
use Rattle.std.specs.{Prelude.{◌&&◌, codes, option_map}, Str.{bytes_eq}, Str.Parse.{digits_value}}
use Rattle.client_world.specs.declared.limits.TheConstants.{MAX_STEPS, DEFAULT_BOUND, MAX_PAGES, MAX_PAIR_PAGES, DEFAULT_PAGES, MAX_TRACE}
use Rattle.client_world.specs.declared.limits.TheConstants.{DEFAULT_TRACE, DEFAULT_SLICE, GREATEST_TIMER, MAX_SLICE}
use Rattle.dpmi_words.specs.Meaning.{Keys, Meaning, PairMeaning, RunMeaning, Runs, Soaks, Pairs, pair_meaning, pair_of_values, pair_with}
use Rattle.dpmi_words.specs.{Meaning.{run_with, run_of_values, run_meaning, soak_meaning, meaning}, Numbers.{number_if_given, is_between}}
use Rattle.dpmi_words.specs.{Numbers.{is_decimal, number_in_text, number_or}, Options.{pair_options, run_options}, Reading.{Text, given_by}}
use Rattle.dpmi_words.specs.Reading.{one_operand, pair_operands, value_given}
use Rattle.dpmi_cli.specs.Load.{CanTick, HasPairRanges, HasRanges}

in_text : (digits least most n : ℕ) (text : Text) → number_in_text digits least most text ≡ Some n → (least ≤ n) × (n ≤ most)
in_text digits least most n text e = elim (cases_Bool (is_decimal digits text && is_between least most (digits_value 10 text))) [
  | inl t ↦
      let both = and_parts (nat_le least (digits_value 10 text)) (nat_le (digits_value 10 text) most)
      (and_parts (is_decimal digits text) (is_between least most (digits_value 10 text)) t).1 in
      let is : Some (digits_value 10 text) ≡ Some n = rw t at e in
      let same : digits_value 10 text ≡ n = cc in
      let low = leb-true least (digits_value 10 text) both.0 in
      let high = leb-true (digits_value 10 text) most both.1 in
      (omega arith, omega arith)
  | inr f ↦ let is : None ≡ Some n = rw f at e in absurd cc
]

in_range : (usual least most n : ℕ) (text : Option Text) → least ≤ usual → usual ≤ most → number_or usual least most text ≡ Some n →
    (least ≤ n) × (n ≤ most)
in_range usual least most n None low high e = let same : usual ≡ n = cc in (omega arith, omega arith)
in_range usual least most n (Some text) low high e = in_text 10 least most n text e

-- what is mapped was there
of_map : {A B P : Type 0} (f : A → B) (o : Option A) (y : B) → option_map f o ≡ Some y → ((x : A) → o ≡ Some x → f x ≡ y → P) → P
of_map f None y e each = absurd cc
of_map f (Some x) y e each = each x refl (same_Some (f x) y e)

timer_range : (timer : Option ℕ) (text : Option Text) → number_if_given 1 GREATEST_TIMER text ≡ Some timer → CanTick timer
timer_range None text e = tt
timer_range (Some every) None e = absurd cc
timer_range (Some every) (Some text) e =
    of_map Some (number_in_text 10 1 GREATEST_TIMER text) (Some every) e
    (λ n is same. in_text 10 1 GREATEST_TIMER every text (is ∙ same))

record Parts (bound pages trace : Option ℕ) (timer : Option (Option ℕ)) (r : RunMeaning) : Type 0 where
  bound_is : bound ≡ Some r.bound
  pages_is : pages ≡ Some r.pages
  trace_is : trace ≡ Some r.trace
  timer_is : timer ≡ Some r.timer

parts : (file : Option Text) (keys : Option Keys) (bound pages trace : Option ℕ) (timer : Option (Option ℕ)) (r : RunMeaning) →
    run_with file keys bound pages trace timer ≡ Some r → Parts bound pages trace timer r
parts None keys bound pages trace timer r e = absurd cc
parts (Some f) None bound pages trace timer r e = absurd cc
parts (Some f) (Some k) None pages trace timer r e = absurd cc
parts (Some f) (Some k) (Some b) None trace timer r e = absurd cc
parts (Some f) (Some k) (Some b) (Some p) None timer r e = absurd cc
parts (Some f) (Some k) (Some b) (Some p) (Some t) None r e = absurd cc
parts (Some f) (Some k) (Some b) (Some p) (Some t) (Some every) r e =
    let same : record { file = f; keys = k; bound = b; pages = p; trace = t; timer = every } ≡ r = cc in
    subst (λ (x : RunMeaning). Parts (Some b) (Some p) (Some t) (Some every) x) same
    (record { bound_is = refl; pages_is = refl; trace_is = refl; timer_is = refl })

of_values : (value : Text → Option Text) (r : RunMeaning) → run_of_values value ≡ Some r → HasRanges r
of_values value r e =
    let each = parts _ _ _ _ _ _ r e in
    let bound = in_range DEFAULT_BOUND 1 MAX_STEPS r.bound (value (codes "bound")) (omega arith) (omega arith) each.bound_is in
    let pages = in_range DEFAULT_PAGES 1 MAX_PAGES r.pages (value (codes "pages")) (omega arith) (omega arith) each.pages_is in
    let trace = in_range DEFAULT_TRACE 0 MAX_TRACE r.trace (value (codes "trace")) (omega arith) (omega arith) each.trace_is in
    record {
      some_pages = omega (arith, pages.0);
      pages = pages.1;
      trace = trace.1;
      bound = bound.1;
      timer = timer_range r.timer (value (codes "timer")) each.timer_is;
    }

-- the first word tells of what kind the meaning is
by_first : {P : Type 0} (first : Text) (rest : List Text) (m : Meaning) → meaning (first ∷ rest) ≡ Some m →
    (option_map Runs (run_meaning rest) ≡ Some m → P) → (option_map Soaks (soak_meaning rest) ≡ Some m → P) →
    (option_map Pairs (pair_meaning rest) ≡ Some m → P) → P
by_first first rest m e run soak pair = elim (cases_Bool (bytes_eq first (codes "run"))) [
  | inl t ↦ run (rw t at e)
  | inr f ↦ elim (cases_Bool (bytes_eq first (codes "soak"))) [
    | inl t ↦ soak (rw (f, t) at e)
    | inr g ↦ elim (cases_Bool (bytes_eq first (codes "pair"))) [
      | inl t ↦ pair (rw (f, g, t) at e)
      | inr h ↦ let is : None ≡ Some m = rw (f, g, h) at e in absurd cc
    ]
  ]
]

-- a run that words mean has numbers such as a host takes
pub run_ranges : (words : List Text) (r : RunMeaning) → meaning words ≡ Some (Runs r) → HasRanges r
run_ranges [] r e = absurd cc
run_ranges (first ∷ rest) r e = by_first first rest (Runs r) e
    (λ is. of_map Runs (run_meaning rest) (Runs r) is (λ x of same.
    option_and_then_some (λ given. run_of_values (λ name. value_given name given)) (given_by run_options one_operand rest) x of
    (λ given _ values.
    of_values (λ name. value_given name given) r (values ∙ ap Some cc))))
    (λ is. of_map Soaks (soak_meaning rest) (Runs r) is (λ n of same. absurd cc))
    (λ is. of_map Pairs (pair_meaning rest) (Runs r) is (λ p of same. absurd cc))

-- ---- pairs

record PairParts (slice bound pages_a pages_b : Option ℕ) (p : PairMeaning) : Type 0 where
  slice_is : slice ≡ Some p.slice
  bound_is : bound ≡ Some p.bound
  pages_a_is : pages_a ≡ Some p.pages_a
  pages_b_is : pages_b ≡ Some p.pages_b

pair_parts : (first second : Option Text) (slice bound pages_a pages_b : Option ℕ) (p : PairMeaning) →
    pair_with first second slice bound pages_a pages_b ≡ Some p → PairParts slice bound pages_a pages_b p
pair_parts None second slice bound pages_a pages_b p e = absurd cc
pair_parts (Some f) None slice bound pages_a pages_b p e = absurd cc
pair_parts (Some f) (Some g) None bound pages_a pages_b p e = absurd cc
pair_parts (Some f) (Some g) (Some s) None pages_a pages_b p e = absurd cc
pair_parts (Some f) (Some g) (Some s) (Some b) None pages_b p e = absurd cc
pair_parts (Some f) (Some g) (Some s) (Some b) (Some x) None p e = absurd cc
pair_parts (Some f) (Some g) (Some s) (Some b) (Some x) (Some y) p e =
    let same : record { first = f; second = g; slice = s; bound = b; pages_a = x; pages_b = y } ≡ p = cc in
    subst (λ (q : PairMeaning). PairParts (Some s) (Some b) (Some x) (Some y) q) same
    (record { slice_is = refl; bound_is = refl; pages_a_is = refl; pages_b_is = refl })

of_pair_values : (value : Text → Option Text) (p : PairMeaning) → pair_of_values value ≡ Some p → HasPairRanges p
of_pair_values value p e =
    let each = pair_parts _ _ _ _ _ _ p e in
    let slice = in_range DEFAULT_SLICE 1 MAX_SLICE p.slice (value (codes "slice")) (omega arith) (omega arith) each.slice_is in
    let bound = in_range DEFAULT_BOUND 1 MAX_STEPS p.bound (value (codes "bound")) (omega arith) (omega arith) each.bound_is in
    let pages_a = in_range DEFAULT_PAGES 1 MAX_PAIR_PAGES p.pages_a (value (codes "pages-a")) (omega arith) (omega arith) each.pages_a_is in
    let pages_b = in_range DEFAULT_PAGES 1 MAX_PAIR_PAGES p.pages_b (value (codes "pages-b")) (omega arith) (omega arith) each.pages_b_is in
    record {
      turns = record { some_turns = omega (arith, slice.0); few_turns = slice.1; some_bound = omega (arith, bound.0); few_steps = bound.1 };
      some_pages_a = omega (arith, pages_a.0);
      pages_a = omega (arith, pages_a.1);
      some_pages_b = omega (arith, pages_b.0);
      pages_b = omega (arith, pages_b.1);
    }

-- a pair that words mean has numbers such as two hosts take
pub pair_ranges : (words : List Text) (p : PairMeaning) → meaning words ≡ Some (Pairs p) → HasPairRanges p
pair_ranges [] p e = absurd cc
pair_ranges (first ∷ rest) p e = by_first first rest (Pairs p) e
    (λ is. of_map Runs (run_meaning rest) (Pairs p) is (λ r of same. absurd cc))
    (λ is. of_map Soaks (soak_meaning rest) (Pairs p) is (λ n of same. absurd cc))
    (λ is. of_map Pairs (pair_meaning rest) (Pairs p) is (λ x of same.
    option_and_then_some (λ given. pair_of_values (λ name. value_given name given)) (given_by pair_options pair_operands rest) x of
    (λ given _ values.
    of_pair_values (λ name. value_given name given) p (values ∙ ap Some cc))))
