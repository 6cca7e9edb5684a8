-- An option and its value in one word or in two are read alike; what follows a hyphen is what clap's word says.
use Rattle.std.proofs.Common.{◌≡◌, [], ◌∷◌, refl, ◌∙◌, ◌&&◌, not, Bool, cond, true, false, true≢false, ap, List, ◌++◌}
use Rattle.clap.specs.Lexer.{strip_byte}
use Rattle.dpmi_words.specs.Reading.{Text, after_hyphen, Reading, reads, step, step_by, option_of, gives, has_given, is_option_name}
use Rattle.dpmi_words.specs.{Reading.{is_hyphened, finished, given_by, nothing_read}, OptionWords.{option_word_of, option_with_value}}
use Rattle.dpmi_words.specs.OptionWords.{IsName}
use Rattle.std.specs.{Prelude.{option_and_then, Some, None}, declared.option.Option.{Option}}
use Rattle.clap.proofs.LexerLemmas.{name_and_value-at, name_and_value-without}

pub strip_is : (text : Text) → strip_byte 45 text ≡ after_hyphen text
strip_is [] = refl
strip_is (c ∷ cs) = refl

one_word : (name value : Text) → IsName name → option_of (option_with_value name value) ≡ Some (name, Some value)
one_word [] value is = absurd (true≢false is.0)
one_word (c ∷ cs) value is = ap Some (name_and_value-at (c ∷ cs) value is.1)

alone : (name : Text) → IsName name → option_of (option_word_of name) ≡ Some (name, None)
alone [] is = absurd (true≢false is.0)
alone (c ∷ cs) is = ap Some (name_and_value-without (c ∷ cs) is.1)

-- one step of the one is two steps of the other
two_steps : (names : List Text) (name value : Text) (r : Reading) → IsName name → is_hyphened value ≡ false →
    step names (option_with_value name value) r ≡ option_and_then (step names value) (step names (option_word_of name) r)
two_steps names name value r is plain = go r.waiting
  where
    listed : (b : Bool) → cond b (gives name value r) None
        ≡ option_and_then (step names value) (cond b (Some (record { waiting = Some name; left = r.left; given = r.given })) None)
    listed true = rw plain refl
    listed false = refl

    go : (w : Option Text) → step_by names w (option_with_value name value) r
        ≡ option_and_then (step names value) (step_by names w (option_word_of name) r)
    go (Some n) = refl
    go None = rw (one_word name value is, alone name is) (listed (is_option_name names name && not (has_given name r.given)))

then_twice : (f g : Reading → Option Reading) (o : Option Reading) →
    option_and_then g (option_and_then f o) ≡ option_and_then (λ r. option_and_then g (f r)) o
then_twice f g None = refl
then_twice f g (Some r) = refl

same_reading : (names before after : List Text) (name value : Text) (r : Reading) → IsName name → is_hyphened value ≡ false →
    reads names (before ++ option_with_value name value ∷ after) r ≡ reads names (before ++ option_word_of name ∷ value ∷ after) r
unfolding reads
same_reading names [] after name value r is plain =
    ap (option_and_then (reads names after)) (two_steps names name value r is plain)
    ∙ then_twice (step names value) (reads names after) (step names (option_word_of name) r)
same_reading names (word ∷ before) after name value r is plain =
    go (λ r1. same_reading names before after name value r1 is plain) (step names word r)
  where
    go : ((r1 : Reading) → reads names (before ++ option_with_value name value ∷ after) r1
        ≡ reads names (before ++ option_word_of name ∷ value ∷ after) r1) →
        (o : Option Reading) → option_and_then (reads names (before ++ option_with_value name value ∷ after)) o
        ≡ option_and_then (reads names (before ++ option_word_of name ∷ value ∷ after)) o
    go same None = refl
    go same (Some r1) = same r1

pub either_way : (names operands before after : List Text) (name value : Text) → IsName name → is_hyphened value ≡ false →
    given_by names operands (before ++ option_with_value name value ∷ after)
    ≡ given_by names operands (before ++ option_word_of name ∷ value ∷ after)
either_way names operands before after name value is plain =
    ap (option_and_then finished) (same_reading names before after name value (nothing_read operands) is plain)
