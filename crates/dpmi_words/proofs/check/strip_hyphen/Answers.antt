use Rattle.{std.proofs.{Common.{arith, ◌∙◌}, lemmas.Str.Pattern.{strip_prefix_char}}, clap.proofs.LexerLemmas.{strip_byte-from}}
use Rattle.dpmi_words.proofs.{EitherWay.{strip_is}, check.strip_hyphen.Goals.{returns as goal}}

pub returns : goal
returns c =
    strip_byte-from 45 c.args.text.now c.strip_prefix.result
    (strip_prefix_char 45 c.args.text.now c.strip_prefix.result c.strip_prefix.ensures.cases (omega arith))
    ∙ strip_is c.args.text.now
