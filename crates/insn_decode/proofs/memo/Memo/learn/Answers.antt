use Rattle.std.proofs.{Common.{◌∙◌, ◌<◌, ℕ, HoldsAt, List, arith, length, length-set, set}, lemmas.Bool.{cases_lt}}
use Rattle.std.proofs.lemmas.List.{get_or-set_other, get_or-set_same}
use Rattle.insn_decode.specs.{declared.memo.Entry.{Entry}, declared.memo.TheConstants.{PLACES}, Memo.{IsDecoded, is_big_place}}
use Rattle.insn_decode.proofs.memo.Memo.learn.Goals.{invariant_of-self as goal}

-- each entry is decoded for its place
abbrev AllDecoded : List Entry → Type 0
AllDecoded es = (k : ℕ) → k < PLACES → HoldsAt (λ e. IsDecoded (is_big_place k) e.start e.words e.insn e.len) es k

-- one that is set leaves the others
one_set : (es : List Entry) (at : ℕ) (x : Entry) → at < length es → AllDecoded es →
    IsDecoded (is_big_place at) x.start x.words x.insn x.len →
    AllDecoded (set es at x)
one_set es at x low all its k inside d = grind (arith, cases_lt, get_or-set_other, get_or-set_same)

pub invariant_of-self : goal
invariant_of-self c =
    let es = c.args.self.now.entries.items in
    record {
      places = length-set es c.args.place c.in_ok-self.field-0 ∙ c.args.self.now.places;
      decoded = one_set es c.args.place c.in_ok-self.field-0 (omega arith) c.args.self.now.decoded c.in_ok-self.ensures.decoded;
    }
