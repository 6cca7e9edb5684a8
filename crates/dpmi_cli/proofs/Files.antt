-- The files that are read, those of a pair too, and the verdict on them.
use Rattle.std.proofs.{Common.{arith, ◌≡◌, ◌≤◌, ℕ, List, [], length, take, refl, sym, ◌∙◌, ap, subst}, lemmas.List.{take_all}}
use Rattle.std.proofs.lemmas.List.{length-take-le}
use Rattle.std.specs.{Prelude.{None, Some, IfSome, IsSome, IsSomeAnd, option_map}, declared.option.Option.{Option}}
use Rattle.client_world.specs.declared.limits.TheConstants.{DEFAULT_PAGES, MAX_KEYS, MAX_TRACE, DEFAULT_TRACE}
use Rattle.client_world.specs.{declared.outcome.LoadFault.{LoadFault}, Soundness.{IsSound}, World.{HostWorld}}
use Rattle.guest_ram.specs.Bytes.{AreBytes}
use Rattle.client_maker.specs.Made.{made}
use Rattle.host_memory.specs.Blank.{blank_world}
use Rattle.mz_loader.specs.Refusal.{refusal}
use Rattle.host_run.specs.Start.{host_at_start, blank, IsBlank}
use Rattle.dpmi_words.specs.Meaning.{Pressed, Meaning, meaning, PairMeaning}
use Rattle.dpmi_io.specs.Content.{Files, Starts as Opens}
use Rattle.dpmi_cli.specs.{declared.prepare.Reason.TheVariants.{Words, Load, LoadOf}, Answer.{Verdict, Refuses, StartsMade, keys_from}}
use Rattle.dpmi_cli.specs.{Answer.{bytes_within, made_verdict, verdict_of, StartsPair, first_load, second_load}, Causes.{HasVerdict}}
use Rattle.dpmi_cli.specs.{Causes.{OfFiles}, Load.{HasFront, HasPressed, IsReady, HasPairRanges, IsNew}}
use Rattle.pair_run.specs.declared.lines.Letter.TheVariants.{A, B}

-- what holds of the files

pub of_files_map : (files : Option Files) (P Q : Files → Type 0) → OfFiles files P → ((fs : Files) → P fs → Q fs) → OfFiles files Q
of_files_map None P Q (fs, p) each = (fs, each fs p)
of_files_map (Some fs) P Q p each = each fs p

pub of_files_each : (files : Option Files) (P : Files → Type 0) → ((fs : Files) → P fs) → OfFiles files P
of_files_each None P each = (λ _. None, each (λ _. None))
of_files_each (Some fs) P each = each fs

-- the host that is new, and the one that a file starts

blank_budget : (pages : ℕ) → (blank_world pages).budget ≡ pages
unfolding blank_world
blank_budget pages = refl

pub is_blank : (pages : ℕ) (keys : List ℕ) (keep : ℕ) (w : HostWorld) → w ≡ blank pages keys keep → IsBlank w
is_blank pages keys keep w is =
    let at : IsBlank (blank pages keys keep) = ap (λ n. blank n keys keep) (sym (blank_budget pages)) in
    subst (λ (v : HostWorld). IsBlank v) (sym is) at

pub is_started : (pages : ℕ) (keys : List ℕ) (keep : ℕ) (file : List ℕ) (before w : HostWorld) → before ≡ blank pages keys keep →
    w ≡ host_at_start before.machine.budget before.keys before.keep file → w ≡ host_at_start pages keys keep file
is_started pages keys keep file before w new is =
    is ∙ ap (λ (v : HostWorld). host_at_start v.machine.budget v.keys v.keep file) new
    ∙ ap (λ n. host_at_start n keys keep file) (blank_budget pages)

pub is_ready : (pages : ℕ) (keys : List ℕ) (keep : ℕ) (file : List ℕ) (w : HostWorld) → w ≡ host_at_start pages keys keep file →
    IsSound w.machine → AreBytes keys → IsReady w
is_ready pages keys keep file w is sound bytes = record {
  no_exit = ap (λ (v : HostWorld). v.exit) is;
  no_bytes = ap (λ (v : HostWorld). v.console) is;
  no_turn = ap (λ (v : HostWorld). v.steps) is;
  sound = sound;
  keys = subst (λ (ks : List ℕ). AreBytes ks) (sym (ap (λ (v : HostWorld). v.keys) is)) bytes;
}

-- the open file, read as far as a buffer holds
by_read : (found left : Option (List ℕ)) (buf : List ℕ) (n m : ℕ) → left ≡ found → IsSome left → length buf ≡ m →
    IfSome left (λ l. take n buf ≡ take (length buf) l) → IsSomeAnd found (λ file. take n buf ≡ take m file)
by_read found None buf n m is there size read = let never = there in cc
by_read found (Some l) buf n m is there size read =
    subst (λ f. IsSomeAnd f (λ file. take n buf ≡ take m file)) is (read ∙ ap (λ k. take k l) size)

pub front_of_read : (files : Option Files) (name : List ℕ) (left : Option (List ℕ)) (buf : List ℕ) (n m : ℕ) → Opens files name left →
    n ≤ length buf → length buf ≡ m → IfSome left (λ l. take n buf ≡ take (length buf) l) → HasFront m files name (take n buf)
front_of_read None name left buf n m opens few size read =
    (λ _. Some (take n buf), sym (take_all m (take n buf) (omega (arith, length-take-le n buf few, size))))
front_of_read (Some files) name left buf n m opens few size read = by_read (files name) left buf n m opens.0 opens.1 size read

-- the keystrokes

pub pressed_is : (files : Option Files) (bytes : List ℕ) (read : Option (List ℕ)) → read ≡ bytes_within MAX_KEYS bytes →
    HasPressed files (Pressed bytes) read
pressed_is files bytes read is =
    of_files_each files (λ fs. option_map (bytes_within MAX_KEYS) (keys_from (Pressed bytes) fs) ≡ Some read) (λ fs. ap Some (sym is))

-- the verdict on words, from that on their meaning

some_and : (found : Option Verdict) (v : Verdict) → found ≡ Some v → IsSomeAnd found (λ u. u ≡ v)
some_and found v is = subst (λ f. IsSomeAnd f (λ u. u ≡ v)) (sym is) refl

pub meaning_comes : (words : List (List ℕ)) (m : Option Meaning) (files : Option Files) (v : Verdict) → meaning words ≡ m →
    OfFiles files (λ first. OfFiles files (λ second. verdict_of m first second ≡ Some v)) → HasVerdict words files (λ u. u ≡ v)
meaning_comes words m files v is has =
    of_files_map files (λ first. OfFiles files (λ second. verdict_of m first second ≡ Some v))
    (λ first. OfFiles files (λ second. IsSomeAnd (verdict_of (meaning words) first second) (λ u. u ≡ v))) has
    (λ first p. of_files_map files (λ second. verdict_of m first second ≡ Some v)
    (λ second. IsSomeAnd (verdict_of (meaning words) first second) (λ u. u ≡ v)) p
    (λ second q. some_and (verdict_of (meaning words) first second) v (ap (λ x. verdict_of x first second) is ∙ q)))

pub sure_comes : (words : List (List ℕ)) (m : Option Meaning) (files : Option Files) (v : Verdict) → meaning words ≡ m →
    ((first second : Files) → verdict_of m first second ≡ Some v) → HasVerdict words files (λ u. u ≡ v)
sure_comes words m files v is each =
    meaning_comes words m files v is
    (of_files_each files (λ first. OfFiles files (λ second. verdict_of m first second ≡ Some v))
    (λ first. of_files_each files (λ second. verdict_of m first second ≡ Some v) (λ second. each first second)))

-- words that mean nothing are refused, whatever the files
pub no_verdict : (words : List (List ℕ)) (first second : Files) → meaning words ≡ None →
    verdict_of (meaning words) first second ≡ Some (Refuses Words)
no_verdict words first second none = ap (λ m. verdict_of m first second) none

-- the verdict on a made client

abbrev by_refusal : ℕ → Option LoadFault → Verdict
by_refusal number refused = elim refused [
  | None ↦ StartsMade number (host_at_start DEFAULT_PAGES [] MAX_TRACE (made number))
  | Some fault ↦ Refuses (Load fault)
]

pub made_taken : (number : ℕ) (file : List ℕ) (w : HostWorld) → file ≡ made number → refusal file ≡ None →
    w ≡ host_at_start DEFAULT_PAGES [] MAX_TRACE file → StartsMade number w ≡ made_verdict number
made_taken number file w is taken started =
    let none : refusal (made number) ≡ None = ap refusal (sym is) ∙ taken in
    let at : w ≡ host_at_start DEFAULT_PAGES [] MAX_TRACE (made number) = started ∙ ap (host_at_start DEFAULT_PAGES [] MAX_TRACE) is in
    ap (StartsMade number) at ∙ sym (ap (by_refusal number) none)

pub second_refused : (p : PairMeaning) (a : HostWorld) (b : List ℕ) (fault : LoadFault) → refusal b ≡ Some fault →
    second_load p a b (refusal b) ≡ Refuses (LoadOf B fault)
second_refused p a b fault is = ap (second_load p a b) is

pub second_taken : (p : PairMeaning) (a : HostWorld) (b : List ℕ) (w : HostWorld) → refusal b ≡ None →
    w ≡ host_at_start p.pages_b [] DEFAULT_TRACE b → second_load p a b (refusal b) ≡ StartsPair p.slice p.bound a w
second_taken p a b w taken start = ap (second_load p a b) taken ∙ ap (StartsPair p.slice p.bound a) (sym start)

pub first_refused : (p : PairMeaning) (a b : List ℕ) (fault : LoadFault) → refusal a ≡ Some fault →
    first_load p a b (refusal a) ≡ Refuses (LoadOf A fault)
first_refused p a b fault is = ap (first_load p a b) is

pub first_taken : (p : PairMeaning) (a b : List ℕ) (w : HostWorld) (v : Verdict) → refusal a ≡ None →
    w ≡ host_at_start p.pages_a [] DEFAULT_TRACE a → second_load p w b (refusal b) ≡ v → first_load p a b (refusal a) ≡ v
first_taken p a b w v taken start second =
    ap (first_load p a b) taken ∙ ap (λ (x : HostWorld). second_load p x b (refusal b)) (sym start) ∙ second

-- two clients that are loaded may take turns
pub new_pair : (p : PairMeaning) (a b : HostWorld) → HasPairRanges p → IsReady a → IsReady b → IsNew (StartsPair p.slice p.bound a b)
new_pair p a b ranges first second = (first, second, ranges.turns)
