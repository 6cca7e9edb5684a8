-- What is answered where nothing fails, and what words that mean nothing get.
use Rattle.std.proofs.{Common.{arith, ◌≡◌, ◌≢◌, ◌<◌, ◌≤◌, ◌⊎◌, inl, inr, ℕ, List, [], sym, subst, ap}, lemmas.Bool.Decides.{eqb_tells}}
use Rattle.std.specs.{Prelude.{None, Some, IfSome, IsSomeAnd, Contains}, Option.{option_map}, declared.option.Option.{Option}}
use Rattle.client_world.specs.declared.limits.TheConstants.{DEFAULT_BOUND}
use Rattle.dpmi_words.specs.Meaning.{meaning}
use Rattle.watch_run.specs.Turn.{watched_run}
use Rattle.dpmi_io.specs.{Causes.{Rose}, Content.{Files, Shown, Gains}}
use Rattle.dpmi_cli.specs.{declared.prepare.Prepared.{Prepared}, declared.prepare.Reason.TheVariants.{Words}, Answer.{Verdict, Refuses}}
use Rattle.dpmi_cli.specs.{Answer.{Starts, StartsMade, StartsPair, verdict, verdict_of, answer, answer_to}, Causes.{NamedFailed, IsAbsent}}
use Rattle.dpmi_cli.specs.{Causes.{HasVerdict, Answers}, Load.{verdict_in}, Runs.{host_at_end}, Words.{file_names, names_in}}
use Rattle.dpmi_cli.proofs.{Files.{no_verdict}, RunAnswers.{pair_status-small, run_status-small}}

-- where the output didn't fail, the answer is whole
pub gives_whole : (v : Verdict) (before now : Shown) (m n result : ℕ) → Answers v before now m n result → (Rose m n → ⊥) →
    (result ≡ (answer_to v).status) × Gains before now (answer_to v).text
gives_whole (Refuses reason) before now m n result gave calm = elim gave.status_of_the_answer [
  | inl is ↦ (is, elim (gave.whole_line is) [ inl whole ↦ whole | inr rose ↦ absurd (calm rose) ])
  | inr failed ↦ absurd (calm (gave.output_failure_has_cause failed.0))
]
gives_whole (Starts w timer bound) before now m n result gave calm = elim gave.status_of_the_answer [
  | inl is ↦
      let small = run_status-small (host_at_end w timer bound) in
      (is, gave.whole_text (subst (λ s. s < 2) (sym is) small))
  | inr failed ↦ absurd (calm (gave.output_failure_has_cause failed.0))
]
gives_whole (StartsPair slice bound a b) before now m n result gave calm = elim gave.status_of_the_answer [
  | inl is ↦
      let small = pair_status-small (watched_run a bound) (watched_run b bound) in
      (is, gave.whole_text (subst (λ s. s < 2) (sym is) small))
  | inr failed ↦ absurd (calm (gave.output_failure_has_cause failed.0))
]
gives_whole (StartsMade number w) before now m n result gave calm = elim gave.status_of_the_answer [
  | inl is ↦
      let small = run_status-small (watched_run w DEFAULT_BOUND) in
      (is, gave.whole_text (subst (λ s. s < 2) (sym is) small))
  | inr failed ↦ absurd (calm (gave.output_failure_has_cause failed.0))
]

some_map : (found : Option Verdict) (v : Verdict) (P : Verdict → Type 0) → P v → IsSomeAnd found (λ u. u ≡ v) → IsSomeAnd found P
some_map None v P holds has = absurd has
some_map (Some u) v P holds has = subst P (sym has) holds

-- what holds of the verdict that was prepared holds of the verdict on the words
verdict_map : (words : List (List ℕ)) (files : Option Files) (v : Verdict) (P : Verdict → Type 0) → P v →
    HasVerdict words files (λ u. u ≡ v) → HasVerdict words files P
verdict_map words None v P holds (first, (second, has)) =
    (first, (second, some_map (verdict_of (meaning words) first second) v P holds has))
verdict_map words (Some fs) v P holds has = some_map (verdict words fs) v P holds has

-- the answer to the verdict that was prepared is one to the words
pub answers_prepared : (words : List (List ℕ)) (files : Option Files) (p : Prepared) (before now : Shown) (m n result : ℕ) →
    Answers (verdict_in p) before now m n result → HasVerdict words files (λ v. v ≡ verdict_in p) →
    HasVerdict words files (λ v. Answers v before now m n result)
answers_prepared words files p before now m n result gives has =
    verdict_map words files (verdict_in p) (λ v. Answers v before now m n result) gives has

verdict_sure : (found : Option Verdict) (N : Type 0) (before now : Shown) (m n result : ℕ) →
    (result ≡ 3 → N ⊎ (option_map answer_to found ≡ None)) →
    (result ≢ 3 → result ≢ 5 → IsSomeAnd found (λ v. Answers v before now m n result)) → (N → ⊥) → (Rose m n → ⊥) →
    IfSome (option_map answer_to found) (λ a. (result ≡ 5) ⊎ ((result ≡ a.status) × Gains before now a.text))
verdict_sure None N before now m n result cause gave named calm = tt
verdict_sure (Some v) N before now m n result cause gave named calm = elim (eqb_tells result 3) [
  | inl three ↦ absurd (elim (cause three.1) [ inl failed ↦ named failed | inr none ↦ cc ])
  | inr not_three ↦ elim (eqb_tells result 5) [
    | inl five ↦ inl five.1
    | inr not_five ↦ inr (gives_whole v before now m n result (gave not_three.1 not_five.1) calm)
  ]
]

-- where no named file failed or lacked, and the output took all, the run or the refusal was answered, or memory was short
pub ends_without_failure : (N F : Type 0) (m n result : ℕ) → (result ≡ 3 → N ⊎ F) → (result ≡ 4 → Rose m n) → result ≤ 5 →
    (N → ⊥) → (F → ⊥) → (Rose m n → ⊥) → (result ≤ 2) ⊎ (result ≡ 5)
ends_without_failure N F m n result file output known named absent calm = elim (eqb_tells result 3) [
  | inl three ↦ absurd (elim (file three.1) [ inl failed ↦ named failed | inr none ↦ absent none ])
  | inr not_three ↦ elim (eqb_tells result 4) [
    | inl four ↦ absurd (calm (output four.1))
    | inr not_four ↦ elim (eqb_tells result 5) [
      | inl five ↦ inr five.1
      | inr not_five ↦ inl (omega (arith, known, not_three.1, not_four.1, not_five.1))
    ]
  ]
]

-- where no named file and no put failed and the files are known, the answer is given whole, or memory was short
pub answers_of : (words : List (List ℕ)) (files : Option Files) (N : Type 0) (before now : Shown) (m n result : ℕ) →
    (result ≡ 3 → N ⊎ IsAbsent words files) →
    (result ≢ 3 → result ≢ 5 → HasVerdict words files (λ v. Answers v before now m n result)) → (N → ⊥) → (Rose m n → ⊥) →
    IfSome files (λ fs. IfSome (answer words fs) (λ a. (result ≡ 5) ⊎ ((result ≡ a.status) × Gains before now a.text)))
answers_of words None N before now m n result cause gave named calm = tt
answers_of words (Some fs) N before now m n result cause gave named calm =
    verdict_sure (verdict words fs) N before now m n result cause gave named calm

no_files : (words : List (List ℕ)) → meaning words ≡ None → file_names words ≡ []
no_files words none = ap names_in none

blames_nothing : (blamed : Option (List ℕ)) → IsSomeAnd blamed (λ name. Contains [] name) → ⊥
blames_nothing None h = h
blames_nothing (Some name) h = omega (arith, h.1)

-- words that mean nothing name no file that could fail
no_file_fails : (words : List (List ℕ)) (files : Option Files) (m n : ℕ) (blamed : Option (List ℕ)) → meaning words ≡ None →
    NamedFailed words m n blamed ⊎ IsAbsent words files → ⊥
no_file_fails words files m n blamed none (inl failed) =
    blames_nothing blamed (subst (λ names. IsSomeAnd blamed (λ name. Contains names name)) (no_files words none) failed.1)
no_file_fails words None m n blamed none (inr absent) = absent
no_file_fails words (Some fs) m n blamed none (inr absent) =
    let there : answer words fs ≡ Some (answer_to (Refuses Words)) = ap (option_map answer_to) (no_verdict words fs fs none) in cc

some_is : (found : Option Verdict) (v : Verdict) (P : Verdict → Type 0) → found ≡ Some v → IsSomeAnd found P → P v
some_is found v P is has = let given : IsSomeAnd (Some v) P = subst (λ f. IsSomeAnd f P) is has in given

only_verdict : (words : List (List ℕ)) (files : Option Files) (P : Verdict → Type 0) →
    meaning words ≡ None → HasVerdict words files P → P (Refuses Words)
only_verdict words None P none (first, (second, has)) =
    some_is (verdict_of (meaning words) first second) (Refuses Words) P (no_verdict words first second none) has
only_verdict words (Some fs) P none has = some_is (verdict words fs) (Refuses Words) P (no_verdict words fs fs none) has

-- words that mean nothing are refused as such, or memory was short
pub wrong_words : (words : List (List ℕ)) (files : Option Files) (fm fn : ℕ) (blamed : Option (List ℕ)) (before now : Shown)
    (m n result : ℕ) → (result ≡ 3 → NamedFailed words fm fn blamed ⊎ IsAbsent words files) →
    (result ≢ 3 → result ≢ 5 → HasVerdict words files (λ v. Answers v before now m n result)) → meaning words ≡ None →
    (result ≡ 5) ⊎ Answers (Refuses Words) before now m n result
wrong_words words files fm fn blamed before now m n result cause gave none = elim (eqb_tells result 5) [
  | inl five ↦ inl five.1
  | inr not_five ↦
      let not_three : result ≢ 3 = λ three. no_file_fails words files fm fn blamed none (cause three) in
      inr (only_verdict words files (λ v. Answers v before now m n result) none (gave not_three not_five.1))
]
