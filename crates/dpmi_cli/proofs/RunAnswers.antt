-- The answers that a run and a pair give, written whole or cut off: the statuses of exits and runs, and the turns of a host as those of a
-- client of a pair.
use Rattle.std.proofs.Common.{arith, ◌<◌, ◌≡◌, ◌≤◌, ◌+◌, inl, inr, ℕ, List, length, sym, ◌∙◌, subst, refl, ap, zero, suc}
use Rattle.std.proofs.lemmas.List.{take_all}
use Rattle.std.specs.{Prelude.{None, Some, Result, Ok, Err, OnOk, OnErr, IsSome, max}, declared.option.Option.{Option}}
use Rattle.client_world.specs.{declared.outcome.Exit.{Exit}, declared.outcome.Exit.TheVariants.{Exited, Bound}, World.{HostWorld}}
use Rattle.client_world.specs.{declared.limits.TheConstants.{DEFAULT_BOUND}, Soundness.{IsSound}, WatchWorld.{WatchWorld, Watching}}
use Rattle.client_world.specs.WatchWorld.{no_watches, host_without_watches}
use Rattle.dpmi_report.specs.{Exits.{exit_status}, Summary.{summary, summary_at}, Text.{text}}
use Rattle.dpmi_cli.specs.Answer.{pair_status, run_status, Verdict, Refuses, Starts, StartsMade, answer_to, StartsPair}
use Rattle.dpmi_cli.specs.{declared.prepare.Reason.{Reason}, Causes.{Answers}, Laws.{OfItsRun, KeepsTheLaws, NestsByOneRecord}}
use Rattle.dpmi_cli.specs.{Laws.{ReturnsInOrder, RunKeepsTheLaws, RunSeen, TouchesWhatIsHeld}, Runs.{host_at_end}, Text.{line_of_refusal}}
use Rattle.dpmi_cli.specs.{Load.{IsReady}, Pairs.{host_with_bound_exit, host_console, host_exit, host_steps, pair_text, sliced}}
use Rattle.host_run.specs.{HandOver.{HandsOver}, Nested.{HasTurns, IsHandedOver, LastPush, Matched, host_depth}}
use Rattle.host_run.specs.{RealCalls.{InterruptSource}, Run.{with_bound_exit}}
use Rattle.watch_run.specs.Turn.{watched_run, run_with_watchpoints, turn_with_watchpoints, turns_with_watchpoints}
use Rattle.dpmi_io.specs.{Causes.{Rose}, Content.{Shown, Gains, GainsPart}, Puts.{Puts}}
use Rattle.pair_run.specs.{Slices.{OwnRun, own_run, slices_text}, Run.{IsFirst, closed_by, run_of, turns_of}}
use Rattle.pair_run.proofs.OwnRuns.{client_of, over, turns_more}
use Rattle.watch_run.proofs.WatchedTurns.{counts, extends, stays}

-- the status of an exit is 0 or 1
pub exit_status-small : (e : Exit) → exit_status e < 2
exit_status-small (Exited code) = omega arith
exit_status-small other = omega arith

-- the status of a run is 0 or 1
pub run_status-small : (w : HostWorld) → run_status w < 2
run_status-small w = elim (w.exit) as (λ x. (elim x [ None ↦ 1 | Some e ↦ exit_status e ]) < 2) [
  | None ↦ omega arith
  | Some e ↦ exit_status-small e
]

-- and so is that of two runs
pub pair_status-small : (a b : HostWorld) → pair_status a b < 2
pair_status-small a b = let first = run_status-small a in let second = run_status-small b in omega arith

-- the whole is a part
part_whole : (a b : Shown) (xs : List ℕ) → Gains a b xs → GainsPart a b xs
part_whole a b xs whole = (length xs, omega arith, subst (λ l. Gains a b l) (sym (take_all (length xs) xs (omega arith))) whole)

status_is : (w : HostWorld) (e : Exit) → w.exit ≡ Some e → run_status w ≡ exit_status e
status_is w e is = rw (is, run_status) refl

pub summary_is : (number : ℕ) (w : HostWorld) (e : Exit) → w.exit ≡ Some e → summary_at number w e ≡ summary number w
summary_is number w e is = rw (is, summary) refl

-- a refusal, whose line the output may not take
pub gives_refusal : {A B : Type 0} (r : Result A B) (reason : Reason) (before now : Shown) (m n : ℕ) →
    OnOk r (Gains before now (line_of_refusal reason)) → OnErr r (GainsPart before now (line_of_refusal reason)) → OnErr r (Rose m n) →
    Answers (Refuses reason) before now m n 2
gives_refusal (Ok x) reason before now m n whole part rose = record {
  writes_the_answer = part_whole before now (line_of_refusal reason) whole;
  status_of_the_answer = inl refl;
  whole_text = λ small. absurd (omega arith);
  whole_line = λ _. inl whole;
  output_failure_has_cause = λ four. absurd (omega arith);
  run_keeps_the_laws = tt;
}
gives_refusal (Err e) reason before now m n whole part rose = record {
  writes_the_answer = part;
  status_of_the_answer = inl refl;
  whole_text = λ small. absurd (omega arith);
  whole_line = λ _. inr rose;
  output_failure_has_cause = λ four. absurd (omega arith);
  run_keeps_the_laws = tt;
}

-- a run answers with its status and its text, written whole
pub whole : (v : Verdict) (before now : Shown) (m n result : ℕ) → OfItsRun RunKeepsTheLaws v → (answer_to v).status < 2 →
    result ≡ (answer_to v).status → Gains before now (answer_to v).text → Answers v before now m n result
whole v before now m n result laws small status text = record {
  writes_the_answer = part_whole before now (answer_to v).text text;
  status_of_the_answer = inl status;
  whole_text = λ _. text;
  whole_line = λ _. inl text;
  output_failure_has_cause = λ four. absurd (omega (arith, small, status, four));
  run_keeps_the_laws = laws;
}

-- the output failed in the text of a run
pub cut : (v : Verdict) (before now : Shown) (m n : ℕ) → OfItsRun RunKeepsTheLaws v → (answer_to v).status < 2 →
    GainsPart before now (answer_to v).text → Rose m n → Answers v before now m n 4
cut v before now m n laws small part rose = record {
  writes_the_answer = part;
  status_of_the_answer = inr (refl, small);
  whole_text = λ little. absurd (omega arith);
  whole_line = λ two. absurd (omega arith);
  output_failure_has_cause = λ _. rose;
  run_keeps_the_laws = laws;
}

-- the run of a client up to a bound ended so, and its text was written
pub gives_run : (w after : HostWorld) (timer : Option ℕ) (bound : ℕ) (e : Exit) (before now : Shown) (m n result : ℕ) →
    RunKeepsTheLaws w timer → after ≡ host_at_end w timer bound → after.exit ≡ Some e → Gains before now (text after) →
    result ≡ exit_status e → Answers (Starts w timer bound) before now m n result
gives_run w after timer bound e before now m n result laws is exited written status =
    whole (Starts w timer bound) before now m n result laws (run_status-small (host_at_end w timer bound))
    (status ∙ sym (status_is after e exited) ∙ ap run_status is)
    (subst (λ (v : HostWorld). Gains before now (text v)) is written)

pub gives_cut : (w after : HostWorld) (timer : Option ℕ) (bound : ℕ) (before now : Shown) (m n : ℕ) → RunKeepsTheLaws w timer →
    after ≡ host_at_end w timer bound → GainsPart before now (text after) → Rose m n → Answers (Starts w timer bound) before now m n 4
gives_cut w after timer bound before now m n laws is part rose =
    cut (Starts w timer bound) before now m n laws (run_status-small (host_at_end w timer bound))
    (subst (λ (v : HostWorld). GainsPart before now (text v)) is part) rose

-- the same of a made client and its summary
pub gives_summary : (number : ℕ) (w after : HostWorld) (e : Exit) (before now : Shown) (m n result : ℕ) → RunKeepsTheLaws w None →
    after ≡ watched_run w DEFAULT_BOUND → after.exit ≡ Some e → Gains before now (summary_at number after e) → result ≡ exit_status e →
    Answers (StartsMade number w) before now m n result
gives_summary number w after e before now m n result laws is ended written status =
    whole (StartsMade number w) before now m n result laws (run_status-small (watched_run w DEFAULT_BOUND))
    (status ∙ sym (status_is after e ended) ∙ ap run_status is)
    (subst (λ l. Gains before now l) (summary_is number after e ended ∙ ap (summary number) is) written)

pub gives_summary_cut : (number : ℕ) (w after : HostWorld) (e : Exit) (before now : Shown) (m n : ℕ) → RunKeepsTheLaws w None →
    after ≡ watched_run w DEFAULT_BOUND → after.exit ≡ Some e → GainsPart before now (summary_at number after e) → Rose m n →
    Answers (StartsMade number w) before now m n 4
gives_summary_cut number w after e before now m n laws is ended part rose =
    cut (StartsMade number w) before now m n laws (run_status-small (watched_run w DEFAULT_BOUND))
    (subst (λ l. GainsPart before now l) (summary_is number after e ended ∙ ap (summary number) is) part) rose

-- ---- the laws over rows of hosts, for one run

abbrev EachDepth : Type 0
EachDepth = (source : ℕ → InterruptSource) (w : ℕ → HostWorld) (n k : ℕ) → HasTurns source w n → k < n →
    (host_depth (w (k + 1)) ≤ host_depth (w k) + 1) × (host_depth (w k) ≤ host_depth (w (k + 1)) + 1)

abbrev EachPartner : Type 0
EachPartner = (source : ℕ → InterruptSource) (w : ℕ → HostWorld) (n i j : ℕ) → HasTurns source w n → j < n → LastPush w i j → Matched w i j

abbrev EachStays : Type 0
EachStays = (source : ℕ → InterruptSource) (w : ℕ → HostWorld) (n i j : ℕ) → HasTurns source w n → j < n → Matched w i j →
    IsHandedOver (source i) w i j

abbrev EachHandsOver : Type 0
EachHandsOver = (source : InterruptSource) (w : ℕ → HostWorld) (i j : ℕ) → IsSound (w i).machine → IsSound (w j).machine →
    (h : IsHandedOver source w i j) → HandsOver source (w i) (w (i + 1)) (w j) (w (j + 1)) h.innermost

in_order : (r : RunSeen) → NestsByOneRecord r → EachDepth → EachPartner → EachStays → ReturnsInOrder r
in_order r nests depth partner stays = record {
  depth = λ k. depth r.source r.host (k + 1) k (λ i lt. nests i) (omega arith);
  partner = λ i j last. partner r.source r.host (j + 1) i j (λ k lt. nests k) (omega arith) last;
  record_stays = λ i j matched. stays r.source r.host (j + 1) i j (λ k lt. nests k) (omega arith) matched;
}

-- a run of sound hosts whose instructions touch what the client holds and whose turns nest keeps them all
pub keeps_the_laws : (r : RunSeen) → TouchesWhatIsHeld r → NestsByOneRecord r → ((n : ℕ) → IsSound (r.host n).machine) →
    EachDepth → EachPartner → EachStays → EachHandsOver → KeepsTheLaws r
keeps_the_laws r touches nests sound depth partner stays hands = record {
  every_touch_is_held = touches;
  every_turn_changes_the_innermost_record_at_most = nests;
  nested_calls_return_in_order = in_order r nests depth partner stays;
  every_nested_call_hands_over = λ i j h. hands (r.source i) r.host i j (sound i) (sound j) h;
}

-- ---- a pair

-- ---- turns

-- the turns of a client are those with watchpoints
pub client_turns : (w : WatchWorld) (n : ℕ) → turns_of turn_with_watchpoints n w ≡ turns_with_watchpoints w n
unfolding turns_of turns_with_watchpoints
client_turns w zero = refl
client_turns w (suc n) = ap turn_with_watchpoints (client_turns w n)

abbrev with_host : WatchWorld → HostWorld → WatchWorld
with_host w h = record w { host = h }

closed_is : (w : WatchWorld) → w.host.exit ≡ None → closed_by host_with_bound_exit host_exit w ≡ host_with_bound_exit w
closed_is w none = ap (λ (o : Option Exit). elim o as (λ _. WatchWorld) [ None ↦ host_with_bound_exit w | Some _ ↦ w ]) none

ended_is : (w : HostWorld) → w.exit ≡ None → with_bound_exit w ≡ record w { exit = Some Bound }
ended_is w none = ap (λ (o : Option Exit). elim o as (λ _. HostWorld) [ Some _ ↦ w | None ↦ record w { exit = Some Bound } ]) none

bounded_by : (w : WatchWorld) (o : Option Exit) → w.host.exit ≡ o →
    closed_by host_with_bound_exit host_exit w ≡ with_host w (with_bound_exit w.host)
bounded_by w None none = closed_is w none ∙ sym (ap (with_host w) (ended_is w.host none))
bounded_by w (Some exit) some =
    let closed : closed_by host_with_bound_exit host_exit w ≡ w =
    ap (λ (o : Option Exit). elim o as (λ _. WatchWorld) [ None ↦ host_with_bound_exit w | Some _ ↦ w ]) some in
    let ends : with_bound_exit w.host ≡ w.host =
    ap (λ (o : Option Exit). elim o as (λ _. HostWorld) [ Some _ ↦ w.host | None ↦ record w.host { exit = Some Bound } ]) some in
    closed ∙ sym (ap (with_host w) ends)

-- and so is its run
client_run : (w : WatchWorld) (n : ℕ) → run_of turn_with_watchpoints host_with_bound_exit host_exit n w ≡ run_with_watchpoints w n
client_run w n =
    ap (closed_by host_with_bound_exit host_exit) (client_turns w n)
    ∙ bounded_by (turns_with_watchpoints w n) (turns_with_watchpoints w n).host.exit refl

-- the run of a host whose client has set no watchpoint ended so
pub run_ended : (w : HostWorld) (s : Watching) (after : WatchWorld) (n : ℕ) → s ≡ no_watches →
    after ≡ run_of turn_with_watchpoints host_with_bound_exit host_exit n (record { host = w; watching = s }) → after.host ≡ watched_run w n
unfolding watched_run
run_ended w s after n none is =
    let from : run_of turn_with_watchpoints host_with_bound_exit host_exit n (record { host = w; watching = s })
    ≡ run_of turn_with_watchpoints host_with_bound_exit host_exit n (host_without_watches w) =
    ap (λ (x : Watching). run_of turn_with_watchpoints host_with_bound_exit host_exit n (record { host = w; watching = x })) none in
    ap (λ (v : WatchWorld). v.host) (is ∙ from ∙ client_run (host_without_watches w) n)

-- what a client is after its next turn
pub next_turn : (first now after : WatchWorld) (n : ℕ) → now ≡ turns_of turn_with_watchpoints n first → after ≡ turn_with_watchpoints now →
    after ≡ turns_of turn_with_watchpoints (n + 1) first
next_turn first now after n so_far is = is ∙ ap turn_with_watchpoints so_far ∙ sym (turns_more turn_with_watchpoints n first)

-- the turns up to an exit are all
pub all_turns : (first after : WatchWorld) (n bound : ℕ) → after ≡ turns_of turn_with_watchpoints n first → n ≤ bound →
    IsSome after.host.exit → after ≡ turns_of turn_with_watchpoints bound first
all_turns first after n bound is le ended = is ∙ sym (over (client_of stays counts extends) first after n bound is le ended)

-- a host whose run ends at once is closed
pub close_is : (w : WatchWorld) → w.host.exit ≡ None → record w { host = with_bound_exit w.host } ≡ host_with_bound_exit w
close_is w none = ap (with_host w) (ended_is w.host none)

pub first : (w : HostWorld) (s : Watching) → IsReady w → IsFirst host_console host_exit host_steps (record { host = w; watching = s })
first w s ready = record { no_exit = ready.no_exit; no_steps = ready.no_turn; no_bytes = ready.no_bytes }

-- ---- the answer

-- the runs of two clients in turns ended so, and their text was written
pub gives_pair : (slice bound : ℕ) (a b end_a end_b : HostWorld) (before now : Shown) (m n result : ℕ) → RunKeepsTheLaws a None →
    RunKeepsTheLaws b None → end_a ≡ watched_run a bound → end_b ≡ watched_run b bound → Gains before now (pair_text slice bound a b) →
    result ≡ max (run_status end_a) (run_status end_b) → Answers (StartsPair slice bound a b) before now m n result
gives_pair slice bound a b end_a end_b before now m n result laws_a laws_b is_a is_b written status =
    whole (StartsPair slice bound a b) before now m n result (laws_a, laws_b)
    (pair_status-small (watched_run a bound) (watched_run b bound))
    (status ∙ ap (λ (w : HostWorld). pair_status w end_b) is_a ∙ ap (λ (w : HostWorld). pair_status (watched_run a bound) w) is_b)
    written

pub gives_pair_cut : (slice bound : ℕ) (a b : HostWorld) (before now : Shown) (m n : ℕ) → RunKeepsTheLaws a None → RunKeepsTheLaws b None →
    GainsPart before now (pair_text slice bound a b) → Rose m n → Answers (StartsPair slice bound a b) before now m n 4
gives_pair_cut slice bound a b before now m n laws_a laws_b part rose =
    cut (StartsPair slice bound a b) before now m n (laws_a, laws_b)
    (pair_status-small (watched_run a bound) (watched_run b bound)) part rose

-- ---- the slices, from hosts whose clients have set no watchpoint

abbrev sliced_from : ℕ → HostWorld → Watching → OwnRun
sliced_from bound w s = own_run turn_with_watchpoints host_console host_steps bound (record { host = w; watching = s })

same_slices : (slice bound : ℕ) (a b : HostWorld) (s t : Watching) → s ≡ no_watches → t ≡ no_watches →
    slices_text slice (sliced_from bound a s) (sliced_from bound b t) ≡ slices_text slice (sliced bound a) (sliced bound b)
same_slices slice bound a b s t none_a none_b =
    ap (λ x. slices_text slice (sliced_from bound a x) (sliced_from bound b t)) none_a
    ∙ ap (λ x. slices_text slice (sliced bound a) (sliced_from bound b x)) none_b

pub slices_put : {O A E : Type 0} {r : Result A E} {taken : O → Shown} {faults : O → ℕ} {x y : O} (slice bound : ℕ) (a b : HostWorld)
    (s t : Watching) → s ≡ no_watches → t ≡ no_watches →
    Puts r taken faults x y (slices_text slice (sliced_from bound a s) (sliced_from bound b t)) →
    Puts r taken faults x y (slices_text slice (sliced bound a) (sliced bound b))
slices_put {r = r} {taken = taken} {faults = faults} {x = x} {y = y} slice bound a b s t none_a none_b put =
    subst (λ l. Puts r taken faults x y l) (same_slices slice bound a b s t none_a none_b) put

-- a fact holds in particular where a call succeeds
pub when_ok : {A E P : Type 0} (r : Result A E) → P → OnOk r P
when_ok (Ok x) p = p
when_ok (Err e) p = tt
