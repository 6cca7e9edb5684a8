-- Turns after an exit change nothing; and what a turn answers, by the exit that there is after it.
use Rattle.std.proofs.Common.{arith, ◌≡◌, ◌≤◌, ◌<◌, ◌+◌, ◌-◌, ℕ, None, Some, zero, suc, refl, sym, ◌∙◌, ap, subst, add-zero, add-suc}
use Rattle.std.proofs.Common.{add-one, Ok, Err}
use Rattle.std.specs.{Prelude.{IsSome, IfErr, OnOk}, declared.option.Option.{Option}, declared.result.Result.{Result}}
use Rattle.client_world.specs.{declared.outcome.Exit.{Exit}, World.{HostWorld}}
use Rattle.host_run.specs.{Turn.{turn}, Run.{turns, run, with_bound_exit}, Footprint.{Footprint}, MakesTurn.{MakesTurn, turn_answer}}
use Rattle.host_run.specs.View.{HostView}

turn_stops : (w : HostWorld) (e : Exit) → w.exit ≡ Some e → turn w ≡ w
unfolding turn
turn_stops w e is = rw is refl

turns_stop : (w : HostWorld) (i k : ℕ) (e : Exit) → (turns w i).exit ≡ Some e → turns w (i + k) ≡ turns w i
unfolding turns
turns_stop w i zero e is = rw add-zero refl
turns_stop w i (suc k) e is = rw add-suc (ap turn (turns_stop w i k e is) ∙ turn_stops (turns w i) e is)

-- once there is an exit after i turns, so it stays
pub turns_past : (w : HostWorld) (i n : ℕ) (e : Exit) → i ≤ n → (turns w i).exit ≡ Some e → turns w n ≡ turns w i
turns_past w i n e le is = let split : i + (n - i) ≡ n = omega arith in
    subst (λ m. turns w m ≡ turns w i) split (turns_stop w i (n - i) e is)

pub turns_more : (w : HostWorld) (i : ℕ) → turns w (i + 1) ≡ turn (turns w i)
unfolding turns
turns_more w i = rw add-one refl

-- a world with an exit keeps it at the end of a run
pub bounded_ended : (w : HostWorld) (e : Exit) → w.exit ≡ Some e → with_bound_exit w ≡ w
bounded_ended w e is = rw is refl

-- the exit that is there
pub exit_of : (o : Option Exit) → IsSome o → (e : Exit) × (o ≡ Some e)
exit_of None is = cc
exit_of (Some e) is = (e, refl)

-- once there is an exit after m turns, more of them change nothing
pub turns_stay : (w : HostWorld) (m n : ℕ) → m ≤ n → IsSome (turns w m).exit → turns w n ≡ turns w m
turns_stay w m n le is = let ended = exit_of ((turns w m).exit) is in turns_past w m n ended.0 le ended.1

-- nor does the bound of a run that goes on past it
pub run_stays : (w : HostWorld) (m n : ℕ) → m ≤ n → IsSome (turns w m).exit → run w n ≡ turns w m
run_stays w m n le is =
    let ended = exit_of ((turns w m).exit) is in
    ap with_bound_exit (turns_stay w m n le is) ∙ bounded_ended (turns w m) ended.0 ended.1

-- a run that starts after an exit changes nothing
pub run_over : (w : HostWorld) (n : ℕ) (e : Exit) → w.exit ≡ Some e → w ≡ run w n
unfolding turns
run_over w n e is = sym (ap with_bound_exit (turns_past w 0 n e (omega arith) is) ∙ bounded_ended w e is)

-- a run that ends with turn i + 1 is over there
pub run_ended : (w new : HostWorld) (n i : ℕ) → new ≡ turns w (i + 1) → i < n → IsSome new.exit → with_bound_exit new ≡ run w n
run_ended w new n i is lt some =
    let there : IsSome (turns w (i + 1)).exit = subst (λ (v : HostWorld). IsSome v.exit) is some in
    ap with_bound_exit (is ∙ sym (turns_stay w (i + 1) n (omega arith) there))

answer_is : (r : Result (Unit {0}) Exit) (o : Option Exit) → OnOk r (o ≡ None) → IfErr r (λ exit. o ≡ Some exit) → r ≡ turn_answer o
answer_is (Ok tt) o on ends = sym (ap turn_answer on)
answer_is (Err exit) o on ends = sym (ap turn_answer ends)

-- so a turn that promises what turns do answers by its exit
pub by_exit : {W : Type 0} (old new : HostView) (r : Result (Unit {0}) Exit) (reached next : W) (changes : Footprint) →
    MakesTurn old new r reached next changes → MakesTurn old new (turn_answer new.world.exit) reached next changes
by_exit old new r reached next changes made =
    subst (λ (x : Result (Unit {0}) Exit). MakesTurn old new x reached next changes)
    (answer_is r new.world.exit made.goes_on made.ends) made
