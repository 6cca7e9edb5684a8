-- What a turn promises, whoever makes it: the host, with watchpoints or a timer, or something else in place of the host's own turn. Source:
-- own.
use Rattle.std.specs.{Prelude.{◌≡◌, ◌≤◌, ◌+◌, IfErr, IsSome, MatchResult, OnOk, None, Some, Ok, Err}, declared.option.Option.{Option}}
use Rattle.std.specs.declared.result.Result.{Result}
use Rattle.client_world.specs.declared.outcome.Exit.{Exit}
use Rattle.host_run.specs.{Footprint.{ChangesOnly, Footprint}, View.{HostView}}

-- what a turn answers: the exit, where there is one after it
abbrev pub turn_answer : Option Exit → Result (Unit {0}) Exit
turn_answer None = Ok tt
turn_answer (Some exit) = Err exit

-- an answer that says whether the run has ended, and not how
abbrev pub AnswersBy : {E : Type 0} → Result (Unit {0}) E → Option Exit → Type 0
AnswersBy result exit = MatchResult result (λ _. exit ≡ None) (λ _. IsSome exit)

-- the turn led to the next world, and changed the bytes of its footprint alone. Its error is the exit that ends the run, and then no byte
-- changed. It is counted once at most, and takes no exit away. `reached` is the world after it: the host's, or one with watchpoints or a
-- timer too
pub record MakesTurn {W : Type 0} (old new : HostView) (result : Result (Unit {0}) Exit) (reached next : W) (changes : Footprint)
    : Type 0 where
  pub world : reached ≡ next
  pub bytes : ChangesOnly changes old.bytes new.bytes
  pub kept : IfErr result (λ _. new.bytes ≡ old.bytes)
  pub goes_on : OnOk result (new.world.exit ≡ None)
  pub ends : IfErr result (λ exit. new.world.exit ≡ Some exit)
  pub steps : new.world.steps ≤ old.world.steps + 1
  pub was_on : new.world.exit ≡ None → old.world.exit ≡ None
