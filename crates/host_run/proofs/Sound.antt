-- What crates above may cite of a run: from a sound world with keys that are bytes each turn leads to such a one and leaves the records of
-- calls or adds or takes away the innermost one.
use Rattle.std.proofs.Common.{arith, ◌≡◌, ◌≢◌, ◌≤◌, ◌+◌, ◌*◌, ℕ, zero, suc, List, None, Some, refl, sym, subst}
use Rattle.std.specs.{Prelude.{IsSome}, declared.option.Option.{Option}}
use Rattle.client_world.specs.{declared.outcome.Exit.{Exit}, declared.outcome.Exit.TheVariants.{Bound, ConsoleFull}, Soundness.{IsSound}}
use Rattle.client_world.specs.{Soundness.{IsSoundHost}, World.{HostWorld}}
use Rattle.guest_ram.specs.Bytes.{AreBytes}
use Rattle.host_memory.proofs.BlankSound.{blank_is_sound}
use Rattle.mz_loader.specs.Refusal.{refusal}
use Rattle.mz_loader.proofs.SoundStart.{sound_start}
use Rattle.host_run.specs.{Keys.{HasKeys}, Nested.{Stacked}, RealCalls.{from_client}, Start.{blank, host_at_start}, Run.{turns, run}}
use Rattle.host_run.specs.Turn.{turn}
use Rattle.host_run.proofs.{Runs.{turns_more}, TurnLaws.{IsReached, LeavesAll, LeavesBy, turn_keeps}}

-- the trace has two lines for each turn at most
abbrev pub HasFewLines : HostWorld → Type 0
HasFewLines w = w.lines ≤ 2 * w.steps

pub turn_sound : (w : HostWorld) → IsReached w → IsReached (turn w)
turn_sound w s = (turn_keeps w s).reached

turn_lines : (w : HostWorld) → IsReached w → HasFewLines w → HasFewLines (turn w)
turn_lines w s few = omega (arith, few, (turn_keeps w s).lines)

-- a turn that ends the run leaves the machine, and but for a full console the keystrokes and the console too
pub machine_by : (w after : HostWorld) (e : Option Exit) → LeavesBy w after e → IsSome e → after.machine ≡ w.machine
machine_by w after None l is = cc
machine_by w after (Some exit) l is = l.machine

pub outside_by : (w after : HostWorld) (e : Option Exit) (exit : Exit) → LeavesBy w after e → e ≡ Some exit → exit ≢ ConsoleFull →
    (after.keys ≡ w.keys) × (after.console ≡ w.console)
outside_by w after e exit l is other = (let all : LeavesAll w after exit = subst (LeavesBy w after) is l in all.outside) other

-- a host leaves itself
pub leaves_itself : (w : HostWorld) (e : Option Exit) → LeavesBy w w e
leaves_itself w None = tt
leaves_itself w (Some exit) = record { machine = refl; outside = λ _. (refl, refl) }

pub exit_leaves_machine : (w : HostWorld) → IsSound w.machine → HasKeys w → IsSome (turn w).exit → (turn w).machine ≡ w.machine
exit_leaves_machine w sound keys ended =
    machine_by w (turn w) (turn w).exit (turn_keeps w (record { machine = sound; keys = keys })).leaves ended

pub exit_leaves_outside : (w : HostWorld) (exit : Exit) → IsSound w.machine → HasKeys w → (turn w).exit ≡ Some exit → exit ≢ ConsoleFull →
    ((turn w).keys ≡ w.keys) × ((turn w).console ≡ w.console)
exit_leaves_outside w exit sound keys is other =
    outside_by w (turn w) (turn w).exit exit (turn_keeps w (record { machine = sound; keys = keys })).leaves is other

-- so does any number of turns
pub turns_sound : (w : HostWorld) (n : ℕ) → IsReached w → IsReached (turns w n)
unfolding turns
turns_sound w zero s = s
turns_sound w (suc n) s = turn_sound (turns w n) (turns_sound w n s)

pub turns_lines : (w : HostWorld) (n : ℕ) → IsReached w → HasFewLines w → HasFewLines (turns w n)
unfolding turns
turns_lines w zero s few = few
turns_lines w (suc n) s few = turn_lines (turns w n) (turns_sound w n s) (turns_lines w n s few)

-- what turns do to the records of calls
pub turns_calls : (w : HostWorld) (n : ℕ) → IsReached w → Stacked from_client (turns w n) (turns w (n + 1))
turns_calls w n s = subst (Stacked from_client (turns w n)) (sym (turns_more w n)) (turn_keeps (turns w n) (turns_sound w n s)).calls

-- so does a run
bound_sound : (w : HostWorld) (o : Option Exit) → IsReached w → IsReached (elim o [ Some _ ↦ w | None ↦ record w { exit = Some Bound } ])
bound_sound w (Some _) s = s
bound_sound w None s = record { machine = s.machine; keys = s.keys }

bound_lines : (w : HostWorld) (o : Option Exit) → HasFewLines w →
    HasFewLines (elim o [ Some _ ↦ w | None ↦ record w { exit = Some Bound } ])
bound_lines w (Some _) few = few
bound_lines w None few = few

pub run_sound : (w : HostWorld) (n : ℕ) → IsReached w → IsReached (run w n)
run_sound w n s = bound_sound (turns w n) (turns w n).exit (turns_sound w n s)

pub run_lines : (w : HostWorld) (n : ℕ) → IsReached w → HasFewLines w → HasFewLines (run w n)
run_lines w n s few = bound_lines (turns w n) (turns w n).exit (turns_lines w n s few)

-- of hosts
abbrev reached : (w : HostWorld) → IsSoundHost w → HasKeys w → IsReached w
reached w s keys = record { machine = s.machine; keys = keys }

pub host_turn_sound : (w : HostWorld) → IsSoundHost w → HasKeys w → IsSoundHost (turn w)
host_turn_sound w s keys = record { machine = (turn_sound w (reached w s keys)).machine; lines = turn_lines w (reached w s keys) s.lines }

pub host_turns_sound : (w : HostWorld) → IsSoundHost w → HasKeys w → (n : ℕ) → IsSoundHost (turns w n)
host_turns_sound w s keys n =
    record { machine = (turns_sound w n (reached w s keys)).machine; lines = turns_lines w n (reached w s keys) s.lines }

pub host_run_sound : (w : HostWorld) → IsSoundHost w → HasKeys w → (n : ℕ) → IsSoundHost (run w n)
host_run_sound w s keys n =
    record { machine = (run_sound w n (reached w s keys)).machine; lines = run_lines w n (reached w s keys) s.lines }

-- the first world of a host is sound
pub blank_sound : (pages keep : ℕ) (keys : List ℕ) → IsSoundHost (blank pages keys keep)
blank_sound pages keep keys = record { machine = blank_is_sound pages; lines = omega arith }

-- so is the world that a file starts, if the file is one of bytes and is taken
pub started_sound : (pages keep : ℕ) (keys file : List ℕ) → AreBytes file → refusal file ≡ None →
    IsSoundHost (host_at_start pages keys keep file)
started_sound pages keep keys file small none = record { machine = sound_start file pages small none; lines = omega arith }
