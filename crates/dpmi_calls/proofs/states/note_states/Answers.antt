use Rattle.std.proofs.{Common.{arith, ◌∙◌, ◌≡◌, ap, length, refl, slice_index, subst}, lemmas.List.{get_or-map, length-map}}
use Rattle.client_world.specs.World.{HostWorld}
use Rattle.dpmi_calls.specs.{Clients.{given}, Memory.{seen}, Turns.{host_of}, States.{IsState}, declared.start.Client.{Client}}
use Rattle.dpmi_calls.proofs.{Bytes.{one_more_row, room_of_row}, RowLists.{later, one_more_state}, Starts.{host_is}}
use Rattle.host_memory.specs.View.{MachineView}
use Rattle.dpmi_calls.proofs.states.note_states.Goals as goal

pub loop-i-init : goal.loop-i-init
loop-i-init c = (
  c.requires.run,
  refl,
  λ e. c.requires.start,
  λ k e. absurd (omega (arith, e)),
  λ k other lt. absurd (omega (arith, lt)),
  λ k j lt few. absurd (omega (arith, lt)),
)

pub advance_to-requires-clause-later : goal.advance_to-requires-clause-later
advance_to-requires-clause-later c =
    let l = c.loop-i in
    later c.args.turns.now l.i l.run.turns l.invariant.2 l.invariant.3 (omega (arith, c.loop-i-test.true)) c.requires.order

pub advance_to-requires-clause-room : goal.advance_to-requires-clause-room
advance_to-requires-clause-room c = c.requires.order.1 c.loop-i.i (omega (arith, c.loop-i-test.true))

pub loop-i-preserved : goal.loop-i-preserved
loop-i-preserved c =
    let l = c.loop-i in let moved = c.advance_to.ensures in let client = c.args.run.now.client in
    let turns = c.args.turns.now in let places = c.args.places.now in
    let here : c.advance_to.new.self.host.world ≡ host_of (given client) (slice_index turns l.i) =
    host_is c.advance_to.new.self moved.run
    ∙ ap (λ (x : Client). host_of (given x) c.advance_to.new.self.turns) (moved.client ∙ l.invariant.1)
    ∙ ap (host_of (given client)) moved.turns in (
      moved.run,
      moved.client ∙ l.invariant.1,
      λ e. absurd (omega (arith, e)),
      λ k e. let same : l.i ≡ k = omega (arith, e) in moved.turns ∙ ap (slice_index turns) same,
      one_more_state (λ n s. IsState s (host_of (given client) (slice_index turns n))) l.rows l.i c.state_of.result
          (let size : length l.rows ≡ length turns = l.auto.rows ∙ c.requires.rows in omega (arith, size, c.loop-i-test.true))
          (subst (λ (h : HostWorld). IsState c.state_of.result h) here c.state_of.ensures) l.invariant.4,
      λ k j lt few.
          one_more_row l.memory c.copy_seen.new.into (length places) l.i _ k j
          (λ m n. seen (host_of (given client) (slice_index turns m)).machine (slice_index places n))
          (room_of_row l.i (length turns) (length places) (length l.memory) (omega (arith, c.loop-i-test.true))
          (l.auto.memory ∙ c.requires.memory))
          (ap length c.copy_seen.ensures ∙ length-map places _)
          l.invariant.5
          (λ n less. ap (λ ys. slice_index ys n) c.copy_seen.ensures ∙ get_or-map _ places n 0 0 less
          ∙ ap (λ (v : MachineView). seen v.world (slice_index places n)) c.machine.ensures
          ∙ ap (λ (h : HostWorld). seen h.machine (slice_index places n)) here)
          lt few,
    )
