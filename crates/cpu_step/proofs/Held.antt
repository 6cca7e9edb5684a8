-- Every place that an instruction touches is the client's.
use Rattle.std.proofs.Common.{◌≡◌, ℕ, zero, suc, ◌+◌, ◌*◌, Bool, true, false, List, [], ◌∷◌, refl, Option, None, Some, Result, Ok, Err}
use Rattle.std.proofs.lemmas.List.Elements.{All-nil, All-cons, All-append, All-weaker}
use Rattle.std.specs.Prelude.{All}
use Rattle.client_world.specs.{declared.faults.Event.{Event}, declared.faults.Event.TheVariants.{Fault as fault, Soft}}
use Rattle.client_world.specs.{declared.faults.Fault.{Fault}, declared.place.Place.{Place}, declared.place.Place.TheVariants.{Dos, Block}}
use Rattle.client_world.specs.{declared.place.Place.TheVariants.{Host, Nothing}, declared.registers.Mode.{Mode}}
use Rattle.client_world.specs.{declared.registers.Mode.TheVariants.{Real, Protected}, declared.segments.SegReg.{SegReg}}
use Rattle.client_world.specs.{declared.segments.SegReg.TheVariants.{Cs}, Access.{access, segment_base, places_at, places_from, place_in}}
use Rattle.client_world.specs.{Access.{linear, first_forbidden, unless_forbidden, may_touch, IsHeld}, World.{World}}
use Rattle.client_world.proofs.PlaceLaws.{held-place, allowed-both}
use Rattle.exec_flow.specs.Interrupts.{interrupt_push}
use Rattle.guest_space.specs.{Code.{code_room}, declared.pending.Write.{Write}, Pending.{byte_count, first_write_fault}}
use Rattle.insn_decode.specs.{declared.decoding.Decoded.{Decoded}, declared.decoding.Decoded.TheVariants.{Whole, More, Invalid}}
use Rattle.insn_decode.specs.Decode.{decoded}
use Rattle.insn_plan.specs.{Accesses.{with_next_eip}, Act.{Act, End, Read, Input, Given, From, Pending, value_of}, Plan.{plan_result}}
use Rattle.cpu_step.specs.{Step.{has_big_code, code, client_row}, Touched.{and_then, touched_by_fetch, input_read, read_places}}
use Rattle.cpu_step.specs.Touched.{write_places, vector_places, vector_read_places, places_after_reads, touched_by_instruction}
use Rattle.cpu_step.specs.Touched.{touched_by_decoded, touched_by_step}

abbrev AreHeld : World → List Place → Type 0
AreHeld w places = All (IsHeld w) places

-- ---- an access that is granted

run_held : (w : World) (at n : ℕ) (write : Bool) → first_forbidden (places_from w.blocks at n) write ≡ None →
    AreHeld w (places_from w.blocks at n)
unfolding places_from
run_held w at zero write e = All-nil (IsHeld w)
run_held w at (suc n) write e =
    let p = place_in w.blocks (linear at) in
    let rest = places_from w.blocks (at + 1) n in
    let both = allowed-both (may_touch p write) (first_forbidden rest write) p e in
    All-cons (IsHeld w) p rest (held-place w (linear at) write both.0) (run_held w (at + 1) n write both.1)

-- the places of an answer are the client's
abbrev GivesHeld : World → Result (List Place) Fault → Type 0
GivesHeld w (Ok places) = AreHeld w places
GivesHeld w (Err f) = Unit {0}

unless_held : (w : World) (o : Option Place) (places : List Place) (write : Bool) → (o ≡ None → AreHeld w places) →
    GivesHeld w (unless_forbidden o places write)
unless_held w None places write h = h refl
unless_held w (Some p) places write h = tt

based_held : (w : World) (r : Result ℕ Fault) (offset n : ℕ) (write : Bool) → GivesHeld w (places_at w.blocks r offset n write)
based_held w (Ok base) offset n write =
    let places = places_from w.blocks (base + offset) n in
    unless_held w (first_forbidden places write) places write (run_held w (base + offset) n write)
based_held w (Err f) offset n write = tt

access_held : (w : World) (seg : SegReg) (offset n : ℕ) (write : Bool) → GivesHeld w (access w seg offset n write)
unfolding access
access_held w seg offset n write = based_held w (segment_base w.mode w.regs w.descriptors seg offset n write) offset n write

then_held : (w : World) (r : Result (List Place) Fault) (more : List Place) → GivesHeld w r → AreHeld w more → AreHeld w (and_then r more)
then_held w (Ok places) more h rest = All-append (IsHeld w) places more h rest
then_held w (Err f) more h rest = All-nil (IsHeld w)

-- ---- fetches, reads and writes

fetched_held : (w : World) (at n : ℕ) → AreHeld w (touched_by_fetch w at n)
unfolding touched_by_fetch
fetched_held w at zero = All-nil (IsHeld w)
fetched_held w at (suc n) =
    then_held w (access w Cs (w.regs.eip + at) 1 false) (touched_by_fetch w (at + 1) n) (access_held w Cs (w.regs.eip + at) 1 false)
    (fetched_held w (at + 1) n)

input_held : (w : World) (input : Input) (more : List Place) → AreHeld w more → AreHeld w (input_read w input more)
input_held w (Given v) more rest = rest
input_held w (From seg off n) more rest = then_held w (access w seg off n false) more (access_held w seg off n false) rest

value_held : (w : World) (r : Result ℕ Event) (more : ℕ → List Place) → ((v : ℕ) → AreHeld w (more v)) →
    AreHeld w (elim r [ Ok v ↦ more v | Err e ↦ [] ])
value_held w (Ok v) more rest = rest v
value_held w (Err e) more rest = All-nil (IsHeld w)

read_places_held : (w : World) (act : Act) → AreHeld w (read_places w act)
unfolding read_places
read_places_held w (End outcome) = All-nil (IsHeld w)
read_places_held w (Read input rest) =
    input_held w input (elim (value_of w input) [ Ok v ↦ read_places w (rest v) | Err e ↦ [] ])
    (value_held w (value_of w input) (λ v. read_places w (rest v)) (λ v. read_places_held w (rest v)))

write_places_held : (w : World) (writes : List Write) → AreHeld w (write_places w writes)
unfolding write_places
write_places_held w [] = All-nil (IsHeld w)
write_places_held w (x ∷ writes) =
    then_held w (access w x.seg x.off (byte_count x.width) true) (write_places w writes)
    (access_held w x.seg x.off (byte_count x.width) true) (write_places_held w writes)

-- ---- a software interrupt

dos_held : (w : World) (at : ℕ) (more : List Place) → AreHeld w more → AreHeld w (Dos at ∷ more)
dos_held w at more rest = All-cons (IsHeld w) (Dos at) more tt rest

vector_held : (w : World) (n : ℕ) → AreHeld w (vector_places n)
vector_held w n =
    let fourth = dos_held w (4 * n + 3) [] (All-nil (IsHeld w)) in
    let third = dos_held w (4 * n + 2) (Dos (4 * n + 3) ∷ []) fourth in
    let second = dos_held w (4 * n + 1) (Dos (4 * n + 2) ∷ Dos (4 * n + 3) ∷ []) third in
    dos_held w (4 * n) (Dos (4 * n + 1) ∷ Dos (4 * n + 2) ∷ Dos (4 * n + 3) ∷ []) second

where_pushed_held : (w : World) (o : Option Fault) (n : ℕ) → AreHeld w (elim o [ None ↦ vector_places n | Some f ↦ [] ])
where_pushed_held w None n = vector_held w n
where_pushed_held w (Some f) n = All-nil (IsHeld w)

by_mode_held : (w : World) (mode : Mode) (places : List Place) → AreHeld w places → AreHeld w (elim mode [ Real ↦ places | Protected ↦ [] ])
by_mode_held w Real places h = h
by_mode_held w Protected places h = All-nil (IsHeld w)

vector_read_held : (w : World) (n : ℕ) → AreHeld w (vector_read_places w n)
vector_read_held w n =
    let refused = first_write_fault w (interrupt_push w).writes in
    by_mode_held w w.mode (elim refused [ None ↦ vector_places n | Some f ↦ [] ]) (where_pushed_held w refused n)

places_behind_held : (w : World) (r : Result Pending Event) → AreHeld w (places_after_reads w r)
places_behind_held w (Ok p) = write_places_held w p.writes
places_behind_held w (Err (fault f)) = All-nil (IsHeld w)
places_behind_held w (Err (Soft n len)) =
    All-append (IsHeld w) (write_places w (interrupt_push w).writes) (vector_read_places w n)
    (write_places_held w (interrupt_push w).writes) (vector_read_held w n)

-- ---- the whole instruction: EIP has no part in what the client holds

executed_held : (w : World) (act : Act) → AreHeld w (touched_by_instruction w act)
executed_held w act =
    All-append (IsHeld w) (read_places w act) (places_after_reads w (plan_result w act)) (read_places_held w act)
    (places_behind_held w (plan_result w act))

-- EIP moved back
pub held_before : (w : World) (len : ℕ) (p : Place) → IsHeld (with_next_eip len w) p → IsHeld w p
held_before w len (Dos at) h = h
held_before w len (Block number at) h = h
held_before w len Host h = h
held_before w len Nothing h = h

decoded_held : (w : World) (d : Decoded) → AreHeld w (touched_by_decoded w d)
decoded_held w (Whole insn len) =
    let act = client_row (with_next_eip len w) insn len in
    All-weaker (IsHeld (with_next_eip len w)) (IsHeld w) (held_before w len) (touched_by_instruction (with_next_eip len w) act)
    (executed_held (with_next_eip len w) act)
decoded_held w More = All-nil (IsHeld w)
decoded_held w Invalid = All-nil (IsHeld w)

pub touched_held : (w : World) → AreHeld w (touched_by_step w)
unfolding touched_by_step
touched_held w =
    let d = decoded (has_big_code w) (code w) in
    All-append (IsHeld w) (touched_by_fetch w 0 code_room) (touched_by_decoded w d) (fetched_held w 0 code_room) (decoded_held w d)
