-- Writes leave a sound world sound, and so do a plan whose segment registers hold words and a step of the client's; a row of exec_core
-- and Jcc keep CS, and a window of code outlives a step that keeps CS.
use Rattle.std.proofs.Common.{◌≡◌, ℕ, zero, suc, ◌/◌, ◌%◌, ◌<◌, List, [], ◌∷◌, length, slice_index, refl, sym, subst, arith, nat_eq}
use Rattle.std.proofs.Common.{if◌then◌else◌, Bool, true, false, Option, None, Some, Result, Ok, Err, ◌∙◌, ap}
use Rattle.client_world.specs.{declared.faults.Event.{Event}, declared.faults.Event.TheVariants.{Fault as fault}}
use Rattle.client_world.specs.{declared.faults.Fault.{Fault}, declared.place.Place.{Place}, Access.{access, with_bytes_of}}
use Rattle.client_world.specs.{Soundness.{IsSound, HasSegments}, World.{World}, declared.registers.Regs.{Regs}}
use Rattle.client_world.proofs.SoundWrites.{MayWrite, IsSound-with_bytes_of, IsSound-regs, IsSound-vif}
use Rattle.guest_space.specs.{declared.pending.Write.{Write}, Pending.{byte_count, number_bytes, after_write, first_write_fault}}
use Rattle.guest_space.specs.{Pending.{after_writes}, Transfer.{places_of_access, after_store}, declared.windows.CodeWindow.{CodeWindow}}
use Rattle.guest_space.specs.{Machines.{HoldsItsWorld}, Windows.{IsWindow}}
use Rattle.guest_space.proofs.{Machines.{with_places_world}, OnlyWritten.{write_places}, WindowLaws.{window_of_cs, window_written}}
use Rattle.host_memory.specs.{View.{MachineView}, Layout.{world_of}}
use Rattle.insn_plan.specs.{Act.{Pending, Act}, Plan.{after_commit, with_state, plan_result, after_plan, CarriesOut, Follows}}
use Rattle.exec_core.specs.Dispatch.{is_core, core_row}
use Rattle.exec_flow.specs.{Dispatch.{flow_row}, Transfers.{jcc}}
use Rattle.insn_decode.specs.{declared.decoding.Decoded.{Decoded}, declared.decoding.Decoded.TheVariants.{Whole, More, Invalid}}
use Rattle.insn_decode.specs.Decode.{decoded}
use Rattle.insn_forms.specs.declared.insn.Insn.{Insn}
use Rattle.cpu_step.specs.{Windows.{IsHandedOn, IsInSegment}, Step.{has_big_code, code, view_with_next_eip, client_row, after_instruction}}
use Rattle.cpu_step.specs.Step.{step_of, client_step}
use Rattle.cpu_step.proofs.{CoreSegments.{core_leaves}, FlowSegments.{flow_leaves, jcc_leaves}, SegmentWords.{HoldWith, HoldWords}}
use Rattle.cpu_step.proofs.SegmentWords.{LeavesWith, LeavesWords, words_of, segments_of, leaves_if, planned_words}
use Rattle.std.specs.Prelude.{OnOk}
use Rattle.insn_plan.proofs.WrittenState.{all_state}

-- ---- what is written are bytes

abbrev BytesWithin : List ℕ → Type 0
BytesWithin bytes = (i : ℕ) → i < length bytes → slice_index bytes i < 0x100

no_bytes : BytesWithin []
no_bytes i within = absurd (omega arith)

one_more : (byte : ℕ) (bytes : List ℕ) → byte < 0x100 → BytesWithin bytes → BytesWithin (byte ∷ bytes)
one_more byte bytes small rest zero within = small
one_more byte bytes small rest (suc i) within = rest i (omega arith)

either_bytes : (c : Bool) (a b : List ℕ) → BytesWithin a → BytesWithin b → BytesWithin (if c then a else b)
either_bytes true a b one other = one
either_bytes false a b one other = other

word_is_bytes : (v : ℕ) → v < 0x10000 → BytesWithin (v % 0x100 ∷ v / 0x100 ∷ [])
word_is_bytes v small = one_more (v % 0x100) (v / 0x100 ∷ []) (omega arith) (one_more (v / 0x100) [] (omega arith) no_bytes)

dword_is_bytes : (v : ℕ) → v < 0x100000000 → BytesWithin (v % 0x100 ∷ v / 0x100 % 0x100 ∷ v / 0x10000 % 0x100 ∷ v / 0x1000000 ∷ [])
dword_is_bytes v small =
    one_more (v % 0x100) (v / 0x100 % 0x100 ∷ v / 0x10000 % 0x100 ∷ v / 0x1000000 ∷ []) (omega arith)
    (one_more (v / 0x100 % 0x100) (v / 0x10000 % 0x100 ∷ v / 0x1000000 ∷ []) (omega arith)
    (one_more (v / 0x10000 % 0x100) (v / 0x1000000 ∷ []) (omega arith)
    (one_more (v / 0x1000000) [] (omega arith) no_bytes)))

pub number_is_bytes : (width value : ℕ) → BytesWithin (number_bytes width value)
number_is_bytes width value =
    let word = value % 0x10000 in
    let dword = value % 0x100000000 in
    let long = dword % 0x100 ∷ dword / 0x100 % 0x100 ∷ dword / 0x10000 % 0x100 ∷ dword / 0x1000000 ∷ [] in
    either_bytes (nat_eq width 8) (value % 0x100 ∷ [])
    (if nat_eq width 16 then word % 0x100 ∷ word / 0x100 ∷ [] else long)
    (one_more (value % 0x100) [] (omega arith) no_bytes)
    (either_bytes (nat_eq width 16) (word % 0x100 ∷ word / 0x100 ∷ []) long (word_is_bytes word (omega arith))
    (dword_is_bytes dword (omega arith)))

-- ---- a write: where the access has a fault there are no places

sound_at : (w : World) (r : Result (List Place) Fault) (bytes : List ℕ) → ((places : List Place) → r ≡ Ok places → MayWrite places) →
    IsSound w → BytesWithin bytes → IsSound (with_bytes_of w (places_of_access r) bytes)
sound_at w (Ok places) bytes may s small = IsSound-with_bytes_of w places bytes s (may places refl) small
sound_at w (Err f) bytes may s small = s

sound_written : (v : MachineView) (x : Write) → IsSound v.world → IsSound (after_write v x).world
unfolding after_write after_store
sound_written v x s =
    let n = byte_count x.width in
    let bytes = number_bytes x.width x.value in
    let granted = access v.world x.seg x.off n true in
    subst IsSound (sym (with_places_world v (places_of_access granted) bytes))
    (sound_at v.world granted bytes (λ places e i within. (write_places v.world x.seg x.off n places e i within).may) s
    (number_is_bytes x.width x.value))

pub sound_all_written : (v : MachineView) (xs : List Write) → IsSound v.world → IsSound (after_writes v xs).world
unfolding after_writes
sound_all_written v [] s = s
sound_all_written v (x ∷ xs) s = sound_all_written (after_write v x) xs (sound_written v x s)

-- ---- a plan

pub sound_state : (v : MachineView) (p : Pending) → HasSegments p.regs → IsSound v.world → IsSound (with_state p.regs p.vif v).world
sound_state v p segments s = IsSound-vif (record v.world { regs = p.regs }) p.vif (IsSound-regs v.world p.regs s segments)

sound_unless : (v u : MachineView) (p : Pending) (o : Option Fault) → HasSegments p.regs → IsSound v.world →
    elim o as (λ _. Result MachineView Event) [ Some f ↦ Err (fault f) | None ↦ Ok (with_state p.regs p.vif (after_writes v p.writes)) ]
    ≡ Ok u → IsSound u.world
sound_unless v u p None segments s e =
    let same : with_state p.regs p.vif (after_writes v p.writes) ≡ u = cc in
    subst (λ (m : MachineView). IsSound m.world) same (sound_state (after_writes v p.writes) p segments (sound_all_written v p.writes s))
sound_unless v u p (Some f) segments s e = absurd cc

pub sound_settled : (v u : MachineView) (p : Pending) → HasSegments p.regs → IsSound v.world → after_commit v p ≡ Ok u → IsSound u.world
unfolding after_commit
sound_settled v u p segments s e = sound_unless v u p (first_write_fault v.world p.writes) segments s e

row_leaves : (w : World) (insn : Insn) (len : ℕ) → HoldWords w.regs → LeavesWords (client_row w insn len)
unfolding client_row
row_leaves w insn len s = leaves_if _ (is_core insn.op insn.first insn.second) (core_row insn.op w insn len) (flow_row insn.op w insn len)
    (core_leaves insn.op w insn len s) (flow_leaves insn.op w insn len s)

pub sound_by_plan : (v u : MachineView) (act : Act) (r : Result Pending Event) → plan_result v.world act ≡ r → LeavesWords act →
    IsSound v.world → after_plan v r ≡ Ok u → IsSound u.world
unfolding after_plan
sound_by_plan v u act (Ok p) plan words s e = sound_settled v u p (segments_of p.regs (planned_words v.world act p words plan)) s e
sound_by_plan v u act (Err event) plan words s e = absurd cc

pub sound_behind : (v : MachineView) (len : ℕ) → IsSound v.world → IsSound (view_with_next_eip len v).world
sound_behind v len s = IsSound-regs v.world _ s (segments_of (view_with_next_eip len v).world.regs (words_of v.world.regs s.segments))

sound_executed : (v u : MachineView) (insn : Insn) (len : ℕ) → IsSound v.world → after_instruction v insn len ≡ Ok u → IsSound u.world
unfolding after_instruction
sound_executed v u insn len s e =
    let at = view_with_next_eip len v in
    let act = client_row at.world insn len in
    sound_by_plan at u act (plan_result at.world act) refl (row_leaves at.world insn len (words_of v.world.regs s.segments))
    (sound_behind v len s) e

sound_step_of : (v u : MachineView) (d : Decoded) → IsSound v.world → step_of v d ≡ Ok u → IsSound u.world
sound_step_of v u (Whole insn len) s e = sound_executed v u insn len s e
sound_step_of v u More s e = absurd cc
sound_step_of v u Invalid s e = absurd cc

pub sound_step : (v u : MachineView) → IsSound v.world → client_step v ≡ Ok u → IsSound u.world
unfolding client_step
sound_step v u s e = sound_step_of v u (decoded (has_big_code v.world) (code v.world)) s e

-- ---- a row of exec_core keeps CS, and so does Jcc

cs_unless : (v u : MachineView) (p : Pending) (o : Option Fault) →
    elim o as (λ _. Result MachineView Event) [ Some f ↦ Err (fault f) | None ↦ Ok (with_state p.regs p.vif (after_writes v p.writes)) ]
    ≡ Ok u → u.world.regs.cs ≡ p.regs.cs
cs_unless v u p None e =
    let is : with_state p.regs p.vif (after_writes v p.writes) ≡ u = cc in
    sym (ap (λ (m : MachineView). m.world.regs.cs) is)
cs_unless v u p (Some f) e = absurd cc

cs_carried : (v u : MachineView) (act : Act) (r : Result Pending Event) → plan_result v.world act ≡ r →
    LeavesWith (λ cs. cs ≡ v.world.regs.cs) act → after_plan v r ≡ Ok u → u.world.regs.cs ≡ v.world.regs.cs
unfolding after_plan after_commit
cs_carried v u act (Ok p) plan keeps e =
    cs_unless v u p (first_write_fault v.world p.writes) e ∙ (planned_words v.world act p keeps plan).cs_fits
cs_carried v u act (Err event) plan keeps e = absurd cc

keeps_cs : (v u : MachineView) (act : Act) (w : CodeWindow) (r : Result (Unit {0}) Event) → IsInSegment v w → IsSound v.world →
    (HoldWith (λ cs. cs ≡ v.world.regs.cs) v.world.regs → LeavesWith (λ cs. cs ≡ v.world.regs.cs) act) →
    CarriesOut v u r act → OnOk r (IsInSegment u w)
keeps_cs v u act w (Ok _) own s leaves carried =
    let segments = s.segments in
    let keeps : HoldWith (λ cs. cs ≡ v.world.regs.cs) v.world.regs = search segments in
    λ some. own some ∙ sym (cs_carried v u act (plan_result v.world act) refl (leaves keeps) carried)
keeps_cs v u act w (Err e) own s leaves carried = tt

pub core_keeps_cs : (v u : MachineView) (i : Insn) (len : ℕ) (w : CodeWindow) (r : Result (Unit {0}) Event) →
    IsInSegment v w → IsSound v.world → CarriesOut v u r (core_row i.op v.world i len) → OnOk r (IsInSegment u w)
core_keeps_cs v u i len w r own s = keeps_cs v u _ w r own s (core_leaves i.op v.world i len)

pub jcc_keeps_cs : (v u : MachineView) (i : Insn) (n : ℕ) (w : CodeWindow) (r : Result (Unit {0}) Event) →
    IsInSegment v w → IsSound v.world → CarriesOut v u r (jcc v.world i n) → OnOk r (IsInSegment u w)
jcc_keeps_cs v u i n w r own s = keeps_cs v u _ w r own s (jcc_leaves v.world i n)

-- ---- windows of code

-- with EIP past an instruction the memory holds the world as before
holds_behind : (v : MachineView) (len : ℕ) → HoldsItsWorld v → HoldsItsWorld (view_with_next_eip len v)
unfolding world_of
holds_behind v len held = record {
  processor = record held.processor { regs = (view_with_next_eip len v).world.regs };
  machine = record {
    holds = held.machine.holds;
    is = ap (λ (w : World). record w { regs = (view_with_next_eip len v).world.regs }) held.machine.is;
    sound = sound_behind v len held.machine.sound;
  };
}

window_unless : (v u : MachineView) (p : Pending) (o : Option Fault) (w : CodeWindow) → HoldsItsWorld v → IsWindow v w →
    elim o as (λ _. Result MachineView Event) [ Some f ↦ Err (fault f) | None ↦ Ok (with_state p.regs p.vif (after_writes v p.writes)) ]
    ≡ Ok u → u.world.regs.cs ≡ v.world.regs.cs → IsWindow u w
window_unless v u p None w held window e same =
    let is : with_state p.regs p.vif (after_writes v p.writes) ≡ u = cc in
    let kept = ap (λ (m : MachineView). m.world.regs.cs) is ∙ same ∙ sym (ap (λ (r : Regs). r.cs) (all_state v p.writes).regs) in
    subst (λ (m : MachineView). IsWindow m w) is
    (window_of_cs (after_writes v p.writes) p.regs p.vif w kept (window_written v held p.writes w window))
window_unless v u p (Some f) w held window e same = absurd cc

window_carried : (v u : MachineView) (r : Result Pending Event) (w : CodeWindow) → HoldsItsWorld v → IsWindow v w → after_plan v r ≡ Ok u →
    u.world.regs.cs ≡ v.world.regs.cs → IsWindow u w
unfolding after_plan after_commit
window_carried v u (Ok p) w held window e same = window_unless v u p (first_write_fault v.world p.writes) w held window e same
window_carried v u (Err event) w held window e same = absurd cc

window_executed : (v u : MachineView) (insn : Insn) (len : ℕ) (w : CodeWindow) → HoldsItsWorld v → IsWindow v w →
    after_instruction v insn len ≡ Ok u → u.world.regs.cs ≡ v.world.regs.cs → IsWindow u w
unfolding after_instruction
window_executed v u insn len w held window e same =
    let at = view_with_next_eip len v in
    window_carried at u (plan_result at.world (client_row at.world insn len)) w (holds_behind v len held)
    (window_of_cs v at.world.regs v.world.vif w refl window) e same

window_step_of : (v u : MachineView) (d : Decoded) (w : CodeWindow) → HoldsItsWorld v → IsWindow v w → step_of v d ≡ Ok u →
    u.world.regs.cs ≡ v.world.regs.cs → IsWindow u w
window_step_of v u (Whole insn len) w held window e same = window_executed v u insn len w held window e same
window_step_of v u More w held window e same = absurd cc
window_step_of v u Invalid w held window e same = absurd cc

window_step : (v u : MachineView) (w : CodeWindow) → HoldsItsWorld v → IsWindow v w → client_step v ≡ Ok u →
    u.world.regs.cs ≡ v.world.regs.cs → IsWindow u w
unfolding client_step
window_step v u w held window e same = window_step_of v u (decoded (has_big_code v.world) (code v.world)) w held window e same

pub window_after : (v u : MachineView) (old new : CodeWindow) (r : Result (Unit {0}) Event) → HoldsItsWorld v → IsWindow v old →
    IsHandedOn old new → OnOk r (IsInSegment u new) → Follows v u r (client_step v) → OnOk r (0 < new.starts → IsWindow u new)
window_after v u old new (Ok _) held window same own step = λ some.
    let is = same some in
    let kept : u.world.regs.cs ≡ v.world.regs.cs = sym (own some) ∙ ap (λ (w : CodeWindow). w.cs) is ∙ window.cs in
    rw is (window_step v u old held window step kept)
window_after v u old new (Err e) held window same own step = tt
