-- A trap byte is HLT, which raises a general protection exception: no client instruction runs there.
use Rattle.std.proofs.Common.{arith, ◌≡◌, ◌≢◌, ◌∙◌, ◌≤◌, ◌<◌, ◌+◌, ◌%◌, ◌^◌, ℕ, Bool, true, false, not, List, [], ◌∷◌, slice_index, nat_le}
use Rattle.std.proofs.{Common.{nat_lt, if◌then◌else◌, inl, inr, refl, sym, ap, subst, None, Some, Result, Ok, Err}, lemmas.Bool.{cases_lt}}
use Rattle.std.proofs.lemmas.Bool.{lt-ltb}
use Rattle.client_world.specs.{declared.faults.Event.TheVariants.{Fault as fault}, declared.faults.Fault.{Fault}}
use Rattle.client_world.specs.{declared.faults.TheConstants.{GENERAL_PROTECTION}, declared.memory_map.TheConstants.{DOS_SIZE, DOS_VIEW_END}}
use Rattle.client_world.specs.{declared.memory_map.TheConstants.{ROM_BYTE, ROM_START, SEGMENT_SIZE}, declared.place.Place.{Place}}
use Rattle.client_world.specs.{declared.place.Place.TheVariants.{Dos}, declared.registers.Mode.{Mode}}
use Rattle.client_world.specs.{declared.registers.Mode.TheVariants.{Real, Protected}, declared.registers.Regs.{Regs}}
use Rattle.client_world.specs.{declared.segments.SegReg.TheVariants.{Cs}, Access.{base_in_row, byte_of, fault_with, linear, may_touch}}
use Rattle.client_world.specs.{Access.{place_in, places_from, segment_base, unless_forbidden}, Descriptor.{is_code, is_inside}}
use Rattle.client_world.specs.{Selector.{Row, is_null, row_of_selector}, Soundness.{IsSound}, World.{World}}
use Rattle.cpu_step.specs.Step.{client_row, client_step, after_instruction, has_big_code, step_of}
use Rattle.exec_core.specs.Dispatch.{is_core}
use Rattle.exec_flow.specs.{Dispatch.{flow_row}, Raising.{privileged}}
use Rattle.interrupts.specs.Worlds.{view_without_bytes, world_of_result, world_step}
use Rattle.guest_space.specs.{Code.{code_byte, code_from, one_byte}, SegmentRows.{base_of_row, first_byte}, Transfer.{bytes_at}}
use Rattle.guest_space.specs.Transfer.{linear_access}
use Rattle.host_memory.specs.View.{MachineView}
use Rattle.insn_decode.specs.{declared.decoding.Decoded.TheVariants.{Whole}, Decode.{decoded}}
use Rattle.insn_decode.proofs.Answering.{decoded_only}
use Rattle.insn_forms.specs.{declared.insn.Insn.{Insn}, declared.rows.OpMap.TheVariants.{One}, Addressing.{disp_size, modrm_size, sib_size}}
use Rattle.insn_forms.specs.{Grammar.{Encoding, Pieces, addressing_of, head_of, insn_of_pieces}, OpcodeMap.{map_one_e0, opcode_row}}
use Rattle.insn_forms.specs.{OpcodeMap.{row_one}, Operands.{insn_of, is_row}, Prefixes.{prefixes_of}}
use Rattle.insn_plan.specs.Plan.{after_plan}
use Rattle.host_run.specs.{declared.traps.Trap.TheVariants.{NoTrap}, Traps.{address_in, code_address, code_linear, current_trap}}
use Rattle.host_run.specs.Traps.{trap_where}
use Rattle.host_run.proofs.NoTraps.{none_at}
use Rattle.cpu_step.proofs.Joined.{past}
use Rattle.guest_space.proofs.Codes as codes

-- ---- HLT

hlt_pieces : Pieces
hlt_pieces = record {
  prefixes = [];
  map = One;
  opcode = ROM_BYTE;
  modrm = [];
  sib = [];
  disp = [];
  first = [];
  second = [];
  third = [];
}

abbrev hlt : Bool → Insn
hlt big = insn_of_pieces big (head_of hlt_pieces) (addressing_of hlt_pieces) 0 0 0

hlt_encoding : (big : Bool) → Encoding big (hlt big) (ROM_BYTE ∷ [])
unfolding hlt_pieces prefixes_of opcode_row row_one map_one_e0 modrm_size sib_size disp_size is_row
hlt_encoding true = record {
  pieces = hlt_pieces;
  whole = refl;
  prefixes = tt;
  are_row = record { modrm = refl; has_row = refl; sib = refl; disp = refl; first = refl; second = refl; third = refl };
  means = refl;
  are_bytes = (omega arith, tt);
}
hlt_encoding false = record {
  pieces = hlt_pieces;
  whole = refl;
  prefixes = tt;
  are_row = record { modrm = refl; has_row = refl; sib = refl; disp = refl; first = refl; second = refl; third = refl };
  means = refl;
  are_bytes = (omega arith, tt);
}

hlt_decoded : (big : Bool) (rest : List ℕ) → decoded big (ROM_BYTE ∷ rest) ≡ Whole (hlt big) 1
hlt_decoded big rest = decoded_only big (hlt big) (ROM_BYTE ∷ []) rest (ROM_BYTE ∷ rest) refl (hlt_encoding big)

hlt_executed : (v : MachineView) (big : Bool) → after_instruction v (hlt big) 1 ≡ Err (fault (fault_with GENERAL_PROTECTION 0))
unfolding after_instruction client_row is_core flow_row privileged after_plan hlt_pieces prefixes_of opcode_row row_one map_one_e0 insn_of
hlt_executed v big = refl

pub hlt_faults : (v : MachineView) → code_byte v.world 0 ≡ Ok ROM_BYTE → client_step v ≡ Err (fault (fault_with GENERAL_PROTECTION 0))
unfolding client_step
hlt_faults v is =
    let big = has_big_code v.world in
    ap (λ (bytes : List ℕ). step_of v (decoded big bytes)) (codes.code_next v.world 0 14 ROM_BYTE is)
    ∙ ap (step_of v) (hlt_decoded big (code_from v.world 1 14)) ∙ hlt_executed v big

-- ---- the byte at a trap

-- a byte is fetched there, and its address is one of read-only memory
record IsFetched (w : World) (at byte : ℕ) : Type 0 where
  fetched : code_byte w 0 ≡ Ok byte
  from : ROM_START ≤ at
  to : at < DOS_SIZE

fetched_by : (w : World) (mode : Mode) (at : ℕ) (r : Result ℕ Fault) → code_byte w 0 ≡ r →
    trap_where mode (elim r [ Ok byte ↦ Some at | Err f ↦ None ]) ≢ NoTrap → (byte : ℕ) × IsFetched w at byte
fetched_by w mode at (Err f) is trapped = absurd (trapped refl)
fetched_by w mode at (Ok byte) is trapped = elim (cases_lt at ROM_START) [
  | inl below ↦ absurd (trapped (none_at mode at (inl below)))
  | inr above ↦ elim (cases_lt at DOS_SIZE) [
    | inl inside ↦ (byte, record { fetched = is; from = above; to = inside })
    | inr past ↦ absurd (trapped (none_at mode at (inr past)))
  ]
]

fetched : (w : World) → current_trap w ≢ NoTrap → (byte : ℕ) × IsFetched w (code_address w) byte
unfolding current_trap code_linear
fetched w trapped = fetched_by w w.mode (code_address w) (code_byte w 0) refl trapped

-- the base of an access through CS is the address of its first byte
real_base_was : (fits : Bool) (f : Fault) (first base : ℕ) → (if fits then Ok first else Err f) ≡ Ok base → first ≡ base
real_base_was true f first base e = cc
real_base_was false f first base e = absurd cc

row_base_was : (sel off base : ℕ) (row : Row) (rows : List Row) → row_of_selector rows sel ≡ row →
    base_in_row Cs sel row off 1 false ≡ Ok base → first_byte Protected rows sel ≡ base
row_base_was sel off base None rows is e = absurd cc
row_base_was sel off base (Some row) rows is e =
    let found = past (not (is_inside row.0 off 1)) _ (Ok row.0.base) base
    (past (not row.0.present) _ _ base (past (not (is_code row.0.kind)) _ _ base e)) in
    let same : row.0.base ≡ base = cc in
    ap base_of_row is ∙ same

base_was : (mode : Mode) (r : Regs) (rows : List Row) (off base : ℕ) → segment_base mode r rows Cs off 1 false ≡ Ok base →
    first_byte mode rows r.cs ≡ base
unfolding segment_base
base_was Real r rows off base e = real_base_was (nat_le (off + 1) SEGMENT_SIZE) _ _ base e
base_was Protected r rows off base e = row_base_was r.cs off base (row_of_selector rows r.cs) rows refl (past (is_null r.cs) _ _ base e)

address_was : (mode : Mode) (w : World) (base : ℕ) → first_byte mode w.descriptors w.regs.cs ≡ base → address_in mode w < DOS_SIZE →
    linear ((((base + w.regs.eip) % 2 ^ 32) + 0) % 2 ^ 32) ≡ address_in mode w
address_was Real w base is small = omega arith
address_was Protected w base is small = omega arith

-- the byte that is read there
may_give : (may : Bool) (w : World) (p : Place) (byte : ℕ) →
    one_byte (bytes_at w (unless_forbidden (if may then None else Some p) (p ∷ []) false)) ≡ Ok byte → byte_of w p ≡ byte
may_give true w p byte e = cc
may_give false w p byte e = absurd cc

one_place : (w : World) (lin at byte : ℕ) → linear lin ≡ at → one_byte (bytes_at w (linear_access w lin 1 false)) ≡ Ok byte →
    byte_of w (place_in w.blocks at) ≡ byte
unfolding places_from
one_place w lin at byte is e =
    let p = place_in w.blocks (linear lin) in
    subst (λ (k : ℕ). byte_of w (place_in w.blocks k) ≡ byte) is (may_give (may_touch p false) w p byte e)

byte_there : (w : World) (byte : ℕ) (r : Result ℕ Fault) → segment_base w.mode w.regs w.descriptors Cs w.regs.eip 1 false ≡ r →
    code_byte w 0 ≡ Ok byte → code_address w < DOS_SIZE → byte_of w (place_in w.blocks (code_address w)) ≡ byte
byte_there w byte (Err f) is e small = absurd (let clash : Err f ≡ Ok byte = sym (codes.not_fetched w 0 f is) ∙ e in cc)
byte_there w byte (Ok base) is e small =
    one_place w ((((base + w.regs.eip) % 2 ^ 32) + 0) % 2 ^ 32) (code_address w) byte
    (address_was w.mode w base (base_was w.mode w.regs w.descriptors w.regs.eip base is) small)
    (codes.fetched w 0 base is ∙ e)

in_view : (view : Bool) (p q : Place) → view ≡ true → (if view then p else q) ≡ p
in_view true p q e = refl
in_view false p q e = absurd cc

rom_there : (w : World) (at : ℕ) → IsSound w → ROM_START ≤ at → at < DOS_SIZE → byte_of w (place_in w.blocks at) ≡ ROM_BYTE
unfolding place_in
rom_there w at sound from to =
    let same : at % DOS_SIZE ≡ at = omega arith in
    ap (byte_of w) (in_view (nat_lt at DOS_VIEW_END) (Dos (at % DOS_SIZE)) _ (lt-ltb at DOS_VIEW_END (omega arith)))
    ∙ ap (slice_index w.dos) same ∙ sound.megabyte.rom at from to

pub no_instruction_runs : (w : World) → IsSound w → current_trap w ≢ NoTrap → world_step w ≡ Err (fault (fault_with GENERAL_PROTECTION 0))
unfolding world_step
no_instruction_runs w sound trapped =
    let f = fetched w trapped in
    let here = byte_there w f.0 (segment_base w.mode w.regs w.descriptors Cs w.regs.eip 1 false) refl f.1.fetched f.1.to in
    let same : f.0 ≡ ROM_BYTE = sym here ∙ rom_there w (code_address w) sound f.1.from f.1.to in
    ap world_of_result (hlt_faults (view_without_bytes w) (f.1.fetched ∙ ap (λ (byte : ℕ). Ok byte) same))
