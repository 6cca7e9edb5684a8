-- A selector through which a segment register can be loaded is a word.
use Rattle.std.proofs.Common.{◌≡◌, ℕ, ◌<◌, ◌≤◌, Bool, true, false, inl, inr, List, length, arith, Option, None, Some}
use Rattle.std.proofs.{lemmas.Bool.{cases_lt, ltb-true}, lemmas.List.{get_or_past}}
use Rattle.std.specs.Prelude.{if◌then◌else◌, is_none}
use Rattle.client_world.specs.{declared.faults.Fault.{Fault}, declared.faults.TheConstants.{GENERAL_PROTECTION}}
use Rattle.client_world.specs.{declared.host_frames.TheConstants.{DESCRIPTORS}, declared.segments.SegReg.{SegReg}}
use Rattle.client_world.specs.{declared.segments.SegReg.TheVariants.{Es, Cs, Ss, Ds, Fs, Gs}, Access.{fault_with}, Loading.{code_row_fault}}
use Rattle.client_world.specs.{Loading.{data_row_fault, is_loadable, load_fault, stack_row_fault}, Selector.{Row, index_of, is_local}}
use Rattle.client_world.specs.{Selector.{is_null, row_at_index}, World.{World}}

no_code_there : (null local : Bool) (row : Row) (sel offset : ℕ) (return : Bool) → row ≡ None →
    (if null then Some (fault_with GENERAL_PROTECTION 0) else code_row_fault (if local then row else None) sel offset return) ≡ None → ⊥
no_code_there true local row sel offset return none e = absurd cc
no_code_there false true None sel offset return none e = absurd cc
no_code_there false true (Some row) sel offset return none e = absurd cc
no_code_there false false row sel offset return none e = absurd cc

no_stack_there : (null local : Bool) (row : Row) (sel : ℕ) → row ≡ None →
    (if null then Some (fault_with GENERAL_PROTECTION 0) else stack_row_fault (if local then row else None) sel) ≡ None → ⊥
no_stack_there true local row sel none e = absurd cc
no_stack_there false true None sel none e = absurd cc
no_stack_there false true (Some row) sel none e = absurd cc
no_stack_there false false row sel none e = absurd cc

null_there : (null local : Bool) (row : Row) (sel : ℕ) → row ≡ None →
    (if null then None else data_row_fault (if local then row else None) sel) ≡ None → null ≡ true
null_there true local row sel none e = cc
null_there false true None sel none e = absurd cc
null_there false true (Some row) sel none e = absurd cc
null_there false false row sel none e = absurd cc

-- an index past the descriptors has no row
pub past : (rows : List Row) (sel : ℕ) → length rows ≡ DESCRIPTORS → 0x10000 ≤ sel → row_at_index rows (index_of sel) ≡ None
past rows sel size large = get_or_past rows (index_of sel) None (omega (arith, size))

named : (rows : List Row) (seg : SegReg) (sel offset : ℕ) (return : Bool) → length rows ≡ DESCRIPTORS → 0x10000 ≤ sel →
    load_fault rows seg sel offset return ≡ None → ⊥
unfolding load_fault
named rows Es sel offset return size large e =
    let null = ltb-true sel 4
    (null_there (is_null sel) (is_local sel) (row_at_index rows (index_of sel)) sel (past rows sel size large) e) in omega arith
named rows Cs sel offset return size large e =
    no_code_there (is_null sel) (is_local sel) (row_at_index rows (index_of sel)) sel offset return (past rows sel size large) e
named rows Ss sel offset return size large e =
    no_stack_there (is_null sel) (is_local sel) (row_at_index rows (index_of sel)) sel (past rows sel size large) e
named rows Ds sel offset return size large e =
    let null = ltb-true sel 4
    (null_there (is_null sel) (is_local sel) (row_at_index rows (index_of sel)) sel (past rows sel size large) e) in omega arith
named rows Fs sel offset return size large e =
    let null = ltb-true sel 4
    (null_there (is_null sel) (is_local sel) (row_at_index rows (index_of sel)) sel (past rows sel size large) e) in omega arith
named rows Gs sel offset return size large e =
    let null = ltb-true sel 4
    (null_there (is_null sel) (is_local sel) (row_at_index rows (index_of sel)) sel (past rows sel size large) e) in omega arith

pub loaded_is_word : (rows : List Row) (seg : SegReg) (sel offset : ℕ) (return : Bool) → length rows ≡ DESCRIPTORS →
    load_fault rows seg sel offset return ≡ None → sel < 0x10000
loaded_is_word rows seg sel offset return size e = elim (cases_lt sel 0x10000) [
  | inl small ↦ small
  | inr large ↦ absurd (named rows seg sel offset return size large e)
]

none_is : (o : Option Fault) → is_none o ≡ true → o ≡ None
none_is None e = cc
none_is (Some f) e = absurd cc

pub loadable_is_word : (w : World) (seg : SegReg) (sel offset : ℕ) (return : Bool) → length w.descriptors ≡ DESCRIPTORS →
    is_loadable w seg sel offset return ≡ true → sel < 0x10000
loadable_is_word w seg sel offset return size e =
    loaded_is_word w.descriptors seg sel offset return size (none_is (load_fault w.descriptors seg sel offset return) e)
