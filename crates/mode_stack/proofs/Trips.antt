-- Runs of bytes that are put one after the other into zeros; so a record is read from its bytes; the innermost record of a call, and those
-- before it.
use Rattle.std.proofs.Common.{◌≡◌, ℕ, ◌+◌, ◌-◌, ◌<◌, ◌≤◌, inl, inr, Bool, false, List, [], ◌++◌, length, replicate, take, drop, refl, ap}
use Rattle.std.proofs.{Common.{◌∙◌, sym, arith, length-append, true, not, nat_eq, cond, ◌∷◌, Some}, lemmas.Bool.{cases_lt}}
use Rattle.std.proofs.{lemmas.Grind.{same_number_lists}, lemmas.List.{get_or_append_left, get_or-append_right, drop-drop}}
use borrow.Rule.Slice.PartMut.{put_mid}
use Rattle.client_world.specs.{declared.calls.Call.{Call}, declared.calls.Record.{Record}, declared.calls.Record.TheVariants.{Sim, Back}}
use Rattle.client_world.specs.{declared.calls.Record.TheVariants.{Exc}, declared.registers.Regs.{Regs}, declared.segments.FarPtr.{FarPtr}}
use Rattle.client_world.specs.{Segments.{null_pointer}, declared.calls.Call.TheVariants.{Int, Far, Iret, Reflect}}
use Rattle.client_world.specs.{declared.registers.Flags.{Flags}, Registers.{flags_image, flags_of_image}}
use Rattle.host_memory.specs.Records.{call_kind, call_number, record_bytes, record_head, regs_bytes, record_at, record_size, regs_at}
use Rattle.guest_ram.specs.{Bytes.{put, dword}, Listed.{zeros}}
use Rattle.guest_ram.proofs.{ListedLaws.{length-zeros, at_zeros}, PutLaws.{length-put, put_is, put_below, put_within, put_above}}
use Rattle.guest_ram.proofs.ByteLists.{dword_sum, word_back}
use Rattle.std.specs.List.{slice_get}

pub put_mid_is : (b : List ℕ) (at k : ℕ) (part xs : List ℕ) → part ≡ xs → k ≡ length xs → at + length xs ≤ length b →
    put_mid at k b part ≡ put b at xs
put_mid_is b at k part xs e f room = mid ∙ sym (put_is b at xs room)
  where
    mid : put_mid at k b part ≡ take at b ++ (xs ++ drop (at + length xs) b)
    mid = rw (e, f, drop-drop (length xs) at b) refl

pub put_after : (xs ys : List ℕ) (at n : ℕ) → length xs ≡ at → length ys ≤ n →
    put (xs ++ zeros n) at ys ≡ xs ++ (ys ++ zeros (n - length ys))
put_after xs ys at n long room =
    let whole : length (xs ++ zeros n) ≡ at + n = omega (arith, length-append xs (zeros n), length-zeros n) in
    let rest : length (ys ++ zeros (n - length ys)) ≡ n =
    omega (arith, length-append ys (zeros (n - length ys)), length-zeros (n - length ys)) in
    same_number_lists (put (xs ++ zeros n) at ys) (xs ++ (ys ++ zeros (n - length ys)))
    (omega (arith, length-put (xs ++ zeros n) at ys, length-append xs (ys ++ zeros (n - length ys)), whole, rest))
    (λ k small. elim (cases_lt k at) [
      | inl below ↦ put_below (xs ++ zeros n) at ys k below ∙ get_or_append_left xs (zeros n) 0 k (omega arith)
          ∙ sym (get_or_append_left xs (ys ++ zeros (n - length ys)) 0 k (omega arith))
      | inr from ↦ elim (cases_lt k (at + length ys)) [
        | inl inside ↦ put_within (xs ++ zeros n) at ys (k - at) k (omega (arith, whole)) (omega arith) (omega arith)
            ∙ sym (get_or-append_right xs (ys ++ zeros (n - length ys)) at k 0 long from
            ∙ get_or_append_left ys (zeros (n - length ys)) 0 (k - at) (omega arith))
        | inr past ↦ (let within : k < at + n = omega (arith, length-put (xs ++ zeros n) at ys, whole, small) in
            put_above (xs ++ zeros n) at ys k past ∙ get_or-append_right xs (zeros n) at k 0 long from ∙ at_zeros n (k - at) (omega arith)
            ∙ sym (get_or-append_right xs (ys ++ zeros (n - length ys)) at k 0 long from
            ∙ get_or-append_right ys (zeros (n - length ys)) (length ys) (k - at) 0 refl (omega arith)
            ∙ at_zeros (n - length ys) (k - at - length ys) (omega arith)))
      ]
    ])

pub put_first : (ys : List ℕ) (n : ℕ) → length ys ≤ n → put (zeros n) 0 ys ≡ ys ++ zeros (n - length ys)
put_first ys n room = put_after [] ys 0 n refl room

-- the bytes of a record, put together
abbrev pub blank_row : List ℕ
blank_row = replicate 128 0

blank_is : blank_row ≡ zeros 128
unfolding zeros
blank_is = refl

head_put : (kind number : ℕ) (vif : Bool) (code : ℕ) (at : FarPtr) (h : List ℕ) → h ≡ record_head kind number vif code at →
    put blank_row 0 h ≡ record_head kind number vif code at ++ zeros 112
head_put kind number vif code at h is =
    ap (λ (b : List ℕ). put b 0 h) blank_is ∙ ap (put (zeros 128) 0) is ∙ put_first (record_head kind number vif code at) 128 (omega arith)

length-regs_bytes : (r : Regs) → length (regs_bytes r) ≡ 50
unfolding regs_bytes
length-regs_bytes r = refl

both_put : (kind number : ℕ) (vif : Bool) (code : ℕ) (at : FarPtr) (saved : Regs) (h rs : List ℕ) →
    h ≡ record_head kind number vif code at → rs ≡ regs_bytes saved →
    put (put blank_row 0 h) 16 rs ≡ record_head kind number vif code at ++ (regs_bytes saved ++ zeros 62)
both_put kind number vif code at saved h rs is regs =
    let long = length-regs_bytes saved in
    ap (λ (b : List ℕ). put b 16 rs) (head_put kind number vif code at h is)
    ∙ ap (put (record_head kind number vif code at ++ zeros 112) 16) regs
    ∙ put_after (record_head kind number vif code at) (regs_bytes saved) 16 112 refl (omega arith)
    ∙ ap (λ (n : ℕ). record_head kind number vif code at ++ (regs_bytes saved ++ zeros (112 - n))) long

pub sim_packed : (r : Record) (call : Call) (saved : Regs) (vif : Bool) (at : FarPtr) (kind number : ℕ) (a b h rs : List ℕ) →
    r ≡ Sim call saved vif at → kind ≡ call_kind call → number ≡ call_number call → h ≡ record_head kind number vif 0 at →
    rs ≡ regs_bytes saved → a ≡ put blank_row 0 h → b ≡ put a 16 rs → b ≡ record_bytes r
unfolding record_bytes
sim_packed r call saved vif at kind number a b h rs is kinds numbers head regs one two =
    two ∙ ap (λ (x : List ℕ). put x 16 rs) one ∙ both_put kind number vif 0 at saved h rs head regs
    ∙ ap (λ (k : ℕ). record_head k number vif 0 at ++ (regs_bytes saved ++ zeros 62)) kinds
    ∙ ap (λ (n : ℕ). record_head (call_kind call) n vif 0 at ++ (regs_bytes saved ++ zeros 62)) numbers
    ∙ ap record_bytes (sym is)

pub back_packed : (r : Record) (slot : ℕ) (at : FarPtr) (a h : List ℕ) → r ≡ Back slot at → h ≡ record_head 5 slot false 0 at →
    a ≡ put blank_row 0 h → a ≡ record_bytes r
unfolding record_bytes
back_packed r slot at a h is head one = one ∙ head_put 5 slot false 0 at h head ∙ ap record_bytes (sym is)

pub exc_packed : (r : Record) (number code : ℕ) (a h : List ℕ) → r ≡ Exc number code → h ≡ record_head 6 number false code null_pointer →
    a ≡ put blank_row 0 h → a ≡ record_bytes r
unfolding record_bytes
exc_packed r number code a h is head one = one ∙ head_put 6 number false code null_pointer h head ∙ ap record_bytes (sym is)

-- ---- records

abbrev pub FlagsTrip : Type 0
FlagsTrip = (f : Flags) (interrupt : Bool) → flags_of_image (flags_image f interrupt) ≡ f

flag_back : (vif : Bool) → not (nat_eq (cond vif 1 0) 0) ≡ vif
flag_back true = refl
flag_back false = refl

-- the registers, after sixteen bytes
regs_back : FlagsTrip → (kind number code : ℕ) (vif : Bool) (at : FarPtr) (r : Regs) (rest : List ℕ) →
    regs_at (record_head kind number vif code at ++ regs_bytes r ++ rest) 16 ≡ r
unfolding regs_at regs_bytes dword
regs_back trip kind number code vif at r rest =
    rw (
      dword_sum r.eax,
      dword_sum r.ecx,
      dword_sum r.edx,
      dword_sum r.ebx,
      dword_sum r.esp,
      dword_sum r.ebp,
      dword_sum r.esi,
      dword_sum r.edi,
      dword_sum r.eip,
      word_back (flags_image r.flags false),
      word_back r.es,
      word_back r.cs,
      word_back r.ss,
      word_back r.ds,
      word_back r.fs,
      word_back r.gs,
      trip r.flags false,
    ) refl

-- so is the whole record
sim_back : FlagsTrip → (call : Call) (saved : Regs) (vif : Bool) (at : FarPtr) →
    record_at (record_bytes (Sim call saved vif at)) 0 ≡ Sim call saved vif at
unfolding record_at record_bytes dword
sim_back trip (Int n) saved vif at =
    rw (regs_back trip 1 n 0 vif at saved (zeros 62), flag_back vif, dword_sum at.off, word_back at.sel) refl
sim_back trip Far saved vif at = rw (regs_back trip 2 0 0 vif at saved (zeros 62), flag_back vif, dword_sum at.off, word_back at.sel) refl
sim_back trip Iret saved vif at = rw (regs_back trip 3 0 0 vif at saved (zeros 62), flag_back vif, dword_sum at.off, word_back at.sel) refl
sim_back trip (Reflect n) saved vif at =
    rw (regs_back trip 4 n 0 vif at saved (zeros 62), flag_back vif, dword_sum at.off, word_back at.sel) refl

other_back : (slot : ℕ) (at : FarPtr) → record_at (record_bytes (Back slot at)) 0 ≡ Back slot at
unfolding record_at record_bytes dword
other_back slot at = rw (dword_sum at.off, word_back at.sel) refl

exc_back : (number code : ℕ) → record_at (record_bytes (Exc number code)) 0 ≡ Exc number code
unfolding record_at record_bytes dword
exc_back number code = rw (dword_sum code) refl

pub record_back : FlagsTrip → (r : Record) → record_at (record_bytes r) 0 ≡ r
record_back trip (Sim call saved vif at) = sim_back trip call saved vif at
record_back trip (Back slot at) = other_back slot at
record_back trip (Exc number code) = exc_back number code

pub exact_bytes : FlagsTrip → (r : Record) (bytes : List ℕ) → bytes ≡ record_bytes r → record_bytes (record_at bytes 0) ≡ bytes
exact_bytes trip r bytes is = ap (λ (b : List ℕ). record_bytes (record_at b 0)) is ∙ ap record_bytes (record_back trip r) ∙ sym is

pub read_bytes : FlagsTrip → (r : Record) (bytes : List ℕ) → bytes ≡ record_bytes r → record_at bytes 0 ≡ r
read_bytes trip r bytes is = ap (λ (b : List ℕ). record_at b 0) is ∙ record_back trip r

pub length-record_bytes : (r : Record) → length (record_bytes r) ≡ record_size
unfolding record_bytes regs_bytes
length-record_bytes (Sim call saved vif at) = let rest = length-zeros 62 in omega arith
length-record_bytes (Back slot at) = let rest = length-zeros 112 in omega arith
length-record_bytes (Exc number code) = let rest = length-zeros 112 in omega arith

-- the records but for the innermost one
abbrev pub but_last : List Record → List Record
but_last calls = take (length calls - 1) calls

last_is : (x : Record) (xs : List Record) (r : Record) → slice_get (x ∷ xs) (length xs) ≡ Some r →
    x ∷ xs ≡ take (length xs) (x ∷ xs) ++ r ∷ []
last_is x [] r e = let same : x ≡ r = cc in rw same refl
last_is x (y ∷ xs) r e = ap (λ (ys : List Record). x ∷ ys) (last_is y xs r e)

pub split_last : (calls : List Record) (r : Record) → slice_get calls (length calls - 1) ≡ Some r → calls ≡ but_last calls ++ r ∷ []
split_last [] r e = absurd cc
split_last (x ∷ xs) r e =
    let less : length (x ∷ xs) - 1 ≡ length xs = omega arith in
    last_is x xs r (ap (slice_get (x ∷ xs)) (sym less) ∙ e) ∙ ap (λ (n : ℕ). take n (x ∷ xs) ++ r ∷ []) (sym less)
