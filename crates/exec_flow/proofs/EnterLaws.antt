-- What ENTER reads, one by one, and what it accesses.
use Rattle.std.proofs.Common.{◌≡◌, ℕ, suc, ◌+◌, refl, Ok, Err, ◌≢◌, zero, ◌-◌, ◌%◌, ◌<◌, ◌≤◌, List, ap, sym, ◌∙◌, None, Some, arith}
use Rattle.std.proofs.lemmas.Bool.Decides.{nat_tests}
use Rattle.client_world.specs.{declared.faults.Event.{Event}, declared.segments.SegReg.TheVariants.{Ss}, World.{World}}
use Rattle.exec_flow.specs.{Frames.{saved_frame, push_saved_frames, with_new_frame, enter}, EnterAccesses.{frame_input, frame_reads}}
use Rattle.exec_flow.specs.{EnterAccesses.{and_pushes}, Transfers.{immediate}}
use Rattle.guest_space.specs.Pending.{byte_count}
use Rattle.insn_forms.specs.declared.insn.Insn.{Insn}
use Rattle.insn_plan.specs.{Act.{Act, Read, From, Input, Pending, value_of, done, unchanged}, Plan.{plan_result}}
use Rattle.insn_plan.specs.{Stack.{with_pushed_number, stack_pointer}, declared.accesses.Access.{Access}, Accesses.{accesses_after}}
use Rattle.insn_plan.specs.{Accesses.{and_read, and_push, and_writes, esp_down}, Registers.{register}}
use Rattle.std.specs.{Prelude.{Bool, true, false, nat_eq, if◌then◌else◌}, declared.option.Option.{Option}, declared.result.Result.{Result}}
use Rattle.insn_plan.proofs.AccessLists.{pushed_accesses, pushed_esp}

pub planned_read : (w : World) (input : Input) (rest : ℕ → Act) (v : ℕ) → value_of w input ≡ Ok v →
    plan_result w (Read input rest) ≡ plan_result w (rest v)
planned_read w input rest v e = rw (plan_result, e) refl

planned_read_err : (w : World) (input : Input) (rest : ℕ → Act) (event : Event) → value_of w input ≡ Err event →
    plan_result w (Read input rest) ≡ Err event
planned_read_err w input rest event e = rw (plan_result, e) refl

-- a level whose frame pointer is read
pub frames_next : (w : World) (i : Insn) (level n : ℕ) (p : Pending) (rest : Pending → Act) (v : ℕ) →
    value_of w (From Ss (saved_frame w i level) (byte_count i.width)) ≡ Ok v → plan_result w (push_saved_frames w i level (suc n) p rest)
    ≡ plan_result w (push_saved_frames w i (level + 1) n (with_pushed_number w i.width v p) rest)
unfolding push_saved_frames
frames_next w i level n p rest v e = planned_read w _ _ v e

-- one whose frame pointer isn't there
pub frames_stop : (w : World) (i : Insn) (level n : ℕ) (p : Pending) (rest : Pending → Act) (event : Event) →
    value_of w (From Ss (saved_frame w i level) (byte_count i.width)) ≡ Err event →
    plan_result w (push_saved_frames w i level (suc n) p rest) ≡ Err event
unfolding push_saved_frames
frames_stop w i level n p rest event e = planned_read_err w _ _ event e

-- no level is left
pub frames_end : (w : World) (i : Insn) (level : ℕ) (p : Pending) (rest : Pending → Act) →
    plan_result w (push_saved_frames w i level 0 p rest) ≡ plan_result w (rest p)
unfolding push_saved_frames
frames_end w i level p rest = refl

-- ---- the loops

pub pushes_none : (w : World) (width esp : ℕ) (list : List Access) → and_pushes w width 0 esp list ≡ list
unfolding and_pushes
pushes_none w width esp list = refl

pub pushes_next : (w : World) (width n esp : ℕ) (list : List Access) →
    and_pushes w width (suc n) esp list ≡ and_pushes w width n (esp_down w width esp) (and_push w width esp list)
unfolding and_pushes
pushes_next w width n esp list = refl

pub reads_none : (w : World) (i : Insn) (level : ℕ) (list : List Access) → frame_reads w i level 0 list ≡ Some list
unfolding frame_reads
reads_none w i level list = refl

pub reads_next : (w : World) (i : Insn) (level n v : ℕ) (list : List Access) → value_of w (frame_input w i level) ≡ Ok v →
    frame_reads w i level (suc n) list ≡ frame_reads w i (level + 1) n (and_read list (frame_input w i level))
unfolding frame_reads
reads_next w i level n v list e = rw (frame_reads, e) refl

pub reads_stop : (w : World) (i : Insn) (level n : ℕ) (event : Event) (list : List Access) →
    value_of w (frame_input w i level) ≡ Err event → frame_reads w i level (suc n) list ≡ None
unfolding frame_reads
reads_stop w i level n event list e = rw (frame_reads, e) refl

pub pushes_left : (w : World) (width n k esp : ℕ) (list : List Access) → k < n →
    and_pushes w width (n - k) esp list ≡ and_pushes w width (n - (k + 1)) (esp_down w width esp) (and_push w width esp list)
pushes_left w width n k esp list less =
    let left : n - k ≡ suc (n - (k + 1)) = omega arith in
    ap (λ (m : ℕ). and_pushes w width m esp list) left ∙ pushes_next w width (n - (k + 1)) esp list

pub pushes_done : (w : World) (width n k esp : ℕ) (list : List Access) → n ≤ k → and_pushes w width (n - k) esp list ≡ list
pushes_done w width n k esp list less =
    let none : n - k ≡ 0 = omega arith in
    ap (λ (m : ℕ). and_pushes w width m esp list) none ∙ pushes_none w width esp list

pub reads_left : (w : World) (i : Insn) (level n k v : ℕ) (list : List Access) → k < n → value_of w (frame_input w i level) ≡ Ok v →
    frame_reads w i level (n - k) list ≡ frame_reads w i (level + 1) (n - (k + 1)) (and_read list (frame_input w i level))
reads_left w i level n k v list less e =
    let left : n - k ≡ suc (n - (k + 1)) = omega arith in
    ap (λ (m : ℕ). frame_reads w i level m list) left ∙ reads_next w i level (n - (k + 1)) v list e

pub reads_refused : (w : World) (i : Insn) (level n k : ℕ) (event : Event) (list : List Access) → k < n →
    value_of w (frame_input w i level) ≡ Err event → frame_reads w i level (n - k) list ≡ None
reads_refused w i level n k event list less e =
    let left : n - k ≡ suc (n - (k + 1)) = omega arith in
    ap (λ (m : ℕ). frame_reads w i level m list) left ∙ reads_stop w i level (n - (k + 1)) event list e

pub reads_done : (w : World) (i : Insn) (level n k : ℕ) (list : List Access) → n ≤ k → frame_reads w i level (n - k) list ≡ Some list
reads_done w i level n k list less =
    let none : n - k ≡ 0 = omega arith in
    ap (λ (m : ℕ). frame_reads w i level m list) none ∙ reads_none w i level list

-- ---- what follows the reads

-- the accesses of what is pushed, after those reads that are known
abbrev with_pushes : World → ℕ → ℕ → Pending → Option (List Access) → Option (List Access)
with_pushes w width n p None = None
with_pushes w width n p (Some list) = Some (and_pushes w width n p.regs.esp (and_writes list p.writes))

-- the frame's own place is pushed, and the frame is there
abbrev frame_end : World → Insn → ℕ → Pending → Act
frame_end w i frame q = done (with_new_frame w i frame (with_pushed_number w i.width frame q))

one_push : (w : World) (width v : ℕ) (p : Pending) (n : ℕ) (read : Option (List Access)) →
    with_pushes w width n (with_pushed_number w width v p) read ≡ with_pushes w width (suc n) p read
unfolding and_pushes
one_push w width v p n None = refl
one_push w width v p n (Some list) =
    ap (λ (esp : ℕ). Some (and_pushes w width n esp (and_writes list (with_pushed_number w width v p).writes))) (pushed_esp w width v p)
    ∙ ap (λ (all : List Access). Some (and_pushes w width n (esp_down w width p.regs.esp) all)) (pushed_accesses list w width v p)

by_value : (r : Result ℕ Event) (f : ℕ → Option (List Access)) (g : Option (List Access))
    (h : Option (List Access) → Option (List Access)) →
    h None ≡ None → ((v : ℕ) → f v ≡ h g) → elim r [ Ok v ↦ f v | Err e ↦ None ] ≡ h (elim r [ Ok v ↦ g | Err e ↦ None ])
by_value (Ok v) f g h none some = some v
by_value (Err e) f g h none some = sym none

frames_follow : (w : World) (i : Insn) (frame level n : ℕ) (p : Pending) (list : List Access) →
    accesses_after w list (push_saved_frames w i level n p (frame_end w i frame))
    ≡ with_pushes w i.width (suc n) p (frame_reads w i level n list)
unfolding accesses_after push_saved_frames frame_reads with_new_frame and_pushes
frames_follow w i frame level zero p list = ap (λ (all : List Access). Some all) (pushed_accesses list w i.width frame p)
frames_follow w i frame level (suc n) p list =
    let input = frame_input w i level in
    let read = frame_reads w i (level + 1) n (and_read list input) in
    by_value (value_of w input)
    (λ (v : ℕ). accesses_after w (and_read list input)
    (push_saved_frames w i (level + 1) n (with_pushed_number w i.width v p) (frame_end w i frame)))
    read
    (with_pushes w i.width (suc (suc n)) p) refl
    (λ (v : ℕ). frames_follow w i frame (level + 1) n (with_pushed_number w i.width v p) (and_read list input)
    ∙ one_push w i.width v p (suc n) read)

-- ---- ENTER

-- its first push
abbrev base_pushed : World → Insn → Pending
base_pushed w i = with_pushed_number w i.width (register w.regs i.width 5) (unchanged w)

abbrev level_of : Insn → ℕ
level_of i = immediate i.second % 32

by_level : (c : Bool) (a b : Act) → c ≡ true → (if c then a else b) ≡ a
by_level c a b e = rw e refl

no_zero : (m n : ℕ) → m ≡ suc n → nat_eq m 0 ≡ false
no_zero m n e = grind (arith, nat_tests)

by_no_level : (c : Bool) (a b : Act) → c ≡ false → (if c then a else b) ≡ b
by_no_level c a b e = rw e refl

base_pushes : (w : World) (i : Insn) (n : ℕ) (read : Option (List Access)) →
    with_pushes w i.width n (base_pushed w i) read ≡ with_pushes w i.width (suc n) (unchanged w) read
base_pushes w i n read = one_push w i.width (register w.regs i.width 5) (unchanged w) n read

pub enter_plain : (w : World) (i : Insn) (list : List Access) → level_of i ≡ 0 →
    accesses_after w list (enter w i) ≡ Some (and_pushes w i.width 1 w.regs.esp list)
unfolding accesses_after enter with_new_frame and_pushes
enter_plain w i list e =
    ap (accesses_after w list) (by_level (nat_eq (level_of i) 0) _ _ (rw e refl))
    ∙ ap (λ (all : List Access). Some all) (pushed_accesses list w i.width (register w.regs i.width 5) (unchanged w))

enter_levels : (w : World) (i : Insn) (list : List Access) (n : ℕ) → level_of i ≡ suc n →
    accesses_after w list (enter w i) ≡ with_pushes w i.width (suc (suc n)) (unchanged w) (frame_reads w i 1 n list)
unfolding enter
enter_levels w i list n e =
    let frame = stack_pointer w (base_pushed w i).regs in
    let less : level_of i - 1 ≡ n = omega arith in
    ap (accesses_after w list) (by_no_level (nat_eq (level_of i) 0) _ _ (no_zero (level_of i) n e))
    ∙ ap (λ (m : ℕ). accesses_after w list (push_saved_frames w i 1 m (base_pushed w i) (frame_end w i frame))) less
    ∙ frames_follow w i frame 1 n (base_pushed w i) list
    ∙ base_pushes w i (suc n) (frame_reads w i 1 n list)

pub enter_read : (w : World) (i : Insn) (list read : List Access) (level : ℕ) → level_of i ≡ level → level ≢ 0 →
    frame_reads w i 1 (level - 1) list ≡ Some read →
    accesses_after w list (enter w i) ≡ Some (and_pushes w i.width (level + 1) w.regs.esp read)
enter_read w i list read level e some r =
    let next : level ≡ suc (level - 1) = omega arith in
    let count : suc (suc (level - 1)) ≡ level + 1 = omega arith in
    enter_levels w i list (level - 1) (e ∙ next)
    ∙ ap (with_pushes w i.width (suc (suc (level - 1))) (unchanged w)) r
    ∙ ap (λ (m : ℕ). Some (and_pushes w i.width m w.regs.esp read)) count

pub enter_fault : (w : World) (i : Insn) (list : List Access) (level : ℕ) → level_of i ≡ level → level ≢ 0 →
    frame_reads w i 1 (level - 1) list ≡ None → accesses_after w list (enter w i) ≡ None
enter_fault w i list level e some r =
    let next : level ≡ suc (level - 1) = omega arith in
    enter_levels w i list (level - 1) (e ∙ next)
    ∙ ap (with_pushes w i.width (suc (suc (level - 1))) (unchanged w)) r
