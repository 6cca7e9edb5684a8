-- An instruction has touches exactly where it is no event; those that write have the places that it writes.
use Rattle.std.proofs.Common.{◌≡◌, ℕ, List, [], ◌∷◌, ◌++◌, refl, ap, sym, ◌∙◌, subst, Option, None, Some, Result, Ok, Err, Bool, false}
use Rattle.std.proofs.Common.{append_assoc, append-nil, if◌then◌else◌}
use Rattle.std.specs.Prelude.{IsErr, IsOk, is_err, is_ok}
use Rattle.client_world.specs.{declared.faults.Event.{Event}, declared.faults.Fault.{Fault}, World.{World}}
use Rattle.client_world.specs.{declared.watchpoints.Touch.{Touch}, declared.place.Place.{Place}, Access.{places_from}}
use Rattle.guest_space.specs.{declared.pending.Write.{Write}, Pending.{first_write_fault, write_fault, after_writes, places_of_writes}}
use Rattle.host_memory.specs.View.{MachineView}
use Rattle.insn_plan.proofs.WrittenState.{unless, settled_unless}
use Rattle.insn_plan.specs.{declared.accesses.Access.{Access}, Accesses.{and_read, and_writes, accesses_after, touch_of_access, touch_of}}
use Rattle.insn_plan.specs.{Accesses.{touches_after, touches_where, touches}, Act.{Act, End, Read, Done, Raise, Interrupt, Input, Given}}
use Rattle.insn_plan.specs.{Act.{From, Pending, value_of}, Plan.{plan_result, after_plan, after_commit, with_state}}
use Rattle.cpu_step.proofs.Joined.{AllGranted, IsGranted, access_of, are_written, granted_front, value_granted, known, known_touches}
use Rattle.cpu_step.proofs.Joined.{access_places, first_by, follow_by, granted_touch}
use Rattle.cpu_step.specs.Touched.{written_touch_places}

granted_back : (w : World) (front back : List Access) → AllGranted w front → AllGranted w back → AllGranted w (front ++ back)
granted_back w [] back f b = b
granted_back w (a ∷ front) back f b = (f.0, granted_back w front back f.1 b)

read_granted : (w : World) (done : List Access) (input : Input) (v : ℕ) → value_of w input ≡ Ok v → AllGranted w done →
    AllGranted w (and_read done input)
read_granted w done (Given x) v e all = all
read_granted w done (From seg off n) v e all = granted_back w done _ all (value_granted w seg off n v e, tt)

-- ---- an instruction that is an event

after_event : (r : Result ℕ Event) (w : World) (done : List Access) (rest : ℕ → Act) (event : Event) →
    ((v : ℕ) → plan_result w (rest v) ≡ Err event → accesses_after w done (rest v) ≡ None) →
    elim r as (λ _. Result Pending Event) [ Ok v ↦ plan_result w (rest v) | Err e ↦ Err e ] ≡ Err event →
    elim r as (λ _. Option (List Access)) [ Ok v ↦ accesses_after w done (rest v) | Err e ↦ None ] ≡ None
after_event (Ok v) w done rest event h e = h v e
after_event (Err other) w done rest event h e = refl

event_none : (w : World) (done : List Access) (act : Act) (event : Event) → plan_result w act ≡ Err event → accesses_after w done act ≡ None
unfolding accesses_after
event_none w done (End (Done p)) event e = absurd cc
event_none w done (End (Raise f)) event e = refl
event_none w done (End (Interrupt number len)) event e = refl
event_none w done (Read input rest) event e =
    after_event (value_of w input) w (and_read done input) rest event (λ v. event_none w (and_read done input) (rest v) event) e

-- ---- one that isn't

record Reads (w : World) (done : List Access) (act : Act) (p : Pending) : Type 0 where
  reads : List Access
  follow : accesses_after w done act ≡ Some (and_writes reads p.writes)
  granted : AllGranted w done → AllGranted w reads

record Value (w : World) (r : Result ℕ Event) (rest : ℕ → Act) (p : Pending) : Type 0 where
  value : ℕ
  is : r ≡ Ok value
  others : plan_result w (rest value) ≡ Ok p

value_by : (w : World) (r : Result ℕ Event) (rest : ℕ → Act) (p : Pending) →
    elim r as (λ _. Result Pending Event) [ Ok v ↦ plan_result w (rest v) | Err e ↦ Err e ] ≡ Ok p → Value w r rest p
value_by w (Ok v) rest p e = record { value = v; is = refl; others = e }
value_by w (Err event) rest p e = absurd cc

reads_of : (w : World) (done : List Access) (act : Act) (p : Pending) → plan_result w act ≡ Ok p → Reads w done act p
unfolding accesses_after
reads_of w done (End (Done q)) p e =
    let same : q ≡ p = cc in
    record { reads = done; follow = ap (λ (x : Pending). Some (and_writes done x.writes)) same; granted = λ all. all }
reads_of w done (End (Raise f)) p e = absurd cc
reads_of w done (End (Interrupt number len)) p e = absurd cc
reads_of w done (Read input rest) p e =
    let found = value_by w (value_of w input) rest p e in
    let others = reads_of w (and_read done input) (rest found.value) p found.others in
    record {
      reads = others.reads;
      follow = ap (λ (r : Result ℕ Event).
          elim r as (λ _. Option (List Access)) [ Ok v ↦ accesses_after w (and_read done input) (rest v) | Err x ↦ None ]) found.is
          ∙ others.follow;
      granted = λ all. others.granted (read_granted w done input found.value found.is all);
    }

-- ---- its writes

no_refusal : (o : Option Fault) (more : Option Fault) → elim o as (λ _. Option Fault) [ Some f ↦ Some f | None ↦ more ] ≡ None →
    (o ≡ None) × (more ≡ None)
no_refusal None more e = (refl, e)
no_refusal (Some f) more e = absurd cc

writes_granted : (w : World) (done : List Access) (xs : List Write) → first_write_fault w xs ≡ None → AllGranted w done →
    AllGranted w (and_writes done xs)
unfolding first_write_fault write_fault
writes_granted w done [] e all = all
writes_granted w done (x ∷ xs) e all =
    let parts = no_refusal (write_fault w x) (first_write_fault w xs) e in
    writes_granted w (done ++ access_of x ∷ []) xs parts.1 (granted_back w done (access_of x ∷ []) all (parts.0, tt))

none_refused : (w : World) (done : List Access) (xs : List Write) → AllGranted w (and_writes done xs) → first_write_fault w xs ≡ None
unfolding first_write_fault write_fault
none_refused w done [] all = refl
none_refused w done (x ∷ xs) all =
    let a = access_of x in
    let parts = granted_front w done (a ∷ []) (are_written w (done ++ a ∷ []) xs all).before in
    ap (λ (o : Option Fault). elim o as (λ _. Option Fault) [ Some f ↦ Some f | None ↦ first_write_fault w xs ]) parts.1.0
    ∙ none_refused w (done ++ a ∷ []) xs all

granted_some : (w : World) (a : Access) → IsGranted w a → touch_of_access w a ≡ Some (touch_of w a)
unfolding touch_of_access
granted_some w a e = ap (λ (o : Option Fault). elim o as (λ _. Option Touch) [ None ↦ Some (touch_of w a) | Some f ↦ None ]) e

not_none : (w : World) (done : List Touch) (all : List Access) → AllGranted w all → ¬ (touches_after w done all ≡ None)
unfolding touches_after
not_none w done [] all e = absurd cc
not_none w done (a ∷ rest) all e =
    let first = ap (λ (o : Option Touch).
    elim o as (λ _. Option (List Touch)) [ Some t ↦ touches_after w (done ++ t ∷ []) rest | None ↦ None ]) (granted_some w a all.0) in
    not_none w (done ++ touch_of w a ∷ []) rest all.1 (sym first ∙ e)

-- ---- what it comes to

committed_ok : (v : MachineView) (p : Pending) → first_write_fault v.world p.writes ≡ None → IsOk (after_commit v p)
committed_ok v p e =
    ap (λ (r : Result MachineView Event). is_ok r)
    (settled_unless v p ∙ ap (λ (o : Option Fault). unless o (with_state p.regs p.vif (after_writes v p.writes))) e)

committed_err : (v : MachineView) (p : Pending) (f : Fault) → first_write_fault v.world p.writes ≡ Some f → IsErr (after_commit v p)
committed_err v p f e =
    ap (λ (r : Result MachineView Event). is_err r)
    (settled_unless v p ∙ ap (λ (o : Option Fault). unless o (with_state p.regs p.vif (after_writes v p.writes))) e)

some_or_none : (list : List Touch) → ¬ (Some list ≡ None)
some_or_none list e = absurd cc

-- without touches
refused : (v : MachineView) (act : Act) (p : Pending) (o : Option Fault) → first_write_fault v.world p.writes ≡ o → Reads v.world [] act p →
    touches v.world act ≡ None → IsErr (after_commit v p)
unfolding touches
refused v act p (Some f) is reads e = committed_err v p f is
refused v act p None is reads e =
    absurd (not_none v.world [] (and_writes reads.reads p.writes) (writes_granted v.world reads.reads p.writes is (reads.granted tt))
    (ap (touches_where v.world) (sym reads.follow) ∙ e))

untouched_by : (v : MachineView) (act : Act) (r : Result Pending Event) → plan_result v.world act ≡ r → touches v.world act ≡ None →
    IsErr (after_plan v r)
unfolding after_plan
untouched_by v act (Err event) is e = refl
untouched_by v act (Ok p) is e = refused v act p (first_write_fault v.world p.writes) refl (reads_of v.world [] act p is) e

pub untouched : (v : MachineView) (act : Act) → touches v.world act ≡ None → IsErr (after_plan v (plan_result v.world act))
untouched v act e = untouched_by v act (plan_result v.world act) refl e

-- with touches
touched_by : (v : MachineView) (act : Act) (list : List Touch) (r : Result Pending Event) → plan_result v.world act ≡ r →
    touches v.world act ≡ Some list → IsOk (after_plan v r)
unfolding after_plan touches
touched_by v act list (Err event) is e =
    absurd (some_or_none list (sym e ∙ ap (touches_where v.world) (event_none v.world [] act event is)))
touched_by v act list (Ok p) is e =
    let k = known v.world act list e in
    let reads = reads_of v.world [] act p is in
    let same : k.accesses ≡ and_writes reads.reads p.writes = cc (k.follow, reads.follow) in
    let all = subst (λ (all : List Access). AllGranted v.world all) same (known_touches v.world act list k).granted in
    committed_ok v p (none_refused v.world reads.reads p.writes all)

pub has_touches : (v : MachineView) (act : Act) (list : List Touch) → touches v.world act ≡ Some list →
    IsOk (after_plan v (plan_result v.world act))
has_touches v act list e = touched_by v act list (plan_result v.world act) refl e

-- ---- touches that write

-- the places of those accesses that write
abbrev written_access_places : World → List Access → List Place
written_access_places w [] = []
written_access_places w (a ∷ rest) = (if a.write then access_places w a else []) ++ written_access_places w rest

touches_append : (w : World) (front back : List Touch) →
    written_touch_places w (front ++ back) ≡ written_touch_places w front ++ written_touch_places w back
touches_append w [] back = refl
touches_append w (t ∷ front) back =
    let head = if t.write then places_from w.blocks t.lin t.len else [] in
    ap (λ (places : List Place). head ++ places) (touches_append w front back)
    ∙ sym (append_assoc head (written_touch_places w front) (written_touch_places w back))

accesses_append : (w : World) (front back : List Access) →
    written_access_places w (front ++ back) ≡ written_access_places w front ++ written_access_places w back
accesses_append w [] back = refl
accesses_append w (a ∷ front) back =
    let head = if a.write then access_places w a else [] in
    ap (λ (places : List Place). head ++ places) (accesses_append w front back)
    ∙ sym (append_assoc head (written_access_places w front) (written_access_places w back))

same_if : (c d : Bool) (xs ys : List Place) → c ≡ d → xs ≡ ys → (if c then xs else []) ≡ (if d then ys else [])
same_if c d xs ys e f = cc

of_accesses : (w : World) (done : List Touch) (accesses : List Access) (list : List Touch) → touches_after w done accesses ≡ Some list →
    written_touch_places w list ≡ written_touch_places w done ++ written_access_places w accesses
unfolding touches_after
of_accesses w done [] list e =
    let same : done ≡ list = cc in
    ap (written_touch_places w) (sym same) ∙ sym (append-nil (written_touch_places w done))
of_accesses w done (a ∷ rest) list e =
    let first = first_by (touch_of_access w a) w done a rest list refl e in
    let t = first.touch in
    let touch = granted_touch w a t first.is in
    let run = if t.write then places_from w.blocks t.lin t.len else [] in
    let head = if a.write then access_places w a else [] in
    let one : run ≡ head = same_if t.write a.write (places_from w.blocks t.lin t.len) (access_places w a) touch.flag touch.places in
    of_accesses w (done ++ t ∷ []) rest list first.others
    ∙ ap (λ (places : List Place). places ++ written_access_places w rest)
    (touches_append w done (t ∷ []) ∙ ap (λ (places : List Place). written_touch_places w done ++ places) (append-nil run ∙ one))
    ∙ append_assoc (written_touch_places w done) head (written_access_places w rest)

of_writes : (w : World) (done : List Access) (xs : List Write) →
    written_access_places w (and_writes done xs) ≡ written_access_places w done ++ places_of_writes w xs
of_writes w done [] = sym (append-nil (written_access_places w done))
of_writes w done (x ∷ xs) =
    let a = access_of x in
    of_writes w (done ++ a ∷ []) xs
    ∙ ap (λ (places : List Place). places ++ places_of_writes w xs)
    (accesses_append w done (a ∷ [])
    ∙ ap (λ (places : List Place). written_access_places w done ++ places) (append-nil (access_places w a)))
    ∙ append_assoc (written_access_places w done) (access_places w a) (places_of_writes w xs)

-- a read adds none
of_read : (w : World) (done : List Access) (input : Input) → written_access_places w (and_read done input) ≡ written_access_places w done
of_read w done (Given v) = refl
of_read w done (From seg off n) =
    accesses_append w done (record { seg = seg; off = off; count = n; write = false } ∷ [])
    ∙ append-nil (written_access_places w done)

after_value : (w : World) (r : Result ℕ Event) (rest : ℕ → Act) (v : ℕ) (p : Pending) → r ≡ Ok v →
    elim r as (λ _. Result Pending Event) [ Ok x ↦ plan_result w (rest x) | Err e ↦ Err e ] ≡ Ok p → plan_result w (rest v) ≡ Ok p
after_value w (Ok x) rest v p is e = let same : x ≡ v = cc in subst (λ (y : ℕ). plan_result w (rest y) ≡ Ok p) same e
after_value w (Err event) rest v p is e = absurd cc

of_act : (w : World) (done : List Access) (act : Act) (p : Pending) (all : List Access) → accesses_after w done act ≡ Some all →
    plan_result w act ≡ Ok p → written_access_places w all ≡ written_access_places w done ++ places_of_writes w p.writes
unfolding accesses_after
of_act w done (End (Done q)) p all follow e =
    let same : and_writes done q.writes ≡ all = cc in
    let pending : q ≡ p = cc in
    ap (written_access_places w) (sym same) ∙ of_writes w done q.writes
    ∙ ap (λ (x : Pending). written_access_places w done ++ places_of_writes w x.writes) pending
of_act w done (End (Raise f)) p all follow e = absurd cc
of_act w done (End (Interrupt number len)) p all follow e = absurd cc
of_act w done (Read input rest) p all follow e =
    let found = follow_by (value_of w input) w done input rest all refl follow in
    of_act w (and_read done input) (rest found.value) p all found.others (after_value w (value_of w input) rest found.value p found.is e)
    ∙ ap (λ (places : List Place). places ++ places_of_writes w p.writes) (of_read w done input)

pub written_touches_are : (w : World) (act : Act) (p : Pending) (list : List Touch) → touches w act ≡ Some list →
    plan_result w act ≡ Ok p → written_touch_places w list ≡ places_of_writes w p.writes
written_touches_are w act p list e done =
    let k = known w act list e in
    of_accesses w [] k.accesses list k.touch ∙ of_act w [] act p k.accesses k.follow done
