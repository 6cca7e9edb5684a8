-- What an instruction accesses: the bytes that it reads, one access after another, and then those that it writes. And the same bytes as
-- runs of linear addresses, which watchpoints are compared with. Source: own.
use Rattle.std.specs.Prelude.{◌≡◌, MatchResult, ℕ, ◌+◌, ◌-◌, ◌%◌, ◌<◌, ◌^◌, Bool, true, false, List, [], ◌∷◌, ◌++◌, Ok, Err, None, Some}
use Rattle.std.specs.{declared.option.Option.{Option}, declared.result.Result.{Result}}
use Rattle.client_world.specs.{declared.faults.Event.{Event}, declared.registers.Regs.{Regs}, declared.segments.SegReg.TheVariants.{Ss}}
use Rattle.client_world.specs.{Access.{linear}, Segments.{selector}, World.{World}, declared.watchpoints.Touch.{Touch}}
use Rattle.guest_space.specs.{declared.pending.Write.{Write}, Pending.{byte_count}, SegmentRows.{first_byte}, Transfer.{access_fault}}
use Rattle.insn_forms.specs.{declared.insn.Operand.{Operand}, declared.insn.Operand.TheVariants.{Mem}}
use Rattle.insn_plan.specs.{declared.accesses.Access.{Access}, Act.{Act, End, Read, Done, Raise, Interrupt, Input, Given, From, value_of}}
use Rattle.insn_plan.specs.{Registers.{offset_of, cut_address, with_address}, Stack.{has_big_stack}}

-- the world with EIP past an instruction of `len` bytes
abbrev pub with_next_eip : ℕ → World → World
with_next_eip len w = record w { regs = record w.regs { eip = (w.regs.eip + len) % 2 ^ 32 } }

-- ---- accesses

-- some accesses, and then that of an input which is read
abbrev pub and_read : List Access → Input → List Access
and_read done (Given v) = done
and_read done (From seg off n) = done ++ record { seg = seg; off = off; count = n; write = false } ∷ []

-- some accesses, and then those of some writes
abbrev pub and_writes : List Access → List Write → List Access
and_writes done [] = done
and_writes done (x ∷ xs) = and_writes (done ++ record { seg = x.seg; off = x.off; count = byte_count x.width; write = true } ∷ []) xs

-- some accesses, and then those of an instruction; none where one of its reads faults, or it raises an exception or is a software interrupt
unfoldable pub accesses_after : World → List Access → Act → Option (List Access)
accesses_after w done (End (Done p)) = Some (and_writes done p.writes)
accesses_after w done (End (Raise f)) = None
accesses_after w done (End (Interrupt number len)) = None
accesses_after w done (Read input rest) =
    elim (value_of w input) [ Ok v ↦ accesses_after w (and_read done input) (rest v) | Err e ↦ None ]

-- ---- touches

-- the run of linear addresses of an access. They count modulo 2^32; those of an access without a fault don't wrap
abbrev pub touch_of : World → Access → Touch
touch_of w a = record {
  lin = linear (first_byte w.mode w.descriptors (selector w.regs a.seg) + a.off);
  len = a.count;
  write = a.write;
}

-- that of an access which has no fault
unfoldable pub touch_of_access : World → Access → Option Touch
touch_of_access w a = elim (access_fault w a.seg a.off a.count a.write) [ None ↦ Some (touch_of w a) | Some f ↦ None ]

-- some touches, and then those of some accesses; none where one of these has a fault
unfoldable pub touches_after : World → List Touch → List Access → Option (List Touch)
touches_after w done [] = Some done
touches_after w done (a ∷ rest) = elim (touch_of_access w a) [ Some touch ↦ touches_after w (done ++ touch ∷ []) rest | None ↦ None ]

-- those of accesses that are known
abbrev pub touches_where : World → Option (List Access) → Option (List Touch)
touches_where w None = None
touches_where w (Some done) = touches_after w [] done

-- those of an instruction, with EIP after it; none where the instruction is an event
unfoldable pub touches : World → Act → Option (List Touch)
touches w act = touches_where w (accesses_after w [] act)

-- ---- what is followed: the words of `Accesses`, which notes the accesses of a row one by one

-- the access is to one byte at least
abbrev pub HasBytes : Access → Type 0
HasBytes a = 0 < a.count

-- the world in which an instruction's accesses are followed, with EIP after it, and those so far
pub record Followed : Type 0 where
  pub world : World
  pub accesses : List Access

-- the accesses of what is put where an operand names, in memory at that width; its address is that of the registers r
unfoldable pub and_put : Regs → Bool → ℕ → Operand → List Access → List Access
and_put r addr32 width (Mem f) done =
    done ++ record { seg = f.seg; off = offset_of r addr32 f; count = byte_count width; write = true } ∷ []
and_put r addr32 width _ done = done

-- the stack pointer of an item of a width that is pushed at an ESP
abbrev pub pushed_pointer : World → ℕ → ℕ → ℕ
pushed_pointer w width esp =
    let big = has_big_stack w in
    cut_address big (cut_address big esp + 2 ^ 32 - byte_count width)

-- ESP after that
abbrev pub esp_down : World → ℕ → ℕ → ℕ
esp_down w width esp = with_address (has_big_stack w) esp (pushed_pointer w width esp)

-- and its access
abbrev pub and_push : World → ℕ → ℕ → List Access → List Access
and_push w width esp done =
    done ++ record { seg = Ss; off = pushed_pointer w width esp; count = byte_count width; write = true } ∷ []

-- a result, and the accesses after it, are those of an instruction
abbrev pub Notes : Followed → Followed → Result (Unit {0}) Event → Act → Type 0
Notes old new result act = MatchResult result
    (λ _. (new.world ≡ old.world) × (accesses_after old.world old.accesses act ≡ Some new.accesses))
    (λ e. accesses_after old.world old.accesses act ≡ None)
