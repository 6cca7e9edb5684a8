-- INT 31h functions 0B00h to 0B03h. A refusal returns its number in AX.
-- Source: DPMI 0.9, INT 31h functions 0B00h to 0B03h; that there are 16 watchpoints without debug registers is own.
use Rattle.std.specs.Prelude.{ℕ, ◌+◌, ◌-◌, ◌^◌, Bool, false, not, cond, ◌||◌, nat_eq, nat_lt, None, Some, if◌then◌else◌, slice_set}
use Rattle.std.specs.declared.option.Option.{Option}
use Rattle.client_world.specs.{declared.registers.Regs.{Regs}, declared.services.Carry.{Carry}, declared.services.Carry.TheVariants.{Clear}}
use Rattle.client_world.specs.{declared.services.Carry.TheVariants.{Set}, Registers.{high_byte, low_byte, low_half, with_low_half}}
use Rattle.client_world.specs.{Services.{two_words}, declared.watchpoints.Watch.{Watch}, declared.watchpoints.WatchKind.{WatchKind}}
use Rattle.client_world.specs.{declared.watchpoints.WatchKind.TheVariants.{Execute, Write, ReadOrWrite}, WatchWorld.{Watching}}
use Rattle.service_rows.specs.{declared.refusal.Refusal.{Refusal}, declared.refusal.Refusal.TheVariants.{HandleUnavailable, InvalidAddress}}
use Rattle.service_rows.specs.{declared.refusal.Refusal.TheVariants.{InvalidHandle, InvalidValue}, Reasons.{refusal_number}}
use Rattle.watch_run.specs.Watches.{watch_at, lowest_free}

-- what a function returns: the registers, the carry, and the watchpoints after it
pub record WatchAnswer : Type 0 where
  pub regs : Regs
  pub carry : Carry
  pub watching : Watching

-- it is done
abbrev pub watch_served : Regs → Watching → WatchAnswer
watch_served r w = record { regs = r; carry = Clear; watching = w }

-- it is refused: AX is the number of the refusal, and nothing else changes
abbrev pub watch_refused : Refusal → Regs → Watching → WatchAnswer
watch_refused refusal r w = record { regs = record r { eax = with_low_half r.eax (refusal_number refusal) }; carry = Set; watching = w }

-- the sizes of watchpoints
abbrev pub is_watch_size : ℕ → Bool
is_watch_size n = nat_eq n 1 || nat_eq n 2 || nat_eq n 4

-- what a number of a kind watches for; those above 2 are refused
abbrev pub watch_kind : ℕ → WatchKind
watch_kind n = if nat_eq n 0 then Execute else if nat_eq n 1 then Write else ReadOrWrite

-- the watchpoint that BX:CX, DL and DH describe
abbrev pub described_watch : Regs → Watch
described_watch r = record {
  at = two_words (low_half r.ebx) (low_half r.ecx);
  size = low_byte r.edx;
  kind = watch_kind (high_byte r.edx);
  hit = false;
}

-- the watchpoints with another one, or none, at a handle
abbrev pub with_watch : ℕ → Option Watch → Watching → Watching
with_watch handle watch w = record w { watches = slice_set w.watches (handle - 1) watch }

abbrev pub with_new_watch : Regs → Watching → Option ℕ → WatchAnswer
with_new_watch r w None = watch_refused HandleUnavailable r w
with_new_watch r w (Some handle) =
    watch_served (record r { ebx = with_low_half r.ebx handle }) (with_watch handle (Some (described_watch r)) w)

-- 0B00h: a watchpoint on DL bytes at BX:CX, of the kind DH; BX becomes its handle, the lowest that is free
unfoldable pub set_watch : Regs → Watching → WatchAnswer
set_watch r w =
    if not (is_watch_size (low_byte r.edx)) || nat_lt 2 (high_byte r.edx) then watch_refused InvalidValue r w else
    if nat_lt (2 ^ 32) ((described_watch r).at + low_byte r.edx) then watch_refused InvalidAddress r w else
    with_new_watch r w (lowest_free w.watches)

-- what is done to the watchpoint BX, if it is held
abbrev pub if_held : Regs → Watching → Option Watch → (Watch → WatchAnswer) → WatchAnswer
if_held r w None answer = watch_refused InvalidHandle r w
if_held r w (Some watch) answer = answer watch

abbrev pub watch_in_bx : Regs → Watching → Option Watch
watch_in_bx r w = watch_at w.watches (low_half r.ebx)

-- 0B01h: watchpoint BX is freed
unfoldable pub clear_watch : Regs → Watching → WatchAnswer
clear_watch r w = if_held r w (watch_in_bx r w) (λ watch. watch_served r (with_watch (low_half r.ebx) None w))

-- 0B02h: AX is 1 where it was hit since it was made or reset, else 0
unfoldable pub watch_state : Regs → Watching → WatchAnswer
watch_state r w = if_held r w (watch_in_bx r w) (λ watch. watch_served (record r { eax = with_low_half r.eax (cond watch.hit 1 0) }) w)

-- 0B03h: it counts as not hit
unfoldable pub reset_watch : Regs → Watching → WatchAnswer
reset_watch r w =
    if_held r w (watch_in_bx r w) (λ watch. watch_served r (with_watch (low_half r.ebx) (Some (record watch { hit = false })) w))

-- the functions
abbrev pub is_watch_function : ℕ → Bool
is_watch_function ax = nat_eq ax 0x0B00 || nat_eq ax 0x0B01 || nat_eq ax 0x0B02 || nat_eq ax 0x0B03

-- the function in AX
unfoldable pub watch_service : Regs → Watching → WatchAnswer
watch_service r w =
    if nat_eq (low_half r.eax) 0x0B00 then set_watch r w else
    if nat_eq (low_half r.eax) 0x0B01 then clear_watch r w else
    if nat_eq (low_half r.eax) 0x0B02 then watch_state r w else
    reset_watch r w
