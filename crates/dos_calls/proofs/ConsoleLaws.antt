-- Bytes added to a console, one after the other, and what a call that prints comes to, by whether the console had room for all.
use Rattle.std.proofs.Common.{◌≡◌, ℕ, zero, suc, ◌+◌, ◌-◌, ◌<◌, ◌≤◌, Bool, true, false, List, [], ◌∷◌, ◌++◌, length, take, length-append}
use Rattle.std.proofs.{Common.{append_assoc, append-nil, refl, ap, subst, ◌∙◌, sym, arith, drop, Some}, lemmas.Bool.{le-leb, lt-leb}}
use Rattle.std.proofs.{lemmas.Bool.{leb-true}, lemmas.List.{take_all}}
use Rattle.std.specs.Prelude.{nat_le, nat_lt, if◌then◌else◌}
use borrow.Author.Tests.{ltb-true, ltb-false}
use Rattle.client_world.specs.{declared.limits.TheConstants.{CONSOLE_ROOM}, declared.outcome.Exit.TheVariants.{ConsoleFull}}
use Rattle.client_world.specs.{declared.services.DosDone.TheVariants.{Served, Ended}, World.{World}}
use Rattle.dos_calls.specs.{Answering.{console_with}, Calls.{has_room, CallState, CallResult, print_result, with_line, line_of}}
use Rattle.dos_calls.specs.Calls.{line_result}

-- what is left to add leads to the same end as all of it at the start
pub record Adds (console bytes now rest : List ℕ) : Type 0 where
  pub room : has_room now rest ≡ has_room console bytes
  pub items : console_with now rest ≡ console_with console bytes

pub nothing_added : (console bytes rest : List ℕ) → rest ≡ bytes → Adds console bytes console rest
nothing_added console bytes rest same = record {
  room = ap (λ (xs : List ℕ). has_room console xs) same;
  items = ap (λ (xs : List ℕ). console_with console xs) same;
}

-- in both cases it is as many as fit
front : (console bytes : List ℕ) (room : ℕ) (all : Bool) → nat_le (length console + length bytes) room ≡ all →
    (if all then console ++ bytes else console ++ take (room - length console) bytes) ≡ console ++ take (room - length console) bytes
front console bytes room true is =
    let fits = leb-true (length console + length bytes) room is in
    ap (λ (xs : List ℕ). console ++ xs) (sym (take_all (room - length console) bytes (omega arith)))
front console bytes room false is = refl

added_is : (console bytes : List ℕ) → console_with console bytes ≡ console ++ take (CONSOLE_ROOM - length console) bytes
added_is console bytes = front console bytes CONSOLE_ROOM (has_room console bytes) refl

next_front : (console rest : List ℕ) (byte room : ℕ) → length console < room →
    console ++ take (room - length console) (byte ∷ rest) ≡ (console ++ byte ∷ []) ++ take (room - length (console ++ byte ∷ [])) rest
next_front console rest byte room small =
    let more : room - length console ≡ suc (room - length (console ++ byte ∷ [])) = omega (arith, length-append console (byte ∷ [])) in
    ap (λ (n : ℕ). console ++ take n (byte ∷ rest)) more
    ∙ sym (append_assoc console (byte ∷ []) (take (room - length (console ++ byte ∷ [])) rest))

room_next : (console rest : List ℕ) (byte : ℕ) → has_room console (byte ∷ rest) ≡ has_room (console ++ byte ∷ []) rest
room_next console rest byte =
    ap (λ (n : ℕ). nat_le n CONSOLE_ROOM) (let same : length console + length (byte ∷ rest) ≡ length (console ++ byte ∷ []) + length rest =
    omega (arith, length-append console (byte ∷ [])) in same)

-- a byte for which there is room
adds_next : (console bytes now rest : List ℕ) (byte : ℕ) → Adds console bytes now (byte ∷ rest) → length now < CONSOLE_ROOM →
    Adds console bytes (now ++ byte ∷ []) rest
adds_next console bytes now rest byte adds small = record {
  room = sym (room_next now rest byte) ∙ adds.room;
  items =
      added_is (now ++ byte ∷ []) rest
      ∙ sym (next_front now rest byte CONSOLE_ROOM small)
      ∙ sym (added_is now (byte ∷ rest))
      ∙ adds.items;
}

pub byte_added : (console bytes now left rest new : List ℕ) (byte : ℕ) (room : Bool) → left ≡ byte ∷ rest → Adds console bytes now left →
    room ≡ nat_lt (length now) CONSOLE_ROOM → new ≡ (if room then now ++ byte ∷ [] else now) → room ≡ true → Adds console bytes new rest
byte_added console bytes now left rest new byte true is adds test result held =
    subst (λ (xs : List ℕ). Adds console bytes xs rest) (sym result)
    (adds_next console bytes now rest byte (rw is at adds) (ltb-true (length now) CONSOLE_ROOM (sym test)))
byte_added console bytes now left rest new byte false is adds test result held = absurd (let other = held in cc)

-- one for which there is none
pub byte_refused : (console bytes now left rest new : List ℕ) (byte : ℕ) (room : Bool) → left ≡ byte ∷ rest → Adds console bytes now left →
    room ≡ nat_lt (length now) CONSOLE_ROOM → new ≡ (if room then now ++ byte ∷ [] else now) → room ≡ false →
    (false ≡ has_room console bytes) × (new ≡ console_with console bytes)
byte_refused console bytes now left rest new byte true is adds test result held = absurd (let other = held in cc)
byte_refused console bytes now left rest new byte false is adds test result held =
    let here = rw is at adds in
    let full : CONSOLE_ROOM ≤ length now = ltb-false (length now) CONSOLE_ROOM (sym test) in (
      sym (lt-leb (length now + length (byte ∷ rest)) CONSOLE_ROOM (omega arith)) ∙ here.room,
      result ∙ sym (append-nil now)
          ∙ ap (λ (n : ℕ). now ++ take n (byte ∷ rest)) (let left : 0 ≡ CONSOLE_ROOM - length now = omega arith in left)
          ∙ sym (added_is now (byte ∷ rest)) ∙ here.items,
    )

-- none is left
pub all_added : (console bytes now left : List ℕ) → left ≡ [] → Adds console bytes now left → length now ≤ CONSOLE_ROOM →
    (true ≡ has_room console bytes) × (now ≡ console_with console bytes)
all_added console bytes now left is adds few =
    let here = rw is at adds in
    (sym (le-leb (length now + 0) CONSOLE_ROOM (omega arith)) ∙ here.room, sym (none_more now) ∙ here.items)
  where
    taken : (xs : List ℕ) (n : ℕ) → xs ++ take n [] ≡ xs
    taken xs zero = append-nil xs
    taken xs (suc n) = append-nil xs

    none_more : (xs : List ℕ) → console_with xs [] ≡ xs
    none_more xs = added_is xs [] ∙ taken xs (CONSOLE_ROOM - length xs)

abbrev pub printing : CallState → List ℕ → World → List ℕ → Bool → CallResult
printing s bytes world keys all = record {
  done = if all then Served else Ended ConsoleFull;
  world = if all then world else s.world;
  keys = keys;
  console = console_with s.console bytes;
}

printed_is : (s : CallState) (bytes : List ℕ) (world : World) (keys : List ℕ) →
    print_result s bytes world keys ≡ printing s bytes world keys (has_room s.console bytes)
unfolding print_result
printed_is s bytes world keys = grind (arith, Rattle.std.proofs.lemmas.Bool.Decides.nat_tests)

-- a line that was taken, of which a first part went to the console
pub line_goes : (s : CallState) (room count : ℕ) (line keys console : List ℕ) (all : Bool) →
    line_of s.keys ≡ Some (take count s.keys, drop (count + 1) s.keys) → line ≡ take (room - 1) (take count s.keys) →
    all ≡ has_room s.console (line ++ 0x0D ∷ []) → console ≡ console_with s.console (line ++ 0x0D ∷ []) → keys ≡ drop (count + 1) s.keys →
    line_result s room (line_of s.keys) ≡ record {
      done = if all then Served else Ended ConsoleFull;
      world = if all then with_line s.world line else s.world;
      keys = keys;
      console = console;
    }
line_goes s room count line keys console all taken short room_is console_is keys_is =
    ap (line_result s room) taken
    ∙ ap (λ (xs : List ℕ). print_result s (xs ++ 0x0D ∷ []) (with_line s.world xs) (drop (count + 1) s.keys)) (sym short)
    ∙ printed_is s (line ++ 0x0D ∷ []) (with_line s.world line) (drop (count + 1) s.keys)
    ∙ cc
