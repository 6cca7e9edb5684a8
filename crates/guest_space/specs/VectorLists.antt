-- The protected-mode vectors, the real-mode callbacks, and the pages of the DOS megabyte's view that may be paged out, by their
-- numbers. Source: own.
use Rattle.std.specs.{Prelude.{ℕ, Bool, false, List, None, slice_index_or}, declared.option.Option.{Option}}
use Rattle.client_world.specs.{declared.segments.FarPtr.{FarPtr}, Segments.{null_pointer}, World.{Callback}}

-- the vector of a number; a number past the list has a null pointer
abbrev pub vector_at : List FarPtr → ℕ → FarPtr
vector_at vectors n = slice_index_or vectors n null_pointer

-- the callback of a slot; a slot past the list is free
abbrev pub callback_of_slot : List (Option Callback) → ℕ → Option Callback
callback_of_slot callbacks slot = slice_index_or callbacks slot None

-- a page may be paged out
abbrev pub is_pageable : List Bool → ℕ → Bool
is_pageable pages page = slice_index_or pages page false
