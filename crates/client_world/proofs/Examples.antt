-- The definitions on numbers that were worked by hand from the manual and the memory map: each line is evaluated.
use Rattle.std.proofs.Common.{◌≡◌, ◌-◌, true, false, List, [], ◌∷◌, Some, None, Err, refl}
use Rattle.client_world.specs.{declared.descriptors.Desc.{Desc}, declared.descriptors.Kind.TheVariants.{Data, Code}}
use Rattle.client_world.specs.{declared.descriptors.Origin.TheVariants.{Own}, declared.memory_map.TheConstants.{HOST_WINDOW_END}}
use Rattle.client_world.specs.{declared.place.Place.TheVariants.{Dos, Block, Host, Nothing}, declared.segments.SegReg.TheVariants.{Cs, Ss}}
use Rattle.client_world.specs.{declared.segments.SegReg.TheVariants.{Ds}, Access.{place_in, page_fault, fault_with, protected_base}}
use Rattle.client_world.specs.{Access.{real_base}, Descriptor.{packed, byte_limit, is_inside, plain}, Loading.{load_fault}, Selector.{Row}}
use Rattle.client_world.specs.{Selector.{selector_of}, Soundness.{descriptors_for}, World.{MemoryBlock}}

-- the host's code segment, and a stack of the client
code_bytes : packed (plain Code 0xF0000 0xFFFF false) ≡ 0xFF ∷ 0xFF ∷ 0 ∷ 0 ∷ 0x0F ∷ 0xFB ∷ 0 ∷ 0 ∷ []
unfolding packed
code_bytes = refl

stack_bytes : packed (plain (Data true false) 0x760 0xFFFF false) ≡ 0xFF ∷ 0xFF ∷ 0x60 ∷ 0x07 ∷ 0 ∷ 0xF3 ∷ 0 ∷ 0 ∷ []
unfolding packed
stack_bytes = refl

-- with G the limit counts pages
abbrev flat : Desc
flat = record (plain (Data true false) 0 0xFFFFF false) { gran = true; size = true }

flat_limit : byte_limit flat ≡ 0xFFFFFFFF
flat_limit = refl

paged_limit : byte_limit (record flat { limit = 0x100 }) ≡ 0x100FFF
paged_limit = refl

-- an expand-down segment allows what lies above its limit, up to FFFFh
abbrev down : Desc
down = plain (Data true true) 0 0xFFF false

down_at_limit : is_inside down 0xFFF 1 ≡ false
down_at_limit = refl

down_above : is_inside down 0x1000 2 ≡ true
down_above = refl

down_last : is_inside down 0xFFFF 1 ≡ true
down_last = refl

down_past : is_inside down 0xFFFF 2 ≡ false
down_past = refl

-- the selectors that the host hands out
host_code_selector : selector_of 16 ≡ 0x87
host_code_selector = refl

first_selector : selector_of 69 ≡ 0x22F
first_selector = refl

-- a DOS block of 1001h paragraphs needs two descriptors
two_descriptors : descriptors_for 0x1001 ≡ 2
two_descriptors = refl

-- the memory map
abbrev block : MemoryBlock
block = record { base = 0x400000; bytes = 1 ∷ 2 ∷ []; locks = 0 ∷ [] }

last_of_view : place_in (Some block ∷ []) 0x10FFFF ≡ Dos 0xFFFF
unfolding place_in
last_of_view = refl

behind_view : place_in (Some block ∷ []) 0x110000 ≡ Nothing
unfolding place_in
behind_view = refl

in_block : place_in (None ∷ Some block ∷ []) 0x400001 ≡ Block 2 1
unfolding place_in
in_block = refl

behind_block : place_in (Some block ∷ []) 0x400002 ≡ Nothing
unfolding place_in
behind_block = refl

last_of_host : place_in (Some block ∷ []) (HOST_WINDOW_END - 1) ≡ Host
unfolding place_in
last_of_host = refl

behind_host : place_in (Some block ∷ []) HOST_WINDOW_END ≡ Nothing
unfolding place_in
behind_host = refl

-- page faults: a read of the host's frames, a read of nothing, a write of read-only memory
host_read : page_fault true false ≡ fault_with 0x0E 5
host_read = refl

absent_read : page_fault false false ≡ fault_with 0x0E 4
absent_read = refl

rom_write : page_fault true true ≡ fault_with 0x0E 7
rom_write = refl

-- a word at FFFFh lies outside a real-mode segment
real_word : real_base Ss 0x75 0xFFFF 2 ≡ Err (fault_with 0x0C 0)
real_word = refl

-- faults of protected mode, through a table with one descriptor at index 0 (selector 7)
abbrev table : Desc → List Row
table d = Some (d, Own) ∷ []

null_access : protected_base (table flat) Ss 3 0 1 false ≡ Err (fault_with 0x0D 0)
null_access = refl

free_access : protected_base (table flat) Ss 0xF 0 1 false ≡ Err (fault_with 0x0C 0xC)
free_access = refl

code_write : protected_base (table (plain Code 0 0xFF false)) Ds 7 0 1 true ≡ Err (fault_with 0x0D 0)
code_write = refl

absent_segment : protected_base (table (record flat { present = false })) Ds 7 0 1 false ≡ Err (fault_with 0x0B 4)
absent_segment = refl

past_limit : protected_base (table (plain (Data true false) 0 0xFF false)) Ds 7 0xFF 2 false ≡ Err (fault_with 0x0D 0)
past_limit = refl

null_data : load_fault (table flat) Ds 0 0 false ≡ None
unfolding load_fault
null_data = refl

null_stack : load_fault (table flat) Ss 0 0 false ≡ Some (fault_with 0x0D 0)
unfolding load_fault
null_stack = refl

low_stack : load_fault (table flat) Ss 4 0 false ≡ Some (fault_with 0x0D 4)
unfolding load_fault
low_stack = refl

data_in_code : load_fault (table flat) Cs 7 0 false ≡ Some (fault_with 0x0D 4)
unfolding load_fault
data_in_code = refl

jump_to_low_code : load_fault (table (plain Code 0 0xFF false)) Cs 4 0 false ≡ None
unfolding load_fault
jump_to_low_code = refl

return_to_low_code : load_fault (table (plain Code 0 0xFF false)) Cs 4 0 true ≡ Some (fault_with 0x0D 4)
unfolding load_fault
return_to_low_code = refl

code_past_limit : load_fault (table (plain Code 0 0xFF false)) Cs 7 0x100 false ≡ Some (fault_with 0x0D 0)
unfolding load_fault
code_past_limit = refl
