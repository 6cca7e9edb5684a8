-- The pieces of a made client, and the numbers that choose them.
-- Source: the numbers are those of Knuth's MMIX generator; the services are those of the DPMI 0.9 specification, INT 31h; the choice is
-- own.
use Rattle.std.specs.Prelude.{ℕ, zero, suc, ◌+◌, ◌*◌, ◌/◌, ◌%◌, ◌^◌, List, [], ◌∷◌, ◌++◌, nat_eq, if◌then◌else◌}

-- the number after x
abbrev pub next_number : ℕ → ℕ
next_number x = (6364136223846793005 * x + 1442695040888963407) % 2 ^ 64

-- number k of the sequence from a seed; number 0 is the seed. It stays closed, since k may be large
unfoldable pub number : ℕ → ℕ → ℕ
number seed zero = seed
number seed (suc k) = next_number (number seed k)

-- the bytes of a word, least byte first
abbrev pub word_bytes : ℕ → List ℕ
word_bytes p = p % 0x100 ∷ p / 0x100 ∷ []

-- INT 31h
abbrev pub int_31 : List ℕ
int_31 = 0xCD ∷ 0x31 ∷ []

-- MOV BX,AX: keeps the selector that was answered
abbrev pub keep_selector : List ℕ
keep_selector = 0x89 ∷ 0xC3 ∷ []

-- MOV AX,0000h; MOV CX, 0 to 3; INT 31h; MOV BX,AX: allocates descriptors
abbrev pub allocate_descriptors_piece : ℕ → List ℕ
allocate_descriptors_piece p = (0xB8 ∷ 0 ∷ 0 ∷ 0xB9 ∷ p % 4 ∷ 0 ∷ []) ++ int_31 ++ keep_selector

-- MOV AX,0008h; MOV CX,p; MOV DX,0FFFh; INT 31h: sets the limit of BX to p * 10000h + FFFh
abbrev pub set_limit_piece : ℕ → List ℕ
set_limit_piece p = (0xB8 ∷ 8 ∷ 0 ∷ 0xB9 ∷ []) ++ word_bytes p ++ (0xBA ∷ 0xFF ∷ 0x0F ∷ []) ++ int_31

-- MOV AX,0501h; MOV BX,0; MOV CX,p; INT 31h: allocates p bytes
abbrev pub allocate_memory_piece : ℕ → List ℕ
allocate_memory_piece p = (0xB8 ∷ 1 ∷ 5 ∷ 0xBB ∷ 0 ∷ 0 ∷ 0xB9 ∷ []) ++ word_bytes p ++ int_31

-- MOV AX,0502h; INT 31h: frees the block of SI:DI
abbrev pub free_memory_piece : List ℕ
free_memory_piece = (0xB8 ∷ 2 ∷ 5 ∷ []) ++ int_31

-- MOV DL, 20h to 5Fh; MOV AH,02h; INT 21h: prints a character
abbrev pub print_character_piece : ℕ → List ℕ
print_character_piece p = 0xB2 ∷ (0x20 + p % 64) ∷ 0xB4 ∷ 2 ∷ 0xCD ∷ 0x21 ∷ []

-- MOV AX,0002h; MOV BX,p; INT 31h; MOV BX,AX: asks for the descriptor of segment p
abbrev pub map_segment_piece : ℕ → List ℕ
map_segment_piece p = (0xB8 ∷ 2 ∷ 0 ∷ 0xBB ∷ []) ++ word_bytes p ++ int_31 ++ keep_selector

-- MOV AX,0600h; MOV BX,0040h; MOV CX,0; XOR SI,SI; MOV DI,p; INT 31h: locks p bytes at 00400000h
abbrev pub lock_memory_piece : ℕ → List ℕ
lock_memory_piece p =
    (0xB8 ∷ 0 ∷ 6 ∷ 0xBB ∷ 0x40 ∷ 0 ∷ 0xB9 ∷ 0 ∷ 0 ∷ 0x31 ∷ 0xF6 ∷ 0xBF ∷ []) ++ word_bytes p ++ int_31

-- MOV AX,0001h; INT 31h: frees the descriptor of BX
abbrev pub free_descriptor_piece : List ℕ
free_descriptor_piece = (0xB8 ∷ 1 ∷ 0 ∷ []) ++ int_31

-- the piece of a kind, with its parameter
abbrev pub piece : ℕ → ℕ → List ℕ
piece kind p =
    if nat_eq kind 0 then allocate_descriptors_piece p else
    if nat_eq kind 1 then set_limit_piece p else
    if nat_eq kind 2 then allocate_memory_piece p else
    if nat_eq kind 3 then free_memory_piece else
    if nat_eq kind 4 then print_character_piece p else
    if nat_eq kind 5 then map_segment_piece p else
    if nat_eq kind 6 then lock_memory_piece p else
    free_descriptor_piece

-- the piece that a number chooses: three bits from bit 56 on are the kind, and sixteen from bit 32 on the parameter
abbrev pub chosen_piece : ℕ → List ℕ
chosen_piece x = piece (x / 2 ^ 56 % 8) (x / 2 ^ 32 % 2 ^ 16)

-- the first k pieces from a seed, which numbers 1 to k choose. It stays closed, since k may be large
unfoldable pub pieces : ℕ → ℕ → List ℕ
pieces seed zero = []
pieces seed (suc k) = pieces seed k ++ chosen_piece (number seed (suc k))
