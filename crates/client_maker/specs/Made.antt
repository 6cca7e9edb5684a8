-- The file of a made client.
-- Source: the header is that of MS-DOS executable files; the code is own.
use Rattle.std.specs.Prelude.{ℕ, ◌+◌, ◌/◌, ◌%◌, List, [], ◌∷◌, ◌++◌, length}
use Rattle.client_maker.specs.{declared.TheConstants.{PIECES}, Pieces.{word_bytes, pieces}}

-- the entry into protected mode as a 16-bit client: MOV AX,1687h; INT 2Fh; PUSH ES; PUSH DI; MOV BP,SP; XOR AX,AX; CALL FAR [BP]
abbrev pub entry_code : List ℕ
entry_code = 0xB8 ∷ 0x87 ∷ 0x16 ∷ 0xCD ∷ 0x2F ∷ 0x06 ∷ 0x57 ∷ 0x89 ∷ 0xE5 ∷ 0x31 ∷ 0xC0 ∷ 0xFF ∷ 0x5E ∷ 0 ∷ []

-- the end of the client with code 0: MOV AX,4C00h; INT 21h
abbrev pub end_code : List ℕ
end_code = 0xB8 ∷ 0 ∷ 0x4C ∷ 0xCD ∷ 0x21 ∷ []

-- the code of the client of a seed
abbrev pub made_code : ℕ → List ℕ
made_code seed = (entry_code ++ pieces seed PIECES) ++ end_code

-- the bytes of a header
abbrev pub made_header_bytes : ℕ
made_header_bytes = 32

-- the bytes of the last page, and the pages of 512 bytes, of a file with n bytes of code
abbrev pub made_last_page : ℕ → ℕ
made_last_page n = (made_header_bytes + n) % 512

abbrev pub made_pages : ℕ → ℕ
made_pages n = (made_header_bytes + n + 511) / 512

-- the segment of the stack, from the code's on: the first paragraph after the code
abbrev pub stack_segment : ℕ → ℕ
stack_segment n = (n + 15) / 16

-- the header of n bytes of code: `MZ`, last page, pages; no relocations, two paragraphs of header, minimum 10h, maximum FFFFh;
-- SS, SP 0100h, no checksum, IP 0, CS 0; the relocation table at 1Ch, no overlay, and four bytes of zero
abbrev pub header : ℕ → List ℕ
header n =
    (0x4D ∷ 0x5A ∷ word_bytes (made_last_page n)) ++ word_bytes (made_pages n) ++ (0 ∷ 0 ∷ 2 ∷ 0 ∷ 0x10 ∷ 0 ∷ 0xFF ∷ 0xFF ∷ [])
    ++ word_bytes (stack_segment n) ++ 0 ∷ 1 ∷ 0 ∷ 0 ∷ 0 ∷ 0 ∷ 0 ∷ 0 ∷ 0x1C ∷ 0 ∷ 0 ∷ 0 ∷ 0 ∷ 0 ∷ 0 ∷ 0 ∷ []

-- the file with that code
abbrev pub client : List ℕ → List ℕ
client code = header (length code) ++ code

-- the file that a seed makes
abbrev pub made : ℕ → List ℕ
made seed = client (made_code seed)
