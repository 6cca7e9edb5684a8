-- The descriptors of a block of DOS memory put one after another: the memory holds the same rows as the world.
use Rattle.std.proofs.Common.{◌≡◌, ℕ, zero, suc, ◌+◌, ◌-◌, ◌^◌, ◌<◌, ◌≤◌, ◌⊎◌, inl, inr, Bool, List, length, slice_set, refl, ap, ◌∙◌, sym}
use Rattle.std.proofs.{Common.{subst, arith, Option, None, Some, get_or-set_same, get_or-set_other, length-set}, lemmas.Bool.{cases_eq}}
use Rattle.std.proofs.lemmas.Bool.{cases_lt, eq-eqb, ne_eqb, lt-ltb, le-ltb}
use Rattle.client_world.specs.{declared.descriptors.Origin.{Origin}, declared.descriptors.Origin.TheVariants.{Dos}}
use Rattle.client_world.specs.{declared.dos_memory.DosRun.{DosRun}, declared.host_frames.TheConstants.{DESCRIPTORS}}
use Rattle.client_world.specs.{declared.registers.Mode.{Mode}, declared.registers.Regs.{Regs}, declared.registers.Width.{Width}}
use Rattle.client_world.specs.{Selector.{Row, FitsRow, row_at_index}, Soundness.{HasOrigin, descriptors_for}, World.{World}}
use Rattle.guest_ram.specs.Bytes.{put}
use Rattle.desc_table.specs.Rows.{row_address, row_bytes}
use Rattle.host_memory.specs.{Holds.{Holds}, Layout.{world_of}}
use Rattle.host_memory.proofs.RowWrites.{row_world, row_holds}
use Rattle.guest_space.specs.DosRuns.{dos_row, dos_limit, dos_descriptor, with_dos_rows, with_run_bytes}

-- ---- one of them

row_there : (segment n j : ℕ) → j < descriptors_for n → dos_row segment n j ≡ Some (dos_descriptor segment n j, Dos segment)
unfolding dos_row
row_there segment n j small = rw (lt-ltb j (descriptors_for n) small) refl

row_missing : (segment n j : ℕ) → descriptors_for n ≤ j → dos_row segment n j ≡ None
unfolding dos_row
row_missing segment n j beyond = rw (le-ltb j (descriptors_for n) beyond) refl

limit_fits : (n j : ℕ) → n < 0x10000 → dos_limit n j < 2 ^ 20
limit_fits n j small = grind (arith, cases_eq, eq-eqb, ne_eqb)

pub fits_dos_row : (segment n j : ℕ) → segment < 0x10000 → n < 0x10000 → FitsRow (dos_row segment n j)
fits_dos_row segment n j segment_fits n_fits = grind (arith, cases_lt, limit_fits, row_missing, row_there)

-- a row with an origin is one of the block's
pub dos_row_tells : (segment n j : ℕ) (origin : Origin) → HasOrigin (dos_row segment n j) origin → (Dos segment ≡ origin)
    × (j < descriptors_for n)
dos_row_tells segment n j origin has = grind (arith, cases_lt, row_missing, row_there)

pub dos_row_has : (segment n j : ℕ) → j < descriptors_for n → HasOrigin (dos_row segment n j) (Dos segment)
dos_row_has segment n j small = subst (λ (r : Row). HasOrigin r (Dos segment)) (sym (row_there segment n j small)) refl

-- ---- several

pub length-dos_rows : (rows : List Row) (run : DosRun) (k : ℕ) → length (with_dos_rows rows run k) ≡ length rows
unfolding with_dos_rows
length-dos_rows rows run zero = refl
length-dos_rows rows run (suc k) =
    length-set (with_dos_rows rows run k) (run.first + k) (dos_row run.seg run.after k) ∙ length-dos_rows rows run k

pub row_outside : (rows : List Row) (run : DosRun) (k index : ℕ) → (index < run.first) ⊎ (run.first + k ≤ index) →
    row_at_index (with_dos_rows rows run k) index ≡ row_at_index rows index
unfolding with_dos_rows
row_outside rows run zero index away = refl
row_outside rows run (suc k) index away =
    get_or-set_other (with_dos_rows rows run k) (run.first + k) index (dos_row run.seg run.after k) None
    (λ e. elim away [ inl below ↦ omega arith | inr beyond ↦ omega arith ])
    ∙ row_outside rows run k index (elim away [ inl below ↦ inl below | inr beyond ↦ inr (omega arith) ])

pub row_inside : (rows : List Row) (run : DosRun) (k j : ℕ) → run.first + k ≤ length rows → j < k →
    row_at_index (with_dos_rows rows run k) (run.first + j) ≡ dos_row run.seg run.after j
unfolding with_dos_rows
row_inside rows run zero j room small = absurd (omega arith)
row_inside rows run (suc k) j room small = elim (cases_eq j k) [
  | inl same ↦ grind (arith, get_or-set_same, length-dos_rows)
  | inr other ↦ get_or-set_other (with_dos_rows rows run k) (run.first + k) (run.first + j) (dos_row run.seg run.after k) None
      (λ e. other (omega arith))
      ∙ row_inside rows run k j (omega arith) (omega arith)
]

-- what is true of the rows of the block and of each row elsewhere is true of every row
pub of_each_row : (rows : List Row) (run : DosRun) (k : ℕ) (P : ℕ → Row → Type 0) → run.first + k ≤ length rows →
    ((j : ℕ) → j < k → P (run.first + j) (dos_row run.seg run.after j)) →
    ((index : ℕ) → (index < run.first) ⊎ (run.first + k ≤ index) → P index (row_at_index rows index)) →
    (index : ℕ) → P index (row_at_index (with_dos_rows rows run k) index)
of_each_row rows run k P room inside outside index = elim (cases_lt index run.first) [
  | inl below ↦ subst (P index) (sym (row_outside rows run k index (inl below))) (outside index (inl below))
  | inr from ↦ elim (cases_lt index (run.first + k)) [
    | inl within ↦ (let at : run.first + (index - run.first) ≡ index = omega arith in
        subst (λ (i : ℕ). P i (row_at_index (with_dos_rows rows run k) i)) at
        (subst (P (run.first + (index - run.first))) (sym (row_inside rows run k (index - run.first) room (omega arith)))
        (inside (index - run.first) (omega arith))))
    | inr beyond ↦ subst (P index) (sym (row_outside rows run k index (inr beyond))) (outside index (inr beyond))
  ]
]

-- ---- in the memory

pub run_bytes_suc : (b : List ℕ) (run : DosRun) (k : ℕ) →
    with_run_bytes b run (suc k) ≡ put (with_run_bytes b run k) (row_address (run.first + k)) (row_bytes (dos_row run.seg run.after k))
unfolding with_run_bytes
run_bytes_suc b run k = refl

pub run_bytes_next : (b : List ℕ) (run : DosRun) (k : ℕ) →
    with_run_bytes b run (k + 1) ≡ put (with_run_bytes b run k) (row_address (run.first + k)) (row_bytes (dos_row run.seg run.after k))
run_bytes_next b run k = ap (with_run_bytes b run) (let next : k + 1 ≡ suc k = omega arith in next) ∙ run_bytes_suc b run k

-- one row more
pub row_put_next : (b a c : List ℕ) (run : DosRun) (k : ℕ) (row : Row) → a ≡ with_run_bytes b run k → row ≡ dos_row run.seg run.after k →
    c ≡ put a (row_address (run.first + k)) (row_bytes row) → c ≡ with_run_bytes b run (k + 1)
row_put_next b a c run k row before is written = grind (arith, run_bytes_next)

pub run_bytes_none : (b : List ℕ) (run : DosRun) → with_run_bytes b run 0 ≡ b
unfolding with_run_bytes
run_bytes_none b run = refl

pub run_holds : (b : List ℕ) (budget : ℕ) → Holds b budget → (run : DosRun) (k : ℕ) → run.seg < 0x10000 → run.after < 0x10000 →
    run.first + k ≤ DESCRIPTORS → Holds (with_run_bytes b run k) budget
unfolding with_run_bytes
run_holds b budget holds run zero segment after room = holds
run_holds b budget holds run (suc k) segment after room =
    row_holds (with_run_bytes b run k) budget (run_holds b budget holds run k segment after (omega arith)) (run.first + k)
    (dos_row run.seg run.after k) (omega arith) (fits_dos_row run.seg run.after k segment after)

pub run_world : (b : List ℕ) (budget : ℕ) → Holds b budget →
    (mode : Mode) (regs : Regs) (vif : Bool) (width : Option Width) (run : DosRun) (k : ℕ) →
    run.seg < 0x10000 → run.after < 0x10000 → run.first + k ≤ DESCRIPTORS → world_of (with_run_bytes b run k) budget mode regs vif width
    ≡ record (world_of b budget mode regs vif
    width) { descriptors = with_dos_rows (world_of b budget mode regs vif width).descriptors run k }
unfolding with_run_bytes with_dos_rows
run_world b budget holds mode regs vif width run zero segment after room = refl
run_world b budget holds mode regs vif width run (suc k) segment after room =
    row_world (with_run_bytes b run k) budget (run_holds b budget holds run k segment after (omega arith)) mode regs vif width
    (run.first + k)
    (dos_row run.seg run.after k) (omega arith) (fits_dos_row run.seg run.after k segment after)
    ∙ ap (λ (w : World). record w { descriptors = slice_set w.descriptors (run.first + k) (dos_row run.seg run.after k) })
    (run_world b budget holds mode regs vif width run k segment after (omega arith))
