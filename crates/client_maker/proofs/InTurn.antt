-- One number and one piece more.
use Rattle.std.proofs.Common.{◌≡◌, ◌+◌, ℕ, [], ◌++◌, refl, add-one}
use Rattle.client_maker.specs.Pieces.{next_number, number, chosen_piece, pieces}

pub number_first : (seed : ℕ) → number seed 0 ≡ seed
unfolding number
number_first seed = refl

pub number_next : (seed k : ℕ) → number seed (k + 1) ≡ next_number (number seed k)
unfolding number
number_next seed k = rw add-one refl

pub pieces_first : (seed : ℕ) → pieces seed 0 ≡ []
unfolding pieces
pieces_first seed = refl

pub pieces_next : (seed k : ℕ) → pieces seed (k + 1) ≡ pieces seed k ++ chosen_piece (number seed (k + 1))
unfolding pieces
pieces_next seed k = rw add-one refl
