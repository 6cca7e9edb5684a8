-- The files that the words name. Source: own.
use Rattle.std.specs.{Prelude.{ℕ, List, [], ◌∷◌, None, Some}, declared.option.Option.{Option}}
use Rattle.dpmi_words.specs.Meaning.{Keys, Pressed, Stored, Meaning, Runs, Soaks, Pairs, meaning}

-- the name of the file with the keystrokes, where they come from one
abbrev pub key_file_names : Keys → List (List ℕ)
key_file_names (Pressed bytes) = []
key_file_names (Stored name) = name ∷ []

-- the names of the files of a meaning: the client's, and the keystrokes' after it; or those of two clients
abbrev pub names_in : Option Meaning → List (List ℕ)
names_in None = []
names_in (Some (Runs run)) = run.file ∷ key_file_names run.keys
names_in (Some (Soaks number)) = []
names_in (Some (Pairs p)) = p.first ∷ p.second ∷ []

-- the names of the files that the words name
abbrev pub file_names : List (List ℕ) → List (List ℕ)
file_names words = names_in (meaning words)
