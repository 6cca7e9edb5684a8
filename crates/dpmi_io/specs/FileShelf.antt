-- What is known of the shelf over the files of the system. Source: own.
use Rattle.std.specs.{Prelude.{ℕ, List}, declared.option.Option.{Option}}

-- the name of the open file, the name at the last failure, and how many calls failed
pub record FileShelfState : Type 0 where
  pub current : Option (List ℕ)
  pub blamed : Option (List ℕ)
  pub faults : ℕ
