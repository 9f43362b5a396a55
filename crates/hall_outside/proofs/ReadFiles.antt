-- What holds of each file that is as it was found.
use Rattle.hall_outside.proofs.Imports.{arith, Err, FileFault, IsFound, length-replicate, List, Memory, None, Ok}
use Rattle.hall_outside.proofs.Imports.{OnReadFile, Option, ReadFault, refl, replicate, Result, Some, TooLong, ℕ, ◌+◌}
use Rattle.hall_outside.specs.declared.{reading.FileFault.TheVariants.Absent, stores.Store.Ghosts as StoreGhosts}

-- some file is as it was found
pub found_file : (limit : ℕ) (found : Result (List ℕ) FileFault) → (file : Option (List ℕ)) × IsFound limit found file
found_file limit (Ok bytes) = (Some bytes, refl)
found_file limit (Err Absent) = (None, refl)
found_file limit (Err TooLong) =
    let long = length-replicate {A = ℕ} (limit + 1) 0 in (Some (replicate (limit + 1) 0), omega (arith, long))
found_file limit (Err ReadFault) = (None, tt)
found_file limit (Err Memory) = (None, tt)

module _ {S : Type 0} (of : StoreGhosts S) (name : List ℕ) (limit : ℕ) where
  -- what follows of any file follows of each as found
  pub read_weaker : (P Q : Option (List ℕ) → Type 0) (old new : S)
      → ((file : Option (List ℕ)) → P file → Q file) → OnReadFile of name limit P old new
      → OnReadFile of name limit Q old new
  read_weaker P Q old new step (found, read, holds) = (found, read, λ file is. step file (holds file is))
