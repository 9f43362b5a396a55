-- What is made of the frontier is what a legal history asks.
use Rattle.entry_order.proofs.Imports.{and_parts, cases_Bool, has_digest, held, inl, inr, List, Node, not, not-true, ℕ}
use Rattle.entry_order.proofs.{Imports.◌&&◌, Imports.◌≡◌, Plays.IsNew-from_test}
use Rattle.entry_order.specs.Made.{made_after, MadeIsLawful}

-- its digest is tested, and its parts are what is asked
pub made_is_lawful : {T : Type 0} (node : T → Node) (made : ℕ → ℕ → ℕ → List (List ℕ) → T) → MadeIsLawful node made
made_is_lawful node made shows allowed m h e is =
    elim (cases_Bool (allowed m h && not (has_digest node (held h) (node (made_after node made m h)).digest))) [
      | inr off ↦ let none = rw off at is in cc
      | inl t ↦
          let some = rw t at is in
          let same : made_after node made m h ≡ e = cc in
          rw (← same) (
            IsNew-from_test node (held h) _ (not-true _ (and_parts (allowed m h) _ t).1),
            record {
              maker = shows.maker _ _ _ _;
              number = shows.number _ _ _ _;
              stamp = shows.stamp _ _ _ _;
              names = shows.names _ _ _ _;
            },
          )
    ]
