-- The answers of `order`.
use Rattle.log_commands.proofs.{EntryTexts.named_has, FilesBegun.found_then, FilesBegun.same_found}
use Rattle.log_commands.proofs.{HonestOrders.order_right, Imports.[], Imports.Answer}
use Rattle.log_commands.proofs.Imports.{ap, entries_of, Err, GivesLogs, GivesPlace, GivesRoster, inl, inr, IsOrderOver}
use Rattle.log_commands.proofs.Imports.{IsPlaceOf, List, LogRead, MeansEntry, MeansNone, None, Ok, Option, order_parts}
use Rattle.log_commands.proofs.Imports.{Post, Refusal, refusal_answer, RosterRead, SealedEntry, subst, sym, ℕ, ◌∷◌, ◌≡◌}

-- where no entry of S is what a word means, it means none
pub means_none : (machines : List Post) (S : List SealedEntry) (word : List ℕ) →
    IsPlaceOf (MeansEntry machines S word) S None → MeansNone machines S word
means_none machines S word none entry means = none entry (named_has machines S means.0 entry means.2) means

module _ (roster x y : List ℕ) (logs : List (List ℕ)) where
  -- a refusal of the files is the answer
  pub order_refused : (files : List (Option (List ℕ))) (refusal : Refusal) → GivesPlace roster logs files (Err refusal)
      → (order_parts roster x y logs).IsAnswer files (refusal_answer refusal)
  order_refused [] refusal gives = absurd gives
  order_refused (file ∷ files) refusal (inl (read, gives, inl (found, also, e))) = absurd (let no : ⊥ = cc in no)
  order_refused (file ∷ files) refusal (inl (read, gives, inr (why, also, e))) =
      let same : refusal ≡ why = cc in
      order_right roster x y logs file files (refusal_answer refusal)
      (inr (read, gives, inl (why, also, ap refusal_answer same)))
  order_refused (file ∷ files) refusal (inr (why, gives, e)) =
      let same : refusal ≡ why = cc in
      order_right roster x y logs file files (refusal_answer refusal) (inl (why, gives, ap refusal_answer same))

  -- what the entries of the logs come to is the answer
  pub order_answered : (read : RosterRead) (found : List LogRead) (answer : Answer)
      → IsOrderOver read.roster.machines x y (entries_of found) answer
      → (files : List (Option (List ℕ))) → GivesPlace roster logs files (Ok (read, found))
      → (order_parts roster x y logs).IsAnswer files answer
  order_answered read found answer over [] gives = absurd gives
  order_answered read found answer over (file ∷ files) gives =
      let (other, of_roster, by_roster) = found_then gives in
      let (logs_found, of_logs, e) = found_then by_roster in
      let P : RosterRead × List LogRead → Type 0 = λ both. GivesRoster roster file (Ok both.0)
      × GivesLogs both.0.roster.machines both.0.election logs files (Ok both.1) in
      let (its_roster, its_logs) = subst P (sym (same_found e)) (of_roster, of_logs) in
      order_right roster x y logs file files answer (inr (read, its_roster, inr (found, its_logs, over)))
