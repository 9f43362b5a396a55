-- The command `order`.
use Rattle.log_commands.proofs.Imports.{[], All-from_recursion, Answer, arith, carried_out_as, Contains, contains_as}
use Rattle.log_commands.proofs.Imports.{entries_of, EntryGraph, Err, GiveEntries, GivesGraph, GivesLogs, GivesRoster}
use Rattle.log_commands.proofs.Imports.{HasOneAnswer, HasStatuses, inl, inr, IsCarriedOut, IsCompleted, IsOfCommands}
use Rattle.log_commands.proofs.Imports.{IsOrderAmong, IsOrderOver, IsOrderUnder, line_answer, List, LogRead, MeansEntry}
use Rattle.log_commands.proofs.Imports.{no_entry, of_read, Ok, Option, order_parts, order_word, OrRefused, Post, refl}
use Rattle.log_commands.proofs.Imports.{Refusal, Result, RosterRead, SealedEntry, Status, subst, ℕ, ◌∷◌, ◌≡◌}
use Rattle.log_commands.proofs.{FilesBegun.same_found, OneOrderAnswer.OrderOne, OneOrderAnswer.same_order}
use Rattle.command_line.specs.declared.status.Status.TheVariants as status

-- over files it has one answer
pub order_one : OrderOne → (roster x y : List ℕ) (logs : List (List ℕ)) → HasOneAnswer (order_parts roster x y logs)
order_one one roster x y logs (file ∷ files) a b p q = same_order one roster x y logs file files a b p q
order_one one roster x y logs [] a b p q = absurd p

-- two words that mean survivors have a word of order
among_complete : (x y : List ℕ) (answer : Answer) (machines : List Post) (S : List SealedEntry) (e f : SealedEntry) →
    MeansEntry machines S x e → MeansEntry machines S y f → IsOrderAmong machines S x y answer →
    IsCarriedOut answer.status
among_complete x y answer machines S e f first second (inl (none, p)) = absurd (none e first)
among_complete x y answer machines S e f first second (inr (g, means, inl (none, p))) = absurd (none f second)
among_complete x y answer machines S e f first second (inr (g, means, inr (h, meant, is))) =
    carried_out_as answer (line_answer status.Done (order_word is.word)) is.told tt

-- what is found or refused is found where something is
or_found : {T : Type 0} (Gives : Result T Refusal → Type 0) (IsFor : T → Answer → Type 0) (answer : Answer) (found : T) →
    ((p q : Result T Refusal) → Gives p → Gives q → p ≡ q) → Gives (Ok found) → OrRefused Gives IsFor answer →
    IsFor found answer
or_found Gives IsFor answer found one is (inl (refusal, gives, e)) =
    let no = one (Err refusal) (Ok found) gives is in cc
or_found Gives IsFor answer found one is (inr (other, gives, holds)) =
    subst (λ f. IsFor f answer) (same_found (one (Ok other) (Ok found) gives is)) holds

-- `order` is carried out over a roster and logs
order_complete : OrderOne → (x y : List ℕ) (answer : Answer) (roster : List ℕ) (logs : List (List ℕ))
    (file : Option (List ℕ)) (files : List (Option (List ℕ))) → GiveEntries roster x y logs file files →
    OrRefused (GivesRoster roster file) (λ (read : RosterRead). IsOrderUnder read x y logs files) answer →
    IsCarriedOut answer.status
order_complete one x y answer roster logs file files given right =
    let machines = given.read.roster.machines in
    let under = or_found (GivesRoster roster file) (λ (read : RosterRead). IsOrderUnder read x y logs files) answer
    given.read (one.roster roster file) given.of_roster right in
    let over = or_found (GivesLogs machines given.read.election logs files)
    (λ (found : List LogRead). IsOrderOver machines x y (entries_of found)) answer given.found
    (one.logs machines given.read.election logs files) given.of_logs under.right in
    among_complete x y answer machines given.graph.survivors given.e given.f given.first given.second
    (or_found (GivesGraph (entries_of given.found))
    (λ (graph : EntryGraph SealedEntry). IsOrderAmong machines graph.survivors x y) answer given.graph
    (one.graph (entries_of given.found)) given.of_entries over)

pub order_completed : OrderOne → (roster x y : List ℕ) (logs : List (List ℕ)) →
    IsCompleted (order_parts roster x y logs)
order_completed one roster x y logs (file ∷ files) answer right given =
    order_complete one x y answer roster logs file files given right.right
order_completed one roster x y logs [] answer right given = absurd right

-- its statuses
abbrev own_statuses : List Status
own_statuses = status.Done ∷ status.Refused ∷ status.Absent ∷ []

-- the command has the status
abbrev Has : Answer → Type 0
Has answer = Contains own_statuses answer.status

-- an order is printed, or one of its words is refused
of_among : (machines : List Post) (S : List SealedEntry) (x y : List ℕ) (answer : Answer) →
    IsOrderAmong machines S x y answer → Has answer
of_among machines S x y answer (inl (none, e)) =
    contains_as own_statuses answer (no_entry x) e (1, omega arith, refl)
of_among machines S x y answer (inr (entry, means, inl (none, e))) =
    contains_as own_statuses answer (no_entry y) e (1, omega arith, refl)
of_among machines S x y answer (inr (entry, means, inr (other, means', is))) =
    contains_as own_statuses answer (line_answer status.Done (order_word is.word)) is.told (0, omega arith, refl)

-- or what it goes on is refused
of_files : (roster x y : List ℕ) (logs : List (List ℕ)) (files : List (Option (List ℕ))) (answer : Answer) →
    (order_parts roster x y logs).IsAnswer files answer → Has answer
of_files roster x y logs (file ∷ files) answer is =
    let refused : Contains own_statuses status.Refused = (1, omega arith, refl) in
    let absent : Contains own_statuses status.Absent = (2, omega arith, refl) in
    of_read own_statuses refused absent (GivesRoster roster file)
    (λ (read : RosterRead). IsOrderUnder read x y logs files) answer
    (λ read under. of_read own_statuses refused absent (GivesLogs read.roster.machines read.election logs files)
    (λ (found : List LogRead). IsOrderOver read.roster.machines x y (entries_of found)) answer
    (λ found. of_read own_statuses refused absent (GivesGraph (entries_of found))
    (λ (graph : EntryGraph SealedEntry). IsOrderAmong read.roster.machines graph.survivors x y) answer
    (λ graph. of_among _ graph.survivors x y answer)) under.right) is.right
of_files roster x y logs [] answer is = absurd is

pub order_has_statuses : (roster x y : List ℕ) (logs : List (List ℕ)) → HasStatuses (order_parts roster x y logs)
order_has_statuses roster x y logs = record {
  own = of_files roster x y logs;
  some = All-from_recursion IsOfCommands own_statuses (tt, (tt, (tt, tt)));
}
