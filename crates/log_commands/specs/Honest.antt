-- What `order` says where the logs' files are left of an honest place.
use Rattle.std.specs.Prelude.{◌≡◌, ◌≢◌, ◌↔◌, ℕ, List, Option, ⊤}
use Rattle.entry_format.specs.Nodes.{node_of_sealed}
use Rattle.entry_format.specs.SealedEntry.{SealedEntry}
use Rattle.entry_graph.specs.EntryGraph.{EntryGraph}
use Rattle.entry_order.specs.HeldBefore.{HeldBefore}
use Rattle.entry_order.specs.Naming.{Distinct}
use Rattle.entry_order.specs.World.{World, sent_in}
use Rattle.election_script.specs.declared.script.Script.{Script}
use Rattle.log_files.specs.Logs.{LogRead}
use Rattle.polling_world.specs.Keys.{roster_of}
use Rattle.polling_world.specs.Making.{election_of}
use Rattle.honest_places.specs.HonestReading.{IsHonestlyRead}
use Rattle.honest_places.specs.LeftFiles.{AreAllFilesOf}
use Rattle.log_commands.specs.declared.order_word.OrderWord.{OrderWord}
use Rattle.log_commands.specs.declared.order_word.OrderWord.TheVariants.{Same, Before, After, Apart, Unknown}
use Rattle.command_line.specs.declared.status.Status.TheVariants.{Done}
use Rattle.command_line.specs.Lines.{Answer}
use Rattle.log_commands.specs.EntryWords.{MeansEntry}
use Rattle.honest_places.specs.EachPlace.{OnEachPlace}
use Rattle.log_commands.specs.TwoEntries.{IsOrderAmong, IsOrderOf}

-- what the word says of two entries by what the machines of w held; `unknown` says nothing
abbrev pub IsWordIn : World SealedEntry → SealedEntry → SealedEntry → OrderWord → Type 0
IsWordIn w e f Same = e ≡ f
IsWordIn w e f Before = HeldBefore w e f
IsWordIn w e f After = HeldBefore w f e
IsWordIn w e f Apart = (e ≢ f) × (¬ HeldBefore w e f) × (¬ HeldBefore w f e)
IsWordIn w e f Unknown = ⊤

-- each word is printed exactly where it is true in w, and `unknown` never
pub record IsExactIn (w : World SealedEntry) (e f : SealedEntry) (word : OrderWord) : Type 0 where
  pub known : word ≢ Unknown
  pub each : (other : OrderWord) → other ≢ Unknown → (word ≡ other) ↔ IsWordIn w e f other

-- The word is right of both entries in w. Where the whole logs of w are among the files, it is exact
-- (Lamport 1978).
pub record IsHonestWord (w : World SealedEntry) (files : List (Option (List ℕ))) (e f : SealedEntry) (word : OrderWord)
    : Type 0 where
  pub right : IsWordIn w e f word
  pub exact : AreAllFilesOf w files → IsExactIn w e f word

-- What is answered over such files of w. The roster is accepted, and the logs and their graph accuse
-- nobody. The answer is a refusal, because a word means no survivor; or a word that is right in w.
pub record IsHonestOrder (script : Script) (w : World SealedEntry) (x y : List ℕ) (names : List (List ℕ))
    (files : List (Option (List ℕ))) (answer : Answer) : Type 0 where
  pub logs : List LogRead
  pub graph : EntryGraph SealedEntry
  pub read : IsHonestlyRead (roster_of script) (election_of (roster_of script)) w names files logs graph
  pub among : IsOrderAmong (roster_of script) graph.survivors x y answer
  pub right : (e f : SealedEntry) → MeansEntry (roster_of script) graph.survivors x e →
      MeansEntry (roster_of script) graph.survivors y f →
      (order : IsOrderOf graph.survivors e f answer) → IsHonestWord w files e f order.word

-- The answer is that of an honest order where different entries of w have different digests. A word over all
-- logs of w, whole, shows that they have.
pub record IsOrderOfPlace (script : Script) (w : World SealedEntry) (x y : List ℕ) (names : List (List ℕ))
    (files : List (Option (List ℕ))) (answer : Answer) : Type 0 where
  pub honest : Distinct node_of_sealed (sent_in w) → IsHonestOrder script w x y names files answer
  pub shown : AreAllFilesOf w files → answer.status ≡ Done → Distinct node_of_sealed (sent_in w)

-- the answer is right for each honest place that left the roster's file and the logs' files
-- (Auditorium, EVT 2007)
abbrev pub IsOrderOfPlaces : List ℕ → List ℕ → List (List ℕ) → Option (List ℕ) → List (Option (List ℕ)) → Answer →
    Type 0
IsOrderOfPlaces x y names roster files answer =
    OnEachPlace (λ script w. IsOrderOfPlace script w x y names files answer) roster files
