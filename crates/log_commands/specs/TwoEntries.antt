-- What `order` answers of two survivors.
use Rattle.std.specs.Prelude.{◌≡◌, ◌≢◌, ◌⊎◌, ℕ, List}
use Rattle.entry_order.specs.Precedes.{Precedes}
use Rattle.entry_order.specs.Settled.{IsWhole}
use Rattle.roster.specs.declared.post.Post.{Post}
use Rattle.entry_format.specs.SealedEntry.{SealedEntry}
use Rattle.entry_format.specs.Nodes.{node_of_sealed}
use Rattle.log_commands.specs.declared.order_word.OrderWord.{OrderWord}
use Rattle.log_commands.specs.declared.order_word.OrderWord.TheVariants.{Same, Before, After, Apart, Unknown}
use Rattle.command_line.specs.declared.status.Status.TheVariants as status
use Rattle.command_line.specs.Lines.{Answer, line_answer}
use Rattle.log_commands.specs.Lines.{no_entry, order_word}
use Rattle.log_commands.specs.EntryWords.{MeansEntry, MeansNone}

-- e before f in G, by a path of names
abbrev pub IsBefore : List SealedEntry → SealedEntry → SealedEntry → Type 0
IsBefore G e f = Precedes node_of_sealed G e f

-- two different entries, neither of which is before the other in G
pub record AreApart (G : List SealedEntry) (e f : SealedEntry) : Type 0 where
  pub differ : e ≢ f
  pub not_before : ¬ IsBefore G e f
  pub not_after : ¬ IsBefore G f e

-- neither e nor f, nor an ancestor of them among S, names an entry that S lacks
abbrev pub AreWhole : List SealedEntry → SealedEntry → SealedEntry → Type 0
AreWhole S e f = IsWhole node_of_sealed S e × IsWhole node_of_sealed S f

-- what the word says of e and f among the survivors S
abbrev pub IsWordOf : List SealedEntry → SealedEntry → SealedEntry → OrderWord → Type 0
IsWordOf S e f Same = e ≡ f
IsWordOf S e f Before = IsBefore S e f
IsWordOf S e f After = IsBefore S f e
IsWordOf S e f Apart = AreApart S e f × AreWhole S e f
IsWordOf S e f Unknown = AreApart S e f × (¬ AreWhole S e f)

-- the answer of two survivors (Auditorium, EVT 2007; Querifier, SADFE 2008)
pub record IsOrderOf (S : List SealedEntry) (e f : SealedEntry) (answer : Answer) : Type 0 where
  pub word : OrderWord
  pub right : IsWordOf S e f word
  pub told : answer ≡ line_answer status.Done (order_word word)

-- the answer of two words among the survivors S
abbrev pub IsOrderAmong : List Post → List SealedEntry → List ℕ → List ℕ → Answer → Type 0
IsOrderAmong machines S x y answer =
    (MeansNone machines S x × (answer ≡ no_entry x))
    ⊎ ((e : SealedEntry) × MeansEntry machines S x e
    × ((MeansNone machines S y × (answer ≡ no_entry y))
    ⊎ ((f : SealedEntry) × MeansEntry machines S y f × IsOrderOf S e f answer)))
