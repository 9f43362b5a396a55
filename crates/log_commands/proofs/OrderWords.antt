-- What the word says of two survivors, and what it promises.
use Rattle.log_commands.proofs.Imports
use Imports.{AreWhole, before, Bool, ComesFirst, Contains, Contains-map, False, false, false≢true, GraphsAreExact}
use Imports.{if◌then◌else◌, InEach, is_whole, IsBefore, IsGraphOf, IsWhole, IsWordOf, List, node_of, node_of_sealed}
use Imports.{order_back, order_seen, OrderWord, paths_are_settled, plain_of, plains, reaches, refl, SealedEntry}
use Imports.{slice_get, Some, Three, True, true, Unknown, whole_seen, word_by, ℕ, ◌↔◌, ◌≡◌, ◌≢◌}
use Rattle.log_commands.specs.declared.order_word.OrderWord.TheVariants as says

-- what is said of e before f
abbrev pub SaysBefore : List SealedEntry → SealedEntry → SealedEntry → Three → Type 0
SaysBefore S e f True = IsBefore S e f
SaysBefore S e f False = (IsBefore S e f → ⊥) × IsWhole node_of_sealed S f
SaysBefore S e f Unknown = (IsBefore S e f → ⊥) × (IsWhole node_of_sealed S f → ⊥)

-- what the graph says is so
pub graph_says : GraphsAreExact node_of_sealed → (S : List SealedEntry) (parents : ℕ → List ℕ) (ragged : ℕ → Bool) →
    IsGraphOf node_of_sealed S parents ragged → (y x : ℕ) (e f : SealedEntry) → slice_get S y ≡ Some e →
    slice_get S x ≡ Some f → SaysBefore S e f (before parents ragged y x)
graph_says exact S parents ragged graph y x e f at_y at_x =
    by (reaches parents x y x) (is_whole parents ragged x x) (exact S parents ragged graph y x e f at_y at_x)
  where
    -- by what it says, which is exact: whether f is whole counts only where e isn't before it
    by : (r w : Bool) → ((r ≡ true) ↔ IsBefore S e f) × ((w ≡ true) ↔ IsWhole node_of_sealed S f) →
        SaysBefore S e f (if r then True else if w then False else Unknown)
    by true w ((is_before, _), _) = is_before refl
    by false true ((_, reached), (whole, _)) = (λ path. false≢true (reached path), whole refl)
    by false false ((_, reached), (_, seen)) = (λ path. false≢true (reached path), λ whole. false≢true (seen whole))

-- the word by what is said this way and that way
pub word_is_right : (S : List SealedEntry) (e f : SealedEntry) (this that : Three) → e ≢ f → SaysBefore S e f this →
    SaysBefore S f e that → IsWordOf S e f (word_by this that)
word_is_right S e f True that differ here there = here
word_is_right S e f this True differ here there = there
word_is_right S e f False False differ (not_before, f_whole) (not_after, e_whole) =
    (record { differ = differ; not_before = not_before; not_after = not_after }, (e_whole, f_whole))
word_is_right S e f False Unknown differ (not_before, _) (not_after, e_lacks) =
    (record { differ = differ; not_before = not_before; not_after = not_after }, λ (e_whole, _). e_lacks e_whole)
word_is_right S e f Unknown that differ here there =
    (record { differ = differ; not_before = here.0; not_after = there.0 }, λ (_, f_whole). here.1 f_whole)

-- What the word promises of all that the entries may have been of which S survives: `before` and
-- `after` hold in each completion, of `apart` neither holds in any, and `unknown` is printed only
-- where one of the two isn't whole.
abbrev pub IsSettled : ℕ → List SealedEntry → SealedEntry → SealedEntry → OrderWord → Type 0
IsSettled machines S e f says.Same = e ≡ f
IsSettled machines S e f says.Before = InEach machines S (λ G. ComesFirst G e f)
IsSettled machines S e f says.After = InEach machines S (λ G. ComesFirst G f e)
IsSettled machines S e f says.Apart =
    (e ≢ f) × InEach machines S (λ G. (¬ ComesFirst G e f) × (¬ ComesFirst G f e))
IsSettled machines S e f says.Unknown = ¬ AreWhole S e f

-- a right word promises what it says of every completion
pub word_is_settled : (machines : ℕ) (S : List SealedEntry) (e f : SealedEntry) (word : OrderWord) → Contains S e → Contains S f → IsWordOf S e f word → IsSettled machines S e f word
word_is_settled machines S e f says.Same has_e has_f right = right
word_is_settled machines S e f says.Before has_e has_f right =
    λ G all. (paths_are_settled node_of machines (plains S) G all (plain_of e) (plain_of f)).0
    (order_seen node_of plain_of S e f right)
word_is_settled machines S e f says.After has_e has_f right =
    λ G all. (paths_are_settled node_of machines (plains S) G all (plain_of f) (plain_of e)).0
    (order_seen node_of plain_of S f e right)
word_is_settled machines S e f says.Apart has_e has_f (apart, (e_whole, f_whole)) = (
  apart.differ,
  λ G all. (
    λ path.
        apart.not_before (order_back node_of plain_of S e f has_e has_f
        ((paths_are_settled node_of machines (plains S) G all (plain_of e) (plain_of f)).1
        (Contains-map plain_of S f has_f) (whole_seen node_of plain_of S f has_f f_whole) path)),
    λ path.
        apart.not_after (order_back node_of plain_of S f e has_f has_e
        ((paths_are_settled node_of machines (plains S) G all (plain_of f) (plain_of e)).1
        (Contains-map plain_of S e has_e) (whole_seen node_of plain_of S e has_e e_whole) path)),
  ),
)
word_is_settled machines S e f says.Unknown has_e has_f (_, not_whole) = not_whole
