-- Files have at most one answer to `order`.
use Rattle.log_commands.proofs.Imports
use Imports.{Answer, ap, by_digest, by_number, Distinct, Done, entries_of, EntriesGiveOneGraph, EntryGraph, EntryName}
use Imports.{Equal, exact_bytes, Greater, inl, inr, IsBefore, IsNamedBy, IsOrderAmong, IsOrderAnswer, IsOrderOver}
use Imports.{IsOrderUnder, IsWordOf, Less, line_answer, List, LogFilesGiveOneAnswer, LogRead, MeansEntry, nat_cmp}
use Imports.{nat_list_cmp_total, node_of_sealed, NoSurvivorPrecedesItself, one_or, Option, order_word, Ordering}
use Imports.{ordering_reverse, OrderWord, Post, Precedes, precedes_over, refl, RosterFilesGiveOneAnswer, RosterRead}
use Imports.{SealedEntry, slice_cmp, subst, SurvivorsAreDistinct, sym, ℕ, ◌∙◌, ◌≡◌, ◌≢◌}
use Rattle.log_commands.proofs.EntryTexts.{one_name}
use Rattle.log_commands.specs.declared.order_word.OrderWord.TheVariants as says

-- files give one roster and one list of logs, entries give one graph, and its survivors are sound
pub record OrderOne : Type 0 where
  -- a roster's file gives one answer
  pub roster : RosterFilesGiveOneAnswer
  -- the files of logs give logs that say the same, or one refusal
  pub logs : LogFilesGiveOneAnswer
  -- given entries have graphs that agree, or one refusal
  pub graph : EntriesGiveOneGraph
  -- no two survivors have one digest
  pub digests : SurvivorsAreDistinct
  -- and none precedes itself
  pub no_cycle : NoSurvivorPrecedesItself

-- neither of two digests is lower only where they are one
same_digest : (d c : List ℕ) → slice_cmp nat_cmp d c ≢ Less → slice_cmp nat_cmp c d ≢ Less → d ≡ c
same_digest d c not_lower not_higher = by (slice_cmp nat_cmp d c) refl
  where
    -- by how the one compares with the other
    by : (o : Ordering) → slice_cmp nat_cmp d c ≡ o → d ≡ c
    by Less e = absurd (not_lower e)
    by Equal e = exact_bytes d c e
    by Greater e = absurd (not_higher (nat_list_cmp_total.antisymm c d ∙ ap ordering_reverse e))

module _ (machines : List Post) (S : List SealedEntry) (digests : Distinct node_of_sealed S) where
  -- a name is of one entry
  same_named : (name : EntryName) (e f : SealedEntry) → IsNamedBy machines S name e →
      IsNamedBy machines S name f → e ≡ f
  same_named (by_digest d) e f (has, is) (has', is') = digests e f has has' (is ∙ sym is')
  same_named (by_number m n) e f (has, numbered, least) (has', numbered', least') =
      digests e f has has' (same_digest e.digest f.digest (least' e has numbered) (least f has' numbered'))

  -- a word means one entry
  same_meant : (word : List ℕ) (e f : SealedEntry) → MeansEntry machines S word e → MeansEntry machines S word f → e ≡ f
  same_meant word e f (name, spelt, named) (other, spelt', named') =
      same_named name e f named
      (subst (λ n. IsNamedBy machines S n f) (sym (one_name word name other spelt spelt')) named')

module _ (S : List SealedEntry) (no_cycle : (e : SealedEntry) → ¬ Precedes node_of_sealed S e e) where
  -- no two entries are before each other
  not_both : (e f : SealedEntry) → IsBefore S e f → IsBefore S f e → ⊥
  not_both e f before after = no_cycle e (precedes_over node_of_sealed S e f e before after)

  -- where both are one entry, it isn't before itself
  not_itself : (e f : SealedEntry) → e ≡ f → IsBefore S e f → ⊥
  not_itself e f same before = no_cycle e (subst (λ g. IsBefore S e g) (sym same) before)

  -- in whichever order they are named
  not_itself_after : (e f : SealedEntry) → e ≡ f → IsBefore S f e → ⊥
  not_itself_after e f same before = no_cycle e (subst (λ g. IsBefore S g e) (sym same) before)

  -- of two entries one word is right
  same_word : (e f : SealedEntry) (word other : OrderWord) → IsWordOf S e f word → IsWordOf S e f other → word ≡ other
  same_word e f says.Same says.Same x y = refl
  same_word e f says.Same says.Before x y = absurd (not_itself e f x y)
  same_word e f says.Same says.After x y = absurd (not_itself_after e f x y)
  same_word e f says.Same other x y = absurd (y.0.differ x)
  same_word e f says.Before says.Same x y = absurd (not_itself e f y x)
  same_word e f says.Before says.Before x y = refl
  same_word e f says.Before says.After x y = absurd (not_both e f x y)
  same_word e f says.Before other x y = absurd (y.0.not_before x)
  same_word e f says.After says.Same x y = absurd (not_itself_after e f y x)
  same_word e f says.After says.Before x y = absurd (not_both e f y x)
  same_word e f says.After says.After x y = refl
  same_word e f says.After other x y = absurd (y.0.not_after x)
  same_word e f says.Apart says.Apart x y = refl
  same_word e f says.Apart says.Unknown x y = absurd (y.1 x.1)
  same_word e f says.Unknown says.Apart x y = absurd (x.1 y.1)
  same_word e f says.Unknown says.Unknown x y = refl
  same_word e f word says.Same x y = absurd (x.0.differ y)
  same_word e f word says.Before x y = absurd (x.0.not_before y)
  same_word e f word says.After x y = absurd (x.0.not_after y)

  -- so of two words for entries one answer is right
  same_among : (machines : List Post) (u v : List ℕ) (a b : Answer) → Distinct node_of_sealed S →
      IsOrderAmong machines S u v a → IsOrderAmong machines S u v b → a ≡ b
  same_among machines u v a b digests (inl (none, e)) (inl (none', e')) = e ∙ sym e'
  same_among machines u v a b digests (inl (none, e)) (inr (entry, means, is)) = absurd (none entry means)
  same_among machines u v a b digests (inr (entry, means, is)) (inl (none, e)) = absurd (none entry means)
  same_among machines u v a b digests (inr (e, means, inl (none, p))) (inr (f, means', inl (none', q))) = p ∙ sym q
  same_among machines u v a b digests (inr (e, _, inl (none, p))) (inr (f, _, inr (g, meant, q))) = absurd (none g meant)
  same_among machines u v a b digests (inr (e, _, inr (g, meant, p))) (inr (f, _, inl (none, q))) = absurd (none g meant)
  same_among machines u v a b digests (inr (e, means, inr (g, meant, p))) (inr (f, means', inr (h, meant', q))) =
      let first : f ≡ e = same_meant machines S digests u f e means' means in
      let second : h ≡ g = same_meant machines S digests v h g meant' meant in
      let other : IsWordOf S e g q.word =
      subst (λ z. IsWordOf S e z q.word) second (subst (λ z. IsWordOf S z h q.word) first q.right) in
      let word : p.word ≡ q.word = same_word e g p.word q.word p.right other in
      p.told ∙ ap (λ w. line_answer Done (order_word w)) word ∙ sym q.told

-- over given entries there is one answer
same_over : OrderOne → (machines : List Post) (u v : List ℕ) (given : List SealedEntry) (a b : Answer) →
    IsOrderOver machines u v given a → IsOrderOver machines u v given b → a ≡ b
same_over one machines u v given a b =
    one_or _ (λ (graph : EntryGraph SealedEntry). IsOrderAmong machines graph.survivors u v) a b (one.graph given)
    (λ f gives. same_among f.survivors (λ e. one.no_cycle given f e gives) machines u v a b (one.digests given f gives))

-- and so there is over the files of logs, under the roster that was read
same_under : OrderOne → (read : RosterRead) (u v : List ℕ) (logs : List (List ℕ)) (files : List (Option (List ℕ)))
    (a b : Answer) → IsOrderUnder read u v logs files a → IsOrderUnder read u v logs files b → a ≡ b
same_under one read u v logs files a b first second =
    one_or _ (λ (found : List LogRead). IsOrderOver read.roster.machines u v (entries_of found)) a b
    (one.logs read.roster.machines read.election logs files)
    (λ found gives. same_over one read.roster.machines u v (entries_of found) a b) first.right second.right

-- `order` has one answer over given files
pub same_order : OrderOne → (roster u v : List ℕ) (logs : List (List ℕ)) (file : Option (List ℕ))
    (files : List (Option (List ℕ))) (a b : Answer) → IsOrderAnswer roster u v logs file files a →
    IsOrderAnswer roster u v logs file files b → a ≡ b
same_order one roster u v logs file files a b first second =
    one_or _ (λ (read : RosterRead). IsOrderUnder read u v logs files) a b (one.roster roster file)
    (λ read gives. same_under one read u v logs files a b) first.right second.right
