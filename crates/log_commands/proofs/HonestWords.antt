-- What a word says of two entries that were sent in an honest world.
use Rattle.log_commands.proofs.Imports.{[], AreWhole, Completion, completion_seen, Contains, Contains-none, gaps}
use Rattle.log_commands.proofs.Imports.{HeldBefore, IsExactIn, IsWordIn, IsWordOf, List, node_of, node_of_sealed}
use Rattle.log_commands.proofs.Imports.{order_back, order_seen, OrderIsReceiptIn, OrderWord, plain_of, plains, refl}
use Rattle.log_commands.proofs.Imports.{SealedEntry, sent_in, subst, sym, World, ℕ, ◌≡◌, ◌≢◌}
use Rattle.log_commands.proofs.OrderWords.{IsSettled}
use Rattle.log_commands.specs.declared.order_word.OrderWord.TheVariants as says

module _ (w : World SealedEntry) (e f : SealedEntry) where
  -- what a word promises of each completion holds of what was sent, and so of what the machines
  -- held
  pub word_in : OrderIsReceiptIn node_of_sealed w → Contains (sent_in w) e → Contains (sent_in w) f →
      (machines : ℕ) (S : List SealedEntry) → Completion node_of_sealed machines S (sent_in w) → (word : OrderWord) →
      IsSettled machines S e f word → IsWordIn w e f word
  word_in receipt sent_e sent_f machines S all says.Same settled = settled
  word_in receipt sent_e sent_f machines S all says.Before settled =
      (receipt e f sent_e sent_f).0 (order_back node_of plain_of (sent_in w) e f sent_e sent_f
      (settled (plains (sent_in w)) (completion_seen node_of plain_of machines S (sent_in w) all)))
  word_in receipt sent_e sent_f machines S all says.After settled =
      (receipt f e sent_f sent_e).0 (order_back node_of plain_of (sent_in w) f e sent_f sent_e
      (settled (plains (sent_in w)) (completion_seen node_of plain_of machines S (sent_in w) all)))
  word_in receipt sent_e sent_f machines S all says.Apart (differ, settled) =
      let (not_before, not_after) =
      settled (plains (sent_in w)) (completion_seen node_of plain_of machines S (sent_in w) all) in (
        differ,
        λ held. not_before (order_seen node_of plain_of (sent_in w) e f ((receipt e f sent_e sent_f).1 held)),
        λ held. not_after (order_seen node_of plain_of (sent_in w) f e ((receipt f e sent_f sent_e).1 held)),
      )
  word_in receipt sent_e sent_f machines S all says.Unknown settled = tt

  -- where there is no gap, all is whole
  no_gap_whole : (S : List SealedEntry) → gaps node_of_sealed S ≡ [] → AreWhole S e f
  no_gap_whole S none =
      let no = λ (d : List ℕ) (c : Contains (gaps node_of_sealed S) d).
      Contains-none d (subst (λ (ds : List (List ℕ)). Contains ds d) none c) in (
        record { itself = λ d named gap. no d gap; ancestors = λ y before d named gap. no d gap },
        record { itself = λ d named gap. no d gap; ancestors = λ y before d named gap. no d gap },
      )

  -- without a gap no word is `unknown`
  pub word_known : (S : List SealedEntry) → gaps node_of_sealed S ≡ [] → (word : OrderWord) → IsWordOf S e f word →
      word ≢ says.Unknown
  word_known S none word right unknown =
      let is = subst (λ (this : OrderWord). IsWordOf S e f this) unknown right in is.1 (no_gap_whole S none)

  -- no entry was held before one that was held before it
  abbrev pub HasNoCycle : Type 0
  HasNoCycle = (g h : SealedEntry) → HeldBefore w g h → HeldBefore w h g → ⊥

  -- so where both are one entry, neither was held before the other
  none_of_itself : HasNoCycle → e ≡ f → (HeldBefore w e f → ⊥) × (HeldBefore w f e → ⊥)
  none_of_itself acyclic is =
      let no = λ (held : HeldBefore w e e). acyclic e e held held in (
        λ held. no (subst (λ (g : SealedEntry). HeldBefore w e g) (sym is) held),
        λ held. no (subst (λ (g : SealedEntry). HeldBefore w g e) (sym is) held),
      )

  -- a word that is right and known is exact
  pub word_exact : HasNoCycle → (word : OrderWord) → word ≢ says.Unknown → IsWordIn w e f word → IsExactIn w e f word
  word_exact acyclic word known is = record {
    known = known;
    each = λ other named. (
      λ same. subst (λ (this : OrderWord). IsWordIn w e f this) same is,
      λ holds. one word other known named is holds,
    );
  }
    where
      -- of the words that are known one alone is right
      one : (word other : OrderWord) → word ≢ says.Unknown → other ≢ says.Unknown → IsWordIn w e f word →
          IsWordIn w e f other → word ≡ other
      one says.Unknown other known named is holds = absurd (known refl)
      one word says.Unknown known named is holds = absurd (named refl)
      one says.Same says.Same known named is holds = refl
      one says.Same says.Before known named is holds = absurd ((none_of_itself acyclic is).0 holds)
      one says.Same says.After known named is holds = absurd ((none_of_itself acyclic is).1 holds)
      one says.Same says.Apart known named is (differ, not_before, not_after) = absurd (differ is)
      one says.Before says.Same known named is holds = absurd ((none_of_itself acyclic holds).0 is)
      one says.Before says.Before known named is holds = refl
      one says.Before says.After known named is holds = absurd (acyclic e f is holds)
      one says.Before says.Apart known named is (differ, not_before, not_after) = absurd (not_before is)
      one says.After says.Same known named is holds = absurd ((none_of_itself acyclic holds).1 is)
      one says.After says.Before known named is holds = absurd (acyclic e f holds is)
      one says.After says.After known named is holds = refl
      one says.After says.Apart known named is (differ, not_before, not_after) = absurd (not_after is)
      one says.Apart says.Same known named (differ, not_before, not_after) holds = absurd (differ holds)
      one says.Apart says.Before known named (differ, not_before, not_after) holds = absurd (not_before holds)
      one says.Apart says.After known named (differ, not_before, not_after) holds = absurd (not_after holds)
      one says.Apart says.Apart known named is holds = refl
