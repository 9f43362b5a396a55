-- What the steps of a sweep keep: each entry is heard, lost or waiting.
use Rattle.finished_floor.proofs.Arriving.{arriving_all, arriving_kept, arriving_twice, is_of_parts, lost_either}
use Rattle.finished_floor.proofs.Imports.{[], AllPairs, AllPairs-filter, ap, append-nil, append_assoc, arith, arriving}
use Rattle.finished_floor.proofs.Imports.{Bool, Contains, eqb-true, Event, false, filter-append, get_or-append-add, Got}
use Rattle.finished_floor.proofs.Imports.{got_from, is_lost, is_of, IsBalanced, length, length-append, List, Loss}
use Rattle.finished_floor.proofs.Imports.{nat_tests, Node, not, refl, Sent, sent, sent-append, suc, sym, true, zero, ℕ}
use Rattle.finished_floor.proofs.Imports.{◌&&◌, ◌++◌, ◌+◌, ◌<◌, ◌==◌, ◌||◌, ◌∙◌, ◌∷◌, ◌≡◌, ◌≢◌}
use Rattle.finished_floor.proofs.{Lists.only_if, Pushes.got-append}

module _ {T : Type 0} (node : T → Node) where
  -- the numbers of what a machine sent rise
  abbrev pub AreRising : List T → Type 0
  AreRising es = AllPairs (λ x y. (node x).number < (node y).number) es

  -- so no other entry has the number of one of them
  rising_apart : (heard rest : List T) (e : T) → AreRising (heard ++ e ∷ rest) → (x : T) → Contains (heard ++ rest) x →
      (node x).number ≢ (node e).number
  rising_apart [] rest e rises x (k, inside, at) s =
      let lt = rises 0 (suc k) x (omega arith) (omega arith) in
      let n = ap (λ (y : T). (node y).number) at in
      omega arith
  rising_apart (y ∷ heard) rest e rises x (zero, inside, at) s =
      let len = length-append heard (e ∷ rest) in
      let lt = rises 0 (suc (length heard + 0)) e (omega arith) (omega arith) in
      let here = ap (λ (z : T). (node z).number) (get_or-append-add heard (e ∷ rest) 0 e) in
      let n = ap (λ (z : T). (node z).number) at in
      omega arith
  rising_apart (y ∷ heard) rest e rises x (suc k, inside, at) s =
      rising_apart heard rest e (λ i j d lt within. rises (suc i) (suc j) d (omega arith) (omega arith)) x
      (k, omega arith, at) s

  -- with one event more, or none, this is got from a machine
  got_more : (c : ℕ) (h : List (Event T)) (b : Bool) (e : T) →
      got_from node c (h ++ only_if b (Got e)) ≡ got_from node c h ++ only_if (b && ((node e).maker == c)) e
  got_more c h true e = rw (got-append, filter-append)
  got_more c h false e = rw (append-nil, append-nil)

  module _ (count : ℕ) (h g : ℕ → List (Event T)) (losses : List Loss) (waits later : ℕ → ℕ → List T) (a : ℕ) (e : T)
      (balanced : IsBalanced node count h losses waits) where
    -- the first that waits for a machine is heard
    pub balanced_heard : ((k : ℕ) → g k ≡ h k ++ only_if (a == k) (Got e)) →
        ((c d : ℕ) → waits c d ≡ only_if ((a == d) && ((node e).maker == c)) e ++ later c d) →
        IsBalanced node count g losses later
    balanced_heard grows takes c d lc ld differs =
        rw (grows c, grows d, unsent (h c) (a == c), got_more c (h d) (a == d) e, append_assoc, ← takes c d)
        (balanced c d lc ld differs)
      where
        -- the sender sent as much as before
        unsent : (h : List (Event T)) (b : Bool) → sent (h ++ only_if b (Got e)) ≡ sent h
        unsent h true = rw (sent-append, append-nil)
        unsent h false = rw append-nil

    -- one of the machines sends: its entry waits for each other
    pub balanced_sent : ((k : ℕ) → g k ≡ h k ++ only_if (a == k) (Sent e)) →
        ((c d : ℕ) → later c d ≡ waits c d ++ only_if (a == c) e) →
        ((d : ℕ) → is_lost losses a (node e).number d ≡ false) → IsBalanced node count g losses later
    balanced_sent grows here fresh c d lc ld differs =
        rw (
          grows c,
          grows d,
          here c d,
          not_got (h d) (a == d),
          sends (h c) (a == c),
          ← append_assoc,
          balanced c d lc ld differs,
        ) (sym (kept (a == c) (sent (h c)) (λ t. rw (← eqb-true a c t) (fresh d))))
      where
        -- the receiver got as much as before
        not_got : (h : List (Event T)) (b : Bool) → got_from node c (h ++ only_if b (Sent e)) ≡ got_from node c h
        not_got h true = rw (got-append, append-nil)
        not_got h false = rw append-nil

        -- the sender sent the entry
        sends : (h : List (Event T)) (b : Bool) → sent (h ++ only_if b (Sent e)) ≡ sent h ++ only_if b e
        sends h true = sent-append h (Sent e ∷ [])
        sends h false = rw (append-nil, append-nil)

        -- which isn't lost
        kept : (b : Bool) (es : List T) → (b ≡ true → is_lost losses c (node e).number d ≡ false) →
            arriving node losses c d (es ++ only_if b e) ≡ arriving node losses c d es ++ only_if b e
        kept true es fresh = arriving_kept node losses c d es e (fresh refl)
        kept false es fresh = rw (append-nil, append-nil)

    -- the first that waits for a machine is lost instead
    pub balanced_lost : (loss : Loss) → loss.from ≡ (node e).maker → loss.number ≡ (node e).number → loss.to ≡ a →
        ((c d : ℕ) → waits c d ≡ only_if ((a == d) && ((node e).maker == c)) e ++ later c d) →
        AreRising (sent (h (node e).maker)) → IsBalanced node count h (losses ++ loss ∷ []) later
    balanced_lost loss f n t takes rises c d lc ld differs =
        rw (
          arriving_twice node losses (loss ∷ []) (losses ++ loss ∷ []) c d (sent (h c))
              (λ x i. lost_either losses (loss ∷ []) c (node x).number d),
          ← balanced c d lc ld differs,
          takes c d,
        )
        (sym (gone ((a == d) && ((node e).maker == c)) (λ here. grind (arith, nat_tests))
        (λ x i. ap (λ b. b || false) (kept x i (is_of c (node x).number d loss) refl))))
      where
        -- what was got, and what still waits
        both : List T
        both = got_from node c (h d) ++ later c d

        -- it is gone, if it was on this way
        gone : (here : Bool) → (here ≡ true → is_of c (node e).number d loss ≡ true) →
            ((x : T) → Contains both x → is_lost (loss ∷ []) c (node x).number d ≡ false) →
            arriving node (loss ∷ []) c d (got_from node c (h d) ++ (only_if here e ++ later c d)) ≡ both
        gone true is others =
            rw (filter-append, is refl, ← filter-append _ (got_from node c (h d)) (later c d)) (arriving_all node (loss ∷ []) c d both others)
        gone false is others = arriving_all node (loss ∷ []) c d both others

        -- and no other is
        kept : (x : T) → Contains both x → (b : Bool) → is_of c (node x).number d loss ≡ b → b ≡ false
        kept x i false is = refl
        kept x i true is =
            let (from, number, to) = is_of_parts loss c (node x).number d is in
            let here : ((a == d) && ((node e).maker == c)) ≡ true = grind (arith, nat_tests) in
            let all = rw (takes c d, here) at (balanced c d lc ld differs) in
            absurd (rising_apart (got_from node c (h d)) (later c d) e
            (rw all (AllPairs-filter (λ x y. (node x).number < (node y).number)
            (λ x. not (is_lost losses c (node x).number d)) (sent (h c)) (rw (sym f ∙ from) at rises))) x i
            (sym number ∙ n))
