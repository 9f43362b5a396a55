-- The example's facts: its lists compute, and a path would begin where an entry is named.
use Rattle.counterexamples.proofs.Imports.{◌≡◌, ◌<◌, ◌≤◌, true, false, List, [], ◌∷◌, refl, sym, ◌∙◌, inl, inr, arith}
use Rattle.counterexamples.proofs.Imports.{Contains, true≢false, Sent, Got, Act, Hear, Node, is_named, Distinct}
use Rattle.counterexamples.proofs.Imports.{sent_in, IsLegalNext, HeldBefore, HeldBefore.itself, HeldBefore.descendant}
use Rattle.counterexamples.proofs.Imports.{Precedes, NamesNoGap, IsWhole, DigestTellsNumber, digest_of, shown}
use Rattle.counterexamples.proofs.Imports.{example_entry, next_example, a0, a1, b0, b1, c0, c1, without_b0, IsExample}
use Rattle.counterexamples.proofs.Imports.{Contains-none, Contains-cons_cases, is_named_of, rises_along, made_is_lawful}
use Rattle.counterexamples.proofs.Imports.{numbered_is_distinct, Contains-one, All, All-from_recursion, ◌≢◌, ◌⊎◌}
use Rattle.counterexamples.specs.Example.{Entry, world}

-- the machines of the example follow the rules
lawful : IsLegalNext shown next_example
lawful =
    made_is_lawful shown example_entry
    (record { maker = λ m n s ns. refl; number = λ m n s ns. refl; stamp = λ m n s ns. refl; names = λ m n s ns. refl })
    (λ m h. true)

-- the digests of the example determine maker and number
pub tells_number : DigestTellsNumber shown
tells_number e f is = (cc, cc)

-- from an entry that none of E names no path leads on
pub no_path : {T : Type 0} (node : T → Node) (E : List T) (f : T) → is_named node E (node f).digest ≡ false →
    (e : T) → ¬ (Precedes node E f e)
no_path node E f free e (cf, ce, [], n) = true≢false (sym (is_named_of node E (node f).digest (e, ce, n)) ∙ free)
no_path node E f free e (cf, ce, g ∷ gs, p) = true≢false (sym (is_named_of node E (node f).digest (g, p.0, p.1)) ∙ free)

-- two entries with two digests are distinct
pub distinct_two : {T : Type 0} (node : T → Node) (x y : T) → (node x).digest ≢ (node y).digest →
    Distinct node (x ∷ y ∷ [])
distinct_two {T} node x y differ e f ce cf is = by (one e ce) (one f cf)
  where
    -- a member is one of the two
    one : (z : T) → Contains (x ∷ y ∷ []) z → (x ≡ z) ⊎ (y ≡ z)
    one z c =
        elim (Contains-cons_cases x (y ∷ []) z c) [ inl here ↦ inl here | inr later ↦ inr (Contains-one y z later) ]

    by : (x ≡ e) ⊎ (y ≡ e) → (x ≡ f) ⊎ (y ≡ f) → e ≡ f
    by (inl a) (inl b) = cc
    by (inl a) (inr b) = absurd (differ (rw (a, b) is))
    by (inr a) (inl b) = absurd (differ (rw (a, b) (sym is)))
    by (inr a) (inr b) = cc

-- the example's entries have different digests
distinct : Distinct shown (sent_in world)
distinct =
    numbered_is_distinct shown next_example 64 3
    (Act 0 ∷ Hear 1 0 0 ∷ Act 1 ∷ Act 1 ∷ Hear 2 0 0 ∷ Hear 2 1 1 ∷ Act 2 ∷ Hear 2 1 0 ∷ Act 2 ∷ Act 0 ∷ [])
    lawful tells_number

-- the first was held before the second
held_before : HeldBefore world b0 c0
held_before =
    descendant (Got a0 ∷ Got b1 ∷ []) (2, Got b0 ∷ Sent c1 ∷ [], refl) (1, omega arith, refl)
    (itself (Got a0 ∷ Sent b0 ∷ []) (1, [], refl) (1, omega arith, refl))

-- and precedes it
precedes : Precedes shown (sent_in world) b0 c0
precedes = (
  (2, omega arith, refl),
  (4, omega arith, refl),
  b1 ∷ [],
  ((3, omega arith, refl), (0, omega arith, refl), (1, omega arith, refl)),
)

-- what a1 names is no gap
names_no_gap : NamesNoGap shown without_b0 a1
names_no_gap d named gap =
    let is : digest_of 0 0 ≡ d = Contains-one (digest_of 0 0) d named in
    let lost : digest_of 1 0 ≡ d = Contains-one (digest_of 1 0) d gap in
    cc

-- the others but a0 have stamps from 2 on
later_stamps : All (λ (e : Entry). 2 ≤ e.stamp) (a1 ∷ b1 ∷ c0 ∷ c1 ∷ [])
later_stamps =
    All-from_recursion (λ (e : Entry). 2 ≤ e.stamp) (a1 ∷ b1 ∷ c0 ∷ c1 ∷ [])
    (omega arith, (omega arith, (omega arith, (omega arith, tt))))

-- an entry that is left with a stamp below 2 is a0, which names nothing
names_none : (y : Entry) → Contains without_b0 y → y.stamp < 2 → NamesNoGap shown without_b0 y
names_none y c low d named gap =
    elim (Contains-cons_cases a0 (a1 ∷ b1 ∷ c0 ∷ c1 ∷ []) y c) [
      | inl is ↦ absurd (Contains-none d (rw (sym is) at named))
      | inr (k, within, there) ↦
          absurd (let high : 2 ≤ y.stamp = rw there at (later_stamps k y within) in omega arith)
    ]

-- the entry names nothing that is lost
whole : IsWhole shown without_b0 a1
whole = record {
  itself = names_no_gap;
  ancestors = λ y (there, here, gs, path). names_none y there (rises_along shown without_b0 y gs a1 there here path);
}

-- all facts of the example
pub is_example : IsExample
is_example = record {
  lawful = lawful;
  distinct = distinct;
  all_sent = refl;
  history_of_c = refl;
  held_before = held_before;
  precedes = precedes;
  not_before = no_path shown (sent_in world) a1 refl c1;
  not_after = no_path shown (sent_in world) c1 refl a1;
  no_stray = refl;
  gap = refl;
  not_whole = λ w. w.itself (digest_of 1 0) (0, omega arith, refl) (0, omega arith, refl);
  whole = whole;
}
