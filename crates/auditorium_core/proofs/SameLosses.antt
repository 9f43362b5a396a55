-- Losses of the same entries on the same ways, in order, are the same but for their causes.
use Rattle.auditorium_core.proofs.Imports.{[], All-contains, AllPairs, ap, arith, Contains, Contains-cons_cases}
use Rattle.auditorium_core.proofs.Imports.{Contains-head, Contains-later, Contains-none, DifferInCauses, DiffersInCause}
use Rattle.auditorium_core.proofs.Imports.{element_at, history, inl, inr, is_of_parts, IsOrderly, itself, length, List}
use Rattle.auditorium_core.proofs.Imports.{list_any_of, list_any_some, MachineState, member_at, node_of_sealed}
use Rattle.auditorium_core.proofs.Imports.{nth_split, one_at, refl, Script, SealedEntry, Sent, sent, slice_get, Some}
use Rattle.auditorium_core.proofs.Imports.{subst, suc, sym, true, true≢false, world_of, zero, ℕ, ◌<◌, ◌∙◌, ◌∷◌, ◌≡◌}
use Rattle.auditorium_core.proofs.Pairs.{same_member}
use Rattle.finished_floor.specs.declared.loss.LossWhy.TheVariants.{LogFull, Scripted, ToStopped}
use Rattle.finished_floor.specs.Losses.{AreLosses, IsCauseOf, IsOnWay, IsToldBefore}
use Rattle.finished_floor.specs.{Arrivals.is_lost, Arrivals.is_of, declared.loss.Loss.Loss, Scripted.is_scripted}

-- both are of one entry, on one way
abbrev SameWay : Loss → Loss → Type 0
SameWay x y = (x.from ≡ y.from) × (x.number ≡ y.number) × (x.to ≡ y.to)

-- for each of the losses the others have one of its entry, on its way
abbrev AreAmong : List Loss → List Loss → Type 0
AreAmong xs ys = (x : Loss) → Contains xs x → (y : Loss) × Contains ys y × SameWay x y

-- ---- losses in order

-- of losses in order the first is reported before each later one
first_told : (x : Loss) (xs : List Loss) (z : Loss) → AllPairs IsToldBefore (x ∷ xs) → Contains xs z → IsToldBefore x z
first_told x xs z told (i, within, is) =
    subst (IsToldBefore x) is (told zero (suc i) z (omega arith) (omega (arith, within)))

-- the later ones are in order
later_told : (x : Loss) (xs : List Loss) → AllPairs IsToldBefore (x ∷ xs) → AllPairs IsToldBefore xs
later_told x xs told i j d lt within = told (suc i) (suc j) d (omega (arith, lt)) (omega (arith, within))

-- a loss isn't reported before one of the same entry on the same way
not_same : (x z : Loss) → SameWay x z → IsToldBefore x z → ⊥
not_same x z same told = grind arith

-- no two are each reported before the other, up to their causes
not_both : (x y z w : Loss) → SameWay x z → SameWay y w → IsToldBefore y z → IsToldBefore x w → ⊥
not_both x y z w same also first second = grind arith

-- the first of both are of one entry, on one way
first_same : (x y : Loss) (xs ys : List Loss) → AllPairs IsToldBefore (x ∷ xs) → AllPairs IsToldBefore (y ∷ ys) →
    AreAmong (x ∷ xs) (y ∷ ys) → AreAmong (y ∷ ys) (x ∷ xs) → SameWay x y
first_same x y xs ys told others among back =
    let (z, there, same) = among x (Contains-head x xs) in
    let (w, here, also) = back y (Contains-head y ys) in
    elim (Contains-cons_cases y ys z there) [
      | inl is ↦ subst (SameWay x) (sym is) same
      | inr later ↦ elim (Contains-cons_cases x xs w here) [
        | inl is ↦ (let (f, n, t) = subst (SameWay y) (sym is) also in (sym f, sym n, sym t))
        | inr after ↦ absurd (not_both x y z w same also (first_told y ys z others later)
            (first_told x xs w told after))
      ]
    ]

-- the later ones are among the later others
later_among : (x y : Loss) (xs ys : List Loss) → AllPairs IsToldBefore (x ∷ xs) → SameWay x y →
    AreAmong (x ∷ xs) (y ∷ ys) → AreAmong xs ys
later_among x y xs ys told (f, n, t) among z inside =
    let (w, there, (g, m, u)) = among z (Contains-later x xs z inside) in
    elim (Contains-cons_cases y ys w there) [
      | inl is ↦
          (let (h, l, v) : SameWay z y = subst (SameWay z) (sym is) (g, m, u) in
          absurd (not_same x z (f ∙ sym h, n ∙ sym l, t ∙ sym v) (first_told x xs z told inside)))
      | inr later ↦ (w, later, (g, m, u))
    ]

-- of one entry on one way a loss differs in its cause alone
cause_alone : (x y : Loss) → SameWay x y → y ≡ record x { why = y.why }
cause_alone x y (f, n, t) = λ i. record { from = sym f i; number = sym n i; to = sym t i; why = y.why }

-- the other way round
turned : (x y : Loss) → SameWay x y → SameWay y x
turned x y (f, n, t) = (sym f, sym n, sym t)

-- losses of one entry on one way differ so
abbrev AgreeSo : List Loss → List Loss → Type 0
AgreeSo xs ys = (x y : Loss) → Contains xs x → Contains ys y → SameWay x y → DiffersInCause x y

-- losses in order, of which each has one of the same entry and way among the others, differ in
-- their causes alone
alike : (xs ys : List Loss) → AllPairs IsToldBefore xs → AllPairs IsToldBefore ys → AreAmong xs ys → AreAmong ys xs →
    AgreeSo xs ys → DifferInCauses xs ys
alike [] [] told others among back agree = tt
alike [] (y ∷ ys) told others among back agree =
    let (x, none, same) = back y (Contains-head y ys) in absurd (Contains-none x none)
alike (x ∷ xs) [] told others among back agree =
    let (y, none, same) = among x (Contains-head x xs) in absurd (Contains-none y none)
alike (x ∷ xs) (y ∷ ys) told others among back agree =
    let same = first_same x y xs ys told others among back in (
      agree x y (Contains-head x xs) (Contains-head y ys) same,
      alike xs ys (later_told x xs told) (later_told y ys others) (later_among x y xs ys told same among)
          (later_among y x ys xs others (turned x y same) back)
          (λ z w inside there. agree z w (Contains-later x xs z inside) (Contains-later y ys w there)),
    )

-- losses in order have one of an entry on a way
one_on_way : (xs : List Loss) (x y : Loss) → AllPairs IsToldBefore xs → Contains xs x → Contains xs y → SameWay x y →
    x ≡ y
one_on_way xs x y told inside there same =
    same_member IsToldBefore xs told x y inside there (not_same x y same) (not_same y x (turned x y same))

-- ---- losses of one world

-- the entry of a machine with a number, if it sent so many
record IsSentSo (machines : List MachineState) (from number : ℕ) : Type 0 where
  entry : SealedEntry
  was_sent : Contains (sent (history (world_of machines) from)) entry
  numbered : entry.entry.number ≡ number

-- in an orderly world a machine sent an entry of each number below how many it sent
sent_so : (machines : List MachineState) → IsOrderly node_of_sealed (world_of machines) → (from number : ℕ) →
    number < length (sent (history (world_of machines) from)) → IsSentSo machines from number
sent_so machines orderly from number below =
    let h = history (world_of machines) from in
    let (e, at) = element_at (sent h) number below in
    let (before, later, is, count) = nth_split h number e at in
    record {
      entry = e;
      was_sent = member_at (sent h) number e at;
      numbered = (orderly.legal from before (Sent e) later is).1.number ∙ count;
    }

module _ (script : Script) (machines : List MachineState) (orderly : IsOrderly node_of_sealed (world_of machines)) where
  -- what is lost in one right list is lost in another
  among : (losses others : List Loss) → AreLosses script machines losses → AreLosses script machines others →
      AreAmong losses others
  among losses others is also l inside =
      let way = All-contains (IsOnWay machines) losses l is.only inside in
      let so = sent_so machines orderly l.from l.number way.number in
      let some : is_lost losses l.from so.entry.entry.number l.to ≡ true =
      rw so.numbered
      (list_any_of (is_of l.from l.number l.to) losses l inside (itself l l.from l.number l.to refl refl refl)) in
      elim (is.each l.from l.to so.entry way.from way.to way.other so.was_sent) [
        | inl (got, none) ↦ absurd (true≢false (sym some ∙ none))
        | inr (unheard, once) ↦ elim (also.each l.from l.to so.entry way.from way.to way.other so.was_sent) [
          | inl (got, none) ↦ absurd (unheard got)
          | inr (not_got, one) ↦
              (let (k, there, of) =
              list_any_some (is_of l.from so.entry.entry.number l.to) others one in
              let (from, number, to) = is_of_parts k l.from so.entry.entry.number l.to of in
              (k, there, (sym from, sym so.numbered ∙ sym number, sym to)))
        ]
      ]

  -- where a line of the script names what one right list has, it names what another has
  scripted_too : (losses others : List Loss) → AreLosses script machines losses → AreLosses script machines others →
      (x y : Loss) → Contains losses x → Contains others y → SameWay x y → x.why ≡ Scripted → y.why ≡ Scripted
  scripted_too losses others is also x y inside there (f, n, t) why =
      let way = All-contains (IsOnWay machines) others y also.only there in
      let cause = All-contains (λ (l : Loss). IsCauseOf script machines losses l l.why) losses x is.causes inside in
      let named : is_scripted script.loses x.from x.number x.to ≡ true = rw why at cause in
      let line : is_scripted script.loses y.from y.number y.to ≡ true = rw (f, n, t) at named in
      let same = one_on_way others (record y { why = Scripted }) y also.sorted
      (also.scripted y.from y.number y.to way.from way.to way.other way.number line) there (refl, refl, refl) in
      ap (λ (l : Loss). l.why) (sym same)

  -- of one entry on one way no loss is of a stopped receiver where another is of a full log
  not_full : (losses others : List Loss) → AreLosses script machines losses → AreLosses script machines others →
      (x y : Loss) → Contains losses x → Contains others y → SameWay x y → x.why ≡ ToStopped → y.why ≡ LogFull → ⊥
  not_full losses others is also x y inside there (f, n, t) why other_why =
      let cause = All-contains (λ (l : Loss). IsCauseOf script machines losses l l.why) losses x is.causes inside in
      let other = All-contains (λ (l : Loss). IsCauseOf script machines others l l.why) others y also.causes there in
      let (m, at, stopped) = rw why at cause in
      let (k, at', going, full) = rw other_why at other in
      let same : m ≡ k =
      one_at machines y.to m k (subst (λ (to : ℕ). slice_get machines to ≡ Some m) t at) at' in
      going (rw same at stopped)

  -- two right lists of what machines lost differ in their causes alone
  pub same_losses : (losses others : List Loss) → AreLosses script machines losses →
      AreLosses script machines others → DifferInCauses losses others
  same_losses losses others is also =
      alike losses others is.sorted also.sorted (among losses others is also) (among others losses also is)
      (λ x y inside there same. record {
        entry = cause_alone x y same;
        scripted = (
          scripted_too losses others is also x y inside there same,
          scripted_too others losses also is y x there inside (turned x y same),
        );
        stopped = not_full losses others is also x y inside there same;
        full = λ full stopped. not_full others losses also is y x there inside (turned x y same) stopped full;
      })
