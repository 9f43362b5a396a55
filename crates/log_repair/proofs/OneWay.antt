-- What is taken on a way, that a way is the only one from a world, and that there is one.
use Rattle.log_repair.proofs.Imports.{◌≡◌, ◌≢◌, ◌∙◌, ℕ, zero, suc, ◌+◌, ◌<◌, ◌≤◌, arith, Bool, true, false, List, []}
use Rattle.log_repair.proofs.Imports.{◌∷◌, ◌++◌, length, Option, Some, None, refl, sym, ap, inl, inr, slice_get}
use Rattle.log_repair.proofs.Imports.{range_with_len, Step, Act, Hear, Node, World, Asks, ActsOn, Finishes, HearsOf}
use Rattle.log_repair.proofs.Imports.{Repairs, TakesRound, TakesTurn, bearer, wants, is_mended, goes_on, is_idle, acts}
use Rattle.log_repair.proofs.Imports.{InOrder, TakesNone, TakesStep, AddsEvent, SendsWithRoom, WorldsAreMendedInOneWay}
use Rattle.log_repair.proofs.Imports.{Event, happens, room, total}
use Rattle.log_repair.proofs.Events.{FillsRoom, Heard, fills_if, heard_if, step_moves}

-- from here the way leads on by some steps
abbrev pub Continues : {W : Type 0} → (W → List Step → W → Type 0) → W → Type 0
Continues {W} Way old = (steps : List Step) × (new : W) × Way old steps new

-- goes the way again and again, up to the first time that nothing changes
pub data Loops {W : Type 0} (Way : W → List Step → W → Type 0) : W → List Step → W → Type 0 where
  ends : (w : W) → Way w [] w → Loops Way w [] w
  goes : (old mid new : W) (first rest : List Step) → Way old first mid → first ≢ [] → Loops Way mid rest new →
      Loops Way old (first ++ rest) new

-- what is left of it: all, or nothing
abbrev pub LoopsWhile : {W : Type 0} → Bool → (W → List Step → W → Type 0) → W → List Step → W → Type 0
LoopsWhile true Way = Loops Way
LoopsWhile false Way = TakesNone

-- of which steps nothing is asked
abbrev pub AnyStep : {W : Type 0} → W → Step → Type 0
AnyStep w s = Unit {0}

-- the steps are taken one after another, and P is so of each
module _ {W : Type 0} (after : W → Step → W) (P : W → Step → Type 0) where
  abbrev pub AreTaken : W → List Step → W → Type 0
  AreTaken old [] new = new ≡ old
  AreTaken old (s ∷ steps) new = P old s × AreTaken (after old s) steps new

  taken_on : (first rest : List Step) (old mid new : W) → AreTaken old first mid → AreTaken mid rest new →
      AreTaken old (first ++ rest) new
  taken_on [] rest old mid new is more = rw is at more
  taken_on (s ∷ first) rest old mid new (so, one) more = (so, taken_on first rest (after old s) mid new one more)

  -- what is taken on the way is so, and there is no other way from there
  abbrev pub IsSure : (W → List Step → W → Type 0) → Type 0
  IsSure Way =
      (old new : W) (steps : List Step) → Way old steps new → AreTaken old steps new
      × ((other : W) (others : List Step) → Way old others other → (others ≡ steps) × (other ≡ new))

  none_sure : IsSure TakesNone
  none_sure old new steps (none, same) = (rw none same, λ other others (also, too). (cc, cc))

  pub step_sure : (step : Step) → ((w : W) → after w step ≢ w → P w step) → IsSure (TakesStep after step)
  step_sure step so old new steps (is, inl (differ, listed)) = (
    rw listed (so old (λ same. differ (is ∙ same)), is),
    λ other others (also, by). elim by [ inl (_, too) ↦ (cc, cc) | inr (same, _) ↦ absurd (differ cc) ],
  )
  step_sure step so old new steps (is, inr (same, none)) = (
    rw none same,
    λ other others (also, by). elim by [ inl (differ, _) ↦ absurd (differ cc) | inr (_, too) ↦ (cc, cc) ],
  )

  pub order_sure : {X : Type 0} (Way : X → W → List Step → W → Type 0) → ((x : X) → IsSure (Way x)) → (xs : List X) →
      IsSure (InOrder Way xs)
  order_sure Way each [] old new steps stays = none_sure old new steps stays
  order_sure Way each (x ∷ xs) old new steps (mid, first, rest, one, others, is) =
      let (here, only) = each x old mid first one in
      let (later, alone) = order_sure Way each xs mid new rest others in (
        rw is (taken_on first rest old mid new here later),
        λ other more (mid', first', rest', one', others', is').
            let (starts, meets) = only mid' first' one' in
            let (finish, same) = alone other rest' (rw meets at others') in (cc, same),
      )

  module _ (Way : W → List Step → W → Type 0) (each : IsSure Way) where
    loop_taken : (old new : W) (steps : List Step) → Loops Way old steps new → AreTaken old steps new
    loop_taken _ _ _ (ends w way) = refl
    loop_taken _ _ _ (goes old mid new first rest one some later) =
        taken_on first rest old mid new (each old mid first one).0 (loop_taken mid new rest later)

    loop_one : (old new : W) (steps : List Step) → Loops Way old steps new → (other : W) (others : List Step) →
        Loops Way old others other → (others ≡ steps) × (other ≡ new)
    loop_one _ _ _ (ends w way) _ _ (ends _ _) = (refl, refl)
    loop_one _ _ _ (ends w way) _ _ (goes _ mid' new' first' rest' one' some' later') =
        absurd (some' ((each w w [] way).1 mid' first' one').0)
    loop_one _ _ _ (goes old mid new first rest one some later) _ _ (ends _ way) =
        absurd (some (sym ((each old mid first one).1 old [] way).0))
    loop_one _ _ _ (goes old mid new first rest one some later) _ _
        (goes _ mid' new' first' rest' one' some' later') =
        let (starts, meets) = (each old mid first one).1 mid' first' one' in
        let (finish, same) = loop_one mid new rest later new' rest' (rw meets at later') in (cc, same)

    -- so is a way that is made of going it again and again
    pub loop_sure : (Other : W → List Step → W → Type 0) → ((old new : W) (steps : List Step) → Other old steps new →
        Loops Way old steps new) → IsSure Other
    loop_sure Other loop old new steps way = (
      loop_taken old new steps (loop old new steps way),
      λ other others also. loop_one old new steps (loop old new steps way) other others (loop old other others also),
    )

    -- going it once more, and then on unless nothing moved
    pub goes_further : (moves : Bool) (first : List Step) → (moves ≡ false → first ≡ []) → (old mid new : W)
        (rest : List Step) → Way old first mid → LoopsWhile moves Way mid rest new → Loops Way old (first ++ rest) new
    goes_further true [] none old mid new rest one more = rw (each old mid [] one).0 at more
    goes_further true (s ∷ first) none old mid new rest one more =
        goes old mid new (s ∷ first) rest one (λ no. cc) more
    goes_further false (s ∷ first) none old mid new rest one (bare, same) = absurd (cc (none refl))
    goes_further false [] none old mid new rest one (bare, same) =
        let still = (each old mid [] one).0 in
        rw (bare, same, still) (ends old (rw still at one))

    module _ (left : W → ℕ) (falls : (w : W) (s : Step) → P w s → 1 + left (after w s) ≡ left w) where
      pub left_taken : (steps : List Step) (old new : W) → AreTaken old steps new →
          left new + length steps ≡ left old
      left_taken [] old new is = omega (arith, ap left is)
      left_taken (s ∷ steps) old new (so, more) =
          omega (arith, falls old s so, left_taken steps (after old s) new more)

      once_more : (w : W) → Continues Way w → ((v : W) → left v < left w → Continues (Loops Way) v) →
          Continues (Loops Way) w
      once_more w ([], v, way) later = ([], v, goes_further false [] (λ is. refl) w v v [] way (refl, refl))
      once_more w (s ∷ steps, v, way) later =
          let (rest, new, more) = later v (omega (arith, left_taken (s ∷ steps) w v (each w v (s ∷ steps) way).0)) in
          ((s ∷ steps) ++ rest, new, goes w v new (s ∷ steps) rest way (λ none. cc) more)

      -- where less is left after each step it ends
      pub loop_within : ((w : W) → Continues Way w) → (most : ℕ) (w : W) → left w ≤ most → Continues (Loops Way) w
      loop_within on zero w low = once_more w (on w) (λ v less. absurd (omega (arith, low, less)))
      loop_within on (suc most) w low =
          once_more w (on w) (λ v less. loop_within on most v (omega (arith, low, less)))

-- where each way leads on, so do they in turn
pub order_continues : {X W : Type 0} (Way : X → W → List Step → W → Type 0) → ((x : X) (w : W) → Continues (Way x) w) →
    (xs : List X) (w : W) → Continues (InOrder Way xs) w
order_continues Way on [] w = ([], w, (refl, refl))
order_continues Way on (x ∷ xs) w =
    let (first, mid, one) = on x w in
    let (rest, new, others) = order_continues Way on xs mid in
    (first ++ rest, new, (mid, first, rest, one, others, refl))

-- ---- mending and finishing

module _ {T : Type 0} (node : T → Node) (after : World T → Step → World T) where
  -- mending is rounds again and again
  pub mends_in_rounds : (old new : World T) (steps : List Step) → Repairs node after old steps new →
      Loops (TakesRound node after) old steps new
  mends_in_rounds _ _ _ (is_mended w round) = ends w round
  mends_in_rounds _ _ _ (goes_on old mid new first rest round some later) =
      goes old mid new first rest round some (mends_in_rounds mid new rest later)

  pub rounds_mend : (old new : World T) (steps : List Step) → Loops (TakesRound node after) old steps new →
      Repairs node after old steps new
  rounds_mend _ _ _ (ends w round) = is_mended w round
  rounds_mend _ _ _ (goes old mid new first rest round some later) =
      goes_on old mid new first rest round some (rounds_mend mid new rest later)

  -- what a machine does is acting again and again
  pub does_in_acts : (m : ℕ) (old new : World T) (steps : List Step) → ActsOn node after m old steps new →
      Loops (TakesStep after (Act m)) old steps new
  does_in_acts m _ _ _ (is_idle w takes) = ends w takes
  does_in_acts m _ _ _ (acts old mid new rest takes later) =
      goes old mid new (Act m ∷ []) rest takes (λ none. cc) (does_in_acts m mid new rest later)

  pub acts_do : (m : ℕ) (old new : World T) (steps : List Step) → Loops (TakesStep after (Act m)) old steps new →
      ActsOn node after m old steps new
  acts_do m _ _ _ (ends w takes) = is_idle w takes
  acts_do m _ _ _ (goes old mid new first rest (is, inl (differ, listed)) some later) =
      rw listed (acts old mid new rest (is, inl (differ, refl)) (acts_do m mid new rest later))
  acts_do m _ _ _ (goes old mid new first rest (is, inr (same, none)) some later) = absurd (some none)

  module _ (P : World T → Step → Type 0) where
    module _ (hears : (at from number : ℕ) (w : World T) → after w (Hear at from number) ≢ w →
        P w (Hear at from number)) where
      hears_sure : (m : ℕ) (o : Option T) → IsSure after P (HearsOf node after m o)
      hears_sure m None = none_sure after P
      hears_sure m (Some e) = step_sure after P _ (hears m (node e).maker (node e).number)

      pub asks_sure : (m : ℕ) (d : List ℕ) → IsSure after P (Asks node after m d)
      asks_sure m d old = hears_sure m (bearer node d old) old

      pub turn_sure : (m : ℕ) → IsSure after P (TakesTurn node after m)
      turn_sure m old = order_sure after P (Asks node after m) (asks_sure m) (wants node (slice_get old m)) old

      pub round_sure : IsSure after P (TakesRound node after)
      round_sure old = order_sure after P (TakesTurn node after) turn_sure (range_with_len 0 (length old)) old

      pub repairs_sure : IsSure after P (Repairs node after)
      repairs_sure = loop_sure after P (TakesRound node after) round_sure (Repairs node after) mends_in_rounds

    module _ (does : (m : ℕ) (w : World T) → after w (Act m) ≢ w → P w (Act m)) where
      pub finishes_sure : IsSure after P (Finishes node after)
      finishes_sure old =
          order_sure after P (ActsOn node after)
          (λ m. loop_sure after P (TakesStep after (Act m)) (step_sure after P (Act m) (does m)) (ActsOn node after m)
          (does_in_acts m)) (range_with_len 0 (length old)) old

  -- there is no other way
  pub repairs_is_one : (old new : World T) (steps : List Step) → Repairs node after old steps new → (other : World T)
      (others : List Step) → Repairs node after old others other → (others ≡ steps) × (other ≡ new)
  repairs_is_one old new steps way = (repairs_sure AnyStep (λ _ _ _ _ _. tt) old new steps way).1

  pub finishes_is_one : (old new : World T) (steps : List Step) → Finishes node after old steps new →
      (other : World T) (others : List Step) → Finishes node after old others other → (others ≡ steps) × (other ≡ new)
  finishes_is_one old new steps way = (finishes_sure AnyStep (λ _ _ _. tt) old new steps way).1

module _ {T : Type 0} (node : T → Node) (next : ℕ → List (Event T) → Option T) (log : ℕ) where
  -- the world after a step
  abbrev after : World T → Step → World T
  after = happens node next log

  pub step_continues : (step : Step) → AddsEvent step → (w : World T) → Continues (TakesStep after step) w
  step_continues step adds w =
      elim (step_moves node next log step adds w) [
        | inl same ↦ ([], after w step, (refl, inr (same, refl)))
        | inr (more, _) ↦ (
          step ∷ [],
          after w step,
          (refl, inl (λ same. omega (arith, more, ap total same), refl)),
        )
      ]

  hears_continues : (m : ℕ) (o : Option T) (w : World T) → Continues (HearsOf node after m o) w
  hears_continues m None w = ([], w, (refl, refl))
  hears_continues m (Some e) w = step_continues (Hear m (node e).maker (node e).number) tt w

  pub asks_continue : (m : ℕ) (ds : List (List ℕ)) (w : World T) → Continues (InOrder (Asks node after m) ds) w
  asks_continue m ds w = order_continues (Asks node after m) (λ d v. hears_continues m (bearer node d v) v) ds w

  pub turns_continue : (ms : List ℕ) (w : World T) → Continues (InOrder (TakesTurn node after) ms) w
  turns_continue ms w =
      order_continues (TakesTurn node after) (λ m v. asks_continue m (wants node (slice_get v m)) v) ms w

  pub rounds_continue : (w : World T) → Continues (Loops (TakesRound node after)) w
  rounds_continue w =
      loop_within after (Heard node next log) (TakesRound node after)
      (round_sure node after (Heard node next log) (heard_if node next log)) (room log) (λ v s heard. heard.room)
      (λ v. turns_continue (range_with_len 0 (length v)) v) (room log w) w (omega arith)

  module _ (fits : SendsWithRoom next log) where
    pub acts_continue : (m : ℕ) (w : World T) → Continues (Loops (TakesStep after (Act m))) w
    acts_continue m w =
        loop_within after (FillsRoom node next log) (TakesStep after (Act m))
        (step_sure after (FillsRoom node next log) (Act m) (fills_if node next log fits (Act m) tt)) (room log)
        (λ v s less. less) (step_continues (Act m) tt) (room log w) w (omega arith)

    pub finishes_continue : (ms : List ℕ) (w : World T) → Continues (InOrder (ActsOn node after) ms) w
    finishes_continue ms w =
        order_continues (ActsOn node after)
        (λ m v. let (steps, new, way) = acts_continue m v in (steps, new, acts_do node after m v new steps way)) ms w

-- the law
pub worlds_are_mended_in_one_way : {T : Type 0} (node : T → Node) → WorldsAreMendedInOneWay node
worlds_are_mended_in_one_way node next log w =
    let after = happens node next log in
    let (steps, new, rounds) = rounds_continue node next log w in
    let mended = rounds_mend node after w new steps rounds in (
      (steps, new, mended, λ others end. repairs_is_one node after w new steps mended end others),
      λ fits.
          let (steps, new, done) = finishes_continue node next log fits (range_with_len 0 (length w)) w in
          (steps, new, done, λ others end. finishes_is_one node after w new steps done end others),
    )
