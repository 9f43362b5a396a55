-- What each pass of a lock knows, the rule that ties the passes to the value, and the five kinds of
-- step that change what a pass knows. The queue of one place holds the value, or it is empty and
-- exactly one pass has the turn.
use Rattle.std.specs.Prelude.{◌≡◌, ℕ, ◌-◌, ◌<◌, true, false, List, [], ◌∷◌, ◌++◌, length, All, ◌⊎◌}
use mathlib.Core.Option.{some}
use mathlib.Core.List.{IsPrefix}
use lib.ListN.{get_elem?}
use Rattle.log_lock.specs.declared.story.Tick.{Tick}
use Rattle.log_lock.specs.declared.state.PassState.{PassState}
use Rattle.log_lock.specs.Ticks.{ticks_of, ticks_since}

-- what is left of a pass that was brought together with the other
abbrev pub spent : {B : Type 0} → PassState B
spent = record {
  alive = false;
  number = 0;
  both = false;
  turn = false;
  brand = [];
  bound = [];
  seen = [];
  mine = [];
  other_brand = [];
  other_seen = [];
  other_mine = [];
}

-- the one pass of a lock whose value is yet to come: it stands for both numbers and has the turn
abbrev pub whole : {B : Type 0} → PassState B
whole = record {
  alive = true;
  number = 0;
  both = true;
  turn = true;
  brand = [];
  bound = [];
  seen = [];
  mine = [];
  other_brand = [];
  other_seen = [];
  other_mine = [];
}

-- what the pass with the turn knows: it sits at the holder's seat, knows the whole story, and the
-- queue is empty
pub record KnowsStory {V B : Type 0} (holder : ℕ) (story : List Tick) (items : List V) (seat : ℕ) (v : PassState B)
    : Type 0 where
  pub holds : seat ≡ holder
  pub bound : v.bound ≡ story
  pub empty : items ≡ []

-- what a pass that stands for both numbers knows of the other number
pub record KnowsOther {B : Type 0} (seats : ℕ → ℕ) (brand : List B) (story : List Tick) (seat : ℕ) (v : PassState B)
    : Type 0 where
  pub sits : seat ≡ seats (1 - v.number)
  pub brand_is : v.other_brand ≡ brand
  pub seen : IsPrefix v.other_seen story
  pub mine : ticks_of (1 - v.number) story ≡ v.other_mine

-- what the rule says of one pass, which sits at `seat`: it knows a prefix of the story and its own
-- ticks; with the turn it knows the whole story, and the queue is empty; where it stands for both
-- numbers it knows the other's too
pub record FitsState {V B : Type 0} (seats : ℕ → ℕ) (holder : ℕ) (brand : List B) (story : List Tick) (items : List V)
    (seat : ℕ) (v : PassState B) : Type 0 where
  pub number : v.number < 2
  pub sits : seat ≡ seats v.number
  pub brand_is : v.brand ≡ brand
  pub seen : IsPrefix v.seen story
  pub mine : ticks_of v.number story ≡ v.mine
  pub turn : v.turn ≡ true → KnowsStory holder story items seat v
  pub both : v.both ≡ true → KnowsOther seats brand story seat v

-- the step "second pass made": what the first keeps
abbrev pub first_pass : {B : Type 0} → PassState B → PassState B
first_pass v = record v { both = false }

-- the step "second pass made": what the second gets
abbrev pub second_pass : {B : Type 0} → PassState B → PassState B
second_pass v = record v { number = 1; both = false; brand = v.other_brand; seen = v.other_seen; mine = v.other_mine }

-- the step "passes brought together": the first keeps what both know
abbrev pub both_passes : {B : Type 0} → PassState B → PassState B → PassState B
both_passes v w = record v { both = true; other_brand = w.brand; other_seen = w.seen; other_mine = w.mine }

-- the queue is empty, and the pass at this seat has the turn
pub record IsOut {V B : Type 0} (holder : ℕ) (items : List V) (views : List (PassState B)) : Type 0 where
  pub empty : items ≡ []
  pub pass : PassState B
  pub there : get_elem? views holder ≡ some pass
  pub turn : pass.turn ≡ true
  pub alive : pass.alive ≡ true

module _ {V B : Type 0} (brand_of : V → List B) (story_of : V → List Tick) where
  -- the queue holds the value
  pub record IsIn (brand : List B) (story : List Tick) (items : List V) : Type 0 where
    pub inside : V
    pub alone : items ≡ inside ∷ []
    pub brand_is : brand_of inside ≡ brand
    pub story_is : story_of inside ≡ story

  -- the rule
  pub record IsLocked (items : List V) (views : List (PassState B)) : Type 0 where
    pub seats : ℕ → ℕ
    pub holder : ℕ
    pub brand : List B
    pub story : List Tick
    pub passes : All (λ (t : Tick). t.pass < 2) story
    pub value : IsIn brand story items ⊎ IsOut holder items views
    pub each : (seat : ℕ) (v : PassState B) → get_elem? views seat ≡ some v → v.alive ≡ true →
        FitsState seats holder brand story items seat v

  -- the step "turn taken": the pass got the value, and is bound to its story. (Where the queue was
  -- empty, the step "no value", no view changes)
  pub record HasTurn (v : PassState B) (x : V) (w : PassState B) : Type 0 where
    pub after : w ≡ record v { turn = true; bound = story_of x }
    pub brand_is : brand_of x ≡ v.brand
    pub seen : IsPrefix v.seen (story_of x)
    pub mine : ticks_of v.number (story_of x) ≡ v.mine
    pub passes : All (λ (t : Tick). t.pass < 2) (story_of x)
    pub both : v.both ≡ true → (brand_of x ≡ v.other_brand) × IsPrefix v.other_seen (story_of x)
        × (ticks_of (1 - v.number) (story_of x) ≡ v.other_mine)

  -- the step "turn given up": the value goes back, and the pass has seen its story as it is now
  abbrev pub GivesUp : PassState B → V → PassState B → Type 0
  GivesUp v x w = w ≡ record v { turn = false; seen = story_of x; mine = v.mine ++ ticks_since v.bound (story_of x) }

  -- the first time the turn is given up: it fixes the brand
  abbrev pub Opens : PassState B → V → PassState B → Type 0
  Opens v x w = w ≡ record v { turn = false; brand = brand_of x; other_brand = brand_of x }

-- while a pass has the turn the queue is empty, so the value always finds room
abbrev pub KnowsEmpty : {V B : Type 0} → PassState B → List V → Type 0
KnowsEmpty v items = length items ≡ 0

-- while the one pass that stands for both numbers has no turn, the queue holds the value
abbrev pub KnowsValue : {V B : Type 0} → PassState B → List V → Type 0
KnowsValue v items = v.both ≡ true → 0 < length items
