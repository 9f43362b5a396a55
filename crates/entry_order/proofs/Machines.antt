-- Worlds of which one machine is changed, and how many machines they have.
use Rattle.entry_order.proofs.Imports.Words
use Words.{Act, Event, Got, Hear, List, Machine, Node, Option, Sent, Some, Step, Stop, World, [], ap, arith, cond_both}
use Words.{false, happens, hear, history, length, length-append, play, refl, send, sent, slice_get, slice_get_read}
use Words.{start, stop, suc, sym, with_machine, zero, ℕ, ◌++◌, ◌<◌, ◌==◌, ◌∙◌, ◌∷◌, ◌≡◌}
use Rattle.std.proofs.lemmas.List.{get_or-replicate, length-replicate}

-- a world has as many machines as it was started with
pub length_start : (T : Type 0) (n : ℕ) → length (start {T = T} n) ≡ n
length_start T n = length-replicate n _

module _ {T : Type 0} where
  -- the machine that is changed
  pub get_same : (m : ℕ) (change : Machine T → Machine T) (v : World T) (a : Machine T) → slice_get v m ≡ Some a →
      slice_get (with_machine m change v) m ≡ Some (change a)
  get_same m change [] a e = cc
  get_same zero change (b ∷ v) a e = let same : b ≡ a = cc in ap (λ u. Some (change u)) same
  get_same (suc m) change (b ∷ v) a e = get_same m change v a e

  -- the others stay
  pub get_other : (m n : ℕ) (change : Machine T → Machine T) (v : World T) → (n ≡ m → ⊥) →
      slice_get (with_machine m change v) n ≡ slice_get v n
  get_other m n change [] e = refl
  get_other zero zero change (b ∷ v) e = absurd (e refl)
  get_other zero (suc n) change (b ∷ v) e = refl
  get_other (suc m) zero change (b ∷ v) e = refl
  get_other (suc m) (suc n) change (b ∷ v) e = get_other m n change v (λ s. e (ap suc s))

  -- no machine comes or goes
  pub length-with_machine : (m : ℕ) (change : Machine T → Machine T) (v : World T) →
      length (with_machine m change v) ≡ length v
  length-with_machine m change [] = refl
  length-with_machine zero change (b ∷ v) = refl
  length-with_machine (suc m) change (b ∷ v) = ap suc (length-with_machine m change v)

  -- at the start nothing has happened
  pub get_start : (n m : ℕ) → m < n → slice_get (start {T = T} n) m ≡ Some (record { history = []; stopped = false })
  get_start n m l = slice_get_read _ n m _ (sym (length_start T n)) l (sym (get_or-replicate n m _ _ l))

  -- a machine with an event is in the world
  pub in_world : (w : World T) (m : ℕ) (before : List (Event T)) (x : Event T) (later : List (Event T)) →
      history w m ≡ before ++ x ∷ later → m < length w
  in_world [] m before x later e = absurd (omega (arith, ap length e, length-append before (x ∷ later)))
  in_world (a ∷ w) zero before x later e = omega arith
  in_world (a ∷ w) (suc m) before x later e = let l = in_world w m before x later e in omega arith

  -- the entry that was sent after others, by its number
  pub nth_of_sent : (p : List (Event T)) (e : T) (l : List (Event T)) →
      slice_get (sent (p ++ Sent e ∷ l)) (length (sent p)) ≡ Some e
  nth_of_sent [] e l = refl
  nth_of_sent (Sent g ∷ p) e l = nth_of_sent p e l
  nth_of_sent (Got g ∷ p) e l = nth_of_sent p e l

module _ {T : Type 0} (node : T → Node) (next : ℕ → List (Event T) → Option T) (log : ℕ) where
  -- no step changes how many machines there are
  length_happens : (v : World T) (s : Step) → length (happens node next log v s) ≡ length v
  length_happens v (Act m) = length-with_machine m (λ a. send (next m a.history) a) v
  length_happens v (Hear at from number) =
      let change = hear node log (slice_get (sent (history v from)) number) in
      cond_both (at == from) v _ (λ u. length u ≡ length v) (λ _. refl) (λ _. length-with_machine at change v)
  length_happens v (Stop m) = length-with_machine m stop v

  -- steps leave the number of machines as it was
  pub length_play : (v : World T) (steps : List Step) → length (play node next log v steps) ≡ length v
  length_play v [] = refl
  length_play v (s ∷ steps) = length_play (happens node next log v s) steps ∙ length_happens v s
