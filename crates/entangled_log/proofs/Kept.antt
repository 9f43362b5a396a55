-- What the type of a log keeps, when it is made and when an event is appended.
use Rattle.entangled_log.proofs.Imports.{[], ap, arith, Contains-map, entry_of, Event, greatest_push, HasNoDigestTwice}
use Rattle.entangled_log.proofs.Imports.{IsKept, IsLegal, IsLegal-push, length, length-append, List, max, MayFollow}
use Rattle.entangled_log.proofs.Imports.{new_from_may, Node, own_after, Places, refl, StandsFor, subst, sym, take, ℕ}
use Rattle.entangled_log.proofs.Imports.{◌++◌, ◌+◌, ◌<◌, ◌∙◌, ◌∷◌, ◌≡◌, ◌≤◌}
use Rattle.entangled_log.proofs.Own.{AreOwn-push}

module _ {T : Type 0} (node : T → Node) (owner capacity : ℕ) where
  -- a log with one event more
  pub IsKept-push : (events : List (Event T)) (x : Event T) (before after : Places) (own : List ℕ)
      (top room own_room : ℕ) → IsKept node owner capacity events before own top room own_room →
      MayFollow node owner events x → length events < capacity →
      StandsFor (λ x. node (entry_of x)) (events ++ x ∷ []) after → before.spare ≤ after.spare + 1 →
      IsKept node owner capacity (events ++ x ∷ []) after (own_after x (length events) own)
      (max top (node (entry_of x)).stamp) room own_room
  IsKept-push events x before after own top room own_room kept may some stands spare =
      let longer : length (events ++ x ∷ []) ≡ length events + 1 = length-append events (x ∷ []) in
      record {
        legal = IsLegal-push node owner events x kept.legal may;
        within = omega (arith, longer, some);
        stands = stands;
        own_places = AreOwn-push events x own kept.own_places;
        greatest = ap (λ n. max n (node (entry_of x)).stamp) kept.greatest ∙ sym (greatest_push node events x);
        reserved = kept.reserved;
        spare = omega (arith, longer, spare, kept.spare);
        own_reserved = kept.own_reserved;
      }

  -- what is kept stays kept where each field is replaced by an equal one
  pub IsKept-at : (events events' : List (Event T)) (frontier : Places) (own own' : List ℕ)
      (top top' room room' own_room own_room' : ℕ) → events ≡ events' → own ≡ own' → top ≡ top' → room ≡ room' →
      own_room ≡ own_room' → IsKept node owner capacity events frontier own top room own_room →
      IsKept node owner capacity events' frontier own' top' room' own_room'
  IsKept-at events events' frontier own own' top top' room room' own_room own_room' e o t r s kept =
      subst (λ n. IsKept node owner capacity events' frontier own' top' room' n) s
      (subst (λ n. IsKept node owner capacity events' frontier own' top' n own_room) r
      (subst (λ n. IsKept node owner capacity events' frontier own' n room own_room) t
      (subst (λ (ps : List ℕ). IsKept node owner capacity events' frontier ps top room own_room) o
      (subst (λ (h : List (Event T)). IsKept node owner capacity h frontier own top room own_room) e kept))))

-- a legal history has no digest twice
pub no_digest_twice : {T : Type 0} (node : T → Node) (owner : ℕ) (h : List (Event T)) → IsLegal node owner h →
    HasNoDigestTwice (λ x. node (entry_of x)) h
no_digest_twice node owner h legal before x later e y c =
    new_from_may node owner before x (legal before x later e) (entry_of y) (Contains-map (λ z. entry_of z) before y c)

-- all but the last
take_all : {A : Type 0} (xs : List A) (x : A) → take (length xs) (xs ++ x ∷ []) ≡ xs
take_all [] x = refl
take_all (y ∷ xs) x = ap (λ ys. y ∷ ys) (take_all xs x)

-- a frontier of some events is that of the first events of a history that is longer by one
pub stands_before : {X : Type 0} (node : X → Node) (events : List X) (x : X) (n : ℕ) (longer : List X)
    (places : Places) → StandsFor node events places → n ≡ length events → longer ≡ events ++ x ∷ [] →
    StandsFor node (take n longer) places
stands_before {X} node events x n longer places stands is same =
    subst (λ (h : List X). StandsFor node h places)
    (sym (ap (λ m. take m longer) is ∙ ap (take (length events)) same ∙ take_all events x)) stands
