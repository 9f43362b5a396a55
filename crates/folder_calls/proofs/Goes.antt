-- What holds at moments, and from moments to later ones.
use Rattle.std.proofs.Common.{◌≡◌, Bool, [], ◌∷◌, refl, sym, subst, ⊎_elim, arith}
use Rattle.std.specs.Prelude.{◌⊎◌, ⊤, Result, Ok, Err, OnOk}
use Rattle.folder_calls.specs.World.{FolderMoment, Moments, does, Does, Now, Since, none_since, one_more, Goes}

-- what may hold at a moment, what two may have to do with each other, and what a call makes of one
abbrev pub Fact : Type 1
Fact = FolderMoment → Type 0

abbrev pub Tie : Type 1
Tie = FolderMoment → FolderMoment → Type 0

abbrev pub Step : Type 0
Step = FolderMoment → FolderMoment

-- moments after moments
pub since_on : {P : Fact} {a b : Moments} (c : Moments) → Since P a b → Since P b c → Since P a c
since_on c first (none_since) = first
since_on c first (one_more w ws here rest) = one_more w ws here (since_on ws first rest)

pub since_map : {P Q : Fact} {a : Moments} (b : Moments) → ((w : FolderMoment) → P w → Q w) → Since P a b → Since Q a b
since_map b f (none_since) = none_since
since_map b f (one_more w ws here rest) = one_more w ws (f w here) (since_map ws f rest)

-- what holds at the first moment and at each one since holds now
pub since_now : {P : Fact} {a : Moments} (b : Moments) → Since P a b → Now a P → Now b P
since_now b (none_since) first = first
since_now b (one_more w ws here rest) first = here

-- a call that may have failed did its step or did nothing
either : (step : Step) (ok : Bool) (old new : Moments) → Does step ok old new → (new ≡ old) ⊎ (new ≡ does step old)
either step ok old new did = grind arith

pub nowhere : (step : Step) (ok : Bool) (new : Moments) → Does step ok [] new → new ≡ []
nowhere step ok new did = grind arith

-- what follows from what holds now
pub now_always : {P : Fact} (ws : Moments) → ((w : FolderMoment) → P w) → Now ws P
now_always [] f = tt
now_always (w ∷ ws) f = f w

pub now_any : (ws : Moments) → Now ws (λ w. ⊤)
now_any ws = now_always ws (λ w. tt)

pub now_map : {P Q : Fact} (ws : Moments) → ((w : FolderMoment) → P w → Q w) → Now ws P → Now ws Q
now_map [] f here = tt
now_map (w ∷ ws) f here = f w here

pub now_both : {P Q R : Fact} (ws : Moments) → ((w : FolderMoment) → P w → Q w → R w) → Now ws P → Now ws Q → Now ws R
now_both [] f here too = tt
now_both (w ∷ ws) f here too = f w here too

-- what a call makes of what held before, two calls, and one that may have failed
pub now_did : {P : Fact} (Q : Fact) {step : Step} (ws new : Moments) → ((w : FolderMoment) → P w → Q (step w))
    → new ≡ does step ws → Now ws P → Now new Q
now_did Q [] new f did here = rw did tt
now_did Q (w ∷ ws) new f did here = rw did (f w here)

pub now_did_both : {P : Fact} (Q : Fact) (step next : Step) (ws mid new : Moments)
    → ((w : FolderMoment) → P w → Q (next (step w))) → mid ≡ does step ws → new ≡ does next mid → Now ws P → Now new Q
now_did_both Q step next [] mid new f was is here = rw (is, was) tt
now_did_both Q step next (w ∷ ws) mid new f was is here = rw (is, was) (f w here)

pub now_does : {P Q : Fact} (step : Step) (ok : Bool) (ws new : Moments) → ((w : FolderMoment) → P w → Q w)
    → ((w : FolderMoment) → P w → Q (step w)) → Does step ok ws new → Now ws P → Now new Q
now_does {P} {Q} step ok ws new kept f did here = ⊎_elim (λ same. rw same (now_map ws kept here))
    (λ done. now_did Q ws new f done here) (either step ok ws new did)

-- no moment more
pub goes_none : (R : Tie) (a : Moments) → Goes R a a
goes_none R [] = refl
goes_none R (s ∷ ss) = none_since

pub goes_same : (R : Tie) (a b : Moments) → b ≡ a → Goes R a b
goes_same R a b same = rw same (goes_none R a)

-- one call, which may have failed
pub goes_first : {A : Fact} (S : Tie) (step : Step) (ok : Bool) (a b : Moments)
    → ((s : FolderMoment) → A s → S s (step s)) → Now a A → Does step ok a b → Goes S a b
goes_first S step ok [] b on given did = nowhere step ok b did
goes_first S step ok (s ∷ ss) b on given did = ⊎_elim (goes_same S (s ∷ ss) b)
    (λ is. rw is (one_more (step s) (s ∷ ss) (on s given) none_since)) (either step ok (s ∷ ss) b did)

-- each moment has something else to do with the first one, of which something is given
pub goes_map : {A : Fact} {R S : Tie} (a b : Moments) → ((s w : FolderMoment) → A s → R s w → S s w) → Now a A
    → Goes R a b → Goes S a b
goes_map [] b to given goes = goes
goes_map (s ∷ ss) b to given goes = since_map b (λ w. to s w given) goes

module _ {A : Fact} (R : Tie) (same : (s : FolderMoment) → A s → R s s) where
  -- what follows from what the last moment has to do with the first one
  pub goes_now : {P : Fact} (a b : Moments) → ((s w : FolderMoment) → A s → R s w → P w) → Now a A → Goes R a b
      → Now b P
  goes_now [] b to given goes = rw goes tt
  goes_now (s ∷ ss) b to given goes = now_map b (λ w. to s w given) (since_now b goes (same s given))

  -- moments that come after those, and what the last one has to do with the last of those
  pub goes_then : {Q S : Tie} (a b c : Moments) → ((s w : FolderMoment) → A s → R s w → S s w)
      → ((s v w : FolderMoment) → A s → R s v → Q v w → S s w) → Now a A → Goes R a b → Goes Q b c → Goes S a c
  goes_then {Q} [] b c to on given first later = subst (λ n. Goes Q n c) first later
  goes_then (s ∷ ss) [] c to on given first later = elim first [ ]
  goes_then (s ∷ ss) (v ∷ vs) c to on given first later = since_on c (since_map (v ∷ vs) (λ w. to s w given) first)
      (since_map c (λ w. on s v w given (since_now (v ∷ vs) first (same s given))) later)

  pub ends_then : {E F : Tie} (a b c : Moments) → ((s v w : FolderMoment) → A s → R s v → E v w → F s w) → Now a A
      → Goes R a b → Now b (λ v. Now c (E v)) → Now a (λ s. Now c (F s))
  ends_then [] b c on given first later = tt
  ends_then (s ∷ ss) [] c on given first later = elim first [ ]
  ends_then (s ∷ ss) (v ∷ vs) c on given first later =
      now_map c (λ w. on s v w given (since_now (v ∷ vs) first (same s given))) later

  -- one call more, which may have failed
  pub goes_step : {S : Tie} (step : Step) (ok : Bool) (a b c : Moments) → ((s w : FolderMoment) → A s → R s w → S s w)
      → ((s w : FolderMoment) → A s → R s w → S s (step w)) → Now a A → Goes R a b → Does step ok b c → Goes S a c
  goes_step {S} step ok a b c to on given goes did = goes_then a b c to
      (λ s v w given so is. subst (S s) (sym is) (on s v given so)) given goes
      (goes_first (λ v w. w ≡ step v) step ok b c (λ v any. refl) (now_any b) did)

-- what follows where a call succeeded
pub where_ok : {T E : Type 0} (r : Result T E) (P Q : Type 0) → (P → Q) → OnOk r P → OnOk r Q
where_ok (Ok x) P Q f p = f p
where_ok (Err e) P Q f p = tt
