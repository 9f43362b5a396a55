-- A mark that is set aside, and gets its name back.
use Rattle.folder_calls.proofs.Goes.{goes_first, goes_step, now_any, nowhere, since_on, Step}
use Rattle.folder_calls.proofs.{Marks.aside_fewer, Marks.aside_on, Marks.aside_same, Steps.Content}
use Rattle.folder_calls.proofs.Steps.{differ, eq_self, kinds_differ, leaves_stands, name_fewer, name_of, shows_at}
use Rattle.folder_calls.specs.{Asides.AreElsewhere, Asides.IsSetAside, Placing.AreBegun, Placing.is_other, Sets.IsGone}
use Rattle.folder_calls.specs.World.{Does, does, FolderMoment, Goes, Leaves, MayHold, Moments, name_flushed, none_since}
use Rattle.folder_calls.specs.{World.one_more, World.renamed, World.stands, declared.begun.Begun.Begun}
use Rattle.std.proofs.Common.{[], arith, Bool, false, inl, inr, List, None, refl, subst, sym, true, ℕ, ⊎_elim, ◌∙◌, ◌∷◌}
use Rattle.std.proofs.Common.{◌≡◌}

-- a name is flushed
aside_flushed : (mark : Begun) (v w : FolderMoment) → IsSetAside mark v w
    → IsSetAside mark v (name_flushed (name_of mark) w)
aside_flushed mark v w aside = aside_on mark v w (name_flushed (name_of mark) w) aside
    (aside_fewer mark w (name_flushed (name_of mark) w) (name_fewer (name_of mark) w))

pub gone_free : (name : List ℕ) (w : FolderMoment) → w.at name ≡ None → IsGone name (name_flushed name w)
gone_free name w free = grind (arith, eq_self)

pub goes_flushed : (mark : Begun) (ok : Bool) (a m n : Moments) → Goes (IsSetAside mark) a m
    → Does (name_flushed (name_of mark)) ok m n → Goes (IsSetAside mark) a n
goes_flushed mark ok a m n goes did = goes_step (IsSetAside mark) (λ s any. aside_same mark s)
    (name_flushed (name_of mark)) ok a m n (λ s w any aside. aside) (λ s w any. aside_flushed mark s w)
    (now_any a) goes did

-- the mark has the other name
abbrev pub moved : Begun → List ℕ → Step
moved mark aside = renamed (name_of mark) aside

pub begun_moved : (mark : Begun) (aside : List ℕ) (bs : List Begun) (w : FolderMoment) → is_other (name_of mark) ≡ false
    → AreElsewhere aside bs → AreBegun bs w → AreBegun bs (name_flushed (name_of mark) (moved mark aside w))
begun_moved mark aside [] w plain elsewhere begun = tt
begun_moved mark aside (b ∷ bs) w plain elsewhere begun =
    grind (arith, differ, begun_moved mark aside bs w plain elsewhere.1 begun.2)

module _ (mark : Begun) (aside : List ℕ) (is_so : is_other aside ≡ true) where
  pub gone_moved : (w : FolderMoment) → is_other (name_of mark) ≡ false
      → IsGone (name_of mark) (name_flushed (name_of mark) (moved mark aside w))
  gone_moved w plain = gone_free (name_of mark) (moved mark aside w)
      (rw (kinds_differ (name_of mark) aside plain is_so, eq_self (name_of mark)) refl)

  aside_moved : (w : FolderMoment) → IsSetAside mark w (moved mark aside w)
  aside_moved w = record {
    leaves = λ name content plain left. ⊎_elim inr inl
        (leaves_stands w (name_of mark) name None content (rw (kinds_differ name aside plain is_so) at left));
    shows = λ name differs. shows_at (moved mark aside w) w name (λ i. refl)
        (λ plain. rw (kinds_differ name aside plain is_so, differs) refl);
    bytes = λ i. refl;
  }

  -- what stood under the mark's name stands under the other one
  abbrev IsHeld : FolderMoment → FolderMoment → Type 0
  IsHeld s w = IsSetAside mark s w
      × ((content : Content) → MayHold w (w.at aside) content → MayHold s (s.at (name_of mark)) content)

  -- the mark gets its name back
  restored : (first v : FolderMoment) → IsHeld first v → IsSetAside mark first (renamed aside (name_of mark) v)
  restored first v (set_aside, hold) = record {
    leaves = λ name content plain left. ⊎_elim
        (λ now. inl (subst (λ n. Leaves first n content) (sym now.0)
        (first.at (name_of mark), inl refl, hold content now.1)))
        (λ earlier. set_aside.leaves name content plain (rw (kinds_differ name aside plain is_so) at earlier))
        (leaves_stands (stands aside None v) (name_of mark) name (v.at aside) content left);
    shows = λ name differs. shows_at (renamed aside (name_of mark) v) v name (λ i. refl)
        (λ plain. rw (differs, kinds_differ name aside plain is_so) refl) ∙ set_aside.shows name differs;
    bytes = set_aside.bytes;
  }

  -- of the moments: the mark is set aside
  pub goes_moved : (ok : Bool) (a m : Moments) → Does (moved mark aside) ok a m → Goes (IsSetAside mark) a m
  goes_moved ok a m did =
      goes_first (IsSetAside mark) (moved mark aside) ok a m (λ s any. aside_moved s) (now_any a) did

  -- of the moments: it gets its name back
  pub goes_restored : (ok again : Bool) (a m n new : Moments) → m ≡ does (moved mark aside) a
      → Does (name_flushed (name_of mark)) ok m n → Does (renamed aside (name_of mark)) again n new
      → Goes (IsSetAside mark) a new
  goes_restored ok again [] m n new was flush did =
      let none = nowhere (name_flushed (name_of mark)) ok n (rw was at flush) in
      nowhere (renamed aside (name_of mark)) again new (rw none at did)
  goes_restored ok again (s ∷ ss) m n new was flush did =
      let start = moved mark aside s ∷ s ∷ ss in
      let held : IsHeld s (moved mark aside s) = (aside_moved s, λ content holds. rw (eq_self aside) at holds) in
      since_on new (one_more (moved mark aside s) (s ∷ ss) held.0 none_since)
      (goes_step {A = IsHeld s} (λ f w. IsHeld s w) (λ f holds. holds) (renamed aside (name_of mark)) again start n new
      (λ f w holds so. so.0) (λ f w holds so. restored s w so) held
      (goes_first {A = IsHeld s} (λ f w. IsHeld s w) (name_flushed (name_of mark)) ok start n
      (λ f holds. (aside_flushed mark s f holds.0, holds.1)) held (rw was at flush)) did)
