-- Flushing, giving up, and the whole of it.
use Rattle.std.proofs.Common.{◌≡◌, ◌∙◌, ℕ, Bool, true, List, [], ◌∷◌, arith, refl, subst, inl, inr, ⊎_elim}
use Rattle.std.specs.Prelude.{IsTrue}
use Rattle.folder_calls.specs.declared.begun.Begun.{Begun}
use Rattle.folder_calls.specs.World.{FolderMoment, Moments, removed, file_flushed, does, Does, Now, Goes}
use Rattle.folder_calls.specs.Placing.{is_other, IsOldOrNew, AllInPlace, AreBegun, AreFlushed, IsFlushedMore, IsFewer}
use Rattle.folder_calls.specs.Placing.{HaveOtherNames}
pub use Rattle.folder_calls.proofs.{Goes.where_ok, Steps.between_fewer}
use Rattle.folder_calls.proofs.Goes.{now_any, now_did, goes_now, goes_then, goes_step}
use Rattle.folder_calls.proofs.Steps.{other_name_of, kinds_differ, between_same, placed_same, new_same, order_on}
use Rattle.folder_calls.proofs.Steps.{view_on, shows_at, fewer_old}

pub flushed_same_moment : (w : FolderMoment) → IsFlushedMore w w
flushed_same_moment w = search

flushed_on : (u v w : FolderMoment) → IsFlushedMore u v → IsFlushedMore v w → IsFlushedMore u w
flushed_on u v w first later = grind arith

-- one file's flush
pub one_flush : (i : ℕ) (w : FolderMoment) → IsFlushedMore w (file_flushed i w)
one_flush i w = grind arith

pub is_flushed : (i : ℕ) (w : FolderMoment) → IsTrue ((file_flushed i w).node i).flushed
is_flushed i w = grind arith

-- what is on the disk leaves a crash no more
pub flushed_fewer : (first w : FolderMoment) → IsFlushedMore first w → IsFewer first w
flushed_fewer first w more = grind arith

pub fewer_same : (w : FolderMoment) → IsFewer w w
fewer_same w = search

-- the file of another name is removed
pub one_removed : (other : List ℕ) (w : FolderMoment) → is_other other ≡ true → IsFewer w (removed other w)
one_removed other w is_so = record {
  leaves = λ name content plain left. rw (kinds_differ name other plain is_so) at left;
  shows = λ name. shows_at (removed other w) w name (λ i. refl)
      (λ plain. rw (kinds_differ name other plain is_so) refl);
  bytes = λ i. refl;
}

pub between_after : (bs : List Begun) (first v w : FolderMoment) → AreBegun bs first → IsFewer first v
    → IsOldOrNew bs v w → IsOldOrNew bs first w
between_after bs first v w begun fewer between = record {
  leaves = λ name content plain left. ⊎_elim (λ old. inl (fewer.leaves name content plain old))
      (λ new. inr (new_same bs v first name content fewer.bytes new)) (between.leaves name content plain left);
  order = order_on bs first v w fewer.bytes (fewer_old bs first first v begun fewer) between.order;
  shows = λ name. between.shows name ∙ view_on bs v first name fewer.bytes (fewer.shows name);
  bytes = λ i. between.bytes i ∙ fewer.bytes i;
}

pub done_after : (bs : List Begun) (first v w : FolderMoment) → IsFewer first v → AllInPlace bs v w
    → AllInPlace bs first w
done_after bs first v w fewer done = record {
  placed = placed_same bs w v first fewer.bytes done.placed;
  shows = λ name. done.shows name ∙ view_on bs v first name fewer.bytes (fewer.shows name);
}

-- where names stand for the same, the same files stand begun
pub begun_at : (bs : List Begun) (first w : FolderMoment) → ((name : List ℕ) → w.at name ≡ first.at name)
    → AreBegun bs first → AreBegun bs w
begun_at [] first w at begun = tt
begun_at (b ∷ bs) first w at begun = (
  record { stands = at (other_name_of b) ∙ begun.0.stands; other = begun.0.other; name = begun.0.name },
  begun.1,
  begun_at bs first w at begun.2,
)

-- one flush more
pub flush_more : (i : ℕ) (ok : Bool) (a ws new : Moments) → Goes IsFlushedMore a ws → Does (file_flushed i) ok ws new
    → Goes IsFlushedMore a new
flush_more i ok a ws new since did = goes_step IsFlushedMore (λ s any. flushed_same_moment s) (file_flushed i) ok
    a ws new (λ s w any more. more) (λ s w any more. flushed_on s w (file_flushed i w) more (one_flush i w))
    (now_any a) since did

-- where those that are left get flushed all are
abbrev pub Flushes : List Begun → List Begun → Moments → Type 0
Flushes all left ws = Now ws (λ w. (v : FolderMoment) → IsFlushedMore w v → AreFlushed left v → AreFlushed all v)

pub flushes_next : (all left : List Begun) (b : Begun) (bs : List Begun) (ws new : Moments) → left ≡ b ∷ bs
    → Flushes all left ws → new ≡ does (file_flushed b.number) ws → Flushes all bs new
flushes_next all left b bs ws new is so_far done = now_did _ ws new
    (λ w so v more flushed. so v (flushed_on w (file_flushed b.number w) v (one_flush b.number w) more)
    (more.flushed b.number (is_flushed b.number w), flushed))
    done (subst (λ l. Flushes all l ws) is so_far)

-- flushed, and then put in place
pub begun_now : (bs : List Begun) (a b : Moments) → Now a (AreBegun bs) → Goes IsFlushedMore a b → Now b (AreBegun bs)
begun_now bs a b begun since = goes_now IsFlushedMore (λ s are. flushed_same_moment s) a b
    (λ s w are more. begun_at bs s w more.at are) begun since

-- a flush alone is between
pub flush_is_between : (bs : List Begun) (s w : FolderMoment) → AreBegun bs s → IsFlushedMore s w → IsOldOrNew bs s w
flush_is_between bs s w are more = between_fewer bs s s w are (between_same bs s) (flushed_fewer s w more)

pub have_others : (bs : List Begun) (w : FolderMoment) → AreBegun bs w → HaveOtherNames bs
have_others [] w begun = tt
have_others (b ∷ bs) w begun = (begun.0.other, have_others bs w begun.2)

-- fewer and then fewer
fewer_on : (u v w : FolderMoment) → IsFewer u v → IsFewer v w → IsFewer u w
fewer_on u v w first later = grind arith

pub goes_fewer : (a b c : Moments) → Goes IsFewer a b → Goes IsFewer b c → Goes IsFewer a c
goes_fewer a b c first later = goes_then IsFewer (λ s any. fewer_same s) a b c (λ s w any fewer. fewer)
    (λ s v w any. fewer_on s v w) (now_any a) first later

-- what doesn't depend on the moment holds at a later one
pub others_goes : (P : Type 0) (a b : Moments) → Goes IsFewer a b → Now a (λ w. P) → Now b (λ w. P)
others_goes P a b goes here = goes_now IsFewer (λ s here. fewer_same s) a b (λ s w here fewer. here) here goes
