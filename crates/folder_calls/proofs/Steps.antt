-- What each call leaves of a crash.
use Rattle.folder_calls.proofs.Goes.{goes_first, goes_none, goes_step, now_both, nowhere, since_on, Step}
use Rattle.folder_calls.specs.Placing.{AllInPlace, AreBegun, AreFlushed, AreInPlace, AreOld, is_other, IsApart, IsFewer}
use Rattle.folder_calls.specs.Placing.{IsInOrder, IsInPlace, IsNewContent, IsOldOrNew, StandsBegun, StandsReady, view}
use Rattle.folder_calls.specs.World.{Does, does, FolderMoment, Goes, Leaves, MayHold, Moments, name_flushed, none_since}
use Rattle.folder_calls.specs.{World.Now, World.one_more, World.renamed, World.stands, declared.begun.Begun.Begun}
use Rattle.std.proofs.Common.{[], ap, arith, Bool, drop, false, get_or, inl, inr, length, List, None, Option, refl}
use Rattle.std.proofs.Common.{Some, subst, sym, true, ℕ, ⊎_elim, ◌+◌, ◌<◌, ◌∙◌, ◌∷◌, ◌≡◌}
use Rattle.std.proofs.lemmas.{Bool.false≢true, List.drop_more, Slice.Eq.bytes_eq-Decides}
use Rattle.std.specs.{Prelude.IsSome, Prelude.IsTrue, Prelude.string_bytes, Prelude.◌⊎◌, Str.bytes_eq}
pub use Rattle.folder_calls.proofs.Goes.{since_map, since_now}

-- what a crash may leave under a name
abbrev pub Content : Type 0
Content = Option (List ℕ)

-- the name that a file is to have, and the one that it has until then
abbrev pub name_of : Begun → List ℕ
name_of b = string_bytes b.name

abbrev pub other_name_of : Begun → List ℕ
other_name_of b = string_bytes b.other_name

pub same_name : (a b : List ℕ) → bytes_eq a b ≡ true → a ≡ b
same_name a b h = (bytes_eq-Decides a b).0 h

pub eq_self : (a : List ℕ) → bytes_eq a a ≡ true
eq_self a = (bytes_eq-Decides a a).1 refl

-- a name is another one, or isn't
compared : (a b : List ℕ) → (a ≡ b) ⊎ (bytes_eq a b ≡ false)
compared a b = elim (bytes_eq a b) as (λ t. bytes_eq a b ≡ t → (a ≡ b) ⊎ (t ≡ false)) [
  | true ↦ λ e. inl (same_name a b e)
  | false ↦ λ e. inr refl
] refl

pub not_same : (a b : List ℕ) → (a ≡ b → ⊥) → bytes_eq a b ≡ false
not_same a b apart = grind (arith, same_name)

pub apart_names : (a b : List ℕ) → bytes_eq a b ≡ false → a ≡ b → ⊥
apart_names a b differs is = cc ((bytes_eq-Decides a b).1 is)

turned : (a b : List ℕ) → bytes_eq a b ≡ false → bytes_eq b a ≡ false
turned a b differs = not_same b a (λ is. apart_names a b differs (sym is))

-- a name of one kind isn't one of the other
pub differ : (a b : List ℕ) → is_other a ≡ true → is_other b ≡ false → bytes_eq a b ≡ false
differ a b other plain = not_same a b (λ is. cc (ap is_other is))

pub kinds_differ : (a b : List ℕ) → is_other a ≡ false → is_other b ≡ true → bytes_eq a b ≡ false
kinds_differ a b plain other = not_same a b (λ is. cc (ap is_other is))

-- where the name stands for another entry, a crash leaves that, or what it might have left
pub leaves_stands : (w : FolderMoment) (changed name : List ℕ) (entry : Option ℕ) (content : Content)
    → Leaves (stands changed entry w) name content
    → ((name ≡ changed) × MayHold w entry content) ⊎ Leaves w name content
leaves_stands w changed name entry content left = grind (arith, same_name)

-- of a file that is on the disk a crash leaves its bytes
held : (w : FolderMoment) (i : ℕ) (content : Content) → IsTrue (w.node i).flushed → MayHold w (Some i) content
    → content ≡ Some (w.node i).bytes
held w i content flushed holds = grind arith

-- moments at which the bytes of the files are the same
abbrev pub SameBytes : FolderMoment → FolderMoment → Type 0
SameBytes v w = (i : ℕ) → (v.node i).bytes ≡ (w.node i).bytes

pub new_same : (begun : List Begun) (v w : FolderMoment) (name : List ℕ) (content : Content) → SameBytes v w
    → IsNewContent begun v name content → IsNewContent begun w name content
new_same [] v w name content same new = new
new_same (b ∷ bs) v w name content same new = grind (arith, same, new_same bs v w name content same)

pub placed_same : (begun : List Begun) (u v w : FolderMoment) → SameBytes v w → AreInPlace begun v u
    → AreInPlace begun w u
placed_same [] u v w same placed = tt
placed_same (b ∷ bs) u v w same placed =
    ((λ content left. placed.0 content left ∙ ap Some (same b.number)), placed_same bs u v w same placed.1)

-- what is flushed stays so
pub flushed_later : (bs : List Begun) (v w : FolderMoment)
    → ((i : ℕ) → IsTrue (v.node i).flushed → IsTrue (w.node i).flushed) → AreFlushed bs v → AreFlushed bs w
flushed_later [] v w more flushed = tt
flushed_later (b ∷ bs) v w more flushed = (more b.number flushed.0, flushed_later bs v w more flushed.1)

-- no name of the others is this one's
pub not_new : (b : Begun) (bs : List Begun) (w : FolderMoment) (content : Content) → IsApart b bs
    → IsNewContent bs w (name_of b) content → ⊥
not_new b [] w content apart new = new
not_new b (x ∷ xs) w content apart new =
    ⊎_elim (λ here. apart_names (name_of x) (name_of b) apart.0 here.0) (not_new b xs w content apart.2) new

-- the two moments of a file that is put in place
abbrev pub after_rename : Begun → Step
after_rename b = renamed (other_name_of b) (name_of b)

abbrev pub after_place : Begun → Step
after_place b w = name_flushed (name_of b) (after_rename b w)

-- where other names show the same in two moments, so they do beside one more
pub shows_more : (b : Begun) (bs : List Begun) (v w : FolderMoment) (name : List ℕ) → SameBytes v w
    → (bytes_eq name (name_of b) ≡ false → view bs v name ≡ view bs w name)
    → view (b ∷ bs) v name ≡ view (b ∷ bs) w name
shows_more b bs v w name same rest = grind (arith, same)

-- where what is in place shows the same in two moments, so do all
pub view_on : (bs : List Begun) (v w : FolderMoment) (name : List ℕ) → SameBytes v w → view [] v name ≡ view [] w name
    → view bs v name ≡ view bs w name
view_on [] v w name same base = base
view_on (x ∷ xs) v w name same base = shows_more x xs v w name same (λ differs. view_on xs v w name same base)

-- a name that stands for the same shows the same
pub shows_at : (v w : FolderMoment) (name : List ℕ) → SameBytes v w → (is_other name ≡ false → v.at name ≡ w.at name)
    → view [] v name ≡ view [] w name
shows_at v w name same at = grind (arith, same, at)

-- who looks under another name sees no change
unseen : (bs : List Begun) (b : Begun) (v w : FolderMoment) (name : List ℕ) → SameBytes v w
    → v.at name ≡ (after_rename b w).at name → StandsBegun b w → bytes_eq name (name_of b) ≡ false
    → view bs v name ≡ view bs w name
unseen bs b v w name same is begun differs = view_on bs v w name same (shows_at v w name same
    (λ plain. is ∙ rw (differs, kinds_differ name (other_name_of b) plain begun.other) refl))

-- its own name isn't one of the others
mine : (b : Begun) (bs : List Begun) (w : FolderMoment) → IsApart b bs → view bs w (name_of b) ≡ view [] w (name_of b)
mine b [] w apart = refl
mine b (x ∷ xs) w apart = rw (turned (name_of x) (name_of b) apart.0) (mine b xs w apart.2)

-- once it is in place the others show it
shows_placed : (b : Begun) (bs : List Begun) (w : FolderMoment) (name : List ℕ) → StandsBegun b w → IsApart b bs
    → view bs (after_place b w) name ≡ view (b ∷ bs) w name
shows_placed b bs w name begun apart = elim (compared name (name_of b)) [
  | inl is ↦ rw (is, eq_self (name_of b))
      (mine b bs (after_place b w) apart ∙ rw (begun.name, eq_self (name_of b), begun.stands) refl)
  | inr differs ↦ rw differs (unseen bs b (after_place b w) w name (λ i. refl) refl begun differs)
]

-- where under each other name no more may be left than at first, the others are old
pub others_old : (b : Begun) (bs : List Begun) (first w v : FolderMoment) → IsApart b bs → AreBegun bs v
    → ((name : List ℕ) (content : Content) → is_other name ≡ false → (name ≡ name_of b → ⊥) → Leaves w name content
    → Leaves first name content) → AreOld bs first w
others_old b [] first w v apart begun keeps = tt
others_old b (x ∷ xs) first w v apart begun keeps = (
  (λ content. keeps (name_of x) content begun.0.name (apart_names (name_of x) (name_of b) apart.0)),
  others_old b xs first w v apart.2 begun.2 keeps,
)

all_old : (bs : List Begun) (w : FolderMoment) → AreOld bs w w
all_old [] w = tt
all_old (x ∷ xs) w = ((λ content left. left), all_old xs w)

pub old_on : (bs : List Begun) (u v w : FolderMoment) → AreOld bs v w → AreOld bs u v → AreOld bs u w
old_on [] u v w later earlier = tt
old_on (x ∷ xs) u v w later earlier = search (old_on xs u v w later.1 earlier.1, earlier.0, later.0)

pub placed_on : (bs : List Begun) (u v w : FolderMoment) → AreOld bs v w → AreInPlace bs u v → AreInPlace bs u w
placed_on [] u v w later placed = tt
placed_on (x ∷ xs) u v w later placed = search (placed_on xs u v w later.1 placed.1, placed.0, later.0)

-- an order since a later moment is one since an earlier one, and at a later one at which all are old
pub order_on : (bs : List Begun) (u v w : FolderMoment) → SameBytes v u → AreOld bs u v → IsInOrder bs v w
    → IsInOrder bs u w
order_on [] u v w same old order = tt
order_on (x ∷ xs) u v w same old (inl some) =
    inl ((λ content left. some.0 content left ∙ ap Some (same x.number)), order_on xs u v w same old.1 some.1)
order_on (x ∷ xs) u v w same old (inr none) = inr (old_on xs u v w none old.1)

order_then : (bs : List Begun) (u v w : FolderMoment) → AreOld bs v w → IsInOrder bs u v → IsInOrder bs u w
order_then [] u v w later order = tt
order_then (x ∷ xs) u v w later (inl some) =
    inl ((λ content left. some.0 content (later.0 content left)), order_then xs u v w later.1 some.1)
order_then (x ∷ xs) u v w later (inr none) = inr (old_on xs u v w later.1 none)

-- a crash leaves no more of the files
pub fewer_old : (bs : List Begun) (u v w : FolderMoment) → AreBegun bs u → IsFewer v w → AreOld bs v w
fewer_old [] u v w begun fewer = tt
fewer_old (b ∷ bs) u v w begun fewer =
    ((λ content. fewer.leaves (name_of b) content begun.0.name), fewer_old bs u v w begun.2 fewer)

pub name_fewer : (name : List ℕ) (w : FolderMoment) → IsFewer w (name_flushed name w)
name_fewer flushed w = grind arith

pub between_fewer : (bs : List Begun) (first v w : FolderMoment) → AreBegun bs first → IsOldOrNew bs first v
    → IsFewer v w → IsOldOrNew bs first w
between_fewer bs first v w begun between fewer = record {
  leaves = λ name content plain left. between.leaves name content plain (fewer.leaves name content plain left);
  order = order_then bs first v w (fewer_old bs first v w begun fewer) between.order;
  shows = λ name. view_on bs w v name fewer.bytes (fewer.shows name) ∙ between.shows name;
  bytes = λ i. fewer.bytes i ∙ between.bytes i;
}

pub between_same : (bs : List Begun) (w : FolderMoment) → IsOldOrNew bs w w
between_same bs w = record {
  leaves = λ name content plain left. inl left;
  order = none_moved bs;
  shows = λ name. refl;
  bytes = λ i. refl;
}
  where
    none_moved : (bs : List Begun) → IsInOrder bs w w
    none_moved [] = tt
    none_moved (x ∷ xs) = inr (all_old xs w)

-- the files after it are as they were
still_begun : (b x : Begun) (w : FolderMoment) → StandsBegun b w → bytes_eq (other_name_of x) (other_name_of b) ≡ false
    → StandsBegun x w → StandsBegun x (after_place b w)
still_begun b x w begun apart is = grind (arith, differ)

pub rest_begun : (b : Begun) (bs : List Begun) (w : FolderMoment) → StandsBegun b w → IsApart b bs → AreBegun bs w
    → AreBegun bs (after_place b w)
rest_begun b [] w begun apart are = tt
rest_begun b (x ∷ xs) w begun apart are =
    (still_begun b x w begun apart.1 are.0, are.1, rest_begun b xs w begun apart.2 are.2)

-- another file stands ready beside those that are left
pub still_ready : (x b : Begun) (bs : List Begun) (w : FolderMoment) → StandsReady x (b ∷ bs) w
    → StandsReady x bs (after_place b w)
still_ready x b bs w ((is, (_, here, apart), (begun, alone, rest)), flushed) = (
  (
    still_begun b x w begun (turned (other_name_of b) (other_name_of x) here) is,
    apart,
    rest_begun b bs w begun alone rest,
  ),
  flushed,
)

module _ (b : Begun) (bs : List Begun) (w : FolderMoment) (begun : AreBegun (b ∷ bs) w)
    (flushed : IsTrue (w.node b.number).flushed) where
  -- the two moments are between
  rename_leaves : (name : List ℕ) (content : Content) → is_other name ≡ false → Leaves (after_rename b w) name content
      → Leaves w name content ⊎ ((name ≡ name_of b) × (content ≡ Some (w.node b.number).bytes))
  rename_leaves name content plain left = ⊎_elim
      (λ now. inr (now.0, held w b.number content flushed (subst (λ e. MayHold w e content) begun.0.stands now.1)))
      (λ earlier. inl (rw (kinds_differ name (other_name_of b) plain begun.0.other) at earlier))
      (leaves_stands (stands (other_name_of b) None w) (name_of b) name (w.at (other_name_of b)) content left)

  renamed_old : AreOld bs w (after_rename b w)
  renamed_old = others_old b bs w (after_rename b w) w begun.1 begun.2 (λ name content plain differs left.
      ⊎_elim (λ old. old) (λ new. absurd (differs new.0)) (rename_leaves name content plain left))

  between_renamed : IsOldOrNew (b ∷ bs) w (after_rename b w)
  between_renamed = record {
    leaves = λ name content plain left.
        ⊎_elim inl (λ new. inr (inl (sym new.0, new.1))) (rename_leaves name content plain left);
    order = inr renamed_old;
    shows = λ name. shows_more b bs (after_rename b w) w name (λ i. refl)
        (unseen bs b (after_rename b w) w name (λ i. refl) refl begun.0);
    bytes = λ i. refl;
  }

  between_placed : IsOldOrNew (b ∷ bs) w (after_place b w)
  between_placed = between_fewer (b ∷ bs) w (after_rename b w) (after_place b w) begun between_renamed
      (name_fewer (name_of b) (after_rename b w))

  -- it stays in place while the others are put there
  is_placed : IsInPlace b w (after_place b w)
  is_placed content left = grind (arith, eq_self)

  stays_placed : (v : FolderMoment) → IsOldOrNew bs (after_place b w) v → IsInPlace b w v
  stays_placed v rest content left =
      ⊎_elim (is_placed content) (λ new. absurd (not_new b bs (after_place b w) content begun.1 new))
      (rest.leaves (name_of b) content begun.0.name left)

  -- what the others leave after it is what all leave
  goes_on : (v : FolderMoment) → IsOldOrNew bs (after_place b w) v → IsOldOrNew (b ∷ bs) w v
  goes_on v rest = record {
    leaves = λ name content plain left. ⊎_elim (between_placed.leaves name content plain)
        (λ new. inr (inr (new_same bs (after_place b w) w name content (λ i. refl) new)))
        (rest.leaves name content plain left);
    order = inl (
      stays_placed v rest,
      order_on bs w (after_place b w) v (λ i. refl)
          (old_on bs w (after_rename b w) (after_place b w)
          (fewer_old bs w _ _ begun.2 (name_fewer (name_of b) (after_rename b w))) renamed_old) rest.order,
    );
    shows = λ name. shows_more b bs v w name rest.bytes
        (λ differs. rest.shows name ∙ unseen bs b (after_place b w) w name (λ i. refl) refl begun.0 differs);
    bytes = rest.bytes;
  }

  -- the last of them is placed, and stays so
  placed_now : (v : FolderMoment) → IsOldOrNew bs (after_place b w) v → AllInPlace bs (after_place b w) v
      → AllInPlace (b ∷ bs) w v
  placed_now v rest done = record {
    placed = (stays_placed v rest, placed_same bs v (after_place b w) w (λ i. refl) done.placed);
    shows = λ name. done.shows name ∙ shows_placed b bs w name begun.0 begun.1;
  }

-- one file is one of several
pub one_shows : (b : Begun) (bs : List Begun) (v w : FolderMoment) → IsOldOrNew (b ∷ []) v w → (name : List ℕ)
    → view (b ∷ bs) w name ≡ view (b ∷ bs) v name
one_shows b bs v w one name = shows_more b bs w v name one.bytes
    (λ differs. view_on bs w v name one.bytes (rw differs at (one.shows name)))

-- the others are old meanwhile
pub one_old : (b : Begun) (bs : List Begun) (v x w : FolderMoment) → IsApart b bs → AreBegun bs v
    → IsOldOrNew (b ∷ []) x w → AreOld bs x w
one_old b bs v x w apart begun one = others_old b bs x w v apart begun (λ name content plain differs left.
    ⊎_elim (λ old. old) (⊎_elim (λ here. absurd (differs (sym here.0))) (λ none. absurd none))
    (one.leaves name content plain left))

pub of_several : (b : Begun) (bs : List Begun) (first w : FolderMoment) → AreBegun (b ∷ bs) first
    → IsOldOrNew (b ∷ []) first w → IsOldOrNew (b ∷ bs) first w
of_several b bs first w begun one = record {
  leaves = λ name content plain left.
      ⊎_elim inl (⊎_elim (λ here. inr (inl here)) (λ none. absurd none)) (one.leaves name content plain left);
  order = inr (one_old b bs first first w begun.1 begun.2 one);
  shows = one_shows b bs first w one;
  bytes = one.bytes;
}

-- what is still to be done completes what was begun
abbrev pub Completes : List Begun → Moments → List Begun → Moments → Type 0
Completes all start left now = (new : Moments) → Goes (IsOldOrNew left) now new → Goes (IsOldOrNew all) start new

abbrev pub CompletesPlaced : List Begun → Moments → List Begun → Moments → Type 0
CompletesPlaced all start left now = (new : Moments) → Goes (IsOldOrNew left) now new
    → Now now (λ w. Now new (AllInPlace left w)) → Now start (λ first. Now new (AllInPlace all first))

abbrev pub placed_in : Begun → Moments → Moments
placed_in b ws = does (name_flushed (name_of b)) (does (after_rename b) ws)

pub completes : (b : Begun) (bs : List Begun) (ws : Moments) → Now ws (AreBegun (b ∷ bs)) → Now ws (AreFlushed (b ∷ bs))
    → Completes (b ∷ bs) ws bs (placed_in b ws)
completes b bs [] begun flushed new rest = rest
completes b bs (w ∷ ws) begun flushed new rest = since_on new
    (one_more (after_place b w) (after_rename b w ∷ w ∷ ws) (between_placed b bs w begun flushed.0)
    (one_more (after_rename b w) (w ∷ ws) (between_renamed b bs w begun flushed.0) none_since))
    (since_map new (goes_on b bs w begun flushed.0) rest)

pub completes_placed : (b : Begun) (bs : List Begun) (ws : Moments) → Now ws (AreBegun (b ∷ bs))
    → Now ws (AreFlushed (b ∷ bs)) → CompletesPlaced (b ∷ bs) ws bs (placed_in b ws)
completes_placed b bs [] begun flushed new rest placed = tt
completes_placed b bs (w ∷ ws) begun flushed new rest placed = now_both new (placed_now b bs w begun flushed.0)
    (since_now new rest (between_same bs (after_place b w))) placed

-- one file's calls, of which the last may have failed
pub one_renamed : (b : Begun) (ok : Bool) (ws new : Moments) → Now ws (AreBegun (b ∷ [])) → Now ws (AreFlushed (b ∷ []))
    → Does (after_rename b) ok ws new → Goes (IsOldOrNew (b ∷ [])) ws new
one_renamed b ok ws new begun flushed did = goes_first
    {A = λ w. AreBegun (b ∷ []) w × AreFlushed (b ∷ []) w} (IsOldOrNew (b ∷ [])) (after_rename b) ok ws new
    (λ w are. between_renamed b [] w are.0 are.1.0) (now_both ws (λ w are so. (are, so)) begun flushed) did

pub one_placed : (b : Begun) (ok : Bool) (ws mid new : Moments) → Now ws (AreBegun (b ∷ []))
    → Now ws (AreFlushed (b ∷ [])) → mid ≡ does (after_rename b) ws → Does (name_flushed (name_of b)) ok mid new
    → Goes (IsOldOrNew (b ∷ [])) ws new
one_placed b ok ws mid new begun flushed is did = goes_step (IsOldOrNew (b ∷ [])) (λ s are. between_same (b ∷ []) s)
    (name_flushed (name_of b)) ok ws mid new (λ s w are so. so)
    (λ s w are so. between_fewer (b ∷ []) s w (name_flushed (name_of b) w) are so (name_fewer (name_of b) w))
    begun (one_renamed b true ws mid begun flushed is) did

-- where no file is left, none is to be placed
pub none_left : (ws : Moments) → Now ws (λ w. Now ws (AllInPlace [] w))
none_left [] = tt
none_left (w ∷ ws) = record { placed = tt; shows = λ name. refl }

-- one file alone is placed
pub one_done : (b : Begun) (ws new : Moments) → Now ws (AreBegun (b ∷ [])) → Now ws (AreFlushed (b ∷ []))
    → new ≡ placed_in b ws → Now ws (λ first. Now new (AllInPlace (b ∷ []) first))
one_done b ws new begun flushed done = rw done (completes_placed b [] ws begun flushed (placed_in b ws)
    (goes_none (IsOldOrNew []) (placed_in b ws)) (none_left (placed_in b ws)))

-- the files that are left, at a place in the list
pub at_item : (xs : List Begun) (i : ℕ) (x : Begun) → i < length xs → x ≡ get_or xs i x
    → drop i xs ≡ x ∷ drop (i + 1) xs
at_item xs i x within is = cc (drop_more xs i x within)

-- nothing stands under its other name once it is renamed, so a file that stands there wasn't
pub gone_from : (b : Begun) (w : FolderMoment) → StandsBegun b w → (after_rename b w).at (other_name_of b) ≡ None
gone_from b w begun = grind (arith, differ, eq_self)

pub unmoved : (b : Begun) (ok : Bool) (ws new : Moments) → Now ws (AreBegun (b ∷ [])) → Does (after_rename b) ok ws new
    → Now new (λ w. IsSome (w.at (other_name_of b))) → new ≡ ws
unmoved b ok [] new begun did there = nowhere _ ok new did
unmoved b false (w ∷ ws) new begun (inl same) there = same
unmoved b false (w ∷ ws) new begun (inr done) there = absurd (false≢true (rw (done, gone_from b w begun.0) at there))
unmoved b true (w ∷ ws) new begun done there = absurd (false≢true (rw (done, gone_from b w begun.0) at there))
