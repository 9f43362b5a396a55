-- What is left under other names.
use Rattle.std.proofs.Common.{◌≡◌, ◌∙◌, ℕ, zero, suc, ◌+◌, ◌≤◌, ◌<◌, length, take, drop, get_or, arith, Bool, true}
use Rattle.std.proofs.Common.{false, List, [], ◌∷◌, ◌++◌, None, refl, ap, sym, subst, inl, inr}
use Rattle.std.specs.{Prelude.Result, Prelude.Ok, Prelude.Err, Prelude.is_ok, Prelude.OnErr, Prelude.IsErrAnd}
use Rattle.std.proofs.lemmas.List.{take-append-le, take_all, take-append-drop, take_more, length-take-le, length_push}
use Rattle.std.proofs.lemmas.List.{length-append}
use Rattle.folder_calls.specs.{declared.begun.Begun.Begun, declared.placing.Stopped.Stopped}
use Rattle.folder_calls.specs.World.{FolderMoment, Moments, renamed, removed, name_flushed, does, Does, Now}
use Rattle.folder_calls.specs.Placing.{is_other, AreBegun, HaveOtherNames}
use Rattle.folder_calls.specs.Leftovers.{AreGone, AreRenamed, AreFirstRenamed, IsRenaming}
use Rattle.folder_calls.proofs.Goes.{Step, now_any, now_always, now_map, now_both, now_did, now_does}
use Rattle.folder_calls.proofs.Steps.{name_of, other_name_of, after_rename, eq_self, differ, gone_from, at_item}

-- what stands under no other name stands under none after this
abbrev pub AddsNoOther : Step → FolderMoment → Type 0
AddsNoOther step w = (name : List ℕ) → is_other name ≡ true → w.at name ≡ None → (step w).at name ≡ None

pub removed_none : (gone : List ℕ) (w : FolderMoment) (name : List ℕ) → w.at name ≡ None
    → (removed gone w).at name ≡ None
removed_none gone w name none = grind arith

rename_adds_none : (from to : List ℕ) → is_other to ≡ false → (w : FolderMoment) → AddsNoOther (renamed from to) w
rename_adds_none from to plain w name other none = rw (differ name to other plain) (removed_none from w name none)

-- one call more leaves what was renamed
still_renamed : (step : Step) (bs : List Begun) (w : FolderMoment) → AddsNoOther step w → AreRenamed bs w
    → AreRenamed bs (step w)
still_renamed step [] w adds are = tt
still_renamed step (b ∷ bs) w adds are =
    (are.0, adds (other_name_of b) are.0 are.1, still_renamed step bs w adds are.2)

pub stay_renamed : (step : Step) (ok : Bool) (bs : List Begun) (ws new : Moments)
    → ((w : FolderMoment) → AddsNoOther step w) → Does step ok ws new → Now ws (AreRenamed bs) → Now new (AreRenamed bs)
stay_renamed step ok bs ws new adds did are =
    now_does step ok ws new (λ w are. are) (λ w. still_renamed step bs w (adds w)) did are

pub stay_flushed : (name : List ℕ) (ok : Bool) (bs : List Begun) (ws new : Moments) → Does (name_flushed name) ok ws new
    → Now ws (AreRenamed bs) → Now new (AreRenamed bs)
stay_flushed name ok bs ws new did are = stay_renamed (name_flushed name) ok bs ws new (λ w other so none. none) did are

-- what was renamed stays so where another file gets a name that isn't such
pub stay_named : (b : Begun) (ok : Bool) (bs : List Begun) (ws new : Moments) → Now ws (AreBegun (b ∷ []))
    → Does (after_rename b) ok ws new → Now ws (AreRenamed bs) → Now new (AreRenamed bs)
stay_named b ok bs ws new begun did are = now_does {P = λ w. AreBegun (b ∷ []) w × AreRenamed bs w} (after_rename b) ok
    ws new (λ w so. so.1) (λ w so. still_renamed (after_rename b) bs w
    (rename_adds_none (other_name_of b) (name_of b) so.0.0.name w) so.1) did
    (now_both ws (λ w begun are. (begun, are)) begun are)

pub stay_first : (from to : List ℕ) (ok : Bool) (n : ℕ) (bs : List Begun) (ws new : Moments)
    → Now ws (λ w. is_other to ≡ false) → Does (renamed from to) ok ws new → Now ws (AreFirstRenamed n bs)
    → Now new (AreFirstRenamed n bs)
stay_first from to ok n bs ws new plain did are = now_does {P = λ w. (is_other to ≡ false) × AreFirstRenamed n bs w}
    (renamed from to) ok ws new (λ w so. so.1) (λ w (plain, (few, are)).
    (few, still_renamed (renamed from to) (take n bs) w (rename_adds_none from to plain w) are))
    did (now_both ws (λ w plain are. (plain, are)) plain are)

-- a file that is renamed, and its name flushed or not
pub one_moved : (b : Begun) (ok : Bool) (ws mid new : Moments) → Now ws (AreBegun (b ∷ []))
    → mid ≡ does (after_rename b) ws → Does (name_flushed (name_of b)) ok mid new → Now new (AreRenamed (b ∷ []))
one_moved b ok ws mid new begun is did = stay_flushed (name_of b) ok (b ∷ []) mid new did
    (now_did (AreRenamed (b ∷ [])) ws mid (λ w are. (are.0.other, gone_from b w are.0, tt)) is begun)

-- no file was renamed
pub none_first : (n : ℕ) (bs : List Begun) (ws : Moments) → n ≡ 0 → Now ws (AreFirstRenamed n bs)
none_first n bs ws is = rw is (now_always ws (λ w. (omega arith, tt)))

pub none_renaming : {T : Type 0} (result : Result T Stopped) (stopped : Stopped) (bs : List Begun) (ws : Moments)
    → IsErrAnd result (λ found. found ≡ stopped) → stopped.renamed ≡ 0 → Now ws (IsRenaming result bs)
none_renaming (Ok done) stopped bs ws is none = absurd is
none_renaming (Err found) stopped bs ws is none =
    none_first found.renamed bs ws (ap (λ (s : Stopped). s.renamed) is ∙ none)

-- one file more
pub renamed_end : (bs : List Begun) (b : Begun) (w : FolderMoment) → AreRenamed bs w → AreRenamed (b ∷ []) w
    → AreRenamed (bs ++ b ∷ []) w
renamed_end [] b w are one = one
renamed_end (x ∷ xs) b w are one = (are.0, are.1, renamed_end xs b w are.2 one)

-- the first of them, and as many of one more
pub first_more : (bs : List Begun) (b : Begun) (more : List Begun) (n m : ℕ) → m ≤ length bs + n → (w : FolderMoment)
    → AreRenamed bs w → AreFirstRenamed n (b ∷ []) w → AreFirstRenamed m (bs ++ b ∷ more) w
first_more bs b more n zero within w are one = (omega arith, tt)
first_more [] b more zero (suc m) within w are one = absurd (omega arith)
first_more [] b more (suc n) (suc zero) within w are one = (omega arith, (one.1.0, one.1.1, tt))
first_more [] b more (suc n) (suc (suc m)) within w are one = absurd (omega (arith, one.0))
first_more (x ∷ xs) b more n (suc m) within w are one =
    let (few, rest) = first_more xs b more n m (omega arith) w are.2 one in (omega arith, (are.0, are.1, rest))

-- in a list, at a place
at_place : (all : List Begun) (i : ℕ) (b : Begun) → i < length all → b ≡ get_or all i b
    → take (i + 1) all ≡ take i all ++ b ∷ []
at_place all i b within is = cc (take_more all i b within)

pub stopped_there : (all : List Begun) (i n m placed : ℕ) (b : Begun) (new : Moments) → i < length all
    → b ≡ get_or all i b → Now new (AreRenamed (take i all)) → Now new (AreFirstRenamed n (b ∷ [])) → placed ≤ i
    → m ≤ placed + n → Now new (AreFirstRenamed m all)
stopped_there all i n m placed b new within is are one counted most =
    let long : length (take i all) ≡ i = length-take-le i all (omega arith) in
    let split : take i all ++ b ∷ drop (i + 1) all ≡ all = cc (at_item all i b within is, take-append-drop i all) in
    subst (λ l. Now new (AreFirstRenamed m l)) split
    (now_both new (first_more (take i all) b (drop (i + 1) all) n m (omega arith)) are one)

pub next_renamed : (all : List Begun) (i : ℕ) (b : Begun) (new : Moments) → i < length all → b ≡ get_or all i b
    → Now new (AreRenamed (take i all)) → Now new (AreRenamed (b ∷ [])) → Now new (AreRenamed (take (i + 1) all))
next_renamed all i b new within is are one =
    rw (at_place all i b within is) (now_both new (renamed_end (take i all) b) are one)

-- with more files, of which none was renamed
pub longer_renaming : {T : Type 0} (result : Result T Stopped) (stopped : Stopped) (bs more : List Begun) (ws : Moments)
    → IsErrAnd result (λ found. found ≡ stopped) → Now ws (AreFirstRenamed stopped.renamed bs)
    → Now ws (IsRenaming result (bs ++ more))
longer_renaming (Ok done) stopped bs more ws is are = absurd is
longer_renaming (Err found) stopped bs more ws is are = now_map ws
    (λ w (few, first). (omega (arith, length-append bs more), rw (take-append-le found.renamed bs more few) first))
    (subst (λ (s : Stopped). Now ws (AreFirstRenamed s.renamed bs)) (sym is) are)

-- what is gone
module _ (failed : List ℕ → Type 0) where
  pub renamed_gone : (bs : List Begun) (w : FolderMoment) → AreRenamed bs w → AreGone failed bs w
  renamed_gone [] w are = tt
  renamed_gone (b ∷ bs) w are = (inl are.1, renamed_gone bs w are.2)

  gone_append : (bs more : List Begun) (w : FolderMoment) → AreGone failed bs w → AreGone failed more w
      → AreGone failed (bs ++ more) w
  gone_append [] more w gone rest = rest
  gone_append (b ∷ bs) more w gone rest = (gone.0, gone_append bs more w gone.1 rest)

  -- the last of them comes first
  pub gone_turned : (bs : List Begun) (b : Begun) (w : FolderMoment) → AreGone failed (bs ++ b ∷ []) w
      → AreGone failed (b ∷ bs) w
  gone_turned [] b w gone = gone
  gone_turned (x ∷ xs) b w gone = let (own, rest) = gone_turned xs b w gone.1 in (own, (gone.0, rest))

  pub gone_next : (all : List Begun) (i : ℕ) (b : Begun) (new : Moments) → i < length all → b ≡ get_or all i b
      → Now new (AreGone failed (take i all)) → Now new (AreGone failed (b ∷ []))
      → Now new (AreGone failed (take (i + 1) all))
  gone_next all i b new within is gone one =
      rw (at_place all i b within is) (now_both new (gone_append (take i all) (b ∷ [])) gone one)

  pub gone_joined : (n : ℕ) (all : List Begun) (new : Moments) → Now new (AreGone failed (take n all))
      → Now new (AreGone failed (drop n all)) → Now new (AreGone failed all)
  gone_joined n all new gone rest = subst (λ l. Now new (AreGone failed l)) (take-append-drop n all)
      (now_both new (gone_append (take n all) (drop n all)) gone rest)

  -- of a set: the files that were renamed, the others, and the mark
  pub set_gone_before : (n : ℕ) (mark : Begun) (rest : List Begun) (new : Moments) → n ≤ length rest
      → Now new (AreGone failed (take n (rest ++ mark ∷ []))) → Now new (AreGone failed (drop n rest))
      → Now new (AreGone failed (mark ∷ [])) → Now new (AreGone failed (mark ∷ rest))
  set_gone_before n mark rest new within gone left own = now_both new (λ w own others. (own.0, others)) own
      (gone_joined n rest new (rw (take-append-le n rest (mark ∷ []) within) at gone) left)

  pub set_gone_whole : (n : ℕ) (mark : Begun) (rest : List Begun) (new : Moments) → length rest < n
      → Now new (AreGone failed (take n (rest ++ mark ∷ []))) → Now new (AreGone failed (mark ∷ rest))
  set_gone_whole n mark rest new past gone = now_map new (gone_turned rest mark)
      (rw (take_all n (rest ++ mark ∷ []) (omega (arith, length_push rest mark))) at gone)

-- what is gone stays so, where failed removals stay failed
module _ (before after : List ℕ → Type 0) (kept : (name : List ℕ) → before name → after name) where
  same_gone : (bs : List Begun) (v w : FolderMoment) → ((name : List ℕ) → v.at name ≡ None → w.at name ≡ None)
      → AreGone before bs v → AreGone after bs w
  same_gone [] v w none gone = tt
  same_gone (b ∷ bs) v w none (inl so, rest) = (inl (none (other_name_of b) so), same_gone bs v w none rest)
  same_gone (b ∷ bs) v w none (inr failed, rest) = (inr (kept (other_name_of b) failed), same_gone bs v w none rest)

  pub kept_gone : (bs : List Begun) (ws : Moments) → Now ws (AreGone before bs) → Now ws (AreGone after bs)
  kept_gone bs ws gone = now_map ws (λ w. same_gone bs w w (λ name none. none)) gone

  pub stay_gone : (x : List ℕ) (ok : Bool) (bs : List Begun) (ws new : Moments) → Does (removed x) ok ws new
      → Now ws (AreGone before bs) → Now new (AreGone after bs)
  stay_gone x ok bs ws new did gone = now_does (removed x) ok ws new (λ w. same_gone bs w w (λ name none. none))
      (λ w. same_gone bs w (removed x w) (removed_none x w)) did gone

-- the answer of a removal says which
pub one_gone : {T E : Type 0} (after : List ℕ → Type 0) (b : Begun) (result : Result T E) (ws new : Moments)
    → Does (removed (other_name_of b)) (is_ok result) ws new → OnErr result (after (other_name_of b))
    → Now new (AreGone after (b ∷ []))
one_gone after b (Err e) ws new did failed = now_always new (λ w. (inr failed, tt))
one_gone after b (Ok x) ws new did failed = now_did (AreGone after (b ∷ [])) ws new
    (λ w any. (inl (rw (eq_self (other_name_of b)) refl), tt)) did (now_any ws)

-- the files that are left
others_left : (n : ℕ) (bs : List Begun) → HaveOtherNames bs → HaveOtherNames (drop n bs)
others_left zero bs others = others
others_left (suc n) [] others = tt
others_left (suc n) (b ∷ bs) others = others_left n bs others.1

pub left_others : (n : ℕ) (bs left : List Begun) (ws : Moments) → left ≡ drop n bs → Now ws (λ w. HaveOtherNames bs)
    → Now ws (λ w. HaveOtherNames left)
left_others n bs left ws is others = rw is (now_map ws (λ w. others_left n bs) others)
