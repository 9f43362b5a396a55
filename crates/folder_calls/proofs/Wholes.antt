-- A set that is put in place, moment after moment.
use Rattle.folder_calls.proofs.Endings.{fewer_same, flushed_fewer, have_others}
use Rattle.folder_calls.proofs.Goes.{ends_then, goes_map, goes_now, goes_then, now_any, now_both, now_map, since_map}
use Rattle.folder_calls.proofs.{Goes.since_now, Goes.since_on, Marks.aside_fewer, Marks.aside_same, Marks.done_aside}
use Rattle.folder_calls.proofs.Marks.{done_fewer, done_mark, whole_after, whole_aside, whole_fewer, whole_mark}
use Rattle.folder_calls.proofs.{Marks.whole_rest, Steps.between_same, Steps.name_of}
use Rattle.folder_calls.specs.{Asides.IsSetAside, Placing.AllInPlace, Placing.AreBegun, Placing.AreFlushed}
use Rattle.folder_calls.specs.Placing.{HaveOtherNames, IsFewer, IsFlushedMore, IsOldOrNew, shown_files, StandsInOrder}
use Rattle.folder_calls.specs.{Placing.StandsReady, Placing.view, Sets.IsGone, Sets.IsPlacing, Sets.IsWholeSet}
use Rattle.folder_calls.specs.{Sets.marks_set, World.Goes, World.Moments, World.Now, declared.begun.Begun.Begun}
use Rattle.std.proofs.Common.{[], ap, false, List, refl, Some, subst, sym, true, ℕ, ◌∷◌, ◌≡◌}
use Rattle.std.proofs.Math.Path.{fun_ext}

module _ (mark : Begun) (rest : List Begun) where
  -- the mark stands ready beside the others
  pub both_ready : (a : Moments) → Now a (AreBegun (mark ∷ rest)) → Now a (AreFlushed (mark ∷ rest))
      → Now a (StandsReady mark rest)
  both_ready a begun flushed = now_both a (λ w are so. (are, (so.0, tt))) begun flushed

  -- the mark alone
  pub goes_aside : (a b : Moments) → Now a (AreBegun (mark ∷ rest)) → Goes (IsSetAside mark) a b
      → Goes (IsWholeSet mark rest) a b
  goes_aside a b begun goes = goes_map a b (whole_aside mark rest) begun goes

  pub after_aside : (a b c : Moments) → Now a (AreBegun (mark ∷ rest)) → Goes (IsSetAside mark) a b
      → Goes (IsWholeSet mark rest) b c → Goes (IsWholeSet mark rest) a c
  after_aside a b c begun first later = goes_then (IsSetAside mark) (λ s are. aside_same mark s) a b c
      (whole_aside mark rest) (whole_after mark rest) begun first later

  pub done_after_aside : (a b c : Moments) → Goes (IsSetAside mark) a b
      → Now b (λ v. Now c (AllInPlace (mark ∷ rest) v)) → Now a (λ s. Now c (AllInPlace (mark ∷ rest) s))
  done_after_aside a b c first done = ends_then (IsSetAside mark) (λ s any. aside_same mark s) a b c
      (λ s v w any. done_aside mark rest s v w) (now_any a) first done

  -- the others, and then the mark
  pub set_whole : (a b c : Moments) → Now a (AreBegun (mark ∷ rest)) → Now a (IsGone (name_of mark))
      → Goes (IsOldOrNew rest) a b → Now a (λ v. Now b (AllInPlace rest v)) → Goes (IsOldOrNew (mark ∷ [])) b c
      → Goes (IsWholeSet mark rest) a c
  set_whole [] b c begun gone before done last = subst (λ n. Goes (IsOldOrNew (mark ∷ [])) n c) before last
  set_whole (s ∷ ss) [] c begun gone before done last = elim before [ ]
  set_whole (s ∷ ss) (x ∷ xs) c begun gone before done last =
      let upto = since_now (x ∷ xs) before (between_same rest s) in
      since_on c (since_map (x ∷ xs) (λ w. whole_rest mark rest s begun w gone) before)
      (since_map c (λ w between. whole_mark mark rest s begun x w upto done between gone) last)

  pub set_done : (a b c : Moments) → Now a (AreBegun (mark ∷ rest)) → Goes (IsOldOrNew rest) a b
      → Now a (λ v. Now b (AllInPlace rest v)) → Goes (IsOldOrNew (mark ∷ [])) b c
      → Now b (λ x. Now c (AllInPlace (mark ∷ []) x)) → Now a (λ v. Now c (AllInPlace (mark ∷ rest) v))
  set_done [] b c begun before done last placed = tt
  set_done (s ∷ ss) [] c begun before done last placed = elim before [ ]
  set_done (s ∷ ss) (x ∷ xs) c begun before done last placed = now_both c
      (λ w. done_mark mark rest s begun x w (since_now (x ∷ xs) before (between_same rest s)) done)
      (since_now c last (between_same (mark ∷ []) x)) placed

  -- what is removed afterwards
  pub whole_then_fewer : (a b c : Moments) → Now a (AreBegun (mark ∷ rest)) → Goes (IsWholeSet mark rest) a b
      → Goes IsFewer b c → Goes (IsWholeSet mark rest) a c
  whole_then_fewer a b c begun first later = goes_then (IsWholeSet mark rest)
      (λ s are. whole_aside mark rest s s are (aside_same mark s)) a b c (λ s w are whole. whole)
      (whole_fewer mark rest) begun first later

  pub set_others_now : (a b : Moments) → Now a (AreBegun (mark ∷ rest)) → Goes (IsWholeSet mark rest) a b
      → Now b (λ w. HaveOtherNames (mark ∷ rest))
  set_others_now a b begun goes = goes_now (IsWholeSet mark rest)
      (λ s are. whole_aside mark rest s s are (aside_same mark s)) a b
      (λ s w are whole. have_others (mark ∷ rest) s are) begun goes

-- a flush sets nothing aside
pub flush_aside : (mark : Begun) (a b : Moments) → Goes IsFlushedMore a b → Goes (IsSetAside mark) a b
flush_aside mark a b goes =
    goes_map a b (λ s w any more. aside_fewer mark s w (flushed_fewer s w more)) (now_any a) goes

pub done_then_fewer : (bs : List Begun) (a b c : Moments) → Now a (AreBegun bs)
    → Now a (λ first. Now b (AllInPlace bs first)) → Goes IsFewer b c → Now a (λ first. Now c (AllInPlace bs first))
done_then_fewer bs [] b c begun done later = tt
done_then_fewer bs (s ∷ ss) b c begun done later = goes_now {A = AllInPlace bs s} IsFewer
    (λ v in_place. fewer_same v) b c (λ v w in_place fewer. done_fewer bs s v w begun in_place fewer) done later

-- either kind of files
pub placing_files : (bs : List Begun) (a b : Moments) → marks_set bs ≡ false → Goes (IsOldOrNew bs) a b
    → Goes (IsPlacing bs) a b
placing_files bs a b no_set goes = goes_map a b (λ s w any between. record {
  files = λ not_set. between;
  set = λ is_set. cc (no_set, is_set);
  shows = between.shows;
}) (now_any a) goes

pub placing_set : (bs : List Begun) (mark : Begun) (rest : List Begun) (a b : Moments) → bs ≡ mark ∷ rest
    → marks_set bs ≡ true → Goes (IsWholeSet mark rest) a b → Goes (IsPlacing bs) a b
placing_set bs mark rest a b is is_set goes = subst (λ l. Goes (IsPlacing l) a b) (sym is)
    (goes_map a b (λ s w any whole. record {
      files = λ not_set. cc (not_set, ap marks_set is, is_set);
      set = λ so. whole;
      shows = whole.shows;
    }) (now_any a) goes)

-- what the store shows when it is over
pub shows_same : (bs : List Begun) (a b : Moments) → Goes (IsPlacing bs) a b → shown_files bs b ≡ shown_files bs a
shows_same bs [] b goes = ap (shown_files bs) goes
shows_same bs (s ∷ ss) [] goes = elim goes [ ]
shows_same bs (s ∷ ss) (w ∷ ws) goes = ap Some
    (fun_ext (since_now {P = λ v. (name : List ℕ) → view bs v name ≡ view bs s name}
    (w ∷ ws) (since_map (w ∷ ws) (λ v placing. placing.shows) goes) (λ name. refl)))

pub shows_done : (bs : List Begun) (a b : Moments) → Goes (IsPlacing bs) a b
    → Now a (λ first. Now b (AllInPlace bs first)) → shown_files [] b ≡ shown_files bs a
shows_done bs [] b goes done = ap (shown_files []) goes
shows_done bs (s ∷ ss) [] goes done = elim goes [ ]
shows_done bs (s ∷ ss) (w ∷ ws) goes done = ap Some (fun_ext done.shows)

pub begun_of_ready : (bs : List Begun) (ws : Moments) → Now ws (StandsInOrder bs) → Now ws (AreBegun bs)
begun_of_ready bs ws ready = now_map ws (λ w so. so.stand) ready
