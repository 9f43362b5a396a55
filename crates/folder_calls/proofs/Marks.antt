-- The mark of a set.
use Rattle.folder_calls.proofs.Steps.{Content, fewer_old, name_of, new_same, not_new, old_on, one_old, one_shows}
use Rattle.folder_calls.proofs.Steps.{others_old, placed_on, placed_same, shows_more, view_on}
use Rattle.folder_calls.specs.{Asides.IsSetAside, Placing.AllInPlace, Placing.AreBegun, Placing.AreOld, Placing.IsFewer}
use Rattle.folder_calls.specs.{Placing.IsOldOrNew, Placing.view, Sets.IsGone, Sets.IsWholeSet, World.FolderMoment}
use Rattle.folder_calls.specs.{World.Leaves, declared.begun.Begun.Begun}
use Rattle.std.proofs.Common.{[], ap, arith, inl, inr, List, rules, Some, ℕ, ⊎_elim, ◌∙◌, ◌∷◌, ◌≡◌}

module _ (mark : Begun) where
  -- moments at which the mark is set aside, one after the other
  pub aside_same : (w : FolderMoment) → IsSetAside mark w w
  aside_same w = search (rules, inl)

  pub aside_on : (u v w : FolderMoment) → IsSetAside mark u v → IsSetAside mark v w → IsSetAside mark u w
  aside_on u v w first later = record {
    leaves = λ name content plain left.
        ⊎_elim (first.leaves name content plain) inr (later.leaves name content plain left);
    shows = λ name differs. later.shows name differs ∙ first.shows name differs;
    bytes = λ i. later.bytes i ∙ first.bytes i;
  }

  pub aside_fewer : (first w : FolderMoment) → IsFewer first w → IsSetAside mark first w
  aside_fewer first w fewer = grind arith

module _ (mark : Begun) (rest : List Begun) where
  -- the others are old meanwhile
  aside_old : (first w : FolderMoment) → AreBegun (mark ∷ rest) first → IsSetAside mark first w → AreOld rest first w
  aside_old first w begun aside = others_old mark rest first w first begun.1 begun.2 (λ name content plain differs left.
      ⊎_elim (λ old. old) (λ none. absurd (differs none.0)) (aside.leaves name content plain left))

  aside_shows : (first w : FolderMoment) → IsSetAside mark first w → (name : List ℕ)
      → view (mark ∷ rest) w name ≡ view (mark ∷ rest) first name
  aside_shows first w aside name = shows_more mark rest w first name aside.bytes
      (λ differs. view_on rest w first name aside.bytes (aside.shows name differs))

  -- a mark that is set aside leaves a set that is old
  pub whole_aside : (first w : FolderMoment) → AreBegun (mark ∷ rest) first → IsSetAside mark first w
      → IsWholeSet mark rest first w
  whole_aside first w begun aside = record {
    leaves = λ name content plain left. ⊎_elim inl (λ none. inr (inr none)) (aside.leaves name content plain left);
    whole = inl (record {
      others = aside_old first w begun aside;
      own = λ content left. ⊎_elim inl (λ none. inr none.1) (aside.leaves (name_of mark) content begun.0.name left);
    });
    shows = aside_shows first w aside;
    bytes = aside.bytes;
  }

  -- what comes once the mark is set aside
  pub whole_after : (first v w : FolderMoment) → AreBegun (mark ∷ rest) first → IsSetAside mark first v
      → IsWholeSet mark rest v w → IsWholeSet mark rest first w
  whole_after first v w begun aside later = record {
    leaves = λ name content plain left. ⊎_elim
        (λ old. ⊎_elim inl (λ none. inr (inr none)) (aside.leaves name content plain old))
        (λ more. inr (⊎_elim (λ new. inl (new_same (mark ∷ rest) v first name content aside.bytes new)) inr more))
        (later.leaves name content plain left);
    whole = ⊎_elim
        (λ old. inl (record {
          others = old_on rest first v w old.others (aside_old first v begun aside);
          own = λ content left. ⊎_elim (λ older. ⊎_elim inl (λ none. inr none.1)
              (aside.leaves (name_of mark) content begun.0.name older)) inr (old.own content left);
        }))
        (λ more. inr (⊎_elim (λ new. inl (record {
          others = placed_same rest w v first aside.bytes new.others;
          own = λ content left. ⊎_elim (λ is. inl (is ∙ ap Some (aside.bytes mark.number))) inr (new.own content left);
        })) inr more))
        later.whole;
    shows = λ name. later.shows name ∙ aside_shows first v aside name;
    bytes = λ i. later.bytes i ∙ aside.bytes i;
  }

  pub done_aside : (first v w : FolderMoment) → IsSetAside mark first v → AllInPlace (mark ∷ rest) v w
      → AllInPlace (mark ∷ rest) first w
  done_aside first v w aside done = record {
    placed = placed_same (mark ∷ rest) w v first aside.bytes done.placed;
    shows = λ name. done.shows name ∙ aside_shows first v aside name;
  }

  -- what is removed takes nothing from it
  pub whole_fewer : (first v w : FolderMoment) → AreBegun (mark ∷ rest) first → IsWholeSet mark rest first v
      → IsFewer v w → IsWholeSet mark rest first w
  whole_fewer first v w begun is fewer = record {
    leaves = λ name content plain left. is.leaves name content plain (fewer.leaves name content plain left);
    whole = ⊎_elim
        (λ old. inl (record {
          others = old_on rest first v w others old.others;
          own = λ content left. old.own content (own content left);
        }))
        (λ more. inr (⊎_elim (λ new. inl (record {
          others = placed_on rest first v w others new.others;
          own = λ content left. new.own content (own content left);
        })) (λ gone. inr (λ content left. gone content (own content left))) more))
        is.whole;
    shows = λ name. view_on (mark ∷ rest) w v name fewer.bytes (fewer.shows name) ∙ is.shows name;
    bytes = λ i. fewer.bytes i ∙ is.bytes i;
  }
    where
      others : AreOld rest v w
      others = fewer_old rest first v w begun.2 fewer

      own : (content : Content) → Leaves w (name_of mark) content → Leaves v (name_of mark) content
      own content left = fewer.leaves (name_of mark) content begun.0.name left

pub done_fewer : (bs : List Begun) (first v w : FolderMoment) → AreBegun bs first → AllInPlace bs first v → IsFewer v w
    → AllInPlace bs first w
done_fewer bs first v w begun done fewer = record {
  placed = placed_on bs first v w (fewer_old bs first v w begun fewer) done.placed;
  shows = λ name. fewer.shows name ∙ done.shows name;
}

module _ (mark : Begun) (rest : List Begun) (v : FolderMoment) (begun : AreBegun (mark ∷ rest) v) where
  -- the others are put in place while there is no mark
  between_shows : (w : FolderMoment) → IsOldOrNew rest v w → (name : List ℕ)
      → view (mark ∷ rest) w name ≡ view (mark ∷ rest) v name
  between_shows w between name = shows_more mark rest w v name between.bytes (λ differs. between.shows name)

  gone_between : (w : FolderMoment) → IsGone (name_of mark) v → IsOldOrNew rest v w → IsGone (name_of mark) w
  gone_between w gone between content left =
      ⊎_elim (gone content) (λ new. absurd (not_new mark rest v content begun.1 new))
      (between.leaves (name_of mark) content begun.0.name left)

  pub whole_rest : (w : FolderMoment) → IsGone (name_of mark) v → IsOldOrNew rest v w → IsWholeSet mark rest v w
  whole_rest w gone between = record {
    leaves = λ name content plain left.
        ⊎_elim inl (λ new. inr (inl (inr new))) (between.leaves name content plain left);
    whole = inr (inr (gone_between w gone between));
    shows = between_shows w between;
    bytes = between.bytes;
  }

  -- the mark is put in place once the others are
  module _ (x w : FolderMoment) (before : IsOldOrNew rest v x) (done : AllInPlace rest v x)
      (between : IsOldOrNew (mark ∷ []) x w) where
    pub whole_mark : IsGone (name_of mark) v → IsWholeSet mark rest v w
    whole_mark gone = record {
      leaves = λ name content plain left. ⊎_elim
          ((whole_rest x gone before).leaves name content plain)
          (⊎_elim (λ here. inr (inl (inl (here.0, here.1 ∙ ap Some (before.bytes mark.number))))) (λ none. absurd none))
          (between.leaves name content plain left);
      whole = inr (inl (record {
        others = placed_on rest v x w (one_old mark rest v x w begun.1 begun.2 between) done.placed;
        own = λ content left. ⊎_elim (λ old. inr (gone_between x gone before content old))
            (⊎_elim (λ here. inl (here.1 ∙ ap Some (before.bytes mark.number))) (λ none. absurd none))
            (between.leaves (name_of mark) content begun.0.name left);
      }));
      shows = λ name. one_shows mark rest x w between name ∙ between_shows x before name;
      bytes = λ i. between.bytes i ∙ before.bytes i;
    }

    pub done_mark : AllInPlace (mark ∷ []) x w → AllInPlace (mark ∷ rest) v w
    done_mark last = record {
      placed = (
        (λ content left. last.placed.0 content left ∙ ap Some (before.bytes mark.number)),
        placed_on rest v x w (one_old mark rest v x w begun.1 begun.2 between) done.placed,
      );
      shows = λ name. cc (last.shows name, done.shows name, before.bytes mark.number);
    }
