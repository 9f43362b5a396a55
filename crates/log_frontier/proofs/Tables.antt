-- What the tables say of the entries that were noted.
use Rattle.log_frontier.proofs.Imports.{[], ap, arith, ascending, Bool, bytes_eq, bytes_eq-Decides, cases_Bool, cond}
use Rattle.log_frontier.proofs.Imports.{Contains, Contains-head, Contains-none, false, gaps, GapsAreUnique, get_or, has}
use Rattle.log_frontier.proofs.Imports.{HasNoDigestTwice, inl, inr, is_named, IsBorneIn, IsNamedIn, length, List}
use Rattle.log_frontier.proofs.Imports.{list_any, names_digest, Node, not, push_before, refl, slice_get_read, sym, take}
use Rattle.log_frontier.proofs.Imports.{true, ℕ, ◌&&◌, ◌++◌, ◌+◌, ◌||◌, ◌↔◌, ◌∙◌, ◌∷◌, ◌≡◌}
use Rattle.entry_order.proofs.Ascending.{ascending_ascending, Contains-ascending, Contains-ascending_cases}
use Rattle.entry_order.proofs.Lists.{list_any_of, list_any_some}
use Rattle.entry_order.proofs.Naming.{has_digest_from, has_digest_of, is_named_from, is_named_of, new_is_free}
use Rattle.entry_order.specs.Naming.{has_digest}
use Rattle.log_frontier.specs.Places.{AreBorne, AreWanted, NamesUnborne}
use Rattle.log_frontier.specs.{Digests.place_by, Digests.Wanted, inside.Noting.lacks, inside.Noting.lacks_some}
use Rattle.std.proofs.{Common.if◌then◌else◌, Common.None, Common.Option, Common.Some, lemmas.Bool.and_parts}
use Rattle.std.proofs.{lemmas.Bool.false_from_ne_true, lemmas.Bool.not_from_false, lemmas.List.Folds.list_any-append}
use Rattle.std.proofs.{lemmas.Map.Views.Contains-from_any, Math.Bool.and-true, Math.Bool.or-false}
use Rattle.std.specs.Prelude.{is_some, IsTrue}
use Rattle.log_frontier.proofs.Notes.{last_split}

-- whether there is one, by whether one was put in place of another
put_or : {A : Type 0} (b : Bool) (x : A) (o : Option A) → is_some (cond b (Some x) o) ≡ (is_some o || b)
put_or true x None = refl
put_or false x None = refl
put_or b x o = refl

module _ {T : Type 0} (node : T → Node) (es : List T) where
  -- a digest passes both tests exactly if an entry names it and none has it
  is_lost : (d : List ℕ) → ((is_named node es d && not (has_digest node es d)) ≡ true)
      ↔ (IsNamedIn node es d × (¬ (IsBorneIn node es d)))
  is_lost d = (
    λ t.
        let (named, unborne) = and_parts (is_named node es d) (not (has_digest node es d)) t in
        (is_named_from node es d named, λ borne. let found = has_digest_of node es d borne in cc),
    λ (named, lost). rw (
      is_named_of node es d named,
      false_from_ne_true (has_digest node es d) (λ t. lost (has_digest_from node es d t)),
    ),
  )

  -- the scan finds exactly what there is
  pub lacks_decides : (lacks_some node es ≡ true) ↔ NamesUnborne node es
  lacks_decides = (
    λ t.
        let (e, held, lacking) = list_any_some (λ e. lacks node es (node e).names) es t in
        let (d, named, unborne) = list_any_some (λ d. not (has_digest node es d)) (node e).names lacking in
        (d, (e, held, named), λ borne. let found = has_digest_of node es d borne in cc),
    λ (d, (e, held, named), lost). list_any_of (λ e. lacks node es (node e).names) es e held
        (list_any_of (λ d. not (has_digest node es d)) (node e).names d named
        (not_from_false (has_digest node es d)
        (false_from_ne_true (has_digest node es d) (λ t. lost (has_digest_from node es d t))))),
  )

  module _ (wanted : List (List ℕ))
      (are : (d : List ℕ) → has wanted d ≡ (is_named node es d && not (has_digest node es d))) where
    -- a digest is in the table exactly if it is lost
    wanted_is : (d : List ℕ) → Contains wanted d ↔ (IsNamedIn node es d × (¬ (IsBorneIn node es d)))
    wanted_is d = (
      λ h. (is_lost d).0
          (sym (are d) ∙ list_any_of (λ c. bytes_eq d c) wanted d h ((bytes_eq-Decides d d).1 refl)),
      λ lost. Contains-from_any {eq = bytes_eq} (λ x y. (bytes_eq-Decides x y).0) d wanted
          (are d ∙ (is_lost d).1 lost),
    )

    -- the table has the gaps
    pub gaps_by_table : GapsAreUnique node → ascending wanted ≡ gaps node es
    gaps_by_table unique = (unique es (ascending wanted)).1 (record {
      rises = ascending_ascending wanted;
      members = λ d. (
        (λ h. (wanted_is d).0 (Contains-ascending_cases wanted d h)),
        (λ lost. Contains-ascending wanted d ((wanted_is d).1 lost)),
      );
    })

  -- the table of what is looked for isn't empty exactly if a digest is lost
  pub wants_by_table : (wanted : List (List ℕ)) →
      ((d : List ℕ) → has wanted d ≡ (is_named node es d && not (has_digest node es d))) →
      (empty : Bool) → (IsTrue empty ↔ (wanted ≡ [])) → IsTrue (not empty) ↔ NamesUnborne node es
  wants_by_table [] are false is = let never = is.1 refl in cc
  wants_by_table (w ∷ ws) are false is =
      let (named, lost) = (wanted_is (w ∷ ws) are w).0 (Contains-head w ws) in (λ _. (w, named, lost), λ _. refl)
  wants_by_table wanted are true is = (
    λ t. cc,
    λ (d, named, lost). absurd (Contains-none d (rw (is.0 refl) at ((wanted_is wanted are d).1 (named, lost)))),
  )

module _ {T : Type 0} (node : T → Node) (held : List T) (place : ℕ) (e : T) (last : place + 1 ≡ length held)
    (is : e ≡ get_or held place e) where
  -- it is after those before it
  split : held ≡ take place held ++ e ∷ []
  split = last_split held place e (omega arith) is

  -- what a test finds among all it finds before e, or in e
  found_in : (p : T → Bool) → list_any p held ≡ (list_any p (take place held) || p e)
  found_in p =
      ap (list_any p) split ∙ list_any-append p (take place held) (e ∷ [])
      ∙ ap (λ b. list_any p (take place held) || b) (or-false (p e))

  -- the last entry is named by one before it where it was wanted
  pub named_by_table : (wanted : Wanted) → AreWanted node (take place held) wanted → wanted.scans ≡ false →
      HasNoDigestTwice node held →
      (has wanted.list (node e).digest || names_digest node e (node e).digest) ≡ is_named node held (node e).digest
  named_by_table wanted are scans distinct =
      let es = take place held in
      let d = (node e).digest in
      rw (are scans d, new_is_free node es e (distinct es e [] split), and-true (is_named node es d))
      (sym (found_in (λ g. names_digest node g d)))

  -- with its place put in, all digests that entries have have places
  pub noted_more : (old new : List (List ℕ × ℕ)) → AreBorne node (take place held) old →
      ((d : List ℕ) → place_by new d ≡ (if bytes_eq (node e).digest d then Some place else place_by old d)) →
      AreBorne node held new
  noted_more old new borne put = record {
    all = λ d. rw (put d, put_or, borne.all d) (sym (found_in (λ g. bytes_eq (node g).digest d)));
    places = λ d p found. elim (cases_Bool (bytes_eq (node e).digest d)) [
      | inl own ↦
          let here : place ≡ p = cc (put d, found) in (
            e,
            rw (← here) (slice_get_read held (length held) place e refl (omega arith) is),
            (bytes_eq-Decides (node e).digest d).0 own,
          )
      | inr apart ↦
          let (f, there, same) = borne.places d p (rw (put d, apart) at found) in
          (f, rw (← split) at (push_before (take place held) e p f there), same)
    ];
  }
