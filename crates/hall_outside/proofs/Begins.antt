-- Files that are begun and written, as the store shows them.
use Rattle.hall_outside.proofs.Imports.{[], Among, ap, apart_names, AreBegun, AreElsewhere, AreOwn, Begun, bytes_eq}
use Rattle.hall_outside.proofs.Imports.{cases_Bool, Creates, does, eq-eqb, eq_self, false, file_set, Files}
use Rattle.hall_outside.proofs.Imports.{FolderMoment, fun_ext, GivesPart, Goes, holding, inl, is_other, IsApart}
use Rattle.hall_outside.proofs.Imports.{IsClear, IsTaken, IsUnshared, IsUnused, List, Moments, nat_eq, ne_eqb, None}
use Rattle.hall_outside.proofs.Imports.{not_same, Now, now_always, number_of, Option, option_map, refl, shown_files}
use Rattle.hall_outside.proofs.Imports.{since_now, Some, StandsInOrder, string_bytes, sym, taken_of, true, view}
use Rattle.hall_outside.proofs.Imports.{with_file, ℕ, ⊎_elim, ◌++◌, ◌∙◌, ◌∷◌, ◌≡◌}
use Rattle.folder_calls.specs.World.{created}
use Rattle.hall_outside.proofs.FileLists.{compared, flip, set_again, set_behind}

-- a plain name isn't one of the other kind
kind_differs : (name other : List ℕ) → is_other name ≡ false → is_other other ≡ true → name ≡ other → ⊥
kind_differs name other plain is_so is = cc

-- an entry stands for the same bytes at two moments
same_entry : (v w : FolderMoment) (entry : Option ℕ)
    → ((i : ℕ) → entry ≡ Some i → (v.node i).bytes ≡ (w.node i).bytes)
    → option_map (λ i. (v.node i).bytes) entry ≡ option_map (λ i. (w.node i).bytes) entry
same_entry v w None same = refl
same_entry v w (Some i) same = ap Some (same i refl)

-- what is in place is the same at two moments
same_in_place : (v w : FolderMoment) (name : List ℕ) → (is_other name ≡ false → v.at name ≡ w.at name)
    → (is_other name ≡ false → (i : ℕ) → w.at name ≡ Some i → (v.node i).bytes ≡ (w.node i).bytes)
    → view [] v name ≡ view [] w name
same_in_place v w name at bytes = ⊎_elim (λ other. rw other refl)
    (λ plain. rw plain (rw (at plain) (same_entry v w (w.at name) (bytes plain)))) (cases_Bool (is_other name))

-- where nothing is changed but what stands under another name, the same is shown
clear_view : (other : List ℕ) (bs : List Begun) (first w : FolderMoment) → is_other other ≡ true
    → AreElsewhere other bs → AreBegun bs first → IsClear other first w → (name : List ℕ)
    → view bs w name ≡ view bs first name
clear_view other [] first w is_so elsewhere begun clear name = same_in_place w first name
    (λ plain. clear.at name (kind_differs name other plain is_so))
    (λ plain i at. ap (λ n. n.bytes) (clear.node name i (kind_differs name other plain is_so) (inl (sym at))))
clear_view other (b ∷ bs) first w is_so elsewhere begun clear name =
    let differs = apart_names (string_bytes b.other_name) other elsewhere.0 in rw (
      clear.node (string_bytes b.other_name) b.number differs (inl (sym begun.0.stands)),
      clear_view other bs first w is_so elsewhere.1 begun.2 clear name,
    ) refl

-- and what was begun stands ready as before
clear_ready : (other : List ℕ) (bs : List Begun) (first w : FolderMoment) → is_other other ≡ true
    → AreElsewhere other bs → IsClear other first w → StandsInOrder bs first → StandsInOrder bs w
clear_ready other [] first w is_so elsewhere clear ready = record { stand = tt; own = tt }
clear_ready other (b ∷ bs) first w is_so elsewhere clear ready =
    let stands = clear.at (string_bytes b.other_name) (apart_names (string_bytes b.other_name) other elsewhere.0)
    ∙ ready.stand.0.stands in
    assumption (stands, own, clear_ready other bs first w is_so elsewhere.1 clear assumption)
  where
    own : (name : List ℕ) → is_other name ≡ false → Among (w.at name ∷ w.before name) (Some b.number) → ⊥
    own name plain among = let differs = kind_differs name other plain is_so in
        ready.own.0 name plain (rw (clear.at name differs, clear.before name differs) at among)

-- creating a file changes nothing but what stands under its name
created_clear : (other : List ℕ) (i : ℕ) (w : FolderMoment) → IsUnused i w → IsClear other w (created other i w)
created_clear other i w fresh = record {
  at = λ name differs. rw (not_same name other differs) refl;
  before = λ name differs. rw (not_same name other differs) refl;
  node = λ name j differs among. rw (ne_eqb j i (λ same. fresh name (rw same at among))) refl;
}

-- where a name has no number the first file hasn't the name, and the others have none for it
named_none : (x : Begun) (xs : List Begun) (name : List ℕ) → number_of (x ∷ xs) name ≡ None
    → (bytes_eq (string_bytes x.name) name ≡ false) × (number_of xs name ≡ None)
named_none x xs name none = ⊎_elim (λ is. cc) (λ differs. (differs, rw differs at none))
    (cases_Bool (bytes_eq (string_bytes x.name) name))

-- the file that is begun last is shown under its name
last_view : (b : Begun) (bs : List Begun) (w : FolderMoment) (name : List ℕ) → number_of bs (string_bytes b.name) ≡ None
    → view (bs ++ b ∷ []) w name ≡ file_set (view bs w) (string_bytes b.name) (w.node b.number).bytes name
last_view b [] w name none = refl
last_view b (x ∷ xs) w name none = let parts = named_none x xs (string_bytes b.name) none in
    set_behind (string_bytes x.name) (string_bytes b.name) name _ _ _ _ parts.0 (last_view b xs w name parts.1)

-- where no file was begun with one's names or number, that one may come last
last_apart : (b x : Begun) (xs : List Begun) → IsApart x xs × IsUnshared x.number xs
    → IsApart x (b ∷ []) × IsUnshared x.number (b ∷ [])
    → IsApart x (xs ++ b ∷ []) × IsUnshared x.number (xs ++ b ∷ [])
last_apart b x [] first last = last
last_apart b x (y ∷ ys) first last = let rest = last_apart b x ys (first.0.2, first.1.1) last in
    ((first.0.0, first.0.1, rest.0), (first.1.0, rest.1))

-- a file that is created stands in order after those that were begun
last_ready : (b : Begun) (bs : List Begun) (w : FolderMoment) → is_other (string_bytes b.other_name) ≡ true
    → is_other (string_bytes b.name) ≡ false → IsUnused b.number w → number_of bs (string_bytes b.name) ≡ None
    → AreElsewhere (string_bytes b.other_name) bs → StandsInOrder bs w
    → StandsInOrder (bs ++ b ∷ []) (created (string_bytes b.other_name) b.number w)
last_ready b [] w is_so plain fresh none elsewhere ready = record {
  stand = (record { stands = rw (eq_self (string_bytes b.other_name)) refl; other = is_so; name = plain }, tt, tt);
  own = (
    (λ name o among. fresh name (rw (not_same name (string_bytes b.other_name)
        (kind_differs name (string_bytes b.other_name) o is_so)) at among)),
    tt,
    tt,
  );
}
last_ready b (x ∷ xs) w is_so plain fresh none elsewhere ready =
    let parts = named_none x xs (string_bytes b.name) none in
    let number = ne_eqb b.number x.number
    (λ same. fresh (string_bytes x.other_name) (inl (sym (ready.stand.0.stands ∙ ap Some (sym same))))) in
    let last = last_apart b x xs (ready.stand.1, ready.own.1) (
      (
        flip (string_bytes b.name) (string_bytes x.name) ∙ parts.0,
        flip (string_bytes b.other_name) (string_bytes x.other_name) ∙ elsewhere.0,
        tt,
      ),
      (number, tt),
    ) in
    let now = clear_ready (string_bytes b.other_name) (x ∷ xs) w (created (string_bytes b.other_name) b.number w) is_so
    elsewhere (created_clear (string_bytes b.other_name) b.number w fresh) ready in
    let rest = last_ready b xs w is_so plain fresh parts.1 elsewhere.1 assumption in
    record { stand = (now.stand.0, last.0, rest.stand); own = (now.own.0, last.1, rest.own) }

-- where no plain name and no other file stands for the number, its bytes aren't shown
untouched : (i : ℕ) (bytes : List ℕ) (bs : List Begun) (w : FolderMoment) (name : List ℕ) → IsUnshared i bs
    → ((name : List ℕ) → is_other name ≡ false → Among (w.at name ∷ w.before name) (Some i) → ⊥)
    → view bs (holding i bytes w) name ≡ view bs w name
untouched i bytes [] w name alone own = same_in_place (holding i bytes w) w name (λ plain. refl)
    (λ plain j at. rw (ne_eqb j i (λ same. own name plain (inl (sym (at ∙ ap Some same))))) refl)
untouched i bytes (b ∷ bs) w name alone own = rw (alone.0, untouched i bytes bs w name alone.1 own) refl

-- what was begun stands ready whatever bytes a file holds
pub held_ready : (i : ℕ) (bytes : List ℕ) (w : FolderMoment) (bs : List Begun) → StandsInOrder bs w
    → StandsInOrder bs (holding i bytes w)
held_ready i bytes w [] ready = record { stand = tt; own = tt }
held_ready i bytes w (b ∷ bs) ready = assumption (held_ready i bytes w bs assumption)

-- the number of one of them isn't that of a file apart
alone_number : (bs : List Begun) (name : List ℕ) (k i : ℕ) → IsUnshared k bs → number_of bs name ≡ Some i
    → nat_eq k i ≡ false
alone_number [] name k i alone found = cc
alone_number (x ∷ xs) name k i alone found = ⊎_elim
    (λ is. ne_eqb k i (λ same. cc (alone.0, eq-eqb k k refl)))
    (λ differs. alone_number xs name k i alone.1 (rw differs at found))
    (cases_Bool (bytes_eq (string_bytes x.name) name))

-- the bytes that one of them holds from now on are shown under its name
pub hold_view : (bs : List Begun) (w : FolderMoment) (at : List ℕ) (i : ℕ) (bytes name : List ℕ) → AreOwn bs w
    → number_of bs at ≡ Some i → view bs (holding i bytes w) name ≡ file_set (view bs w) at bytes name
hold_view [] w at i bytes name own found = cc
hold_view (b ∷ bs) w at i bytes name own found = ⊎_elim
    (λ is. let number : i ≡ b.number = cc (eq_self at) in rw (
      ← is,
      number,
      eq-eqb b.number b.number refl,
      untouched b.number bytes bs w name own.1 own.0,
    ) (sym (set_again (view bs w) (string_bytes b.name) (w.node b.number).bytes bytes name)))
    (λ differs. let later : number_of bs at ≡ Some i = rw differs at found in
    rw (alone_number bs at b.number i own.1 later) (set_behind (string_bytes b.name) at name _ _ _ _ differs
    (hold_view bs w at i bytes name own.2 later)))
    (compared (string_bytes b.name) at)

-- what is shown under a name, by the number of the file that was begun under it
abbrev shown : FolderMoment → List ℕ → Option ℕ → Option (List ℕ)
shown w name None = view [] w name
shown w name (Some i) = Some (w.node i).bytes

-- the file that was begun under the name is what is shown, and else what is in place
view_is : (bs : List Begun) (w : FolderMoment) (name : List ℕ) → view bs w name ≡ shown w name (number_of bs name)
view_is [] w name = refl
view_is (b ∷ bs) w name = rw (flip name (string_bytes b.name)) (⊎_elim (λ is. rw is refl) (λ differs. rw differs
    (view_is bs w name)) (cases_Bool (bytes_eq (string_bytes b.name) name)))

-- the bytes of a file that was begun are shown
pub view_of : (bs : List Begun) (w : FolderMoment) (at : List ℕ) (i : ℕ) → number_of bs at ≡ Some i
    → view bs w at ≡ Some (w.node i).bytes
view_of bs w at i found = view_is bs w at ∙ ap (shown w at) found

-- what a step changes of what is shown
pub shown_did : {P : FolderMoment → Type 0} (bs cs : List Begun) (change : Files → Files)
    (step : FolderMoment → FolderMoment) (ws new : Moments)
    → ((w : FolderMoment) → P w → (name : List ℕ) → view cs (step w) name ≡ change (view bs w) name)
    → new ≡ does step ws → Now ws P → shown_files cs new ≡ option_map change (shown_files bs ws)
shown_did bs cs change step [] new to did here = ap (shown_files cs) did
shown_did bs cs change step (w ∷ ws) new to did here = ap (shown_files cs) did ∙ ap Some (fun_ext (to w here))

-- nothing is changed from a moment to itself
clear_same : (other : List ℕ) (w : FolderMoment) → IsClear other w w
clear_same other w = record { at = λ name to. refl; before = λ name to. refl; node = λ name i to among. refl }

-- what was left under another name shows nothing
pub clear_shown : (other : List ℕ) (bs : List Begun) (a b : Moments) → is_other other ≡ true → AreElsewhere other bs
    → Now a (StandsInOrder bs) → Goes (IsClear other) a b → shown_files bs b ≡ shown_files bs a
clear_shown other bs [] b is_so elsewhere ready goes = ap (shown_files bs) goes
clear_shown other bs (s ∷ ss) [] is_so elsewhere ready goes = elim goes [ ]
clear_shown other bs (s ∷ ss) (w ∷ ws) is_so elsewhere ready goes =
    let clear = since_now (w ∷ ws) goes (clear_same other s) in
    ap Some (fun_ext (clear_view other bs s w is_so elsewhere ready.stand clear))

module _ (b : Begun) (bs : List Begun) (is_so : is_other (string_bytes b.other_name) ≡ true)
    (plain : is_other (string_bytes b.name) ≡ false) (none : number_of bs (string_bytes b.name) ≡ None)
    (elsewhere : AreElsewhere (string_bytes b.other_name) bs) where
  abbrev other : List ℕ
  other = string_bytes b.other_name

  -- what a file that was created shows, before it is added to those that were begun and after that
  abbrev IsBegun : Moments → Moments → Type 0
  IsBegun ws new = (shown_files bs new ≡ shown_files bs ws)
      × (shown_files (bs ++ b ∷ []) new ≡ with_file (shown_files bs ws) (string_bytes b.name) [])
      × Now new (StandsInOrder (bs ++ b ∷ []))

  pub is_begun : (ws new : Moments) → Now ws (StandsInOrder bs) → Creates other ws new b.number → IsBegun ws new
  is_begun ws new ready creates = rw creates.did (each ws creates.mid ready creates.clears creates.fresh)
    where
      each : (ws mid : Moments) → Now ws (StandsInOrder bs) → Goes (IsClear other) ws mid
          → Now mid (IsUnused b.number) → IsBegun ws (does (created other b.number) mid)
      each [] mid ready clears fresh = rw clears (refl, refl, tt)
      each (s ∷ ss) [] ready clears fresh = elim clears [ ]
      each (s ∷ ss) (w ∷ ws) ready clears fresh =
          let clear = since_now (w ∷ ws) clears (clear_same other s) in
          let cleared = clear_ready other bs s w is_so elsewhere clear ready in
          let unseen : (name : List ℕ) → view bs (created other b.number w) name ≡ view bs s name =
          λ name. clear_view other bs w (created other b.number w) is_so elsewhere cleared.stand
          (created_clear other b.number w fresh) name
          ∙ clear_view other bs s w is_so elsewhere ready.stand clear name in (
            ap Some (fun_ext unseen),
            ap Some (fun_ext (λ name. last_view b bs (created other b.number w) name none
                ∙ rw (unseen name, eq-eqb b.number b.number refl) refl)),
            last_ready b bs w is_so plain fresh none elsewhere cleared,
          )

-- where nothing was begun all stands ready
pub none_ready : (bs : List Begun) (ws : Moments) → bs ≡ [] → Now ws (StandsInOrder bs)
none_ready bs ws none = rw none (now_always ws (λ w. record { stand = tt; own = tt }))

-- what a read gave of a file that wasn't begun is what is shown
pub taken_shown : (bs : List Begun) (ws : Moments) (name : List ℕ) (at : ℕ) (old new : List ℕ) (given : Option ℕ)
    → number_of bs name ≡ None → is_other name ≡ false → GivesPart ws name at old new given
    → IsTaken (shown_files bs ws) name at old new (taken_of given)
taken_shown bs [] name at old new None none plain is = is
taken_shown bs [] name at old new (Some n) none plain is = is
taken_shown bs (w ∷ ws) name at old new None none plain is = rw (view_is bs w name, none, plain) is
taken_shown bs (w ∷ ws) name at old new (Some n) none plain is = rw (view_is bs w name, none, plain) is
