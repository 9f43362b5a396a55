-- What is left of a log is read as its events, in one way.
use Rattle.honest_places.proofs.Imports
use Imports.{[], All-from_recursion, All-get_or, AllByRecursion, ap, append-nil, append_assoc, AreLeftOf, AreLog}
use Imports.{AreReadIn, arith, Bool, breaks_once, BreaksAt, cases_lt, Clean, Contains, Contains-head, Contains-later}
use Imports.{drop, EachGives, election_of, End, end_of, entry_of, EntryFault, Event, event_of, false, Fits, flat_map}
use Imports.{get_or, get_or_from_slice_get, Gives, Got, HasHeader, header_fits, header_tree, history, if◌then◌else◌}
use Imports.{inl, inr, IsCutAt, IsEnd, IsHonestWorld, IsLeftIn, IsLeftOf, IsLegal, IsPrefixRead, IsProperPrefixOfText}
use Imports.{IsReadSealed, IsUnbrokenLog, IsWholeRead, Kept, kept_of, kept_with, length, length-append, length-drop}
use Imports.{length-flat_map, List, log_text, LogRead, Malformed, map, member_at, members_in, node_of_sealed, None, Ok}
use Imports.{one_said, one_sealed, one_tree, Post, record_text, refl, refused_of, Result, SaysSealed, SealedEntry, Sent}
use Imports.{signed_tree, slice_get, slice_get-get_or, slice_get_within, Some, StandWhole, subst, suc, sum_by-take-le}
use Imports.{sym, take, take-append-add, take-append-drop, take-append-le, take-take, take_all, text_more, text_of}
use Imports.{Torn, true, Unseals, World, zero, ℕ, ◌++◌, ◌+◌, ◌-◌, ◌<◌, ◌^◌, ◌∙◌, ◌∷◌, ◌≡◌, ◌≤◌, ◌⊎◌}
use Rattle.honest_places.proofs.{Given.event_was_sent, Lists.Contains-take}
use Rattle.log_files.proofs.RecordTexts.{records_fit, records_spelt, tree_of}

-- ---- texts that are cut

-- bytes after a front that is kept are cut by as many bytes less
take_after : (front rest : List ℕ) (n : ℕ) → length front ≤ n →
    take n (front ++ rest) ≡ front ++ take (n - length front) rest
take_after front rest n le =
    let long : n ≡ length front + (n - length front) = omega arith in
    ap (λ (k : ℕ). take k (front ++ rest)) long ∙ take-append-add front rest (n - length front)

module _ {X : Type 0} (text : X → List ℕ) where
  -- where the first n bytes of the texts end: after this many whole texts, with a rest that is a
  -- proper prefix of the next one's text, if there is a next one
  record IsCut (xs : List X) (n : ℕ) : Type 0 where
    pub count : ℕ
    pub rest : List ℕ
    -- no more texts are whole than there are
    pub some_of : count ≤ length xs
    -- the bytes that are left are the whole texts and the rest
    pub spelt : take n (flat_map text xs) ≡ flat_map text (take count xs) ++ rest
    -- after the last text there is no rest, and otherwise the rest is a proper prefix of the next
    -- one
    pub inside : ((count ≡ length xs) × (rest ≡ []))
        ⊎ ((x : X) × (slice_get xs count ≡ Some x) × ((more : List ℕ) × (0 < length more) × (text x ≡ rest ++ more)))

  -- the first n bytes end so: the first text is cut, or those after it are
  cut_of : (xs : List X) (n : ℕ) → IsCut xs n
  cut_of [] n =
      let none : take {A = ℕ} n [] ≡ [] = take_all n [] (omega arith) in
      record { count = 0; rest = []; some_of = omega arith; spelt = none; inside = inl (refl, refl) }
  cut_of (x ∷ xs) n =
      let split = take-append-drop n (text x) in
      elim (cases_lt n (length (text x))) [
        | inl less ↦ record {
          count = 0;
          rest = take n (text x);
          some_of = omega arith;
          spelt = take-append-le n (text x) (flat_map text xs) (omega (arith, less));
          inside = inr (x, refl, (drop n (text x), omega (arith, less, length-drop n (text x)), sym split));
        }
        | inr le ↦ (let c = cut_of xs (n - length (text x)) in record {
          count = suc c.count;
          rest = c.rest;
          some_of = omega (arith, c.some_of);
          spelt = rw (take_after (text x) (flat_map text xs) n le, c.spelt, append_assoc) refl;
          inside = elim c.inside [ inl h ↦ inl (ap suc h.0, h.1) | inr h ↦ inr h ];
        })
      ]

-- ---- the first events

-- the first events of a legal history are one
legal_prefix : (owner : ℕ) (h : List (Event SealedEntry)) (k : ℕ) → IsLegal node_of_sealed owner h →
    IsLegal node_of_sealed owner (take k h)
legal_prefix owner h k legal before x later is =
    legal before x (later ++ drop k h) (cc (take-append-drop k h, append_assoc before (x ∷ later) (drop k h)))

-- the text of the first events is no longer than that of all
end_within : (owner : ℕ) (events : List (Event SealedEntry)) (k : ℕ) →
    end_of owner events k ≤ length (log_text owner events)
end_within owner events k =
    let front = text_of (header_tree owner) in
    let fewer = sum_by-take-le (λ (x : Event SealedEntry). length (record_text x)) events k in
    let all = length-append front (flat_map record_text events) in
    let some = length-append front (flat_map record_text (take k events)) in
    omega (arith, fewer, all, some, length-flat_map record_text (take k events), length-flat_map record_text events)

-- a whole log is what is left of it where nothing is gone
pub whole_is_left : (owner : ℕ) (events : List (Event SealedEntry)) → IsLeftOf owner events (log_text owner events)
whole_is_left owner events = record {
  place = length (log_text owner events);
  after_header = omega (arith, length-append (text_of (header_tree owner)) (flat_map record_text events));
  cut = sym (take_all (length (log_text owner events)) (log_text owner events) (omega arith));
}

-- what is left of a log begins with its header
pub left_has_header : (owner : ℕ) → owner < 2 ^ 32 → (events : List (Event SealedEntry)) (bytes : List ℕ) →
    IsLeftOf owner events bytes → HasHeader bytes
left_has_header owner small events bytes left =
    let front = text_of (header_tree owner) in (
      owner,
      take (left.place - length front) (flat_map record_text events),
      small,
      left.cut ∙ take_after front (flat_map record_text events) left.place left.after_header,
    )

-- one that is cut inside its header has none
pub cut_has_no_header : (owner : ℕ) → owner < 2 ^ 32 → (events : List (Event SealedEntry)) (place : ℕ) →
    place < length (text_of (header_tree owner)) → HasHeader (take place (log_text owner events)) → ⊥
cut_has_no_header owner small events place less (other, rest, low, is) =
    let front = text_of (header_tree owner) in
    let begins : take place front ≡ text_of (header_tree other) ++ rest =
    sym (take-append-le place front (flat_map record_text events) (omega (arith, less))) ∙ is in
    let whole : front ++ [] ≡ text_of (header_tree other) ++ (rest ++ drop place front) =
    append-nil front ∙ sym (take-append-drop place front) ∙ ap (λ (bs : List ℕ). bs ++ drop place front) begins
    ∙ append_assoc (text_of (header_tree other)) rest (drop place front) in
    let one = one_tree 8 (header_tree owner) (header_tree other) [] (rest ++ drop place front)
    (header_fits owner small) (header_fits other low) whole in
    omega (arith, less, ap length one.1, length-append rest (drop place front), length-drop place front)

-- ---- records that are read

-- whether its machine sent the event's entry
abbrev is_sent : Event SealedEntry → Bool
is_sent (Sent e) = true
is_sent (Got e) = false

-- the records of events, the first at the place
abbrev kept_from : ℕ → List (Event SealedEntry) → List Kept
kept_from place [] = []
kept_from place (x ∷ events) = kept_with place (is_sent x) (entry_of x) ∷ kept_from (place + 1) events

-- what is read of these records
abbrev readings_of : List Kept → List (Result Kept EntryFault)
readings_of ks = map (λ kept. Ok kept) ks

-- they are of these events
events_kept : (n : ℕ) (events : List (Event SealedEntry)) → map event_of (kept_from n events) ≡ events
events_kept n [] = refl
events_kept n (Sent e ∷ events) = ap (λ (xs : List (Event SealedEntry)). Sent e ∷ xs) (events_kept (n + 1) events)
events_kept n (Got e ∷ events) = ap (λ (xs : List (Event SealedEntry)). Got e ∷ xs) (events_kept (n + 1) events)

-- each record is at its place, the first one's being n
abbrev AreAt : ℕ → List Kept → Type 0
AreAt n ks = (i : ℕ) (kept : Kept) → slice_get ks i ≡ Some kept → kept.place ≡ n + i

-- so these are
places_kept : (n : ℕ) (events : List (Event SealedEntry)) → AreAt n (kept_from n events)
places_kept n [] i kept at = cc
places_kept n (x ∷ events) zero kept at =
    let same : kept_with n (is_sent x) (entry_of x) ≡ kept = cc in omega (arith, ap (λ (k : Kept). k.place) same)
places_kept n (x ∷ events) (suc i) kept at = omega (arith, places_kept (n + 1) events i kept at)

-- records at their places are those of their events
remade : (n : ℕ) (ks : List Kept) → AreAt n ks → ks ≡ kept_from n (map event_of ks)
remade n [] at = refl
remade n (k ∷ ks) at =
    let here : k.place ≡ n = omega (arith, at zero k refl) in
    let later = remade (n + 1) ks (λ i kept there. omega (arith, at (suc i) kept there)) in
    ap (λ (p : ℕ). kept_with p k.sent k.entry ∷ ks) here ∙ ap (λ (x : Kept). x ∷ ks) (one k.sent k.entry)
    ∙ ap (λ (xs : List Kept). kept_with n (is_sent (event_of k)) (entry_of (event_of k)) ∷ xs) later
  where
    -- the same of a record that was sent or got
    one : (b : Bool) (e : SealedEntry) → kept_with n b e
        ≡ kept_with n (is_sent (if b then Sent e else Got e)) (entry_of (if b then Sent e else Got e))
    one true e = refl
    one false e = refl

-- what is kept of records that were all read is these records
kept_readings : (ks : List Kept) → kept_of (readings_of ks) ≡ ks
kept_readings [] = refl
kept_readings (k ∷ ks) = ap (λ (l : List Kept). k ∷ l) (kept_readings ks)

-- and none of them is refused
none_refused : (ks : List Kept) (place : ℕ) → refused_of place (readings_of ks) ≡ []
none_refused [] place = refl
none_refused (k ∷ ks) place = none_refused ks (place + 1)

-- the end of the bytes, where the rest after the whole records is this
abbrev end_at : ℕ → List ℕ → End
end_at offset [] = Clean
end_at offset (b ∷ rest) = Torn offset

-- the end is determined by the rest: clean without one, and else torn
is_end : (at offset : ℕ) (rest : List ℕ) → at ≡ offset → (rest ≡ []) ⊎ IsProperPrefixOfText rest →
    IsEnd offset rest (end_at at rest)
is_end at offset [] same h = refl
is_end at offset (b ∷ rest) same (inl none) = cc
is_end at offset (b ∷ rest) same (inr prefix) = (same, omega arith, prefix)

-- it lies where the whole records end
is_cut_at : (place size : ℕ) (rest : List ℕ) → size ≡ place + length rest → IsCutAt place size (end_at place rest)
is_cut_at place size [] long = omega (arith, long)
is_cut_at place size (b ∷ rest) long = (omega (arith, long), refl)

-- bytes of a size end at a place in one way
one_end : (place size : ℕ) (end other : End) → IsCutAt place size end → IsCutAt place size other → end ≡ other
one_end place size Clean Clean h k = refl
one_end place size Clean (Torn at) h k = absurd (omega (arith, h, k.0))
one_end place size (Torn at) Clean h k = absurd (omega (arith, h.0, k))
one_end place size (Torn at) (Torn there) h k = ap Torn (h.1 ∙ sym k.1)
one_end place size (Malformed at why) other h k = absurd h
one_end place size end (Malformed at why) h k = absurd k

-- ---- events whose entries are valid

module _ (posts : List Post) where
  -- the entry's text is its own, and valid
  abbrev IsValidly : SealedEntry → Type 0
  IsValidly e = Unseals posts (election_of posts) e.text (Ok e)

  -- so is each event's
  abbrev AreValid : List (Event SealedEntry) → Type 0
  AreValid events = (x : Event SealedEntry) → Contains events x → IsValidly (entry_of x)

  -- the signed tree's text unseals to the entry
  unseals_tree : (e : SealedEntry) → IsValidly e →
      Unseals posts (election_of posts) (text_of (signed_tree e.entry e.signature)) (Ok e)
  unseals_tree e valid =
      subst (λ (t : List ℕ). Unseals posts (election_of posts) t (Ok e)) valid.kept.spelt.spelt valid

  -- the tree of a valid event's record is read as that record
  gives_kept : (place : ℕ) (x : Event SealedEntry) → IsValidly (entry_of x) →
      Gives (IsReadSealed posts (election_of posts)) place (tree_of x) (Ok (kept_with place (is_sent x) (entry_of x)))
  gives_kept place (Sent e) valid =
      inl (members_in (signed_tree e.entry e.signature), true, refl, (refl, refl, unseals_tree e valid))
  gives_kept place (Got e) valid =
      inl (members_in (signed_tree e.entry e.signature), false, refl, (refl, refl, unseals_tree e valid))

  -- the trees of valid events' records are within the limits, spelt as the records and read as them
  trees_right : (n : ℕ) (events : List (Event SealedEntry)) → AreValid events →
      AllByRecursion Fits (map tree_of events)
      × (flat_map text_of (map tree_of events) ≡ flat_map record_text events)
      × EachGives (IsReadSealed posts (election_of posts)) n (map tree_of events) (readings_of (kept_from n events))
  trees_right n [] valid = (tt, refl, tt)
  trees_right n (x ∷ events) valid =
      let here = valid x (Contains-head x events) in
      let (fit, spelt, gives) = trees_right (n + 1) events (λ y c. valid y (Contains-later x events y c)) in
      let first = records_spelt x here.kept in
      ((records_fit x here.kept, fit), rw (first, spelt) refl, (gives_kept n x here, gives))

-- ---- the logs of an honest world

module _ (posts : List Post) (w : World SealedEntry) (honest : IsHonestWorld posts w) where
  module _ (m : ℕ) (below : m < length w) where
    -- what the machine did
    abbrev events : List (Event SealedEntry)
    events = history w m

    -- the number of a machine is small
    small : m < 2 ^ 32
    small = let each = honest.one_each in let few = honest.few_machines in omega (arith, below, each, few)

    module _ (bytes : List ℕ) (left : IsLeftOf m events bytes) where
      -- how many records are complete, and what is left of the next one
      cut : IsCut record_text events (left.place - length (text_of (header_tree m)))
      cut = cut_of record_text events (left.place - length (text_of (header_tree m)))

      -- the events whose records are complete
      abbrev first : List (Event SealedEntry)
      first = take cut.count events

      -- the end of the bytes
      abbrev end : End
      end = end_at (end_of m events cut.count) cut.rest

      -- these events are valid
      first_valid : AreValid posts first
      first_valid x c =
          honest.valid (entry_of x) (event_was_sent w honest.orderly m x (Contains-take events cut.count x c))

      -- the bytes are the header, the whole records and the rest
      spelt : bytes ≡ text_of (header_tree m) ++ (flat_map record_text first ++ cut.rest)
      spelt =
          left.cut ∙ take_after (text_of (header_tree m)) (flat_map record_text events) left.place left.after_header
          ∙ ap (λ (bs : List ℕ). text_of (header_tree m) ++ bs) cut.spelt

      -- the rest is nothing, or a proper prefix of the next record
      rest_is : (cut.rest ≡ []) ⊎ IsProperPrefixOfText cut.rest
      rest_is =
          elim cut.inside [
            | inl h ↦ inl h.1
            | inr (x, at, (more, some, text)) ↦
                (let there = event_was_sent w honest.orderly m x (member_at events cut.count x at) in
                let kept = (honest.valid (entry_of x) there).kept in
                let fit = records_fit x kept in
                let spelt = records_spelt x kept ∙ text in
                inr (record { tree = tree_of x; rest = more; fits = fit; goes_on = some; spelt = spelt }))
          ]

      -- as many bytes follow the whole records as the rest has
      size_is : length bytes ≡ end_of m events cut.count + length cut.rest
      size_is =
          let front = text_of (header_tree m) in
          let whole = flat_map record_text first in
          let all = length-append front (whole ++ cut.rest) in
          omega (arith, ap length spelt, all, length-append whole cut.rest, length-append front whole)

      -- they say the records of the first events
      are_log : AreLog (IsReadSealed posts (election_of posts)) bytes m (kept_from 0 first) [] end
      are_log = let (fit, same, gives) = trees_right posts 0 first first_valid in record {
        following = flat_map record_text first ++ cut.rest;
        trees = map tree_of first;
        readings = readings_of (kept_from 0 first);
        number = small;
        header = spelt;
        records = record {
          rest = cut.rest;
          within = All-from_recursion Fits (map tree_of first) fit;
          spelt = rw same refl;
          ends = is_end (end_of m events cut.count) _ cut.rest
              (omega (arith, ap length same, length-append (text_of (header_tree m)) (flat_map record_text first)))
              rest_is;
        };
        gives = gives;
        keeps = sym (kept_readings (kept_from 0 first));
        refuses = sym (none_refused (kept_from 0 first) 0);
      }

      -- the next record, if there is one, doesn't fit
      no_more : cut.count < length events → length bytes < end_of m events (cut.count + 1)
      no_more less =
          elim cut.inside [
            | inl h ↦ absurd (omega (arith, less, h.0))
            | inr (x, at, (more, some, text)) ↦
                (let one = text_more (text_of (header_tree m)) (log_text m first) (log_text m first ++ record_text x)
                events cut.count x (slice_get_within events cut.count x at)
                (sym (get_or_from_slice_get events cut.count x x at)) refl refl in
                let grown = length-append (log_text m first) (record_text x) in
                omega (arith, size_is, some, ap length one, ap length text, length-append cut.rest more, grown))
          ]

      -- which break nowhere
      no_break : BreaksAt m (kept_from 0 first) None
      no_break =
          rw (events_kept 0 first) (legal_prefix m events cut.count (honest.orderly.legal m))

      -- what is left of a machine's log has the header
      pub header_in : HasHeader bytes
      header_in = left_has_header m small events bytes left

      -- it is a log of its machine, which breaks nowhere
      pub log_in : IsUnbrokenLog posts m bytes
      log_in = record { kept = kept_from 0 first; end = end; says = are_log; no_break = no_break }

      -- it is read as the events that are complete in it
      pub read_in : (log : LogRead) → SaysSealed posts (election_of posts) bytes log → IsPrefixRead m events bytes log
      read_in log said =
          let same =
          one_said (IsReadSealed posts (election_of posts)) (one_sealed posts (election_of posts)) bytes log.owner m
          log.kept (kept_from 0 first) log.refused [] log.end end said.says are_log in
          record {
            count = cut.count;
            whole = record { some_of = cut.some_of; fit = omega (arith, size_is); no_more = no_more };
            of_owner = same.owners;
            kept = ap (map event_of) same.kept ∙ events_kept 0 first;
            places = λ i k at. omega (arith, places_kept 0 first i k (rw same.kept at at));
            none_refused = same.refused;
            ends = rw same.ends (is_cut_at (end_of m events cut.count) (length bytes) cut.rest size_is);
            no_break = breaks_once m log.kept log.broke None (rw same.owners at said.broke) (rw same.kept no_break);
          }

    -- a whole log is read as all that its machine did
    pub whole_in : (log : LogRead) → SaysSealed posts (election_of posts) (log_text m events) log →
        IsWholeRead m events log
    whole_in log said =
        let read = read_in (log_text m events) (whole_is_left m events) log said in
        let none : read.count < length events → ⊥ = λ less.
        omega (arith, read.whole.no_more less, end_within m events (read.count + 1)) in
        let all : length events ≤ read.count = omega (arith, none) in
        let kept : take read.count events ≡ events = take_all read.count events all in
        record {
          prefix = read;
          kept = read.kept ∙ kept;
          ends = one_end (end_of m events read.count) (length (log_text m events)) log.end Clean read.ends
              (ap (λ (h : List (Event SealedEntry)). length (log_text m h)) (sym kept));
        }

  -- files that are left are read one by one as logs of the world
  pub all_read : (files : List (List ℕ)) → AreLeftOf w files → (logs : List LogRead) → length logs ≡ length files →
      ((i : ℕ) (bytes : List ℕ) (log : LogRead) → slice_get files i ≡ Some bytes → slice_get logs i ≡ Some log →
      SaysSealed posts (election_of posts) bytes log) → AreReadIn w logs
  all_read files left logs count said i d within =
      let inside : i < length files = omega (arith, within, count) in
      let bytes = get_or files i [] in
      let log = get_or logs i d in
      let (m, below, left) = All-get_or (IsLeftIn w) files i [] inside left in
      let told = said i bytes log (slice_get-get_or files i [] inside) (slice_get-get_or logs i d within) in
      record { machine = m; bytes = bytes; there = below; read = read_in m below bytes left log told }

-- ---- one reading

module _ (owner : ℕ) (events : List (Event SealedEntry)) (size : ℕ) where
  -- no count of whole records is below another: with one record more it would fit, and wouldn't
  no_fewer : (k j : ℕ) → StandWhole owner events size k → StandWhole owner events size j → k < j → ⊥
  no_fewer k j one two less =
      let few = two.some_of in
      let over = one.no_more (omega (arith, less, few)) in
      let same : take (k + 1) (take j events) ≡ take (k + 1) events =
      take-take (k + 1) j events (omega (arith, less)) in
      let long = ap (λ (h : List (Event SealedEntry)). length (log_text owner h)) same in
      let fit = two.fit in
      omega (arith, over, fit, long, end_within owner (take j events) (k + 1))

module _ (owner : ℕ) (events : List (Event SealedEntry)) (bytes : List ℕ) (log other : LogRead)
    (one : IsPrefixRead owner events bytes log) (two : IsPrefixRead owner events bytes other) where
  -- two readings of the same bytes find the same number of whole records
  counts : one.count ≡ two.count
  counts =
      let not_less = no_fewer owner events (length bytes) one.count two.count one.whole two.whole in
      let not_more = no_fewer owner events (length bytes) two.count one.count two.whole one.whole in
      omega (arith, not_less, not_more)

  -- two readings of the same bytes have the same records
  pub same_kept : log.kept ≡ other.kept
  same_kept =
      remade 0 log.kept (λ i k at. omega (arith, one.places i k at))
      ∙ ap (kept_from 0) (one.kept ∙ ap (λ n. take n events) counts ∙ sym two.kept)
      ∙ sym (remade 0 other.kept (λ i k at. omega (arith, two.places i k at)))

  -- two readings of the same bytes have the same end
  pub same_end : log.end ≡ other.end
  same_end =
      one_end (end_of owner events two.count) (length bytes) log.end other.end
      (subst (λ (n : ℕ). IsCutAt (end_of owner events n) (length bytes) log.end) counts one.ends) two.ends

-- how what is left of logs is read
pub ruleset logs_give = (read_in, log_in, all_read)
