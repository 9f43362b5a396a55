-- A machine names each digest that it holds at most once, and so the logs of an honest place are short.
use Rattle.honest_places.proofs.Imports
use Imports.{[], All, All-head, All-tail, ap, append-nil, append_assoc, arith, Atom, atom_text, body_tree, Bool, codes}
use Imports.{cond, Contains, Contains-filter_cases, Contains-head, Contains-later, Contains-map, Contains-map_cases}
use Imports.{Contains-middle, count_by-le-length, count_named, decimal, Deed, deed_tree, DigestsDiffer, Entry, entry_of}
use Imports.{Event, false, few_among, filter, flat_map, forest_of, frontier, frontier_push, Got, header_tree, held}
use Imports.{history, How, how_rest, inl, inr, insert_digest, is_named, IsDeed, IsDigest, IsEntry, IsLegal, IsOrderly}
use Imports.{IsVersion, length, length-append, length-decimal-le, length-filter, length-insert_digest, length-map, List}
use Imports.{log_text, map, map-append, max_actions, max_bytes, max_machines, MayFollow, member_split, mul-le}
use Imports.{names_digest, names_digest_of, new_from_may, Node, node_of_sealed, none_inside, not, not_from_true, Ok}
use Imports.{Override, Post, record_text, refl, SealedEntry, Sent, sent, sent-append, sent_in, signature_small}
use Imports.{signed_tree, Signs, subst, suc, sum_among, sum_by, sum_by-append, sum_by-cons, sym, text_of, texts_of}
use Imports.{true, true≢false, Unseals, version_small, World, ℕ, ◌*◌, ◌++◌, ◌+◌, ◌<◌, ◌^◌, ◌∙◌, ◌∷◌, ◌≡◌, ◌≤◌}
use Rattle.honest_places.proofs.Given.{event_was_sent}
use Rattle.entry_format.specs.declared.deed.How.TheVariants as how

-- ---- what a machine names

module _ {T : Type 0} (node : T → Node) where
  -- what of the frontier one entry more doesn't name
  abbrev left : List T → T → List (List ℕ)
  left es e = filter (λ d. not (names_digest node e d)) (frontier node es)

  -- the frontier with one entry more has at most one digest more than is left
  frontier_one_more : (es : List T) (e : T) → length (frontier node (es ++ e ∷ [])) ≤ length (left es e) + 1
  frontier_one_more es e = rw (frontier_push node es e) (by (is_named node (es ++ e ∷ []) (node e).digest))
    where
      by : (b : Bool) →
          length (cond b (left es e) (insert_digest (node e).digest (left es e))) ≤ length (left es e) + 1
      by true = omega arith
      by false = length-insert_digest (node e).digest (left es e)

  -- an entry that names the frontier leaves none of it
  none_after : (es : List T) (e : T) → (node e).names ≡ frontier node es → left es e ≡ []
  none_after es e names =
      none_inside (left es e) (λ d c.
      let (inside, is) = Contains-filter_cases (λ d. not (names_digest node e d)) (frontier node es) d c in
      true≢false (sym is ∙ not_from_true (names_digest node e d) (names_digest_of node e d (rw (← names) at inside))))

  -- what was named, and what is still to be named, are no more than what is held
  abbrev IsFew : List (Event T) → Type 0
  IsFew h = count_named node h + length (frontier node (held h)) ≤ length h

  -- so it stays with one event more
  few_push : (owner : ℕ) (p : List (Event T)) (x : Event T) → MayFollow node owner p x → IsFew p → IsFew (p ++ x ∷ [])
  few_push owner p (Sent e) may few =
      let none = ap length (none_after (held p) e may.1.names) in
      rw (map-append entry_of p, sent-append, sum_by-append (λ (f : T). length (node f).names) (sent p), length-append)
      (omega (arith, few, none, ap length may.1.names, frontier_one_more (held p) e))
  few_push owner p (Got e) may few =
      let old = λ (d : List ℕ). not (names_digest node e d) in
      let less : length (left (held p) e) ≤ length (frontier node (held p)) =
      omega (arith, length-filter old (frontier node (held p)), count_by-le-length old (frontier node (held p))) in
      rw (map-append entry_of p, sent-append, append-nil, length-append)
      (omega (arith, few, frontier_one_more (held p) e, less))

  -- and with all events that follow
  few_from : (owner : ℕ) (p q : List (Event T)) → IsLegal node owner (p ++ q) → IsFew p → IsFew (p ++ q)
  few_from owner p [] legal few = rw append-nil few
  few_from owner p (x ∷ q) legal few =
      rw append_assoc at (few_from owner (p ++ x ∷ []) q (rw append_assoc legal)
      (few_push owner p x (legal p x q refl) few))

  -- a legal history names at most as much as it holds
  pub named_once : (owner : ℕ) (h : List (Event T)) → IsLegal node owner h → count_named node h ≤ length h
  named_once owner h legal = omega (arith, few_from owner [] h legal (omega arith))

  -- what a machine holds is apart, since each event is new to those before it
  held_apart : (owner : ℕ) (p q : List (Event T)) → IsLegal node owner (p ++ q) → DigestsDiffer node (held q)
  held_apart owner p [] legal = tt
  held_apart owner p (x ∷ q) legal = (
    λ y inside same.
        let (z, there, is) = Contains-map_cases entry_of q y inside in
        let (before, later, split) = member_split q z there in
        let here : p ++ x ∷ q ≡ (p ++ x ∷ before) ++ z ∷ later =
        ap (λ (es : List (Event T)). p ++ x ∷ es) split ∙ sym (append_assoc p (x ∷ before) (z ∷ later)) in
        new_from_may node owner (p ++ x ∷ before) z (legal (p ++ x ∷ before) z later here) (entry_of x)
        (Contains-map entry_of (p ++ x ∷ before) x (Contains-middle p x before))
        (sym same ∙ ap (λ (e : T). (node e).digest) (sym is)),
    held_apart owner (p ++ x ∷ []) q (rw append_assoc legal),
  )

  module _ (w : World T) (orderly : IsOrderly node w) where
    -- what a machine holds was sent
    pub held_was_sent : (m : ℕ) (e : T) → Contains (held (history w m)) e → Contains (sent_in w) e
    held_was_sent m e inside =
        let (x, there, is) = Contains-map_cases entry_of (history w m) e inside in
        rw is at (event_was_sent w orderly m x there)

    -- no two entries that a machine holds have one digest
    held_differ : (m : ℕ) → DigestsDiffer node (held (history w m))
    held_differ m = held_apart m [] (history w m) (orderly.legal m)

    -- a machine holds no more entries than were sent
    pub few_held : (m : ℕ) → length (history w m) ≤ length (sent_in w)
    few_held m =
        let few = few_among node (held (history w m)) (sent_in w) (held_differ m) (held_was_sent m) in
        omega (arith, few, length-map (history w m) entry_of)

  -- the machines from a place on name together at most as much as they hold
  all_named : (from c : ℕ) (w : World T) → ((m : ℕ) → IsLegal node (from + m) (history w m)) →
      ((m : ℕ) → length (history w m) ≤ c) → sum_by (λ e. length (node e).names) (sent_in w) ≤ c * length w
  all_named from c [] legal few = omega arith
  all_named from c (a ∷ w) legal few =
      let names = λ (e : T). length (node e).names in
      let next = λ (m : ℕ). let e : from + suc m ≡ from + 1 + m = omega arith in rw e at (legal (suc m)) in
      let here = named_once (from + 0) a.history (legal 0) in
      let rest = all_named (from + 1) c w next (λ m. few (suc m)) in
      omega (arith, here, few 0, rest, sum_by-append names (sent a.history) (sent_in w))

  -- what the entries that a machine holds name together
  pub few_named : (w : World T) → IsOrderly node w → (m : ℕ) →
      sum_by (λ e. length (node e).names) (held (history w m)) ≤ length (sent_in w) * length w
  few_named w orderly m =
      let legal = λ (k : ℕ). let e : k ≡ 0 + k = omega arith in
      subst (λ (i : ℕ). IsLegal node i (history w k)) e (orderly.legal k) in
      let all = all_named 0 (length (sent_in w)) w legal (few_held w orderly) in
      let here = sum_among node (λ e. length (node e).names) (held (history w m)) (sent_in w) (held_differ w orderly m)
      (held_was_sent w orderly m) in
      omega (arith, all, here)

-- ---- the text of an entry

-- an octet string that isn't long has its octets and a few bytes more
pub atom : (octets : List ℕ) → length octets < 10 ^ 5 → length (atom_text octets) ≤ length octets + 6
atom octets short =
    let digits = length-decimal-le 5 (length octets) (omega arith) short (omega (arith, short)) in
    omega (arith, digits, length-append {A = ℕ})

-- a number of 32 bits has at most ten digits
number : (n : ℕ) → n < 2 ^ 32 → length (atom_text (decimal n)) ≤ 16
number n small =
    let digits = length-decimal-le 10 n (omega arith) (omega (arith, small)) (omega (arith, small)) in
    omega (arith, digits, atom (decimal n) (omega (arith, digits)))

-- a digest has 32 octets
digest : (octets : List ℕ) → IsDigest octets → length (atom_text octets) ≤ 38
digest octets is = omega (arith, is, atom octets (omega (arith, is)))

-- and so have those that an entry names
names_size : (ds : List (List ℕ)) → All IsDigest ds → length (texts_of (forest_of (map Atom ds))) ≤ 38 * length ds
names_size [] all = omega arith
names_size (d ∷ ds) all =
    let rest = names_size ds (All-tail IsDigest d ds all) in
    omega (arith, length-append {A = ℕ}, digest d (All-head IsDigest d ds all), rest)

-- a deed, in parentheses
deed_size : (version : ℕ) (deed : Deed) → IsVersion version → IsDeed deed →
    length (text_of (deed_tree version deed)) ≤ 78
deed_size version (Override session way) is small =
    omega (arith, length-append {A = ℕ}, atom, number, how_size version way is)
  where
    -- of the way of an override
    how_size : (version : ℕ) (way : How) → IsVersion version →
        length (texts_of (forest_of (how_rest version way))) ≤ 12
    how_size version way (inl one) = rw one (omega arith)
    how_size version how.Cancel (inr two) = rw two (omega (arith, length-append {A = ℕ}, atom))
    how_size version how.Cast (inr two) = rw two (omega (arith, length-append {A = ℕ}, atom))
deed_size version deed is small = omega (arith, length-append {A = ℕ}, atom, number, digest)

-- the signed text is the body's, the signature and a little more
signed_size : (entry : Entry) → IsEntry entry → (key message signature : List ℕ) → Signs key message signature →
    length (text_of (signed_tree entry signature)) ≤ 9100 + 38 * length entry.names
signed_size entry is key message signature signs =
    let long = signature_small key message signature signs in
    let version = version_small entry.version is.version in
    let names = names_size entry.names is.names in
    let deed = deed_size entry.version entry.deed is.version is.deed in
    omega (arith, length-append {A = ℕ}, atom, number, digest)

-- ---- the log of a machine

module _ (posts : List Post) (election : List ℕ) (w : World SealedEntry) (orderly : IsOrderly node_of_sealed w)
    (few_machines : length w ≤ max_machines) (few_sent : length (sent_in w) ≤ max_actions)
    (valid : (e : SealedEntry) → Contains (sent_in w) e → Unseals posts election e.text (Ok e)) where
  -- how much an entry names
  abbrev names : SealedEntry → ℕ
  names e = length (node_of_sealed e).names

  -- the text of an entry that was sent
  entry_size : (e : SealedEntry) → Contains (sent_in w) e → length e.text ≤ 9100 + 38 * names e
  entry_size e inside =
      let kept = (valid e inside).kept in
      let size = signed_size e.entry kept.spelt.lawful e.key (text_of (body_tree e.entry)) e.signature kept.signs in
      omega (arith, ap length kept.spelt.spelt, size)

  -- the record of an event
  record_size : (x : Event SealedEntry) → Contains (sent_in w) (entry_of x) →
      length (record_text x) ≤ 9110 + 38 * names (entry_of x)
  record_size (Sent e) inside = omega (arith, entry_size e inside, length-append e.text (codes ")"))
  record_size (Got e) inside = omega (arith, entry_size e inside, length-append e.text (codes ")"))

  -- the records of a history
  records_size : (h : List (Event SealedEntry)) →
      ((e : SealedEntry) → Contains (held h) e → Contains (sent_in w) e) →
      length (flat_map record_text h) ≤ 9110 * length h + 38 * sum_by names (held h)
  records_size [] inside = omega arith
  records_size (x ∷ h) inside =
      let here = record_size x (inside (entry_of x) (Contains-head (entry_of x) (held h))) in
      let rest = records_size h (λ e c. inside e (Contains-later (entry_of x) (held h) e c)) in
      omega (arith, here, rest, sum_by-cons names (entry_of x) (held h), length-append {A = ℕ})

  -- the header
  header_size : (m : ℕ) → m < 2 ^ 32 → length (text_of (header_tree m)) ≤ 100
  header_size m small =
      omega (arith, length-append {A = ℕ}, atom, number)

  -- a log is within the limit of its file
  pub logs_are_short : (m : ℕ) → m < 2 ^ 32 → length (log_text m (history w m)) ≤ max_bytes
  logs_are_short m small =
      let width : length (sent_in w) * length w ≤ max_actions * max_machines =
      mul-le (length (sent_in w)) (length w) max_actions max_machines few_sent few_machines in
      let held = few_held node_of_sealed w orderly m in
      let named = few_named node_of_sealed w orderly m in
      let records = records_size (history w m) (held_was_sent node_of_sealed w orderly m) in
      omega (arith, header_size m small, length-append (text_of (header_tree m)) (flat_map record_text (history w m)))
