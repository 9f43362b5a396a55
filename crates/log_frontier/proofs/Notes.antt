-- The places of a frontier when one entry more is held.
use Rattle.log_frontier.proofs.Imports.{[], ap, arith, Bool, cases_Bool, cond, Contains, Contains-head, Contains-later}
use Rattle.log_frontier.proofs.Imports.{count_below, drop, Equal, exact_bytes, false, get_or, HasNoDigestTwice, inl}
use Rattle.log_frontier.proofs.Imports.{inr, is_lt, is_named, length, length-take, Less, List, map, names_digest}
use Rattle.log_frontier.proofs.Imports.{nat_cmp, nat_list_cmp_total, Node, not, Ordering, push_before, refl, slice_cmp}
use Rattle.log_frontier.proofs.Imports.{slice_get_read, sym, take, true, ℕ, ◌++◌, ◌+◌, ◌<◌, ◌∙◌, ◌∷◌, ◌≡◌, ◌≢◌}
use Rattle.entry_order.proofs.{Frontiers.frontier_entry, Frontiers.frontier_push, Lists.Contains-filter_cases}
use Rattle.entry_order.proofs.{Places.element_at, Places.taken_more}
use Rattle.entry_order.specs.{Ascending.insert_digest, Ascending.inserted, Frontier.frontier}
use Rattle.log_frontier.specs.{inside.Noting.is_left, Places.digest_at, Places.digest_or_none, Places.IsFrontierAt}
use Rattle.std.proofs.Common.{one-add, suc}
use Rattle.std.proofs.lemmas.List.Elements.{All-cons, All-filter, All-head, All-tail, All-weaker}
use Rattle.std.proofs.lemmas.List.Sorted.{All-permutation, IsPermutation-insert}
use Rattle.std.proofs.lemmas.List.{drop-map, map-append, take-map, take_all}
use Rattle.std.specs.List.{All, filter, insert, prefix_len}
use Rattle.std.specs.{declared.cmp.Ordering.TheVariants.Greater, Ordering.ordering_reverse}

-- how many digests from the front on are below d
abbrev low : List ℕ → List (List ℕ) → ℕ
low d ds = prefix_len (λ c. is_lt (slice_cmp nat_cmp c d)) ds

-- past a digest of the list the place of d is counted on by whether that digest is below d
insert_step : (o : Ordering) (d c : List ℕ) (cs : List (List ℕ)) → slice_cmp nat_cmp d c ≡ o → c ≢ d →
    insert_digest d cs ≡ insert cs (low d cs) d →
    inserted o d c cs (insert_digest d cs) ≡ insert (c ∷ cs) (cond (is_lt (ordering_reverse o)) (1 + low d cs) 0) d
insert_step Less d c cs e apart rest = refl
insert_step Equal d c cs e apart rest = absurd (apart (sym (exact_bytes d c e)))
insert_step Greater d c cs e apart rest = rw (one-add, rest)

-- a digest put in its place, by the number of those below it
insert_by_count : (d : List ℕ) (ds : List (List ℕ)) → ((c : List ℕ) → Contains ds c → c ≢ d) →
    insert_digest d ds ≡ insert ds (low d ds) d
insert_by_count d [] apart = refl
insert_by_count d (c ∷ cs) apart =
    rw (nat_list_cmp_total.antisymm c d) (insert_step (slice_cmp nat_cmp d c) d c cs refl (apart c (Contains-head c cs))
    (insert_by_count d cs (λ b h. apart b (Contains-later c cs b h))))

-- an item that is put at a place of a list has its value put there
map_insert : {A B : Type 0} (f : A → B) (xs : List A) (i : ℕ) (x : A) →
    map f (insert xs i x) ≡ insert (map f xs) i (f x)
map_insert f xs i x = rw (map-append f (take i xs) (x ∷ drop i xs), take-map f i xs, drop-map f i xs)

-- as many items pass from the front on as values do
prefix_len_map : {A B : Type 0} (f : A → B) (p : B → Bool) (xs : List A) →
    prefix_len p (map f xs) ≡ prefix_len (λ x. p (f x)) xs
prefix_len_map f p [] = refl
prefix_len_map f p (x ∷ xs) = ap (λ n. cond (p (f x)) (1 + n) 0) (prefix_len_map f p xs)

-- what a filter keeps, mapped, where both tests and both maps agree on the members
map_filter : {A B : Type 0} (f g : A → B) (q : A → Bool) (p : B → Bool) (P : A → Type 0) →
    ((x : A) → P x → (f x ≡ g x) × (q x ≡ p (g x))) → (xs : List A) → All P xs →
    map f (filter q xs) ≡ filter p (map g xs)
map_filter f g q p P agree [] all = refl
map_filter f g q p P agree (x ∷ xs) all =
    let (same, alike) = agree x (All-head P x xs all) in
    let rest = map_filter f g q p P agree xs (All-tail P x xs all) in
    elim (cases_Bool (p (g x))) [ inl passes ↦ rw (alike, passes, same, rest) | inr fails ↦ rw (alike, fails) rest ]

-- the digest at a place that was read
pub digest_at_read : {T : Type 0} (node : T → Node) (es : List T) (p : ℕ) (e : T) → p < length es →
    e ≡ get_or es p e → digest_at node es p ≡ (node e).digest
digest_at_read node es p e l is = ap (digest_or_none node) (slice_get_read es (length es) p e refl l is)

-- a list that isn't empty is its front and its last member
pub last_split : {A : Type 0} (xs : List A) (n : ℕ) (x : A) → length xs ≡ suc n → x ≡ get_or xs n x →
    xs ≡ take n xs ++ x ∷ []
last_split xs n x l e = sym (take_all (n + 1) xs (omega arith)) ∙ taken_more xs n x (omega arith) e

-- a list whose last entry is e, at the place, and the frontier's places of the entries before it
module _ {T : Type 0} (node : T → Node) (held : List T) (place : ℕ) (e : T) (ps : List ℕ)
    (last : place + 1 ≡ length held) (is : e ≡ get_or held place e)
    (front : IsFrontierAt node (take place held) ps) where
  -- the places that e doesn't name
  abbrev left : List ℕ
  left = filter (is_left node e held) ps

  -- the digests of the frontier that e doesn't name
  abbrev kept : List (List ℕ)
  kept = filter (λ d. not (names_digest node e d)) (frontier node (take place held))

  -- the entries are those up to the place and e
  whole : held ≡ take place held ++ e ∷ []
  whole = last_split held place e (omega arith) is

  -- with e's digest in its place, unless it is named, what is kept is the frontier
  now : frontier node held ≡ cond (is_named node held (node e).digest) kept (insert_digest (node e).digest kept)
  now = rw (← whole) at (frontier_push node (take place held) e)

  -- the earlier places have their digests, and both words for not being named by e agree there
  agree : (p : ℕ) → p < length (take place held) →
      (digest_at node held p ≡ digest_at node (take place held) p)
      × (is_left node e held p ≡ not (names_digest node e (digest_at node (take place held) p)))
  agree p l =
      let (f, there) = element_at (take place held) p l in
      let here = rw (← whole) at (push_before (take place held) e p f there) in
      (rw (here, there), rw (here, there))

  -- the digests at the places that are left are those that e doesn't name
  left_digests : map (λ p. digest_at node held p) left ≡ kept
  left_digests =
      map_filter (λ p. digest_at node held p) (λ p. digest_at node (take place held) p) (is_left node e held)
      (λ d. not (names_digest node e d)) (λ p. p < length (take place held)) agree ps front.inside
      ∙ ap (filter (λ d. not (names_digest node e d))) front.digests

  -- the places that are left are places of the list
  pub left_inside : All (λ p. p < length held) left
  left_inside =
      All-filter (is_left node e held) (λ p. p < length held) ps (All-weaker (λ p. p < length (take place held))
      (λ p. p < length held) (λ p l. omega (arith, length-take place held)) ps front.inside)

  -- where some entry names the last one, they are the frontier
  pub note_named : is_named node held (digest_at node held place) ≡ true → IsFrontierAt node held left
  note_named named =
      let is_so = rw (digest_at_read node held place e (omega arith) is) at named in
      record { inside = left_inside; digests = left_digests ∙ sym (rw is_so at now) }

  -- where none does, its own place is put among them
  pub note_free : HasNoDigestTwice node held → is_named node held (digest_at node held place) ≡ false →
      IsFrontierAt node held (insert left (count_below node held (node e).digest left) place)
  note_free distinct free =
      let d = (node e).digest in
      let n = count_below node held d left in
      let own = digest_at_read node held place e (omega arith) is in
      let unnamed = rw own at free in
      record {
        inside = All-permutation (λ p. p < length held) (place ∷ left) (insert left n place)
            (IsPermutation-insert left n place) (All-cons (λ p. p < length held) place left (omega arith) left_inside);
        digests = map_insert (λ p. digest_at node held p) left n place
            ∙ rw (
              sym (prefix_len_map (λ p. digest_at node held p) (λ c. is_lt (slice_cmp nat_cmp c d)) left),
              left_digests,
              own,
            )
            (sym (insert_by_count d kept apart) ∙ sym (rw unnamed at now));
      }
    where
      -- e's digest is none of those that are kept
      apart : (c : List ℕ) → Contains kept c → c ≢ (node e).digest
      apart c h same =
          let (listed, _) =
          Contains-filter_cases (λ d. not (names_digest node e d)) (frontier node (take place held)) c h in
          let (f, there, equal) = frontier_entry node (take place held) c listed in
          distinct (take place held) e [] whole f there (equal ∙ same)
