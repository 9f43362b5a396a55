-- The pass over open lists, which keeps the counts of their members.
use Rattle.canonical_sexp.specs.declared.read.Read.TheVariants as read
use Rattle.canonical_sexp.specs.declared.scanning.Extent.TheVariants as scan
use Rattle.canonical_sexp.proofs.Imports.{[], Answers, ap, AreOpenWithin, arith, at_start, Atom, atom_text, Branch}
use Rattle.canonical_sexp.proofs.Imports.{count_of, decimal, drop, Extent, Forest, get_or, in_front, IsAtomInFront}
use Rattle.canonical_sexp.proofs.Imports.{IsAtomScan, joined, length, length-append, length-drop, length-set}
use Rattle.canonical_sexp.proofs.Imports.{length-take-le, List, map, max_members, nat_tests, no_trees, None, open_text}
use Rattle.canonical_sexp.proofs.Imports.{refl, Scans, set, Sexp, subst, suc, sym, take, take-add, take-take, take_all}
use Rattle.canonical_sexp.proofs.Imports.{take_more, take_more_set, token_fault, zero, ℕ, ◌++◌, ◌+◌, ◌-◌, ◌<◌, ◌∙◌, ◌∷◌}
use Rattle.canonical_sexp.proofs.{Imports.◌≡◌, Imports.◌≤◌, Opened.AreOpenWithin-more, Opened.AreOpenWithin-pop}
use Rattle.canonical_sexp.proofs.Opened.{AreOpenWithin-push, open_text-more, open_text-pop, open_text-push}
use Rattle.canonical_sexp.proofs.{Places.atom_is_cut, Places.is_bad_length, Rows.count_of-more}
use Rattle.std.proofs.lemmas.List.{get_or-map, get_or-take, map_push, take-map}

-- the bytes so far are those of some open lists, `depth` around the innermost, which has `members`
-- members
pub record AreScanned (bytes : List ℕ) (at : ℕ) (counts : List ℕ) (depth members : ℕ) : Type 0 where
  pub outer : List Forest
  pub current : Forest
  -- the place is within the bytes
  pub within : at ≤ length bytes
  -- the bytes up to it are the open lists' text
  pub so_far : take at bytes ≡ open_text outer current
  -- the open lists are within the limits
  pub nested : AreOpenWithin 8 outer current
  -- the depth is the number of lists around the innermost
  pub depth_is : depth ≡ length outer
  -- the counts are those of the lists around
  pub counts_are : take depth counts ≡ map count_of outer
  -- `members` is the number of members of the innermost
  pub members_is : members ≡ count_of current
  -- there is room for eight counts
  pub size : length counts ≡ 8

-- a list that may open has room and depth
open_room : (depth members : ℕ) → token_fault depth members 40 ≡ None → (members < max_members) × (depth < 8)
open_room depth members e = (grind (arith, nat_tests), grind (arith, nat_tests))

-- a list begins: the count of the one around it is kept
pub scan_open : (bytes : List ℕ) (at : ℕ) (counts : List ℕ) (depth members : ℕ) →
    AreScanned bytes at counts depth members → at < length bytes → get_or bytes at 0 ≡ 40 →
    token_fault (depth + 1) members 40 ≡ None →
    AreScanned bytes (at + 1) (set counts depth members) (depth + 1) 0
scan_open bytes at counts depth members h within is fault =
    let (room, deep) = open_room (depth + 1) members fault in
    record {
      outer = h.outer ++ h.current ∷ [];
      current = no_trees;
      within = omega arith;
      so_far = rw (take_more bytes at 0 within, is, h.so_far) (sym (open_text-push h.outer h.current no_trees));
      nested = AreOpenWithin-push 8 h.outer h.current h.nested (omega arith) (omega arith);
      depth_is = omega (arith, length-append h.outer (h.current ∷ []));
      counts_are = rw (take_more_set counts depth members (omega arith), h.counts_are, h.members_is)
          (sym (map_push count_of h.outer h.current));
      members_is = refl;
      size = length-set counts depth members ∙ h.size;
    }

-- the innermost list ends, one member more of the one around it
pub scan_close : (bytes : List ℕ) (at : ℕ) (counts : List ℕ) (depth members : ℕ) →
    AreScanned bytes at counts depth members → at < length bytes → get_or bytes at 0 ≡ 41 → 0 < depth →
    AreScanned bytes (at + 1) counts (depth - 1) (get_or counts (depth - 1) 0 + 1)
scan_close bytes at counts depth members h within is some =
    let last : ℕ = depth - 1 in
    let outer : List Forest = take last h.outer in
    let around : Forest = get_or h.outer last no_trees in
    let inside : last < length h.outer = omega arith in
    let split : h.outer ≡ outer ++ around ∷ [] =
    sym (take_all (last + 1) h.outer (omega arith)) ∙ take_more h.outer last no_trees inside in
    let (nested, room, member) = AreOpenWithin-pop 8 outer around h.current
    (subst (λ fs. AreOpenWithin 8 fs h.current) split h.nested) in
    let count : get_or counts last 0 ≡ count_of around =
    sym (get_or-take depth counts last 0 (omega arith)) ∙ ap (λ ns. get_or ns last 0) h.counts_are
    ∙ get_or-map count_of h.outer last no_trees 0 inside in
    record {
      outer = outer;
      current = joined around (in_front (Branch h.current) no_trees);
      within = omega arith;
      so_far = rw (take_more bytes at 0 within, is, h.so_far) (ap (λ fs. open_text fs h.current ++ 41 ∷ []) split
          ∙ sym (open_text-pop outer around h.current));
      nested = AreOpenWithin-more 8 outer around (Branch h.current) nested room member;
      depth_is = sym (length-take-le last h.outer (omega arith));
      counts_are = sym (take-take last depth counts (omega arith)) ∙ ap (take last) h.counts_are
          ∙ take-map count_of last h.outer;
      members_is = omega (arith, count_of-more around (Branch h.current));
      size = h.size;
    }

-- an atom is one member more
pub scan_atom_step : (bytes : List ℕ) (at used : ℕ) (counts : List ℕ) (depth members : ℕ) →
    AreScanned bytes at counts depth members → members < max_members → IsAtomInFront (drop at bytes) used →
    AreScanned bytes (at + used) counts depth (members + 1)
scan_atom_step bytes at used counts depth members h room atom =
    record {
      outer = h.outer;
      current = joined h.current (in_front (Atom atom.octets) no_trees);
      within = omega (arith, length-drop at bytes, atom.within, h.within);
      so_far = rw (take-add at used bytes, h.so_far, atom.spelt) (sym (open_text-more h.outer h.current
          (Atom atom.octets)));
      nested = AreOpenWithin-more 8 h.outer h.current (Atom atom.octets) h.nested (omega arith) atom.few;
      depth_is = h.depth_is;
      counts_are = h.counts_are;
      members_is = omega (arith, count_of-more h.current (Atom atom.octets));
      size = h.size;
    }

-- the parenthesis that closes the outermost list completes a text
pub scan_whole : (bytes : List ℕ) (at : ℕ) (outer : List Forest) (current : Forest) → at < length bytes →
    take at bytes ≡ open_text outer current → AreOpenWithin 8 outer current → get_or bytes at 0 ≡ 41 →
    length outer ≡ 0 → (tree : Sexp) × Answers bytes (read.Whole tree (at + 1))
scan_whole bytes at [] current within so_far nested is none = (
  Branch current,
  record { fits = nested; within = omega arith; spelt = rw (take_more bytes at 0 within, is, so_far) },
)
scan_whole bytes at (f ∷ outer) current within so_far nested is none = absurd (omega arith)

-- at the first parenthesis
pub scan_begun : (bytes : List ℕ) → 0 < length bytes → get_or bytes 0 0 ≡ 40 →
    AreScanned bytes 1 (0 ∷ 0 ∷ 0 ∷ 0 ∷ 0 ∷ 0 ∷ 0 ∷ 0 ∷ []) 0 0
scan_begun [] some is = absurd (omega arith)
scan_begun (c ∷ bytes) some is =
    record {
      outer = [];
      current = no_trees;
      within = omega arith;
      so_far = ap (λ k. k ∷ []) is;
      nested = (omega arith, omega arith, tt);
      depth_is = refl;
      counts_are = refl;
      members_is = refl;
      size = refl;
    }

-- an atom's text isn't empty
pub atom_some : (octets bytes : List ℕ) (used : ℕ) → take used bytes ≡ atom_text octets → 0 < used
atom_some octets bytes zero e =
    absurd (omega (arith, ap length e, length-append (decimal (length octets)) (58 ∷ octets)))
atom_some octets bytes (suc used) e = omega arith

-- an atom alone
pub atom_scan : (bytes : List ℕ) (answer : Extent) → IsAtomScan bytes answer → Scans bytes answer
atom_scan bytes (scan.Whole used) h =
    (Atom h.octets, record { fits = h.few; within = h.within; spelt = h.spelt })
atom_scan bytes scan.Cut h = atom_is_cut at_start bytes tt (omega arith) h
atom_scan bytes (scan.Bad at why) h =
    is_bad_length at_start bytes at h.value why tt (omega arith) h.inside h.few h.digits h.fault
