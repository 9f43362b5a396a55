-- What is left on links once they are finished, as it is added to what waits.
use Rattle.machine_floor.proofs.Imports.{◌≡◌, ◌≢◌, ℕ, suc, ◌+◌, ◌<◌, ◌≤◌, List, [], ◌∷◌, ◌++◌, length, map, refl, sym}
use Rattle.machine_floor.proofs.Imports.{ap, ◌∙◌, arith, inl, inr, get_or, set, InView, IsInOf, IsOutOf, LinkView}
use Rattle.machine_floor.proofs.Imports.{OutView, SealedEntry, all_by, AreOnWay, waits_of, Waiting, Inns, Outs, last_of}
use Rattle.machine_floor.proofs.Imports.{lists_of, AreEndsOf, AreMadeBy, ArePopped, IsAdded, IsRest, IsRowFinished}
use Rattle.machine_floor.proofs.Imports.{IsRowOfEnds, in_at, out_at, waiting, Global, Vec, add-one, drop}
use Rattle.machine_floor.proofs.Imports.{get_or-set_other, get_or-set_same, length-append, length-set, cases_Bool}
use Rattle.machine_floor.proofs.Imports.{cases_eq, append-nil, get_or-map, get_or_append_left, length-map, map-set}
use Rattle.machine_floor.proofs.Imports.{All-append, All-contains, All-map, Contains-append_right, ◌&&◌, ◌==◌}
use Rattle.std.proofs.lemmas.Bool.Decides.{nat_tests}
use Rattle.machine_floor.proofs.Drops.{drop_step}

-- it waits on a way between two different machines, each of a number below `count`
abbrev OnWay : ℕ → Waiting → Type 0
OnWay count w = (w.entry.entry.maker < count) × (w.to < count) × (w.entry.entry.maker ≢ w.to)

-- what waits on a way, of two lists
waits_both : (xs ys : List Waiting) (a b : ℕ) → waits_of (xs ++ ys) a b ≡ waits_of xs a b ++ waits_of ys a b
waits_both [] ys a b = refl
waits_both (w ∷ xs) ys a b =
    let rest = waits_both xs ys a b in
    elim (cases_Bool ((w.entry.entry.maker == a) && (w.to == b))) [
      | inl is ↦ rw is (ap (λ (l : List SealedEntry). w.entry ∷ l) rest)
      | inr isnt ↦ rw isnt rest
    ]

-- entries of one machine wait on their way
waits_here : (from to : ℕ) (es : List SealedEntry) → AreMadeBy from es → waits_of (map (waiting to) es) from to ≡ es
waits_here from to [] by = refl
waits_here from to (e ∷ es) by =
    let maker : e.entry.maker ≡ from = by 0 e (omega arith) in
    let rest = waits_here from to es (λ k d lt. by (suc k) d (omega arith)) in
    grind (arith, nat_tests, rest)

-- and on no other
waits_elsewhere : (from to : ℕ) (es : List SealedEntry) (a b : ℕ) → AreMadeBy from es →
    (a ≡ from → b ≡ to → ⊥) → waits_of (map (waiting to) es) a b ≡ []
waits_elsewhere from to [] a b by other = refl
waits_elsewhere from to (e ∷ es) a b by other =
    let maker : e.entry.maker ≡ from = by 0 e (omega arith) in
    let rest = waits_elsewhere from to es a b (λ k d lt. by (suc k) d (omega arith)) other in
    grind (arith, nat_tests, rest)

-- the rest of a link is added
pub rest_added : (from to : ℕ) (put taken rest : List SealedEntry) (before after : List Waiting) → from ≢ to →
    AreMadeBy from put → put ≡ taken ++ rest → after ≡ before ++ map (waiting to) rest →
    IsRest from to put taken before after
rest_added from to put taken rest before after differs by in_order is =
    let mine : AreMadeBy from rest = all_by (λ (x : SealedEntry). x.entry.maker ≡ from) rest (λ x c.
    All-contains (λ (x : SealedEntry). x.entry.maker ≡ from) put x by
    (rw in_order (Contains-append_right taken rest x c))) in
    rw is (record {
      rest = λ _. record {
        rest = rest;
        in_order = in_order;
        waits = waits_both before (map (waiting to) rest) from to
            ∙ ap (λ (l : List SealedEntry). waits_of before from to ++ l) (waits_here from to rest mine);
      };
      others = λ a b other. waits_both before (map (waiting to) rest) a b
          ∙ ap (λ (l : List SealedEntry). waits_of before a b ++ l) (waits_elsewhere from to rest a b mine other)
          ∙ append-nil (waits_of before a b);
      on_way = λ count lf lt on. All-append (OnWay count) before (map (waiting to) rest) on
          (All-map (OnWay count) (waiting to) rest
          (λ k d low. let m = mine k d low in (omega arith, lt, (λ s. differs (sym m ∙ s)))));
    })

-- the last of one of the lists is taken, as vectors have it
pub popped_at : (vs : List (Vec (InView SealedEntry) Global)) (at : ℕ) (v w : Vec (InView SealedEntry) Global)
    (x : InView SealedEntry) → at < length vs → v ≡ get_or vs at v → v.items ≡ w.items ++ x ∷ [] →
    ArePopped at x (lists_of vs) (lists_of (set vs at w))
popped_at vs at v w x lt is last =
    let items : Vec (InView SealedEntry) Global → Inns = λ v. v.items in
    let inside : at < length (lists_of vs) = omega (arith, length-map vs items) in
    rw (map-set items vs at w) (record {
      count = length-set (lists_of vs) at w.items;
      here = get_or-map items vs at v [] lt ∙ sym (ap items is) ∙ last
          ∙ ap (λ (l : Inns). l ++ x ∷ []) (sym (get_or-set_same (lists_of vs) at w.items [] inside));
      others = λ b differs. get_or-set_other (lists_of vs) at b w.items [] differs;
    })

-- the links to the machines below `to` are finished, and the others are left
pub record IsRowing (from to : ℕ) (row0 : List LinkView) (outs0 : Outs) (inns0 : List Inns) (before : List Waiting)
    (row : List LinkView) (outs : Outs) (inns : List Inns) (waits : List Waiting) : Type 0 where
  -- the links to the machines from `to` on are left
  pub row_left : drop to row0 ≡ row
  -- the ends that put to the machines from `to` on are left
  pub outs_left : drop to outs0 ≡ outs
  -- there are still as many lists of ends that take
  pub count : length inns ≡ length inns0
  -- the last end of each machine below `to` was taken out of its list
  pub popped : (b : ℕ) → b < to → (inn : InView SealedEntry) × (get_or inns0 b [] ≡ get_or inns b [] ++ inn ∷ [])
  -- the lists of the others are as they were
  pub left : (b : ℕ) → to ≤ b → get_or inns b [] ≡ get_or inns0 b []
  -- what a machine below `to` didn't take is added to what waits for it
  pub rest : (b : ℕ) (d : OutView SealedEntry) (e : InView SealedEntry) → b < to → from ≢ b →
      IsAdded from b (get_or outs0 b d).put (in_at inns0 from b e).taken before waits
  -- for the others nothing more waits from this sender
  pub same : (b : ℕ) → to ≤ b → waits_of waits from b ≡ waits_of before from b
  -- what waits from other senders is as it was
  pub others : (a b : ℕ) → a ≢ from → waits_of waits a b ≡ waits_of before a b
  -- all that waits stays on its way between two of the machines
  pub on_way : AreOnWay (length inns0) before → AreOnWay (length inns0) waits

module _ {from to : ℕ} {row0 row : List LinkView} {outs0 outs : Outs} {inns0 inns : List Inns}
    {before waits : List Waiting} (is : IsRowing from to row0 outs0 inns0 before row outs inns waits)
    (ends : IsRowOfEnds from row0 outs0 inns0) where
  module _ (inside : to < length inns0) (link : LinkView) (more : List LinkView) (out : OutView SealedEntry)
      (outs_more : Outs) (inn : InView SealedEntry) (inns_now : List Inns) (link_next : row ≡ link ∷ more)
      (out_next : outs ≡ out ∷ outs_more) (pops : ArePopped to inn inns inns_now) where
    -- the next link of the row leads to machine `to`
    link_is : (l : LinkView) → get_or row0 to l ≡ link
    link_is = (drop_step row0 to link more (is.row_left ∙ link_next)).0

    -- the next end that puts is that of the link
    out_is : (d : OutView SealedEntry) → get_or outs0 to d ≡ out
    out_is = (drop_step outs0 to out outs_more (is.outs_left ∙ out_next)).0

    -- the ends of machine `to` that take were those that are left, and the one that was popped
    -- after them
    front : get_or inns0 to [] ≡ get_or inns_now to [] ++ inn ∷ []
    front = sym (is.left to (omega arith)) ∙ pops.here

    -- the end was the last of its list, which has one more than machines are left
    inn_is : (e : InView SealedEntry) → in_at inns0 from to e ≡ inn
    inn_is e =
        let n = ends.left to inside in
        let l = ap length front ∙ length-append (get_or inns_now to []) (inn ∷ []) in
        ap (λ (i : Inns). get_or i from e) front
        ∙ last_of (get_or inns_now to []) inn e from (omega arith)

    -- the ends are the link's, and what was put on a link to another machine is the sender's
    pub fits : IsOutOf link out × IsInOf link inn × (from ≢ to → AreMadeBy from out.put)
    fits = (
      rw (link_is link, out_is out) at (ends.puts to link out inside),
      rw (link_is link, inn_is inn) at (ends.takes to link inn inside),
      λ differs. rw (out_is out) at (ends.makers to out inside differs),
    )

    -- one more is finished
    pub rowing_more : (after : List Waiting) → IsRest from to out.put inn.taken waits after →
        IsRowing from (to + 1) row0 outs0 inns0 before more outs_more inns_now after
    rowing_more after adds = record {
      row_left = rw add-one (drop_step row0 to link more (is.row_left ∙ link_next)).1;
      outs_left = rw add-one (drop_step outs0 to out outs_more (is.outs_left ∙ out_next)).1;
      count = pops.count ∙ is.count;
      popped = λ b lt. elim (cases_eq b to) [
        | inl s ↦ (inn, rw s front)
        | inr n ↦ (let (last, split) = is.popped b (omega arith) in (last, rw (pops.others b n) split))
      ];
      left = λ b le. pops.others b (omega arith) ∙ is.left b (omega arith);
      rest = λ b d e lt differs. elim (cases_eq b to) [
        | inl s ↦ (let r = adds.rest (λ t. differs (t ∙ sym s)) in
            rw (s, out_is d, inn_is e) (record {
              rest = r.rest;
              in_order = r.in_order;
              waits = r.waits ∙ ap (λ (l : List SealedEntry). l ++ r.rest) (is.same to (omega arith));
            }))
        | inr n ↦ (let r = is.rest b d e (omega arith) differs in
            record {
              rest = r.rest;
              in_order = r.in_order;
              waits = adds.others from b (λ t. n) ∙ r.waits;
            })
      ];
      same = λ b le. adds.others from b (λ t s. absurd (omega arith)) ∙ is.same b (omega arith);
      others = λ a b differs. adds.others a b (λ t s. differs t) ∙ is.others a b differs;
      on_way = λ on. adds.on_way (length inns0) ends.place inside (is.on_way on);
    }

  -- once all are finished
  pub rowing_all : to ≡ length inns0 → IsRowFinished from outs0 inns0 inns before waits
  rowing_all end = record {
    count = is.count;
    left = λ b lt.
        let (last, split) = is.popped b (omega arith) in
        let n = ends.left b lt in
        let l = ap length split ∙ length-append (get_or inns b []) (last ∷ []) in
        omega arith;
    same = λ a b e low lt.
        let (last, split) = is.popped b (omega arith) in
        let n = ends.left b lt in
        let l = ap length split ∙ length-append (get_or inns b []) (last ∷ []) in
        rw split (sym (get_or_append_left (get_or inns b []) (last ∷ []) e a (omega arith)));
    rest = λ b d e lt differs. is.rest b d e (omega arith) differs;
    others = is.others;
    on_way = is.on_way;
  }

-- the links of the last senders are finished, and those of the others are left
pub record IsFinishing (links0 : List (List LinkView)) (outs0 : List Outs) (inns0 : List Inns)
    (rows : List (List LinkView)) (outs : List Outs) (inns : List Inns) (waits : List Waiting) : Type 0 where
  -- no more rows are left than there were
  pub within : length rows ≤ length links0
  -- the rows that are left are the first of them
  pub rows_left : (a : ℕ) → a < length rows → get_or rows a [] ≡ get_or links0 a []
  -- as many lists of ends that put are left
  pub as_many : length outs ≡ length rows
  -- which are the first of them too
  pub outs_left : (a : ℕ) → a < length rows → get_or outs a [] ≡ get_or outs0 a []
  -- each machine has a list of ends that take
  pub count : length inns ≡ length links0
  -- with an end for each sender whose row is left
  pub inns_row : (b : ℕ) → b < length links0 → length (get_or inns b []) ≡ length rows
  -- the ends that take from those senders are as they were
  pub inns_left : (a b : ℕ) (e : InView SealedEntry) → a < length rows → b < length links0 →
      in_at inns a b e ≡ in_at inns0 a b e
  -- all that waits is on its way between two of the machines
  pub on_way : AreOnWay (length links0) waits
  -- from a sender whose row is finished, what was put is what was taken and what waits
  pub rest : (a b : ℕ) (d : OutView SealedEntry) (e : InView SealedEntry) → length rows ≤ a → a < length links0 →
      b < length links0 → a ≢ b → (out_at outs0 a b d).put ≡ (in_at inns0 a b e).taken ++ waits_of waits a b
  -- from the other senders nothing waits yet
  pub none : (a b : ℕ) → a < length rows → waits_of waits a b ≡ []

module _ {links0 rows : List (List LinkView)} {outs0 outs : List Outs} {inns0 inns : List Inns} {waits : List Waiting}
    (ends : AreEndsOf links0 outs0 inns0) (is : IsFinishing links0 outs0 inns0 rows outs inns waits)
    (more : List (List LinkView)) (row : List LinkView) (row_last : rows ≡ more ++ row ∷ [])
    (outs_more : List Outs) (puts : Outs) (outs_last : outs ≡ outs_more ++ puts ∷ []) where
  -- there is one row more than those before the last
  one_less : length rows ≡ length more + 1
  one_less = ap length row_last ∙ length-append more (row ∷ [])

  -- before the last there are as many lists of ends that put as rows
  as_many : length outs_more ≡ length more
  as_many = omega (arith, is.as_many, one_less, ap length outs_last ∙ length-append outs_more (puts ∷ []))

  -- the last row is that of its place's sender
  row_is : get_or links0 (length more) [] ≡ row
  row_is = sym (is.rows_left (length more) (omega (arith, one_less)))
      ∙ rw row_last (last_of more row [] (length more) refl)

  -- and the last list of ends that put is that sender's
  puts_are : get_or outs0 (length more) [] ≡ puts
  puts_are = sym (is.outs_left (length more) (omega (arith, one_less)))
      ∙ rw outs_last (last_of outs_more puts [] (length more) (sym as_many))

  -- the row of links can be finished
  pub row_ready : IsRowOfEnds (length more) row puts inns
  row_ready =
      let n = one_less in let w = is.within in let c = is.count in
      let place : length more < length links0 = omega arith in
      record {
        place = omega arith;
        links_row = ap length (sym row_is) ∙ ends.row (length more) place ∙ sym c;
        outs_row = ap length (sym puts_are) ∙ ends.outs_row (length more) place ∙ sym c;
        left = λ b lt. is.inns_row b (omega arith) ∙ n;
        puts = λ b l d lt. rw (row_is, puts_are) at (ends.puts (length more) b l d place (omega arith));
        takes = λ b l e lt. rw (row_is, ← is.inns_left (length more) b e (omega arith) (omega arith)) at
            (ends.takes (length more) b l e place (omega arith));
        makers = λ b d lt differs. rw puts_are at (ends.makers (length more) b d place (omega arith) differs);
      }

  -- one more is finished
  pub finishing_more : (inns_now : List Inns) (after : List Waiting) →
      IsRowFinished (length more) puts inns inns_now waits after →
      IsFinishing links0 outs0 inns0 more outs_more inns_now after
  finishing_more inns_now after row_done =
      let n = one_less in let w = is.within in let c = is.count in
      record {
        within = omega arith;
        rows_left = λ a lt. sym (get_or_append_left more (row ∷ []) [] a lt)
            ∙ rw row_last at (is.rows_left a (omega arith));
        as_many = as_many;
        outs_left = λ a lt. sym (get_or_append_left outs_more (puts ∷ []) [] a (omega (arith, as_many)))
            ∙ rw outs_last at (is.outs_left a (omega arith));
        count = row_done.count ∙ c;
        inns_row = λ b lt. row_done.left b (omega arith);
        inns_left = λ a b e la lb. row_done.same a b e la (omega arith) ∙ is.inns_left a b e (omega arith) lb;
        on_way = rw c at (row_done.on_way (rw c is.on_way));
        rest = λ a b d e le la lb differs. elim (cases_eq a (length more)) [
          | inl s ↦ (let last : length more < length rows = omega arith in
              let r = row_done.rest b d e (omega arith) (λ t. differs (s ∙ t)) in
              rw (s, puts_are, r.waits, is.none (length more) b last)
              (rw (is.inns_left (length more) b e last lb) at r.in_order))
          | inr other ↦ rw (row_done.others a b other) (is.rest a b d e (omega arith) la lb differs)
        ];
        none = λ a b lt. row_done.others a b (omega arith) ∙ is.none a b (omega arith);
      }
