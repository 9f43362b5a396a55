-- Links are added row by row, each with its ends.
use Rattle.floor_links.proofs.Imports.{◌≡◌, ℕ, ◌+◌, ◌<◌, zero, suc, List, [], ◌∷◌, ◌++◌, length, map, refl, sym, ap}
use Rattle.floor_links.proofs.Imports.{◌∙◌, subst, arith, inl, inr, set, get_or, get_or-set_same, get_or-set_other}
use Rattle.floor_links.proofs.Imports.{length-append, Vec, Global, All, cases_eq, map-append, get_or_default}
use Rattle.floor_links.proofs.Imports.{get_or_append_left, All-push, length-set, SealedEntry, LinkView, OutView}
use Rattle.floor_links.proofs.Imports.{InView, IsNewOut, IsNewIn, out_of, in_of, IsLinkOf, AreNewRows, IsRowBelow}

-- the ends of one machine that put
abbrev pub Outs : Type 0
Outs = List (OutView SealedEntry)

-- the ends of one machine that take
abbrev pub Inns : Type 0
Inns = List (InView SealedEntry)

-- the lists in vectors
abbrev pub lists_of : {X : Type 0} → List (Vec X Global) → List (List X)
lists_of {X} vs = map (λ (v : Vec X Global). v.items) vs

-- a vector more is a list more
pub lists_push : {X : Type 0} (vs new : List (Vec X Global)) (v : Vec X Global) → new ≡ vs ++ v ∷ [] →
    lists_of new ≡ lists_of vs ++ v.items ∷ []
lists_push {X} vs new v is = ap lists_of is ∙ map-append (λ (v : Vec X Global). v.items) vs (v ∷ [])

-- the last of a list with one more
pub last_of : {X : Type 0} (xs : List X) (x d : X) (k : ℕ) → k ≡ length xs → get_or (xs ++ x ∷ []) k d ≡ x
last_of [] x d zero s = refl
last_of [] x d (suc k) s = absurd (omega arith)
last_of (y ∷ xs) x d zero s = absurd (omega arith)
last_of (y ∷ xs) x d (suc k) s = last_of xs x d k (omega arith)

-- before any link was made
pub row_none : (from capacity : ℕ) (before : List Inns) → IsRowBelow from capacity 0 [] [] before before
row_none from capacity before = record {
  count = refl;
  carry = λ k d lt. absurd (omega arith);
  puts = refl;
  takes_count = refl;
  takes = λ b d l lt. absurd (omega arith);
  left = λ b d above. refl;
}

-- one link more, with its ends
pub row_more : (from capacity most : ℕ) (row : List LinkView) (outs : Outs) (before after : List Inns) (link : LinkView)
    (out : OutView SealedEntry) (inn : InView SealedEntry) → IsRowBelow from capacity most row outs before after →
    most < length before → IsLinkOf from capacity link → IsNewOut link out → IsNewIn link inn →
    IsRowBelow from capacity (most + 1) (row ++ link ∷ []) (outs ++ out ∷ []) before
    (set after most (get_or after most [] ++ inn ∷ []))
row_more from capacity most row outs before after link out inn is within of new_out new_in =
    let added : Inns = get_or after most [] ++ inn ∷ [] in
    record {
      count = (let c = is.count in omega (arith, length-append row (link ∷ [])));
      carry = All-push (IsLinkOf from capacity) row link is.carry of;
      puts = ap (λ l. l ++ out ∷ []) is.puts ∙ ap (λ o. map out_of row ++ o ∷ []) new_out
          ∙ sym (map-append out_of row (link ∷ []));
      takes_count = length-set after most added ∙ is.takes_count;
      takes = λ b d l lt.
          elim (cases_eq b most) [
            | inl s ↦ (let inside : most < length after = (let c = is.takes_count in omega arith) in
                let now : get_or (set after most added) b d ≡ added = ap (λ n. get_or (set after most added) n d) s
                ∙ get_or-set_same after most added d inside in
                let was : get_or after most [] ≡ get_or before b d = is.left most [] (omega arith)
                ∙ get_or_default before most [] d within ∙ ap (λ n. get_or before n d) (sym s) in
                let here : link ≡ get_or (row ++ link ∷ []) b l =
                sym (last_of row link l b (let c = is.count in omega arith)) in
                now ∙ ap (λ h. h ++ inn ∷ []) was ∙ ap (λ i. get_or before b d ++ i ∷ []) new_in
                ∙ ap (λ k. get_or before b d ++ in_of k ∷ []) here)
            | inr n ↦ (let low : b < length row = (let c = is.count in omega arith) in
                get_or-set_other after most b added d n ∙ is.takes b d l (omega arith)
                ∙ ap (λ k. get_or before b d ++ in_of k ∷ []) (sym (get_or_append_left row (link ∷ []) l b low)))
          ];
      left = λ b d above. get_or-set_other after most b added d (omega arith) ∙ is.left b d (omega arith);
    }

-- this many lists, all of them empty
pub record AreEmpty (many : ℕ) (inns : List Inns) : Type 0 where
  -- there are this many lists
  pub count : length inns ≡ many
  -- each of them is empty
  pub empty : All (λ (l : Inns). l ≡ []) inns

-- with another empty list there is one more, and all are empty
pub empty_more : (n : ℕ) (inns : List Inns) → AreEmpty n inns → AreEmpty (n + 1) (inns ++ [] ∷ [])
empty_more n inns are = record {
  count = (let c = are.count in omega (arith, length-append inns ([] ∷ [])));
  empty = All-push (λ (l : Inns). l ≡ []) inns [] are.empty refl;
}

-- before any row was made
pub rows_none : (count capacity : ℕ) (inns : List Inns) → AreEmpty count inns →
    AreNewRows 0 count capacity [] [] inns
rows_none count capacity inns are = record {
  rows = refl;
  square = λ a lt. absurd (omega arith);
  carry = λ a lt. absurd (omega arith);
  puts_count = refl;
  puts = λ a d lt. absurd (omega arith);
  takes_count = are.count;
  takes = λ b d l lt. are.empty b d (let c = are.count in omega arith);
}

-- one row more
pub rows_more : (most count capacity : ℕ) (rows : List (List LinkView)) (outs : List Outs) (inns after : List Inns)
    (row : List LinkView) (ends : Outs) → AreNewRows most count capacity rows outs inns →
    IsRowBelow most capacity count row ends inns after →
    AreNewRows (most + 1) count capacity (rows ++ row ∷ []) (outs ++ ends ∷ []) after
rows_more most count capacity rows outs inns after row ends are is =
    let last : (a : ℕ) → a ≡ most → get_or (rows ++ row ∷ []) a [] ≡ row = λ a s.
    last_of rows row [] a (let c = are.rows in omega arith) in
    let first : (a : ℕ) → a < most → get_or (rows ++ row ∷ []) a [] ≡ get_or rows a [] = λ a lt.
    get_or_append_left rows (row ∷ []) [] a (let c = are.rows in omega arith) in
    record {
      rows = (let c = are.rows in omega (arith, length-append rows (row ∷ [])));
      square = λ a lt. elim (cases_eq a most) [
        | inl s ↦ ap length (last a s) ∙ is.count
        | inr n ↦ ap length (first a (omega arith)) ∙ are.square a (omega arith)
      ];
      carry = λ a lt. elim (cases_eq a most) [
        | inl s ↦ subst (All (IsLinkOf a capacity)) (sym (last a s))
            (subst (λ k. All (IsLinkOf k capacity) row) (sym s) is.carry)
        | inr n ↦ subst (All (IsLinkOf a capacity)) (sym (first a (omega arith))) (are.carry a (omega arith))
      ];
      puts_count = (let c = are.puts_count in omega (arith, length-append outs (ends ∷ [])));
      puts = λ a d lt. elim (cases_eq a most) [
        | inl s ↦ last_of outs ends d a (let c = are.puts_count in omega arith) ∙ is.puts
            ∙ ap (map out_of) (sym (last a s))
        | inr n ↦ get_or_append_left outs (ends ∷ []) d a (let c = are.puts_count in omega arith)
            ∙ are.puts a d (omega arith) ∙ ap (map out_of) (sym (first a (omega arith)))
      ];
      takes_count = is.takes_count ∙ are.takes_count;
      takes = λ b d l lt.
          is.takes b d l lt ∙ ap (λ h. h ++ in_of (get_or row b l) ∷ []) (are.takes b d l lt)
          ∙ sym (map-append (λ (r : List LinkView). in_of (get_or r b l)) rows (row ∷ []));
    }
