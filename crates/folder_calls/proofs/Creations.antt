-- What stands under one name, while a file is made there.
use Rattle.std.proofs.Common.{◌≡◌, ◌∙◌, ℕ, Bool, true, List, Option, Some, None, arith}
use Rattle.std.specs.Prelude.{Result, Ok, Err, OnErr}
use Rattle.folder_calls.specs.World.{FolderMoment, IsUnused, IsClear, Moments, Now, Goes, Does, does, Creates, removed}
use Rattle.folder_calls.specs.{World.created, Creating.IsTried}
use Rattle.folder_calls.proofs.Goes.{now_any, goes_same, goes_none, goes_first, goes_then}
use Rattle.folder_calls.proofs.Steps.{not_same}

module _ (name : List ℕ) where
  clear_same : (w : FolderMoment) → IsClear name w w
  clear_same w = search

  clear_on : (u v w : FolderMoment) → IsClear name u v → IsClear name v w → IsClear name u w
  clear_on u v w first later = record {
    at = λ other differs. later.at other differs ∙ first.at other differs;
    before = λ other differs. later.before other differs ∙ first.before other differs;
    node = λ other i differs among. later.node other i differs
        (rw (first.at other differs, first.before other differs) among) ∙ first.node other i differs among;
  }

  clear_removed : (w : FolderMoment) → IsClear name w (removed name w)
  clear_removed w = grind (arith, not_same)

  clear_created : (i : ℕ) (w : FolderMoment) → IsUnused i w → IsClear name w (created name i w)
  clear_created i w fresh = grind (arith, not_same)

  pub clears_on : (a b c : Moments) → Goes (IsClear name) a b → Goes (IsClear name) b c → Goes (IsClear name) a c
  clears_on a b c first later = goes_then (IsClear name) (λ s any. clear_same s) a b c (λ s w any clear. clear)
      (λ s v w any. clear_on s v w) (now_any a) first later

  pub clears_same : (a b : Moments) → b ≡ a → Goes (IsClear name) a b
  clears_same a b same = goes_same (IsClear name) a b same

  pub clears_removed : (ok : Bool) (a b : Moments) → Does (removed name) ok a b → Goes (IsClear name) a b
  clears_removed ok a b did = goes_first (IsClear name) (removed name) ok a b (λ s any. clear_removed s) (now_any a) did

  pub clears_created : (i : ℕ) (a b : Moments) → b ≡ does (created name i) a → Now a (IsUnused i)
      → Goes (IsClear name) a b
  clears_created i a b did fresh = goes_first (IsClear name) (created name i) true a b (clear_created i) fresh did

  pub made_creates : (i : ℕ) (a b c : Moments) → b ≡ does (created name i) a → Now a (IsUnused i) → c ≡ b
      → Creates name a c i
  made_creates i a b c did fresh same =
      record { mid = a; clears = goes_none (IsClear name) a; did = same ∙ did; fresh = fresh }

  pub creates_after : (i : ℕ) (a b c : Moments) → Goes (IsClear name) a b → Creates name b c i → Creates name a c i
  creates_after i a b c clears creates =
      record { mid = _; clears = clears_on a b _ clears creates.clears; did = creates.did; fresh = creates.fresh }

  pub creates_clears : (i : ℕ) (a b : Moments) → Creates name a b i → Goes (IsClear name) a b
  creates_clears i a b creates =
      clears_on a creates.mid b creates.clears (clears_created i creates.mid b creates.did creates.fresh)

  pub tried_clears : (a b : Moments) (made : Option ℕ) → IsTried name a b made → Goes (IsClear name) a b
  tried_clears a b None clears = clears
  tried_clears a b (Some i) creates = creates_clears i a b creates

-- what holds of any failure holds of this one
pub where_fails : {T E : Type 0} (r : Result T E) (P : Type 0) → P → OnErr r P
where_fails (Ok x) P p = tt
where_fails (Err e) P p = p
