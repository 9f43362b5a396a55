-- A script and a session show one thing, or are refused in one way.
use Rattle.demonstration.proofs.Imports.{false, all_at, ◌≡◌, ◌∙◌, ◌⊎◌, ℕ, ◌+◌, ◌<◌, Bool, cond, List, [], ◌∷◌, length}
use Rattle.demonstration.proofs.Imports.{refl, sym, ap, subst, inl, inr, count_by, Result, Ok, Err, AllZip, fold}
use Rattle.demonstration.proofs.Imports.{false≢true, cases_order, Post, Script, SealedEntry, history, sent_in, Event}
use Rattle.demonstration.proofs.Imports.{roster_of, MachineState, ScriptsArePlayedInOneWay, world_of, Verdict, Kept}
use Rattle.demonstration.proofs.Imports.{Broken, Unsettled, Refusal, Agree, is_broken, is_unsettled, AuditReport}
use Rattle.demonstration.proofs.Imports.{SameReport, SameVerdict, Demonstration, ends_session, IsLastEnd, HasNoEnd}
use Rattle.demonstration.proofs.Imports.{IsKeptOf, is_kept, GivesAudit, IsAudited, IsCounted, IsDemonstrationOf}
use Rattle.demonstration.proofs.Imports.{IsRefusedSo}

module _ (session : ℕ) (events : List (Event SealedEntry)) where
  -- the last event that ends the session is at one place
  one_place : (p q : ℕ) → IsLastEnd session events p → IsLastEnd session events q → p ≡ q
  one_place p q a b = by (cases_order p q)
    where
      -- by their order: after the last event that ends the session none ends it
      by : (p ≡ q) ⊎ ((p < q) ⊎ (q < p)) → p ≡ q
      by (inl e) = e
      by (inr (inl less)) = absurd (false≢true (sym (a.last q b.event less b.stands) ∙ b.ends))
      by (inr (inr more)) = absurd (false≢true (sym (b.last p a.event more a.stands) ∙ a.ends))

  -- where no event ends the session, none is the last that does
  none_is_last : (p : ℕ) → HasNoEnd session events → ¬ IsLastEnd session events p
  none_is_last p none is =
      false≢true (sym (all_at (λ e. ends_session session e ≡ false) events p is.event none is.stands) ∙ is.ends)

  -- so one text is kept
  one_kept : (owner : ℕ) (bytes others : List ℕ) → IsKeptOf session owner events bytes →
      IsKeptOf session owner events others → bytes ≡ others
  one_kept owner bytes others (inl (p, a, e)) (inl (q, b, f)) = rw (e, f, one_place p q a b)
  one_kept owner bytes others (inl (p, a, e)) (inr (none, f)) = absurd (none_is_last p none a)
  one_kept owner bytes others (inr (none, e)) (inl (q, b, f)) = absurd (none_is_last q none b)
  one_kept owner bytes others (inr (none, e)) (inr (also, f)) = e ∙ sym f

-- what is counted of two verdicts is one
pub record AreCountedAlike (v w : Verdict) : Type 0 where
  pub kept : is_kept v ≡ is_kept w
  pub broken : is_broken v ≡ is_broken w
  pub unsettled : is_unsettled v ≡ is_unsettled w

-- so it is for verdicts that are the same
pub one_count : (v w : Verdict) → SameVerdict v w → AreCountedAlike v w
one_count Kept Kept same = record { kept = refl; broken = refl; unsettled = refl }
one_count (Broken places) (Broken others) same = record { kept = refl; broken = refl; unsettled = refl }
one_count Unsettled Unsettled same = record { kept = refl; broken = refl; unsettled = refl }
one_count v w same = absurd same

-- so their counts are
pub same_count : (p : Verdict → Bool) → ((v w : Verdict) → SameVerdict v w → p v ≡ p w) → (vs ws : List Verdict) →
    AllZip SameVerdict vs ws → count_by p vs ≡ count_by p ws
same_count p each vs ws same = along 0 vs ws same
  where
    -- from any count on, both lists add as much
    along : (n : ℕ) (vs ws : List Verdict) → AllZip SameVerdict vs ws →
        fold (λ a v. a + cond (p v) 1 0) n vs ≡ fold (λ a v. a + cond (p v) 1 0) n ws
    along n [] [] same = refl
    along n [] (w ∷ ws) same = absurd same
    along n (v ∷ vs) [] same = absurd same
    along n (v ∷ vs) (w ∷ ws) same =
        ap (λ (b : Bool). fold (λ a x. a + cond (p x) 1 0) (n + cond b 1 0) vs) (each v w same.0)
        ∙ along (n + cond (p w) 1 0) vs ws same.1

-- machines are played in one way, and one log gives one report
pub record Ones : Type 0 where
  -- a script is played in one way
  pub played : ScriptsArePlayedInOneWay
  -- an audit of one log under one roster gives reports that are the same, or one refusal
  pub reports : (posts : List Post) (bytes : List ℕ) (answer other : Result AuditReport Refusal)
      → GivesAudit posts bytes answer → GivesAudit posts bytes other → Agree SameReport answer other

-- what is counted of reports that are the same is one demonstration
same_shown : (sent : ℕ) (report other : AuditReport) (a b : Demonstration) → SameReport report other →
    IsCounted sent report a → IsCounted sent other b → a ≡ b
same_shown sent report other a b same p q =
    let vs = report.verdicts in
    let ws = other.verdicts in
    let alike = same.verdicts in
    let survivors = p.survivors ∙ ap (λ g. length g.survivors) same.graph ∙ sym q.survivors in
    let gaps = p.gaps ∙ ap (λ g. length g.gaps) same.graph ∙ sym q.gaps in
    let kept = same_count is_kept (λ v w e. (one_count v w e).kept) vs ws alike in
    let broken = same_count is_broken (λ v w e. (one_count v w e).broken) vs ws alike in
    let unsettled = same_count is_unsettled (λ v w e. (one_count v w e).unsettled) vs ws alike in
    (λ i. record {
      entries = (p.entries ∙ sym q.entries) i;
      survivors = survivors i;
      gaps = gaps i;
      kept = (p.kept ∙ kept ∙ sym q.kept) i;
      broken = (p.broken ∙ broken ∙ sym q.broken) i;
      unsettled = (p.unsettled ∙ unsettled ∙ sym q.unsettled) i;
      outcome = (p.outcome ∙ same.outcome ∙ sym q.outcome) i;
    })

module _ (ones : Ones) (script : Script) (session : ℕ) where
  -- two audits are of one log, and so they agree
  audits_agree : (machines others : List MachineState) (p q : Result AuditReport Refusal) →
      IsAudited script session machines p → IsAudited script session others q → Agree SameReport p q
  audits_agree machines others p q x y =
      let same = ones.played script machines others x.played y.played in
      let P : List MachineState → Type 0 = λ ms. IsKeptOf session 0 (history (world_of ms) 0) y.bytes in
      let bytes : x.bytes ≡ y.bytes = one_kept session (history (world_of machines) 0) 0 x.bytes y.bytes x.kept
      (subst P (sym same) y.kept) in
      ones.reports (roster_of script) x.bytes p q x.gives
      (subst (λ bs. GivesAudit (roster_of script) bs q) (sym bytes) y.gives)

  -- a script and a session have one demonstration
  pub one_shown : (shown other : Demonstration) → IsDemonstrationOf script session shown →
      IsDemonstrationOf script session other → shown ≡ other
  one_shown shown other x y =
      let same = ones.played script x.machines y.machines x.audited.played y.audited.played in
      same_shown (length (sent_in (world_of x.machines))) x.report y.report shown other
      (audits_agree x.machines y.machines (Ok x.report) (Ok y.report) x.audited y.audited) x.counted
      (rw same y.counted)

  -- there is one refusal
  pub one_refusal : (refusal other : Refusal) → IsRefusedSo script session refusal → IsRefusedSo script session other →
      refusal ≡ other
  one_refusal refusal other (machines, x) (others, y) = audits_agree machines others (Err refusal) (Err other) x y

  -- a script's audit doesn't both give a report and have a refusal
  pub not_both : (machines : List MachineState) (report : AuditReport) (refusal : Refusal) →
      IsAudited script session machines (Ok report) → IsRefusedSo script session refusal → ⊥
  not_both machines report refusal x (others, y) = audits_agree machines others (Ok report) (Err refusal) x y
