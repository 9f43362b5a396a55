-- What `demo` answers of the machines of a script that have played.
use Rattle.auditorium_core.proofs.Imports
use Imports.{[], All-cons, All-nil, Answer, ap, arith, AuditReport, audits_are_refused_only_so, Bool, codes, cond}
use Imports.{Contains, Contains-head, Contains-later, count_by, Demonstration, demonstration_answer, Distinct, Err}
use Imports.{false, Fault, generated, given_is_sound, GivesDemonstration, HasLeft, history, IfOk, IfSome, inl}
use Imports.{InputFault, inr, is_broken, is_unsettled, IsAnswerOfFault, IsAnswerOfShown, IsDemonstrationAnswer}
use Imports.{IsHalfOf, IsLawful, IsLeftIn, IsPlayed, IsSomeAnd, KeepOrder, kept_is_left, length, length-map, List}
use Imports.{machine_of, MachineState, nil_from_length, node_of_sealed, None, not_absent, Ok, one_order, one_play}
use Imports.{only_broken, Option, refl, Refusal, refusal_of, refused_or, reports_say_none_broken, Result, roster_of}
use Imports.{roster_tree, SaysNoneBroken, Script, scripts_are_honest, sent_in, Some, some_machine, standard}
use Imports.{standard_rules, sum_by-cons, sym, TellsNoneBroken, text_of, Verdict, world_of, ℕ, ◌+◌, ◌∙◌, ◌∷◌, ◌≡◌, ◌≢◌}
use Rattle.demonstration.specs.Kept.{IsKeptOf}
use Rattle.demonstration.specs.Shown.{is_kept, IsAudited, IsDemonstrationOf, IsRefusedSo, log_name}
use Rattle.rule_engine.specs.declared.verdict.Verdict.TheVariants as verdict
use Rattle.command_line.specs.declared.status.Status.TheVariants as status

-- what no verdict is, none is counted as
none_counted : (is : Verdict → Bool) (verdicts : List Verdict) →
    ((v : Verdict) → Contains verdicts v → is v ≡ false) → count_by is verdicts ≡ 0
none_counted is [] none = refl
none_counted is (v ∷ verdicts) none =
    let here = ap {B = ℕ} (λ (b : Bool). cond b 1 0) (none v (Contains-head v verdicts)) in
    let later = none_counted is verdicts (λ u inside. none u (Contains-later v verdicts u inside)) in
    omega (arith, here, later, sum_by-cons (λ (u : Verdict). cond (is u) 1 0) v verdicts)

-- each verdict is counted once
one_counted : (v : Verdict) → cond (is_kept v) 1 0 + cond (is_broken v) 1 0 + cond (is_unsettled v) 1 0 ≡ 1
one_counted verdict.Kept = refl
one_counted (verdict.Broken places) = refl
one_counted verdict.Unsettled = refl

-- so those that are kept, broken and unsettled are all verdicts
all_counted : (verdicts : List Verdict) →
    count_by is_kept verdicts + count_by is_broken verdicts + count_by is_unsettled verdicts ≡ length verdicts
all_counted [] = refl
all_counted (v ∷ verdicts) =
    let more = λ (is : Verdict → Bool). sum_by-cons (λ (u : Verdict). cond (is u) 1 0) v verdicts in
    omega (arith, one_counted v, all_counted verdicts, more is_kept, more is_broken, more is_unsettled)

-- any other verdict isn't counted as unsettled
not_unsettled : (v : Verdict) → v ≢ verdict.Unsettled → is_unsettled v ≡ false
not_unsettled verdict.Unsettled other = absurd (other refl)
not_unsettled verdict.Kept other = refl
not_unsettled (verdict.Broken places) other = refl

-- where no rule is broken, so is what is shown
module _ (report : AuditReport) (says : SaysNoneBroken report) where
  -- no verdict is counted as broken
  none_broken : count_by is_broken report.verdicts ≡ 0
  none_broken = none_counted is_broken report.verdicts says.verdicts

  -- so each of the standard rules is counted as kept or as unsettled
  kept_or_unsettled : count_by is_kept report.verdicts + count_by is_unsettled report.verdicts ≡ length standard_rules
  kept_or_unsettled = omega (arith, all_counted report.verdicts, none_broken, says.one_each)

  -- and where there is no gap, none is unsettled
  unsettled_by_gap : length report.graph.gaps ≡ 0 → count_by is_unsettled report.verdicts ≡ 0
  unsettled_by_gap none =
      none_counted is_unsettled report.verdicts (λ v inside. not_unsettled v (λ is.
      says.unsettled (rw is at inside) (nil_from_length report.graph.gaps none)))

module _ (script : Script) (lawful : IsLawful script) (session : ℕ) (machines : List MachineState)
    (played : IsPlayed script machines) where
  -- the file of the script's roster
  abbrev roster : Option (List ℕ)
  roster = Some (text_of (roster_tree (roster_of script)))

  -- the script's roster and what is kept of the first machine's log are left of the place to which
  -- the machines come
  has_left : (bytes : List ℕ) → IsKeptOf session 0 (history (world_of machines) 0) bytes →
      HasLeft script (world_of machines) roster (Some bytes ∷ [])
  has_left bytes kept =
      let left : IsLeftIn (world_of machines) bytes = (
        0,
        omega (arith, some_machine script lawful machines played, length-map machines machine_of),
        kept_is_left session 0 (history (world_of machines) 0) bytes kept,
      ) in
      let P : Option (List ℕ) → Type 0 = λ file. IsSomeAnd file (IsLeftIn (world_of machines)) in
      record {
        roster = record { steps = script.steps; lawful = lawful; comes = played.played; text = refl };
        logs = All-cons P (Some bytes) [] left (All-nil P);
      }

  -- in the world of the machines the order of entries is that of receipt
  keep_order : KeepOrder machines
  keep_order apart =
      one_order node_of_sealed (world_of machines)
      (scripts_are_honest script lawful script.steps (world_of machines) played.played).orderly apart

  module _ (apart : Distinct node_of_sealed (sent_in (world_of machines))) where
    -- a report on what is kept says of no rule that it is broken
    unbroken_here : (report : AuditReport) → IsAudited script session machines (Ok report) → SaysNoneBroken report
    unbroken_here report audited =
        reports_say_none_broken script (world_of machines) roster (Some audited.bytes ∷ [])
        (has_left audited.bytes audited.kept) apart (codes "roster") (log_name ∷ []) report audited.gives

    -- the audit of what is kept isn't refused
    never_refused : (refusal : Refusal) → ¬ IsAudited script session machines (Err refusal)
    never_refused refusal audited =
        audits_are_refused_only_so script (world_of machines) roster (Some audited.bytes ∷ [])
        (has_left audited.bytes audited.kept) apart (codes "roster") standard None (log_name ∷ []) refusal
        audited.gives

module _ (sessions : ℕ) (lawful : IsLawful (generated sessions)) (half : ℕ) (answer : Answer)
    (machines : List MachineState) (played : IsPlayed (generated sessions) machines)
    (apart : Distinct node_of_sealed (sent_in (world_of machines))) where
  -- the machines of an audit are those that have played
  of_these : (others : List MachineState) (result : Result AuditReport Refusal) →
      IsAudited (generated sessions) half others result → IsAudited (generated sessions) half machines result
  of_these others result audited = rw (one_play (generated sessions) others machines audited.played played) at audited

  -- what is counted of a report says that no rule is broken
  is_unbroken : (shown : Demonstration) → IsDemonstrationOf (generated sessions) half shown →
      answer ≡ demonstration_answer sessions shown → TellsNoneBroken sessions half answer
  is_unbroken shown is told =
      let report = is.report in
      let audited = of_these is.machines (Ok report) is.audited in
      let says = unbroken_here (generated sessions) lawful half machines played apart report audited in
      let counted = is.counted in
      record {
        shown = shown;
        right = is;
        told = told;
        none_broken = counted.broken ∙ none_broken report says;
        each = omega (arith, counted.kept, counted.unsettled, kept_or_unsettled report says);
        unsettled = λ none. counted.unsettled ∙ unsettled_by_gap report says (sym counted.gaps ∙ none);
        not_broken = λ e. says.outcome (sym counted.outcome
            ∙ only_broken shown.outcome (sym (ap (λ (a : Answer). a.status) told) ∙ e));
      }

  -- each answer is that of what is shown, since the audit isn't refused
  honest_here : IsAnswerOfShown sessions half answer → TellsNoneBroken sessions half answer
  honest_here (inl (refusal, (others, is), told)) =
      absurd (never_refused (generated sessions) lawful half machines played apart refusal
      (of_these others (Err refusal) is))
  honest_here (inr (shown, is, told)) = is_unbroken shown is told

module _ (sessions half : ℕ) (script : Script) (same : script ≡ generated sessions) (lawful : IsLawful script)
    (is_half : IsHalfOf sessions half) where
  -- the script of the day is lawful
  day_lawful : IsLawful (generated sessions)
  day_lawful = rw same at lawful

  -- each answer of what the generated script shows is one of `demo`
  of_shown : (answer : Answer) → IsAnswerOfShown sessions half answer → IsDemonstrationAnswer sessions answer
  of_shown answer right = record {
    half = half;
    is_half = is_half;
    right = right;
    order = λ machines played. keep_order (generated sessions) day_lawful half machines played;
    sound = λ machines report audited.
        given_is_sound (codes "roster") standard (log_name ∷ [])
        (Some (text_of (roster_tree (roster_of (generated sessions)))) ∷ Some audited.bytes ∷ []) report audited.gives;
    honest = λ machines played apart. honest_here sessions day_lawful half answer machines played apart right;
  }

  -- what is shown is answered
  pub shown_told : (shown : Demonstration) (answer : Answer) → IsDemonstrationOf script half shown →
      answer ≡ demonstration_answer sessions shown → IsDemonstrationAnswer sessions answer
  shown_told shown answer is told = of_shown answer (inr (shown, rw same at is, told))

  -- a refusal of the kept log is answered
  pub refusal_told : (fault : InputFault) (result : Result Answer Fault) →
      IfSome (refusal_of fault) (IsRefusedSo script half) → IfOk result (IsAnswerOfFault fault) →
      IfOk result (IsDemonstrationAnswer sessions)
  refusal_told fault (Ok answer) so told =
      of_shown answer (refused_or {E = Fault} (GivesDemonstration (generated sessions) half)
      (λ shown told. told ≡ demonstration_answer sessions shown) fault (Ok answer) told (rw same at so))
  refusal_told fault (Err why) so told = tt

-- what is shown isn't answered as an absent file is
pub shown_not_absent : (sessions : ℕ) (shown : Demonstration) (answer : Answer) →
    answer ≡ demonstration_answer sessions shown → answer.status ≢ status.Absent
shown_not_absent sessions shown answer told =
    not_absent shown.outcome answer.status (ap (λ (a : Answer). a.status) told)
