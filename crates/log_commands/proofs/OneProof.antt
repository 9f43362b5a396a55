-- Files give at most one proof to write, and at most one report of a check.
use Rattle.log_commands.proofs.Imports
use Imports.{[], absent, Agree, agree_equal, AllZip-map, AndThen, ap, append_cancel_right, AreChecked, arith, At}
use Imports.{CheckReport, ChecksFiles, ChecksLines, ChecksLogs, ChecksProof, ChecksRules, codes, entries_of, EntryGraph}
use Imports.{Err, false, false≢true, first_then_one, GivesCheck, GivesChecked, GivesGraph, GivesLogs, GivesMade}
use Imports.{GivesProof, GivesText, Graph, graph_then_one, inl, inr, is_too_wide, IsCanonicalText, IsOne, IsReadAnswer}
use Imports.{last_at, length, length-append, Line, List, LogRead, logs_then_one, map, max_proof, nodes_of, None, Ok}
use Imports.{one_place, Ones, OneTextIsCanonical, Option, Post, proof_why_word, ProofFault, ProofMade, ProvesFiles}
use Imports.{ProvesLogs, refl, Refusal, refused, Result, roster_then_one, RosterRead, Row, row_of, rules_then_one}
use Imports.{RulesAreReadInOneWay, RuleSource, RuleTree, same_Some, SealedEntry, slice_get, Some, source_word, subst}
use Imports.{suc, sym, TextsAreReadInOneWay, too_long, zero, ℕ, ◌++◌, ◌<◌, ◌∙◌, ◌∷◌, ◌≡◌, ◌≢◌, ◌≤◌, ◌⊎◌}
use Rattle.log_commands.proofs.{OneOrderAnswer.OrderOne, Zips.zip_weaker}
use Rattle.audit_proof.specs.{declared.fault.ProofFault.TheVariants.Memory, declared.fault.Verdict.Verdict}

-- a proof is written and read in one way
pub record ProofOne : Type 0 where
  -- a graph has one canonical text
  pub canonical : OneTextIsCanonical
  -- and a text is read in one way
  pub read : TextsAreReadInOneWay
  -- a text of rules is read in one way
  pub rules : RulesAreReadInOneWay

-- what files give is one
pub ones_of : OrderOne → RulesAreReadInOneWay → Ones
ones_of order readings = record {
  rosters = order.roster;
  readings = readings;
  logs = order.logs;
  graphs = order.graph;
}

-- ---- what is written

-- a graph gives one text
one_text : ProofOne → (name : List ℕ) (given : List SealedEntry) (g : EntryGraph SealedEntry) →
    GivesGraph given (Ok g) → IsOne (λ m n. m ≡ n) (GivesText name (nodes_of g))
one_text one name given g is = by
  where
    -- its canonical text
    same : (a b : List ℕ) → IsCanonicalText (nodes_of g) a → IsCanonicalText (nodes_of g) b → a ≡ b
    same a b of_a of_b = (one.canonical (nodes_of g) is.2.kept.linked.arrows.descends).1 a b of_a of_b

    by : (p q : Result ProofMade Refusal) → GivesText name (nodes_of g) p → GivesText name (nodes_of g) q →
        Agree (λ m n. m ≡ n) p q
    by (Ok m) (Ok n) (count, text, fits) (count', text', fits') = λ i. record {
      entries = (count ∙ sym count') i;
      text = same m.text n.text text text' i;
    }
    by (Ok m) (Err s) (count, text, fits) (other, text', long, e) =
        absurd (omega (arith, ap length (same m.text other text text')))
    by (Err r) (Ok n) (other, text, long, e) (count, text', fits) =
        absurd (omega (arith, ap length (same other n.text text text')))
    by (Err r) (Err s) (text, is, long, e) (text', is', long', f) = e ∙ sym f

-- files give one proof, or one refusal
pub one_made : OrderOne → ProofOne → (roster proof : List ℕ) (names : List (List ℕ)) (files : List (Option (List ℕ))) →
    IsOne (λ m n. m ≡ n) (GivesMade roster proof names files)
one_made order one roster proof names =
    let ones = ones_of order one.rules in
    let Same : ProofMade → ProofMade → Type 0 = λ m n. m ≡ n in
    roster_then_one ones Same roster (λ read files. ProvesFiles read proof names files)
    (λ read files. logs_then_one ones Same read names files (ProvesLogs proof)
    (λ logs. graph_then_one ones Same (entries_of logs) (λ g. GivesText proof (nodes_of g))
    (one_text one proof (entries_of logs))))

-- ---- what is checked

-- what a file gives by what is answered of its bytes, unless memory runs out
abbrev said : List ℕ → Result (List Line) ProofFault → Result (List Line) Refusal
said name (Ok lines) = Ok lines
said name (Err (At n why)) = Err (refused name n (proof_why_word why))
said name (Err Memory) = Err (absent name)

-- its bytes are too many, or this is answered of them
abbrev IsSaid : List ℕ → Graph → List ℕ → Result (List Line) Refusal → Type 0
IsSaid name graph bytes p =
    ((max_proof < length bytes) × (p ≡ Err (too_long name)))
    ⊎ ((length bytes ≤ max_proof) × ((a : Result (List Line) ProofFault) × IsReadAnswer graph bytes a
    × (a ≢ Err Memory) × (p ≡ said name a)))

is_said : (name : List ℕ) (graph : Graph) (bytes : List ℕ) (p : Result (List Line) Refusal) →
    GivesProof name graph (Some bytes) p → IsSaid name graph bytes p
is_said name graph bytes (Ok lines) (fits, read) = inr (fits, (Ok lines, read, λ e. cc, refl))
is_said name graph bytes (Err r) (inl (long, e)) = inl (long, ap Err e)
is_said name graph bytes (Err r) (inr (fits, (n, why, read, e))) =
    inr (fits, (Err (At n why), read, λ e. cc, ap Err e))

-- a proof's file gives one answer
one_proof : ProofOne → (name : List ℕ) (graph : Graph) → graph.count ≤ 16384 → (file : Option (List ℕ))
    (p q : Result (List Line) Refusal) → GivesProof name graph file p → GivesProof name graph file q → p ≡ q
one_proof one name graph few None p q x y = x ∙ sym y
one_proof one name graph few (Some bytes) p q x y = by (is_said name graph bytes p x) (is_said name graph bytes q y)
  where
    by : IsSaid name graph bytes p → IsSaid name graph bytes q → p ≡ q
    by (inl (long, e)) (inl (_, f)) = e ∙ sym f
    by (inl (long, e)) (inr (fits, _)) = absurd (omega (arith, long, fits))
    by (inr (fits, _)) (inl (long, f)) = absurd (omega (arith, long, fits))
    by (inr (_, (a, read, known, e))) (inr (_, (b, also, known', f))) =
        e ∙ ap (said name) (one.read graph few bytes a b read known also known') ∙ sym f

-- rules that were checked aren't too wide
pub checked_is_narrow : (rows : List Row) (graph : Graph) (lines : List Line) (rules : List RuleTree)
    (verdicts : List Verdict) (k : ℕ) (rule : RuleTree) → AreChecked rows graph lines rules verdicts →
    slice_get rules k ≡ Some rule → is_too_wide rows rule.body 1 ≡ false
checked_is_narrow rows graph lines [] verdicts k rule are at = cc
checked_is_narrow rows graph lines (r ∷ rules) [] k rule are at = absurd are
checked_is_narrow rows graph lines (r ∷ rules) (v ∷ vs) zero rule are at =
    subst (λ (tree : RuleTree). is_too_wide rows tree.body 1 ≡ false) (same_Some r rule at) are.0.0
checked_is_narrow rows graph lines (r ∷ rules) (v ∷ vs) (suc k) rule are at =
    checked_is_narrow rows graph lines rules vs k rule are.1 at

-- rules give one answer
one_checked : (source : RuleSource) (rows : List Row) (graph : Graph) (lines : List Line) (rules : List RuleTree)
    (p q : Result (List Verdict) Refusal) → GivesChecked source rows graph lines rules p →
    GivesChecked source rows graph lines rules q → p ≡ q
one_checked source rows graph lines rules (Ok vs) (Ok ws) a b =
    ap Ok (AllZip-map _ rules vs (zip_weaker _ _ (λ r v checked. checked.1) rules vs a)
    ∙ sym (AllZip-map _ rules ws (zip_weaker _ _ (λ r w checked. checked.1) rules ws b)))
one_checked source rows graph lines rules (Ok vs) (Err s) a (place, first, e) =
    absurd (false≢true (sym (checked_is_narrow rows graph lines rules vs place first.rule a first.stands)
    ∙ first.too_wide))
one_checked source rows graph lines rules (Err r) (Ok ws) (place, first, e) b =
    absurd (false≢true (sym (checked_is_narrow rows graph lines rules ws place first.rule b first.stands)
    ∙ first.too_wide))
one_checked source rows graph lines rules (Err r) (Err s) (place, first, e) (other, second, f) =
    ap Err (e ∙ ap (λ (n : ℕ). refused (source_word source) n (codes "TooWide"))
    (one_place rows rules place other first second) ∙ sym f)

module _ (ones : Ones) (one : ProofOne) (machines : List Post) (source : RuleSource) (rules : List RuleTree)
    (proof : List ℕ) where
  -- what logs give with one file of a proof
  one_by_logs : (file : Option (List ℕ)) (logs : List LogRead) →
      IsOne (λ r s. r ≡ s) (ChecksLogs machines source rules proof file logs)
  one_by_logs file logs =
      let Same : CheckReport → CheckReport → Type 0 = λ r s. r ≡ s in
      graph_then_one ones Same (entries_of logs) (ChecksProof machines source rules proof file)
      (λ g is. first_then_one Same (GivesProof proof (nodes_of g) file) (ChecksLines machines source rules g)
      (one_proof one proof (nodes_of g) is.2.kept.few file)
      (λ lines read. first_then_one Same
      (GivesChecked source (map (row_of machines) g.survivors) (nodes_of g) lines rules) _
      (one_checked source (map (row_of machines) g.survivors) (nodes_of g) lines rules)
      (λ verdicts judged p q x y. agree_equal p q (x ∙ sym y))))

-- lists with one more at the end are one where both parts are
pub same_ends : {X : Type 0} (xs ys : List X) (x y : X) → xs ++ x ∷ [] ≡ ys ++ y ∷ [] → (xs ≡ ys) × (x ≡ y)
same_ends xs ys x y e =
    let long : length xs ≡ length ys =
    omega (arith, ap length e, length-append xs (x ∷ []), length-append ys (y ∷ [])) in
    let last : x ≡ y = same_Some x y (sym (last_at xs x) ∙ (λ i. slice_get (e i) (long i)) ∙ last_at ys y) in
    (append_cancel_right xs ys (y ∷ []) (ap (λ z. xs ++ z ∷ []) (sym last) ∙ e), last)

-- by the files of logs and of a proof
one_by_files : Ones → ProofOne → (read : RosterRead) (source : RuleSource) (rules : List RuleTree)
    (proof : List ℕ) (names : List (List ℕ)) (files : List (Option (List ℕ))) →
    IsOne (λ r s. r ≡ s) (ChecksFiles read source rules proof names files)
one_by_files ones one read source rules proof names files p q (fs, last, e, x) (others, end, f, y) =
    let (front, ends) = same_ends fs others last end (sym e ∙ f) in
    logs_then_one ones (λ r s. r ≡ s) read names fs (ChecksLogs read.roster.machines source rules proof last)
    (one_by_logs ones one read.roster.machines source rules proof last) p q x
    (coe 1 0 (i. AndThen (GivesLogs read.roster.machines read.election names (front i))
    (ChecksLogs read.roster.machines source rules proof (ends i)) q) y)

-- files give one report of a check, or one refusal
pub one_check : OrderOne → ProofOne → (roster : List ℕ) (source : RuleSource) (proof : List ℕ) (names : List (List ℕ))
    (files : List (Option (List ℕ))) → IsOne (λ r s. r ≡ s) (GivesCheck roster source proof names files)
one_check order one roster source proof names =
    let ones = ones_of order one.rules in
    let Same : CheckReport → CheckReport → Type 0 = λ r s. r ≡ s in
    roster_then_one ones Same roster (λ read. ChecksRules read source proof names)
    (λ read. rules_then_one Same one.rules source (λ rules files. ChecksFiles read source rules proof names files)
    (λ rules. one_by_files ones one read source rules proof names))
