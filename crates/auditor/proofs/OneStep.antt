-- Steps one after another give one answer where each of them does.
use Rattle.auditor.proofs.Imports.{[], Agree, AndThen, arith, At, Contents, EntriesGiveOneGraph, EntryGraph, Err}
use Rattle.auditor.proofs.Imports.{FileThen, GivesGraph, GivesLogs, GivesRoster, GivesRules, in_file, inl, inr, List}
use Rattle.auditor.proofs.Imports.{LogFilesGiveOneAnswer, LogRead, None, Ok, Option, Reads, refl, Refusal, Result}
use Rattle.auditor.proofs.Imports.{RosterFilesGiveOneAnswer, RosterRead, RuleFault, RuleSource, RulesThen, RuleTree}
use Rattle.auditor.proofs.Imports.{SealedEntry, Some, standard, standard_rules, sym, ℕ, ◌∙◌, ◌∷◌, ◌≡◌}

-- what is given is one answer, up to what is the same
abbrev pub IsOne : {T : Type 0} → (T → T → Type 0) → (Result T Refusal → Type 0) → Type 0
IsOne {T} Same Gives = (p q : Result T Refusal) → Gives p → Gives q → Agree Same p q

-- equal answers agree
pub agree_equal : {T : Type 0} (p q : Result T Refusal) → p ≡ q → Agree (λ (x y : T). x ≡ y) p q
agree_equal (Ok x) q e = rw (← e) refl
agree_equal (Err r) q e = rw (← e) refl

module _ {A B : Type 0} (First Other : Result A Refusal → Type 0) (Next Later : A → Result B Refusal → Type 0)
    (SameFirst : A → A → Type 0) (Same : B → B → Type 0)
    (first : (a b : Result A Refusal) → First a → Other b → Agree SameFirst a b)
    (next : (x y : A) → First (Ok x) → Other (Ok y) → SameFirst x y → (p q : Result B Refusal) → Next x p →
    Later y q → Agree Same p q) where
  -- two answers of steps one after another agree where those of each step do
  pub steps_agree : (p q : Result B Refusal) → AndThen First Next p → AndThen Other Later q → Agree Same p q
  steps_agree p q (inl (x, is, n)) (inl (y, also, m)) = next x y is also (first (Ok x) (Ok y) is also) p q n m
  steps_agree p q (inl (x, is, n)) (inr (s, also, f)) = absurd (first (Ok x) (Err s) is also)
  steps_agree p q (inr (r, is, e)) (inl (y, also, m)) = absurd (first (Err r) (Ok y) is also)
  steps_agree p q (inr (r, is, e)) (inr (s, also, f)) = rw (e, f) (first (Err r) (Err s) is also)

-- what is answered at the end is one where what it is made of is the same
pub ends_agree : {T : Type 0} (Same : T → T → Type 0) (x y : T) → Same x y → (p q : Result T Refusal) → p ≡ Ok x →
    q ≡ Ok y → Agree Same p q
ends_agree Same x y same p q e f = rw (e, f) same

-- a text of rules is read in one way
abbrev pub RulesAreReadInOneWay : Type 0
RulesAreReadInOneWay =
    (text : List ℕ) (answer other : Result (List RuleTree) RuleFault) → Reads text answer → Reads text other →
    answer ≡ other

module _ (one : RulesAreReadInOneWay) (name : List ℕ) where
  -- so a file of rules gives one answer
  pub one_rules : (file : Option (List ℕ)) (a b : Result (List RuleTree) Refusal) → GivesRules name file a →
      GivesRules name file b → a ≡ b
  one_rules None a b x y = x ∙ sym y
  one_rules (Some bytes) (Ok rules) (Ok others) (_, read) (_, also) =
      let same = one bytes (Ok rules) (Ok others) read also in cc
  one_rules (Some bytes) (Ok rules) (Err s) (fits, _) (inl (long, _)) = absurd (omega arith)
  one_rules (Some bytes) (Ok rules) (Err s) (_, read) (inr (_, (at, why, first, e))) =
      let same = one bytes (Ok rules) (Err (At at why)) read first in cc
  one_rules (Some bytes) (Err r) (Ok others) (inl (long, _)) (fits, _) = absurd (omega arith)
  one_rules (Some bytes) (Err r) (Ok others) (inr (_, (at, why, first, e))) (_, read) =
      let same = one bytes (Ok others) (Err (At at why)) read first in cc
  one_rules (Some bytes) (Err r) (Err s) (inl (_, is)) (inl (_, also)) = cc
  one_rules (Some bytes) (Err r) (Err s) (inl (long, _)) (inr (fits, _)) = absurd (omega arith)
  one_rules (Some bytes) (Err r) (Err s) (inr (fits, _)) (inl (long, _)) = absurd (omega arith)
  one_rules (Some bytes) (Err r) (Err s) (inr (_, (at, why, first, e))) (inr (_, (at', why', first', e'))) =
      let same = one bytes (Err (At at why)) (Err (At at' why')) first first' in cc

module _ {B : Type 0} (Same : B → B → Type 0) where
  -- a step with one answer and the next one give one answer
  pub first_then_one : {A : Type 0} (First : Result A Refusal → Type 0) (Next : A → Result B Refusal → Type 0) →
      ((a b : Result A Refusal) → First a → First b → a ≡ b) →
      ((found : A) → First (Ok found) → IsOne Same (Next found)) → IsOne Same (AndThen First Next)
  first_then_one First Next first next =
      steps_agree First First Next Next (λ x y. x ≡ y) Same (λ a b x y. agree_equal a b (first a b x y))
      (λ f g is also same a b left right. next f is a b left (rw same right))

  -- a step on the first file and the next one give one answer
  pub file_then_one : {A : Type 0} (First : Option (List ℕ) → Result A Refusal → Type 0)
      (Next : A → Contents → Result B Refusal → Type 0) →
      ((file : Option (List ℕ)) (a b : Result A Refusal) → First file a → First file b → a ≡ b) →
      ((found : A) (files : Contents) → IsOne Same (Next found files)) →
      (files : Contents) → IsOne Same (FileThen First Next files)
  file_then_one First Next first next [] p q x y = absurd x
  file_then_one First Next first next (file ∷ files) p q x y =
      first_then_one (First file) (λ found. Next found files) (first file) (λ found is. next found files) p q x y

  -- the rules and the next step give one answer
  pub rules_then_one : RulesAreReadInOneWay → (source : RuleSource)
      (Next : List RuleTree → Contents → Result B Refusal → Type 0) →
      ((rules : List RuleTree) (files : Contents) → IsOne Same (Next rules files)) →
      (files : Contents) → IsOne Same (RulesThen source Next files)
  rules_then_one one standard Next next files p q x y = next standard_rules files p q x y
  rules_then_one one (in_file name) Next next files p q x y =
      file_then_one (GivesRules name) Next (one_rules one name) next files p q x y

-- what files give is one
pub record Ones : Type 0 where
  -- a roster's file gives one answer
  pub rosters : RosterFilesGiveOneAnswer
  -- a text of rules is read in one way
  pub readings : RulesAreReadInOneWay
  -- the files of logs give one list of logs, or one refusal
  pub logs : LogFilesGiveOneAnswer
  -- given entries have one graph, or one refusal
  pub graphs : EntriesGiveOneGraph

module _ (ones : Ones) {B : Type 0} (Same : B → B → Type 0) where
  -- a roster and the next step give one answer
  pub roster_then_one : (roster : List ℕ) (Next : RosterRead → Contents → Result B Refusal → Type 0) →
      ((read : RosterRead) (files : Contents) → IsOne Same (Next read files)) →
      (files : Contents) → IsOne Same (FileThen (GivesRoster roster) Next files)
  roster_then_one roster Next next = file_then_one Same (GivesRoster roster) Next (ones.rosters roster) next

  -- logs and the next step give one answer
  pub logs_then_one : (read : RosterRead) (names : List (List ℕ)) (files : Contents)
      (Next : List LogRead → Result B Refusal → Type 0) → ((logs : List LogRead) → IsOne Same (Next logs)) →
      IsOne Same (AndThen (GivesLogs read.roster.machines read.election names files) Next)
  logs_then_one read names files Next next =
      first_then_one Same (GivesLogs read.roster.machines read.election names files) Next
      (ones.logs read.roster.machines read.election names files) (λ logs is. next logs)

  -- entries, by their graph, and the next step give one answer
  pub graph_then_one : (given : List SealedEntry) (Next : EntryGraph SealedEntry → Result B Refusal → Type 0) →
      ((graph : EntryGraph SealedEntry) → GivesGraph given (Ok graph) → IsOne Same (Next graph)) →
      IsOne Same (AndThen (GivesGraph given) Next)
  graph_then_one given Next = first_then_one Same (GivesGraph given) Next (ones.graphs given)
